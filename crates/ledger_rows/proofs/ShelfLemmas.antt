-- What a change of a lane or of a number makes of the shelves.
use Rattle.std.proofs.Common.{◌≡◌, ℕ, ◌+◌, ◌-◌, ◌*◌, ◌/◌, ◌%◌, ◌≤◌, ◌<◌, ◌==◌, ◌≢◌, Bool, true, false, cond, List, [], ◌∷◌, ◌++◌, length, length-append, get_or, slice_index, sym, ap, ◌∙◌, subst, inl, inr, arith, Some, None}
use Rattle.std.specs.Prelude.{IsSome, is_some}
use Rattle.std.specs.List.{All}
use Rattle.sched_plain.specs.declared.entry.Filed.{Filed}
use Rattle.std.proofs.lemmas.Bool.{cases_eq, cases_lt, eq-eqb, ne_eqb}
use Rattle.std.proofs.lemmas.List.{get_or_past, get_or_append_left}
use Rattle.std.proofs.Math.Seq.{get_or-append_seam}
use Rattle.min_tree.specs.Numbers.{Numbers}
use Rattle.min_tree.specs.Search.{IsFirstAtMost, AllAbove}
use Rattle.min_tree.specs.declared.nodes.TheConstants.{ABOVE_ALL}
use Rattle.plain_words.specs.Ids.{shard_of}
use Rattle.plain_words.specs.declared.limits.TheConstants.{SHARDS}
use Rattle.ledger_rows.specs.declared.question.Question.TheVariants as questions
use Rattle.entry_lines.specs.Rows.{Row, LaneRows}
use Rattle.ledger_rows.specs.Numbers.{bound_at, lane_number}
use Rattle.ledger_rows.specs.Rows.{IsSmallRow, filed_at}
use Rattle.ledger_rows.specs.Shelves.{AreShelved, AreSameShelves, HasPlace, IsLonger, no_numbers, number_there, shelf}
use Rattle.ledger_rows.specs.State.{RowsAre, filed_in, lane_of, no_lane, same_rows}
use Rattle.ledger_rows.specs.Wanting.{IsFirstIn, IsFirstOf, answers}
use Rattle.ledger_rows.proofs.NumberLemmas.{none_due}

-- a tree more, with no numbers
pub same_pushed : (trees now : List Numbers) (tree : Numbers) → AreSameShelves trees now → tree.values ≡ [] → AreSameShelves trees (now ++ tree ∷ [])
same_pushed trees now tree same none j = elim (cases_lt j (length now)) [
  | inl old ↦ ap {A = Numbers} (λ n. n.values) (get_or_append_left now (tree ∷ []) no_numbers j old) ∙ same j
  | inr new ↦
      let was : shelf now j ≡ [] = ap {A = Numbers} (λ n. n.values) (get_or_past now j no_numbers new) in
      elim (cases_eq j (length now)) [
        | inl last ↦
            ap {A = Numbers} (λ n. n.values) (ap (λ (k : ℕ). get_or (now ++ tree ∷ []) k no_numbers) last ∙ get_or-append_seam now tree [] no_numbers)
            ∙ none ∙ sym was ∙ same j
        | inr behind ↦
            let long : length (now ++ tree ∷ []) ≡ length now + 1 = length-append now (tree ∷ []) in
            ap {A = Numbers} (λ n. n.values) (get_or_past (now ++ tree ∷ []) j no_numbers (omega (arith, new, behind, long))) ∙ sym was ∙ same j
      ]
]

-- the same shelves tell the same
pub shelved_same : (lanes : List LaneRows) (old new : List Numbers) → AreSameShelves old new → AreShelved lanes old → AreShelved lanes new
shelved_same lanes old new same s = record {
  there = λ inc lt. subst (λ (l : List ℕ). inc / SHARDS < length l) (sym (same (shard_of inc))) (s.there inc lt);
  each = λ inc has.
      ap (λ (l : List ℕ). slice_index l (inc / SHARDS)) (same (shard_of inc)) ∙ s.each inc (subst (λ (l : List ℕ). inc / SHARDS < length l) (same (shard_of inc)) has);
  small = s.small;
}

-- a lane with no entries more tells nothing else
pub pushed_rows : (lanes : List LaneRows) (lane : LaneRows) → lane.rows ≡ [] → RowsAre lanes (lanes ++ lane ∷ []) same_rows
pushed_rows lanes lane none i = elim (cases_lt i (length lanes)) [
  | inl old ↦ ap {A = LaneRows} (λ r. r.rows) (get_or_append_left lanes (lane ∷ []) no_lane i old)
  | inr new ↦
      let was : (lane_of lanes i).rows ≡ [] = ap {A = LaneRows} (λ r. r.rows) (get_or_past lanes i no_lane new) in
      elim (cases_eq i (length lanes)) [
        | inl last ↦
            ap {A = LaneRows} (λ r. r.rows) (ap (λ (k : ℕ). get_or (lanes ++ lane ∷ []) k no_lane) last ∙ get_or-append_seam lanes lane [] no_lane) ∙ none ∙ sym was
        | inr behind ↦
            let long : length (lanes ++ lane ∷ []) ≡ length lanes + 1 = length-append lanes (lane ∷ []) in
            ap {A = LaneRows} (λ r. r.rows) (get_or_past (lanes ++ lane ∷ []) i no_lane (omega (arith, new, behind, long))) ∙ sym was
      ]
]

longer_here : (old new : List Numbers) (shard s : ℕ) → IsLonger old new shard → s ≡ shard → shelf new s ≡ shelf old s ++ ABOVE_ALL ∷ []
longer_here old new shard s longer e =
    let t : (s == shard) ≡ true = eq-eqb s shard e in
    longer s ∙ ap (λ (b : Bool). cond b (shelf old shard ++ ABOVE_ALL ∷ []) (shelf old s)) t ∙ ap (λ (k : ℕ). shelf old k ++ ABOVE_ALL ∷ []) (sym e)

longer_away : (old new : List Numbers) (shard s : ℕ) → IsLonger old new shard → s ≢ shard → shelf new s ≡ shelf old s
longer_away old new shard s longer e =
    let t : (s == shard) ≡ false = ne_eqb s shard e in
    longer s ∙ ap (λ (b : Bool). cond b (shelf old shard ++ ABOVE_ALL ∷ []) (shelf old s)) t

-- a lane more, with its place
pub shelved_longer : (lanes : List LaneRows) (old new : List Numbers) (lane : LaneRows) → AreShelved lanes old → IsLonger old new (length lanes % SHARDS) → lane.rows ≡ []
    → AreShelved (lanes ++ lane ∷ []) new
shelved_longer lanes old new lane s longer none = record {
  there = there;
  each = λ i has. elim (cases_lt (i / SHARDS) (length (shelf old (shard_of i)))) [
    | inl was ↦ kept i was ∙ s.each i was ∙ ap lane_number (sym (pushed_rows lanes lane none i))
    | inr fresh ↦ added i has fresh ∙ ap lane_number (sym (pushed_rows lanes lane none i ∙ empty i fresh))
  ];
  small = λ i. subst (λ (l : List Row). All IsSmallRow l) (sym (pushed_rows lanes lane none i)) (s.small i);
}
  where
    grown : (k : ℕ) → length (shelf old k) ≤ length (shelf new k)
    grown k = elim (cases_eq k (length lanes % SHARDS)) [
      | inl here ↦
          let l : length (shelf new k) ≡ length (shelf old k ++ ABOVE_ALL ∷ []) = ap {A = List ℕ} length (longer_here old new (length lanes % SHARDS) k longer here) in
          let m = length-append (shelf old k) (ABOVE_ALL ∷ []) in omega (arith, l, m)
      | inr away ↦
          let l : length (shelf new k) ≡ length (shelf old k) = ap {A = List ℕ} length (longer_away old new (length lanes % SHARDS) k longer away) in omega (arith, l)
    ]

    reached : (i : ℕ) → i ≡ length lanes → i / SHARDS ≤ length (shelf old (shard_of i))
    reached i e = elim (cases_lt i SHARDS) [
      | inl few ↦ omega (arith, few)
      | inr many ↦
          let before = s.there (i - SHARDS) (omega (arith, e, many)) in
          let same : length (shelf old (shard_of (i - SHARDS))) ≡ length (shelf old (shard_of i)) =
          ap (λ (k : ℕ). length (shelf old k)) (let f : shard_of (i - SHARDS) ≡ shard_of i = omega (arith, many) in f) in
          omega (arith, before, same, many)
    ]

    there : (i : ℕ) → i < length (lanes ++ lane ∷ []) → HasPlace new i
    there i lt =
        let long : length (lanes ++ lane ∷ []) ≡ length lanes + 1 = length-append lanes (lane ∷ []) in
        elim (cases_lt i (length lanes)) [
          | inl was ↦ let g = grown (shard_of i) in let w = s.there i was in omega (arith, g, w)
          | inr last ↦
              let e : i ≡ length lanes = omega (arith, last, lt, long) in
              let l : length (shelf new (shard_of i)) ≡ length (shelf old (shard_of i) ++ ABOVE_ALL ∷ []) =
              ap {A = List ℕ} length (longer_here old new (length lanes % SHARDS) (shard_of i) longer (ap shard_of e)) in
              let m = length-append (shelf old (shard_of i)) (ABOVE_ALL ∷ []) in
              let r = reached i e in omega (arith, l, m, r)
        ]

    kept : (i : ℕ) → HasPlace old i → number_there new i ≡ number_there old i
    kept i was = elim (cases_eq (shard_of i) (length lanes % SHARDS)) [
      | inl here ↦
          ap (λ (v : List ℕ). slice_index v (i / SHARDS)) (longer_here old new (length lanes % SHARDS) (shard_of i) longer here)
          ∙ get_or_append_left (shelf old (shard_of i)) (ABOVE_ALL ∷ []) 0 (i / SHARDS) was
      | inr away ↦ ap (λ (v : List ℕ). slice_index v (i / SHARDS)) (longer_away old new (length lanes % SHARDS) (shard_of i) longer away)
    ]

    empty : (i : ℕ) → length (shelf old (shard_of i)) ≤ i / SHARDS → (lane_of lanes i).rows ≡ []
    empty i fresh = elim (cases_lt i (length lanes)) [
      | inl was ↦ let w = s.there i was in absurd (omega (arith, w, fresh))
      | inr past ↦ ap {A = LaneRows} (λ r. r.rows) (get_or_past lanes i no_lane past)
    ]

    added : (i : ℕ) → HasPlace new i → length (shelf old (shard_of i)) ≤ i / SHARDS → number_there new i ≡ ABOVE_ALL
    added i has fresh = elim (cases_eq (shard_of i) (length lanes % SHARDS)) [
      | inl here ↦
          let l : length (shelf new (shard_of i)) ≡ length (shelf old (shard_of i) ++ ABOVE_ALL ∷ []) =
          ap {A = List ℕ} length (longer_here old new (length lanes % SHARDS) (shard_of i) longer here) in
          let m = length-append (shelf old (shard_of i)) (ABOVE_ALL ∷ []) in
          let last : i / SHARDS ≡ length (shelf old (shard_of i)) = omega (arith, has, fresh, l, m) in
          ap (λ (v : List ℕ). slice_index v (i / SHARDS)) (longer_here old new (length lanes % SHARDS) (shard_of i) longer here)
          ∙ ap (λ (k : ℕ). get_or (shelf old (shard_of i) ++ ABOVE_ALL ∷ []) k 0) last ∙ get_or-append_seam (shelf old (shard_of i)) ABOVE_ALL [] 0
      | inr away ↦
          let l : length (shelf new (shard_of i)) ≡ length (shelf old (shard_of i)) = ap {A = List ℕ} length (longer_away old new (length lanes % SHARDS) (shard_of i) longer away) in
          absurd (omega (arith, has, fresh, l))
    ]

-- the number of an incarnation with no lane is above every bound
no_lane_above : (lanes : List LaneRows) (inc now : ℕ) → length lanes ≤ inc → bound_at now < lane_number (lane_of lanes inc).rows
no_lane_above lanes inc now past =
    let e : lane_number (lane_of lanes inc).rows ≡ ABOVE_ALL = ap {A = LaneRows} (λ r. lane_number r.rows) (get_or_past lanes inc no_lane past) in omega (arith, e)

-- a number of the shelf that is reached is of an incarnation that has a lane
pub record Reached (lanes : List LaneRows) (shard now place : ℕ) : Type 0 where
  pub within : place * SHARDS + shard < length lanes
  pub reached : lane_number (lane_of lanes (place * SHARDS + shard)).rows ≤ bound_at now

pub at_place : (trees : List Numbers) (shard place : ℕ) → shard < SHARDS → place < length (shelf trees shard) → HasPlace trees (place * SHARDS + shard)
at_place trees shard place lt within =
    let s : shard_of (place * SHARDS + shard) ≡ shard = omega (arith, lt) in
    let p : (place * SHARDS + shard) / SHARDS ≡ place = omega (arith, lt) in
    let l : length (shelf trees (shard_of (place * SHARDS + shard))) ≡ length (shelf trees shard) = ap (λ (k : ℕ). length (shelf trees k)) s in
    omega (arith, within, p, l)

pub number_at_place : (trees : List Numbers) (shard place : ℕ) → shard < SHARDS → number_there trees (place * SHARDS + shard) ≡ slice_index (shelf trees shard) place
number_at_place trees shard place lt =
    let s : shard_of (place * SHARDS + shard) ≡ shard = omega (arith, lt) in
    let p : (place * SHARDS + shard) / SHARDS ≡ place = omega (arith, lt) in
    ap (λ (k : ℕ). slice_index (shelf trees k) ((place * SHARDS + shard) / SHARDS)) s ∙ ap (λ (k : ℕ). slice_index (shelf trees shard) k) p

pub found_place : (lanes : List LaneRows) (trees : List Numbers) (shard now place : ℕ) → AreShelved lanes trees → shard < SHARDS
    → IsFirstAtMost (shelf trees shard) 0 (bound_at now) place → Reached lanes shard now place
found_place lanes trees shard now place s lt first =
    let inc : ℕ = place * SHARDS + shard in
    let value : number_there trees inc ≡ lane_number (lane_of lanes inc).rows = s.each inc (at_place trees shard place lt first.in_range) in
    let here : number_there trees inc ≡ slice_index (shelf trees shard) place = number_at_place trees shard place lt in
    let low : lane_number (lane_of lanes inc).rows ≤ bound_at now = omega (arith, value, here, first.low) in
    record {
      within = elim (cases_lt inc (length lanes)) [
        | inl inside ↦ inside
        | inr past ↦ let above = no_lane_above lanes inc now past in absurd (omega (arith, above, low))
      ];
      reached = low;
    }

-- nothing is to be done in an incarnation whose number is not reached
lane_later : (lanes : List LaneRows) (trees : List Numbers) (now inc k : ℕ) → AreShelved lanes trees
    → (HasPlace trees inc → bound_at now < number_there trees inc) → answers (questions.ToAct now) (filed_in lanes inc k) ≡ false
lane_later lanes trees now inc k s above =
    none_due (lane_of lanes inc).rows now k (s.small inc) (elim (cases_lt inc (length lanes)) [
      | inl inside ↦ let has = s.there inc inside in let e = s.each inc has in let a = above has in omega (arith, e, a)
      | inr past ↦ no_lane_above lanes inc now past
    ])

above_there : (trees : List Numbers) (shard now place inc : ℕ) → AllAbove (shelf trees shard) 0 place (bound_at now) → shard_of inc ≡ shard → inc / SHARDS < place
    → bound_at now < number_there trees inc
above_there trees shard now place inc above e lt =
    let same : number_there trees inc ≡ slice_index (shelf trees shard) (inc / SHARDS) = ap (λ (k : ℕ). slice_index (shelf trees k) (inc / SHARDS)) e in
    let a = above (inc / SHARDS) (omega arith) lt in omega (arith, a, same)

pub nowhere : (lanes : List LaneRows) (trees : List Numbers) (shard now : ℕ) → AreShelved lanes trees
    → AllAbove (shelf trees shard) 0 (length (shelf trees shard)) (bound_at now) → IsFirstOf (λ i k. answers (questions.ToAct now) (filed_in lanes i k)) shard None
nowhere lanes trees shard now s above i k e =
    lane_later lanes trees now i k s (λ has.
    let l : length (shelf trees (shard_of i)) ≡ length (shelf trees shard) = ap (λ (j : ℕ). length (shelf trees j)) e in
    above_there trees shard now (length (shelf trees shard)) i above e (omega (arith, has, l)))

pub found_first : (lanes : List LaneRows) (trees : List Numbers) (shard now place inc instant : ℕ) → AreShelved lanes trees → shard < SHARDS
    → IsFirstAtMost (shelf trees shard) 0 (bound_at now) place → inc ≡ place * SHARDS + shard
    → IsFirstIn (λ k. answers (questions.ToAct now) (filed_in lanes inc k)) (Some instant)
    → IsFirstOf (λ i k. answers (questions.ToAct now) (filed_in lanes i k)) shard (Some (inc, instant))
found_first lanes trees shard now place inc instant s lt first is found = record {
  in_shard = omega (arith, is, lt);
  passing = found.0;
  first = λ i k e before. elim before [
    | inl earlier ↦ lane_later lanes trees now i k s (λ has. above_there trees shard now place i first.before e (omega (arith, e, earlier, is, lt)))
    | inr same ↦ subst (λ (j : ℕ). answers (questions.ToAct now) (filed_in lanes j k) ≡ false) (sym same.0) (found.1 k same.1)
  ];
}

-- the same rows keep their shelves
pub shelved_rows : (old new : List LaneRows) (trees : List Numbers) → length new ≡ length old → RowsAre old new same_rows → AreShelved old trees → AreShelved new trees
shelved_rows old new trees long are s = record {
  there = λ inc lt. s.there inc (omega (arith, lt, long));
  each = λ inc has. s.each inc has ∙ ap lane_number (sym (are inc));
  small = λ inc. subst (λ (rows : List Row). All IsSmallRow rows) (sym (are inc)) (s.small inc);
}

-- what has an entry has a lane
pub some_lane : (lanes : List LaneRows) (inc instant : ℕ) → IsSome (filed_in lanes inc instant) → inc < length lanes
some_lane lanes inc instant some = elim (cases_lt inc (length lanes)) [
  | inl inside ↦ inside
  | inr past ↦
      let gone : IsSome (filed_at (no_lane).rows instant) = subst (λ (lane : LaneRows). IsSome (filed_at lane.rows instant)) (get_or_past lanes inc no_lane past) some in absurd (none_some gone)
]
  where
    none_some : is_some {T = Filed} None ≡ true → ⊥
    none_some gone = cc
