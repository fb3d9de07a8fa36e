-- What becomes of a lane where entries are added.
use Rattle.std.proofs.Common.{◌≡◌, ℕ, zero, suc, ◌+◌, ◌-◌, ◌≤◌, ◌<◌, Bool, true, false, Option, Some, None, List, [], ◌∷◌, ◌++◌, map, min, length, length-append, length-take, take, get_or, slice_index, refl, sym, ap, ◌∙◌, subst, inl, inr, arith, append_assoc}
use Rattle.std.proofs.lemmas.Bool.{cases_lt}
use Rattle.std.proofs.lemmas.List.{length-map, map-append, get_or_append_left, get_or-append_right, get_or-map, get_or-take, take_more, get_or-append-add}
use Rattle.std.proofs.Math.Seq.{get_or-append_seam}
use Rattle.std.proofs.lemmas.List.Elements.{All-push}
use Rattle.std.specs.List.{All}
use Rattle.sched_plain.specs.declared.schedule.Policy.{Policy}
use Rattle.sched_plain.specs.declared.step.Pair.{Pair}
use Rattle.sched_plain.specs.Entries.{instants_of}
use Rattle.policy_rules.specs.declared.standings.TheConstants.{LAST_CHOSEN}
use Rattle.entry_lines.specs.Rows.{Row, new_row}
use Rattle.ledger_rows.specs.Rows.{instants_in, pair_of, pairs_of, IsLane, IsSmallRow, IsBehind, IsEntrance, IsTop, IsAbove, IsRising}
use Rattle.ledger_rows.proofs.Lookups.{lane_push}

-- the entries of pairs have their instants
pub new_instants : (policy : Policy) (pairs : List Pair) → instants_in (map (new_row policy) pairs) ≡ instants_of pairs
new_instants policy [] = refl
new_instants policy (pair ∷ pairs) = ap (λ l. pair.instant ∷ l) (new_instants policy pairs)

pub paired_instants : (rows : List Row) → instants_of (pairs_of rows) ≡ instants_in rows
paired_instants [] = refl
paired_instants (row ∷ rows) = ap (λ l. row.instant ∷ l) (paired_instants rows)

pub record Entered (policy : Policy) (pairs : List Pair) (initial new : List Row) (i : ℕ) : Type 0 where
  pub lane : IsLane new
  pub rows : new ≡ initial ++ map (new_row policy) (take (i + 1) pairs)

map_take : {A B : Type 0} (f : A → B) (i : ℕ) (xs : List A) → map f (take i xs) ≡ take i (map f xs)
map_take f zero xs = refl
map_take f (suc i) [] = refl
map_take f (suc i) (x ∷ xs) = ap (λ l. f x ∷ l) (map_take f i xs)

-- the next pair comes behind all entries so far
behind : (policy : Policy) (pairs : List Pair) (initial : List Row) (i : ℕ) → IsEntrance (pairs_of initial) pairs → i < length pairs
    → IsBehind (initial ++ map (new_row policy) (take i pairs)) (slice_index (instants_of pairs) i)
behind policy pairs initial i may within j lt =
    let new = map (new_row policy) (take i pairs) in
    let all : instants_in (initial ++ new) ≡ instants_in initial ++ instants_of (take i pairs) =
    map-append {A = Row} (λ r. r.instant) initial new ∙ ap (λ l. instants_in initial ++ l) (new_instants policy (take i pairs)) in
    let taken : instants_of (take i pairs) ≡ take i (instants_of pairs) = map_take {A = Pair} (λ p. p.instant) i pairs in
    let long : length (instants_in initial) ≡ length initial = length-map {A = Row} initial (λ r. r.instant) in
    let longer : length (initial ++ new) ≡ length initial + length new = length-append initial new in
    let news : length new ≡ length (take i pairs) = length-map (take i pairs) (new_row policy) in
    let few : length (take i pairs) ≡ min i (length pairs) = length-take i pairs in
    let paired : length (pairs_of initial) ≡ length initial = length-map initial pair_of in
    elim (cases_lt j (length initial)) [
      | inl old ↦
          let at : get_or (instants_in (initial ++ new)) j 0 ≡ get_or (instants_in initial) j 0 =
          ap (λ l. get_or l j 0) all ∙ get_or_append_left (instants_in initial) _ 0 j (omega (arith, old, long)) in
          let same : get_or (instants_of (pairs_of initial)) j 0 ≡ get_or (instants_in initial) j 0 = ap (λ l. get_or l j 0) (paired_instants initial) in
          omega (arith, at, same, may.above j i (omega (arith, old, paired)) within)
      | inr late ↦
          let k : ℕ = j - length initial in
          let before : k < i = omega (arith, lt, longer, news, few, within, late) in
          let at : get_or (instants_in (initial ++ new)) j 0 ≡ get_or (instants_of (take i pairs)) k 0 =
          ap (λ l. get_or l j 0) all ∙ get_or-append_right (instants_in initial) (instants_of (take i pairs)) (length initial) j 0 long late in
          let same : get_or (instants_of (take i pairs)) k 0 ≡ get_or (instants_of pairs) k 0 =
          ap (λ l. get_or l k 0) taken ∙ get_or-take i (instants_of pairs) k 0 before in
          omega (arith, at, same, may.rising k i before within)
    ]

-- the entry of a pair that may be entered has small numbers
pub new_small : (policy : Policy) (pairs : List Pair) (initial : List Row) (i : ℕ) (pair : Pair) (row : Row) → IsEntrance (pairs_of initial) pairs → i < length pairs
    → policy.retries ≤ 255 → row ≡ new_row policy (get_or pairs i pair) → IsSmallRow row
new_small policy pairs initial i pair row may within few made =
    subst IsSmallRow (sym made) (record { chosen = may.small i pair within; last = omega arith; retries = few })

pub entering_step : (policy : Policy) (pairs : List Pair) (initial now new : List Row) (i : ℕ) (pair : Pair) (row : Row)
    → IsEntrance (pairs_of initial) pairs → IsLane initial → IsLane now → now ≡ initial ++ map (new_row policy) (take i pairs) → i < length pairs
    → policy.retries ≤ 255 → row ≡ new_row policy (get_or pairs i pair) → new ≡ now ++ row ∷ []
    → Entered policy pairs initial new i
entering_step policy pairs initial now new i pair row may first lane so_far within few made pushed =
    let here : slice_index (instants_of pairs) i ≡ row.instant =
    get_or-map {X = Pair} (λ p. p.instant) pairs i pair 0 within ∙ sym (ap {A = Row} (λ r. r.instant) made) in
    let late : IsBehind now row.instant =
    subst (λ (l : List Row). IsBehind l row.instant) (sym so_far)
    (subst (λ (n : ℕ). IsBehind (initial ++ map (new_row policy) (take i pairs)) n) here (behind policy pairs initial i may within)) in
    let small : IsSmallRow row = subst IsSmallRow (sym made) (record { chosen = may.small i pair within; last = omega arith; retries = few }) in
    record {
      lane = subst IsLane (sym pushed) (lane_push now row lane late small);
      rows = pushed ∙ ap (λ l. l ++ row ∷ []) so_far ∙ grown;
    }
  where
    grown : (initial ++ map (new_row policy) (take i pairs)) ++ row ∷ [] ≡ initial ++ map (new_row policy) (take (i + 1) pairs)
    grown =
        append_assoc initial (map (new_row policy) (take i pairs)) (row ∷ [])
        ∙ ap (λ l. initial ++ (map (new_row policy) (take i pairs) ++ l ∷ [])) made
        ∙ ap (λ l. initial ++ l) (sym (map-append (new_row policy) (take i pairs) (get_or pairs i pair ∷ [])))
        ∙ ap (λ l. initial ++ map (new_row policy) l) (sym (take_more pairs i pair within))

-- lists of numbers with one more at the end
pushed_below : (ys : List ℕ) (p j : ℕ) → j < length ys → get_or (ys ++ p ∷ []) j 0 ≡ get_or ys j 0
pushed_below ys p j lt = get_or_append_left ys (p ∷ []) 0 j lt

pushed_last : (ys : List ℕ) (p j : ℕ) → j ≡ length ys → get_or (ys ++ p ∷ []) j 0 ≡ p
pushed_last ys p j e = ap (λ (n : ℕ). get_or (ys ++ p ∷ []) n 0) e ∙ get_or-append_seam ys p [] 0

-- each number of the longer list that is below the bound of the others, or the last one
pub pushed_each : (P : ℕ → Type 0) (ys : List ℕ) (p : ℕ) → ((j : ℕ) → j < length ys → P (get_or ys j 0)) → P p → (j : ℕ) → j < length (ys ++ p ∷ []) → P (get_or (ys ++ p ∷ []) j 0)
pushed_each P ys p each last j lt =
    let long : length (ys ++ p ∷ []) ≡ length ys + 1 = length-append ys (p ∷ []) in
    elim (cases_lt j (length ys)) [
      | inl old ↦ subst P (sym (pushed_below ys p j old)) (each j old)
      | inr new ↦ subst P (sym (pushed_last ys p j (omega (arith, new, lt, long)))) last
    ]

pushed_rising : (ys : List ℕ) (p : ℕ) → ((i j : ℕ) → i < j → j < length ys → get_or ys i 0 < get_or ys j 0) → ((j : ℕ) → j < length ys → get_or ys j 0 < p)
    → (i j : ℕ) → i < j → j < length (ys ++ p ∷ []) → get_or (ys ++ p ∷ []) i 0 < get_or (ys ++ p ∷ []) j 0
pushed_rising ys p rising below i j lt within =
    let long : length (ys ++ p ∷ []) ≡ length ys + 1 = length-append ys (p ∷ []) in
    let at_i : get_or (ys ++ p ∷ []) i 0 ≡ get_or ys i 0 = pushed_below ys p i (omega (arith, lt, within, long)) in
    elim (cases_lt j (length ys)) [
      | inl old ↦ let at_j = pushed_below ys p j old in omega (arith, at_i, at_j, rising i j lt old)
      | inr new ↦
          let at_j = pushed_last ys p j (omega (arith, new, within, long)) in
          omega (arith, at_i, at_j, below i (omega (arith, lt, within, long)))
    ]

-- every number of a list is below one that is above its top
below_next : (zs : List ℕ) (last : Option ℕ) (p : ℕ) → IsTop zs last → IsAbove last p → (j : ℕ) → j < length zs → get_or zs j 0 < p
below_next zs None p top above j lt = let none_there : length zs ≡ 0 = ap {A = List ℕ} length top in absurd (omega (arith, none_there, lt))
below_next zs (Some t) p top above j lt = omega (arith, top j lt, above)

pub record Followed (rows : List Row) (pairs : List Pair) (i p : ℕ) : Type 0 where
  pub entrance : IsEntrance (pairs_of rows) (take (i + 1) pairs)
  pub top : IsTop (instants_in rows ++ instants_of (take (i + 1) pairs)) (Some p)

-- one pair more that comes behind
pub follow_step : (rows : List Row) (pairs : List Pair) (i : ℕ) (last : Option ℕ) (d : Pair) → IsEntrance (pairs_of rows) (take i pairs)
    → IsTop (instants_in rows ++ instants_of (take i pairs)) last → i < length pairs → IsAbove last (get_or pairs i d).instant → (get_or pairs i d).chosen ≤ LAST_CHOSEN
    → Followed rows pairs i (get_or pairs i d).instant
follow_step rows pairs i last d may top within above small =
    let p = get_or pairs i d in
    let xs = instants_in rows in
    let ys = instants_of (take i pairs) in
    let more : instants_of (take (i + 1) pairs) ≡ ys ++ p.instant ∷ [] =
    ap instants_of (take_more pairs i d within) ∙ map-append {A = Pair} (λ q. q.instant) (take i pairs) (p ∷ []) in
    let all_below = below_next (xs ++ ys) last p.instant top above in
    let both : length (xs ++ ys) ≡ length xs + length ys = length-append xs ys in
    let xs_below : (j : ℕ) → j < length xs → get_or xs j 0 < p.instant = λ j lt.
    let at : get_or (xs ++ ys) j 0 ≡ get_or xs j 0 = get_or_append_left xs ys 0 j lt in omega (arith, at, all_below j (omega (arith, lt, both))) in
    let ys_below : (j : ℕ) → j < length ys → get_or ys j 0 < p.instant = λ j lt.
    let at : get_or (xs ++ ys) (length xs + j) 0 ≡ get_or ys j 0 = get_or-append-add xs ys j 0 in omega (arith, at, all_below (length xs + j) (omega (arith, lt, both))) in
    let ys_long : length ys ≡ length (take i pairs) = length-map {A = Pair} (take i pairs) (λ q. q.instant) in
    let more_long : length (instants_of (take (i + 1) pairs)) ≡ length (take (i + 1) pairs) = length-map {A = Pair} (take (i + 1) pairs) (λ q. q.instant) in
    let same_long : length (instants_of (take (i + 1) pairs)) ≡ length (ys ++ p.instant ∷ []) = ap {A = List ℕ} length more in
    let old_long : length (pairs_of rows) ≡ length rows = length-map rows pair_of in
    let xs_long : length xs ≡ length rows = length-map {A = Row} rows (λ r. r.instant) in
    record {
      entrance = record {
        above = λ a b in_old in_new.
            subst (λ (l : List ℕ). get_or (instants_of (pairs_of rows)) a 0 < get_or l b 0) (sym more)
            (pushed_each (λ n. get_or (instants_of (pairs_of rows)) a 0 < n) ys p.instant
            (λ j lt. may.above a j in_old (omega (arith, lt, ys_long)))
            (subst (λ (l : List ℕ). get_or l a 0 < p.instant) (sym (paired_instants rows)) (xs_below a (omega (arith, in_old, old_long, xs_long))))
            b (omega (arith, in_new, more_long, same_long)));
        rising = λ a b lt in_new.
            subst (λ (l : List ℕ). get_or l a 0 < get_or l b 0) (sym more)
            (pushed_rising ys p.instant (λ j k lt within. may.rising j k lt (omega (arith, within, ys_long))) ys_below a b lt (omega (arith, in_new, more_long, same_long)));
        small = subst (All {X = Pair} (λ q. q.chosen ≤ LAST_CHOSEN)) (sym (take_more pairs i d within)) (All-push {X = Pair} (λ q. q.chosen ≤ LAST_CHOSEN) (take i pairs) p may.small small);
      };
      top =
          let joined : xs ++ instants_of (take (i + 1) pairs) ≡ (xs ++ ys) ++ p.instant ∷ [] = ap (λ l. xs ++ l) more ∙ sym (append_assoc xs ys (p.instant ∷ [])) in
          subst (λ (l : List ℕ). IsTop l (Some p.instant)) (sym joined)
          (pushed_each (λ n. n ≤ p.instant) (xs ++ ys) p.instant (λ j lt. omega (arith, all_below j lt)) (omega arith));
    }

-- the last entry has the top instant
pub last_is_top : (rows : List Row) (d : Row) → IsRising rows → 0 < length rows → (j : ℕ) → j < length (instants_in rows)
    → slice_index (instants_in rows) j ≤ (get_or rows (length rows - 1) d).instant
last_is_top rows d rising some j lt =
    let long : length (instants_in rows) ≡ length rows = length-map {A = Row} rows (λ r. r.instant) in
    let end : slice_index (instants_in rows) (length rows - 1) ≡ (get_or rows (length rows - 1) d).instant =
    get_or-map {X = Row} (λ r. r.instant) rows (length rows - 1) d 0 (omega (arith, some)) in
    elim (cases_lt j (length rows - 1)) [
      | inl before ↦ omega (arith, end, rising j (length rows - 1) before (omega (arith, some)))
      | inr last ↦
          let same : slice_index (instants_in rows) j ≡ slice_index (instants_in rows) (length rows - 1) = ap (slice_index (instants_in rows)) (omega (arith, last, lt, long)) in
          omega (arith, same, end)
    ]

-- pairs that may be entered come above what the entries are all before
pub begins_above : (rows : List Row) (pairs : List Pair) (last : Option ℕ) → ((p : ℕ) → IsBehind rows p → IsAbove last p) → IsEntrance (pairs_of rows) pairs
    → (j : ℕ) → j < length pairs → IsAbove last (slice_index (instants_of pairs) j)
begins_above rows pairs last next may j lt =
    next (slice_index (instants_of pairs) j) (λ i within.
    let long : length (pairs_of rows) ≡ length rows = length-map rows pair_of in
    let same : get_or (instants_of (pairs_of rows)) i 0 ≡ get_or (instants_in rows) i 0 = ap (λ l. get_or l i 0) (paired_instants rows) in
    let lower = may.above i j (omega (arith, within, long)) lt in omega (arith, same, lower))

pub false_or_true : {A : Type 0} (b : Bool) → b ≡ false → b ≡ true → A
false_or_true b e f = let clash : ⊥ = cc in absurd clash

-- the last entry is before what all entries are before
pub last_above : (rows : List Row) (d : Row) (p : ℕ) → 0 < length rows → IsBehind rows p → (get_or rows (length rows - 1) d).instant < p
last_above rows d p some behind =
    let end : slice_index (instants_in rows) (length rows - 1) ≡ (get_or rows (length rows - 1) d).instant =
    get_or-map {X = Row} (λ r. r.instant) rows (length rows - 1) d 0 (omega (arith, some)) in
    let lower = behind (length rows - 1) (omega (arith, some)) in omega (arith, end, lower)

-- of pairs that may be entered a later one is above an earlier
pub next_above : (old pairs : List Pair) (i j : ℕ) (d : Pair) → IsEntrance old pairs → i < j → j < length pairs → (get_or pairs i d).instant < slice_index (instants_of pairs) j
next_above old pairs i j d may lt within =
    let here : slice_index (instants_of pairs) i ≡ (get_or pairs i d).instant = get_or-map {X = Pair} (λ q. q.instant) pairs i d 0 (omega (arith, lt, within)) in
    let lower = may.rising i j lt within in omega (arith, here, lower)

pub pair_above : (pairs : List Pair) (i : ℕ) (d : Pair) (last : Option ℕ) → i < length pairs → IsAbove last (slice_index (instants_of pairs) i) → IsAbove last (get_or pairs i d).instant
pair_above pairs i d last lt above = subst (IsAbove last) (get_or-map {X = Pair} (λ q. q.instant) pairs i d 0 lt) above
