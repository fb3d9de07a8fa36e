-- What is looked up in the entries of an incarnation, and how a change of one of them shows.
use Rattle.std.proofs.Common.{◌≡◌, ℕ, zero, suc, ◌+◌, ◌≤◌, ◌<◌, ◌==◌, ◌≢◌, Bool, true, false, cond, Option, Some, None, List, [], ◌∷◌, ◌++◌, length, length-append, get_or, set, slice_index, refl, sym, ap, ◌∙◌, subst, inl, inr, arith, ap₂, map, option_map}
use Rattle.std.specs.Prelude.{if◌then◌else◌}
use Rattle.std.proofs.lemmas.Bool.{cases_eq, cases_lt, eq-eqb, ne_eqb}
use Rattle.std.proofs.lemmas.Bool.Decides.{nat_tests}
use Rattle.std.proofs.Math.Seq.{map-set_same}
use Rattle.std.proofs.lemmas.List.{length-map, map-append, get_or_append_left}
use Rattle.std.proofs.Math.Seq.{get_or-append_seam}
use Rattle.std.proofs.lemmas.List.Elements.{All-set, All-push}
use Rattle.std.proofs.lemmas.List.{get_or-map}
use Rattle.sched_plain.specs.declared.entry.Attempt.{Attempt}
use Rattle.sched_plain.specs.declared.entry.Entry.{Entry}
use Rattle.sched_plain.specs.declared.entry.Filed.{Filed}
use Rattle.sched_plain.specs.Entries.{changed_if, on_entry, with_begin, with_end, with_loss, decided_as, lost_last}
use Rattle.plain_words.specs.Lists.{some_pass}
use Rattle.plain_words.specs.declared.verdict.Verdict.{Verdict}
use Rattle.plain_words.specs.declared.verdict.Verdict.TheVariants as verdicts
use Rattle.plain_words.specs.declared.limits.TheConstants.{LAST_MOMENT}
use Rattle.policy_rules.specs.LastAttempt.{last_at}
use Rattle.policy_rules.specs.declared.standings.TheConstants.{LAST_CHOSEN}
use Rattle.sched_plain.specs.declared.entry.Last.{Last}
use Rattle.sched_plain.specs.declared.entry.Last.TheVariants as lasts
use Rattle.sched_plain.specs.declared.outcome.Outcome.{Outcome}
use Rattle.entry_lines.specs.Rows.{Row, changed, no_row, row_there}
use Rattle.ledger_rows.specs.Rows.{instants_in, row_at, filed_in_row, attempts_in_row, pair_of, IsRising, IsPlace, IsCut, IsBehind, IsSmallRow, IsLane, Changes, cancelled_row, filed_at, pairs_of}

-- no entry is at the instant
pub absent : (rows : List Row) (k : ℕ) → ((j : ℕ) → j < length rows → slice_index (instants_in rows) j ≢ k) → row_at rows k ≡ None
absent [] k apart = refl
absent (row ∷ rows) k away =
    let apart : (k == row.instant) ≡ false = ne_eqb k row.instant (λ (e : k ≡ row.instant). away 0 (omega arith) (sym e)) in
    rw apart (absent rows k (λ j lt. away (suc j) (omega arith)))

-- where a search parts the entries and the one behind is another, none is there
pub cut_absent : (rows : List Row) (k place : ℕ) → IsRising rows → IsCut rows k place → (place < length rows → slice_index (instants_in rows) place ≢ k) → row_at rows k ≡ None
cut_absent rows k place rising cut other = absent rows k apart
  where
    apart : (j : ℕ) → j < length rows → slice_index (instants_in rows) j ≢ k
    apart j lt same = elim (cases_eq j place) [
      | inl here ↦ other (omega (arith, lt, here)) (subst (λ (i : ℕ). slice_index (instants_in rows) i ≡ k) here same)
      | inr away ↦ elim (cases_lt j place) [
        | inl before ↦ omega (arith, cut.below j before, same)
        | inr behind ↦ omega (arith, rising place j (omega (arith, away, behind)) lt, cut.above place (omega arith) (omega (arith, behind, lt)), same)
      ]
    ]

rest_place : (row : Row) (rows : List Row) (k p : ℕ) → IsPlace (row ∷ rows) k (suc p) → IsPlace rows k p
rest_place row rows k p is = record { in_range = omega (arith, is.in_range); here = is.here; before = λ j lt. is.before (suc j) (omega arith) }

-- the entry at its place is the one that is looked up
pub present : (rows : List Row) (k p : ℕ) (d : Row) → IsPlace rows k p → row_at rows k ≡ Some (get_or rows p d)
present [] k p d is = absurd (omega (arith, is.in_range))
present (row ∷ rows) k zero d is = let same : (k == row.instant) ≡ true = eq-eqb k row.instant (sym is.here) in rw same refl
present (row ∷ rows) k (suc p) d is =
    let apart : (k == row.instant) ≡ false = ne_eqb k row.instant (λ (e : k ≡ row.instant). is.before 0 (omega arith) (sym e)) in
    rw apart (present rows k p d (rest_place row rows k p is))

-- a search's place whose entry is at the instant
pub cut_place : (rows : List Row) (k place : ℕ) → IsCut rows k place → place < length rows → slice_index (instants_in rows) place ≡ k → IsPlace rows k place
cut_place rows k place cut lt here = record { in_range = lt; here = here; before = λ j before same. omega (arith, cut.below j before, same) }

set_step : (a b q : ℕ) (x y : Row) (o : Option Row) (t : Bool) → a ≢ b → (q == b) ≡ t
    → cond t (Some x) (cond (q == a) (Some y) o) ≡ cond (q == a) (Some y) (cond t (Some x) o)
set_step a b q x y o false apart e = refl
set_step a b q x y o true apart e =
    let other : (q == a) ≡ false = grind (arith, nat_tests) in rw other refl

-- a changed entry is found in the place of the old one, and the others as before
pub found_set : (rows : List Row) (k p q : ℕ) (row : Row) → IsPlace rows k p → row.instant ≡ k
    → row_at (set rows p row) q ≡ (if q == k then Some row else row_at rows q)
found_set [] k p q row is same = absurd (omega (arith, is.in_range))
found_set (old ∷ rows) k zero q row is same =
    let there : old.instant ≡ k = is.here in
    let t : (q == row.instant) ≡ (q == k) = ap (λ (i : ℕ). q == i) same in
    let u : (q == k) ≡ (q == old.instant) = ap (λ (i : ℕ). q == i) (sym there) in
    ap (λ (b : Bool). cond b (Some row) (row_at rows q)) t ∙ by_test (q == k) ∙ ap (λ (b : Bool). cond (q == k) (Some row) (cond b (Some old) (row_at rows q))) u
  where
    by_test : (t : Bool) → cond t (Some row) (row_at rows q) ≡ cond t (Some row) (cond t (Some old) (row_at rows q))
    by_test true = refl
    by_test false = refl
found_set (old ∷ rows) k (suc p) q row is same =
    ap (λ o. cond (q == old.instant) (Some old) o) (found_set rows k p q row (rest_place old rows k p is) same)
    ∙ sym (set_step old.instant k q row old (row_at rows q) (q == k) (is.before 0 (omega arith)) refl)

changed_filed : (t : Bool) (change : Entry → Entry) (row new : Row) (o : Option Row) → (t ≡ true → o ≡ Some row) → new.filed ≡ on_entry change row.filed
    → filed_in_row (cond t (Some new) o) ≡ changed_if t change (filed_in_row o)
changed_filed true change row new o here is = rw (here refl) (ap Some is)
changed_filed false change row new o here is = refl

changed_attempts : (t : Bool) (grow : List Attempt → List Attempt) (row new : Row) (o : Option Row) → (t ≡ true → o ≡ Some row)
    → new.attempts ≡ grow row.attempts
    → attempts_in_row (cond t (Some new) o) ≡ cond t (grow (attempts_in_row o)) (attempts_in_row o)
changed_attempts true grow row new o here is = rw (here refl) is
changed_attempts false grow row new o here is = refl

-- what a change of one entry is
pub record IsChange (change : Entry → Entry) (grow : List Attempt → List Attempt) (old new : Row) : Type 0 where
  pub instant : new.instant ≡ old.instant
  pub filed : new.filed ≡ on_entry change old.filed
  pub attempts : new.attempts ≡ grow old.attempts
  pub chosen : new.filed.entry.chosen ≡ old.filed.entry.chosen

pair_same : (x y : Row) → x.instant ≡ y.instant → x.filed.entry.chosen ≡ y.filed.entry.chosen → pair_of x ≡ pair_of y
pair_same x y e f = λ i. record { instant = e i; chosen = f i }

-- entries with the same instants rise alike
pub rising_same : (new old : List Row) → instants_in new ≡ instants_in old → IsRising old → IsRising new
rising_same new old e rising i j lt within =
    let a : length (instants_in new) ≡ length new = length-map {A = Row} new (λ row. row.instant) in
    let b : length (instants_in old) ≡ length old = length-map {A = Row} old (λ row. row.instant) in
    let both : length (instants_in new) ≡ length (instants_in old) = ap {A = List ℕ} length e in
    subst (λ (l : List ℕ). get_or l i 0 < get_or l j 0) (sym e) (rising i j lt (omega (arith, a, b, both, within)))

pub changes_set : (rows : List Row) (k p : ℕ) (change : Entry → Entry) (grow : List Attempt → List Attempt) (d new : Row) → IsPlace rows k p
    → IsChange change grow (get_or rows p d) new → Changes rows (set rows p new) k change grow
changes_set rows k p change grow d new is changed =
    let old = get_or rows p d in
    let at_k : new.instant ≡ k = changed.instant ∙ sym (get_or-map {X = Row} (λ row. row.instant) rows p d 0 is.in_range) ∙ is.here in
    let there : (q : ℕ) → (q == k) ≡ true → row_at rows q ≡ Some old =
    λ q e. subst (λ (i : ℕ). row_at rows i ≡ Some old) {x = k} (let s : k ≡ q = grind (arith, nat_tests) in s) (present rows k p d is) in
    record {
      filed = λ q. ap filed_in_row (found_set rows k p q new is at_k) ∙ changed_filed (q == k) change old new (row_at rows q) (there q) changed.filed;
      attempts = λ q. ap attempts_in_row (found_set rows k p q new is at_k) ∙ changed_attempts (q == k) grow old new (row_at rows q) (there q) changed.attempts;
      pairs = map-set_same pair_of rows p new d (pair_same new old changed.instant changed.chosen);
    }

-- a changed entry leaves a lane that keeps its order
pub lane_set : (rows : List Row) (p : ℕ) (d new : Row) → IsLane rows → new.instant ≡ (get_or rows p d).instant → IsSmallRow new → IsLane (set rows p new)
lane_set rows p d new lane same small =
    record {
      rising = rising_same (set rows p new) rows (map-set_same {A = Row} (λ row. row.instant) rows p new d same) lane.rising;
      small = All-set IsSmallRow rows p new small lane.small;
    }

-- an entry before the instant, and all in front of it
pub upto : (rows : List Row) (k middle : ℕ) → IsRising rows → middle < length rows → slice_index (instants_in rows) middle < k
    → (j : ℕ) → j < middle + 1 → slice_index (instants_in rows) j < k
upto rows k middle rising within low j lt = elim (cases_eq j middle) [
  | inl here ↦ subst (λ (i : ℕ). slice_index (instants_in rows) i < k) (sym here) low
  | inr away ↦ omega (arith, rising j middle (omega (arith, lt, away)) within, low)
]

-- an entry that is not, and all behind it
pub onward : (rows : List Row) (k middle : ℕ) → IsRising rows → k ≤ slice_index (instants_in rows) middle
    → (j : ℕ) → middle ≤ j → j < length rows → k ≤ slice_index (instants_in rows) j
onward rows k middle rising high j le within = elim (cases_eq j middle) [
  | inl here ↦ subst (λ (i : ℕ). k ≤ slice_index (instants_in rows) i) (sym here) high
  | inr away ↦ omega (arith, rising middle j (omega (arith, le, away)) within, high)
]

-- a change that leaves the chosen moment, and keeps moments small
pub record IsMild (change : Entry → Entry) : Type 0 where
  pub chosen : (e : Entry) → (change e).chosen ≡ e.chosen
  pub last : (e : Entry) → last_at e.last ≤ LAST_CHOSEN → last_at (change e).last ≤ LAST_CHOSEN

pub begin_mild : (at : ℕ) → at ≤ LAST_MOMENT → IsMild (with_begin at)
begin_mild at le = record { chosen = λ e. refl; last = λ e _. omega (arith, le) }

pub decided_mild : (outcome : Outcome) → IsMild (decided_as outcome)
decided_mild outcome = record { chosen = λ e. refl; last = λ e small. small }

pub end_mild : (verdict : Verdict) (at : ℕ) → at ≤ LAST_MOMENT → IsMild (with_end verdict at)
end_mild verdicts.Done at le = record { chosen = λ e. refl; last = λ e _. omega (arith, le) }
end_mild verdicts.Retry at le = record { chosen = λ e. refl; last = λ e _. omega (arith, le) }
end_mild verdicts.Final at le = record { chosen = λ e. refl; last = λ e _. omega (arith, le) }

lost_small : (at : ℕ) (last : Last) → at ≤ LAST_MOMENT → last_at last ≤ LAST_CHOSEN → last_at (lost_last at last) ≤ LAST_CHOSEN
lost_small at lasts.NoAttempt le small = small
lost_small at (lasts.Live begun) le small = omega (arith, le)
lost_small at (lasts.Lost lost) le small = small
lost_small at (lasts.Ended ended) le small = small

pub loss_mild : (at : ℕ) → at ≤ LAST_MOMENT → IsMild (with_loss at)
loss_mild at le = record { chosen = λ e. refl; last = λ e small. lost_small at e.last le small }

-- a mild change keeps numbers small
pub op_small : (rows looked : List Row) (k p : ℕ) (old new : Row) (change : Entry → Entry) → looked ≡ rows → IsPlace looked k p → old ≡ get_or rows p old → IsLane rows
    → IsMild change → new.filed ≡ on_entry change old.filed → IsSmallRow new
op_small rows looked k p old new change same is there lane mild filed =
    let place : IsPlace rows k p = subst (λ (l : List Row). IsPlace l k p) same is in
    let entry : new.filed.entry ≡ change old.filed.entry = ap {A = Filed} (λ f. f.entry) filed in
    let chosen : new.filed.entry.chosen ≡ old.filed.entry.chosen = ap {A = Entry} (λ e. e.chosen) entry ∙ mild.chosen old.filed.entry in
    let was : IsSmallRow old = subst IsSmallRow (sym there) (lane.small p old place.in_range) in
    record {
      chosen = omega (arith, chosen, was.chosen);
      last = subst (λ (e : Entry). last_at e.last ≤ LAST_CHOSEN) (sym entry) (mild.last old.filed.entry was.last);
      retries = subst (λ (f : Filed). f.policy.retries ≤ 255) (sym filed) was.retries;
    }

-- what a changed entry makes of its lane
pub record Done (rows new : List Row) (k : ℕ) (change : Entry → Entry) (grow : List Attempt → List Attempt) : Type 0 where
  pub lane : IsLane new
  pub changes : Changes rows new k change grow

pub op_done : (rows looked : List Row) (k p : ℕ) (old new : Row) (change : Entry → Entry) (grow : List Attempt → List Attempt)
    → looked ≡ rows → IsPlace looked k p → old ≡ get_or rows p old → IsLane rows → IsMild change
    → new.instant ≡ old.instant → new.filed ≡ on_entry change old.filed → new.attempts ≡ grow old.attempts
    → Done rows (set rows p new) k change grow
op_done rows looked k p old new change grow same is there lane mild instant filed attempts =
    let place : IsPlace rows k p = subst (λ (l : List Row). IsPlace l k p) same is in
    let entry : new.filed.entry ≡ change old.filed.entry = ap {A = Filed} (λ f. f.entry) filed in
    let chosen : new.filed.entry.chosen ≡ old.filed.entry.chosen = ap {A = Entry} (λ e. e.chosen) entry ∙ mild.chosen old.filed.entry in
    let small : IsSmallRow new = op_small rows looked k p old new change same is there lane mild filed in
    let change_is : IsChange change grow (get_or rows p old) new =
    subst (λ (r : Row). IsChange change grow r new) there (record { instant = instant; filed = filed; attempts = attempts; chosen = chosen }) in
    record {
      lane = lane_set rows p old new lane (instant ∙ ap {A = Row} (λ r. r.instant) there) small;
      changes = changes_set rows k p change grow old new place change_is;
    }

-- the entry at the place is the one that is looked up
pub looked_up : (rows looked : List Row) (k p : ℕ) (old : Row) → looked ≡ rows → IsPlace looked k p → old ≡ get_or rows p old → row_at rows k ≡ Some old
looked_up rows looked k p old same is there =
    present rows k p old (subst (λ (l : List Row). IsPlace l k p) same is) ∙ ap Some (sym there)

pub low_here : {a b k : ℕ} → a ≡ b → a < k → b < k
low_here e lt = omega (arith, e, lt)

pub high_here : {a b k : ℕ} → a ≡ b → k ≤ a → k ≤ b
high_here e le = omega (arith, e, le)

-- an entry behind the others leaves a lane that keeps its order
pub lane_push : (rows : List Row) (row : Row) → IsLane rows → IsBehind rows row.instant → IsSmallRow row → IsLane (rows ++ row ∷ [])
lane_push rows row lane behind small =
    let all : instants_in (rows ++ row ∷ []) ≡ instants_in rows ++ row.instant ∷ [] = map-append {A = Row} (λ r. r.instant) rows (row ∷ []) in
    let long : length (instants_in rows) ≡ length rows = length-map {A = Row} rows (λ r. r.instant) in
    let longer : length (rows ++ row ∷ []) ≡ length rows + 1 = length-append rows (row ∷ []) in
    record {
      rising = λ i j lt within. subst (λ (l : List ℕ). get_or l i 0 < get_or l j 0) (sym all) (elim (cases_lt j (length rows)) [
        | inl old ↦
            let at_j : get_or (instants_in rows ++ row.instant ∷ []) j 0 ≡ get_or (instants_in rows) j 0 = get_or_append_left _ _ 0 j (omega (arith, old, long)) in
            let at_i : get_or (instants_in rows ++ row.instant ∷ []) i 0 ≡ get_or (instants_in rows) i 0 = get_or_append_left _ _ 0 i (omega (arith, old, long, lt)) in
            omega (arith, at_i, at_j, lane.rising i j lt old)
        | inr new ↦
            let last : j ≡ length (instants_in rows) = omega (arith, new, within, longer, long) in
            let at_j : get_or (instants_in rows ++ row.instant ∷ []) j 0 ≡ row.instant =
            ap (λ (n : ℕ). get_or (instants_in rows ++ row.instant ∷ []) n 0) last ∙ get_or-append_seam (instants_in rows) row.instant [] 0 in
            let at_i : get_or (instants_in rows ++ row.instant ∷ []) i 0 ≡ get_or (instants_in rows) i 0 = get_or_append_left _ _ 0 i (omega (arith, last, lt)) in
            omega (arith, at_i, at_j, behind i (omega (arith, last, long, lt)))
      ]);
      small = All-push IsSmallRow rows row lane.small small;
    }

-- and keeps its numbers small
pub small_there : (rows looked : List Row) (k p : ℕ) (old : Row) → looked ≡ rows → IsPlace looked k p → old ≡ get_or rows p old → IsLane rows → IsSmallRow old
small_there rows looked k p old same is there lane =
    subst IsSmallRow (sym there) (lane.small p old (subst (λ (l : List Row). IsPlace l k p) same is).in_range)

chosen_mapped : (f : Row → Row) (b : Bool) (row : Row) (o : Option Row) → cond b (Some (f row)) (option_map f o) ≡ option_map f (cond b (Some row) o)
chosen_mapped f true row o = refl
chosen_mapped f false row o = refl

-- a change of every entry that keeps instants and chosen moments, and small numbers small
pub record IsEven (f : Row → Row) : Type 0 where
  pub instant : (row : Row) → (f row).instant ≡ row.instant
  pub chosen : (row : Row) → (f row).filed.entry.chosen ≡ row.filed.entry.chosen
  pub small : (row : Row) → IsSmallRow row → IsSmallRow (f row)

pub found_mapped : (f : Row → Row) → IsEven f → (rows : List Row) (k : ℕ) → row_at (map f rows) k ≡ option_map f (row_at rows k)
found_mapped f even [] k = refl
found_mapped f even (row ∷ rows) k =
    ap (λ (i : ℕ). cond (k == i) (Some (f row)) (row_at (map f rows) k)) (even.instant row)
    ∙ ap (λ o. cond (k == row.instant) (Some (f row)) o) (found_mapped f even rows k)
    ∙ chosen_mapped f (k == row.instant) row (row_at rows k)

mapped_instants : (f : Row → Row) → IsEven f → (rows : List Row) → instants_in (map f rows) ≡ instants_in rows
mapped_instants f even [] = refl
mapped_instants f even (row ∷ rows) = ap₂ (λ i l. i ∷ l) (even.instant row) (mapped_instants f even rows)

pub mapped_pairs : (f : Row → Row) → IsEven f → (rows : List Row) → pairs_of (map f rows) ≡ pairs_of rows
mapped_pairs f even [] = refl
mapped_pairs f even (row ∷ rows) = ap₂ (λ p l. p ∷ l) (pair_same (f row) row (even.instant row) (even.chosen row)) (mapped_pairs f even rows)

pub lane_mapped : (f : Row → Row) → IsEven f → (rows : List Row) → IsLane rows → IsLane (map f rows)
lane_mapped f even rows lane = record {
  rising = rising_same (map f rows) rows (mapped_instants f even rows) lane.rising;
  small = λ j d lt.
      let within : j < length rows = let long = length-map {A = Row} rows f in omega (arith, long, lt) in
      subst IsSmallRow (sym (get_or-map {X = Row} f rows j d d within)) (even.small (get_or rows j d) (lane.small j d within));
}

pub cancelled_even : IsEven cancelled_row
cancelled_even = record { instant = λ row. refl; chosen = λ row. refl; small = λ row was. record { chosen = was.chosen; last = was.last; retries = was.retries } }

-- a test that fails at each entry of an instant fails at what is looked up there
pub each_looked : (test : Filed → Bool) (rows : List Row) (k : ℕ)
    → ((j : ℕ) (d : Row) → j < length rows → (get_or rows j d).instant ≡ k → test (get_or rows j d).filed ≡ false)
    → some_pass test (filed_at rows k) ≡ false
each_looked test [] k fails = refl
each_looked test (row ∷ rows) k fails = elim (cases_eq k row.instant) [
  | inl here ↦ let t : (k == row.instant) ≡ true = eq-eqb k row.instant here in rw t (fails 0 row (omega arith) (sym here))
  | inr away ↦
      let t : (k == row.instant) ≡ false = ne_eqb k row.instant away in
      rw t (each_looked test rows k (λ j d lt same. fails (suc j) d (omega arith) same))
]

-- an entry of a lane is the one that is looked up at its instant
pub found_here : (rows : List Row) (i : ℕ) (row : Row) → IsRising rows → i < length rows → row ≡ get_or rows i row → row_at rows row.instant ≡ Some row
found_here rows i row rising within there =
    let here : slice_index (instants_in rows) i ≡ row.instant = get_or-map {X = Row} (λ r. r.instant) rows i row 0 within ∙ ap {A = Row} (λ r. r.instant) (sym there) in
    present rows row.instant i row (record { in_range = within; here = here; before = λ j lt same. omega (arith, rising j i lt within, here, same) }) ∙ ap Some (sym there)

-- where none before it passes, none of an earlier instant does
pub first_here : (test : Filed → Bool) (rows : List Row) (i : ℕ) (row : Row) → IsRising rows → i < length rows → row ≡ get_or rows i row
    → ((j : ℕ) (d : Row) → j < i → test (get_or rows j d).filed ≡ false) → (k : ℕ) → k < row.instant → some_pass test (filed_at rows k) ≡ false
first_here test rows i row rising within there none_so_far k lt = each_looked test rows k each
  where
    here : slice_index (instants_in rows) i ≡ row.instant
    here = get_or-map {X = Row} (λ r. r.instant) rows i row 0 within ∙ ap {A = Row} (λ r. r.instant) (sym there)

    each : (j : ℕ) (d : Row) → j < length rows → (get_or rows j d).instant ≡ k → test (get_or rows j d).filed ≡ false
    each j d inside same = elim (cases_lt j i) [
      | inl before ↦ none_so_far j d before
      | inr behind ↦
          let at_j : slice_index (instants_in rows) j ≡ k = get_or-map {X = Row} (λ r. r.instant) rows j d 0 inside ∙ same in
          absurd (elim (cases_eq j i) [
            | inl equal ↦ let e : slice_index (instants_in rows) j ≡ slice_index (instants_in rows) i = ap (slice_index (instants_in rows)) equal in omega (arith, e, at_j, here, lt)
            | inr apart ↦ omega (arith, rising i j (omega (arith, behind, apart)) inside, at_j, here, lt)
          ])
    ]

pub same_mild : IsMild (λ entry. entry)
same_mild = record { chosen = λ e. refl; last = λ e small. small }

-- a changed entry is the one that is looked up
pub set_found : (rows looked : List Row) (k p : ℕ) (old new : Row) → looked ≡ rows → IsPlace looked k p → old ≡ get_or rows p old → new.instant ≡ old.instant
    → row_at (set rows p new) k ≡ Some new
set_found rows looked k p old new same is there instant =
    let place : IsPlace rows k p = subst (λ (l : List Row). IsPlace l k p) same is in
    let at_k : new.instant ≡ k =
    instant ∙ ap {A = Row} (λ r. r.instant) there ∙ sym (get_or-map {X = Row} (λ row. row.instant) rows p old 0 place.in_range) ∙ place.here in
    let itself : (k == k) ≡ true = eq-eqb k k refl in
    found_set rows k p k new place at_k ∙ ap (λ (b : Bool). cond b (Some new) (row_at rows k)) itself

-- a row whose entry is changed mildly has small numbers
pub mild_small : (change : Entry → Entry) (grow : List Attempt → List Attempt) (row : Row) → IsMild change → IsSmallRow row → IsSmallRow (changed change grow row)
mild_small change grow row mild was = record {
  chosen = subst (λ (n : ℕ). n ≤ LAST_CHOSEN) (sym (mild.chosen row.filed.entry)) was.chosen;
  last = mild.last row.filed.entry was.last;
  retries = was.retries;
}

-- what such a change of one row makes of its lane
pub mild_done : (rows new : List Row) (k p : ℕ) (change : Entry → Entry) (grow : List Attempt → List Attempt) → IsPlace rows k p → IsLane rows → IsMild change
    → new ≡ set rows p (changed change grow (row_there rows p)) → Done rows new k change grow
mild_done rows new k p change grow place lane mild is =
    let old = row_there rows p in
    let next = changed change grow old in
    subst (λ (l : List Row). Done rows l k change grow) (sym is)
    (record {
      lane = lane_set rows p no_row next lane refl (mild_small change grow old mild (lane.small p no_row place.in_range));
      changes = changes_set rows k p change grow no_row next place (record { instant = refl; filed = refl; attempts = refl; chosen = mild.chosen old.filed.entry });
    })

-- the row at the place is the one that is looked up
pub there_is : (rows : List Row) (k p : ℕ) → IsPlace rows k p → row_at rows k ≡ Some (row_there rows p)
there_is rows k p place = present rows k p no_row place
