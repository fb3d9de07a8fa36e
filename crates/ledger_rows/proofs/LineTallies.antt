-- The tally of an incarnation's entries as one of them is changed, or some are added.
use Rattle.std.proofs.Common.{◌≡◌, ℕ, ◌+◌, ◌-◌, ◌≤◌, ◌<◌, Bool, List, [], ◌∷◌, ◌++◌, map, length, get_or, set, refl, sym, ap, ap₂, ◌∙◌, subst, arith}
use Rattle.std.proofs.lemmas.List.{map-set, map-append, get_or-map, length-map}
use Rattle.sched_plain.specs.declared.entry.Filed.{Filed}
use Rattle.sched_plain.specs.declared.schedule.Policy.{Policy}
use Rattle.sched_plain.specs.declared.standing.Standing.{Standing}
use Rattle.sched_plain.specs.declared.standing.Standing.TheVariants as standings
use Rattle.sched_plain.specs.declared.step.Pair.{Pair}
use Rattle.sched_plain.specs.Report.{number_of, one_more_if, is_done, is_final, is_closed_by_attempts, is_closed_by_age, is_cancelled}
use Rattle.sched_plain.specs.Standing.{standing_of}
use Rattle.entry_lines.specs.Rows.{Row, new_row, no_row, row_there}
use Rattle.entry_lines.specs.declared.entry_lines.TheConstants.{MOST_ENTRIES}
use Rattle.ledger_rows.specs.declared.tally.Tally.{Tally}
use Rattle.ledger_rows.specs.Rows.{standings_in}
use Rattle.ledger_rows.specs.Tallying.{tally_of, replaced, IsAmong, IsUpTo}
use Rattle.ledger_rows.proofs.Outcomes.{IsOfDecided, done_decided, final_decided, attempts_decided, age_decided, cancelled_decided, by_outcome, open_fails, number_few, number_has, number_set}
use Rattle.ledger_rows.proofs.Tallies.{number_append}

-- the tally of one entry
abbrev pub tally_here : Row → Tally
tally_here row = tally_of (standing_of row.filed 0 ∷ [])

stands_there : (rows : List Row) (p : ℕ) → p < length rows → get_or (standings_in 0 rows) p standings.Due ≡ standing_of (row_there rows p).filed 0
stands_there rows p lt = get_or-map {X = Row} (λ row. standing_of row.filed 0) rows p no_row standings.Due lt

long : (rows : List Row) → length (standings_in 0 rows) ≡ length rows
long rows = length-map {A = Row} rows (λ row. standing_of row.filed 0)

number_row : (test : Standing → Bool) (rows : List Row) (p : ℕ) (row : Row) → p < length rows
    → number_of test (standings_in 0 (set rows p row))
    ≡ number_of test (standings_in 0 rows) - number_of test (standing_of (row_there rows p).filed 0 ∷ []) + number_of test (standing_of row.filed 0 ∷ [])
number_row test rows p row lt =
    let within : p < length (standings_in 0 rows) = let l = long rows in omega (arith, l, lt) in
    ap (number_of test) (map-set {A = Row} (λ r. standing_of r.filed 0) rows p row)
    ∙ number_set test (standings_in 0 rows) p (standing_of row.filed 0) standings.Due within
    ∙ ap (λ (s : Standing). number_of test (standings_in 0 rows) - number_of test (s ∷ []) + number_of test (standing_of row.filed 0 ∷ [])) (stands_there rows p lt)

number_there : (test : Standing → Bool) (rows : List Row) (p : ℕ) → p < length rows → number_of test (standing_of (row_there rows p).filed 0 ∷ []) ≤ number_of test (standings_in 0 rows)
number_there test rows p lt =
    let within : p < length (standings_in 0 rows) = let l = long rows in omega (arith, l, lt) in
    subst (λ (s : Standing). number_of test (s ∷ []) ≤ number_of test (standings_in 0 rows)) (stands_there rows p lt) (number_has test (standings_in 0 rows) p standings.Due within)

-- one entry is changed
pub tally_set : (rows new : List Row) (p : ℕ) (row : Row) (before after : Tally) → p < length rows → new ≡ set rows p row → before ≡ tally_of (standings_in 0 rows)
    → after ≡ replaced before (tally_here (row_there rows p)) (tally_here row) → after ≡ tally_of (standings_in 0 new)
tally_set rows new p row before after lt is was now =
    let changed : tally_of (standings_in 0 (set rows p row)) ≡ replaced (tally_of (standings_in 0 rows)) (tally_here (row_there rows p)) (tally_here row) =
    λ i. record {
      done = number_row is_done rows p row lt i;
      finals = number_row is_final rows p row lt i;
      attempts = number_row is_closed_by_attempts rows p row lt i;
      age = number_row is_closed_by_age rows p row lt i;
      cancelled = number_row is_cancelled rows p row lt i;
    } in
    now ∙ ap (λ (t : Tally). replaced t (tally_here (row_there rows p)) (tally_here row)) was ∙ sym changed ∙ ap (λ (l : List Row). tally_of (standings_in 0 l)) (sym is)

-- one entry is in the tally of all
pub tally_has : (rows : List Row) (p : ℕ) (t : Tally) → p < length rows → t ≡ tally_of (standings_in 0 rows) → IsAmong (tally_here (row_there rows p)) t
tally_has rows p t lt is =
    subst (IsAmong (tally_here (row_there rows p))) (sym is)
    (record {
      done = number_there is_done rows p lt;
      finals = number_there is_final rows p lt;
      attempts = number_there is_closed_by_attempts rows p lt;
      age = number_there is_closed_by_age rows p lt;
      cancelled = number_there is_cancelled rows p lt;
    })

-- a tally is of no more entries than there are
pub tally_few : (all : List Standing) (most : ℕ) (t : Tally) → length all ≤ most → t ≡ tally_of all → IsUpTo most t
tally_few all most t le is =
    subst (IsUpTo most) (sym is)
    (record {
      done = let n = number_few is_done all in omega (arith, n, le);
      finals = let n = number_few is_final all in omega (arith, n, le);
      attempts = let n = number_few is_closed_by_attempts all in omega (arith, n, le);
      age = let n = number_few is_closed_by_age all in omega (arith, n, le);
      cancelled = let n = number_few is_cancelled all in omega (arith, n, le);
    })

pub rows_few : (rows : List Row) (most : ℕ) (t : Tally) → length rows ≤ most → t ≡ tally_of (standings_in 0 rows) → IsUpTo most t
rows_few rows most t le is = tally_few (standings_in 0 rows) most t (let l = long rows in omega (arith, l, le)) is

-- entries that are entered are not decided
new_open : (test : Standing → Bool) → IsOfDecided test → (policy : Policy) (pairs : List Pair) → number_of test (standings_in 0 (map (new_row policy) pairs)) ≡ 0
new_open test of policy [] = refl
new_open test of policy (pair ∷ pairs) =
    ap₂ one_more_if (open_fails test of (new_row policy pair).filed 0 refl) (new_open test of policy pairs)

number_entered : (test : Standing → Bool) → IsOfDecided test → (rows : List Row) (policy : Policy) (pairs : List Pair)
    → number_of test (standings_in 0 (rows ++ map (new_row policy) pairs)) ≡ number_of test (standings_in 0 rows)
number_entered test of rows policy pairs =
    let none = new_open test of policy pairs in
    let zero_more : number_of test (standings_in 0 rows) + number_of test (standings_in 0 (map (new_row policy) pairs)) ≡ number_of test (standings_in 0 rows) = omega (arith, none) in
    ap (number_of test) (map-append {A = Row} (λ r. standing_of r.filed 0) rows (map (new_row policy) pairs))
    ∙ number_append test (standings_in 0 rows) (standings_in 0 (map (new_row policy) pairs)) ∙ zero_more

pub tally_entered : (rows new : List Row) (policy : Policy) (pairs : List Pair) (t : Tally) → new ≡ rows ++ map (new_row policy) pairs → t ≡ tally_of (standings_in 0 rows)
    → t ≡ tally_of (standings_in 0 new)
tally_entered rows new policy pairs t is was =
    let same : tally_of (standings_in 0 (rows ++ map (new_row policy) pairs)) ≡ tally_of (standings_in 0 rows) =
    λ i. record {
      done = number_entered is_done done_decided rows policy pairs i;
      finals = number_entered is_final final_decided rows policy pairs i;
      attempts = number_entered is_closed_by_attempts attempts_decided rows policy pairs i;
      age = number_entered is_closed_by_age age_decided rows policy pairs i;
      cancelled = number_entered is_cancelled cancelled_decided rows policy pairs i;
    } in
    was ∙ sym same ∙ ap (λ (l : List Row). tally_of (standings_in 0 l)) (sym is)

number_kept : (test : Standing → Bool) → IsOfDecided test → (rows : List Row) (p : ℕ) (row : Row) → p < length rows → row.filed.entry.outcome ≡ (row_there rows p).filed.entry.outcome
    → number_of test (standings_in 0 (set rows p row)) ≡ number_of test (standings_in 0 rows)
number_kept test of rows p row lt same =
    let changed = number_row test rows p row lt in
    let within = number_there test rows p lt in
    let alike : number_of test (standing_of row.filed 0 ∷ []) ≡ number_of test (standing_of (row_there rows p).filed 0 ∷ []) =
    ap (λ (b : Bool). one_more_if b 0) (by_outcome test of row.filed (row_there rows p).filed 0 0 same) in
    omega (arith, changed, within, alike)

-- a change that leaves the outcome leaves the tally
pub tally_kept : (rows new : List Row) (p : ℕ) (row : Row) (t : Tally) → p < length rows → new ≡ set rows p row
    → row.filed.entry.outcome ≡ (row_there rows p).filed.entry.outcome → t ≡ tally_of (standings_in 0 rows) → t ≡ tally_of (standings_in 0 new)
tally_kept rows new p row t lt is same was =
    let kept : tally_of (standings_in 0 (set rows p row)) ≡ tally_of (standings_in 0 rows) =
    λ i. record {
      done = number_kept is_done done_decided rows p row lt same i;
      finals = number_kept is_final final_decided rows p row lt same i;
      attempts = number_kept is_closed_by_attempts attempts_decided rows p row lt same i;
      age = number_kept is_closed_by_age age_decided rows p row lt same i;
      cancelled = number_kept is_cancelled cancelled_decided rows p row lt same i;
    } in
    was ∙ sym kept ∙ ap (λ (l : List Row). tally_of (standings_in 0 l)) (sym is)

pub alone_few : (f : Filed) (t : Tally) → t ≡ tally_of (standing_of f 0 ∷ []) → IsUpTo MOST_ENTRIES t
alone_few f t is = tally_few (standing_of f 0 ∷ []) MOST_ENTRIES t (omega arith) is
