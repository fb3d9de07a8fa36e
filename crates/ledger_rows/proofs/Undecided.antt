-- What is done to the entries that are not decided is done to all.
use Rattle.std.proofs.Common.{◌≡◌, ℕ, zero, suc, ◌+◌, ◌-◌, ◌≤◌, ◌<◌, Bool, true, false, Option, Some, None, List, [], ◌∷◌, ◌++◌, length, take, set, refl, sym, ap, ◌∙◌, subst, arith}
use Rattle.std.specs.Prelude.{is_some, is_none, cond}
use Rattle.plain_words.specs.Lists.{or_else}
use Rattle.std.specs.List.{filter}
use Rattle.std.proofs.lemmas.List.{set-get_or, take_more}
use Rattle.min_tree.specs.Numbers.{Numbers}
use Rattle.min_tree.specs.Search.{IsFirstAtMost, AllAbove}
use Rattle.sched_plain.specs.declared.outcome.Outcome.{Outcome}
use Rattle.sched_plain.specs.declared.outcome.Outcome.TheVariants as outcomes
use Rattle.entry_lines.specs.Rows.{Row, LaneRows, no_row, row_there}
use Rattle.ledger_rows.specs.declared.wants.TheConstants.{IN_AIR}
use Rattle.ledger_rows.specs.Numbers.{numbers_of}
use Rattle.ledger_rows.specs.Rows.{IsLane, cancelled_row, is_open_row}
use Rattle.ledger_rows.proofs.BlockLemmas.{numbers_long}
use Rattle.ledger_rows.proofs.ListSteps.{mapped_step}
use Rattle.ledger_rows.proofs.NumberLemmas.{decided_above, number_at, open_below}
use Rattle.ledger_rows.proofs.Wholes.{Evened}

decided_still : (o : Option Outcome) → is_some o ≡ true → or_else o (Some outcomes.Cancelled) ≡ o
decided_still (Some outcome) e = refl
decided_still None e = let clash : ⊥ = cc in absurd clash

not_open : (o : Option Outcome) → is_some o ≡ true → is_none o ≡ false
not_open (Some outcome) e = refl
not_open None e = let clash : ⊥ = cc in absurd clash

-- an entry that is decided stays as it is
cancelled_still : (row : Row) → is_some row.filed.entry.outcome ≡ true → cancelled_row row ≡ row
cancelled_still row e =
    ap (λ (o : Option Outcome). record row { filed = record row.filed { entry = record row.filed.entry { outcome = o } } }) (decided_still row.filed.entry.outcome e)

pub decided_there : (rows : List Row) (from to j : ℕ) → IsLane rows → AllAbove (numbers_of rows) from to IN_AIR → from ≤ j → j < to → j < length rows
    → is_some (row_there rows j).filed.entry.outcome ≡ true
decided_there rows from to j lane above le lt within =
    let n = above j le lt in
    let at = number_at rows j no_row within in
    decided_above (row_there rows j) (lane.small j no_row within) (omega (arith, n, at))

-- rows that are changed to themselves
even_skip : (f : Row → Row) (initial now : LaneRows) (wants : Numbers) (from n : ℕ) → Evened f initial now wants from → from + n ≤ length initial.rows
    → ((j : ℕ) → from ≤ j → j < from + n → f (row_there now.rows j) ≡ row_there now.rows j) → Evened f initial now wants (from + n)
even_skip f initial now wants from zero e fits same = subst (Evened f initial now wants) (let is : from ≡ from + 0 = omega arith in is) e
even_skip f initial now wants from (suc n) e fits same =
    let so_far = even_skip f initial now wants from n e (omega (arith, fits)) (λ j le lt. same j le (omega (arith, lt))) in
    let i : ℕ = from + n in
    let next : i + 1 ≡ from + suc n = omega arith in
    subst (Evened f initial now wants) next
    (record {
      whole = so_far.whole;
      long = so_far.long;
      are = sym (set-get_or now.rows i no_row) ∙ ap (set now.rows i) (sym (same i (omega arith) (omega arith)))
          ∙ mapped_step f no_row initial.rows now.rows i (f (row_there now.rows i)) (omega (arith, fits)) so_far.are refl;
      room_is = so_far.room_is;
      begins_is = so_far.begins_is;
    })

-- up to the next entry that is not decided, nothing is to be cancelled
pub cancel_skip : (initial now : LaneRows) (wants : Numbers) (from to : ℕ) → Evened cancelled_row initial now wants from → from ≤ to → to ≤ length now.rows
    → AllAbove (numbers_of now.rows) from to IN_AIR → Evened cancelled_row initial now wants to
cancel_skip initial now wants from to e le within above =
    let long = e.long in
    let is : from + (to - from) ≡ to = omega (arith, le) in
    subst (Evened cancelled_row initial now wants) is
    (even_skip cancelled_row initial now wants from (to - from) e (omega (arith, is, within, long))
    (λ j begun lt. cancelled_still (row_there now.rows j) (decided_there now.rows from to j e.whole.order above begun (omega (arith, is, lt)) (omega (arith, is, lt, within)))))

-- how many of so many entries are not decided
abbrev pub open_upto : List Row → ℕ → ℕ
open_upto rows i = length (filter is_open_row (take i rows))

abbrev add_if : Bool → ℕ → ℕ
add_if true n = n + 1
add_if false n = n

open_push : (rows : List Row) (row : Row) → length (filter is_open_row (rows ++ row ∷ [])) ≡ add_if (is_open_row row) (length (filter is_open_row rows))
open_push [] row = first (is_open_row row)
  where
    first : (b : Bool) → length (cond b (row ∷ []) []) ≡ add_if b 0
    first true = omega arith
    first false = refl
open_push (x ∷ rows) row = next (is_open_row x) (is_open_row row) (filter is_open_row (rows ++ row ∷ [])) (filter is_open_row rows) (open_push rows row)
  where
    next : (b c : Bool) (more some : List Row) → length more ≡ add_if c (length some) → length (cond b (x ∷ more) more) ≡ add_if c (length (cond b (x ∷ some) some))
    next true true more some e = let l : length more ≡ length some + 1 = e in omega (arith, l)
    next true false more some e = ap suc e
    next false c more some e = e

open_more : (rows : List Row) (i : ℕ) → i < length rows → open_upto rows (i + 1) ≡ add_if (is_open_row (row_there rows i)) (open_upto rows i)
open_more rows i lt = ap (λ l. length (filter is_open_row l)) (take_more rows i no_row lt) ∙ open_push (take i rows) (row_there rows i)

open_skip_by : (rows : List Row) (from n : ℕ) → from + n ≤ length rows → ((j : ℕ) → from ≤ j → j < from + n → is_open_row (row_there rows j) ≡ false) → open_upto rows (from + n) ≡ open_upto rows from
open_skip_by rows from zero fits none = ap (open_upto rows) (let is : from + 0 ≡ from = omega arith in is)
open_skip_by rows from (suc n) fits none =
    let next : from + suc n ≡ from + n + 1 = omega arith in
    ap (open_upto rows) next ∙ open_more rows (from + n) (omega (arith, fits)) ∙ ap (λ (b : Bool). add_if b (open_upto rows (from + n))) (none (from + n) (omega arith) (omega arith))
    ∙ open_skip_by rows from n (omega (arith, fits)) (λ j le lt. none j le (omega (arith, lt)))

pub open_skip : (rows : List Row) (from to : ℕ) → IsLane rows → from ≤ to → to ≤ length rows → AllAbove (numbers_of rows) from to IN_AIR → open_upto rows to ≡ open_upto rows from
open_skip rows from to lane le within above =
    let is : from + (to - from) ≡ to = omega (arith, le) in
    ap (open_upto rows) (sym is)
    ∙ open_skip_by rows from (to - from) (omega (arith, is, within))
    (λ j begun lt. not_open (row_there rows j).filed.entry.outcome (decided_there rows from to j lane above begun (omega (arith, is, lt)) (omega (arith, is, lt, within))))

-- one more is not decided
pub open_one : (rows : List Row) (from place : ℕ) → IsLane rows → IsFirstAtMost (numbers_of rows) from IN_AIR place → open_upto rows (place + 1) ≡ open_upto rows from + 1
open_one rows from place lane first =
    let long = numbers_long rows in
    let inside = first.in_range in
    let within : place < length rows = omega (arith, inside, long) in
    let low = first.low in
    let at = number_at rows place no_row within in
    open_more rows place within ∙ ap (λ (b : Bool). add_if b (open_upto rows place)) (open_below (row_there rows place) (omega (arith, low, at)))
    ∙ ap (λ (n : ℕ). n + 1) (open_skip rows from place lane first.behind (omega (arith, within)) first.before)
