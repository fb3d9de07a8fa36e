use Rattle.std.proofs.Common.{ℕ, Some, length, sym, subst, refl, arith}
use Rattle.std.proofs.lemmas.List.{get_or_default}
use Rattle.min_tree.specs.Search.{IsFirstAtMost, AllAbove}
use Rattle.entry_lines.specs.Rows.{no_row, row_there}
use Rattle.ledger_rows.specs.declared.question.Question.TheVariants as questions
use Rattle.ledger_rows.specs.Numbers.{bound_at, numbers_of}
use Rattle.ledger_rows.specs.Rows.{filed_at}
use Rattle.ledger_rows.specs.Wanting.{answers, IsFirstIn}
use Rattle.ledger_rows.proofs.BlockLemmas.{numbers_long}
use Rattle.ledger_rows.proofs.NumberLemmas.{due_first, none_due, above_least}
use Rattle.ledger_rows.proofs.lane.first_due_in.Goals as goal

pub returns-in-Some-clause-first : goal.returns-in-Some-clause-first
returns-in-Some-clause-first c =
    let rows = c.args.rows.now.rows in
    let row = row_there rows c.in-Some.place in
    let found : IsFirstAtMost (numbers_of rows) 0 (bound_at c.args.now) c.in-Some.place =
    subst (λ (b : ℕ). IsFirstAtMost (numbers_of rows) 0 b c.in-Some.place) c.bound_at.ensures c.in-Some.ensures.some in
    let long = numbers_long rows in
    let inside = found.in_range in
    subst (λ (n : ℕ). IsFirstIn (λ k. answers (questions.ToAct c.args.now) (filed_at rows k)) (Some n)) (sym c.instant.ensures)
    (due_first rows (numbers_of rows) c.args.now c.in-Some.place row c.requires.order refl found (get_or_default rows c.in-Some.place no_row row (omega (arith, inside, long))))

pub returns-in-None-clause-none : goal.returns-in-None-clause-none
returns-in-None-clause-none c =
    let rows = c.args.rows.now.rows in
    let long = numbers_long rows in
    let above : AllAbove (numbers_of rows) 0 (length rows) (bound_at c.args.now) =
    subst (λ (b : ℕ). AllAbove (numbers_of rows) 0 (length rows) b) c.bound_at.ensures c.in-None.ensures.none in
    above_least rows (numbers_of rows) c.args.now refl (λ j le lt. above j le (omega (arith, lt, long)))

pub returns-in-None-clause-first : goal.returns-in-None-clause-first
returns-in-None-clause-first c = λ k.
    let rows = c.args.rows.now.rows in
    let long = numbers_long rows in
    let above : AllAbove (numbers_of rows) 0 (length rows) (bound_at c.args.now) =
    subst (λ (b : ℕ). AllAbove (numbers_of rows) 0 (length rows) b) c.bound_at.ensures c.in-None.ensures.none in
    none_due rows c.args.now k c.requires.order.small (above_least rows (numbers_of rows) c.args.now refl (λ j le lt. above j le (omega (arith, lt, long))))
