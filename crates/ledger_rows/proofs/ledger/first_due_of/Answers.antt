use Rattle.std.proofs.Common.{ℕ, Some, length, sym, subst, arith}
use Rattle.min_tree.specs.Search.{IsFirstAtMost, AllAbove}
use Rattle.ledger_rows.specs.declared.question.Question.TheVariants as questions
use Rattle.ledger_rows.specs.Shelves.{shelf}
use Rattle.ledger_rows.specs.Numbers.{bound_at}
use Rattle.ledger_rows.specs.State.{filed_in}
use Rattle.ledger_rows.specs.Wanting.{IsFirstIn, answers}
use Rattle.ledger_rows.proofs.ShelfLemmas.{found_place, found_first, nowhere}
use Rattle.ledger_rows.proofs.ledger.first_due_of.Goals as goal

pub overflow_mul-place : goal.overflow_mul-place
overflow_mul-place c =
    let first : IsFirstAtMost (shelf c.args.shelves.now c.args.shard) 0 (bound_at c.args.now) c.in-Some.place =
    subst (λ (b : ℕ). IsFirstAtMost (shelf c.args.shelves.now c.args.shard) 0 b c.in-Some.place) c.bound_at.ensures c.in-Some.ensures.some in
    let within = (found_place c.args.lanes.now c.args.shelves.now c.args.shard c.args.now c.in-Some.place c.requires.shelved c.requires.shard first).within in
    omega (arith, within, c.requires.few)

pub overflow_add-place : goal.overflow_add-place
overflow_add-place c =
    let first : IsFirstAtMost (shelf c.args.shelves.now c.args.shard) 0 (bound_at c.args.now) c.in-Some.place =
    subst (λ (b : ℕ). IsFirstAtMost (shelf c.args.shelves.now c.args.shard) 0 b c.in-Some.place) c.bound_at.ensures c.in-Some.ensures.some in
    let within = (found_place c.args.lanes.now c.args.shelves.now c.args.shard c.args.now c.in-Some.place c.requires.shelved c.requires.shard first).within in
    omega (arith, within, c.requires.few)

pub due_in-requires : goal.due_in-requires
due_in-requires c =
    let first : IsFirstAtMost (shelf c.args.shelves.now c.args.shard) 0 (bound_at c.args.now) c.in-Some.place =
    subst (λ (b : ℕ). IsFirstAtMost (shelf c.args.shelves.now c.args.shard) 0 b c.in-Some.place) c.bound_at.ensures c.in-Some.ensures.some in
    let found = found_place c.args.lanes.now c.args.shelves.now c.args.shard c.args.now c.in-Some.place c.requires.shelved c.requires.shard first in
    record { few = c.requires.few; there = found.within; reached = found.reached }

pub returns-in-Some : goal.returns-in-Some
returns-in-Some c =
    let first : IsFirstAtMost (shelf c.args.shelves.now c.args.shard) 0 (bound_at c.args.now) c.in-Some.place =
    subst (λ (b : ℕ). IsFirstAtMost (shelf c.args.shelves.now c.args.shard) 0 b c.in-Some.place) c.bound_at.ensures c.in-Some.ensures.some in
    found_first c.args.lanes.now c.args.shelves.now c.args.shard c.args.now c.in-Some.place c.due_in.result.0 c.due_in.result.1 c.requires.shelved c.requires.shard first
    c.due_in.ensures.inc
    (subst (λ (j : ℕ). IsFirstIn (λ k. answers (questions.ToAct c.args.now) (filed_in c.args.lanes.now j k)) (Some c.due_in.result.1)) (sym c.due_in.ensures.inc) c.due_in.ensures.first)

pub returns-in-None : goal.returns-in-None
returns-in-None c =
    nowhere c.args.lanes.now c.args.shelves.now c.args.shard c.args.now c.requires.shelved
    (subst (λ (b : ℕ). AllAbove (shelf c.args.shelves.now c.args.shard) 0 (length (shelf c.args.shelves.now c.args.shard)) b) c.bound_at.ensures c.in-None.ensures.none)
