use Rattle.std.proofs.Common.{ℕ, subst, arith}
use Rattle.min_tree.specs.Search.{IsFirstAtMost}
use Rattle.ledger_rows.specs.Numbers.{numbers_of}
use Rattle.ledger_rows.specs.Stretch.{NoneInBlock}
use Rattle.ledger_rows.proofs.BlockLemmas.{found_behind, if_none, if_some, none_behind, not_none}
use Rattle.ledger_rows.proofs.blocks.first_behind.Goals as goal

pub begin_of-requires : goal.begin_of-requires
begin_of-requires c =
    let inside = c.in-Some.ensures.some.in_range in
    let full = c.requires.blocks.so_far.full in omega (arith, inside, full)

pub first_in_block-requires-clause-from : goal.first_in_block-requires-clause-from
first_in_block-requires-clause-from c =
    let inside = c.in-Some.ensures.some.in_range in
    let full = c.requires.blocks.so_far.full in
    let is = c.begin_of.ensures in omega (arith, inside, full, is)

pub returns-in-Some-clause-some : goal.returns-in-Some-clause-some
returns-in-Some-clause-some c =
    if_some c.first_in_block.result _ _ (λ place found.
    found_behind c.args.rows.now.rows c.args.wants.now.values c.args.from c.args.bound c.in-Some.block place c.requires.blocks c.requires.rest c.in-Some.ensures.some
    (subst (λ (n : ℕ). IsFirstAtMost (numbers_of c.args.rows.now.rows) n c.args.bound place) c.begin_of.ensures found)) c.first_in_block.ensures.some

pub returns-in-Some-clause-none : goal.returns-in-Some-clause-none
returns-in-Some-clause-none c =
    if_none c.first_in_block.result _ _ (λ none.
    absurd (not_none c.args.rows.now.rows c.args.wants.now.values _ c.args.bound c.in-Some.block c.requires.blocks c.requires.bound c.in-Some.ensures.some
    (subst (λ (n : ℕ). NoneInBlock (numbers_of c.args.rows.now.rows) n c.args.bound) c.begin_of.ensures none))) c.first_in_block.ensures.none

pub returns-in-None-clause-none : goal.returns-in-None-clause-none
returns-in-None-clause-none c = none_behind c.args.rows.now.rows c.args.wants.now.values c.args.from c.args.bound c.requires.blocks c.requires.rest c.in-None.ensures.none
