use Rattle.std.proofs.Common.{sym, ◌∙◌, ap}
use Rattle.sorted_blocks.specs.Pairs.{Held, value_under}
use Rattle.sorted_blocks.proofs.Places.{chosen, some_moved, none_moved}
use Rattle.sorted_blocks.proofs.blocks.SortedBlocks.get.Goals as goal

pub get-requires : goal.get-requires
get-requires g c =
    (chosen c.self.inside.blocks.items _ _ _ _ c.index.result.now c.self.invariant c.deref.ensures.value c.block_for-at.ensures c.index.ensures).rising

pub returns-clause-some : goal.returns-clause-some
returns-clause-some g c =
    let block = chosen c.self.inside.blocks.items _ _ _ _ c.index.result.now c.self.invariant c.deref.ensures.value c.block_for-at.ensures c.index.ensures in
    some_moved c.get.result (λ v. v.now) _ _ (ap (λ (h : Held _). value_under h.pairs c.args.token.now) (sym c.self.view_is) ∙ block.same) c.get.ensures.some

pub returns-clause-none : goal.returns-clause-none
returns-clause-none g c =
    let block = chosen c.self.inside.blocks.items _ _ _ _ c.index.result.now c.self.invariant c.deref.ensures.value c.block_for-at.ensures c.index.ensures in
    none_moved c.get.result _ _ (ap (λ (h : Held _). value_under h.pairs c.args.token.now) (sym c.self.view_is) ∙ block.same) c.get.ensures.none
