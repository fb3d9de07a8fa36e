use Rattle.std.proofs.Common.{ap, ◌∙◌}
use Rattle.sorted_blocks.specs.Pairs.{Held, value_under}
use Rattle.sorted_blocks.specs.Blocks.{joined}
use Rattle.sorted_blocks.proofs.Putting.{put_found}
use Rattle.sorted_blocks.proofs.blocks.SortedBlocks.insert.Goals as goal

pub returns-clause-pairs : goal.returns-clause-pairs
returns-clause-pairs g c q =
    let fresh = ap (λ (h : Held _). value_under h.pairs c.args.token) c.self.view_is ∙ c.requires.fresh in
    rw (← c.self.view_is) (put_found (joined c.self.inside.blocks.items) _ c.args.token c.args.value fresh c.put-self-inside.ensures.put q)
