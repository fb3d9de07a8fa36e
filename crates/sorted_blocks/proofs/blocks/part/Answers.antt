use Rattle.std.proofs.Common.{◌∙◌, ap, List, Some}
use Rattle.sorted_blocks.specs.Pairs.{Pairs}
use Rattle.sorted_blocks.specs.Blocks.{joined, AreBlocks}
use Rattle.sorted_blocks.proofs.Putting.{part_blocks}
use Rattle.sorted_blocks.proofs.blocks.part.Goals as goal

pub returns-clause-ok : goal.returns-clause-ok
returns-clause-ok g c =
    let before : AreBlocks c.reserve.new.self.items (Some c.args.at) = rw c.in_ok-reserve.ensures.items c.requires in
    rw c.add_block.ensures (part_blocks c.reserve.new.self.items c.args.at c.index_mut-block.result.now c.halve.new.self c.in_ok-upper.upper before c.index_mut-block.ensures.value c.in_ok-upper.ensures.lower c.in_ok-upper.ensures.upper).0

pub returns-clause-pairs : goal.returns-clause-pairs
returns-clause-pairs g c =
    let before : AreBlocks c.reserve.new.self.items (Some c.args.at) = rw c.in_ok-reserve.ensures.items c.requires in
    rw c.add_block.ensures (part_blocks c.reserve.new.self.items c.args.at c.index_mut-block.result.now c.halve.new.self c.in_ok-upper.upper before c.index_mut-block.ensures.value c.in_ok-upper.ensures.lower c.in_ok-upper.ensures.upper).1
    ∙ ap (λ (l : List (Pairs _)). joined l) c.in_ok-reserve.ensures.items
