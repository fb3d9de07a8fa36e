use Rattle.std.proofs.Common.{refl, sym, ◌∙◌}
use Rattle.sorted_blocks.proofs.Places.{chosen}
use Rattle.sorted_blocks.proofs.Putting.{put_done, put_blocks}
use Rattle.sorted_blocks.proofs.blocks.put.Goals as goal

pub insert-requires-clause-rising : goal.insert-requires-clause-rising
insert-requires-clause-rising g c =
    (chosen c.args.blocks.now.items _ _ c.args.token c.args.at c.index_mut-block.result.now c.requires.blocks refl c.requires.place c.index_mut-block.ensures.value).rising

pub insert-requires-clause-fresh : goal.insert-requires-clause-fresh
insert-requires-clause-fresh g c =
    sym (chosen c.args.blocks.now.items _ _ c.args.token c.args.at c.index_mut-block.result.now c.requires.blocks refl c.requires.place c.index_mut-block.ensures.value).same
    ∙ c.requires.fresh

pub returns-clause-put : goal.returns-clause-put
returns-clause-put g c =
    put_done c.args.blocks.now.items c.args.token c.args.value c.args.at c.index_mut-block.result.now c.insert.new.self c.requires.blocks c.requires.place c.index_mut-block.ensures.value c.insert.ensures

pub returns-clause-blocks : goal.returns-clause-blocks
returns-clause-blocks g c =
    let done = put_blocks c.args.blocks.now.items c.args.token c.args.value c.args.at c.index_mut-block.result.now c.insert.new.self c.requires.blocks c.requires.place c.index_mut-block.ensures.value c.insert.ensures in
    rw (c.full_at.ensures, c.len.ensures) done
