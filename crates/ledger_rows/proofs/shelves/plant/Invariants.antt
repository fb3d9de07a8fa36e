use Rattle.std.proofs.Common.{◌-◌, length}
use Rattle.plain_words.specs.declared.limits.TheConstants.{SHARDS}
use Rattle.ledger_rows.specs.Shelves.{AreSameShelves}
use Rattle.ledger_rows.proofs.shelves.plant.Given as goal

-- the trees so far are those of before, and empty ones
abbrev pub invariant-loop-alloc : goal.invariant-loop-alloc
invariant-loop-alloc l = AreSameShelves l.initial.trees.items l.trees.items

abbrev pub decreases-loop-alloc : goal.decreases-loop-alloc
decreases-loop-alloc l = SHARDS - length l.trees.items
