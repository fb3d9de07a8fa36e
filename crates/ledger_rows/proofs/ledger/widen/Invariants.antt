use Rattle.std.proofs.Common.{◌+◌, ◌-◌, ◌≤◌, List, length}
use Rattle.min_tree.specs.Numbers.{Numbers}
use Rattle.plain_words.specs.declared.limits.TheConstants.{SHARDS}
use Rattle.ledger_rows.specs.Shelves.{AreShelved}
use Rattle.entry_lines.specs.Rows.{LaneRows}
use Rattle.ledger_rows.specs.State.{RowsAre, same_rows}
use Rattle.ledger_rows.proofs.ledger.widen.Given as goal

-- the lanes so far tell what they told
pub record Widening (initial now : List LaneRows) (trees : List Numbers) : Type 0 where
  pub few : length now ≤ 4294967296
  pub shelved : AreShelved now trees
  pub wide : SHARDS ≤ length trees
  pub rows : RowsAre initial now same_rows

abbrev pub invariant-loop-alloc : goal.invariant-loop-alloc
invariant-loop-alloc l = Widening l.initial.lanes.items l.lanes.items l.shelves.items

abbrev pub decreases-loop-alloc : goal.decreases-loop-alloc
decreases-loop-alloc l = l.inc + 1 - length l.lanes.items
