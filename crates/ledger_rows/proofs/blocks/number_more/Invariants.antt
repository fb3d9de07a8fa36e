use Rattle.std.proofs.Common.{◌≡◌, ◌+◌, ◌-◌, ◌*◌, List, length}
use Rattle.min_tree.specs.Numbers.{Numbers}
use Rattle.entry_lines.specs.Rows.{Row}
use Rattle.ledger_rows.specs.declared.blocks.TheConstants.{PER_BLOCK}
use Rattle.ledger_rows.specs.Blocks.{AreBlocksSoFar}
use Rattle.ledger_rows.proofs.blocks.number_more.Given as goal

-- the blocks so far have their numbers, and each used up one of the room
pub record Numbering (rows : List Row) (initial now : Numbers) : Type 0 where
  pub so_far : AreBlocksSoFar rows now.values
  pub room_is : length now.values + now.room ≡ length initial.values + initial.room

abbrev pub invariant-loop-wants : goal.invariant-loop-wants
invariant-loop-wants l = Numbering l.rows.rows l.initial.wants l.wants

abbrev pub decreases-loop-wants : goal.decreases-loop-wants
decreases-loop-wants l = length l.rows.rows - length l.wants.values * PER_BLOCK
