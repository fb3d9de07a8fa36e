-- The numbers of an incarnation's entries, kept by blocks: of sixteen entries in a row the least number alone.
use Rattle.std.specs.Prelude.{◌≡◌, ℕ, ◌+◌, ◌*◌, ◌≤◌, ◌<◌, ◌≢◌, List, take, drop, length, slice_index}
use Rattle.min_tree.specs.Numbers.{Numbers}
use Rattle.min_tree.specs.Search.{least}
use Rattle.entry_lines.specs.Rows.{Row, LaneRows}
use Rattle.ledger_rows.specs.declared.blocks.TheConstants.{PER_BLOCK}
use Rattle.ledger_rows.specs.Numbers.{numbers_of}
use Rattle.ledger_rows.specs.Rows.{IsLane}

-- the least number of a block's entries
abbrev pub block_number : List Row → ℕ → ℕ
block_number rows block = least (take PER_BLOCK (drop (block * PER_BLOCK) (numbers_of rows)))

-- each block but one has its number
pub record AreBlocksBut (rows : List Row) (values : List ℕ) (but : ℕ) : Type 0 where
  pub reach : length rows ≤ length values * PER_BLOCK
  pub full : length values * PER_BLOCK < length rows + PER_BLOCK
  pub each : (block : ℕ) → block < length values → block ≢ but → slice_index values block ≡ block_number rows block

-- each block but the last one has its number
pub record AreBlocksBefore (rows : List Row) (values : List ℕ) : Type 0 where
  pub full : length values * PER_BLOCK < length rows + PER_BLOCK
  pub each : (block : ℕ) → block + 1 < length values → slice_index values block ≡ block_number rows block

-- the blocks so far have their numbers
pub record AreBlocksSoFar (rows : List Row) (values : List ℕ) : Type 0 where
  pub full : length values * PER_BLOCK < length rows + PER_BLOCK
  pub each : (block : ℕ) → block < length values → slice_index values block ≡ block_number rows block

-- each block has its number, and all entries are in blocks
pub record AreBlocks (rows : List Row) (values : List ℕ) : Type 0 where
  pub reach : length rows ≤ length values * PER_BLOCK
  pub so_far : AreBlocksSoFar rows values

-- a lane keeps its order and the numbers of its blocks, with room for as many more
pub record IsWhole (lane : LaneRows) (wants : Numbers) : Type 0 where
  pub order : IsLane lane.rows
  pub blocks : AreBlocks lane.rows wants.values
  pub ready : length lane.rows + lane.room ≤ (length wants.values + wants.room) * PER_BLOCK
