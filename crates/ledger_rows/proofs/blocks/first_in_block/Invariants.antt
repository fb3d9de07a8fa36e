use Rattle.std.proofs.Common.{ℕ, ◌≤◌, ◌<◌, List, slice_index}
use Rattle.ledger_rows.specs.Numbers.{numbers_of}
use Rattle.ledger_rows.proofs.blocks.first_in_block.Given as goal

-- those so far are above the bound
pub record Looked (numbers : List ℕ) (from at bound : ℕ) : Type 0 where
  pub begun : from ≤ at
  pub above : (j : ℕ) → from ≤ j → j < at → bound < slice_index numbers j

abbrev pub invariant-loop-place : goal.invariant-loop-place
invariant-loop-place l = Looked (numbers_of l.rows.rows) l.from l.place l.bound
