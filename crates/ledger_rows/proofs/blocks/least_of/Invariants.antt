use Rattle.std.proofs.Common.{◌≡◌, ℕ, ◌+◌, ◌-◌, ◌*◌, ◌≤◌, List, take, drop}
use Rattle.min_tree.specs.Search.{least}
use Rattle.ledger_rows.specs.declared.blocks.TheConstants.{PER_BLOCK}
use Rattle.ledger_rows.specs.Numbers.{numbers_of}
use Rattle.ledger_rows.proofs.blocks.least_of.Given as goal

-- the least number of those so far
pub record Least (numbers : List ℕ) (from at best : ℕ) : Type 0 where
  pub begun : from ≤ at
  pub few : at ≤ from + PER_BLOCK
  pub value : best ≡ least (take (at - from) (drop from numbers))

abbrev pub invariant-loop-place : goal.invariant-loop-place
invariant-loop-place l = Least (numbers_of l.rows.rows) (l.block * PER_BLOCK) l.place l.least
