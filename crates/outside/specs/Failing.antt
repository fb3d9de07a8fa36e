-- The calls of a device in memory that are to fail.
use Rattle.std.specs.Prelude.{ℕ, List}

-- what contracts see of them: the numbers of the calls that are to fail, from 1, how many calls were made, and how many
-- of them failed
pub record Failing : Type 0 where
  pub numbers : List ℕ
  pub calls : ℕ
  pub faults : ℕ
