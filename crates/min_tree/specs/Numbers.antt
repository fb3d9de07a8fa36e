-- What contracts see of a tree of minima.
use Rattle.std.specs.Prelude.{ℕ, List}

-- the numbers in order, and the room for more
pub record Numbers : Type 0 where
  pub values : List ℕ
  pub room : ℕ
