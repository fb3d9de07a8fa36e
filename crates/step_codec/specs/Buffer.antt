-- What contracts see of a buffer: the bytes in it, and for how many more there is room.
use Rattle.std.specs.Prelude.{ℕ, List}

pub record Buffer : Type 0 where
  pub bytes : List ℕ
  pub room : ℕ
