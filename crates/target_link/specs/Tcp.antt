-- A link over sockets, which tells nothing of what it sends.
use Rattle.std.specs.Prelude.{ℕ}

-- what contracts see of such a link
pub record Counters : Type 0 where
  pub sends_left : ℕ
  pub most_bytes : ℕ
  pub losses : ℕ
