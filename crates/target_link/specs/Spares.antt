-- The buffers that a link keeps ready, so that a send takes no memory.
use Rattle.std.specs.Prelude.{◌≡◌, ℕ, ◌≤◌, [], Vec, vec_capacity}
use Rattle.std.specs.declared.alloc.Global.{Global}

-- how many buffers there are, and how many bytes each has room for
pub record Ready : Type 0 where
  pub count : ℕ
  pub most_bytes : ℕ

-- an empty buffer with room for so many bytes
pub record IsSpare (most_bytes : ℕ) (buffer : Vec ℕ Global) : Type 0 where
  pub empty : buffer.items ≡ []
  pub room : most_bytes ≤ vec_capacity buffer
