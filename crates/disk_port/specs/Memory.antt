-- What contracts see of the files in memory.
use Rattle.std.specs.Prelude.{◌≡◌, ◌⊎◌, ℕ, ◌+◌, ◌-◌, ◌^◌, ◌<◌, ◌≤◌, min, List, Contains}
use Rattle.outside.specs.Failing.{Failing}
use Rattle.disk_port.specs.declared.event.Event.{Event}

-- bytes in memory: those at first, and those now
pub record Held : Type 0 where
  pub first : List ℕ
  pub now : List ℕ

-- a file that fails at calls: what it held at first, what it went through, the newest first, the calls that are to
-- fail, and the first from which on each call does
pub record MemoryFile : Type 0 where
  pub first : List ℕ
  pub past : List Event
  pub failing : Failing
  pub stop : ℕ

-- the call of this number is to fail
abbrev pub IsToFail : MemoryFile → ℕ → Type 0
IsToFail file call = Contains file.failing.numbers call ⊎ ((file.stop ≤ call) × (file.stop < 2 ^ 64 - 1))

-- one more call was made of a file; what it held at first and the calls that are to fail stay
pub record CallMade (old new : MemoryFile) : Type 0 where
  pub first : new.first ≡ old.first
  pub numbers : new.failing.numbers ≡ old.failing.numbers
  pub stop : new.stop ≡ old.stop
  pub calls : new.failing.calls ≡ min (old.failing.calls + 1) (2 ^ 64 - 1)

-- a file that fails at nothing but want of memory: its faults so far
pub record SureFile : Type 0 where
  pub first : List ℕ
  pub past : List Event
  pub faults : ℕ
