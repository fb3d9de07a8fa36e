-- What a write makes of a file, and what a crash may leave of it.
use Rattle.std.specs.Prelude.{◌≡◌, ℕ, ◌+◌, ◌-◌, ◌≤◌, min, List, ◌++◌, length, take, drop, replicate, Option, Some, None}

-- the file as long as this at least: what is missing are zeros
abbrev pub reaching : ℕ → List ℕ → List ℕ
reaching place file = file ++ replicate (place - length file) 0

-- the file with these bytes at this place
abbrev pub written : List ℕ → ℕ → List ℕ → List ℕ
written file at bytes = take at (reaching at file) ++ bytes ++ drop (at + length bytes) file

-- what the file has from a place on, at most so many bytes
abbrev pub piece : List ℕ → ℕ → ℕ → List ℕ
piece file at most = take most (drop at file)

-- after a write of n bytes that may have been cut short: any bytes in its range and past the old end, the old ones elsewhere
pub record Torn (at n : ℕ) (old new : List ℕ) : Type 0 where
  pub before : take (min at (length old)) new ≡ take at old
  pub after : take (length old - (at + n)) (drop (at + n) new) ≡ drop (at + n) old
  pub no_shorter : length old ≤ length new

-- what a read gives, where a disk tells it, after a write that failed
abbrev pub TearsSeen : ℕ → ℕ → Option (List ℕ) → Option (List ℕ) → Type 0
TearsSeen at n None new = new ≡ None
TearsSeen at n (Some old) new = (file : List ℕ) × (new ≡ Some file) × Torn at n old file
