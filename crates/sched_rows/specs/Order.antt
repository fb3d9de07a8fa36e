-- Lists whose elements are numbered from 1, and lists in order.
use Rattle.std.specs.Prelude.{◌≡◌, ℕ, ◌+◌, ◌-◌, ◌≤◌, ◌<◌, Bool, true, false, List, [], ◌∷◌, map, length, slice_index}
use Rattle.std.specs.List.{list_all}

-- the elements with their numbers
abbrev pub numbered : {A : Type 0} → ℕ → List A → List (ℕ × A)
numbered from [] = []
numbered from (x ∷ xs) = (from, x) ∷ numbered (from + 1) xs

-- the numbers of such elements
abbrev pub numbers_in : {A : Type 0} → List (ℕ × A) → List ℕ
numbers_in {A} placed = map {A = ℕ × A} (λ p. p.0) placed

-- each element comes before all that follow it
abbrev pub IsRising : {A : Type 0} → (A → A → Bool) → List A → Type 0
IsRising before [] = Unit {0}
IsRising before (x ∷ xs) = (list_all (before x) xs ≡ true) × IsRising before xs

-- the place from which on a test of numbers fails, seen at the two numbers beside it
pub record IsPlace (test : ℕ → Bool) (numbers : List ℕ) (at : ℕ) : Type 0 where
  pub within : at ≤ length numbers
  pub front : 1 ≤ at → test (slice_index numbers (at - 1)) ≡ true
  pub back : at < length numbers → test (slice_index numbers at) ≡ false
