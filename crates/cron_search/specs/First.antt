-- The first of all things with some property, in an order that is given by numbers.
use Rattle.std.specs.Prelude.{ℕ, ◌≤◌}

-- `first` has the property, its place is `start` or later, and nothing else there has an earlier place
pub record IsFirst {A : Type 0} (Has : A → Type 0) (place : A → ℕ) (start : ℕ) (first : A) : Type 0 where
  pub has : Has first
  pub after : start ≤ place first
  pub least : (e : A) → Has e → start ≤ place e → place first ≤ place e

-- nothing from `start` on has the property
abbrev pub HasNone : {A : Type 0} → (A → Type 0) → (A → ℕ) → ℕ → Type 0
HasNone {A} Has place start = (e : A) → Has e → start ≤ place e → ⊥
