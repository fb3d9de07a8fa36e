-- What a search answers.
use Rattle.min_tree.specs.declared.nodes.TheConstants.{ABOVE_ALL}
use Rattle.std.specs.Prelude.{ℕ, ◌≤◌, ◌<◌, min, List, [], ◌∷◌, length, slice_index}

-- the numbers from one place up to another are above the bound
abbrev pub AllAbove : List ℕ → ℕ → ℕ → ℕ → Type 0
AllAbove values from to bound = (j : ℕ) → from ≤ j → j < to → bound < slice_index values j

-- this place is the first, at or behind one, whose number is at most the bound
pub record IsFirstAtMost (values : List ℕ) (from bound place : ℕ) : Type 0 where
  pub behind : from ≤ place
  pub in_range : place < length values
  pub low : slice_index values place ≤ bound
  pub before : AllAbove values from place bound

-- the least number of a list; of none it is the greatest that there is
abbrev pub least : List ℕ → ℕ
least [] = ABOVE_ALL
least (x ∷ xs) = min x (least xs)
