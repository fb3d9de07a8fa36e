-- What a search has seen of a block.
use Rattle.std.specs.Prelude.{◌≡◌, ℕ, ◌/◌, ◌≤◌, ◌<◌, List, length, slice_index}
use Rattle.ledger_rows.specs.declared.blocks.TheConstants.{PER_BLOCK}

-- the numbers in the rest of a place's block are above a bound
abbrev pub NoneInBlock : List ℕ → ℕ → ℕ → Type 0
NoneInBlock numbers from bound = (j : ℕ) → from ≤ j → j < length numbers → j / PER_BLOCK ≡ from / PER_BLOCK → bound < slice_index numbers j
