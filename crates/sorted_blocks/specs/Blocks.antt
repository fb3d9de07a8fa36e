-- A map's pairs in blocks.
use Rattle.std.specs.Prelude.{◌≡◌, ◌≢◌, ℕ, ◌+◌, ◌<◌, ◌≤◌, true, false, Option, Some, None, List, [], ◌∷◌, ◌++◌, length, slice_index_or}
use Rattle.std.specs.List.{insert}
use Rattle.sorted_blocks.specs.Pairs.{Pairs}
use Rattle.sorted_blocks.specs.Order.{IsRising, IsGap, starts_behind}
use Rattle.sorted_blocks.specs.declared.block.TheConstants.{PER_BLOCK}

-- the pairs of all blocks, one block behind the other
abbrev pub joined : {V : Type 0} → List (Pairs V) → Pairs V
joined [] = []
joined (block ∷ blocks) = block ++ joined blocks

-- a block by its place; past the last there is an empty one
abbrev pub block_at : {V : Type 0} → List (Pairs V) → ℕ → Pairs V
block_at blocks i = slice_index_or blocks i []

-- no block is empty, except for the first
abbrev pub AreFilled : {V : Type 0} → List (Pairs V) → Type 0
AreFilled blocks = (i : ℕ) → 1 ≤ i → i < length blocks → 0 < length (block_at blocks i)

-- each block has room for one more pair, or one alone is full
abbrev pub Fit : {V : Type 0} → List (Pairs V) → Option ℕ → Type 0
Fit blocks None = (i : ℕ) → length (block_at blocks i) < PER_BLOCK
Fit blocks (Some full) =
    (full < length blocks) × (length (block_at blocks full) ≡ PER_BLOCK) × ((i : ℕ) → i ≢ full → length (block_at blocks i) < PER_BLOCK)

-- how many more pairs there is room for: one, except where no block is there or one is full
abbrev pub room_of : {V : Type 0} → List (Pairs V) → Option ℕ → ℕ
room_of [] full = 0
room_of (block ∷ blocks) None = 1
room_of (block ∷ blocks) (Some full) = 0

-- what holds of a map's blocks
pub record AreBlocks {V : Type 0} (blocks : List (Pairs V)) (full : Option ℕ) : Type 0 where
  pub rising : IsRising (joined blocks)
  pub filled : AreFilled blocks
  pub fit : Fit blocks full

-- a token's block: it starts no further behind, and the next one does
pub record IsPlaceFor {V : Type 0} (blocks : List (Pairs V)) (token : List ℕ) (at : ℕ) : Type 0 where
  pub within : at < length blocks
  pub from : 1 ≤ at → starts_behind token (block_at blocks at) ≡ false
  pub to : at + 1 < length blocks → starts_behind token (block_at blocks (at + 1)) ≡ true

-- the pairs after a new one was put into its gap
pub record IsPut {V : Type 0} (pairs : Pairs V) (token : List ℕ) (value : V) (after : Pairs V) : Type 0 where
  pub place : ℕ
  pub gap : IsGap pairs token place
  pub is : after ≡ insert pairs place (token, value)
