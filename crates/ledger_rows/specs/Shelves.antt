-- The numbers of the incarnations, a shelf for each shard, and what they tell of the lanes.
use Rattle.std.specs.Prelude.{◌≡◌, ℕ, ◌/◌, ◌<◌, ◌==◌, if◌then◌else◌, List, [], ◌∷◌, ◌++◌, length, slice_index, slice_index_or, slice_set}
use Rattle.std.specs.List.{All}
use Rattle.min_tree.specs.Numbers.{Numbers}
use Rattle.min_tree.specs.declared.nodes.TheConstants.{ABOVE_ALL}
use Rattle.plain_words.specs.Ids.{shard_of}
use Rattle.plain_words.specs.declared.limits.TheConstants.{SHARDS}
use Rattle.ledger_rows.specs.Numbers.{lane_number}
use Rattle.ledger_rows.specs.Rows.{IsSmallRow}
use Rattle.entry_lines.specs.Rows.{LaneRows}
use Rattle.ledger_rows.specs.State.{lane_of}

abbrev pub no_numbers : Numbers
no_numbers = record { values = []; room = 0 }

-- the numbers of a shard's incarnations, in their order; none where the shard has no tree
abbrev pub shelf : List Numbers → ℕ → List ℕ
shelf trees shard = (slice_index_or trees shard no_numbers).values

-- an incarnation has a place on the shelf of its shard, and the number there
abbrev pub HasPlace : List Numbers → ℕ → Type 0
HasPlace trees inc = inc / SHARDS < length (shelf trees (shard_of inc))

abbrev pub number_there : List Numbers → ℕ → ℕ
number_there trees inc = slice_index (shelf trees (shard_of inc)) (inc / SHARDS)

-- each incarnation that has a lane has a place, and at each place is the least number of the incarnation's entries
pub record AreShelved (lanes : List LaneRows) (trees : List Numbers) : Type 0 where
  pub there : (inc : ℕ) → inc < length lanes → HasPlace trees inc
  pub each : (inc : ℕ) → HasPlace trees inc → number_there trees inc ≡ lane_number (lane_of lanes inc).rows
  pub small : (inc : ℕ) → All IsSmallRow (lane_of lanes inc).rows

-- the shelves are as they were
abbrev pub AreSameShelves : List Numbers → List Numbers → Type 0
AreSameShelves old new = (s : ℕ) → shelf new s ≡ shelf old s

-- an incarnation has this number now
abbrev pub IsNoted : List Numbers → List Numbers → ℕ → ℕ → Type 0
IsNoted old new inc number =
    (s : ℕ) → shelf new s ≡ (if s == shard_of inc then slice_set (shelf old (shard_of inc)) (inc / SHARDS) number else shelf old s)

-- a shelf has one place more, of an incarnation with no entries
abbrev pub IsLonger : List Numbers → List Numbers → ℕ → Type 0
IsLonger old new shard = (s : ℕ) → shelf new s ≡ (if s == shard then shelf old shard ++ ABOVE_ALL ∷ [] else shelf old s)
