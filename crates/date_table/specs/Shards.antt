-- How a table keeps its dates: a tree of numbers for each shard.
use Rattle.std.specs.Prelude.{◌≡◌, ℕ, ◌+◌, ◌-◌, ◌*◌, ◌/◌, ◌%◌, ◌<◌, ◌≤◌, nat_lt, min, Option, Some, None, List, [], map, length, slice_index, get_or}
use Rattle.plain_words.specs.declared.limits.TheConstants.{MOST_INCARNATIONS, SHARDS}
use Rattle.plain_words.specs.Ids.{shard_of}
use Rattle.plain_words.specs.Lists.{numbers, when}
use Rattle.min_tree.specs.Numbers.{Numbers}
use Rattle.date_table.specs.Dates.{never}

-- the number that is kept for a date
abbrev pub as_number : Option ℕ → ℕ
as_number None = never
as_number (Some date) = date

-- the date that a number is kept for
abbrev pub as_date : ℕ → Option ℕ
as_date number = when (nat_lt number never) number

-- the place of an incarnation in its shard's tree, from 0: as many in a row as there are shards have one place, each
-- in a tree of its own
abbrev pub place_of : ℕ → ℕ
place_of inc = (inc - 1) / SHARDS

-- the incarnation at a place of a shard's tree
abbrev pub inc_at : ℕ → ℕ → ℕ
inc_at shard place = SHARDS * place + (shard + SHARDS - 1) % SHARDS + 1

-- how many of so many incarnations a shard has
abbrev pub count_of : ℕ → ℕ → ℕ
count_of shard created = (created + SHARDS - 1 - (shard + SHARDS - 1) % SHARDS) / SHARDS

-- the tree of a shard
abbrev pub tree_of : List Numbers → ℕ → Numbers
tree_of trees shard = get_or trees shard (record { values = []; room = 0 })

-- the number that is kept for an incarnation
abbrev pub number_of : List Numbers → ℕ → ℕ
number_of trees inc = slice_index (tree_of trees (shard_of inc)).values (place_of inc)

-- the dates of so many incarnations
abbrev pub dates_in : List Numbers → ℕ → List (Option ℕ)
dates_in trees created = map (λ inc. as_date (number_of trees inc)) (numbers 1 created)

-- there is room for one more where the next incarnation's tree has room
abbrev pub room_in : List Numbers → ℕ → ℕ
room_in trees created = min 1 (tree_of trees (shard_of (created + 1))).room

-- a tree for each shard, with a number for each of so many incarnations
pub record IsSharded (trees : List Numbers) (created : ℕ) : Type 0 where
  pub shards : length trees ≡ SHARDS
  pub few : created ≤ MOST_INCARNATIONS
  pub counts : (shard : ℕ) → shard < SHARDS → length (tree_of trees shard).values ≡ count_of shard created
