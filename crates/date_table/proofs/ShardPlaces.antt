-- Incarnations, their shards and their places there.
use Rattle.std.proofs.Common.{◌≡◌, ℕ, ◌+◌, ◌<◌, ◌≤◌, arith}
use Rattle.plain_words.specs.Ids.{shard_of}
use Rattle.date_table.specs.Shards.{place_of, inc_at, count_of}

pub shard_small : (inc : ℕ) → shard_of inc < 8
shard_small inc = omega arith

pub shard_at : (shard place : ℕ) → shard < 8 → shard_of (inc_at shard place) ≡ shard
shard_at shard place small = omega arith

pub place_at : (shard place : ℕ) → shard < 8 → place_of (inc_at shard place) ≡ place
place_at shard place small = omega arith

pub within_count : (inc n : ℕ) → 1 ≤ inc → inc ≤ n → place_of inc < count_of (shard_of inc) n
within_count inc n low up = omega arith

pub at_within : (shard place n : ℕ) → shard < 8 → place < count_of shard n → inc_at shard place ≤ n
at_within shard place n small lt = omega arith

pub places_rise : (inc other : ℕ) → 1 ≤ inc → inc < other → shard_of inc ≡ shard_of other → place_of inc < place_of other
places_rise inc other low lt same = omega arith

pub count_mine : (n : ℕ) → count_of (shard_of (n + 1)) (n + 1) ≡ count_of (shard_of (n + 1)) n + 1
count_mine n = omega arith

pub count_other : (shard n : ℕ) → shard < 8 → (shard ≡ shard_of (n + 1) → ⊥) → count_of shard (n + 1) ≡ count_of shard n
count_other shard n small other = omega arith

pub place_next : (n : ℕ) → place_of (n + 1) ≡ count_of (shard_of (n + 1)) n
place_next n = omega arith

pub places_apart : (inc other : ℕ) → 1 ≤ inc → 1 ≤ other → shard_of inc ≡ shard_of other → (inc ≡ other → ⊥) → place_of inc ≡ place_of other → ⊥
places_apart inc other low least same apart e = omega arith
