-- What contracts see of a table of dates, and which incarnations a shard has.
use Rattle.std.specs.Prelude.{ℕ, ◌==◌, Option, List}
use Rattle.std.specs.List.{filter}
use Rattle.plain_words.specs.Ids.{shard_of}
use Rattle.plain_words.specs.Lists.{numbers}

-- the date of each incarnation, in the order of their numbers, and for how many more there is room
pub record Dated : Type 0 where
  pub dates : List (Option ℕ)
  pub room : ℕ

-- the incarnations of a shard, rising, where so many were created
abbrev pub of_shard : ℕ → ℕ → List ℕ
of_shard shard created = filter (λ inc. shard == shard_of inc) (numbers 1 created)
