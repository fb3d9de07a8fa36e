-- What a shelf of tokens stands for.
use Rattle.std.specs.Prelude.{◌≡◌, ℕ, List, map}
use Rattle.sched_plain.specs.Tokens.{Kept, kept_under}
use Rattle.sorted_blocks.specs.Pairs.{Pairs}
use Rattle.token_shelf.specs.declared.shelf.KeptWrite.{KeptWrite}

-- what contracts see of a shelf: what was kept, and for how many more tokens there is room
pub record Shelved : Type 0 where
  pub kept : List Kept
  pub room : ℕ

-- a shelf stands for what was kept: under each token it has the first that kept it
abbrev pub Keeps : Shelved → List Kept → Type 0
Keeps shelf kept = (token : List ℕ) → kept_under shelf.kept token ≡ kept_under kept token

-- what a pair of a token and a kept write shows
abbrev pub shown : List ℕ × KeptWrite → Kept
shown pair = record { token = pair.0; write = pair.1.write; place = pair.1.step }

-- what the pairs of a map show
abbrev pub kept_in : Pairs KeptWrite → List Kept
kept_in pairs = map {A = List ℕ × KeptWrite} shown pairs
