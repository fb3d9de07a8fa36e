-- The token that a write keeps.
use Rattle.std.specs.Prelude.{◌≡◌, ℕ, ◌≤◌, Option, Some, None, List, []}
use Rattle.std.specs.Option.{option_map}
use Rattle.sched_plain.specs.declared.write.Write.{Write}
use Rattle.sched_plain.specs.Tokens.{Kept, kept_under, kept_by, token_of}
use Rattle.token_shelf.specs.Shelves.{Shelved}

-- a token with the write that keeps it
abbrev pub Keeper : Type 0
Keeper = List ℕ × Write

-- the token of a write, with a copy of the write, where it has one
abbrev pub keeper_of : Write → Option Keeper
keeper_of write = option_map {U = Keeper} (λ token. (token, write)) (token_of write)

-- what is kept by the step at a place
abbrev pub kept_of_keeper : Option Keeper → ℕ → List Kept
kept_of_keeper None place = []
kept_of_keeper (Some keeper) place = kept_by (Some keeper.0) keeper.1 place

-- the shelf has room for the token, and has no such token
abbrev pub HasTokenRoom : Shelved → Option Keeper → Type 0
HasTokenRoom shelf None = Unit {0}
HasTokenRoom shelf (Some keeper) = (1 ≤ shelf.room) × (kept_under shelf.kept keeper.0 ≡ None)
