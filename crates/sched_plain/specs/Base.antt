-- A base: what is told of the part of a history that was folded away, in the place of its beginning. Entries that
-- were decided long ago are folded into counts; the steps that are kept stand behind the base, each with the place
-- that it had.
use Rattle.std.specs.Prelude.{ℕ, zero, suc, ◌+◌, ◌==◌, if◌then◌else◌, Option, Some, None, List, [], ◌∷◌}
use Rattle.std.specs.List.{find}
use Rattle.std.specs.Option.{option_map, unwrap_or}
use Rattle.plain_words.specs.Lists.{nth}

-- the floor of an incarnation: of its occurrences up to this instant, those without an entry were folded away
pub record Floor : Type 0 where
  pub inc : ℕ
  pub instant : ℕ

-- an attempt that was lost in the folded part, with the place and the moment of the step that lost it, and how many
-- of the kept steps stand before the loss
pub record Loss : Type 0 where
  pub behind : ℕ
  pub place : ℕ
  pub at : ℕ
  pub inc : ℕ
  pub instant : ℕ
  pub number : ℕ

-- how many entries were folded away, by their outcome
pub record Folded : Type 0 where
  pub done : ℕ
  pub finals : ℕ
  pub attempts : ℕ
  pub age : ℕ
  pub cancelled : ℕ

-- what is told: how many steps the folded part had and the moment of its last one; for each shard, from 0 on, its
-- epoch and who last took it; the floors; the folded counts; the places of the kept steps, rising; the losses
pub record Base : Type 0 where
  pub size : ℕ
  pub at : ℕ
  pub epochs : List ℕ
  pub takers : List ℕ
  pub floors : List Floor
  pub folded : Folded
  pub places : List ℕ
  pub losses : List Loss

-- nothing was folded
abbrev pub none_folded : Folded
none_folded = record { done = 0; finals = 0; attempts = 0; age = 0; cancelled = 0 }

-- all that was folded
abbrev pub sum_of_folded : Folded → ℕ
sum_of_folded folded = folded.done + folded.finals + folded.attempts + folded.age + folded.cancelled

-- the number of a shard in one of the lists
abbrev pub of_the_shard : List ℕ → ℕ → ℕ
of_the_shard numbers shard = unwrap_or (nth numbers (shard + 1)) 0

-- which of the kept steps has this place, from 1; 0 where none has
abbrev pub one_further : ℕ → ℕ
one_further zero = 0
one_further (suc n) = suc (suc n)

abbrev pub kept_at : List ℕ → ℕ → ℕ
kept_at [] place = 0
kept_at (p ∷ places) place = if place == p then 1 else one_further (kept_at places place)

-- the place of a kept step that is counted from 1 among the kept ones
abbrev pub place_of : List ℕ → ℕ → ℕ
place_of places kept = unwrap_or (nth places kept) 0

-- the floor of an incarnation, if it has one
abbrev pub floor_in : List Floor → ℕ → Option ℕ
floor_in floors inc = option_map {T = Floor} (λ floor. floor.instant) (find (λ floor. inc == floor.inc) floors)

-- the first moment above a floor: 0 where there is none
abbrev pub above : Option ℕ → ℕ
above None = 0
above (Some floor) = floor + 1
