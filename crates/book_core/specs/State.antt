-- What contracts see of a book, for which histories it stands, and which step may follow them.
use Rattle.std.specs.Prelude.{◌+◌, ◌≤◌, ◌^◌, Option}
use Rattle.sched_plain.specs.declared.step.Step.{Step}
use Rattle.sched_plain.specs.History.{History}
use Rattle.sched_plain.specs.Legal.{MayFollow}
use Rattle.sched_plain.specs.Validity.{IsValid, AllValid}
use Rattle.book_parts.specs.Told.{Told}
use Rattle.book_parts.specs.Stands.{Stands as PartsStand, calendar}
use Rattle.book_writes.specs.Keeping.{Keeper}
use Rattle.book_core.specs.Room.{weight, HasRoom as PartsHaveRoom}

-- the parts, and the token with the copy of its write that lie at hand
pub record Booked : Type 0 where
  pub parts : Told
  pub spare : Option Keeper

-- the parts stand for a history of valid steps
pub record StandFor (b : Told) (h : History) : Type 0 where
  pub parts : PartsStand b h
  pub valid : AllValid h

-- the step may follow whatever these parts stand for
abbrev pub MayTake : Told → Step → Type 0
MayTake b s = (h : History) → StandFor b h → MayFollow calendar h s

-- some history has brought the parts about
pub record Stood (b : Told) : Type 0 where
  pub history : History
  pub stands : StandFor b history

-- one has, and each attempt in the air has its place among the steps that can be counted
pub record IsSound (b : Told) : Type 0 where
  pub stood : Stood b
  pub light : weight b ≤ 2 ^ 62 + 1

-- the parts can take a step: it is valid, may follow, and has room
pub record CanTake (b : Told) (spare : Option Keeper) (s : Step) : Type 0 where
  pub valid : IsValid s
  pub sound : IsSound b
  pub may : MayTake b s
  pub room : PartsHaveRoom b spare s

-- the same words of a book
abbrev pub Stands : Booked → History → Type 0
Stands book h = StandFor book.parts h

abbrev pub May : Booked → Step → Type 0
May book s = MayTake book.parts s

abbrev pub HasRoom : Booked → Step → Type 0
HasRoom book s = PartsHaveRoom book.parts book.spare s
