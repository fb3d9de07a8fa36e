-- What dead letters hold: for each queue its letters, in order, and how many more there is room for.
use Rattle.std.specs.Prelude.{ℕ, Option, Some, None, List, []}
use Rattle.std.specs.Map.{lookup}
use Rattle.plain_words.specs.Lists.{same_text}
use Rattle.sched_plain.specs.declared.letter.Letter.{Letter}

-- the letters of one queue, and the room for more
pub record Piled : Type 0 where
  pub letters : List Letter
  pub room : ℕ

-- queues with their piles
abbrev pub Piles : Type 0
Piles = List (List ℕ × Piled)

-- the pile of a queue, if it has one
abbrev pub pile_under : Piles → List ℕ → Option Piled
pile_under piles queue = lookup (same_text queue) piles

-- the letters of what may be a pile
abbrev pub letters_on : Option Piled → List Letter
letters_on None = []
letters_on (Some pile) = pile.letters

-- the room of what may be a pile
abbrev pub room_on : Option Piled → ℕ
room_on None = 0
room_on (Some pile) = pile.room

-- the letters of a queue, in order
abbrev pub letters_in : Piles → List ℕ → List Letter
letters_in piles queue = letters_on (pile_under piles queue)

-- how many more letters of a queue there is room for
abbrev pub room_in : Piles → List ℕ → ℕ
room_in piles queue = room_on (pile_under piles queue)
