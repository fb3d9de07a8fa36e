-- What dead letters stand for: letters as they were posted, each with its queue.
use Rattle.std.specs.Prelude.{◌≡◌, ℕ, List}
use Rattle.sched_plain.specs.declared.letter.Letter.{Letter}
use Rattle.sched_plain.specs.Queues.{Posted, letters_of}
use Rattle.dead_letters.specs.Piles.{Piles, letters_in}

-- each queue has the letters that were posted to it
abbrev pub Holds : Piles → List Posted → Type 0
Holds piles posted = (queue : List ℕ) → letters_in piles queue ≡ letters_of posted queue

-- a letter with its queue
abbrev pub post : List ℕ → Letter → Posted
post queue letter = record { queue = queue; letter = letter }
