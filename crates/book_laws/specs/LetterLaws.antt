-- The dead letters of a legal history.
use Rattle.std.specs.Prelude.{◌≡◌, ℕ, ◌==◌, Bool, false, ◌&&◌, Option, Some, None, List, []}
use Rattle.std.specs.List.{filter}
use Rattle.sched_plain.specs.declared.letter.Letter.{Letter}
use Rattle.sched_plain.specs.declared.outcome.Outcome.{Outcome}
use Rattle.sched_plain.specs.declared.outcome.Outcome.TheVariants as outcomes
use Rattle.sched_plain.specs.History.{History}
use Rattle.plain_words.specs.Lists.{only_if}
use Rattle.sched_plain.specs.Changes.{changes_of}
use Rattle.sched_plain.specs.Rows.{same_text, rows_of, content_at}
use Rattle.expressions.specs.Calendar.{Calendar}
use Rattle.sched_plain.specs.Queues.{queue_of, letters}
use Rattle.sched_plain.specs.Legal.{IsLegal}
use Rattle.book_laws.specs.OutcomeLaws.{decision}

-- the letter is about this occurrence
abbrev pub is_about : ℕ → ℕ → Letter → Bool
is_about inc instant letter = inc == letter.inc && instant == letter.instant

-- the queue that the content of an occurrence names, if it names one
abbrev pub queue_named : History → ℕ → ℕ → Option (List ℕ)
queue_named h inc instant = queue_of (content_at (rows_of (changes_of h)) inc instant)

-- the queue is the one that is named
abbrev pub is_that_queue : Option (List ℕ) → List ℕ → Bool
is_that_queue None queue = false
is_that_queue (Some named) queue = same_text queue named

-- the letters that an outcome owes a queue: one of an entry that ended with Final or was closed, if that is its
-- queue; none of one that is open, done or cancelled
abbrev pub letters_owed : Option Outcome → Bool → ℕ → ℕ → List Letter
letters_owed None here inc instant = []
letters_owed (Some outcomes.Done) here inc instant = []
letters_owed (Some outcomes.Cancelled) here inc instant = []
letters_owed (Some reason) here inc instant = only_if here (record { inc = inc; instant = instant; reason = reason })

-- the letters of a queue about an occurrence are just those that the outcome of its entry owes the queue
abbrev pub LettersAreOwed : Type 0
LettersAreOwed =
    (c : Calendar) (h : History) → IsLegal c h → (queue : List ℕ) (inc instant : ℕ)
    → filter (is_about inc instant) (letters h queue) ≡ letters_owed (decision h inc instant) (is_that_queue (queue_named h inc instant) queue) inc instant
