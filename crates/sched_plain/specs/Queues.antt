-- Dead letters: an occurrence that failed for good makes one letter in the queue that its content names, if it
-- names one.
use Rattle.std.specs.Prelude.{ℕ, Option, Some, None, List, [], ◌∷◌, ◌++◌, map, if◌then◌else◌}
use Rattle.std.specs.List.{filter}
use Rattle.std.specs.Option.{option_and_then}
use Rattle.sched_plain.specs.declared.letter.Letter.{Letter}
use Rattle.sched_plain.specs.declared.schedule.Schedule.{Schedule}
use Rattle.sched_plain.specs.declared.step.Step.TheVariants as steps
use Rattle.sched_plain.specs.declared.outcome.Outcome.{Outcome}
use Rattle.sched_plain.specs.declared.outcome.Outcome.TheVariants as outcomes
use Rattle.plain_words.specs.declared.verdict.Verdict.{Verdict}
use Rattle.plain_words.specs.declared.verdict.Verdict.TheVariants as verdicts
use Rattle.sched_plain.specs.History.{History, beginning, based, ◌upon◌}
use Rattle.sched_plain.specs.Changes.{changes_of}
use Rattle.sched_plain.specs.Rows.{same_text, rows_of, content_at}
use Rattle.sched_plain.specs.Ledger.{ledger_of}
use Rattle.sched_plain.specs.Entries.{filed, is_open, outcome_of}

-- a letter with the queue that it lies in
pub record Posted : Type 0 where
  pub queue : List ℕ
  pub letter : Letter

-- the queue that the content of an occurrence names
abbrev pub queue_of : Option Schedule → Option (List ℕ)
queue_of content = option_and_then (λ c. c.queue) content

-- the letter of an occurrence, where its content names a queue
abbrev pub letter_in : Option (List ℕ) → ℕ → ℕ → Outcome → List Posted
letter_in None inc instant reason = []
letter_in (Some queue) inc instant reason =
    record { queue = queue; letter = record { inc = inc; instant = instant; reason = reason } } ∷ []

-- the letter of an End: of one with Final that decides an open entry
abbrev pub final_letter : Verdict → Option (List ℕ) → ℕ → ℕ → List Posted
final_letter verdicts.Final queue inc instant = letter_in queue inc instant outcomes.Final
final_letter verdict queue inc instant = []

-- all letters of a history, in order
abbrev pub posted : History → List Posted
posted beginning = []
posted (based b kept) = posted kept
posted (steps.End at inc instant number verdict status upon h) = posted h ++
    (if is_open (filed (ledger_of h) inc instant)
    then final_letter verdict (queue_of (content_at (rows_of (changes_of h)) inc instant)) inc instant else [])
posted (steps.Close at inc instant reason upon h) =
    posted h ++ letter_in (queue_of (content_at (rows_of (changes_of h)) inc instant)) inc instant (outcome_of reason)
posted (s upon h) = posted h

-- those of these letters that lie in a queue, in order
abbrev pub letters_of : List Posted → List ℕ → List Letter
letters_of all queue = map (λ p. p.letter) (filter (λ p. same_text queue p.queue) all)

-- the letters of a queue, in order
abbrev pub letters : History → List ℕ → List Letter
letters h queue = letters_of (posted h) queue
