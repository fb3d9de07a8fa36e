-- Occurrences with their attempts, and dead letters, as bodies show them.
use Rattle.std.specs.Prelude.{ℕ, List, [], ◌∷◌, codes}
use Rattle.std.specs.List.{flat_map}
use Rattle.json.specs.Token.{Token}
use Rattle.plain_words.specs.Ids.{id_text}
use Rattle.sched_plain.specs.declared.entry.Attempt.{Attempt}
use Rattle.sched_plain.specs.declared.entry.Entry.{Entry}
use Rattle.sched_calls.specs.declared.letter_row.LetterRow.{LetterRow}
use Rattle.sched_calls.specs.Replies.{schedule_arn}
use Rattle.reply_bodies.specs.Members.{object_of, list_of, member_of, text_member, number_member}
use Rattle.reply_bodies.specs.Words.{fate_word, outcome_word, decided_word}

-- one attempt
abbrev pub attempt_shown : Attempt → List Token
attempt_shown attempt =
    object_of (
    number_member (codes "Begun") attempt.begun.0
    ∷ number_member (codes "Number") attempt.number
    ∷ text_member (codes "Verdict") (fate_word attempt.fate)
    ∷ [])

-- an occurrence of a schedule with its attempts, member by member
abbrev pub execution_members : List ℕ → List ℕ → ℕ → ℕ → Entry → List Attempt → List (List Token)
execution_members group name inc instant entry attempts =
    member_of (codes "Attempts") (list_of (flat_map attempt_shown attempts))
    ∷ number_member (codes "Chosen") entry.chosen
    ∷ text_member (codes "ExecutionId") (id_text inc instant)
    ∷ number_member (codes "Instant") instant
    ∷ text_member (codes "Outcome") (decided_word entry.outcome)
    ∷ text_member (codes "ScheduleArn") (schedule_arn group name)
    ∷ []

-- one dead letter
abbrev pub letter_shown : LetterRow → List Token
letter_shown row =
    object_of (
    text_member (codes "ExecutionId") (id_text row.inc row.instant)
    ∷ number_member (codes "Number") row.number
    ∷ text_member (codes "Reason") (outcome_word row.reason)
    ∷ text_member (codes "ScheduleArn") (schedule_arn row.group row.name)
    ∷ [])

-- dead letters of a queue
abbrev pub letters_shown : List LetterRow → List Token
letters_shown rows = object_of (member_of (codes "Letters") (list_of (flat_map letter_shown rows)) ∷ [])
