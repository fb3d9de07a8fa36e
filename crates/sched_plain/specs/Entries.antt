-- Entries: what stands in the ledger for each occurrence, and what is still unentered.
use Rattle.std.specs.Prelude.{ℕ, ◌+◌, ◌==◌, Bool, true, false, ◌&&◌, if◌then◌else◌, Option, Some, None, is_none, List, [], ◌∷◌, ◌++◌, map, length}
use Rattle.std.specs.List.{filter, find, list_any}
use Rattle.std.specs.Option.{option_map}
use Rattle.sched_plain.specs.declared.entry.Entry.{Entry}
use Rattle.sched_plain.specs.declared.entry.Filed.{Filed}
use Rattle.sched_plain.specs.declared.entry.Last.{Last}
use Rattle.sched_plain.specs.declared.entry.Last.TheVariants as lasts
use Rattle.sched_plain.specs.declared.schedule.Policy.{Policy}
use Rattle.sched_plain.specs.declared.step.Pair.{Pair}
use Rattle.sched_plain.specs.declared.outcome.Outcome.{Outcome}
use Rattle.sched_plain.specs.declared.outcome.Outcome.TheVariants as outcomes
use Rattle.sched_plain.specs.declared.outcome.Reason.{Reason}
use Rattle.sched_plain.specs.declared.outcome.Reason.TheVariants as reasons
use Rattle.plain_words.specs.declared.verdict.Verdict.{Verdict}
use Rattle.plain_words.specs.declared.verdict.Verdict.TheVariants as verdicts
use Rattle.plain_words.specs.Ids.{shard_of}
use Rattle.plain_words.specs.Lists.{last, some_pass, or_else}
use Rattle.sched_plain.specs.Ledger.{LedgerCall, Entered, Begun, Finished, Closed, Cancelled, Lost, Missed}

-- the pairs of an incarnation, in the order in which they were entered
abbrev pub entries : List LedgerCall → ℕ → List Pair
entries [] inc = []
entries (Entered of policy pairs ∷ before) inc = if inc == of then entries before inc ++ pairs else entries before inc
entries (call ∷ before) inc = entries before inc

-- the instants of pairs
abbrev pub instants_of : List Pair → List ℕ
instants_of pairs = map {A = Pair} (λ pair. pair.instant) pairs

-- one of the pairs has this instant
abbrev pub is_paired : List Pair → ℕ → Bool
is_paired pairs instant = list_any {X = Pair} (λ pair. instant == pair.instant) pairs

-- an entry with no attempt yet
abbrev pub new_entry : ℕ → Entry
new_entry chosen = record { chosen = chosen; used = 0; last = lasts.NoAttempt; outcome = None }

-- the entry with an outcome; the first one stays
abbrev pub decided_as : Outcome → Entry → Entry
decided_as outcome entry = record entry { outcome = or_else entry.outcome (Some outcome) }

-- the entry after the begin of its next attempt
abbrev pub with_begin : ℕ → Entry → Entry
with_begin at entry = record entry { used = entry.used + 1; last = lasts.Live at }

-- the entry after the end of its last attempt
abbrev pub with_end : Verdict → ℕ → Entry → Entry
with_end verdicts.Done at entry = decided_as outcomes.Done (record entry { last = lasts.Ended at })
with_end verdicts.Retry at entry = record entry { last = lasts.Ended at }
with_end verdicts.Final at entry = decided_as outcomes.Final (record entry { last = lasts.Ended at })

-- the outcome of a close
abbrev pub outcome_of : Reason → Outcome
outcome_of reasons.Attempts = outcomes.Attempts
outcome_of reasons.Age = outcomes.Age

-- what a live attempt is after it was lost
abbrev pub lost_last : ℕ → Last → Last
lost_last at (lasts.Live begun) = lasts.Lost at
lost_last at last = last

-- the entry after the loss of its attempt, where that is live
abbrev pub with_loss : ℕ → Entry → Entry
with_loss at entry = record entry { last = lost_last at entry.last }

-- the entry after the loss of its attempt of this number, where that is its last one and live
abbrev pub with_missed : ℕ → ℕ → Entry → Entry
with_missed number at entry = if number == entry.used then with_loss at entry else entry

-- what is filed, with its entry changed
abbrev pub on_entry : (Entry → Entry) → Filed → Filed
on_entry change filed = record filed { entry = change filed.entry }

-- what is filed, with its entry changed where a test holds
abbrev pub changed_if : Bool → (Entry → Entry) → Option Filed → Option Filed
changed_if true change filed = option_map (on_entry change) filed
changed_if false change filed = filed

-- the shard is the one that is named, or none is named
abbrev pub is_lost_in : Option ℕ → ℕ → Bool
is_lost_in None inc = true
is_lost_in (Some shard) inc = shard_of inc == shard

-- what these pairs file for an instant
abbrev pub filed_by : Policy → List Pair → ℕ → Option Filed
filed_by policy pairs instant =
    option_map {T = Pair} (λ pair. record { entry = new_entry pair.chosen; policy = policy }) (find (λ pair. instant == pair.instant) pairs)

-- what is filed for an occurrence: its entry, with the policy under which it was entered
abbrev pub filed : List LedgerCall → ℕ → ℕ → Option Filed
filed [] inc instant = None
filed (Entered of policy pairs ∷ before) inc instant =
    if inc == of then or_else (filed before inc instant) (filed_by policy pairs instant) else filed before inc instant
filed (Begun of at number epoch moment ∷ before) inc instant =
    changed_if (inc == of && instant == at) (with_begin moment) (filed before inc instant)
filed (Finished of at number verdict status moment ∷ before) inc instant =
    changed_if (inc == of && instant == at) (with_end verdict moment) (filed before inc instant)
filed (Closed of at reason ∷ before) inc instant =
    changed_if (inc == of && instant == at) (decided_as (outcome_of reason)) (filed before inc instant)
filed (Cancelled of ∷ before) inc instant =
    changed_if (inc == of) (decided_as outcomes.Cancelled) (filed before inc instant)
filed (Lost shard moment ∷ before) inc instant =
    changed_if (is_lost_in shard inc) (with_loss moment) (filed before inc instant)
filed (Missed of at number moment ∷ before) inc instant =
    changed_if (inc == of && instant == at) (with_missed number moment) (filed before inc instant)

-- the entry is not decided
abbrev pub is_open : Option Filed → Bool
is_open filed = some_pass (λ f. is_none f.entry.outcome) filed

-- how many entries of an incarnation are not decided
abbrev pub undecided : List LedgerCall → ℕ → ℕ
undecided calls inc = length (filter (λ instant. is_open (filed calls inc instant)) (instants_of (entries calls inc)))
