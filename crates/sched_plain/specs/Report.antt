-- What the report counts.
use Rattle.std.specs.Prelude.{ℕ, ◌+◌, ◌==◌, Bool, true, false, if◌then◌else◌, Option, Some, None, List, [], ◌∷◌, length}
use Rattle.std.specs.List.{flat_map}
use Rattle.std.specs.Option.{option_to_list, option_map}
use Rattle.sched_plain.specs.declared.counts.Counts.{Counts}
use Rattle.sched_plain.specs.declared.standing.Standing.{Standing}
use Rattle.sched_plain.specs.declared.standing.Standing.TheVariants as standings
use Rattle.sched_plain.specs.declared.step.Pair.{Pair}
use Rattle.sched_plain.specs.declared.step.Step.TheVariants as steps
use Rattle.sched_plain.specs.declared.outcome.Outcome.TheVariants as outcomes
use Rattle.plain_words.specs.declared.moment.Moment.{Moment}
use Rattle.sched_plain.specs.Base.{Folded, none_folded, sum_of_folded}
use Rattle.sched_plain.specs.History.{History, beginning, based, ◌upon◌, count}
use Rattle.plain_words.specs.Lists.{numbers}
use Rattle.sched_plain.specs.Changes.{changes_of}
use Rattle.sched_plain.specs.Rows.{rows_of}
use Rattle.sched_plain.specs.Groups.{groups_of, living_count}
use Rattle.sched_plain.specs.Ledger.{LedgerCall, ledger_of}
use Rattle.sched_plain.specs.Entries.{entries, filed}
use Rattle.sched_plain.specs.Standing.{standing_of}
use Rattle.sched_plain.specs.Queues.{posted}

-- the standings at a moment of the entries of an incarnation
abbrev pub standings_of : List LedgerCall → ℕ → ℕ → List Standing
standings_of calls t inc =
    flat_map {X = Pair} (λ pair. option_to_list (option_map (λ f. standing_of f t) (filed calls inc pair.instant))) (entries calls inc)

-- the standings at a moment of all entries of so many incarnations
abbrev pub all_standings : List LedgerCall → ℕ → ℕ → List Standing
all_standings calls created t = flat_map (standings_of calls t) (numbers 1 created)

abbrev pub one_more_if : Bool → ℕ → ℕ
one_more_if true n = n + 1
one_more_if false n = n

-- how many pass a test
abbrev pub number_of : (Standing → Bool) → List Standing → ℕ
number_of test [] = 0
number_of test (standing ∷ all) = one_more_if (test standing) (number_of test all)

-- the tests by which the report counts: each standing passes just one of the nine
abbrev pub is_done : Standing → Bool
is_done (standings.Decided outcomes.Done) = true
is_done standing = false

abbrev pub is_final : Standing → Bool
is_final (standings.Decided outcomes.Final) = true
is_final standing = false

abbrev pub is_closed_by_attempts : Standing → Bool
is_closed_by_attempts (standings.Decided outcomes.Attempts) = true
is_closed_by_attempts standing = false

abbrev pub is_closed_by_age : Standing → Bool
is_closed_by_age (standings.Decided outcomes.Age) = true
is_closed_by_age standing = false

abbrev pub is_cancelled : Standing → Bool
is_cancelled (standings.Decided outcomes.Cancelled) = true
is_cancelled standing = false

abbrev pub is_waiting : Standing → Bool
is_waiting (standings.Waiting until) = true
is_waiting standing = false

abbrev pub is_due : Standing → Bool
is_due standings.Due = true
is_due standing = false

abbrev pub is_live : Standing → Bool
is_live standings.Live = true
is_live standing = false

abbrev pub is_exhausted : Standing → Bool
is_exhausted (standings.Exhausted reason) = true
is_exhausted standing = false

-- how many entries were folded away before a history, by their outcome
abbrev pub folded : History → Folded
folded beginning = none_folded
folded (based b kept) = b.folded
folded (s upon h) = folded h

-- the counts of a history at a moment, with those that were folded away
abbrev pub counts : History → ℕ → Counts
counts h t = let rows = rows_of (changes_of h) in let all = all_standings (ledger_of h) (length rows) t in
    record {
      moment = t;
      steps = count h;
      schedules = living_count rows;
      groups = length (groups_of (changes_of h));
      entries = length all + sum_of_folded (folded h);
      done = number_of is_done all + (folded h).done;
      finals = number_of is_final all + (folded h).finals;
      attempts = number_of is_closed_by_attempts all + (folded h).attempts;
      age = number_of is_closed_by_age all + (folded h).age;
      cancelled = number_of is_cancelled all + (folded h).cancelled;
      waiting = number_of is_waiting all;
      due = number_of is_due all;
      live = number_of is_live all;
      exhausted = number_of is_exhausted all;
      letters = length (posted h);
    }

-- the moment of the last Swept of a shard since the last Boot; a base is one
abbrev pub last_swept : History → ℕ → Option Moment
last_swept beginning shard = None
last_swept (based b kept) shard = None
last_swept (steps.Boot at upon h) shard = None
last_swept (steps.Swept at of upon h) shard = if shard == of then Some at else last_swept h shard
last_swept (s upon h) shard = last_swept h shard
