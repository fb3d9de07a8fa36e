-- How many entries are decided, by their outcome, and how the others stand.
use Rattle.std.specs.Prelude.{◌≡◌, ℕ, ◌+◌, ◌-◌, ◌≤◌, ◌==◌, if◌then◌else◌, List, [], length}
use Rattle.std.specs.List.{flat_map}
use Rattle.plain_words.specs.Ids.{shard_of}
use Rattle.plain_words.specs.Lists.{numbers}
use Rattle.sched_plain.specs.declared.standing.Standing.{Standing}
use Rattle.sched_plain.specs.Report.{number_of, one_more_if, is_done, is_final, is_closed_by_attempts, is_closed_by_age, is_cancelled, is_waiting, is_due, is_live, is_exhausted}
use Rattle.entry_lines.specs.Rows.{LaneRows}
use Rattle.entry_lines.specs.declared.entry_lines.TheConstants.{MOST_ENTRIES}
use Rattle.ledger_rows.specs.declared.counts.EntryCounts.{EntryCounts}
use Rattle.ledger_rows.specs.declared.tally.Tally.{Tally}
use Rattle.ledger_rows.specs.declared.open_entries.OpenCounts.{OpenCounts}
use Rattle.ledger_rows.specs.State.{lane_standings, pairs_in}

-- how many of some standings are decided, by the outcome
abbrev pub tally_of : List Standing → Tally
tally_of all =
    record {
      done = number_of is_done all;
      finals = number_of is_final all;
      attempts = number_of is_closed_by_attempts all;
      age = number_of is_closed_by_age all;
      cancelled = number_of is_cancelled all;
    }

-- a tally with some of its entries changed: what these were goes out, and what they are comes in
abbrev pub replaced : Tally → Tally → Tally → Tally
replaced whole from to =
    record {
      done = whole.done - from.done + to.done;
      finals = whole.finals - from.finals + to.finals;
      attempts = whole.attempts - from.attempts + to.attempts;
      age = whole.age - from.age + to.age;
      cancelled = whole.cancelled - from.cancelled + to.cancelled;
    }

-- the entries of one tally are among those of another
pub record IsAmong (part whole : Tally) : Type 0 where
  pub done : part.done ≤ whole.done
  pub finals : part.finals ≤ whole.finals
  pub attempts : part.attempts ≤ whole.attempts
  pub age : part.age ≤ whole.age
  pub cancelled : part.cancelled ≤ whole.cancelled

-- a tally of so many entries at most
pub record IsUpTo (most : ℕ) (tally : Tally) : Type 0 where
  pub done : tally.done ≤ most
  pub finals : tally.finals ≤ most
  pub attempts : tally.attempts ≤ most
  pub age : tally.age ≤ most
  pub cancelled : tally.cancelled ≤ most

-- how those of some standings that are not decided stand
abbrev pub open_counts : List Standing → OpenCounts
open_counts all =
    record {
      waiting = number_of is_waiting all;
      due = number_of is_due all;
      live = number_of is_live all;
      exhausted = number_of is_exhausted all;
    }

-- the same with one standing more
abbrev pub with_standing : Standing → OpenCounts → OpenCounts
with_standing standing open_ones =
    record {
      waiting = one_more_if (is_waiting standing) open_ones.waiting;
      due = one_more_if (is_due standing) open_ones.due;
      live = one_more_if (is_live standing) open_ones.live;
      exhausted = one_more_if (is_exhausted standing) open_ones.exhausted;
    }

-- the same with others
abbrev pub together : OpenCounts → OpenCounts → OpenCounts
together some others =
    record {
      waiting = some.waiting + others.waiting;
      due = some.due + others.due;
      live = some.live + others.live;
      exhausted = some.exhausted + others.exhausted;
    }

-- counts of so many entries at most
pub record AreUpTo (most : ℕ) (open_ones : OpenCounts) : Type 0 where
  pub waiting : open_ones.waiting ≤ most
  pub due : open_ones.due ≤ most
  pub live : open_ones.live ≤ most
  pub exhausted : open_ones.exhausted ≤ most

-- how many entries both are
abbrev pub sum_of : Tally → OpenCounts → ℕ
sum_of tally open_ones =
    tally.done + tally.finals + tally.attempts + tally.age + tally.cancelled + open_ones.waiting + open_ones.due + open_ones.live + open_ones.exhausted

-- both, as the numbers of entries
abbrev pub counts_by : Tally → OpenCounts → EntryCounts
counts_by tally open_ones =
    record {
      entries = sum_of tally open_ones;
      done = tally.done;
      finals = tally.finals;
      attempts = tally.attempts;
      age = tally.age;
      cancelled = tally.cancelled;
      waiting = open_ones.waiting;
      due = open_ones.due;
      live = open_ones.live;
      exhausted = open_ones.exhausted;
    }

-- the standings at a moment of the entries of all incarnations
abbrev pub all_in : List LaneRows → ℕ → List Standing
all_in lanes now = flat_map (lane_standings lanes now) (numbers 0 (length lanes))

-- and of those of a shard
abbrev pub in_shard : List LaneRows → ℕ → ℕ → List Standing
in_shard lanes shard now =
    flat_map (λ inc. if shard_of inc == shard then lane_standings lanes now inc else []) (numbers 0 (length lanes))

-- an incarnation has no more entries than it may have
abbrev pub AreFew : List LaneRows → Type 0
AreFew lanes = (inc : ℕ) → length (pairs_in lanes inc) ≤ MOST_ENTRIES

-- a tally is of the entries of these lanes; no moment changes what is decided
pub record AreTallied (lanes : List LaneRows) (tally : Tally) : Type 0 where
  pub value : tally ≡ tally_of (all_in lanes 0)
  pub few : AreFew lanes
