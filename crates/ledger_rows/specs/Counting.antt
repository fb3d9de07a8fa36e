-- How many entries stand where, over the calls of a ledger alone.
use Rattle.std.specs.Prelude.{◌≡◌, ℕ, ◌<◌, List, [], length}
use Rattle.sched_plain.specs.declared.standing.Standing.{Standing}
use Rattle.sched_plain.specs.Ledger.{LedgerCall}
use Rattle.sched_plain.specs.Entries.{entries}
use Rattle.sched_plain.specs.Report.{all_standings, number_of, is_done, is_final, is_closed_by_attempts, is_closed_by_age, is_cancelled, is_waiting, is_due, is_live, is_exhausted}
use Rattle.ledger_rows.specs.declared.counts.EntryCounts.{EntryCounts}

-- the entries are of incarnations from 1 up to this number
pub record IsWithin (calls : List LedgerCall) (created : ℕ) : Type 0 where
  pub none_before : entries calls 0 ≡ []
  pub none_behind : (inc : ℕ) → created < inc → entries calls inc ≡ []

-- the numbers at a moment
abbrev pub counted : List Standing → EntryCounts
counted all =
    record {
      entries = length all;
      done = number_of is_done all;
      finals = number_of is_final all;
      attempts = number_of is_closed_by_attempts all;
      age = number_of is_closed_by_age all;
      cancelled = number_of is_cancelled all;
      waiting = number_of is_waiting all;
      due = number_of is_due all;
      live = number_of is_live all;
      exhausted = number_of is_exhausted all;
    }

-- the same of the entries of so many incarnations
abbrev pub entry_counts : List LedgerCall → ℕ → ℕ → EntryCounts
entry_counts calls created now = counted (all_standings calls created now)
