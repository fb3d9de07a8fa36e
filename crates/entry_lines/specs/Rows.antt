-- What contracts see of the entries of one incarnation.
use Rattle.std.specs.Prelude.{ℕ, None, List, [], slice_index_or}
use Rattle.sched_plain.specs.declared.entry.Attempt.{Attempt}
use Rattle.sched_plain.specs.declared.entry.Entry.{Entry}
use Rattle.sched_plain.specs.declared.entry.Filed.{Filed}
use Rattle.sched_plain.specs.declared.schedule.Policy.{Policy}
use Rattle.sched_plain.specs.declared.step.Pair.{Pair}
use Rattle.sched_plain.specs.Entries.{on_entry, new_entry}

-- an occurrence: its instant, its entry with the policy, and its attempts in order
pub record Row : Type 0 where
  pub instant : ℕ
  pub filed : Filed
  pub attempts : List Attempt

-- the occurrences in the order in which they were entered, the room for more of them, and that for more attempts
pub record LaneRows : Type 0 where
  pub rows : List Row
  pub room : ℕ
  pub begins : ℕ

abbrev pub no_policy : Policy
no_policy = record { retries = 0; age = 0 }

abbrev pub no_row : Row
no_row = record { instant = 0; filed = record { entry = new_entry 0; policy = no_policy }; attempts = [] }

-- the occurrence at a place
abbrev pub row_there : List Row → ℕ → Row
row_there rows place = slice_index_or rows place no_row

-- the entry of a pair, with no attempt yet
abbrev pub new_row : Policy → Pair → Row
new_row policy pair =
    record { instant = pair.instant; filed = record { entry = new_entry pair.chosen; policy = policy }; attempts = [] }

-- an occurrence whose entry and attempts are changed
abbrev pub changed : (Entry → Entry) → (List Attempt → List Attempt) → Row → Row
changed change grow row = record row { filed = on_entry change row.filed; attempts = grow row.attempts }
