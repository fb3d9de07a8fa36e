-- What the rules look at: all that may be asked of a history when the next step is judged.
use Rattle.std.specs.Prelude.{ℕ, Bool, Option, List, length}
use Rattle.sched_plain.specs.declared.entry.Filed.{Filed}
use Rattle.sched_plain.specs.declared.holder.Holder.{Holder}
use Rattle.sched_plain.specs.declared.schedule.Schedule.{Schedule}
use Rattle.sched_plain.specs.declared.step.Pair.{Pair}
use Rattle.sched_plain.specs.declared.why.RowFault.{RowFault}
use Rattle.sched_plain.specs.declared.write.Write.{Write}
use Rattle.sched_plain.specs.History.{History}
use Rattle.sched_plain.specs.Moments.{moment}
use Rattle.sched_plain.specs.Changes.{changes_of}
use Rattle.sched_plain.specs.Rows.{rows_of, touched_by, content_at, current}
use Rattle.sched_plain.specs.Groups.{groups_of, row_fault}
use Rattle.sched_plain.specs.Zones.{bytes_of}
use Rattle.sched_plain.specs.Items.{items, rezoned_by}
use Rattle.expressions.specs.Calendar.{Calendar}
use Rattle.sched_plain.specs.Occurrences.{has_later}
use Rattle.sched_plain.specs.Marks.{unentered}
use Rattle.sched_plain.specs.Leases.{holder}
use Rattle.sched_plain.specs.Ledger.{ledger_of}
use Rattle.sched_plain.specs.Entries.{entries, filed}
use Rattle.sched_plain.specs.Tokens.{kept_place}

-- which bytes are a zone, and the bytes of a name
pub record ZonesSeen : Type 0 where
  pub readable : List ℕ → Bool
  pub bytes : List ℕ → Option (List ℕ)

-- how many incarnations there are, the first fault of a write, the incarnations that a write or a zone's new bytes
-- touch, rising, the content of an incarnation at an instant, and the current one of one that lives
pub record RowsSeen : Type 0 where
  pub created : ℕ
  pub fault : Write → Option RowFault
  pub touched : Write → List ℕ
  pub rezoned : List ℕ → List ℕ
  pub content : ℕ → ℕ → Option Schedule
  pub current : ℕ → Option Schedule

-- the unentered occurrences of an incarnation up to a moment, and whether it has an occurrence later than one
pub record TimesSeen : Type 0 where
  pub unentered : ℕ → ℕ → List ℕ
  pub later : ℕ → ℕ → Bool

-- what is filed for an occurrence, and the pairs of an incarnation
pub record LedgerSeen : Type 0 where
  pub filed : ℕ → ℕ → Option Filed
  pub pairs : ℕ → List Pair

-- all of it, with the last moment, the place of the step that kept a token, and who holds a shard
pub record Seen : Type 0 where
  pub moment : ℕ
  pub zones : ZonesSeen
  pub rows : RowsSeen
  pub times : TimesSeen
  pub ledger : LedgerSeen
  pub kept : List ℕ → Option ℕ
  pub holder : ℕ → Holder

-- what is seen of the rows
abbrev pub rows_seen : History → RowsSeen
rows_seen h =
    record {
      created = length (rows_of (changes_of h));
      fault = row_fault (rows_of (changes_of h)) (groups_of (changes_of h));
      touched = touched_by (rows_of (changes_of h));
      rezoned = rezoned_by h;
      content = content_at (rows_of (changes_of h));
      current = current (rows_of (changes_of h));
    }

-- what is seen of a history under a calendar
abbrev pub seen : Calendar → History → Seen
seen c h =
    record {
      moment = moment h;
      zones = record { readable = c.readable; bytes = bytes_of h };
      rows = rows_seen h;
      times = record { unentered = unentered c h; later = λ inc t. has_later c (items h inc) t };
      ledger = record { filed = filed (ledger_of h); pairs = entries (ledger_of h) };
      kept = kept_place h;
      holder = holder h;
    }
