-- How the lines, the policies and the attempts of an incarnation lie, and for which rows they stand.
use Rattle.std.specs.Prelude.{◌≡◌, ℕ, ◌+◌, ◌≤◌, ◌<◌, ◌≢◌, List, map, take, drop, length, slice_index_or}
use Rattle.sched_plain.specs.declared.entry.Attempt.{Attempt}
use Rattle.sched_plain.specs.declared.entry.Entry.{Entry}
use Rattle.sched_plain.specs.declared.schedule.Policy.{Policy}
use Rattle.entry_lines.specs.Rows.{Row, no_policy}
use Rattle.entry_lines.specs.Written.{Written, line_at, moved, stop}
use Rattle.entry_lines.specs.declared.entry_lines.TheConstants.{MOST_ENTRIES}

-- the row that a line stands for
abbrev pub row_of : List Policy → List Attempt → Written → Row
row_of policies attempts line =
    record {
      instant = line.instant;
      filed = record { entry = line.entry; policy = slice_index_or policies line.policy no_policy };
      attempts = take line.entry.used (drop line.start attempts);
    }

abbrev pub rows_of : List Policy → List Attempt → List Written → List Row
rows_of policies attempts lines = map (row_of policies attempts) lines

-- the attempts of an entry lie behind those of the entries before it, and each entry has its policy
pub record AreLaid (lines : List Written) (policies attempts : ℕ) : Type 0 where
  pub rising : (i j : ℕ) → i < j → j < length lines → stop (line_at lines i) ≤ (line_at lines j).start
  pub within : (j : ℕ) → j < length lines → stop (line_at lines j) ≤ attempts
  pub known : (j : ℕ) → j < length lines → (line_at lines j).policy < policies

-- the room that there is: for entries, each of which may come with a policy of its own, and for an attempt
pub record HasRoom (lines room lines_for policies policies_for attempts attempts_for begins : ℕ) : Type 0 where
  pub entries : lines + room ≤ lines_for
  pub few : lines + room ≤ MOST_ENTRIES
  pub policy : 1 ≤ room → policies < policies_for
  pub few_policies : 1 ≤ room → policies < MOST_ENTRIES
  pub attempt : attempts + begins ≤ attempts_for
  pub few_attempts : attempts + begins ≤ MOST_ENTRIES

-- one entry is written, and the others are as they were
pub record IsWritten (old new : List Written) (place : ℕ) (entry : Entry) : Type 0 where
  pub long : length new ≡ length old
  pub here : line_at new place ≡ record (line_at old place) { entry = entry }
  pub there : (j : ℕ) → j < length old → j ≢ place → line_at new j ≡ line_at old j

-- one entry is written, and the attempts of the later ones begin one place later
pub record IsOpened (old new : List Written) (place : ℕ) (entry : Entry) : Type 0 where
  pub long : length new ≡ length old
  pub here : line_at new place ≡ record (line_at old place) { entry = entry }
  pub before : (j : ℕ) → j < place → line_at new j ≡ line_at old j
  pub behind : (j : ℕ) → place < j → j < length old → line_at new j ≡ moved (line_at old j)

-- the attempts of one entry are changed one by one, and the others are as they were
pub record IsMapped (change : Attempt → Attempt) (old new : List Attempt) (from to : ℕ) : Type 0 where
  pub long : length new ≡ length old
  pub inside : (k : ℕ) (d : Attempt) → from ≤ k → k < to → slice_index_or new k d ≡ change (slice_index_or old k d)
  pub below : (k : ℕ) (d : Attempt) → k < from → slice_index_or new k d ≡ slice_index_or old k d
  pub above : (k : ℕ) (d : Attempt) → to ≤ k → k < length old → slice_index_or new k d ≡ slice_index_or old k d

-- a policy has this place, and the others are where they were
pub record IsKept (old new : List Policy) (policy : Policy) (place : ℕ) : Type 0 where
  pub there : place < length new
  pub here : slice_index_or new place no_policy ≡ policy
  pub longer : length old ≤ length new
  pub at_most : place ≤ length old
  pub others : (j : ℕ) → j < length old → slice_index_or new j no_policy ≡ slice_index_or old j no_policy
