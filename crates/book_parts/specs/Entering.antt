-- What the instants of an incarnation without an entry are read off: its row, the bytes of its zone, its next instant.
use Rattle.std.specs.Prelude.{◌≡◌, ℕ, ◌+◌, ◌≤◌, true, ◌||◌, if◌then◌else◌, Option, Some, None, is_some, List, take}
use Rattle.plain_words.specs.Lists.{passing}
use Rattle.sched_plain.specs.declared.row.Row.{Row}
use Rattle.sched_plain.specs.declared.schedule.Schedule.{Schedule}
use Rattle.sched_plain.specs.Rows.{current_of}
use Rattle.sched_plain.specs.Zones.{is_utc}
use Rattle.sched_plain.specs.Items.{opened}
use Rattle.sched_plain.specs.Occurrences.{occurs}
use Rattle.zone_shelf.specs.Places.{Places, bytes_in}
use Rattle.next_dates.specs.Dates.{from_on}
use Rattle.book_parts.specs.Stands.{calendar}

-- the bytes under which a content in this zone is read: none for UTC
abbrev pub read_in : Places → List ℕ → Option (List ℕ)
read_in places zone = if is_utc zone then None else bytes_in places zone

-- the zone is the built-in one or has bytes
abbrev pub IsKnown : Places → List ℕ → Type 0
IsKnown places zone = (is_utc zone || is_some (bytes_in places zone)) ≡ true

-- these are the first so many instants of a content from a moment up to another, whichever moment its item began at before
abbrev pub AreInstants : Places → Schedule → ℕ → ℕ → ℕ → ℕ → List ℕ → Type 0
AreInstants places content created from t most all =
    (first : ℕ) → first ≤ from
    → all ≡ take most (passing (from_on from (occurs calendar (opened (read_in places content.zone) created first content))) (t + 1))

-- so they are of the current content of a row, where it has one and its zone is known
abbrev pub AreOfRow : Places → Row → ℕ → ℕ → ℕ → List ℕ → Type 0
AreOfRow places row from t most all =
    (content : Schedule) → current_of row ≡ Some content → IsKnown places content.zone
    → AreInstants places content row.created.0 from t most all
