-- What is unentered of an incarnation, by the date of its next instant.
use Rattle.std.specs.Prelude.{ℕ, Option, List}
use Rattle.std.specs.Option.{option_map}
use Rattle.sched_plain.specs.Work.{Occurrence}
use Rattle.step_rules.specs.Looked.{occurrence_of}
use Rattle.date_table.specs.Dates.{date_at}
use Rattle.next_dates.specs.Dates.{come_by}
use Rattle.sched_plain.specs.Seen.{ZonesSeen}
use Rattle.zone_shelf.specs.Places.{Places, bytes_in}
use Rattle.book_parts.specs.Stands.{calendar}

-- the next instant of an incarnation as an occurrence, where it has come at a moment
abbrev pub come_at : List (Option ℕ) → ℕ → ℕ → Option Occurrence
come_at dates t inc = option_map {T = ℕ} (λ n. record { inc = inc; instant = n }) (come_by t (date_at dates inc))

-- the zones, as the rules look at them
abbrev pub zones_in : Places → ZonesSeen
zones_in places = record { readable = calendar.readable; bytes = bytes_in places }
