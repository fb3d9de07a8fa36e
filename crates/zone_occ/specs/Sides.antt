-- How often a clock on the wall shows a civil second: once, never in a gap, twice in a fold. Civil seconds are
-- counted from 1970-01-01T00:00:00 as if no clock were ever changed, offsets in seconds ahead of UTC, and the
-- moments of a rule in nanoseconds.
use Rattle.std.specs.Prelude.{ℕ, ◌-◌, ◌==◌, ℤ, pos, ◌+ℤ◌, ◌-ℤ◌, ◌*ℤ◌, int_le, int_lt, Bool, false, not, if◌then◌else◌, Option, None, List, length, get_or}
use Rattle.std.specs.List.{prefix_len}
use Rattle.jiff_core.specs.Timestamp.{nanos_of_seconds}
use Rattle.jiff_tz.specs.declared.posix.Day.{Day}
use Rattle.jiff_tz.specs.PosixRule.{match_some, clamp_to, nanos_per_day, first_nanosecond, last_nanosecond, rule_day, in_window, in_span, saturating_add, saturating_sub}
use Rattle.jiff_tz.specs.PosixText.{DstText, TzText}
use Rattle.jiff_tz.specs.TzifReader.{TzifText}
use Rattle.jiff_tz.specs.TzifText.{TransitionText, no_row, civil_start, civil_end}
use Rattle.zone_occ.specs.ZoneText.{ZoneText, utc, rule, table}

-- how often a civil second is shown, and at which offsets: `twice` has the one before the change first
pub data Sides : Type 0 where
  once : ℤ → Sides
  never : Sides
  twice : ℤ → ℤ → Sides

-- When a rule's day and time come in a year, on a clock at UTC, where the rule's clock is so many seconds ahead of
-- it. A moment that would leave the year stays at its edge, and a day that the year lacks is its end.
abbrev pub rule_moment : ℤ → Day × ℤ → ℤ → ℤ
rule_moment year d ahead = match_some (rule_day year d.0) (last_nanosecond year) (λ day.
    clamp_to (first_nanosecond year) (last_nanosecond year)
    (day *ℤ nanos_per_day +ℤ nanos_of_seconds (d.1 -ℤ ahead)))

-- when daylight saving time begins and ends in a year, both read on the wall clock as it is before the change
abbrev pub wall_window : ℤ → DstText → ℤ × ℤ
wall_window year dst = (rule_moment year dst.start (pos 0), rule_moment year dst.finish (pos 0))

-- how far daylight saving time is ahead of standard time, in nanoseconds
abbrev pub shift : ℤ → ℤ → ℤ
shift std dst = nanos_of_seconds dst -ℤ nanos_of_seconds std

-- The sides of a moment where daylight saving time is ahead: after its beginning the clock skips the shift, and
-- before its end the clock shows the shift twice.
abbrev pub sides_ahead : ℤ → ℤ → ℤ × ℤ → ℤ → Sides
sides_ahead std dst window at =
    if not (in_window window at) then once std
    else (if in_span window.0 (saturating_add window.0 (shift std dst)) at then never
    else (if in_span (saturating_sub window.1 (shift std dst)) window.1 at then twice dst std
    else once dst))

-- The sides of a moment where daylight saving time is behind: the clock shows the shift twice before its beginning,
-- and skips it after its end.
abbrev pub sides_behind : ℤ → ℤ → ℤ × ℤ → ℤ → Sides
sides_behind std dst window at =
    if in_window window at then once dst
    else (if in_span (saturating_add window.0 (shift std dst)) window.0 at then twice std dst
    else (if in_span window.1 (saturating_sub window.1 (shift std dst)) at then never
    else once std))

-- the sides of a moment under a rule with two offsets, which may be the same
abbrev pub sides_between : ℤ → ℤ → ℤ × ℤ → ℤ → Sides
sides_between std dst window at =
    if int_lt dst std then sides_behind std dst window at
    else (if int_lt std dst then sides_ahead std dst window at else once std)

-- the sides of a civil second of a year under a rule
abbrev pub rule_sides : TzText → ℤ → ℤ → Sides
rule_sides text year second = match_some text.dst (once text.std_seconds) (λ dst.
    sides_between text.std_seconds dst.seconds (wall_window year dst) (nanos_of_seconds second))

-- how many rows of a table have begun to change the clock at or before a civil second
abbrev pub rows_begun : List TransitionText → ℤ → ℕ
rows_begun rows second = prefix_len (λ row. int_le (civil_start row) second) rows

-- the last of the first so many rows
abbrev pub last_row : List TransitionText → ℕ → TransitionText
last_row rows count = get_or rows (count - 1) no_row

-- the last of the first so many rows has not ended to change the clock at this civil second
abbrev pub is_changing : List TransitionText → ℕ → ℤ → Bool
is_changing rows count second =
    if count == 0 then false else int_lt second (civil_end (last_row rows count))

-- the sides of a civil second that a row skips or repeats
abbrev pub row_sides : TransitionText → Sides
row_sides row =
    if int_lt row.before row.after.seconds then never else twice row.before row.after.seconds

-- the offset after so many rows
abbrev pub offset_after : TzifText → ℕ → ℤ
offset_after text count =
    if count == 0 then text.first.seconds else (last_row text.transitions count).after.seconds

-- the rule of a table after so many rows: it speaks after the last one alone
abbrev pub rule_after : TzifText → ℕ → Option TzText
rule_after text count = if count == length text.transitions then text.rule else None

-- the sides of a civil second that no row skips or repeats, after so many rows
abbrev pub sides_after : TzifText → ℕ → ℤ → ℤ → Sides
sides_after text count year second =
    match_some (rule_after text count) (once (offset_after text count)) (λ rule_text. rule_sides rule_text year second)

-- the sides of a civil second after so many rows
abbrev pub table_sides_after : TzifText → ℕ → ℤ → ℤ → Sides
table_sides_after text count year second =
    if is_changing text.transitions count second then row_sides (last_row text.transitions count)
    else sides_after text count year second

-- the sides of a civil second of a year under a table
abbrev pub table_sides : TzifText → ℤ → ℤ → Sides
table_sides text year second = table_sides_after text (rows_begun text.transitions second) year second

-- the sides of a civil second of a year in a zone
unfoldable pub sides : ZoneText → ℤ → ℤ → Sides
sides utc year second = once (pos 0)
sides (rule text) year second = rule_sides text year second
sides (table text) year second = table_sides text year second
