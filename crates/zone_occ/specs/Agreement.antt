-- Whether the rule of a zone file agrees with the last row of its table (RFC 9636, section 3.3).
use Rattle.std.specs.Prelude.{◌==◌, ℤ, int_lt, Bool, true, false, ◌&&◌, ◌||◌, if◌then◌else◌, Option, Some, None, List, length}
use Rattle.std.specs.Option.{option_and_then}
use Rattle.jiff_core.specs.Timestamp.{nanos_of_seconds}
use Rattle.jiff_tz.specs.declared.info.Dst.{Dst}
use Rattle.jiff_tz.specs.declared.info.Dst.TheVariants.{Yes, No}
use Rattle.jiff_tz.specs.PosixRule.{match_some, first_nanosecond, last_nanosecond, in_window, int_same, saturating_add}
use Rattle.jiff_tz.specs.PosixText.{DstText, TzText}
use Rattle.jiff_tz.specs.TzifReader.{TzifText}
use Rattle.jiff_tz.specs.TzifText.{TypeText, TransitionText}
use Rattle.jiff_tz.specs.Year.{year_of_nanos}
use Rattle.plain_words.specs.Lists.{same_text}
use Rattle.zone_occ.specs.Sides.{rule_moment, last_row}

-- Daylight saving time of a year, on a clock at UTC: from its beginning, read in standard time, to its end, read in
-- daylight saving time. Where it begins as the year does and its end leaves the year, it is in force all year.
unfoldable pub utc_window : ℤ → DstText → ℤ → ℤ × ℤ
utc_window std dst year =
    let start : ℤ = rule_moment year dst.start std in
    let end : ℤ = rule_moment year dst.finish dst.seconds in
    let shifted : ℤ = saturating_add end (nanos_of_seconds std) in
    if int_same start (first_nanosecond year)
    && (int_lt shifted (first_nanosecond year) || int_lt (last_nanosecond year) shifted)
    then (start, last_nanosecond year)
    else (start, end)

-- daylight saving time, where it is in force at an instant
abbrev pub dst_at : TzText → ℤ → Option DstText
dst_at text n = option_and_then (λ dst.
    if in_window (utc_window text.std_seconds dst (year_of_nanos n)) n then Some dst else None) text.dst

-- the offset, the flag and the name that a rule gives an instant
abbrev pub type_at : TzText → ℤ → TypeText
type_at text n = match_some (dst_at text n)
    (record { seconds = text.std_seconds; dst = No; name = text.std_name })
    (λ dst. record { seconds = dst.seconds; dst = Yes; name = dst.name })

-- two flags are the same
abbrev pub same_flag : Dst → Dst → Bool
same_flag Yes Yes = true
same_flag No No = true
same_flag Yes No = false
same_flag No Yes = false

-- two rows set the same offset, flag and name
abbrev pub same_type : TypeText → TypeText → Bool
same_type a b = int_same a.seconds b.seconds && same_flag a.dst b.dst && same_text a.name b.name

-- a rule gives what the row says, at the row's instant
abbrev pub agrees_with : TransitionText → TzText → Bool
agrees_with row text = same_type (type_at text (nanos_of_seconds row.second)) row.after

-- a rule agrees with the last row of a table, or the table has none
abbrev pub agrees_with_rows : List TransitionText → TzText → Bool
agrees_with_rows rows text = (length rows == 0) || agrees_with (last_row rows (length rows)) text

-- the rule of a table, where it has one, agrees with the last row
abbrev pub agrees : TzifText → Bool
agrees text = match_some text.rule true (agrees_with_rows text.transitions)
