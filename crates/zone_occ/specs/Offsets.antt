-- The least and the greatest offset of a zone's own: of those that its text names, in seconds ahead of UTC.
use Rattle.std.specs.Prelude.{ℤ, pos, ◌≤ℤ◌, Option, List, [], ◌∷◌}
use Rattle.std.specs.Int.{int_min, int_max}
use Rattle.jiff_tz.specs.PosixRule.{match_some}
use Rattle.jiff_tz.specs.PosixText.{DstText, TzText}
use Rattle.jiff_tz.specs.TzifReader.{TzifText}
use Rattle.jiff_tz.specs.TzifText.{TransitionText}
use Rattle.zone_occ.specs.declared.offset_bounds.OffsetBounds.{OffsetBounds}
use Rattle.zone_occ.specs.ZoneText.{ZoneText, utc, rule, table}

-- the bounds of one offset
abbrev pub only : ℤ → OffsetBounds
only offset = record { least = offset; greatest = offset }

-- the bounds of some offsets and of one more
abbrev pub widened : OffsetBounds → ℤ → OffsetBounds
widened bounds offset = record { least = int_min bounds.least offset; greatest = int_max bounds.greatest offset }

-- and of the offset of daylight saving time, where there is one
abbrev pub with_dst : OffsetBounds → Option DstText → OffsetBounds
with_dst bounds dst = match_some dst bounds (λ dst. widened bounds dst.seconds)

-- and of those of a rule: that of standard time, and that of daylight saving time
abbrev pub with_rule : OffsetBounds → TzText → OffsetBounds
with_rule bounds text = with_dst (widened bounds text.std_seconds) text.dst

-- and of the two of a row: before it and after it
abbrev pub with_row : OffsetBounds → TransitionText → OffsetBounds
with_row bounds row = widened (widened bounds row.before) row.after.seconds

-- and of those of all rows
abbrev pub with_rows : OffsetBounds → List TransitionText → OffsetBounds
with_rows bounds [] = bounds
with_rows bounds (row ∷ rows) = with_rows (with_row bounds row) rows

-- the bounds of a table: of its first offset, of its rows, and of its rule, where it has one
abbrev pub table_bounds : TzifText → OffsetBounds
table_bounds text =
    let rows : OffsetBounds = with_rows (only text.first.seconds) text.transitions in
    match_some text.rule rows (with_rule rows)

-- the least and the greatest offset of a zone
unfoldable pub bounds : ZoneText → OffsetBounds
bounds utc = only (pos 0)
bounds (rule text) = with_dst (only text.std_seconds) text.dst
bounds (table text) = table_bounds text

-- the offset is within these bounds
abbrev pub IsInBounds : OffsetBounds → ℤ → Type 0
IsInBounds bounds offset = (bounds.least ≤ℤ offset) × (offset ≤ℤ bounds.greatest)
