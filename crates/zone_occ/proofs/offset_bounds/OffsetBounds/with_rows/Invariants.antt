use Rattle.std.proofs.Common.{◌≡◌, drop, map}
use Rattle.jiff_tz.specs.TzifText.{transition_text}
use Rattle.zone_occ.specs.Offsets.{with_rows}
use Rattle.zone_occ.proofs.offset_bounds.OffsetBounds.with_rows.Given as goal

-- the rows that are left widen to the answer
abbrev pub invariant-loop-row : goal.invariant-loop-row
invariant-loop-row l = with_rows l.bounds (map transition_text (drop l.row-index l.rows)) ≡ with_rows l.fn.self (map transition_text l.rows)
