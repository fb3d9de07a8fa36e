-- When a content acts in a time zone, by itself: nothing here looks at a history.
use Rattle.std.specs.Prelude.{ℕ, Bool, ◌&&◌, unwrap_or}
use Rattle.sched_plain.specs.declared.schedule.Schedule.{Schedule}
use Rattle.sched_plain.specs.Occurrences.{is_within_dates}
use Rattle.zone_occ.specs.ZoneText.{ZoneText}
use Rattle.zone_occ.specs.Instants.{is_instant}

-- the moment from which a rate counts: its StartDate, or the creation of its schedule
abbrev pub anchor_of : Schedule → ℕ → ℕ
anchor_of content created = unwrap_or content.start created

-- the content of a schedule that was created at a moment acts at an instant: it is enabled, its dates let the instant
-- through, and the instant is one of its expression in the zone
abbrev pub acts : Schedule → ZoneText → ℕ → ℕ → Bool
acts content zone created instant =
    content.enabled && (is_within_dates content.expr content instant
    && is_instant content.expr zone (anchor_of content created) instant)
