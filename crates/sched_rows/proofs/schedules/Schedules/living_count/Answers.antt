use Rattle.std.proofs.Common.{◌≡◌, length, ap, subst, ◌∙◌}
use Rattle.sched_plain.specs.Groups.{living_count}
use Rattle.sched_rows.specs.State.{Roll, rows_in}
use Rattle.sched_rows.proofs.FilingLemmas.{living_length}
use Rattle.sched_rows.proofs.schedules.Schedules.living_count.Goals as goal

pub returns : goal.returns
returns c =
    subst (λ (v : Roll). length c.as_slice.result.now ≡ living_count (rows_in v.rows)) c.self.view_is
    (ap length c.as_slice.ensures.value ∙ living_length (rows_in c.self.inside.rows.items) c.self.inside.by_number.items c.self.invariant.0.by_number)
