use Rattle.std.proofs.Common.{◌≡◌, ◌∷◌, [], subst}
use Rattle.std.specs.Prelude.{IfSome}
use Rattle.sched_plain.specs.Rows.{incs_where, is_at}
use Rattle.sched_rows.specs.State.{Roll, rows_in}
use Rattle.sched_rows.proofs.AloneLemmas.{live_alone}
use Rattle.sched_rows.proofs.schedules.Schedules.live.Goals as goal

pub returns-clause-alone : goal.returns-clause-alone
returns-clause-alone c =
    let is = rw c.deref.ensures.value at c.living_at.ensures in
    subst (λ (v : Roll). IfSome c.living_at.result (λ inc. incs_where (is_at c.args.group.now c.args.name.now) (rows_in v.rows) ≡ inc ∷ [])) c.self.view_is
    (live_alone (rows_in c.self.inside.rows.items) c.self.inside.by_name.items c.args.group.now c.args.name.now c.living_at.result c.self.invariant.0.by_name is)
