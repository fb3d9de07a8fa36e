use Rattle.std.proofs.Common.{subst, sym, ◌≤◌}
use Rattle.sched_rows.specs.State.{Roll}
use Rattle.sched_rows.proofs.FilingLemmas.{filed_later}
use Rattle.sched_rows.proofs.schedules.Schedules.pass.Goals as goal

pub invariant_of-self : goal.invariant_of-self
invariant_of-self c =
    (filed_later _ _ _ _ c.args.at.0 (subst (λ (v : Roll). v.latest ≤ c.args.at.0) (sym c.self.view_is) c.requires) c.self.invariant.0, c.self.invariant.1)
