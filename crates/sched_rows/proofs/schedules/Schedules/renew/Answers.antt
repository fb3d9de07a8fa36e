use Rattle.std.proofs.Common.{◌≡◌, ◌≤◌, true, subst, sym, arith}
use Rattle.sched_rows.specs.State.{Roll, rows_in, lives_at}
use Rattle.sched_rows.proofs.ChangeLemmas.{length_rows}
use Rattle.sched_rows.proofs.FilingLemmas.{lives_within, later_spans, filed_renewed}
use Rattle.sched_rows.proofs.schedules.Schedules.renew.Goals as goal

pub renew_at-requires-clause-from : goal.renew_at-requires-clause-from
renew_at-requires-clause-from c =
    (lives_within (rows_in c.self.inside.rows.items) c.args.inc (subst (λ (v : Roll). lives_at (rows_in v.rows) c.args.inc ≡ true) (sym c.self.view_is) c.requires.lives)).0

pub renew_at-requires-clause-to : goal.renew_at-requires-clause-to
renew_at-requires-clause-to c =
    omega (
      arith,
      length_rows c.self.inside.rows.items,
      (lives_within (rows_in c.self.inside.rows.items) c.args.inc (subst (λ (v : Roll). lives_at (rows_in v.rows) c.args.inc ≡ true) (sym c.self.view_is) c.requires.lives)).1,
    )

pub renew_at-requires-clause-spans : goal.renew_at-requires-clause-spans
renew_at-requires-clause-spans c =
    later_spans c.self.inside.rows.items _ _ c.self.inside.latest c.args.at.0 (subst (λ (v : Roll). v.latest ≤ c.args.at.0) (sym c.self.view_is) c.requires.moment) c.self.invariant.0

pub invariant_of-self : goal.invariant_of-self
invariant_of-self c =
    let late = subst (λ (v : Roll). v.latest ≤ c.args.at.0) (sym c.self.view_is) c.requires.moment in
    let some = (lives_within (rows_in c.self.inside.rows.items) c.args.inc (subst (λ (v : Roll). lives_at (rows_in v.rows) c.args.inc ≡ true) (sym c.self.view_is) c.requires.lives)).0 in
    (rw c.renew_at.ensures (filed_renewed (rows_in c.self.inside.rows.items) _ _ c.self.inside.latest c.args.at.0 c.args.inc c.args.content late some c.self.invariant.0), c.self.invariant.1)
