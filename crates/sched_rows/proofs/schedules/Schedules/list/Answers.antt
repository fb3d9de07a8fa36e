use Rattle.sched_rows.specs.State.{rows_in}
use Rattle.sched_rows.proofs.AloneLemmas.{spanned_contents}
use Rattle.sched_rows.proofs.schedules.Schedules.list.Goals as goal

pub page_of-requires-clause-spans : goal.page_of-requires-clause-spans
page_of-requires-clause-spans c = rw c.deref.ensures.value (spanned_contents c.self.inside.latest (rows_in c.self.inside.rows.items) c.self.invariant.0.spans)
