use Rattle.std.proofs.Common.{◌∙◌}
use Rattle.sched_rows.proofs.SpanLemmas.{last_at}
use Rattle.sched_rows.proofs.row.last_of.Goals as goal

pub returns : goal.returns
returns c = c.last.ensures.value ∙ last_at c.args.revisions.now
