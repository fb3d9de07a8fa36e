use Rattle.sched_rows.proofs.NameLemmas.{text_tested}
use Rattle.sched_rows.proofs.order.text_before.Goals as goal

pub returns : goal.returns
returns c = text_tested c.args.one.now c.args.other.now c.lt.result c.lt.ensures
