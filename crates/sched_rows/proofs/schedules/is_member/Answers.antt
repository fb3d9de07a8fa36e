use Rattle.std.proofs.Common.{◌∙◌}
use Rattle.sched_plain.specs.Rows.{is_in}
use Rattle.sched_rows.proofs.KeptLemmas.{test_some, test_none}
use Rattle.sched_rows.proofs.schedules.is_member.Goals as goal

pub returns-in-Some : goal.returns-in-Some
returns-in-Some c = c.is_in.ensures ∙ test_some (is_in c.args.group.now) c.args.rows.now c.args.number c.in-Some.row.now c.in-Some.ensures

pub returns-in-None : goal.returns-in-None
returns-in-None c = test_none (is_in c.args.group.now) c.args.rows.now c.args.number c.in-None.ensures
