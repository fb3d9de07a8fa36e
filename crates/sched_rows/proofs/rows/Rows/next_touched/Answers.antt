use Rattle.std.proofs.Common.{ap, sym}
use Rattle.std.specs.Prelude.{nat_lt}
use Rattle.std.specs.List.{find}
use Rattle.sched_rows.proofs.AloneLemmas.{touched_none}
use Rattle.sched_rows.proofs.rows.Rows.next_touched.Goals as goal

-- a creation touches no incarnation that is there
pub returns-in-CreateSchedule : goal.returns-in-CreateSchedule
returns-in-CreateSchedule c = rw c.in-CreateSchedule.is (sym (ap (find (nat_lt c.args.after)) (touched_none c.args.self.now.rows)))

pub returns-in-CreateGroup : goal.returns-in-CreateGroup
returns-in-CreateGroup c = rw c.in-CreateGroup.is (sym (ap (find (nat_lt c.args.after)) (touched_none c.args.self.now.rows)))
