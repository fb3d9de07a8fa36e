use Rattle.std.proofs.Common.{◌∙◌}
use Rattle.sched_plain.specs.declared.row.Row.{Row}
use Rattle.sched_rows.proofs.KeptLemmas.{test_some, test_none}
use Rattle.sched_rows.proofs.schedules.lives_at.Goals as goal

pub returns-in-Some : goal.returns-in-Some
returns-in-Some c = c.lives.ensures ∙ test_some (λ (row : Row). row.lives) c.args.rows.now c.args.number c.in-Some.row.now c.in-Some.ensures

pub returns-in-None : goal.returns-in-None
returns-in-None c = test_none (λ (row : Row). row.lives) c.args.rows.now c.args.number c.in-None.ensures
