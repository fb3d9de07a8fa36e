use Rattle.std.proofs.Common.{◌∙◌, ap}
use Rattle.std.specs.Prelude.{is_some}
use Rattle.sched_plain.specs.Groups.{is_named}
use Rattle.sched_rows.proofs.AloneLemmas.{any_found}
use Rattle.sched_rows.proofs.faults.has_group.Goals as goal

pub returns-in-Some : goal.returns-in-Some
returns-in-Some c = ap is_some c.in-Some.ensures ∙ any_found (is_named c.args.name.now) c.args.groups.now.groups

pub returns-in-None : goal.returns-in-None
returns-in-None c = ap is_some c.in-None.ensures ∙ any_found (is_named c.args.name.now) c.args.groups.now.groups
