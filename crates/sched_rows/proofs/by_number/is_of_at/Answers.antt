use Rattle.std.proofs.Common.{◌∙◌, option_map}
use Rattle.sched_rows.specs.Answers.{is_of}
use Rattle.sched_rows.proofs.KeptLemmas.{test_some, test_none}
use Rattle.sched_rows.proofs.by_number.is_of_at.Goals as goal

pub returns-in-Some : goal.returns-in-Some
returns-in-Some c = c.is_of.ensures ∙ test_some (is_of (option_map (λ g. g.now) c.args.group)) c.args.rows.now c.args.number c.in-Some.row.now c.in-Some.ensures

pub returns-in-None : goal.returns-in-None
returns-in-None c = test_none (is_of (option_map (λ g. g.now) c.args.group)) c.args.rows.now c.args.number c.in-None.ensures
