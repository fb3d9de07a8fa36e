use Rattle.std.proofs.Common.{◌∙◌, ap}
use Rattle.sched_rows.specs.State.{rows_in}
use Rattle.sched_rows.proofs.AloneLemmas.{alone_lives, rows_renewed, rows_not_renewed}
use Rattle.sched_rows.proofs.schedules.Schedules.update.Goals as goal

pub renew-requires-clause-lives : goal.renew-requires-clause-lives
renew-requires-clause-lives c = alone_lives (rows_in c.args.self.now.rows) c.args.group.now c.args.name.now c.in-Some.inc c.in-Some.ensures.alone

pub returns-in-Some-clause-rows : goal.returns-in-Some-clause-rows
returns-in-Some-clause-rows c =
    c.renew.ensures.rows ∙ rows_renewed (rows_in c.args.self.now.rows) c.args.group.now c.args.name.now c.in-Some.inc c.args.at.0 c.args.content c.in-Some.ensures.alone

pub returns-in-None-clause-rows : goal.returns-in-None-clause-rows
returns-in-None-clause-rows c =
    ap rows_in c.pass.ensures.rows ∙ rows_not_renewed (rows_in c.args.self.now.rows) c.args.group.now c.args.name.now c.args.at.0 c.args.content c.in-None.ensures.living
