use Rattle.std.proofs.Common.{◌∙◌, ap}
use Rattle.sched_rows.specs.State.{rows_in}
use Rattle.sched_rows.proofs.AloneLemmas.{alone_lives, rows_ended, rows_not_ended}
use Rattle.sched_rows.proofs.schedules.Schedules.delete.Goals as goal

pub end-requires-clause-lives : goal.end-requires-clause-lives
end-requires-clause-lives c = alone_lives (rows_in c.args.self.now.rows) c.args.group.now c.args.name.now c.in-Some.inc c.in-Some.ensures.alone

pub returns-in-Some-clause-rows : goal.returns-in-Some-clause-rows
returns-in-Some-clause-rows c =
    c.end.ensures.rows ∙ rows_ended (rows_in c.args.self.now.rows) c.args.group.now c.args.name.now c.in-Some.inc c.args.at.0 c.in-Some.ensures.alone

pub returns-in-None-clause-rows : goal.returns-in-None-clause-rows
returns-in-None-clause-rows c =
    ap rows_in c.pass.ensures.rows ∙ rows_not_ended (rows_in c.args.self.now.rows) c.args.group.now c.args.name.now c.args.at.0 c.in-None.ensures.living
