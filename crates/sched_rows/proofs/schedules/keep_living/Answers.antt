use Rattle.std.proofs.Common.{rules}
use Rattle.std.proofs.lemmas.Fn.{filter_same}
use Rattle.sched_rows.specs.State.{lives_at, rows_in}
use Rattle.sched_rows.proofs.schedules.keep_living.Goals as goal

pub returns : goal.returns
returns c = filter_same _ (lives_at (rows_in c.args.rows.now)) _ (λ x b f' t. search rules) _ _ c.retain.ensures.filtered
