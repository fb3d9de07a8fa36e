use Rattle.std.proofs.Common.{ℕ, ◌==◌, not, rules}
use Rattle.std.proofs.lemmas.Fn.{filter_same}
use Rattle.sched_rows.proofs.schedules.take_out.Goals as goal

pub returns : goal.returns
returns c = filter_same _ (λ (n : ℕ). not (n == c.args.number)) _ (λ x b f' t. search rules) _ _ c.retain.ensures.filtered
