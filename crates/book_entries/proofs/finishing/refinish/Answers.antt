use Rattle.std.proofs.Common.{ap, ◌∙◌, Option, ℕ, List, length}
use Rattle.sched_rows.proofs.ChangeLemmas.{length_change}
use Rattle.book_entries.proofs.finishing.refinish.Goals as goal

pub returns-clause-long : goal.returns-clause-long
returns-clause-long c = ap (λ (all : List (Option ℕ)). length all) c.set.ensures.dates ∙ length_change _ c.args.finished.now.dates c.args.inc
