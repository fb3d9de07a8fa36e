use Rattle.std.proofs.Common.{◌∙◌, ap, subst, length, Option, ℕ, List}
use Rattle.sched_plain.specs.declared.step.Pair.{Pair}
use Rattle.sched_rows.proofs.ChangeLemmas.{length_change}
use Rattle.sched_rows.proofs.SpanLemmas.{last_at}
use Rattle.book_enters.specs.Behind.{GoOn}
use Rattle.book_enters.proofs.behind.go_on.Goals as goal

pub returns-in-Some-clause-long : goal.returns-in-Some-clause-long
returns-in-Some-clause-long c =
    ap (λ (dates : List (Option ℕ)). length dates) c.set.ensures.dates
    ∙ length_change (λ (before : Option ℕ). c.next_behind-date.result) _ _

pub returns-in-Some-clause-dates : goal.returns-in-Some-clause-dates
returns-in-Some-clause-dates c =
    subst (λ (pair : Option Pair). GoOn c.args.zones.now c.args.rows.now.rows c.args.inc pair c.args.next.now.dates c.set.new.self.dates)
    (c.in-Some.ensures.value ∙ last_at c.args.pairs.now)
    (record { date = c.next_behind-date.result; is = c.next_behind-date.ensures.first; dates = c.set.ensures.dates })
