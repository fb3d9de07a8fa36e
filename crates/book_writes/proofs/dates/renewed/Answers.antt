use Rattle.std.proofs.Common.{◌∙◌, ap, subst, ℕ, ◌+◌}
use Rattle.plain_words.specs.declared.moment.Moment.{Moment}
use Rattle.plain_words.proofs.Options.{some_same}
use Rattle.sched_plain.specs.declared.row.Row.{Row}
use Rattle.book_writes.specs.Dating.{IsFirst}
use Rattle.book_writes.proofs.dates.renewed.Goals as goal

pub returns-in-Some-clause-first : goal.returns-in-Some-clause-first
returns-in-Some-clause-first c row there =
    subst (λ (created : ℕ). IsFirst c.args.zones.now c.args.content.now created (c.args.at.0 + 1) c.first_instant.result)
    (ap (λ (m : Moment). m.0) c.created.ensures ∙ ap (λ (r : Row). r.created.0) (some_same c.in-Some.row.now.row row (c.in-Some.ensures ∙ there)))
    (c.first_instant.ensures.first c.requires.known)
