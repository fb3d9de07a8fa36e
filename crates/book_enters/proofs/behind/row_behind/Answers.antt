use Rattle.std.proofs.Common.{◌∙◌, ap, subst, sym, ℕ, ◌+◌}
use Rattle.plain_words.specs.declared.moment.Moment.{Moment}
use Rattle.plain_words.proofs.Options.{some_same}
use Rattle.sched_plain.specs.declared.schedule.Schedule.{Schedule}
use Rattle.book_parts.proofs.ContentLemmas.{current_of_contents}
use Rattle.book_writes.specs.Dating.{IsFirst, IsKnown}
use Rattle.book_enters.proofs.behind.row_behind.Goals as goal

pub first_instant-requires-clause-valid : goal.first_instant-requires-clause-valid
first_instant-requires-clause-valid c = current_of_contents c.args.row.now.row c.in-Some.content.now c.requires.contents (sym c.in-Some.ensures)

pub returns-in-Some-clause-first : goal.returns-in-Some-clause-first
returns-in-Some-clause-first c = λ content now.
    let zones = c.args.zones.now in
    subst (λ (s : Schedule). IsKnown zones s → IsFirst zones s c.args.row.now.row.created.0 (c.args.instant + 1) c.first_instant.result)
    (some_same c.in-Some.content.now content (c.in-Some.ensures ∙ now))
    (subst (λ (created : ℕ). IsKnown zones c.in-Some.content.now → IsFirst zones c.in-Some.content.now created (c.args.instant + 1) c.first_instant.result)
    (ap (λ (m : Moment). m.0) c.created.ensures) c.first_instant.ensures.first)
