use Rattle.std.proofs.Common.{◌≡◌, ◌∙◌, sym, ap, subst, ℕ, Some}
use Rattle.std.specs.Option.{option_copied}
use Rattle.plain_words.specs.declared.moment.Moment.{Moment}
use Rattle.plain_words.proofs.Options.{some_same}
use Rattle.sched_plain.specs.declared.schedule.Schedule.{Schedule}
use Rattle.book_parts.proofs.ContentLemmas.{current_of_contents}
use Rattle.book_parts.proofs.EnterLemmas.{if_ok_each, carried}
use Rattle.book_parts.specs.Entering.{AreInstants}
use Rattle.book_parts.proofs.enters.instants_of_row.Goals as goal

pub instants_of-requires-clause-content : goal.instants_of-requires-clause-content
instants_of-requires-clause-content c = current_of_contents c.args.row.now.row c.in-Some.content.now c.requires.contents (sym c.in-Some.ensures)

pub returns-in-Some : goal.returns-in-Some
returns-in-Some c =
    if_ok_each _ c.instants_of.result (λ (content : Schedule). if_ok_each _ c.instants_of.result (λ now. if_ok_each _ c.instants_of.result (λ known.
    carried c.instants_of.result c.args.zones.now c.in-Some.content.now content c.created.result.0 c.args.row.now.row.created.0 c.args.from c.args.now.0 c.args.most
    (some_same c.in-Some.content.now content (c.in-Some.ensures ∙ now)) (ap (λ (m : Moment). m.0) c.created.ensures) c.instants_of.ensures known)))
