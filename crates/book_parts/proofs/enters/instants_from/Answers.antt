use Rattle.std.proofs.Common.{◌≡◌, sym, subst, take}
use Rattle.std.specs.Prelude.{IfOk}
use Rattle.sched_plain.specs.Marks.{unentered}
use Rattle.book_parts.specs.Told.{Told}
use Rattle.book_parts.specs.Stands.{Stands, calendar}
use Rattle.book_parts.proofs.ContentLemmas.{contents_of_row}
use Rattle.book_parts.proofs.EnterLemmas.{if_ok_more, row_lists, has_row}
use Rattle.book_parts.proofs.enters.instants_from.Goals as goal

pub instants_of_row-requires-clause-contents : goal.instants_of_row-requires-clause-contents
instants_of_row-requires-clause-contents c =
    contents_of_row c.parts.inside.rows.rows c.args.inc c.in-Some.row.now.row c.parts.invariant.1.contents (sym c.in-Some.ensures)

pub returns-in-Some : goal.returns-in-Some
returns-in-Some c = λ h st next.
    subst (λ (b : Told). Stands b h → IfOk c.instants_of_row.result (λ all. all ≡ take c.args.most (unentered calendar h c.args.inc c.args.now.0))) c.parts.view_is
    (λ stands. if_ok_more _ _ c.instants_of_row.result
    (λ all listed. row_lists (c.only_living_schedules_act.ensures.acts calendar) (c.only_living_schedules_act.ensures.zones calendar) _ h c.args.inc c.args.from c.args.now.0 c.args.most c.in-Some.row.now.row all stands (sym c.in-Some.ensures) next listed)
    c.instants_of_row.ensures) st

pub returns-in-None : goal.returns-in-None
returns-in-None c = λ h st next.
    subst (λ (b : Told). Stands b h → c.new.result ≡ take c.args.most (unentered calendar h c.args.inc c.args.now.0)) c.parts.view_is
    (λ stands. absurd (has_row (c.only_living_schedules_act.ensures.acts calendar) _ h c.args.inc c.args.from stands (sym c.in-None.ensures) next)) st
