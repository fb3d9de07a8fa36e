use Rattle.std.proofs.Common.{◌≡◌, ◌∙◌, sym, subst, ℕ, List, Some, None, take}
use Rattle.std.specs.Prelude.{IfOk}
use Rattle.sched_plain.specs.Marks.{unentered}
use Rattle.next_dates.specs.NextInstants.{next_instant}
use Rattle.book_parts.specs.Told.{Told}
use Rattle.book_parts.specs.Stands.{Stands, calendar}
use Rattle.book_parts.proofs.EnterLemmas.{none_listed}
use Rattle.book_parts.proofs.enters.first_unentered.Goals as goal

pub returns-in-Some : goal.returns-in-Some
returns-in-Some c = λ h st.
    c.instants_from.ensures h st
    (subst (λ (b : Told). Stands b h → next_instant calendar h c.args.inc ≡ Some c.in-Some.from) c.parts.view_is
    (λ stands. sym (stands.next c.args.inc) ∙ sym c.get.ensures ∙ c.in-Some.is) st)

pub returns-in-None : goal.returns-in-None
returns-in-None c = λ h st.
    c.new.ensures ∙ none_listed c.args.parts.now h c.args.inc c.args.now.0 c.args.most st
    (subst (λ (b : Told). Stands b h → next_instant calendar h c.args.inc ≡ None) c.parts.view_is
    (λ stands. sym (stands.next c.args.inc) ∙ sym c.get.ensures ∙ c.in-None.is) st)
