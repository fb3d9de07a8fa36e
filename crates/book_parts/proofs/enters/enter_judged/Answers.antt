use Rattle.std.proofs.Common.{rules, ◌≡◌, ◌∙◌, ap, subst, take}
use Rattle.sched_plain.specs.Marks.{unentered}
use Rattle.plain_words.specs.Lists.{first_some}
use Rattle.sched_plain.specs.declared.step.Step.TheVariants as steps
use Rattle.sched_plain.specs.Seen.{seen}
use Rattle.sched_plain.specs.Rules.{kind_table}
use Rattle.book_parts.specs.Told.{Told}
use Rattle.book_parts.specs.Stands.{Stands, calendar}
use Rattle.book_parts.proofs.EnterLemmas.{enter_is}
use Rattle.book_parts.proofs.enters.enter_judged.Goals as goal

pub returns : goal.returns
returns c = λ h st.
    subst (λ (b : Told). Stands b h → c.enter_broken.result ≡ first_some (kind_table (seen calendar h) (steps.Enter c.args.at c.args.inc c.args.pairs.now))) c.parts.view_is
    (λ stands. c.enter_broken.ensures
    ∙ enter_is _ h c.args.at c.args.inc c.args.pairs.now c.in_ok-wanted.wanted c.first_astray-astray.result c.first_outside.result stands
    (c.in_ok-wanted.ensures h st ∙ ap (λ n. take n (unentered calendar h c.args.inc c.args.at.0)) c.len.ensures)
    (search (rules, c.first_astray-astray.ensures, c.as_slice.ensures, c.as_slice-2.ensures))
    (search (rules, c.first_outside.ensures, c.as_slice-3.ensures))) st
