use Rattle.std.proofs.Common.{subst, ◌≡◌, ◌∙◌}
use Rattle.plain_words.specs.Lists.{first_some}
use Rattle.sched_plain.specs.declared.step.Step.TheVariants as steps
use Rattle.sched_plain.specs.Seen.{seen}
use Rattle.sched_plain.specs.Tokens.{kept_of}
use Rattle.std.specs.Option.{option_map}
use Rattle.step_rules.specs.Looked.{occurrence_of}
use Rattle.sched_plain.specs.Rules.{kind_table, change_table}
use Rattle.book_parts.specs.Told.{Told}
use Rattle.book_parts.specs.Stands.{Stands, calendar}
use Rattle.book_parts.proofs.ChangeLemmas.{change_is}
use Rattle.book_parts.proofs.changes.change_judged.Goals as goal

pub returns : goal.returns
returns c = λ h st.
    subst (λ (b : Told). Stands b h → c.change_broken.result ≡ first_some (kind_table (seen calendar h) (steps.Change c.args.at c.args.write.now))) c.parts.view_is
    (λ stands.
    c.change_broken.ensures
    ∙ (λ i. first_some (change_table (c.is_zone_unknown.ensures i) (c.fault_of.ensures i) c.kept_place.result (option_map occurrence_of c.first_open.result)))
    ∙ change_is c.work_is_by_dates.ensures.opens _ h c.args.at c.args.write.now c.kept_place.result (option_map occurrence_of c.first_open.result) stands
    (c.kept_place.ensures (kept_of h) stands.shelf) c.first_open.ensures) st
