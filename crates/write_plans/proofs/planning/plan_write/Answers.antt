use Rattle.std.proofs.Common.{◌∙◌, subst}
use Rattle.std.specs.Prelude.{IfOk}
use Rattle.sched_plain.specs.Tokens.{kept_of}
use Rattle.sched_calls.specs.Serves.{kept_for}
use Rattle.book_parts.specs.Told.{Told}
use Rattle.book_parts.specs.Stands.{Stands, calendar}
use Rattle.book_parts.proofs.EnterLemmas.{if_ok_more}
use Rattle.write_plans.specs.Planning.{IsPlanned}
use Rattle.write_plans.proofs.PlanLemmas.{new_is, planned_new, planned_same, planned_other}
use Rattle.write_plans.proofs.planning.plan_write.Goals as goal

pub returns-in-New : goal.returns-in-New
returns-in-New c = λ h st.
    subst (λ (b : Told). Stands b h → IfOk c.plan_new.result (IsPlanned calendar h c.args.now.0 c.args.write.now)) c.parts.view_is
    (λ stands. if_ok_more _ _ c.plan_new.result
    (λ plan is. planned_new calendar h c.args.now.0 c.args.write.now (kept_for h c.args.write.now) plan (c.in-New.ensures (kept_of h) stands.shelf)
    (is ∙ new_is c.work_is_by_dates.ensures.opens _ h c.args.now.0 c.args.write.now stands))
    c.plan_new.ensures) st

pub returns-in-Same : goal.returns-in-Same
returns-in-Same c = λ h st.
    subst (λ (b : Told). Stands b h → IfOk c.plan_known.result (IsPlanned calendar h c.args.now.0 c.args.write.now)) c.parts.view_is
    (λ stands. if_ok_more _ _ c.plan_known.result
    (λ plan is. planned_same calendar h c.args.now.0 c.args.write.now (kept_for h c.args.write.now) plan (c.in-Same.ensures (kept_of h) stands.shelf) is)
    c.plan_known.ensures) st

pub returns-in-Other : goal.returns-in-Other
returns-in-Other c = λ h st.
    subst (λ (b : Told). Stands b h → IfOk c.plan_clash.result (IsPlanned calendar h c.args.now.0 c.args.write.now)) c.parts.view_is
    (λ stands. if_ok_more _ _ c.plan_clash.result
    (λ plan is. planned_other calendar h c.args.now.0 c.args.write.now (kept_for h c.args.write.now) c.in-Other.step plan (c.in-Other.ensures (kept_of h) stands.shelf) is)
    c.plan_clash.ensures) st
