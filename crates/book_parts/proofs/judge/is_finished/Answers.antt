use Rattle.std.proofs.Common.{subst, sym, ◌≡◌, ◌∙◌, Some, None}
use Rattle.sched_plain.specs.Seen.{seen}
use Rattle.sched_plain.specs.Work.{completable}
use Rattle.date_table.specs.Dates.{has_come}
use Rattle.book_parts.specs.Told.{Told}
use Rattle.book_parts.specs.Stands.{Stands, calendar}
use Rattle.book_parts.proofs.WorkLemmas.{finished_by}
use Rattle.book_parts.proofs.judge.is_finished.Goals as goal

pub returns-in-Some : goal.returns-in-Some
returns-in-Some c = λ h st.
    subst (λ (b : Told). Stands b h → has_come c.args.at.0 (Some c.in-Some.since) ≡ completable (seen calendar h) c.args.inc c.args.at.0) c.parts.view_is
    (λ stands. finished_by c.work_is_by_dates.ensures.completes _ h c.args.inc c.args.at.0 (Some c.in-Some.since) stands (sym c.get.ensures ∙ c.in-Some.is)) st

pub returns-in-None : goal.returns-in-None
returns-in-None c = λ h st.
    subst (λ (b : Told). Stands b h → has_come c.args.at.0 None ≡ completable (seen calendar h) c.args.inc c.args.at.0) c.parts.view_is
    (λ stands. finished_by c.work_is_by_dates.ensures.completes _ h c.args.inc c.args.at.0 None stands (sym c.get.ensures ∙ c.in-None.is)) st
