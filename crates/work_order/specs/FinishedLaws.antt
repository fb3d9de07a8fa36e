-- What a step that may follow a legal history makes of the date since when an incarnation is finished.
use Rattle.std.specs.Prelude.{◌≡◌, ℕ, ◌==◌, Bool, false, None}
use Rattle.plain_words.specs.declared.moment.Moment.{Moment}
use Rattle.sched_plain.specs.declared.step.Step.{Step}
use Rattle.sched_plain.specs.declared.step.Step.TheVariants as steps
use Rattle.sched_plain.specs.History.{History, ◌upon◌}
use Rattle.expressions.specs.Calendar.{Calendar}
use Rattle.sched_plain.specs.Legal.{IsLegal, MayFollow}
use Rattle.next_dates.specs.NextInstants.{changes_next}
use Rattle.work_order.specs.Finished.{finished_from}

-- the step may change since when an incarnation is finished: an Enter of it, an End or a Close of one of its entries,
-- its Complete, and what else may change its next instant, a Change that touches it or may create it
abbrev pub changes_finished : History → Step → ℕ → Bool
changes_finished h (steps.Enter at of pairs) inc = inc == of
changes_finished h (steps.End at of instant number verdict status) inc = inc == of
changes_finished h (steps.Close at of instant reason) inc = inc == of
changes_finished h (steps.Complete at removed) inc = inc == removed
changes_finished h s inc = changes_next h s inc

-- any other step leaves it
abbrev pub FinishedStays : Type 0
FinishedStays =
    (c : Calendar) (h : History) (s : Step) → IsLegal c h → MayFollow c h s → (inc : ℕ)
    → changes_finished h s inc ≡ false → finished_from c (s upon h) inc ≡ finished_from c h inc

-- and behind its Complete an incarnation is no more finished
abbrev pub CompletedIsNotFinished : Type 0
CompletedIsNotFinished =
    (c : Calendar) (h : History) (at : Moment) (inc : ℕ) → finished_from c (steps.Complete at inc upon h) inc ≡ None
