use Rattle.std.proofs.Common.{sym, subst, ◌≤◌, length, arith}
use Rattle.sched_plain.specs.declared.step.Step.TheVariants as steps
use Rattle.book_parts.specs.Told.{Told}
use Rattle.book_entries.specs.LetterRoom.{HasLetterRoom}
use Rattle.book_entries.proofs.BeginLemmas.{along}
use Rattle.book_entries.proofs.CloseLemmas.{sound_closed, closed_taken}
use Rattle.book_entries.proofs.closes.close.Goals as goal

pub invariant_of-parts : goal.invariant_of-parts
invariant_of-parts c =
    let forward = subst (λ (b : Told). b.moment ≤ c.args.at.0) (sym c.parts.view_is) c.requires.forward in
    let letter = subst (λ (b : Told). HasLetterRoom b c.args.inc c.args.instant) (sym c.parts.view_is) c.requires.letter in (
      c.parts.invariant.0,
      sound_closed _ c.args.at.0 _ c.args.inc c.args.instant _ _ _ c.parts.invariant.1 forward c.requires.last c.close.ensures.flights letter
          c.post.ensures.room c.refinish.ensures.long,
    )

pub returns : goal.returns
returns c =
    let there = subst (λ (b : Told). c.args.inc ≤ length b.rows.rows) (sym c.parts.view_is) c.requires.there in
    let long = c.parts.invariant.1.completed in
    along _ (steps.Close c.args.at c.args.inc c.args.instant c.args.reason) c.parts.view_is
    (closed_taken c.steps_change_the_next_instant.ensures.stays c.steps_change_the_finished_date.ensures.stays c.work_is_by_dates.ensures.in_time
    _ c.args.at c.args.inc c.args.instant c.args.reason _ _ _ c.outcome_of.result c.outcome_of.ensures c.requires.low (omega (arith, there, long)) c.close.ensures.stands
    c.post.ensures.stands c.refinish.ensures.dates)
