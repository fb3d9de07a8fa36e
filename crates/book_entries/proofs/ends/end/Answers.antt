use Rattle.std.proofs.Common.{sym, subst, ◌≡◌, ◌≤◌, length, arith, true}
use Rattle.sched_plain.specs.declared.step.Step.TheVariants as steps
use Rattle.book_parts.specs.Told.{Told}
use Rattle.book_entries.specs.Ending.{is_aloft}
use Rattle.book_entries.proofs.BeginLemmas.{along}
use Rattle.book_entries.proofs.EndLemmas.{end_fits, sound_ended, ended_taken}
use Rattle.book_entries.proofs.ends.end.Goals as goal

pub invariant_of-parts : goal.invariant_of-parts
invariant_of-parts c =
    let forward = subst (λ (b : Told). b.moment ≤ c.args.at.0) (sym c.parts.view_is) c.requires.forward in
    let aloft = subst (λ (b : Told). is_aloft b.ledger.flights c.args.inc c.args.instant ≡ true) (sym c.parts.view_is) c.requires.aloft in (
      c.parts.invariant.0,
      sound_ended _ c.args.at.0 _ c.args.inc c.args.instant _ _ _ c.parts.invariant.1 forward c.requires.last c.end.ensures.flights aloft
          c.post_final.ensures.room c.refinish.ensures.long,
    )

pub returns : goal.returns
returns c =
    let there = subst (λ (b : Told). c.args.inc ≤ length b.rows.rows) (sym c.parts.view_is) c.requires.there in
    let long = c.parts.invariant.1.completed in
    along _ (steps.End c.args.at c.args.inc c.args.instant c.args.number c.args.verdict c.args.status) c.parts.view_is
    (ended_taken c.steps_change_the_next_instant.ensures.stays c.steps_change_the_finished_date.ensures.stays c.work_is_by_dates.ensures.in_time
    _ c.args.at c.args.inc c.args.instant c.args.number c.args.verdict c.args.status _ _ _ c.requires.low (omega (arith, there, long)) c.end.ensures.stands
    c.post_final.ensures.stands c.refinish.ensures.dates)

pub post_final-requires : goal.post_final-requires
post_final-requires c =
    let aloft = subst (λ (b : Told). is_aloft b.ledger.flights c.args.inc c.args.instant ≡ true) (sym c.parts.view_is) c.requires.aloft in
    end_fits _ c.args.inc c.args.instant c.parts.invariant.1 aloft
