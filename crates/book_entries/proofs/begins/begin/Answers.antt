use Rattle.std.proofs.Common.{sym, subst, ◌≡◌, ◌≤◌, ◌+◌, true, length}
use Rattle.std.specs.Prelude.{IfSome}
use Rattle.plain_words.specs.Lists.{some_pass}
use Rattle.sched_plain.specs.declared.entry.Filed.{Filed}
use Rattle.sched_plain.specs.Report.{is_due}
use Rattle.sched_plain.specs.Standing.{standing_of}
use Rattle.ledger_rows.specs.State.{filed_in}
use Rattle.sched_plain.specs.declared.step.Step.TheVariants as steps
use Rattle.book_parts.specs.Told.{Told}
use Rattle.book_entries.specs.LetterRoom.{HasLetterRoom}
use Rattle.book_entries.proofs.SoundLemmas.{sound_begun}
use Rattle.book_entries.proofs.BeginLemmas.{along, number_is, begun_taken}
use Rattle.book_entries.proofs.begins.begin.Goals as goal

pub invariant_of-parts : goal.invariant_of-parts
invariant_of-parts c =
    let forward = subst (λ (b : Told). b.moment ≤ c.args.at.0) (sym c.parts.view_is) c.requires.forward in
    let there = subst (λ (b : Told). c.args.inc ≤ length b.rows.rows) (sym c.parts.view_is) c.requires.there in
    let letter = subst (λ (b : Told). HasLetterRoom b c.args.inc c.args.instant) (sym c.parts.view_is) c.requires.letter in (
      c.parts.invariant.0,
      sound_begun _ c.args.at.0 _ c.args.inc c.args.instant c.begin.result _ c.parts.invariant.1 forward c.requires.last c.begin.ensures.flights there
          c.requires.come letter,
    )

pub returns : goal.returns
returns c =
    let due = subst (λ (b : Told). some_pass (λ (f : Filed). is_due (standing_of f c.args.at.0)) (filed_in b.ledger.lanes c.args.inc c.args.instant) ≡ true) (sym c.parts.view_is) c.requires.due in
    let number = subst (λ (b : Told). IfSome (filed_in b.ledger.lanes c.args.inc c.args.instant) (λ (f : Filed). c.args.number ≡ f.entry.used + 1)) (sym c.parts.view_is) c.requires.number in
    along _ (steps.Begin c.args.at c.args.inc c.args.instant c.args.number c.args.epoch) c.parts.view_is
    (begun_taken c.steps_change_the_next_instant.ensures.stays c.steps_change_the_finished_date.ensures.stays _ c.args.at c.args.inc c.args.instant
    c.args.number c.begin.result c.args.epoch _
    (number_is (λ (f : Filed). is_due (standing_of f c.args.at.0)) _ c.begin.result c.args.number due c.begin.ensures.number number) c.begin.ensures.stands)
