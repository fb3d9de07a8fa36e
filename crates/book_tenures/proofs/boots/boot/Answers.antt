use Rattle.std.proofs.Common.{sym, subst, refl, ◌≤◌, None}
use Rattle.sched_plain.specs.declared.step.Step.TheVariants as steps
use Rattle.book_parts.specs.Told.{Told}
use Rattle.book_tenures.proofs.SoundLemmas.{sound_after, left_of}
use Rattle.book_tenures.proofs.StepLemmas.{along, none_swept, boot_taken}
use Rattle.book_tenures.proofs.boots.boot.Goals as goal

pub invariant_of-parts : goal.invariant_of-parts
invariant_of-parts c =
    let forward = subst (λ (b : Told). b.moment ≤ c.args.at.0) (sym c.parts.view_is) c.requires.forward in (
      c.parts.invariant.0,
      sound_after _ c.args.at.0 _ _ _ _ _ c.parts.invariant.1 forward c.requires.last refl (left_of None _ _ c.lose.ensures.air),
    )

pub returns : goal.returns
returns c =
    along _ (steps.Boot c.args.at) c.parts.view_is
    (boot_taken c.steps_change_the_next_instant.ensures.stays c.steps_change_the_finished_date.ensures.stays _ c.args.at _ _ _
    none_swept c.free_all.ensures.step c.lose.ensures.stands)
