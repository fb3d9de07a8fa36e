use Rattle.std.proofs.Common.{sym, subst, ◌≤◌}
use Rattle.sched_plain.specs.declared.step.Step.TheVariants as steps
use Rattle.book_parts.specs.Told.{Told}
use Rattle.book_tenures.proofs.SoundLemmas.{sound_after, all_of}
use Rattle.book_tenures.proofs.StepLemmas.{along, release_taken}
use Rattle.book_tenures.proofs.releases.release.Goals as goal

pub invariant_of-parts : goal.invariant_of-parts
invariant_of-parts c =
    let forward = subst (λ (b : Told). b.moment ≤ c.args.at.0) (sym c.parts.view_is) c.requires.forward in (
      c.parts.invariant.0,
      sound_after _ c.args.at.0 _ _ _ _ _ c.parts.invariant.1 forward c.requires.last c.parts.invariant.1.shards (all_of _),
    )

pub returns : goal.returns
returns c =
    along _ (steps.Release c.args.at c.args.shard c.args.worker c.args.epoch) c.parts.view_is
    (release_taken c.steps_change_the_next_instant.ensures.stays c.steps_change_the_finished_date.ensures.stays _ c.args.at c.args.shard c.args.worker
    c.args.epoch _ c.requires.shard c.give_back.ensures)
