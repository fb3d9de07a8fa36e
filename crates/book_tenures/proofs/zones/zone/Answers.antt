use Rattle.std.proofs.Common.{sym, subst, ◌≤◌}
use Rattle.sched_plain.specs.declared.step.Step.TheVariants as steps
use Rattle.zone_shelf.specs.Places.{HasRoom}
use Rattle.book_parts.specs.Told.{Told}
use Rattle.book_tenures.proofs.SoundLemmas.{sound_after, all_of}
use Rattle.book_tenures.proofs.StepLemmas.{along, zone_taken}
use Rattle.book_tenures.proofs.zones.zone.Goals as goal

pub add-requires : goal.add-requires
add-requires c = subst (λ (b : Told). HasRoom b.zones c.args.name c.args.bytes) (sym c.parts.view_is) c.requires.place

pub invariant_of-parts : goal.invariant_of-parts
invariant_of-parts c =
    let forward = subst (λ (b : Told). b.moment ≤ c.args.at.0) (sym c.parts.view_is) c.requires.forward in (
      c.parts.invariant.0,
      sound_after _ c.args.at.0 _ _ _ _ _ c.parts.invariant.1 forward c.requires.last c.parts.invariant.1.shards (all_of _),
    )

pub returns : goal.returns
returns c =
    along _ (steps.Zone c.args.at c.args.name c.args.bytes) c.parts.view_is
    (zone_taken c.steps_change_the_next_instant.ensures.stays c.steps_change_the_finished_date.ensures.stays _ c.args.at c.args.name c.args.bytes _
    c.add.ensures)
