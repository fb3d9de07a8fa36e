use Rattle.std.proofs.Common.{sym, subst, ap, ◌∙◌, ◌≤◌, Some}
use Rattle.sched_plain.specs.declared.step.Step.TheVariants as steps
use Rattle.sched_plain.specs.declared.holder.Holder.{Holder}
use Rattle.sched_plain.specs.Leases.{is_taking}
use Rattle.book_parts.specs.Told.{Told}
use Rattle.book_tenures.proofs.SoundLemmas.{sound_after, left_if}
use Rattle.book_tenures.proofs.StepLemmas.{along, lease_taken}
use Rattle.book_tenures.proofs.leasing.lease.Goals as goal

pub invariant_of-parts : goal.invariant_of-parts
invariant_of-parts c =
    let forward = subst (λ (b : Told). b.moment ≤ c.args.at.0) (sym c.parts.view_is) c.requires.forward in (
      c.parts.invariant.0,
      sound_after _ c.args.at.0 _ _ _ _ _ c.parts.invariant.1 forward c.requires.last c.parts.invariant.1.shards
          (left_if _ (Some c.args.shard) _ _ c.lose_taken.ensures.air),
    )

pub returns : goal.returns
returns c =
    along _ (steps.Lease c.args.at c.args.shard c.args.worker c.args.epoch c.args.until) c.parts.view_is
    (lease_taken c.steps_change_the_next_instant.ensures.stays c.steps_change_the_finished_date.ensures.stays _ c.args.at c.args.shard c.args.worker
    c.args.epoch c.args.until _ _ _ c.is_taking-taking.result c.requires.shard c.requires.until
    (c.is_taking-taking.ensures ∙ ap (λ (held : Holder). is_taking held c.args.epoch) c.holder.ensures)
    c.hold.ensures c.lose_taken.ensures.stands)
