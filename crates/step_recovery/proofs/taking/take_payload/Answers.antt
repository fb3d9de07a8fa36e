use Rattle.std.proofs.Common.{◌≡◌, sym, subst, ◌∙◌}
use Rattle.sched_plain.specs.Legal.{MayFollow}
use Rattle.sched_plain.specs.declared.step.Step.{Step}
use Rattle.step_codec.proofs.ReadingLaws.{payload_once}
use Rattle.book_parts.specs.Stands.{calendar}
use Rattle.step_recovery.proofs.taking.take_payload.Goals as goal

pub returns-in-Ok-clause-broken : goal.returns-in-Ok-clause-broken
returns-in-Ok-clause-broken g c = λ is h stands s valid may same.
    let one : s ≡ c.in-Ok.step = payload_once s c.in-Ok.step valid c.in-Ok.ensures.valid (sym same ∙ c.in-Ok.ensures.payload) in
    c.take_step.ensures.broken is h stands (subst (λ (x : Step). MayFollow calendar h x) one may)
