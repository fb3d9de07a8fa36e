use Rattle.std.proofs.Common.{rules}
use Rattle.http_wire.proofs.HeadLemmas.{fewer_after, up_to_after}
use Rattle.http_wire.proofs.framing.body.read_body.Goals as goal

pub returns-in-Err-clause-part : goal.returns-in-Err-clause-part
returns-in-Err-clause-part g c = λ is.
    fewer_after _ _ _ _ _ _ c.taking.invariant.taken c.taking.invariant.within (search rules) (c.in-Err.ensures.part is)

pub returns-in-Err-clause-wanting : goal.returns-in-Err-clause-wanting
returns-in-Err-clause-wanting g c = λ is.
    up_to_after _ _ _ _ _ _ c.taking.invariant.taken c.taking.invariant.within (search rules) (c.in-Err.ensures.wanting is)
