use Rattle.zone_occ.proofs.Steps.{step_after}
use Rattle.zone_occ.proofs.next.step_from.Goals as goal

pub returns : goal.returns
returns c =
    step_after c.args.seconds c.args.anchor c.args.from c.requires.low c.if-from-anchor.false c.if-passed-eq0.false
