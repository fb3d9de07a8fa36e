use Rattle.std.proofs.Common.{◌∙◌, take}
use Rattle.zone_occ.specs.Instants.{instants}
use Rattle.zone_occ.specs.FirstInstants.{IsInstant}
use Rattle.zone_occ.proofs.Unique.{same_firsts, first_instants}
use Rattle.zone_occ.proofs.batch.occurrences.Goals as goal

pub returns-clause-list : goal.returns-clause-list
returns-clause-list c =
    let a = c.args in
    c.from_vec.ensures ∙ same_firsts (IsInstant a.expr.now a.zone.now a.anchor) a.from a.to a.max c.in_ok-moments.moments.items
    (take a.max (instants a.expr.now a.zone.now a.anchor a.from a.to)) c.requires.max c.in_ok-moments.ensures
    (first_instants a.expr.now a.zone.now a.anchor a.from a.to a.max c.requires.max)
