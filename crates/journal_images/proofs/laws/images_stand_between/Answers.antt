use Rattle.journal_images.proofs.BetweenLemmas.{begins, grows, fails, rests, stand_between}
use Rattle.journal_images.proofs.laws.images_stand_between.Goals as goal

pub returns-clause-begins : goal.returns-clause-begins
returns-clause-begins g c = begins g.D.Disk.moment g.D.Disk.image_since g.D.Disk.faults

pub returns-clause-grows : goal.returns-clause-grows
returns-clause-grows g c = grows g.D.Disk.moment g.D.Disk.image_since g.D.Disk.faults

pub returns-clause-fails : goal.returns-clause-fails
returns-clause-fails g c = fails g.D.Disk.moment g.D.Disk.image_since g.D.Disk.faults

pub returns-clause-rests : goal.returns-clause-rests
returns-clause-rests g c = rests g.D.Disk.image g.D.Disk.moment g.D.Disk.image_since g.D.Disk.faults

pub returns-clause-between : goal.returns-clause-between
returns-clause-between g c = stand_between g.D.Disk.image g.D.Disk.moment g.D.Disk.image_since g.D.Disk.faults
