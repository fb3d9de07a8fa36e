use Rattle.sweep_laws.proofs.Holders.{boots_free, later_free, serves_free, serves_epochs}
use Rattle.sweep_laws.proofs.holding.serving_holds_alone.Goals as goal

pub returns-clause-started : goal.returns-clause-started
returns-clause-started c = boots_free

pub returns-clause-later : goal.returns-clause-later
returns-clause-later c = later_free

pub returns-clause-free : goal.returns-clause-free
returns-clause-free c = serves_free

pub returns-clause-epochs : goal.returns-clause-epochs
returns-clause-epochs c = serves_epochs
