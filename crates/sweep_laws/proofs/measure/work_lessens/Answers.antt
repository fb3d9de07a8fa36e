use Rattle.sweep_laws.proofs.Drops.{close_lessens, attempt_lessens}
use Rattle.sweep_laws.proofs.Entering.{enter_lessens}
use Rattle.sweep_laws.proofs.Completing.{complete_lessens}
use Rattle.sweep_laws.proofs.Small.{small_load}
use Rattle.sweep_laws.proofs.Catching.{catch_ups_lessen, unentered_few}
use Rattle.sweep_laws.proofs.measure.work_lessens.Goals as goal

pub returns-clause-entered : goal.returns-clause-entered
returns-clause-entered c = enter_lessens

pub returns-clause-closed : goal.returns-clause-closed
returns-clause-closed c = close_lessens

pub returns-clause-attempted : goal.returns-clause-attempted
returns-clause-attempted c = attempt_lessens

pub returns-clause-completed : goal.returns-clause-completed
returns-clause-completed c = complete_lessens

pub returns-clause-small : goal.returns-clause-small
returns-clause-small c = small_load

pub returns-clause-caught_up : goal.returns-clause-caught_up
returns-clause-caught_up c = catch_ups_lessen

pub returns-clause-few : goal.returns-clause-few
returns-clause-few c = unentered_few
