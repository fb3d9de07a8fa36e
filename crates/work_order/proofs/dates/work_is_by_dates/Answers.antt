use Rattle.work_order.proofs.Completed.{completes, finished_in_time}
use Rattle.work_order.proofs.Dated.{first_open_dated, works_dated}
use Rattle.work_order.proofs.dates.work_is_by_dates.Goals as goal

pub returns-clause-completes : goal.returns-clause-completes
returns-clause-completes c = completes

pub returns-clause-in_time : goal.returns-clause-in_time
returns-clause-in_time c = finished_in_time

pub returns-clause-opens : goal.returns-clause-opens
returns-clause-opens c = first_open_dated

pub returns-clause-works : goal.returns-clause-works
returns-clause-works c = works_dated
