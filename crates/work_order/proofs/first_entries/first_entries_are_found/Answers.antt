use Rattle.work_order.proofs.FirstEntries.{due_first, live_first}
use Rattle.work_order.proofs.first_entries.first_entries_are_found.Goals as goal

pub returns-clause-due : goal.returns-clause-due
returns-clause-due c = due_first

pub returns-clause-live : goal.returns-clause-live
returns-clause-live c = live_first
