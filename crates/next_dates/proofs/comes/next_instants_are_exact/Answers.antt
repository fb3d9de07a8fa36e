use Rattle.next_dates.proofs.NextComing.{next_comes, next_least, next_in_time, unentered_of_last, unentered_from_next, nothing_to_come}
use Rattle.next_dates.proofs.Contents.{current_is_last}
use Rattle.next_dates.proofs.comes.next_instants_are_exact.Goals as goal

pub returns-clause-comes : goal.returns-clause-comes
returns-clause-comes c = next_comes

pub returns-clause-least : goal.returns-clause-least
returns-clause-least c = next_least

pub returns-clause-in_time : goal.returns-clause-in_time
returns-clause-in_time c = next_in_time

pub returns-clause-of_last : goal.returns-clause-of_last
returns-clause-of_last c = unentered_of_last

pub returns-clause-from_next : goal.returns-clause-from_next
returns-clause-from_next c = unentered_from_next

pub returns-clause-nothing : goal.returns-clause-nothing
returns-clause-nothing c = nothing_to_come

pub returns-clause-current : goal.returns-clause-current
returns-clause-current c = current_is_last
