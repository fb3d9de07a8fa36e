use Rattle.civil_time.proofs.OneOfEach.{one_of_each}
use Rattle.civil_time.proofs.numbers.one_civil_second_each.Goals as goal

pub returns : goal.returns
returns c = one_of_each
