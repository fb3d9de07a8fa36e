use Rattle.request_turns.proofs.Bodies.{few_members}
use Rattle.request_turns.proofs.turns.members_are_few.Goals as goal

pub returns : goal.returns
returns c = few_members
