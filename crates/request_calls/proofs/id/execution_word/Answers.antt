use Rattle.std.proofs.Common.{sym}
use Rattle.request_calls.proofs.Ids.{execution_none}
use Rattle.request_calls.proofs.id.execution_word.Goals as goal

pub returns-in-None : goal.returns-in-None
returns-in-None c = sym (execution_none c.args.text.now c.in-None.ensures.none)
