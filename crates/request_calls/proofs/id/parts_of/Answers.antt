use Rattle.std.proofs.Common.{sym, arith}
use Rattle.request_calls.proofs.Ids.{execution_is}
use Rattle.request_calls.proofs.id.parts_of.Goals as goal

pub returns : goal.returns
returns c = sym (execution_is c.args.text.now c.args.inc c.args.instant (omega arith) (omega arith) c.requires)
