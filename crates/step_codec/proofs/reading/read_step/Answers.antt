use Rattle.std.proofs.Common.{arith}
use Rattle.step_codec.proofs.ReadingLaws as laws
use Rattle.step_codec.proofs.reading.read_step.Goals as goal

pub returns-clause-valid : goal.returns-clause-valid
returns-clause-valid c = laws.read_valid c.args.payload.now c.read.result (λ i. omega (arith, c.type_inv.payload i)) c.read.ensures.read c.read.ensures.exact

pub returns-clause-payload : goal.returns-clause-payload
returns-clause-payload c = laws.read_payload c.args.payload.now c.read.result (λ i. omega (arith, c.type_inv.payload i)) c.read.ensures.read

pub returns-clause-back : goal.returns-clause-back
returns-clause-back c = λ step valid is. laws.reads_back c.args.payload.now step c.read.result valid is (returns-clause-valid c) c.read.ensures.read

pub returns-clause-fault : goal.returns-clause-fault
returns-clause-fault c = λ fault first. laws.first_told c.args.payload.now fault c.read.result first c.read.ensures.read

pub returns-clause-first : goal.returns-clause-first
returns-clause-first c = laws.tells_first c.args.payload.now c.read.result c.read.ensures.read

pub returns-clause-once : goal.returns-clause-once
returns-clause-once c = laws.payload_once
