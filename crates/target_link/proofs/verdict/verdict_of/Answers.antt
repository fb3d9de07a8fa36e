use Rattle.target_link.proofs.VerdictLemmas.{SaysVerdict-unique}
use Rattle.target_link.proofs.verdict.verdict_of.Goals as goal

pub returns-clause-only : goal.returns-clause-only
returns-clause-only c verdict status says =
    SaysVerdict-unique c.args.reply.now verdict c.read_verdict.result.0 status c.read_verdict.result.1 says c.read_verdict.ensures.says
