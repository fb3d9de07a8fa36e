use Rattle.std.proofs.Common.{arith}
use Rattle.cron_search.proofs.ShiftedSets.{lowest, lowest_least, nothing_left}
use Rattle.cron_search.proofs.bits.next_value.Goals as goal

pub returns-then-rest-eq0-clause-none : goal.returns-then-rest-eq0-clause-none
returns-then-rest-eq0-clause-none c w fit le = nothing_left _ _ c.if-rest-eq0.true w fit.has le

pub returns-then-value-end-clause-found : goal.returns-then-value-end-clause-found
returns-then-value-end-clause-found c = record {
  has = record { below = c.if-value-end.true; has = lowest _ _ (omega arith) (omega arith) };
  after = omega arith;
  least = λ w fit le. lowest_least _ _ (omega arith) (omega arith) w fit.has le;
}

pub returns-else-value-end-clause-none : goal.returns-else-value-end-clause-none
returns-else-value-end-clause-none c w fit le =
    omega (arith, lowest_least c.args.set c.args.from (omega arith) (omega arith) w fit.has le, fit.below, c.if-value-end.false)
