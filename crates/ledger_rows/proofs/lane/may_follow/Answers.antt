use Rattle.std.proofs.Common.{rules, arith}
use Rattle.ledger_rows.proofs.Entrances.{follow_step, begins_above, next_above, pair_above, false_or_true}
use Rattle.ledger_rows.specs.Rows.{pairs_of}
use Rattle.ledger_rows.proofs.lane.may_follow.Goals as goal

pub loop-pair-init : goal.loop-pair-init
loop-pair-init c = record {
  entrance = search rules;
  top = search rules;
  next = λ may j le lt. begins_above c.args.rows.now.rows c.args.pairs.now c.last_instant-last.result c.last_instant-last.ensures.next may j lt;
}

pub loop-pair-preserved : goal.loop-pair-preserved
loop-pair-preserved c =
    let good = c.is_next.ensures.says c.if-not-is_next.false in
    let next = follow_step c.args.rows.now.rows c.args.pairs.now c.loop-pair.pair-index c.loop-pair.last _ c.loop-pair.invariant.entrance c.loop-pair.invariant.top c.loop-pair-test.true good.0 good.1 in
    record {
      entrance = next.entrance;
      top = next.top;
      next = λ may j le lt. next_above (pairs_of c.args.rows.now.rows) c.args.pairs.now c.loop-pair.pair-index j _ may (omega (arith, le)) lt;
    }

pub returns-then-not-is_next-clause-all : goal.returns-then-not-is_next-clause-all
returns-then-not-is_next-clause-all c = λ may.
    false_or_true c.is_next.result c.if-not-is_next.true
    (c.is_next.ensures.all
    (pair_above c.args.pairs.now c.loop-pair.pair-index _ c.loop-pair.last c.loop-pair-test.true (c.loop-pair.invariant.next may c.loop-pair.pair-index (omega arith) c.loop-pair-test.true))
    (may.small c.loop-pair.pair-index _ c.loop-pair-test.true))
