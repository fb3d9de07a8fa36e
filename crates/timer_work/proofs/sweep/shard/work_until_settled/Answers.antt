use Rattle.std.proofs.Common.{refl, arith}
use Rattle.sweep_laws.proofs.Small.{small_load}
use Rattle.book_parts.specs.Stands.{calendar}
use Rattle.timer_work.specs.Places.{AtWork}
use Rattle.timer_work.proofs.ActLemmas.{disk_as}
use Rattle.timer_work.proofs.OfferLemmas.{settled_as}
use Rattle.timer_work.proofs.WentLemmas.{stopped_on, none_worked, one_more_worked}
use Rattle.timer_work.proofs.sweep.shard.work_until_settled.Goals as goal

pub working-init : goal.working-init
working-init g c = record {
  went = λ shards since h st fit. none_worked _ c.args.at.0 c.args.shard shards h _ st fit;
  asks = c.next_work-next.ensures;
  latest = c.requires.later;
  faults = omega arith;
  losses = omega arith;
}

pub do_next-requires-clause-wanted : goal.do_next-requires-clause-wanted
do_next-requires-clause-wanted g c =
    let (shards, (since, h, st, fit)) = c.requires.lives in
    let w = (c.working.invariant.went shards since h st fit).went in
    (c.args.shard, (shards, (since, w.after, w.stands, (w.fit, c.working.invariant.asks since w.after w.stands))))

pub returns-in-Settled-clause-settled : goal.returns-in-Settled-clause-settled
returns-in-Settled-clause-settled g c = λ shards since h st fit.
    let w = (c.working.invariant.went shards since h st fit).went in
    record { went = w; asks = settled_as c.args.at.0 c.args.shard c.working.next w.after c.in-Settled.is (c.working.invariant.asks since w.after w.stands) }

pub returns-in-Err : goal.returns-in-Err
returns-in-Err g c = record {
  settled = λ shards since h st fit.
      let w = (c.working.invariant.went shards since h st fit).went in
      stopped_on _ _ _ _ c.args.at.0 (AtWork c.args.shard shards) h _ (AtWork c.args.shard shards) _ _ w
      (c.in-Err.ensures.done since w.after c.args.shard shards w.stands (w.fit, c.working.invariant.asks since w.after w.stands));
  left = c.in-Err.ensures.left;
  disk = disk_as _ _ _ _ _ c.working.invariant.faults refl c.in-Err.ensures.disk;
  latest = c.do_next.ensures.latest;
  faults = omega (arith, c.working.invariant.faults, c.do_next.ensures.faults);
  losses = omega (arith, c.working.invariant.losses, c.do_next.ensures.losses);
}

pub working-preserved : goal.working-preserved
working-preserved g c = record {
  went = λ shards since h st fit.
      let worked = c.working.invariant.went shards since h st fit in
      let w = worked.went in
      one_more_worked _ _ c.args.at.0 c.args.shard c.working._done shards h _ _ _ worked
      (c.in_default-do_next.ensures.done since w.after c.args.shard shards w.stands (w.fit, c.working.invariant.asks since w.after w.stands));
  asks = c.next_work-next-in-working.ensures;
  latest = c.do_next.ensures.latest;
  faults = omega (arith, c.working.invariant.faults, c.do_next.ensures.faults);
  losses = omega (arith, c.working.invariant.losses, c.do_next.ensures.losses);
}

pub unreachable-requires : goal.unreachable-requires
unreachable-requires g c =
    let (shards, (since, h, st, fit)) = c.requires.lives in
    let worked = (c.working.invariant.went shards since h st fit).less in
    let good = (c.next_work-next.ensures since h st).good in
    let small = small_load calendar h c.args.shard c.args.at.0 good.legal good.early good.late (omega (arith, c.requires.shard)) in
    omega (arith, worked, small, c.working-test.false)
