use Rattle.std.proofs.Common.{ap, subst, arith}
use Rattle.book_parts.specs.Stands.{calendar}
use Rattle.write_plans.specs.declared.plan.Plan.{Plan}
use Rattle.write_plans.specs.Planning.{IsPlanned}
use Rattle.durable_writes.specs.Leading.{plan_onward}
use Rattle.durable_writes.proofs.LeadLemmas.{underway_none, underway_more, little_open}
use Rattle.durable_writes.proofs.ResultLemmas.{ok_both, err_both}
use Rattle.durable_writes.proofs.StopLemmas.{stopped_here, stopped_unplanned, stopped_entering, accepted_by}
use Rattle.durable_writes.proofs.accepting.accept.Goals as goal

pub entering-init : goal.entering-init
entering-init g c = record {
  went = λ since h st free. (h, st, underway_none c.args.at.0 c.args.write.now _ h free);
  latest = c.requires.later;
  faults = omega arith;
}

pub next_of-requires : goal.next_of-requires
next_of-requires g c =
    let lives = c.requires.lives in
    let here = c.entering.invariant.went lives.0 lives.1 lives.2 lives.3.0 in
    record { lives = (here.0, c.book.ensures.stands lives.0 here.0 (g.met.K.Keeper.holds _ lives.0 here.0 here.1), here.2.unhindered) }

pub returns-in_default-clause-stopped : goal.returns-in_default-clause-stopped
returns-in_default-clause-stopped g c = λ since h st free.
    let here = c.entering.invariant.went since h st free in
    (here.0, g.met.K.Keeper.holds _ since here.0 here.1, stopped_unplanned _ c.args.at.0 c.args.write.now _ _ c.entering._done h here.0 here.2)

pub enter_found-requires-clause-lives : goal.enter_found-requires-clause-lives
enter_found-requires-clause-lives g c =
    let lives = c.requires.lives in
    let here = c.entering.invariant.went lives.0 lives.1 lives.2 lives.3.0 in
    (lives.0, here.0, here.1)

pub returns-in-Err-clause-stopped : goal.returns-in-Err-clause-stopped
returns-in-Err-clause-stopped g c = λ since h st free.
    let here = c.entering.invariant.went since h st free in
    let left = c.in-Err.ensures.refused since here.0 here.1 in
    (left.0, left.1, stopped_entering _ c.args.at.0 c.args.write.now c.in-CatchUp.inc _ _ _ c.entering._done c.in-Err.fault h here.0 left.0 here.2 left.2)

pub change-requires-clause-lives : goal.change-requires-clause-lives
change-requires-clause-lives g c =
    let lives = c.requires.lives in
    let here = c.entering.invariant.went lives.0 lives.1 lives.2 lives.3.0 in
    (lives.0, here.0, here.1)

pub returns-in-Ready-clause-done : goal.returns-in-Ready-clause-done
returns-in-Ready-clause-done g c =
    ok_both _ _ _ c.change.result
    (λ reply is added. λ since h st free.
    let here = c.entering.invariant.went since h st free in
    let planned = c.in-Ok.ensures here.0 (c.book.ensures.stands since here.0 (g.met.K.Keeper.holds _ since here.0 here.1)) in
    let ready = subst (λ (p : Plan). IsPlanned calendar here.0 c.args.at.0 c.args.write.now p) (ap plan_onward c.in-Ready.is) planned in
    (_, added since here.0 here.1, accepted_by c.args.at.0 c.args.write.now _ _ c.entering._done reply h here.0 c.in-Ready.step here.2 ready is))
    c.change.ensures.reply c.change.ensures.added

pub returns-in-Ready-clause-stopped : goal.returns-in-Ready-clause-stopped
returns-in-Ready-clause-stopped g c =
    err_both _ _ _ c.change.result
    (λ fault cause stays. λ since h st free.
    let here = c.entering.invariant.went since h st free in
    (here.0, stays since here.0 here.1, stopped_here _ c.args.at.0 c.args.write.now _ _ c.entering._done fault h here.0 c.in-Ready.step here.2 (cause since here.0 here.1)))
    c.change.ensures.cause c.change.ensures.stays

pub entering-preserved : goal.entering-preserved
entering-preserved g c = record {
  went = λ since h st free.
      let here = c.entering.invariant.went since h st free in
      let planned = c.in-Ok.ensures here.0 (c.book.ensures.stands since here.0 (g.met.K.Keeper.holds _ since here.0 here.1)) in
      let behind = subst (λ (p : Plan). IsPlanned calendar here.0 c.args.at.0 c.args.write.now p) (ap plan_onward c.in-CatchUp.is) planned in
      let more = c.in_default-enter_found.ensures.entered since here.0 here.1 in (
        more.0,
        more.1,
        underway_more c.args.at.0 c.args.write.now c.in-CatchUp.inc c.in_default-enter_found.field-0 c.entering._done _ _ _ h here.0 more.0 here.2 behind more.2,
      );
  latest = c.enter_found.ensures.latest;
  faults = omega (arith, c.entering.invariant.faults, c.enter_found.ensures.faults);
}

pub unreachable-requires : goal.unreachable-requires
unreachable-requires g c =
    let lives = c.requires.lives in
    let here = c.entering.invariant.went lives.0 lives.1 lives.2 lives.3.0 in
    let less = here.2.less in
    let small = little_open lives.1 c.args.at.0 c.args.write.now lives.3.1 c.requires.moment in
    let end = c.entering-test.false in
    omega (arith, less, small, end)
