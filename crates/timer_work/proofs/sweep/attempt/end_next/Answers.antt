use Rattle.std.proofs.Common.{arith}
use Rattle.timer_work.proofs.ActLemmas.{puts_here, stays_here, disk_as}
use Rattle.timer_work.proofs.AttemptLemmas.{attempt_fits, small_number, begun_ends}
use Rattle.timer_work.proofs.sweep.attempt.end_next.Goals as goal

pub end-requires-clause-inc : goal.end-requires-clause-inc
end-requires-clause-inc g c =
    let (since, h, st, begun) = c.requires.begun in
    let valid = (attempt_fits c.args.at.0 begun.shard c.args.ticket.inc c.args.ticket.instant begun.before begun.asks).0 in
    valid.1.0

pub end-requires-clause-instant : goal.end-requires-clause-instant
end-requires-clause-instant g c =
    let (since, h, st, begun) = c.requires.begun in
    let valid = (attempt_fits c.args.at.0 begun.shard c.args.ticket.inc c.args.ticket.instant begun.before begun.asks).0 in
    valid.2

pub end-requires-clause-number : goal.end-requires-clause-number
end-requires-clause-number g c =
    let (since, h, st, begun) = c.requires.begun in
    let small = (small_number c.args.at.0 begun.shard c.args.ticket.inc c.args.ticket.instant begun.before begun.asks).0 in
    let is = begun.number in
    omega (arith, small, is)

pub end_stop-requires : goal.end_stop-requires
end_stop-requires g c =
    let (since, h, st, begun) = c.requires.begun in
    let (held, cause) = stays_here _ _ _ _ _ (g.met.K.Keeper.holds _) (g.met.K.Keeper.settled _) c.in-Err.ensures.refused since h st in
    begun_ends c.args.at.0 c.args.ticket c.args.verdict c.args.status c.in-Err.fault h begun cause

pub returns-in-Ok-clause-ended : goal.returns-in-Ok-clause-ended
returns-in-Ok-clause-ended g c = λ since h st.
    (puts_here _ _ _ _ _ _ (g.met.K.Keeper.holds _) (g.met.K.Keeper.settled _) c.in-Ok.ensures.ended since h st).0

pub returns-in-Err-clause-stays : goal.returns-in-Err-clause-stays
returns-in-Err-clause-stays g c = λ since h st.
    (stays_here _ _ _ _ _ (g.met.K.Keeper.holds _) (g.met.K.Keeper.settled _) c.in-Err.ensures.refused since h st).0

pub returns-in-Err-clause-disk : goal.returns-in-Err-clause-disk
returns-in-Err-clause-disk g c = disk_as _ _ _ _ _ (omega arith) c.end_stop.ensures.told c.in-Err.ensures.disk
