use Rattle.std.proofs.Common.{Ok, ap}
use Rattle.sched_calls.specs.declared.call.Call.{Call}
use Rattle.sched_top.proofs.ServingRequests.{asked_is}
use Rattle.sched_top.proofs.service.serve.Goals as goal

pub returns-in-Write-clause-turn : goal.returns-in-Write-clause-turn
returns-in-Write-clause-turn g c =
    asked_is _ _ _ _ _ _ _ _ _ _ _ _ (ap (λ (call : Call). Ok call) c.in-Write.is) (c.serve_write.ensures.turn (g.L.Link.told c.args.link.now))

pub returns-in-Read-clause-turn : goal.returns-in-Read-clause-turn
returns-in-Read-clause-turn g c =
    asked_is _ _ _ _ _ _ _ _ _ _ _ _ (ap (λ (call : Call). Ok call) c.in-Read.is) (c.serve_read.ensures.turn _ _)

pub returns-in-Read-clause-zones_rose : goal.returns-in-Read-clause-zones_rose
returns-in-Read-clause-zones_rose g c = c.serve_read.ensures.zones_rose _ _

pub returns-in-Sweep-clause-turn : goal.returns-in-Sweep-clause-turn
returns-in-Sweep-clause-turn g c =
    asked_is _ _ _ _ _ _ _ _ _ _ _ _ (ap (λ (call : Call). Ok call) c.in-Sweep.is) (c.serve_sweep.ensures.turn _)

pub returns-in-Sweep-clause-zones_rose : goal.returns-in-Sweep-clause-zones_rose
returns-in-Sweep-clause-zones_rose g c = c.serve_sweep.ensures.zones_rose _ _
