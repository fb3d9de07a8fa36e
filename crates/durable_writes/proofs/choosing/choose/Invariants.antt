use Rattle.sched_plain.specs.History.{History}
use Rattle.sched_calls.specs.Serves.{windows_of}
use Rattle.durable_writes.proofs.ChoiceLemmas.{Paired}
use Rattle.durable_writes.proofs.choosing.choose.Given as goal

abbrev pub invariant-loop-instant : goal.invariant-loop-instant
invariant-loop-instant g l =
    (h : History) → g.M.Machine.stands l.machine h
    → Paired (windows_of h l.inc) l.instants l.instant-index (g.P.Picker.told l.fn.picker) (g.P.Picker.told l.picker) l.pairs.items
