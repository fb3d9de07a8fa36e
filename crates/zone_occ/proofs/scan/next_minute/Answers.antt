use Rattle.zone_occ.proofs.scan.next_minute.Goals as goal

pub returns-then-is_past-2-clause-none : goal.returns-then-is_past-2-clause-none
returns-then-is_past-2-clause-none c e i fit later shown =
    c.is_past-2.ensures c.if-is_past-2.true e i (c.in_ok-minute.ensures.found.least e fit later) shown
