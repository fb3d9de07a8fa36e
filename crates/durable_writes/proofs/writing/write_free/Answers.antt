use Rattle.durable_writes.proofs.writing.write_free.Goals as goal

pub returns-in-Err-clause-stopped : goal.returns-in-Err-clause-stopped
returns-in-Err-clause-stopped g c = λ since h st free.
    let stayed = c.in-Err.ensures.stopped since h st free in
    (stayed.0, stayed.1, record { denied = c.in-Err.fault; as_told = c.write_fault.ensures; stopped = stayed.2 })
