-- What a start, a lease, its end, a sweep and a zone find.
use Rattle.sched_plain.specs.declared.step.Step.TheVariants as steps
use Rattle.step_needs.specs.Tenures.{BootsFind, LeasesFind, ReleasesFind, SweptsFind, ZonesFind}
use Rattle.step_needs.proofs.MomentLemmas.{is_forward}

pub boots_find : BootsFind
boots_find b h at st valid may = record { forward = is_forward b h (steps.Boot at) st may; last = valid }

pub zones_find : ZonesFind
zones_find b h at name bytes st valid may = record { forward = is_forward b h (steps.Zone at name bytes) st may; last = valid.0 }

pub leases_find : LeasesFind
leases_find b h at shard worker epoch until st valid may =
    record {
      shard = valid.1;
      until = valid.4;
      forward = is_forward b h (steps.Lease at shard worker epoch until) st may;
      last = valid.0;
    }

pub releases_find : ReleasesFind
releases_find b h at shard worker epoch st valid may =
    record { shard = valid.1; forward = is_forward b h (steps.Release at shard worker epoch) st may; last = valid.0 }

pub swepts_find : SweptsFind
swepts_find b h at shard st valid may =
    record { shard = valid.1; forward = is_forward b h (steps.Swept at shard) st may; last = valid.0 }
