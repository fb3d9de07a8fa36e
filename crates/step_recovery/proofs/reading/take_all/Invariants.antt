use Rattle.std.proofs.Common.{◌≡◌, ◌≤◌, ◌^◌, ◌-◌}
use Rattle.journal_file.specs.Journals.{OnlyRead}
use Rattle.step_recovery.specs.Recovery.{Past}
use Rattle.step_recovery.proofs.reading.take_all.Given as goal

abbrev pub invariant-records : goal.invariant-records
invariant-records g l = record {
  past : Past g.M.Machine.stands g.D.Disk.seen g.D.Disk.image l.book l.opening l.disk;
  limit : l.opening.limit ≡ l.fn.opening.limit;
  only_read : OnlyRead g.D.Disk.seen g.D.Disk.image g.D.Disk.moment g.D.Disk.image_since l.fn.disk l.disk;
  later : g.D.Disk.faults l.fn.disk ≤ g.D.Disk.faults l.disk;
}

abbrev pub decreases-records : goal.decreases-records
decreases-records g l = 2 ^ 64 - l.opening.at
