use Rattle.std.proofs.Common.{rules}
use Rattle.disk_port.specs.declared.event.Event.TheVariants.{Synced}
use Rattle.disk_port.proofs.PastLemmas.{mem_same, mem_more, mem_synced}
use Rattle.disk_port.proofs.mem_disk.MemDiskDisk.sync.Goals as goal

pub returns-then-refuses-clause-time : goal.returns-then-refuses-clause-time
returns-then-refuses-clause-time c = mem_same c.args.self.now c.refuses.new.self c.refuses.ensures.first c.refuses.ensures.past

pub returns-in-Ok-clause-image : goal.returns-in-Ok-clause-image
returns-in-Ok-clause-image c = mem_synced c.args.self.now c.settle.new.self (search rules) (search rules)

pub returns-in-Ok-clause-time : goal.returns-in-Ok-clause-time
returns-in-Ok-clause-time c = mem_more c.args.self.now c.settle.new.self Synced (search rules) (search rules)

pub returns-in-Err-clause-time : goal.returns-in-Err-clause-time
returns-in-Err-clause-time c = mem_same c.args.self.now c.fail.new.self (search rules) (search rules)
