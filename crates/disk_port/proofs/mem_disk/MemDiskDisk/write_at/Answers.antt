use Rattle.std.proofs.Common.{rules}
use Rattle.disk_port.specs.declared.event.Event.TheVariants.{Written}
use Rattle.disk_port.proofs.PastLemmas.{mem_same, mem_more}
use Rattle.disk_port.proofs.mem_disk.MemDiskDisk.write_at.Goals as goal

pub returns-then-refuses-clause-time : goal.returns-then-refuses-clause-time
returns-then-refuses-clause-time c = mem_same c.args.self.now c.refuses.new.self c.refuses.ensures.first c.refuses.ensures.past

pub returns-in-Ok-clause-time : goal.returns-in-Ok-clause-time
returns-in-Ok-clause-time c =
    mem_more c.args.self.now c.put.new.self (Written c.args.at c.args.bytes.now) (search rules) (search rules)

pub returns-in-Err-clause-time : goal.returns-in-Err-clause-time
returns-in-Err-clause-time c = mem_same c.args.self.now c.fail.new.self (search rules) (search rules)
