use Rattle.disk_port.proofs.PastLemmas.{mem_same}
use Rattle.disk_port.proofs.mem_disk.MemDiskDisk.len.Goals as goal

pub returns-then-refuses-clause-time : goal.returns-then-refuses-clause-time
returns-then-refuses-clause-time c = mem_same c.args.self.now c.refuses.new.self c.refuses.ensures.first c.refuses.ensures.past

pub returns-clause-time : goal.returns-clause-time
returns-clause-time c = mem_same c.args.self.now c.refuses.new.self c.refuses.ensures.first c.refuses.ensures.past
