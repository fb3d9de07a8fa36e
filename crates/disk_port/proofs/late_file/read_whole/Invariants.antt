use Rattle.std.proofs.Common.{◌≤◌, length}
use Rattle.disk_port.proofs.late_file.read_whole.Given as goal

-- what was read fits
abbrev pub invariant-loop-turn : goal.invariant-loop-turn
invariant-loop-turn l = l.count ≤ length l.into
