use Rattle.std.proofs.Common.{◌≤◌, length}
use Rattle.target_link.proofs.tcp_link.read_to_end.Given as goal

abbrev pub invariant-loop : goal.invariant-loop
invariant-loop g l = l.filled ≤ length l.reply
