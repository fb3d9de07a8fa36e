use Rattle.std.proofs.Common.{◌≡◌}
use Rattle.target_link.proofs.spares.Spares.filled.Given as goal

abbrev pub invariant-loop : goal.invariant-loop
invariant-loop l = (l.spares.count ≡ l.counter) × (l.spares.most_bytes ≡ l.most_bytes)
