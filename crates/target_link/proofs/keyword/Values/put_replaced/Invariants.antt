use Rattle.std.proofs.Common.{◌≡◌, ◌++◌, length}
use Rattle.target_link.specs.Keywords.{replaced}
use Rattle.target_link.specs.Known.{known}
use Rattle.target_link.proofs.keyword.Values.put_replaced.Given as goal

abbrev pub invariant-loop-rest : goal.invariant-loop-rest
invariant-loop-rest l =
    l.into.items ++ replaced (known l.self) l.rest ≡ l.fn.into.items ++ replaced (known l.self) l.input

abbrev pub decreases-loop-rest : goal.decreases-loop-rest
decreases-loop-rest l = length l.rest
