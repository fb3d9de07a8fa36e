use Rattle.std.proofs.Common.{◌≡◌, ◌+◌, ◌-◌, ◌^◌, ◌≤◌}
use Rattle.std.specs.Prelude.{min}
use Rattle.std.specs.BTreeMap.{values}
use Rattle.dead_letters.specs.Shown.{count_in}
use Rattle.dead_letters.proofs.piles.count_of.Given as goal

-- what was counted and what the rest has are as many as all have, if the number can be told
abbrev pub invariant-loop-pile : goal.invariant-loop-pile
invariant-loop-pile l =
    (l.count ≤ 18446744073709551615) × (min (l.count + count_in l.pile-iterator) (2 ^ 64 - 1) ≡ min (count_in (values l.piles)) (2 ^ 64 - 1))
