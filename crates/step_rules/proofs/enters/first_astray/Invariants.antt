use Rattle.std.proofs.Common.{◌≡◌, drop}
use Rattle.sched_plain.specs.Rules.{first_astray}
use Rattle.step_rules.proofs.enters.first_astray.Given as goal

-- the pairs that are left have the answer over the wanted ones that are left
abbrev pub invariant-loop-pair : goal.invariant-loop-pair
invariant-loop-pair l = first_astray (drop l.pair-index l.pairs) l.left ≡ first_astray l.pairs l.wanted
