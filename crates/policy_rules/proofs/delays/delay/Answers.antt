use Rattle.std.proofs.Common.{◌-◌, ◌^◌, ◌≤◌, arith}
use Rattle.std.proofs.Math.Nat.{pow-le-pow_right}
use Rattle.policy_rules.proofs.delays.delay.Goals as goal

pub returns-then-number-gt-LAST_DOUBLED-clause-value : goal.returns-then-number-gt-LAST_DOUBLED-clause-value
returns-then-number-gt-LAST_DOUBLED-clause-value c =
    let few : 10 ≤ c.args.number - 1 = omega (arith, c.if-number-gt-LAST_DOUBLED.true) in
    let big : 2 ^ 10 ≤ 2 ^ (c.args.number - 1) = pow-le-pow_right {n = 2} (omega arith) few in
    let long : 900 ≤ 2 ^ (c.args.number - 1) = omega arith in
    omega arith
