use Rattle.std.proofs.Common.{rules, ◌≡◌, ◌+◌, ◌-◌, ◌^◌, ◌≤◌, List, [], subst, arith, min}
use Rattle.std.specs.BTreeMap.{values}
use Rattle.dead_letters.specs.Piles.{Piled}
use Rattle.dead_letters.specs.Shown.{count_in}
use Rattle.dead_letters.proofs.CountLaws.{apart_of}
use Rattle.dead_letters.proofs.piles.count_of.Goals as goal

pub returns-clause-count : goal.returns-clause-count
returns-clause-count c =
    let done : c.loop-pile.pile-iterator ≡ [] = search rules in
    let small : c.loop-pile.count ≤ 18446744073709551615 = c.loop-pile.invariant.0 in
    let all = subst (λ (rest : List Piled). min (c.loop-pile.count + count_in rest) (2 ^ 64 - 1) ≡ min (count_in (values c.args.piles.now)) (2 ^ 64 - 1)) done c.loop-pile.invariant.1 in
    omega (arith, all, small)

pub returns-clause-apart : goal.returns-clause-apart
returns-clause-apart c = apart_of c.args.piles.now.entries c.values-pile-items.ensures.ordered
