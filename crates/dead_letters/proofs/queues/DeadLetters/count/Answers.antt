use Rattle.std.proofs.Common.{ℕ, ◌-◌, ◌^◌, min, sym, ap, ◌∙◌, subst}
use Rattle.dead_letters.specs.Piles.{Piles}
use Rattle.dead_letters.specs.Posts.{Holds}
use Rattle.dead_letters.specs.Shown.{piles_of, count_in}
use Rattle.dead_letters.proofs.CountLaws.{all_counted, same_values}
use Rattle.dead_letters.proofs.queues.DeadLetters.count.Goals as goal

pub returns : goal.returns
returns c = λ posted holds.
    let held : Holds (piles_of c.self.inside.piles.entries) posted = subst (λ (p : Piles). Holds p posted) (sym c.self.view_is) holds in
    let all = ap count_in (sym (same_values c.self.inside.piles.entries)) ∙ all_counted (piles_of c.self.inside.piles.entries) posted c.count_of.ensures.apart held in
    c.count_of.ensures.count ∙ ap (λ (n : ℕ). min n (2 ^ 64 - 1)) all
