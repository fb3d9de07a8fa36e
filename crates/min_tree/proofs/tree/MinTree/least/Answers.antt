use Rattle.std.proofs.Common.{◌≡◌, ◌≤◌, ℕ, ap, subst, ◌∙◌, arith}
use Rattle.std.proofs.lemmas.List.{get_or_default}
use Rattle.min_tree.specs.declared.nodes.TheConstants.{ABOVE_ALL}
use Rattle.min_tree.specs.Heap.{node}
use Rattle.min_tree.specs.Numbers.{Numbers}
use Rattle.min_tree.specs.Search.{least}
use Rattle.min_tree.proofs.LeastLemmas.{root_is}
use Rattle.min_tree.proofs.tree.MinTree.least.Goals as goal

pub returns : goal.returns
returns c =
    let small : c.index.result.now ≤ ABOVE_ALL = omega arith in
    let some = c.self.invariant.sized.size in
    let root : c.index.result.now ≡ node c.self.inside.tree.items 1 =
    c.index.ensures ∙ get_or_default c.self.inside.tree.items 1 c.index.result.now 0 (omega (arith, some, c.if-self-eq0.false)) in
    root
    ∙ root_is c.self.inside.tree.items c.self.inside.leaves c.self.inside.levels c.self.inside.len c.self.invariant (omega (arith, c.if-self-eq0.false)) (subst (λ (n : ℕ). n ≤ ABOVE_ALL) root small)
    ∙ ap (λ (n : Numbers). least n.values) c.self.view_is
