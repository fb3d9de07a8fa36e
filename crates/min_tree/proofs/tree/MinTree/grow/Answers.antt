use Rattle.std.proofs.Common.{◌≡◌, ◌+◌, ℕ, length, drop, length-drop, arith, sym, ap, ◌∙◌, subst}
use Rattle.min_tree.specs.Heap.{row, IsTree}
use Rattle.min_tree.proofs.HeapLemmas.{levels_le}
use Rattle.min_tree.proofs.LeastLemmas.{spare_grown}
use Rattle.min_tree.proofs.tree.MinTree.grow.Goals as goal

pub overflow_add-self : goal.overflow_add-self
overflow_add-self c = omega (arith, levels_le c.self.inside.levels, c.self.invariant.sized.rows, c.self.invariant.sized.few)

pub invariant_of-self : goal.invariant_of-self
invariant_of-self c =
    let new = c.in_ok-self-inside.field-0.items in
    let old = c.self.inside.tree.items in
    let long : length (drop c.self.inside.leaves old) ≡ c.self.inside.leaves = let l = length-drop c.self.inside.leaves old in omega (arith, l, c.self.invariant.sized.size) in
    subst (λ (n : ℕ). IsTree new n (c.self.inside.levels + 1) c.self.inside.len) (sym c.next_leaves-self-inside.ensures.rows) (record {
      sized = c.in_ok-self-inside.ensures.sized;
      heap = c.in_ok-self-inside.ensures.heap;
      fits = omega (arith, c.self.invariant.fits, c.next_leaves-self-inside.ensures.more, c.next_leaves-self-inside.ensures.rows);
      spare = spare_grown (drop c.self.inside.leaves old) (drop (row (c.self.inside.levels + 1)) new) c.self.inside.leaves c.self.inside.len
          (c.in_ok-self-inside.ensures.leaves ∙ ap (drop c.self.inside.leaves) c.deref.ensures.value) long c.self.invariant.spare c.in_ok-self-inside.ensures.spare;
    })
