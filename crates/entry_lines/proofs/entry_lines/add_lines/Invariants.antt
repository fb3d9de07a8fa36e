use Rattle.std.proofs.Common.{◌≡◌, ◌+◌, ◌≤◌, ◌++◌, ℕ, List, map, take, length}
use Rattle.std.specs.Prelude.{vec_len, vec_capacity}
use Rattle.sched_plain.specs.declared.step.Pair.{Pair}
use Rattle.entry_lines.specs.Written.{Written, new_line}
use Rattle.entry_lines.proofs.entry_lines.add_lines.Given as goal

-- the lines of the pairs so far are there, and room for the others
pub record Adding (pairs : List Pair) (initial now : List Written) (start policy at len capacity before : ℕ) : Type 0 where
  pub items : now ≡ initial ++ map {A = Pair} (λ pair. new_line pair start policy) (take at pairs)
  pub len_is : len ≡ length initial + at
  pub left : length initial + length pairs ≤ capacity
  pub grown : before ≤ capacity

abbrev pub invariant-loop-pair : goal.invariant-loop-pair
invariant-loop-pair l = Adding l.pairs l.initial.lines.items l.lines.items l.start l.policy l.pair-index (vec_len l.lines) (vec_capacity l.lines) (vec_capacity l.initial.lines)
