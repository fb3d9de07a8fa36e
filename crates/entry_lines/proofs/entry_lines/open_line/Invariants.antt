use Rattle.std.proofs.Common.{◌≡◌, ◌<◌, ◌≤◌, ℕ, List, length}
use Rattle.std.specs.Prelude.{vec_len, vec_capacity}
use Rattle.entry_lines.specs.Written.{Written, line_at, moved}
use Rattle.entry_lines.proofs.entry_lines.open_line.Given as goal

-- the later lines so far begin one place later, the others are as they were
pub record Moving (initial now : List Written) (place at len old capacity before : ℕ) : Type 0 where
  pub long : length now ≡ length initial
  pub begun : place < at
  pub first : (j : ℕ) → j ≤ place → line_at now j ≡ line_at initial j
  pub done : (j : ℕ) → place < j → j < at → line_at now j ≡ moved (line_at initial j)
  pub left : (j : ℕ) → at ≤ j → line_at now j ≡ line_at initial j
  pub len_is : len ≡ old
  pub capacity_is : capacity ≡ before

abbrev pub invariant-loop-later : goal.invariant-loop-later
invariant-loop-later l = Moving l.initial.lines.items l.lines.items l.place l.later (vec_len l.lines) (vec_len l.initial.lines) (vec_capacity l.lines) (vec_capacity l.initial.lines)
