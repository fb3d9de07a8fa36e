use Rattle.std.proofs.Common.{◌≡◌, ◌≤◌, ℕ, List}
use Rattle.std.specs.Prelude.{vec_len, vec_capacity}
use Rattle.sched_plain.specs.Attempts.{end_attempt, lose_attempt}
use Rattle.sched_plain.specs.declared.entry.Attempt.{Attempt}
use Rattle.entry_lines.specs.Laid.{IsMapped}
use Rattle.entry_lines.proofs.attempts.end_among.Given as goal

-- those so far are changed, and the vector has its length and its capacity
pub record Changing (f : Attempt → Attempt) (initial now : List Attempt) (from at len old capacity before : ℕ) : Type 0 where
  pub mapped : IsMapped f initial now from at
  pub begun : from ≤ at
  pub len_is : len ≡ old
  pub capacity_is : capacity ≡ before

abbrev pub invariant-loop-place : goal.invariant-loop-place
invariant-loop-place l =
    Changing (end_attempt l.number l.verdict l.status) l.initial.attempts.items l.attempts.items l.from l.place (vec_len l.attempts) (vec_len l.initial.attempts) (vec_capacity l.attempts) (vec_capacity l.initial.attempts)
