use Rattle.std.proofs.Common.{◌≡◌, ◌+◌, ◌++◌, drop}
use Rattle.sched_calls.specs.Replies.{letter_rows}
use Rattle.read_replies.proofs.letters.letter_rows.Given as goal

-- the rows so far and those of the letters that are left are those of all
abbrev pub invariant-loop-i : goal.invariant-loop-i
invariant-loop-i l = letter_rows l.rows.rows (l.after + 1) l.letters ≡ l.page ++ letter_rows l.rows.rows (l.after + 1 + l.i) (drop l.i l.letters)
