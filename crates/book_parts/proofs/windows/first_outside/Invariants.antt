use Rattle.std.proofs.Common.{◌≡◌, drop}
use Rattle.sched_plain.specs.Rows.{content_at}
use Rattle.sched_plain.specs.Rules.{first_outside}
use Rattle.book_parts.proofs.windows.first_outside.Given as goal

-- the pairs that are left have the answer
abbrev pub invariant-loop-pair : goal.invariant-loop-pair
invariant-loop-pair l = first_outside (content_at l.rows.rows l.inc) (drop l.pair-index l.pairs) ≡ first_outside (content_at l.rows.rows l.inc) l.pairs
