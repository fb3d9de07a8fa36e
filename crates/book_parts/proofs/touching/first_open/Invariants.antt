use Rattle.std.proofs.Common.{◌≡◌, ◌-◌, ◌^◌}
use Rattle.std.specs.Prelude.{nat_lt}
use Rattle.std.specs.List.{filter}
use Rattle.plain_words.specs.Lists.{first_answer}
use Rattle.sched_plain.specs.Rows.{touched_by}
use Rattle.book_parts.specs.Touching.{come_at}
use Rattle.book_parts.proofs.touching.first_open.Given as goal

-- those above the last one have the answer
abbrev pub invariant-loop-inc : goal.invariant-loop-inc
invariant-loop-inc l =
    first_answer (come_at l.next.dates l.at.0) (filter (nat_lt l.after) (touched_by l.rows.rows l.write))
    ≡ first_answer (come_at l.next.dates l.at.0) (touched_by l.rows.rows l.write)

abbrev pub decreases-loop-inc : goal.decreases-loop-inc
decreases-loop-inc l = 2 ^ 32 - l.after
