use Rattle.std.proofs.Common.{◌≡◌, drop, ◌&&◌, option_map}
use Rattle.std.specs.Prelude.{nat_lt}
use Rattle.std.specs.List.{find}
use Rattle.plain_words.specs.Lists.{nth, some_pass}
use Rattle.sched_rows.specs.Answers.{is_of}
use Rattle.sched_rows.specs.State.{rows_in}
use Rattle.sched_rows.proofs.by_number.first_of.Given as goal

-- what is left has the answer
abbrev pub invariant-loop-i : goal.invariant-loop-i
invariant-loop-i l =
    find (λ n. nat_lt l.after n && some_pass (is_of (option_map (λ g. g.now) l.group)) (nth (rows_in l.rows) n)) (drop l.i l.numbers)
    ≡ find (λ n. nat_lt l.after n && some_pass (is_of (option_map (λ g. g.now) l.group)) (nth (rows_in l.rows) n)) (drop l.place l.numbers)
