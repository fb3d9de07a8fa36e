use Rattle.std.proofs.Common.{◌≡◌, drop}
use Rattle.sched_rows.specs.State.{rows_in}
use Rattle.sched_rows.specs.Groups.{change_all, with_group_ended}
use Rattle.sched_rows.specs.Spans.{AllSpanned}
use Rattle.sched_rows.proofs.schedules.end_members.Given as goal

-- the rows of the numbers that are left are to be ended yet
abbrev pub invariant-loop-number : goal.invariant-loop-number
invariant-loop-number l = record {
  left : change_all (with_group_ended l.at.0 l.group) (rows_in l.rows.items) (drop l.number-index l.numbers)
      ≡ change_all (with_group_ended l.at.0 l.group) (rows_in l.initial.rows.items) l.numbers;
  spans : AllSpanned l.at.0 (rows_in l.rows.items);
}
