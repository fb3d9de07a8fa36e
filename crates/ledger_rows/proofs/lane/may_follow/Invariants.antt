use Rattle.std.proofs.Common.{ℕ, ◌≤◌, ◌<◌, ◌++◌, Option, List, length, take, slice_index}
use Rattle.sched_plain.specs.declared.step.Pair.{Pair}
use Rattle.sched_plain.specs.Entries.{instants_of}
use Rattle.entry_lines.specs.Rows.{Row}
use Rattle.ledger_rows.specs.Rows.{instants_in, pairs_of, IsEntrance, IsTop, IsAbove}
use Rattle.ledger_rows.proofs.lane.may_follow.Given as goal

-- the pairs so far may be entered, and the last instant is above none, and below each that comes if all may be entered
pub record Following (rows : List Row) (pairs : List Pair) (index : ℕ) (last : Option ℕ) : Type 0 where
  pub entrance : IsEntrance (pairs_of rows) (take index pairs)
  pub top : IsTop (instants_in rows ++ instants_of (take index pairs)) last
  pub next : IsEntrance (pairs_of rows) pairs → (j : ℕ) → index ≤ j → j < length pairs → IsAbove last (slice_index (instants_of pairs) j)

abbrev pub invariant-loop-pair : goal.invariant-loop-pair
invariant-loop-pair l = Following l.rows.rows l.pairs l.pair-index l.last
