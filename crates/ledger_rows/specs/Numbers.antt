-- The number that an entry is found by: the moment from which on something is to be done for it.
use Rattle.std.specs.Prelude.{ℕ, max, min, List, map}
use Rattle.min_tree.specs.Search.{least}
use Rattle.min_tree.specs.declared.nodes.TheConstants.{ABOVE_ALL}
use Rattle.sched_plain.specs.Standing.{standing_of}
use Rattle.sched_plain.specs.declared.entry.Filed.{Filed}
use Rattle.sched_plain.specs.declared.standing.Standing.{Standing}
use Rattle.sched_plain.specs.declared.standing.Standing.TheVariants as standings
use Rattle.entry_lines.specs.Rows.{Row}
use Rattle.ledger_rows.specs.declared.wants.TheConstants.{IN_AIR, LAST_BOUND}

-- by where it stands at moment 0: exhausted, it is to be closed once its chosen moment has come; it waits for the
-- later of that moment and the end of its wait; the numbers of the others are above every moment
abbrev pub wants_at : Standing → ℕ → ℕ
wants_at (standings.Decided outcome) chosen = ABOVE_ALL
wants_at standings.Live chosen = IN_AIR
wants_at (standings.Exhausted reason) chosen = chosen
wants_at (standings.Waiting until) chosen = max chosen until
wants_at standings.Due chosen = chosen

-- at moment 0 no age is past but where a wait ends beyond it, which the entry is exhausted by at every moment
unfoldable pub wants : Filed → ℕ
wants filed = wants_at (standing_of filed 0) filed.entry.chosen

-- the numbers of an incarnation's entries, and the least of them
abbrev pub numbers_of : List Row → List ℕ
numbers_of rows = map {A = Row} (λ row. wants row.filed) rows

abbrev pub lane_number : List Row → ℕ
lane_number rows = least (numbers_of rows)

-- what a number is compared with at a moment, so that no moment reaches the numbers of the live and the decided
abbrev pub bound_at : ℕ → ℕ
bound_at now = min now LAST_BOUND
