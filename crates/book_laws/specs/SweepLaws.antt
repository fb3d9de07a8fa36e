-- What a Swept leaves in a legal history.
use Rattle.std.specs.Prelude.{◌≡◌, ℕ, false, Some, []}
use Rattle.sched_plain.specs.declared.entry.Filed.{Filed}
use Rattle.plain_words.specs.declared.moment.Moment.{Moment}
use Rattle.sched_plain.specs.declared.standing.Standing.{Standing}
use Rattle.sched_plain.specs.declared.standing.Standing.TheVariants as standings
use Rattle.sched_plain.specs.declared.step.Step.TheVariants as steps
use Rattle.sched_plain.specs.History.{History, ◌upon◌}
use Rattle.plain_words.specs.Ids.{shard_of}
use Rattle.expressions.specs.Calendar.{Calendar}
use Rattle.sched_plain.specs.Ledger.{ledger_of}
use Rattle.sched_plain.specs.Entries.{filed}
use Rattle.sched_plain.specs.Standing.{standing_of}
use Rattle.sched_plain.specs.Marks.{unentered}
use Rattle.sched_plain.specs.Seen.{seen}
use Rattle.sched_plain.specs.Work.{completable}
use Rattle.sched_plain.specs.Legal.{IsLegal}

-- the standing asks for nothing now: the entry is decided, or waits
abbrev pub IsAtRest : Standing → Type 0
IsAtRest (standings.Decided outcome) = Unit {0}
IsAtRest standings.Live = ⊥
IsAtRest (standings.Exhausted reason) = ⊥
IsAtRest (standings.Waiting until) = Unit {0}
IsAtRest standings.Due = ⊥

-- nothing of an incarnation is left to do at a moment: no occurrence is unentered, no entry is due, exhausted or
-- live, and the schedule is not to be removed
pub record NothingLeft (c : Calendar) (h : History) (inc t : ℕ) : Type 0 where
  pub entered : unentered c h inc t ≡ []
  pub at_rest : (instant : ℕ) (f : Filed) → filed (ledger_of h) inc instant ≡ Some f → IsAtRest (standing_of f t)
  pub incomplete : completable (seen c h) inc t ≡ false

-- a Swept leaves nothing to do at its moment in its shard
abbrev pub SweptLeavesNothing : Type 0
SweptLeavesNothing =
    (c : Calendar) (h : History) (at : Moment) (shard : ℕ) → IsLegal c (steps.Swept at shard upon h)
    → (inc : ℕ) → shard ≡ shard_of inc → NothingLeft c (steps.Swept at shard upon h) inc at.0
