-- What a step that may follow gives: each rule of its table, and that its moment is not below the last.
use Rattle.std.proofs.Common.{◌≤◌, nat_lt, ◌∷◌}
use Rattle.std.proofs.lemmas.Bool.{ltb-false}
use Rattle.sched_plain.specs.declared.step.Step.{Step}
use Rattle.sched_plain.specs.declared.step.Step.TheVariants as steps
use Rattle.sched_plain.specs.History.{History}
use Rattle.sched_plain.specs.Moments.{moment}
use Rattle.expressions.specs.Calendar.{Calendar}
use Rattle.sched_plain.specs.Seen.{seen}
use Rattle.sched_plain.specs.Rules.{moment_rule, kind_table}
use Rattle.sched_plain.specs.Legal.{MayFollow}
use Rattle.plain_words.proofs.ListLemmas.{AllNone, all_none, when_none}

-- the rules of the step's kind
pub kind_holds : (c : Calendar) (h : History) (s : Step) → MayFollow c h s → AllNone (kind_table (seen c h) s)
kind_holds c h s may = (all_none (moment_rule (moment h) s ∷ kind_table (seen c h) s) may).1

-- where the moment's rule is not broken the moment does not fall
pub change_moment : (c : Calendar) (h : History) (at : _) (write : _) → MayFollow c h (steps.Change at write) → moment h ≤ at.0
change_moment c h at write may =
    ltb-false at.0 (moment h) (when_none (nat_lt at.0 (moment h)) _ (all_none (moment_rule (moment h) (steps.Change at write) ∷ kind_table (seen c h) (steps.Change at write)) may).0)
