-- What a step that may follow gives: each rule of its table, and that its moment is not below the last.
use Rattle.std.proofs.Common.{◌≡◌, ℕ, ◌≤◌, ◌==◌, nat_lt, not, Option, Some, None, ◌∷◌, arith}
use Rattle.std.specs.Option.{option_and_then}
use Rattle.std.proofs.lemmas.Bool.{not-false, ltb-false, eqb-true}
use Rattle.sched_plain.specs.declared.step.Step.{Step}
use Rattle.sched_plain.specs.declared.step.Step.TheVariants as steps
use Rattle.sched_plain.specs.History.{History}
use Rattle.sched_plain.specs.Moments.{at_of, moment}
use Rattle.expressions.specs.Calendar.{Calendar}
use Rattle.sched_plain.specs.Seen.{seen}
use Rattle.sched_plain.specs.Rules.{moment_rule, kind_table}
use Rattle.sched_plain.specs.Legal.{MayFollow}
use Rattle.plain_words.proofs.ListLemmas.{AllNone, all_none, when_none}

pub then_none : {A B : Type 0} (f : A → Option B) (o : Option A) (x : A) → option_and_then f o ≡ None → o ≡ Some x → f x ≡ None
then_none f None x e there = cc
then_none f (Some y) x e there = let same : y ≡ x = cc in rw (← same) e

-- the rules of the step's kind
pub kind_holds : (c : Calendar) (h : History) (s : Step) → MayFollow c h s → AllNone (kind_table (seen c h) s)
kind_holds c h s may = (all_none (moment_rule (moment h) s ∷ kind_table (seen c h) s) may).1

moment_kept : (last : ℕ) (s : Step) → moment_rule last s ≡ None → last ≤ at_of s
moment_kept last (steps.Boot at) e =
    let same : at.0 ≡ last = eqb-true at.0 last (not-false (at.0 == last) (when_none (not (at.0 == last)) _ e)) in omega arith
moment_kept last (steps.Zone at name bytes) e = ltb-false at.0 last (when_none (nat_lt at.0 last) _ e)
moment_kept last (steps.Change at write) e = ltb-false at.0 last (when_none (nat_lt at.0 last) _ e)
moment_kept last (steps.Enter at inc pairs) e = ltb-false at.0 last (when_none (nat_lt at.0 last) _ e)
moment_kept last (steps.Lease at shard worker epoch until) e = ltb-false at.0 last (when_none (nat_lt at.0 last) _ e)
moment_kept last (steps.Release at shard worker epoch) e = ltb-false at.0 last (when_none (nat_lt at.0 last) _ e)
moment_kept last (steps.Begin at inc instant number epoch) e = ltb-false at.0 last (when_none (nat_lt at.0 last) _ e)
moment_kept last (steps.End at inc instant number verdict status) e = ltb-false at.0 last (when_none (nat_lt at.0 last) _ e)
moment_kept last (steps.Close at inc instant reason) e = ltb-false at.0 last (when_none (nat_lt at.0 last) _ e)
moment_kept last (steps.Complete at inc) e = ltb-false at.0 last (when_none (nat_lt at.0 last) _ e)
moment_kept last (steps.Swept at shard) e = ltb-false at.0 last (when_none (nat_lt at.0 last) _ e)

pub moment_holds : (c : Calendar) (h : History) (s : Step) → MayFollow c h s → moment h ≤ at_of s
moment_holds c h s may = moment_kept (moment h) s (all_none (moment_rule (moment h) s ∷ kind_table (seen c h) s) may).0
