-- The moment of a step that may follow is none before that of the parts.
use Rattle.std.proofs.Common.{◌≡◌, ℕ, ◌≤◌, ◌==◌, nat_lt, not, None, ◌∷◌, arith, sym, subst}
use Rattle.std.proofs.lemmas.Bool.{not-false, ltb-false, eqb-true}
use Rattle.sched_plain.specs.declared.step.Step.{Step}
use Rattle.sched_plain.specs.declared.step.Step.TheVariants as steps
use Rattle.sched_plain.specs.History.{History}
use Rattle.sched_plain.specs.Legal.{MayFollow}
use Rattle.sched_plain.specs.Moments.{at_of, moment}
use Rattle.sched_plain.specs.Rules.{moment_rule, kind_table}
use Rattle.sched_plain.specs.Seen.{seen}
use Rattle.plain_words.proofs.ListLemmas.{all_none, when_none}
use Rattle.book_parts.specs.Told.{Told}
use Rattle.book_parts.specs.Stands.{Stands, calendar}

moment_kept : (last : ℕ) (s : Step) → moment_rule last s ≡ None → last ≤ at_of s
moment_kept last (steps.Boot at) e =
    let same : at.0 ≡ last = eqb-true at.0 last (not-false (at.0 == last) (when_none (not (at.0 == last)) _ e)) in omega arith
moment_kept last (steps.Zone at name bytes) e = ltb-false at.0 last (when_none (nat_lt at.0 last) _ e)
moment_kept last (steps.Change at write) e = ltb-false at.0 last (when_none (nat_lt at.0 last) _ e)
moment_kept last (steps.Enter at inc pairs) e = ltb-false at.0 last (when_none (nat_lt at.0 last) _ e)
moment_kept last (steps.Lease at shard worker epoch until) e = ltb-false at.0 last (when_none (nat_lt at.0 last) _ e)
moment_kept last (steps.Release at shard worker epoch) e = ltb-false at.0 last (when_none (nat_lt at.0 last) _ e)
moment_kept last (steps.Begin at inc instant number epoch) e = ltb-false at.0 last (when_none (nat_lt at.0 last) _ e)
moment_kept last (steps.End at inc instant number verdict status) e = ltb-false at.0 last (when_none (nat_lt at.0 last) _ e)
moment_kept last (steps.Close at inc instant reason) e = ltb-false at.0 last (when_none (nat_lt at.0 last) _ e)
moment_kept last (steps.Complete at inc) e = ltb-false at.0 last (when_none (nat_lt at.0 last) _ e)
moment_kept last (steps.Swept at shard) e = ltb-false at.0 last (when_none (nat_lt at.0 last) _ e)

pub is_forward : (b : Told) (h : History) (s : Step) → Stands b h → MayFollow calendar h s → b.moment ≤ at_of s
is_forward b h s st may =
    subst (λ (n : ℕ). n ≤ at_of s) (sym st.moment)
    (moment_kept (moment h) s (all_none (moment_rule (moment h) s ∷ kind_table (seen calendar h) s) may).0)
