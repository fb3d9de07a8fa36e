use Rattle.std.proofs.Common.{◌≡◌, ◌+◌, false, Result, Ok, Err, List, ◌∷◌, ◌++◌, [], refl, subst, sym, ◌∙◌, arith}
use Rattle.std.specs.Prelude.{if◌then◌else◌, is_ok, is_err}
use Rattle.std.proofs.Math.ListN.{drop_of_length-le}
use Rattle.sched_plain.specs.declared.step.Pair.{Pair}
use Rattle.sched_calls.specs.Serves.{windows_of}
use Rattle.durable_writes.specs.Choosing.{Chooses}
use Rattle.durable_writes.proofs.ChoiceLemmas.{Paired, paired_more, paired_all, drew_some}
use Rattle.durable_writes.proofs.choosing.choose.Goals as goal

grown : {A E : Type 0} (r : Result A E) (more old : List Pair) → is_err r ≡ false → (if is_ok r then more else old) ≡ more
grown (Ok x) more old e = refl
grown (Err x) more old e = cc e

pub returns-then-is_err-clause-dropped : goal.returns-then-is_err-clause-dropped
returns-then-is_err-clause-dropped g c =
    let lives = c.requires.lives in
    let old = c.loop-instant.invariant lives.0 lives.1 in
    drew_some _ _ (c.loop-instant.instant-index + 1) _ _ _ _ (omega arith)
    (paired_more _ _ c.loop-instant.instant-index _ _ _ _ c.pick-pair.result (omega arith) old (c.pick-pair.ensures lives.0 lives.1))

pub loop-instant-preserved : goal.loop-instant-preserved
loop-instant-preserved g c = λ h st.
    let pushed = c.push.ensures.items ∙ grown c.push.result (c.loop-instant.pairs.items ++ c.pick-pair.result ∷ []) c.loop-instant.pairs.items (sym c.is_err.ensures.value ∙ c.if-is_err.false) in
    subst (λ (pairs : List Pair). Paired (windows_of h c.args.inc) c.args.instants.now (c.loop-instant.instant-index + 1) (g.P.Picker.told c.args.picker.now) (g.P.Picker.told c.pick-pair.new.picker) pairs)
    (sym pushed)
    (paired_more _ _ c.loop-instant.instant-index _ _ _ _ c.pick-pair.result (omega arith) (c.loop-instant.invariant h st) (c.pick-pair.ensures h st))

pub returns-clause-chosen : goal.returns-clause-chosen
returns-clause-chosen g c = λ h st.
    subst (λ (pairs : List Pair). Chooses (windows_of h c.args.inc) c.args.instants.now (g.P.Picker.told c.args.picker.now) (g.P.Picker.told c.loop-instant.picker) pairs)
    (sym c.from_vec.ensures)
    (paired_all _ _ c.loop-instant.instant-index _ _ _ (drop_of_length-le c.args.instants.now (omega arith)) (omega arith) (c.loop-instant.invariant h st))
