use Rattle.std.proofs.Common.{◌∙◌, sym, refl, arith}
use Rattle.book_writes.proofs.TouchLemmas.{cancels_begin, cancels_go_on, cancels_end, next_is}
use Rattle.book_writes.proofs.touched.cancel_touched.Goals as goal

pub loop-inc-init : goal.loop-inc-init
loop-inc-init c = (λ calls stands. cancels_begin c.args.rows.now.rows c.args.write.now c.args.ledger.now calls stands, refl)

pub loop-inc-smaller : goal.loop-inc-smaller
loop-inc-smaller c =
    let next = next_is c.args.rows.now.rows c.args.write.now c.loop-inc.after c.in-Some.inc (sym c.next_touched.ensures ∙ c.in-Some.is) in
    let above = next.above in
    omega (arith, above)

pub loop-inc-preserved : goal.loop-inc-preserved
loop-inc-preserved c = (
  λ calls stands.
      cancels_go_on c.args.rows.now.rows c.args.write.now c.loop-inc.ledger c.cancel.new.self calls c.loop-inc.after c.in-Some.inc
      (sym c.next_touched.ensures ∙ c.in-Some.is) c.cancel.ensures.stands (c.loop-inc.invariant.0 calls stands),
  c.cancel.ensures.flights ∙ c.loop-inc.invariant.1,
)

pub returns-clause-calls : goal.returns-clause-calls
returns-clause-calls c = λ calls stands.
    cancels_end c.args.rows.now.rows c.args.write.now c.loop-inc.ledger calls c.loop-inc.after
    (sym c.next_touched.ensures ∙ c.in_default.is) (c.loop-inc.invariant.0 calls stands)
