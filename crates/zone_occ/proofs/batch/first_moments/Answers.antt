use Rattle.std.proofs.Common.{◌≡◌, ◌∙◌, ap, arith}
use Rattle.std.proofs.lemmas.Result.{IfOk-weaker}
use Rattle.expressions.specs.declared.expression.Expr.TheVariants.{Cron}
use Rattle.zone_occ.specs.InstantFacts.{IsCronInstant}
use Rattle.zone_occ.specs.FirstInstants.{IsInstant, AreFirsts, complete_to}
use Rattle.zone_occ.proofs.InstantLaws.{from_cron, cron_fact}
use Rattle.zone_occ.proofs.Batches.{firsts-as, before-more}
use Rattle.zone_occ.proofs.batch.first_moments.Goals as goal

pub returns : goal.returns
returns c =
    let sets = c.in-Cron.sets in
    let zone = c.args.zone.now in
    rw c.in-Cron.is (IfOk-weaker c.by_scan.result
    (λ moments. AreFirsts (IsCronInstant sets zone) c.args.from c.args.to c.args.max moments.items)
    (λ moments. AreFirsts (IsInstant (Cron sets) zone c.args.anchor) c.args.from c.args.to c.args.max moments.items)
    (λ moments known. firsts-as (IsCronInstant sets zone) (IsInstant (Cron sets) zone c.args.anchor) c.args.from c.args.to c.args.max moments.items known
    (λ x has. from_cron zone sets c.args.anchor x has) (λ x has late early. cron_fact zone sets c.args.anchor x has))
    c.by_scan.ensures)

pub loop-moment-preserved : goal.loop-moment-preserved
loop-moment-preserved c =
    let limit : c.complete_to.result ≡ complete_to c.args.max c.args.to c.loop-moment.moments.items =
    c.complete_to.ensures ∙ ap (complete_to c.args.max c.args.to) c.as_slice.ensures.value in
    before-more (IsInstant c.args.expr.now c.args.zone.now c.args.anchor) c.loop-moment.start c.args.from c.args.to c.args.max c.in-Some.moment c.loop-moment.moments.items c.offer.new.moments.items
    c.requires.max c.loop-moment.invariant c.in-Some.ensures.found (omega (arith, limit, c.in-Some.ensures.bound)) c.in_ok-offer.ensures
