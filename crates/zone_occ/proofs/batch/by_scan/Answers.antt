use Rattle.std.proofs.Common.{◌≡◌, ◌∙◌, ap, subst, arith}
use Rattle.zone_occ.specs.FirstInstants.{complete_to}
use Rattle.civil_time.proofs.CivilSeconds.{civil_second-high}
use Rattle.zone_occ.proofs.EarliestInstant.{IsSought, IsPassed}
use Rattle.zone_occ.proofs.Batches.{seen-none, seen-more, seen-all}
use Rattle.zone_occ.proofs.batch.by_scan.Goals as goal

pub loop-minute-init : goal.loop-minute-init
loop-minute-init c =
    record {
      real = c.scan_start-cursor.ensures.real;
      firsts = rw c.new-moments.ensures.items
          (seen-none c.args.sets.now c.args.zone.now c.scan_start-cursor.result c.args.from c.args.to c.args.max c.requires.max c.scan_start-cursor.ensures.early);
    }

pub loop-minute-smaller : goal.loop-minute-smaller
loop-minute-smaller c =
    let first = c.in-Some.ensures.found in
    let high = civil_second-high c.in-Some.minute first.found.real in
    omega (arith, first.after, c.just_after-cursor.ensures.value)

pub loop-minute-preserved : goal.loop-minute-preserved
loop-minute-preserved c =
    let limit : c.complete_to-limit.result ≡ complete_to c.args.max c.args.to c.loop-minute.moments.items =
    c.complete_to-limit.ensures ∙ ap (complete_to c.args.max c.args.to) c.as_slice-in-Some.ensures.value in
    record {
      real = c.just_after-cursor.ensures.real;
      firsts = seen-more c.args.sets.now c.args.zone.now c.loop-minute.cursor c.in-Some.minute c.just_after-cursor.result c.args.from c.args.to c.args.max c.loop-minute.moments.items c.offer.new.moments.items c.instant_within.result
          c.requires.max c.requires.to c.loop-minute.invariant.firsts c.in-Some.ensures.found c.just_after-cursor.ensures.value
          (subst (λ l. IsSought c.args.zone.now c.in-Some.minute c.args.from l c.instant_within.result) limit
          (record { found = c.instant_within.ensures.found; none = c.instant_within.ensures.none }))
          c.in_ok-offer.ensures;
    }

pub returns : goal.returns
returns c =
    let limit : c.complete_to.result ≡ complete_to c.args.max c.args.to c.loop-minute.moments.items =
    c.complete_to.ensures ∙ ap (complete_to c.args.max c.args.to) c.as_slice.ensures.value in
    seen-all c.args.sets.now c.args.zone.now c.loop-minute.cursor c.args.from c.args.to c.args.max c.loop-minute.moments.items c.loop-minute.invariant.firsts
    (subst (IsPassed c.args.sets.now c.args.zone.now c.loop-minute.cursor) limit c.in_default.ensures.none)
