use Rattle.std.proofs.Common.{ℕ, subst}
use Rattle.zone_occ.specs.FirstInstants.{IsInstant, IsNext, HasNoNext}
use Rattle.schedule_clock.proofs.NextActing.{none_next, none_past, some_next}
use Rattle.schedule_clock.proofs.next.next_acting.Goals as goal

pub returns-in_err-instant : goal.returns-in_err-instant
returns-in_err-instant c =
    let a = c.args in
    let span = c.within_dates-span in
    rw c.from_residual.ensures (none_next a.content.now a.zone.now a.created.0 a.from span.result.from span.result.to span.ensures.moments
    (subst (λ (anchor : ℕ). HasNoNext (IsInstant a.content.now.expr a.zone.now anchor) span.result.from) c.anchor_of.ensures c.in_err-instant.ensures.none))

pub returns-then-instant-span : goal.returns-then-instant-span
returns-then-instant-span c =
    let a = c.args in
    let span = c.within_dates-span in
    none_past a.content.now a.zone.now a.created.0 a.from span.result.from span.result.to span.ensures.moments c.in_ok-instant.instant
    (subst (λ (anchor : ℕ). IsNext (IsInstant a.content.now.expr a.zone.now anchor) span.result.from c.in_ok-instant.instant) c.anchor_of.ensures c.in_ok-instant.ensures.found)
    c.if-instant-span.true

pub returns : goal.returns
returns c =
    let a = c.args in
    let span = c.within_dates-span in
    some_next a.content.now a.zone.now a.created.0 a.from span.result.from span.result.to span.ensures.moments c.if-not-content.false c.in_ok-instant.instant
    (subst (λ (anchor : ℕ). IsNext (IsInstant a.content.now.expr a.zone.now anchor) span.result.from c.in_ok-instant.instant) c.anchor_of.ensures c.in_ok-instant.ensures.found)
    c.if-instant-span.false
