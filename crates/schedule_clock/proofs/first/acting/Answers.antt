use Rattle.std.proofs.Common.{ℕ, ◌+◌, ◌≤◌, sym, ap, ◌∙◌, subst, take}
use Rattle.zone_occ.specs.Instants.{instants}
use Rattle.next_dates.specs.Dates.{from_on}
use Rattle.schedule_clock.specs.Acting.{acts}
use Rattle.schedule_clock.proofs.Acting.{AreDated, never_acts}
use Rattle.schedule_clock.proofs.FirstActing.{acting_instants, first_none}
use Rattle.schedule_clock.proofs.first.acting.Goals as goal

pub returns-then-not-content : goal.returns-then-not-content
returns-then-not-content c =
    let a = c.args in
    c.new.ensures
    ∙ sym (first_none (from_on a.span.from (acts a.content.now a.zone.now a.created.0)) a.most (a.span.to + 1) (never_acts a.content.now a.zone.now a.created.0 a.span.from c.if-not-content.true))

pub returns : goal.returns
returns c =
    let a = c.args in
    let dated = c.within_dates-dated in
    let same = acting_instants a.content.now a.zone.now a.created.0 a.span.from a.span.to dated.result.from dated.result.to c.if-not-content.false
    (subst (λ (to : ℕ). AreDated a.content.now a.span.from to dated.result.from dated.result.to) c.min.ensures dated.ensures.moments)
    (subst (λ (to : ℕ). dated.result.to ≤ to) c.min.ensures dated.ensures.end) in
    c.in_ok-batch.ensures.list
    ∙ ap (λ (anchor : ℕ). take a.most (instants a.content.now.expr a.zone.now anchor dated.result.from dated.result.to)) c.anchor_of.ensures
    ∙ sym (ap (take a.most) same)
