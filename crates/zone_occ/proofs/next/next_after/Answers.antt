use Rattle.std.proofs.Common.{ℕ, IfSome, IfNone, subst, arith}
use Rattle.expressions.specs.declared.expression.Expr.TheVariants.{At, Rate, Cron}
use Rattle.zone_occ.specs.Instants.{period}
use Rattle.zone_occ.specs.InstantFacts.{IsAtInstant, IsRateInstant, IsCronInstant}
use Rattle.zone_occ.specs.FirstInstants.{IsSearchable, IsInstant, IsNext, HasNoNext}
use Rattle.zone_occ.proofs.InstantLaws.{from_at, at_fact, from_rate, rate_fact, from_cron, cron_fact, in_time, next_as, none_as}
use Rattle.zone_occ.proofs.next.next_after.Goals as goal

pub returns-then-from-gt-LAST_MOMENT-clause-none :
    goal.returns-then-from-gt-LAST_MOMENT-clause-none
returns-then-from-gt-LAST_MOMENT-clause-none c later has late =
    let past = in_time c.args.expr.now c.args.zone.now c.args.anchor later has in
    omega (arith, c.if-from-gt-LAST_MOMENT.true)

pub returns-in-At-clause-found : goal.returns-in-At-clause-found
returns-in-At-clause-found c =
    let d = c.in-At.d in
    let real = subst IsSearchable c.in-At.is c.requires in
    rw c.in-At.is (next_as (IsAtInstant c.args.zone.now d) (IsInstant (At d) c.args.zone.now c.args.anchor) c.args.from c.next_at.result
    (λ m. from_at c.args.zone.now d c.args.anchor m real) (λ m. at_fact c.args.zone.now d c.args.anchor m) c.next_at.ensures.found)

pub returns-in-At-clause-none : goal.returns-in-At-clause-none
returns-in-At-clause-none c =
    let d = c.in-At.d in
    rw c.in-At.is (none_as (IsAtInstant c.args.zone.now d) (IsInstant (At d) c.args.zone.now c.args.anchor) c.args.from c.next_at.result
    (λ m. at_fact c.args.zone.now d c.args.anchor m) c.next_at.ensures.none)

-- the rate goes by the seconds of its period
steps : (c : goal.After-next_step) → ℕ → Type 0
steps c = IsRateInstant (period c.in-Rate.count c.in-Rate.unit) c.args.anchor

pub returns-in-Rate-clause-found : goal.returns-in-Rate-clause-found
unfolding steps
returns-in-Rate-clause-found c =
    let found = subst (λ p. IfSome c.next_step.result (IsNext (IsRateInstant p c.args.anchor) c.args.from)) c.period.ensures.value c.next_step.ensures.found in
    rw c.in-Rate.is (next_as (steps c) (IsInstant (Rate c.in-Rate.count c.in-Rate.unit) c.args.zone.now c.args.anchor) c.args.from c.next_step.result
    (λ m. from_rate c.args.zone.now c.in-Rate.count c.in-Rate.unit c.args.anchor m)
    (λ m. rate_fact c.args.zone.now c.in-Rate.count c.in-Rate.unit c.args.anchor m) found)

pub returns-in-Rate-clause-none : goal.returns-in-Rate-clause-none
unfolding steps
returns-in-Rate-clause-none c =
    let none = subst (λ p. IfNone c.next_step.result (HasNoNext (IsRateInstant p c.args.anchor) c.args.from)) c.period.ensures.value c.next_step.ensures.none in
    rw c.in-Rate.is (none_as (steps c) (IsInstant (Rate c.in-Rate.count c.in-Rate.unit) c.args.zone.now c.args.anchor) c.args.from c.next_step.result
    (λ m. rate_fact c.args.zone.now c.in-Rate.count c.in-Rate.unit c.args.anchor m) none)

pub returns-in-Cron-clause-found : goal.returns-in-Cron-clause-found
returns-in-Cron-clause-found c =
    let sets = c.in-Cron.sets in
    rw c.in-Cron.is (next_as (IsCronInstant sets c.args.zone.now) (IsInstant (Cron sets) c.args.zone.now c.args.anchor) c.args.from c.next_cron.result
    (λ m. from_cron c.args.zone.now sets c.args.anchor m) (λ m. cron_fact c.args.zone.now sets c.args.anchor m) c.next_cron.ensures.found)

pub returns-in-Cron-clause-none : goal.returns-in-Cron-clause-none
returns-in-Cron-clause-none c =
    let sets = c.in-Cron.sets in
    rw c.in-Cron.is (none_as (IsCronInstant sets c.args.zone.now) (IsInstant (Cron sets) c.args.zone.now c.args.anchor) c.args.from c.next_cron.result
    (λ m. cron_fact c.args.zone.now sets c.args.anchor m) c.next_cron.ensures.none)
