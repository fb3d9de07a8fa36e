use Rattle.std.proofs.Common.{subst, arith}
use Rattle.std.specs.Prelude.{unwrap_or}
use Rattle.plain_words.specs.Moments.{last_moment}
use Rattle.civil_time.proofs.CivilSeconds.{civil_second-high}
use Rattle.zone_occ.proofs.EarliestInstant.{IsPassed, begins, goes_on, ends-found, ends-none}
use Rattle.zone_occ.proofs.next.next_cron.Goals as goal

pub loop-minute-init : goal.loop-minute-init
loop-minute-init c =
    begins c.args.sets.now c.args.zone.now c.args.from c.scan_start-cursor.result c.scan_start-cursor.ensures.real c.scan_start-cursor.ensures.early

pub loop-minute-smaller : goal.loop-minute-smaller
loop-minute-smaller c =
    let first = c.in-Some.ensures.found in
    let high = civil_second-high c.in-Some.minute first.found.real in
    omega (arith, first.after, c.just_after-cursor.ensures.value)

pub loop-minute-preserved : goal.loop-minute-preserved
loop-minute-preserved c =
    rw c.earlier-earliest.ensures (goes_on c.args.sets.now c.args.zone.now c.args.from c.loop-minute.cursor c.in-Some.minute c.just_after-cursor.result c.loop-minute.earliest c.instant_within.result c.loop-minute.invariant c.in-Some.ensures.found c.just_after-cursor.ensures.real c.just_after-cursor.ensures.value
    (record { found = c.instant_within.ensures.found; none = c.instant_within.ensures.none }))

-- the minutes from the cursor on come too late
passed : (c : goal.In_default) → IsPassed c.args.sets.now c.args.zone.now c.loop-minute.cursor (unwrap_or c.loop-minute.earliest last_moment)
passed c =
    subst (IsPassed c.args.sets.now c.args.zone.now c.loop-minute.cursor) c.unwrap_or.ensures c.in_default.ensures.none

pub returns-clause-found : goal.returns-clause-found
returns-clause-found c = ends-found c.args.sets.now c.args.zone.now c.args.from c.loop-minute.cursor c.loop-minute.earliest c.loop-minute.invariant (passed c)

pub returns-clause-none : goal.returns-clause-none
returns-clause-none c = ends-none c.args.sets.now c.args.zone.now c.args.from c.loop-minute.cursor c.loop-minute.earliest c.loop-minute.invariant (passed c)
