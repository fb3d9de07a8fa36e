use Rattle.std.proofs.Common.{◌≡◌, ◌∙◌, sym, refl, arith, None}
use Rattle.book_writes.proofs.TouchLemmas.{dates_begin, dates_go_on, dates_end, next_is, touched_within}
use Rattle.book_writes.proofs.touched.end_dates.Goals as goal

pub loop-inc-init : goal.loop-inc-init
loop-inc-init c = (dates_begin c.args.rows.now.rows c.args.write.now (λ inc date. date ≡ None) c.args.dates.now.dates, refl)

pub set-requires-clause-low : goal.set-requires-clause-low
set-requires-clause-low c =
    let next = next_is c.args.rows.now.rows c.args.write.now c.loop-inc.after c.in-Some.inc (sym c.next_touched.ensures ∙ c.in-Some.is) in
    (touched_within c.args.rows.now.rows c.args.write.now c.in-Some.inc next.touched).0

pub set-requires-clause-within : goal.set-requires-clause-within
set-requires-clause-within c =
    let next = next_is c.args.rows.now.rows c.args.write.now c.loop-inc.after c.in-Some.inc (sym c.next_touched.ensures ∙ c.in-Some.is) in
    let up = (touched_within c.args.rows.now.rows c.args.write.now c.in-Some.inc next.touched).1 in
    let long = c.loop-inc.invariant.0.long in
    let enough = c.requires in
    omega (arith, up, long, enough)

pub loop-inc-smaller : goal.loop-inc-smaller
loop-inc-smaller c =
    let next = next_is c.args.rows.now.rows c.args.write.now c.loop-inc.after c.in-Some.inc (sym c.next_touched.ensures ∙ c.in-Some.is) in
    let above = next.above in
    omega (arith, above)

pub loop-inc-preserved : goal.loop-inc-preserved
loop-inc-preserved c = (
  dates_go_on c.args.rows.now.rows c.args.write.now (λ inc date. date ≡ None) c.args.dates.now.dates c.loop-inc.dates.dates c.set.new.self.dates
      c.loop-inc.after c.in-Some.inc None c.requires (sym c.next_touched.ensures ∙ c.in-Some.is) c.loop-inc.invariant.0 refl c.set.ensures.dates,
  c.set.ensures.room ∙ c.loop-inc.invariant.1,
)

pub returns-clause-dates : goal.returns-clause-dates
returns-clause-dates c =
    dates_end c.args.rows.now.rows c.args.write.now (λ inc date. date ≡ None) c.args.dates.now.dates c.loop-inc.dates.dates c.loop-inc.after
    (sym c.next_touched.ensures ∙ c.in_default.is) c.loop-inc.invariant.0
