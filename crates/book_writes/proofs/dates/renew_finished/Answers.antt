use Rattle.std.proofs.Common.{◌≡◌, ◌∙◌, Option, sym, refl, ap, arith, length, ℕ}
use Rattle.date_table.specs.Dates.{date_at}
use Rattle.sched_rows.proofs.ChangeLemmas.{length_change}
use Rattle.book_writes.specs.Dating.{finished_now, kept_date}
use Rattle.book_writes.proofs.TouchLemmas.{dates_begin, dates_go_on, dates_end, next_is, touched_within}
use Rattle.book_writes.proofs.dates.renew_finished.Goals as goal

pub loop-inc-init : goal.loop-inc-init
loop-inc-init c = (
  λ calls stands.
      dates_begin c.args.rows.now.rows c.args.write.now (λ inc date. date ≡ kept_date (finished_now calls c.args.content.now inc (date_at c.args.next.now.dates inc)))
      c.args.finished.now.dates,
  refl,
  refl,
)

pub set-requires-clause-low : goal.set-requires-clause-low
set-requires-clause-low c =
    let next = next_is c.args.rows.now.rows c.args.write.now c.loop-inc.after c.in-Some.inc (sym c.next_touched.ensures ∙ c.in-Some.is) in
    (touched_within c.args.rows.now.rows c.args.write.now c.in-Some.inc next.touched).0

pub set-requires-clause-within : goal.set-requires-clause-within
set-requires-clause-within c =
    let next = next_is c.args.rows.now.rows c.args.write.now c.loop-inc.after c.in-Some.inc (sym c.next_touched.ensures ∙ c.in-Some.is) in
    let up = (touched_within c.args.rows.now.rows c.args.write.now c.in-Some.inc next.touched).1 in
    let long = c.loop-inc.invariant.1 in
    let enough = c.requires in
    omega (arith, up, long, enough)

pub loop-inc-smaller : goal.loop-inc-smaller
loop-inc-smaller c =
    let next = next_is c.args.rows.now.rows c.args.write.now c.loop-inc.after c.in-Some.inc (sym c.next_touched.ensures ∙ c.in-Some.is) in
    let above = next.above in
    omega (arith, above)

pub loop-inc-preserved : goal.loop-inc-preserved
loop-inc-preserved c = (
  λ calls stands.
      dates_go_on c.args.rows.now.rows c.args.write.now (λ inc date. date ≡ kept_date (finished_now calls c.args.content.now inc (date_at c.args.next.now.dates inc)))
      c.args.finished.now.dates c.loop-inc.finished.dates c.set.new.self.dates c.loop-inc.after c.in-Some.inc c.kept_date-date.result c.requires
      (sym c.next_touched.ensures ∙ c.in-Some.is) (c.loop-inc.invariant.0 calls stands)
      (c.kept_date-date.ensures.same ∙ ap kept_date (c.finished_of.ensures calls stands ∙ ap (finished_now calls c.args.content.now c.in-Some.inc) c.get.ensures))
      c.set.ensures.dates,
  ap length c.set.ensures.dates ∙ length_change (λ (d : Option ℕ). c.kept_date-date.result) c.loop-inc.finished.dates c.in-Some.inc ∙ c.loop-inc.invariant.1,
  c.set.ensures.room ∙ c.loop-inc.invariant.2,
)

pub returns-clause-dates : goal.returns-clause-dates
returns-clause-dates c = λ calls stands.
    dates_end c.args.rows.now.rows c.args.write.now (λ inc date. date ≡ kept_date (finished_now calls c.args.content.now inc (date_at c.args.next.now.dates inc)))
    c.args.finished.now.dates c.loop-inc.finished.dates c.loop-inc.after (sym c.next_touched.ensures ∙ c.in_default.is) (c.loop-inc.invariant.0 calls stands)
