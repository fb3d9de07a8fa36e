use Rattle.std.proofs.Common.{ap, sym, subst, ◌∙◌, ◌≤◌, List, length, arith}
use Rattle.plain_words.specs.Lists.{last}
use Rattle.sched_plain.specs.declared.step.Pair.{Pair}
use Rattle.sched_plain.specs.declared.step.Step.TheVariants as steps
use Rattle.sched_plain.specs.Ledger.{policy_of}
use Rattle.book_parts.specs.Told.{Told}
use Rattle.book_entries.proofs.BeginLemmas.{along}
use Rattle.book_enters.specs.Behind.{GoOn}
use Rattle.book_enters.proofs.EnterLemmas.{Laws, sound_entered, entered_taken}
use Rattle.book_enters.proofs.enters.enter.Goals as goal

pub invariant_of-parts : goal.invariant_of-parts
invariant_of-parts c =
    let forward = subst (λ (b : Told). b.moment ≤ c.args.at.0) (sym c.parts.view_is) c.requires.forward in (
      c.parts.invariant.0,
      sound_entered _ c.args.at.0 _ _ _ _ c.parts.invariant.1 forward c.requires.last c.enter.ensures.flights c.go_on.ensures.long c.refinish.ensures.long,
    )

pub returns : goal.returns
returns c =
    let laws : Laws = record {
      living = c.only_living_schedules_act.ensures.acts;
      known = c.only_living_schedules_act.ensures.zones;
      nothing = c.next_instants_are_exact.ensures.nothing;
      current = c.next_instants_are_exact.ensures.current;
      stays = c.steps_change_the_next_instant.ensures.stays;
      entered = c.steps_change_the_next_instant.ensures.entered;
      finished_stays = c.steps_change_the_finished_date.ensures.stays;
      in_time = c.work_is_by_dates.ensures.in_time;
    } in
    let there = subst (λ (b : Told). c.args.inc ≤ length b.rows.rows) (sym c.parts.view_is) c.requires.there in
    let coming = c.parts.invariant.1.scheduled in
    let ending = c.parts.invariant.1.completed in
    let policy = c.policy_of-policy.ensures ∙ ap (λ (pairs : List Pair). policy_of c.parts.inside.rows.rows c.args.inc pairs) c.as_slice.ensures in
    let goes =
    subst (λ (pairs : List Pair). GoOn c.parts.inside.zones c.parts.inside.rows.rows c.args.inc (last pairs) c.parts.inside.next.dates c.go_on.new.next.dates)
    c.as_slice-2.ensures c.go_on.ensures.dates in
    along _ (steps.Enter c.args.at c.args.inc c.args.pairs.now) c.parts.view_is
    (entered_taken laws _ c.args.at c.args.inc c.args.pairs.now c.policy_of-policy.result _ _ _ c.requires.low (omega (arith, there, coming)) (omega (arith, there, ending))
    policy c.enter.ensures.stands goes c.refinish.ensures.dates)
