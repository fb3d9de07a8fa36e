use Rattle.std.proofs.Common.{ap, ◌∙◌, ◌≡◌, ◌≤◌, true, subst, sym, arith, length}
use Rattle.sched_plain.specs.Changes.{changes_of}
use Rattle.sched_rows.specs.State.{lives_at}
use Rattle.sched_rows.proofs.ChangeLemmas.{length_change}
use Rattle.sched_rows.proofs.FilingLemmas.{lives_within}
use Rattle.book_parts.specs.Told.{Told}
use Rattle.book_parts.specs.Stands.{Stands}
use Rattle.book_completions.proofs.CompleteLemmas.{complete_sound, complete_stands}
use Rattle.book_completions.proofs.completions.complete.Goals as goal

pub set-requires-clause-low : goal.set-requires-clause-low
set-requires-clause-low c =
    (lives_within _ c.args.inc (subst (λ (b : Told). lives_at b.rows.rows c.args.inc ≡ true) (sym c.parts.view_is) c.requires.lives)).0

pub set-requires-clause-within : goal.set-requires-clause-within
set-requires-clause-within c =
    let there = (lives_within _ c.args.inc (subst (λ (b : Told). lives_at b.rows.rows c.args.inc ≡ true) (sym c.parts.view_is) c.requires.lives)).1 in
    let long = c.parts.invariant.1.completed in
    omega (arith, there, long)

pub invariant_of-parts : goal.invariant_of-parts
invariant_of-parts c = (
  c.parts.invariant.0,
  complete_sound _ c.args.at.0 _ c.args.inc c.remove.new.self c.set.new.self c.parts.invariant.1
      (subst (λ (b : Told). b.moment ≤ c.args.at.0) (sym c.parts.view_is) c.requires.forward) c.requires.last
      c.remove.ensures.rows c.remove.ensures.latest (ap length c.set.ensures.dates ∙ length_change _ _ c.args.inc),
)

pub returns : goal.returns
returns c = λ h stands may.
    let before : Stands _ h = subst (λ (b : Told). Stands b h) (sym c.parts.view_is) stands in
    complete_stands c.steps_change_the_next_instant.ensures.stays c.steps_change_the_finished_date.ensures.stays
    c.steps_change_the_finished_date.ensures.completed _ h c.args.at c.args.inc c.remove.new.self c.set.new.self before may
    (c.remove.ensures.stands (changes_of h) before.rows) c.set.ensures.dates
