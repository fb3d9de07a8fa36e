use Rattle.std.proofs.Common.{◌≤◌, subst, sym, length}
use Rattle.sched_plain.specs.Changes.{changes_of}
use Rattle.book_parts.specs.Told.{Told}
use Rattle.book_parts.specs.Stands.{Stands}
use Rattle.book_writes.specs.Redating.{HasDateRoom}
use Rattle.book_writes.proofs.ChangeLemmas.{change_stands, change_sound}
use Rattle.book_writes.proofs.taking.change.Goals as goal

pub invariant_of-parts : goal.invariant_of-parts
invariant_of-parts c = (
  c.parts.invariant.0,
  change_sound _ c.args.at.0 c.args.write c.apply.new.self c.redate.new.ledger c.keep.new.shelf c.redate.new.next c.redate.new.finished
      c.parts.invariant.1 c.requires.valid (subst (λ (b : Told). b.moment ≤ c.args.at.0) (sym c.parts.view_is) c.requires.moment) c.requires.last c.redate.ensures
      (subst (λ (b : Told). HasDateRoom c.args.write (length b.rows.rows) b.next.room b.finished.room) (sym c.parts.view_is) c.requires.dates)
      c.apply.ensures.rows c.apply.ensures.latest,
)

pub returns : goal.returns
returns c = λ h stands may.
    let before : Stands _ h = subst (λ (b : Told). Stands b h) (sym c.parts.view_is) stands in
    change_stands c.steps_change_the_next_instant.ensures.stays c.steps_change_the_next_instant.ensures.created c.steps_change_the_next_instant.ensures.renewed
    c.steps_change_the_next_instant.ensures.ended c.work_is_by_dates.ensures.in_time _ h c.args.at c.args.write c.args.keeper
    c.apply.new.self c.redate.new.ledger c.keep.new.shelf c.redate.new.next c.redate.new.finished c.parts.invariant.1 before may c.requires.keeper c.redate.ensures
    c.keep.ensures (c.apply.ensures.stands (changes_of h) before.rows)
