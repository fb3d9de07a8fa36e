use Rattle.std.proofs.Common.{◌≡◌, ◌≤◌, ◌<◌, ◌+◌, length, None, subst, sym, arith}
use Rattle.sched_plain.specs.Rows.{living}
use Rattle.plain_words.specs.declared.limits.TheConstants.{MOST_INCARNATIONS}
use Rattle.sched_rows.specs.State.{Roll, rows_in}
use Rattle.sched_rows.proofs.FilingLemmas.{filed_made}
use Rattle.sched_rows.proofs.schedules.Schedules.create.Goals as goal

pub invariant_of-self : goal.invariant_of-self
invariant_of-self c =
    let late = subst (λ (v : Roll). v.latest ≤ c.args.at.0) (sym c.self.view_is) c.requires.moment in
    let free = subst (λ (v : Roll). living (rows_in v.rows) c.args.group c.args.name ≡ None) (sym c.self.view_is) c.requires.free in
    let few = subst (λ (v : Roll). length v.rows < MOST_INCARNATIONS) (sym c.self.view_is) c.requires.few in
    let placed = rw (c.as_bytes.ensures.value, c.as_bytes-2.ensures.value, c.deref.ensures.value, c.deref-2.ensures.value) at c.place_of-place.ensures in (
      rw (c.push_row.ensures, c.push_number.ensures, c.insert_number.ensures)
          (filed_made c.self.inside.rows.items c.born.result c.self.inside.by_number.items c.self.inside.by_name.items c.self.inside.latest c.args.at c.args.group c.args.name c.args.content
          c.place_of-place.result (c.len.result + 1) late c.self.invariant.0 c.born.ensures free placed (omega arith) (omega arith)),
      rw c.replace-revisions.ensures.after c.new.ensures.items,
    )
