use Rattle.std.proofs.Common.{◌≤◌, ◌∙◌, map, subst, sym, ap}
use Rattle.sched_rows.specs.State.{Roll, rows_in}
use Rattle.sched_rows.specs.Groups.{with_group_ended}
use Rattle.sched_rows.proofs.FilingLemmas.{later_spans, filed_group_ended, members_ended}
use Rattle.sched_rows.proofs.schedules.Schedules.end_group.Goals as goal

pub end_members-requires : goal.end_members-requires
end_members-requires c =
    later_spans c.self.inside.rows.items _ _ c.self.inside.latest c.args.at.0 (subst (λ (v : Roll). v.latest ≤ c.args.at.0) (sym c.self.view_is) c.requires) c.self.invariant.0

pub invariant_of-self : goal.invariant_of-self
invariant_of-self c =
    let late = subst (λ (v : Roll). v.latest ≤ c.args.at.0) (sym c.self.view_is) c.requires in
    let ended = rw c.deref.ensures.value at c.end_members.ensures in
    let all = ended ∙ members_ended (rows_in c.self.inside.rows.items) c.self.inside.by_number.items c.args.at.0 c.args.group.now c.self.invariant.0.by_number in (
      rw (c.keep_living.ensures, c.keep_living-2.ensures, c.deref-2.ensures.value, c.deref-3.ensures.value, all)
          (filed_group_ended (rows_in c.self.inside.rows.items) _ _ c.self.inside.latest c.args.at.0 c.args.group.now late c.self.invariant.0),
      c.self.invariant.1,
    )

pub returns-clause-rows : goal.returns-clause-rows
returns-clause-rows c =
    let ended = rw c.deref.ensures.value at c.end_members.ensures in
    ended ∙ members_ended (rows_in c.self.inside.rows.items) c.self.inside.by_number.items c.args.at.0 c.args.group.now c.self.invariant.0.by_number
    ∙ ap (λ (v : Roll). map (with_group_ended c.args.at.0 c.args.group.now) (rows_in v.rows)) c.self.view_is
