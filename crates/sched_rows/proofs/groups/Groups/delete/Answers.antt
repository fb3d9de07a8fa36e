use Rattle.std.proofs.Common.{◌≡◌, not, subst, sym, ◌∙◌}
use Rattle.std.specs.List.{filter}
use Rattle.sched_plain.specs.Groups.{is_named}
use Rattle.sched_rows.specs.GroupIndex.{Gathered}
use Rattle.sched_rows.proofs.GroupLemmas.{grouped_less, none_out}
use Rattle.sched_rows.proofs.groups.Groups.delete.Goals as goal

pub invariant_of-self : goal.invariant_of-self
invariant_of-self c =
    let found = rw c.deref.ensures.value at c.in-Some.ensures in
    rw (c.drop_group.ensures, c.close_up.ensures) (grouped_less c.args.name.now c.self.inside.groups.items c.self.inside.by_name.items c.in-Some.position c.self.invariant (sym found))

pub returns-in_default : goal.returns-in_default
returns-in_default c =
    let none = rw c.deref.ensures.value at (sym c.in_default.is ∙ c.position_of.ensures) in
    subst (λ (v : Gathered). v.groups ≡ filter (λ group. not (is_named c.args.name.now group)) v.groups) c.self.view_is (none_out c.args.name.now c.self.inside.groups.items none)
