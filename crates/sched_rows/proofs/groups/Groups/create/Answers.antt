use Rattle.std.proofs.Common.{◌≡◌, ◌<◌, ◌+◌, None, length, subst, sym, arith}
use Rattle.std.specs.List.{find}
use Rattle.plain_words.specs.declared.limits.TheConstants.{MOST_GROUPS}
use Rattle.sched_plain.specs.Groups.{is_named}
use Rattle.sched_rows.specs.GroupIndex.{Gathered}
use Rattle.sched_rows.proofs.GroupLemmas.{grouped_more}
use Rattle.sched_rows.proofs.groups.Groups.create.Goals as goal

pub invariant_of-self : goal.invariant_of-self
invariant_of-self c =
    let free = subst (λ (v : Gathered). find (is_named c.args.name) v.groups ≡ None) (sym c.self.view_is) c.requires.free in
    let few = subst (λ (v : Gathered). length v.groups < MOST_GROUPS) (sym c.self.view_is) c.requires.few in
    let place = rw (c.as_bytes.ensures.value, c.deref.ensures.value, c.deref-2.ensures.value) at c.place_of-index.ensures in
    rw (c.push_group.ensures, c.insert_place.ensures)
    (grouped_more c.self.inside.groups.items c.self.inside.by_name.items (record { name = c.args.name; created = c.args.at }) c.place_of-index.result (c.len.result + 1)
    c.self.invariant free place (omega arith) (omega arith))
