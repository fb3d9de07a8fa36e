use Rattle.std.proofs.Common.{◌≡◌, ◌∙◌, ap, sym, subst, None, [], ◌++◌, map}
use Rattle.sched_plain.specs.declared.row.Row.{Row}
use Rattle.sched_rows.specs.FaultParts.{group_creation_fault}
use Rattle.sched_rows.specs.State.{State, rows_in}
use Rattle.sched_rows.proofs.AloneLemmas.{group_free, rows_untouched}
use Rattle.sched_rows.proofs.rows.Rows.create_group.Goals as goal

pub create-requires-clause-free : goal.create-requires-clause-free
create-requires-clause-free c =
    group_free c.self.inside.groups.groups c.args.name (subst (λ (v : State). group_creation_fault v.groups c.args.name ≡ None) (sym c.self.view_is) c.requires.allowed)

pub returns-clause-rows : goal.returns-clause-rows
returns-clause-rows c =
    subst (λ (v : State). rows_in c.pass.new.self.rows ≡ map (λ (row : Row). row) v.rows ++ []) c.self.view_is
    (ap rows_in c.pass.ensures.rows ∙ sym (rows_untouched (rows_in c.self.inside.schedules.rows)))
