use Rattle.std.proofs.Common.{◌≡◌, ◌∙◌, sym, subst, [], ◌++◌, map}
use Rattle.std.proofs.lemmas.List.{append-nil}
use Rattle.sched_plain.specs.declared.row.Row.{Row}
use Rattle.sched_plain.specs.Rows.{done_to, renews_if, is_at}
use Rattle.sched_rows.specs.State.{State, rows_in}
use Rattle.sched_rows.proofs.rows.Rows.update_schedule.Goals as goal

pub returns-clause-rows : goal.returns-clause-rows
returns-clause-rows c =
    let updated : Row → Row = λ row. done_to c.args.at.0 (renews_if (is_at c.args.group c.args.name row) c.args.content) row in
    subst (λ (v : State). rows_in c.update.new.self.rows ≡ map updated v.rows ++ []) c.self.view_is
    (c.update.ensures.rows ∙ sym (append-nil (map updated (rows_in c.self.inside.schedules.rows))))
