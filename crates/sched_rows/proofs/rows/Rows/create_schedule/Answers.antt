use Rattle.std.proofs.Common.{◌≡◌, ◌∙◌, ap, sym, subst, List, ◌++◌, map}
use Rattle.plain_words.proofs.ListLemmas.{map_same}
use Rattle.sched_plain.specs.declared.row.Row.{Row}
use Rattle.sched_plain.specs.declared.write.Write.TheVariants.{CreateSchedule}
use Rattle.sched_plain.specs.Rows.{born}
use Rattle.sched_rows.specs.State.{State, rows_in}
use Rattle.sched_rows.proofs.rows.Rows.create_schedule.Goals as goal

pub returns-clause-rows : goal.returns-clause-rows
returns-clause-rows c =
    let made = born c.args.at.0 (CreateSchedule c.args.group c.args.name c.args.token c.args.content) in
    subst (λ (v : State). rows_in c.create.new.self.rows ≡ map (λ (row : Row). row) v.rows ++ made) c.self.view_is
    (c.create.ensures.rows ∙ ap (λ (rows : List Row). rows ++ made) (sym (map_same (rows_in c.self.inside.schedules.rows))))
