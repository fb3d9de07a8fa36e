use Rattle.std.proofs.Common.{sym, ◌∙◌, ap, Some}
use Rattle.sched_plain.specs.declared.row.GroupRow.{GroupRow}
use Rattle.read_replies.proofs.GroupLemmas.{row_of_created}
use Rattle.read_replies.proofs.groups.group_row.Goals as goal

pub returns-in_ok-copy-in-Some : goal.returns-in_ok-copy-in-Some
returns-in_ok-copy-in-Some c =
    ap (λ name. let row : GroupRow = record { name = name; created = c.in-Some.created } in Some row) c.in_ok-copy-in-Some.ensures
    ∙ row_of_created c.args.rows.now.groups c.args.name.now c.in-Some.created (sym c.group.ensures ∙ c.in-Some.is)
