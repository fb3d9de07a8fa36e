use Rattle.std.proofs.Common.{sym, ap, ◌∙◌, Some}
use Rattle.expr_grammar.specs.Answers.{told}
use Rattle.expr_grammar.specs.Items.{field_of}
use Rattle.expr_grammar.proofs.FieldLaws.{field_end, field_item_fault, field_mixed}
use Rattle.expr_grammar.proofs.cron_field.read_field.Goals as goal

pub returns-then-are_mixed : goal.returns-then-are_mixed
returns-then-are_mixed c =
    field_mixed (field_of c.args.field) c.args.word.at c.args.word.text.now c.in-Ok.items c.in-Ok.ensures (sym c.if-are_mixed.ensures)
    ∙ ap (λ f. Some (told f)) (sym c.bad_mix.ensures)

pub returns-else-are_mixed : goal.returns-else-are_mixed
returns-else-are_mixed c =
    field_end (field_of c.args.field) c.args.word.at c.args.word.text.now c.in-Ok.items c.in-Ok.ensures (sym c.if-are_mixed.ensures)

pub returns-in-Err : goal.returns-in-Err
returns-in-Err c = field_item_fault (field_of c.args.field) c.args.word.at c.args.word.text.now (told c.in-Err.fault) c.in-Err.ensures
