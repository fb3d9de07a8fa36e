use Rattle.std.proofs.Common.{sym, ◌∙◌}
use Rattle.expr_grammar.specs.Items.{field_of}
use Rattle.expr_grammar.proofs.RowLaws.{stepped_none, stepped_one, stepped_two}
use Rattle.expr_grammar.proofs.row.stepped.Goals as goal

pub returns-in_default : goal.returns-in_default
returns-in_default c = sym (stepped_none (field_of c.args.field) c.args.base.now c.args.by.now (sym c.step_in.ensures ∙ c.in_default.is))

pub returns-in-One : goal.returns-in-One
returns-in-One c =
    c.on.ensures
    ∙ sym (stepped_one (field_of c.args.field) c.args.base.now c.args.by.now c.in-Some.by (sym c.step_in.ensures ∙ c.in-Some.is) c.in-One.ensures)

pub returns-in-Two : goal.returns-in-Two
returns-in-Two c =
    c.range.ensures
    ∙ sym (stepped_two (field_of c.args.field) c.args.base.now c.args.by.now c.in-Two.from.now c.in-Two.to.now c.in-Some.by
    (sym c.step_in.ensures ∙ c.in-Some.is) c.in-Two.ensures)
