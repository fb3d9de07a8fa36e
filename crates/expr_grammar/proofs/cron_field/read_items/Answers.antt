use Rattle.expr_grammar.specs.Items.{field_of, item_of}
use Rattle.expr_grammar.proofs.FieldLaws.{progress_start, progress_more, progress_end}
use Rattle.expr_grammar.proofs.cron_field.read_items.Goals as goal

pub loop-text-init : goal.loop-text-init
loop-text-init c = progress_start (field_of c.args.field) c.args.word.at c.args.word.text.now c.no_items-items.result c.no_items-items.ensures

pub loop-text-preserved : goal.loop-text-preserved
loop-text-preserved c =
    progress_more (field_of c.args.field) c.args.word.at c.args.word.text.now c.loop-text.at c.loop-text.rest.now c.in-Some.text.now c.in-Some.behind.now
    c.loop-text.items c.with_item-items.result (item_of c.in-Ok.item) c.loop-text.invariant c.in-Some.ensures.cut c.in-Some.ensures.long
    c.in-Ok.ensures.answer.0 c.in-Ok.ensures.answer.1.0 c.with_item-items.ensures

pub returns-in-Ok-read_item : goal.returns-in-Ok-read_item
returns-in-Ok-read_item c =
    progress_end (field_of c.args.field) c.args.word.at c.args.word.text.now c.loop-text.at c.loop-text.rest.now
    c.loop-text.items c.with_item.result (item_of c.in-Ok-read_item.item) c.loop-text.invariant c.in_default.ensures.cut
    c.in-Ok-read_item.ensures.answer.0 c.in-Ok-read_item.ensures.answer.1.0 c.with_item.ensures
