use Rattle.std.proofs.Common.{◌∙◌, ◌-◌, ◌++◌, ap, sym}
use Rattle.expressions.specs.Canonical.{begins_run, run_end, run_text}
use Rattle.expressions.specs.CronItems as cron
use Rattle.expr_grammar.specs.Items.{field_of}
use Rattle.expr_grammar.specs.ValueSets.{holds}
use Rattle.expr_grammar.proofs.PrintLaws.{printed_one}
use Rattle.expr_grammar.proofs.print_set.put_run_at.Goals as goal

pub returns : goal.returns
returns c = λ before done printed.
    printed_one before c.args.text.now.items c.put_comma_unless.new.text.items c.put_run.new.text.items c.args.is_first
    (begins_run (holds c.args.set) (cron.least (field_of c.args.field)) c.args.value) done
    (c.args.value, run_end (holds c.args.set) c.args.value (cron.greatest (field_of c.args.field) - c.args.value))
    (sym c.begins_run.ensures ∙ c.if-not-begins_run.false) c.in_ok-put_comma_unless.ensures
    (c.in_ok-put_run.ensures ∙ ap (λ last. c.put_comma_unless.new.text.items ++ run_text (c.args.value, last)) c.run_end.ensures) printed
