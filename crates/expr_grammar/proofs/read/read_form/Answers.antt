use Rattle.std.specs.Prelude.{codes}
use Rattle.expressions.specs.ExpressionFaults.{at_fault, cron_fault, rate_fault, words_fault}
use Rattle.expr_grammar.specs.Answers.{enclosed}
use Rattle.expr_grammar.proofs.Laws.{answers_of_form, fault_of_at, fault_of_cron, fault_of_rate, no_form}
use Rattle.expr_grammar.proofs.read.read_form.Goals as goal

pub returns-in-Some : goal.returns-in-Some
returns-in-Some c =
    answers_of_form c.args.text.now (enclosed (codes "at(") c.in-Some.inner.now) (at_fault c.in-Some.inner.now) c.read_at.result
    c.in-Some.ensures.whole (fault_of_at c.args.text.now c.in-Some.inner.now c.in-Some.ensures.whole) c.read_at.ensures

pub returns-in-Some-inside : goal.returns-in-Some-inside
returns-in-Some-inside c =
    answers_of_form c.args.text.now (enclosed (codes "rate(") c.in-Some-inside.inner.now) (words_fault rate_fault 5 c.in-Some-inside.inner.now) c.read_rate.result
    c.in-Some-inside.ensures.whole (fault_of_rate c.args.text.now c.in-Some-inside.inner.now c.in-Some-inside.ensures.whole) c.read_rate.ensures

pub returns-in-Some-inside-2 : goal.returns-in-Some-inside-2
returns-in-Some-inside-2 c =
    answers_of_form c.args.text.now (enclosed (codes "cron(") c.in-Some-inside-2.inner.now) (words_fault cron_fault 5 c.in-Some-inside-2.inner.now) c.read_cron.result
    c.in-Some-inside-2.ensures.whole (fault_of_cron c.args.text.now c.in-Some-inside-2.inner.now c.in-Some-inside-2.ensures.whole) c.read_cron.ensures

pub returns : goal.returns
returns c = no_form c.args.text.now c.in_default.ensures.value c.in_default-inside.ensures.value c.in_default-inside-2.ensures.value
