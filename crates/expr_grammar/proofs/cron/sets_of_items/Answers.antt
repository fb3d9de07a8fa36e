use Rattle.std.proofs.Common.{refl, sym, ◌∙◌, lit<, lit≤}
use Rattle.expressions.specs.CronItems as cron
use Rattle.expr_grammar.proofs.SetLaws.{small_rule}
use Rattle.expr_grammar.proofs.CronLaws.{cron_answer, days_fault_is}
use Rattle.expr_grammar.proofs.cron.sets_of_items.Goals as goal

pub day_rule-requires-clause-days : goal.day_rule-requires-clause-days
day_rule-requires-clause-days c =
    small_rule cron.day_of_month 32 c.args.fields.days.word.text.now c.args.all.days c.requires.days refl (lit≤ tt) (lit< tt) (lit≤ tt)

pub day_rule-requires-clause-week : goal.day_rule-requires-clause-week
day_rule-requires-clause-week c =
    small_rule cron.day_of_week 8 c.args.fields.week.word.text.now c.args.all.week c.requires.week refl (lit≤ tt) (lit< tt) (lit≤ tt)

pub sets_by-requires-clause-minutes : goal.sets_by-requires-clause-minutes
sets_by-requires-clause-minutes c =
    (small_rule cron.minutes 64 c.args.fields.minutes.word.text.now c.args.all.minutes c.requires.minutes refl (lit≤ tt) (lit< tt) (lit≤ tt)).set

pub sets_by-requires-clause-hours : goal.sets_by-requires-clause-hours
sets_by-requires-clause-hours c =
    (small_rule cron.hours 32 c.args.fields.hours.word.text.now c.args.all.hours c.requires.hours refl (lit≤ tt) (lit< tt) (lit≤ tt)).set

pub sets_by-requires-clause-months : goal.sets_by-requires-clause-months
sets_by-requires-clause-months c =
    (small_rule cron.month 16 c.args.fields.months.word.text.now c.args.all.months c.requires.months refl (lit≤ tt) (lit< tt) (lit≤ tt)).set

pub returns-in-Ok : goal.returns-in-Ok
returns-in-Ok c = cron_answer c.args.fields c.args.all c.in-Ok.rule c.sets_by.result c.requires c.in-Ok.ensures c.sets_by.ensures

pub returns-in-Err : goal.returns-in-Err
returns-in-Err c = sym (days_fault_is c.args.fields c.args.all c.requires) ∙ c.in-Err.ensures
