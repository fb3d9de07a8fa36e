use Rattle.expressions.specs.Canonical.{days_text, set_text, week_text}
use Rattle.expressions.specs.Sets.{has_value, has_year}
use Rattle.expressions.specs.CronItems as cron
use Rattle.expr_grammar.proofs.PrintLaws.{cron_put}
use Rattle.expr_grammar.proofs.print_cron.put_cron.Goals as goal

pub returns : goal.returns
returns c =
    cron_put c.args.text.now.items c.extend_from_slice.new.self.items c.put_time.new.text.items c.put_month_days.new.text.items c.push.new.self.items
    c.put_set.new.text.items c.push-2.new.self.items c.put_week_days.new.text.items c.push-3.new.self.items c.put_years.new.text.items c.push-4.new.self.items
    (set_text cron.minutes (has_value c.args.sets.now.minutes)) (set_text cron.hours (has_value c.args.sets.now.hours)) (days_text c.args.sets.now.days)
    (set_text cron.month (has_value c.args.sets.now.months)) (week_text c.args.sets.now.days) (set_text cron.year (has_year c.args.sets.now))
    c.in_ok-extend_from_slice.ensures.items c.in_ok-put_time.ensures c.in_ok-put_month_days.ensures c.in_ok-push.ensures.items c.in_ok-put_set.ensures
    c.in_ok-push-2.ensures.items c.in_ok-put_week_days.ensures c.in_ok-push-3.ensures.items c.in_ok-put_years.ensures c.in_ok-push-4.ensures.items
