use Rattle.std.proofs.Common.{ℕ, ◌+◌, ◌*◌, arith}
use Rattle.cron_search.specs.Levels.{day_key, minute_of_day}
use Rattle.cron_search.proofs.InTime.{first_fit, no_fit}
use Rattle.cron_search.proofs.search.next_civil.Goals as goal

pub returns-clause-found : goal.returns-clause-found
returns-clause-found c =
    let start : ℕ = day_key c.args.from.year c.args.from.month c.args.from.day * 1440 + minute_of_day c.whole_minute.result in
    first_fit c.args.sets.now c.args.from start c.next_minute.result c.requires (omega arith) (omega arith) c.next_minute.ensures.found

pub returns-clause-none : goal.returns-clause-none
returns-clause-none c =
    let start : ℕ = day_key c.args.from.year c.args.from.month c.args.from.day * 1440 + minute_of_day c.whole_minute.result in
    no_fit c.args.sets.now c.args.from start c.next_minute.result c.requires (omega arith) c.next_minute.ensures.none
