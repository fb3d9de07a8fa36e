use Rattle.std.proofs.Common.{arith, ◌≡◌, pos}
use Rattle.std.proofs.lemmas.Int.{ints}
use Rattle.jiff_core.specs.Date.{epoch_day}
use Rattle.target_link.proofs.DayLemmas.{date_is}
use Rattle.target_link.proofs.time.date_of.Goals as goal

pub returns : goal.returns
returns c =
    let value = rw c.unwrap.ensures at c.from_unix_epoch_day.ensures.value in
    let number : epoch_day c.unwrap.result ≡ pos c.args.days = omega (arith, ints, value, c.from.ensures) in
    let date = date_is c.unwrap.result c.args.days (omega arith) number in
    record { year = date.0; month = date.1; day = date.2 }
