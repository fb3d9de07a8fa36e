use Rattle.std.proofs.Common.{◌≡◌, ◌==◌, false}
use Rattle.std.proofs.lemmas.Bool.{ne_eqb}
use Rattle.reply_bodies.proofs.schedule.put_window.Goals as goal

pub returns : goal.returns
returns c =
    let wide : (c.args.minutes == 0) ≡ false = ne_eqb c.args.minutes 0 c.if-minutes-eq0.false in
    rw wide c.put_flexible.ensures
