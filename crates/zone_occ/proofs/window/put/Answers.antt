use Rattle.std.proofs.Common.{◌≡◌, ◌≤◌, ◌∙◌, sym, ap, take, length, subst, Some, arith}
use Rattle.std.specs.List.{insert}
use Rattle.zone_occ.specs.Window.{IsPlace, IsOffered}
use Rattle.zone_occ.proofs.WindowLemmas.{put_offered}
use Rattle.zone_occ.proofs.window.put.Goals as goal

pub returns-in_ok-insert-in-Err : goal.returns-in_ok-insert-in-Err
returns-in_ok-insert-in-Err c =
    let old = c.args.moments.now.items in
    let place : IsPlace old c.args.moment c.in-Err.place =
    subst (λ xs. IsPlace xs c.args.moment c.in-Err.place) c.as_slice.ensures.value c.in-Err.ensures in
    let few : length old ≤ c.args.max =
    omega (arith, ap (λ xs. length xs) c.as_slice.ensures.value, c.as_slice.ensures.len, c.requires.few) in
    let now : take c.args.max (insert old c.in-Err.place c.args.moment) ≡ c.truncate.new.self.items =
    ap (take c.args.max) (sym c.in_ok-insert-in-Err.ensures.items) ∙ sym c.truncate.ensures.items in
    subst (IsOffered c.args.max old (Some c.args.moment)) now
    (put_offered c.args.max old c.in-Err.place c.args.moment c.requires.low few c.requires.rising place)
