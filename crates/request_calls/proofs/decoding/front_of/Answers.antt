use Rattle.std.proofs.Common.{◌≤◌, length, sym, arith}
use Rattle.std.proofs.lemmas.List.{take_all}
use Rattle.request_calls.proofs.decoding.front_of.Goals as goal

pub returns-then-path-le-SHOWN_PATH : goal.returns-then-path-le-SHOWN_PATH
returns-then-path-le-SHOWN_PATH c =
    let short : length c.args.path.now ≤ 64 = omega arith in sym (take_all 64 c.args.path.now short)
