use Rattle.std.proofs.Common.{◌≡◌, get_or, arith, rules}
use Rattle.std.proofs.lemmas.List.{take_more_same}
use Rattle.journal_file.specs.declared.format.TheConstants.{HEADER}
use Rattle.journal_file.proofs.opening.first_wrong.Goals as goal

pub loop-at-preserved : goal.loop-at-preserved
loop-at-preserved c =
    let same : get_or c.args.bytes.now c.loop-at.at 0 ≡ get_or HEADER c.loop-at.at 0 = search rules in
    record {
      there = omega arith;
      same = take_more_same c.args.bytes.now HEADER c.loop-at.at 0 (omega arith) c.loop-at-test.true c.loop-at.invariant.same same;
    }
