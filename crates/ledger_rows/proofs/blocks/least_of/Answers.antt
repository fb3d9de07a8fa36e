use Rattle.std.proofs.Common.{◌*◌, ap, ◌∙◌, arith}
use Rattle.min_tree.specs.Search.{least}
use Rattle.ledger_rows.specs.declared.blocks.TheConstants.{PER_BLOCK}
use Rattle.ledger_rows.specs.Numbers.{numbers_of}
use Rattle.ledger_rows.proofs.BlockLemmas.{least_more, least_all, numbers_long}
use Rattle.ledger_rows.proofs.blocks.least_of.Goals as goal

pub loop-place-preserved : goal.loop-place-preserved
loop-place-preserved c =
    let was = c.loop-place.invariant in
    let long = numbers_long c.args.rows.now.rows in
    let test = c.loop-place-test.true in
    let end = c.min-place-end.ensures in
    let begin = c.begin_of-from.ensures in
    let len = c.len-len.ensures.value in
    let begun = was.begun in
    record {
      begun = omega (arith, begun);
      few = omega (arith, test, end, begin);
      value = c.min-least.ensures ∙ least_more (numbers_of c.args.rows.now.rows) (c.args.block * PER_BLOCK) c.loop-place.place c.loop-place.least c.number_at.result begun
          (omega (arith, test, end, len, long)) was.value c.number_at.ensures.value c.number_at.ensures.small;
    }

pub returns : goal.returns
returns c =
    let was = c.loop-place.invariant in
    let long = numbers_long c.args.rows.now.rows in
    let test = c.loop-place-test.false in
    let end = c.min-place-end.ensures in
    let begin = c.begin_of-from.ensures in
    let len = c.len-len.ensures.value in
    was.value ∙ ap least (least_all (numbers_of c.args.rows.now.rows) (c.args.block * PER_BLOCK) c.loop-place.place was.begun was.few (omega (arith, test, end, begin, len, long)))
