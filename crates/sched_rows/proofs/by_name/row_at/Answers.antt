use Rattle.std.proofs.Common.{◌-◌, arith, sym}
use Rattle.plain_words.proofs.ListLemmas.{nth_past}
use Rattle.sched_rows.proofs.PlaceLemmas.{nth_none, nth_read}
use Rattle.sched_rows.proofs.by_name.row_at.Goals as goal

pub returns-then-number-eq0 : goal.returns-then-number-eq0
returns-then-number-eq0 c = nth_none c.args.rows.now c.args.number c.if-number-eq0.true

pub returns-then-number-rows : goal.returns-then-number-rows
returns-then-number-rows c = sym (nth_past c.args.rows.now c.args.number (omega arith))

pub returns : goal.returns
returns c = nth_read c.args.rows.now (c.args.number - 1) c.args.number _ (omega arith) (omega arith) c.index-rows-number.is
