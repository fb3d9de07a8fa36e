use Rattle.std.proofs.Common.{◌-◌, arith, sym}
use Rattle.plain_words.proofs.ListLemmas.{nth_past}
use Rattle.sched_rows.proofs.PlaceLemmas.{nth_none, nth_read}
use Rattle.sched_rows.proofs.groups.group_at.Goals as goal

pub returns-then-place-eq0 : goal.returns-then-place-eq0
returns-then-place-eq0 c = nth_none c.args.groups.now c.args.place c.if-place-eq0.true

pub returns-then-place-groups : goal.returns-then-place-groups
returns-then-place-groups c = sym (nth_past c.args.groups.now c.args.place (omega arith))

pub returns : goal.returns
returns c = nth_read c.args.groups.now (c.args.place - 1) c.args.place _ (omega arith) (omega arith) c.index-groups-place.is
