use Rattle.std.proofs.Common.{◌∙◌, sym, arith}
use Rattle.sched_rows.specs.State.{rows_in}
use Rattle.sched_rows.proofs.ChangeLemmas.{length_rows}
use Rattle.sched_rows.proofs.FilingLemmas.{member_within, member_ended, member_left, member_spans}
use Rattle.sched_rows.proofs.schedules.end_member.Goals as goal

pub end_at-requires-clause-from : goal.end_at-requires-clause-from
end_at-requires-clause-from c =
    let is = rw c.deref.ensures.value at c.is_member.ensures in
    (member_within c.args.group.now (rows_in c.args.rows.now.items) c.args.number (sym is ∙ c.if-is_member.true)).0

pub end_at-requires-clause-to : goal.end_at-requires-clause-to
end_at-requires-clause-to c =
    let is = rw c.deref.ensures.value at c.is_member.ensures in
    omega (arith, length_rows c.args.rows.now.items, (member_within c.args.group.now (rows_in c.args.rows.now.items) c.args.number (sym is ∙ c.if-is_member.true)).1)

pub returns-then-is_member-clause-rows : goal.returns-then-is_member-clause-rows
returns-then-is_member-clause-rows c =
    let is = rw c.deref.ensures.value at c.is_member.ensures in
    c.end_at.ensures ∙ member_ended c.args.at.0 c.args.group.now (rows_in c.args.rows.now.items) c.args.number (sym is ∙ c.if-is_member.true)

pub returns-then-is_member-clause-spans : goal.returns-then-is_member-clause-spans
returns-then-is_member-clause-spans c =
    let is = rw c.deref.ensures.value at c.is_member.ensures in
    member_spans c.args.at.0 c.args.group.now (rows_in c.args.rows.now.items) (rows_in c.end_at.new.rows.items) c.args.number
    (c.end_at.ensures ∙ member_ended c.args.at.0 c.args.group.now (rows_in c.args.rows.now.items) c.args.number (sym is ∙ c.if-is_member.true)) c.requires

pub returns-else-is_member-clause-rows : goal.returns-else-is_member-clause-rows
returns-else-is_member-clause-rows c =
    let is = rw c.deref.ensures.value at c.is_member.ensures in
    member_left c.args.at.0 c.args.group.now (rows_in c.args.rows.now.items) c.args.number (sym is ∙ c.if-is_member.false)
