use Rattle.std.proofs.Common.{◌≡◌, List, IfOk, subst}
use Rattle.sched_plain.specs.declared.row.GroupRow.{GroupRow}
use Rattle.sched_calls.specs.Replies.{group_page_of}
use Rattle.sched_rows.proofs.group_lists.page_of.Goals as goal

pub returns : goal.returns
returns c = subst (λ (all : List GroupRow). IfOk c.page_from.result (λ page. page ≡ group_page_of c.args.max all)) c.span_of-span.ensures c.page_from.ensures
