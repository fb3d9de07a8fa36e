use Rattle.std.proofs.Common.{◌≡◌, ◌∙◌, ℕ, List, IfOk, subst, option_map}
use Rattle.sched_calls.specs.declared.page.ListRow.{ListRow}
use Rattle.sched_calls.specs.Replies.{is_listed, page_of}
use Rattle.sched_rows.proofs.PageLemmas.{listed_all}
use Rattle.sched_rows.proofs.lists.page_of.Goals as goal

pub returns : goal.returns
returns c =
    subst (λ (all : List ListRow). IfOk c.page_from.result (λ page. page ≡ page_of c.args.max all))
    (c.span_of-span.ensures c.args.enabled
    ∙ listed_all c.args.rows.now c.args.numbers.now (is_listed (option_map (λ g. g.now) c.args.group) c.args.prefix.now c.args.enabled
    (option_map {U = List ℕ × List ℕ} (λ names. (names.0.now, names.1.now)) c.args.after)) c.requires.index c.requires.spans)
    c.page_from.ensures
