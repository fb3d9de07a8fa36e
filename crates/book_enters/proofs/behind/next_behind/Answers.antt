use Rattle.std.proofs.Common.{◌∙◌, subst, sym}
use Rattle.plain_words.proofs.Options.{some_same}
use Rattle.sched_plain.specs.declared.row.Row.{Row}
use Rattle.book_parts.proofs.ContentLemmas.{contents_of_row}
use Rattle.book_enters.specs.Behind.{IsBehindRow}
use Rattle.book_enters.proofs.behind.next_behind.Goals as goal

pub row_behind-requires-clause-contents : goal.row_behind-requires-clause-contents
row_behind-requires-clause-contents c = contents_of_row c.args.rows.now.rows c.args.inc c.in-Some.row.now.row c.requires.contents (sym c.in-Some.ensures)

pub returns-in-Some-clause-first : goal.returns-in-Some-clause-first
returns-in-Some-clause-first c = λ row there.
    subst (λ (r : Row). IsBehindRow c.args.zones.now r c.args.instant c.row_behind.result)
    (some_same c.in-Some.row.now.row row (c.in-Some.ensures ∙ there)) c.row_behind.ensures.first
