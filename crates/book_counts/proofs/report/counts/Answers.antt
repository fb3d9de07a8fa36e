use Rattle.std.proofs.Common.{◌≡◌, ◌≤◌, length, subst, arith}
use Rattle.sched_plain.specs.Report.{counts}
use Rattle.sched_plain.specs.Ledger.{ledger_of}
use Rattle.sched_plain.specs.Changes.{changes_of}
use Rattle.sched_plain.specs.Rows.{rows_of}
use Rattle.sched_plain.specs.Queues.{posted}
use Rattle.book_parts.specs.Told.{Told}
use Rattle.book_parts.specs.Stands.{Stands}
use Rattle.book_counts.proofs.CountLemmas.{report_of, counts_told}
use Rattle.book_counts.proofs.report.counts.Goals as goal

pub returns : goal.returns
returns c = λ h st.
    let small : c.length.result ≤ 18446744073709551615 = omega (arith, c.length.type_inv) in
    subst (λ (b : Told). Stands b h → report_of c.args.now.0 c.length.result c.living_count.result c.group_count.result c.counts-standing.result c.count.result ≡ counts h c.args.now.0)
    c.parts.view_is
    (λ stands.
    counts_told c.entries_are_the_occurrences.ensures.exact _ h stands c.args.now.0 c.length.result c.living_count.result c.group_count.result c.count.result c.counts-standing.result
    (c.length.ensures h st) small c.living_count.ensures c.group_count.ensures
    (λ within. c.counts-standing.ensures (ledger_of h) (length (rows_of (changes_of h))) stands.ledger within)
    (c.count.ensures (posted h) stands.letters))
    st
