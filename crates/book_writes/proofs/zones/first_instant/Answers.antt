use Rattle.std.proofs.Common.{ℕ}
use Rattle.book_writes.specs.Dating.{read_in}
use Rattle.book_writes.proofs.DateLemmas.{first_is_date}
use Rattle.book_writes.proofs.zones.first_instant.Goals as goal

pub returns-in-Some-clause-date : goal.returns-in-Some-clause-date
returns-in-Some-clause-date c =
    first_is_date c.args.zones.now c.args.content.now c.args.created.0 c.args.from c.next_instant.result
    (λ (first : ℕ) le. c.next_instant.ensures.occurs (read_in c.args.zones.now c.args.content.now.zone) first c.in-Some.ensures.some le)

pub returns-in-Some-clause-first : goal.returns-in-Some-clause-first
returns-in-Some-clause-first c known = λ (first : ℕ) le.
    c.next_instant.ensures.occurs (read_in c.args.zones.now c.args.content.now.zone) first c.in-Some.ensures.some le
