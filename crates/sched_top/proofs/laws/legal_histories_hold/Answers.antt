use Rattle.sched_top.proofs.KeepLemmas.{holds_of_each}
use Rattle.sched_top.proofs.laws.legal_histories_hold.Goals as goal

pub returns : goal.returns
returns c =
    let entries = c.entries_are_the_occurrences.ensures in
    let attempts = c.attempts_are_numbered.ensures in
    let sums = c.counts_add_up.ensures in
    holds_of_each entries.exact entries.once attempts.numbers attempts.counted attempts.allowed
    c.prefixes_are_legal.ensures.legal c.swept_leaves_nothing.ensures sums.sum sums.entries
    c.letters_are_owed.ensures c.tokens_stand_once.ensures
