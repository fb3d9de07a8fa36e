-- The counts of a history.
use Rattle.std.specs.Prelude.{◌≡◌, ℕ, ◌+◌, List, length}
use Rattle.std.specs.List.{flat_map}
use Rattle.sched_plain.specs.declared.counts.Counts.{Counts}
use Rattle.sched_plain.specs.declared.step.Pair.{Pair}
use Rattle.sched_plain.specs.History.{History}
use Rattle.plain_words.specs.Lists.{numbers}
use Rattle.sched_plain.specs.Changes.{changes_of}
use Rattle.sched_plain.specs.Rows.{rows_of}
use Rattle.sched_plain.specs.Ledger.{ledger_of}
use Rattle.sched_plain.specs.Entries.{entries}
use Rattle.sched_plain.specs.Base.{sum_of_folded}
use Rattle.sched_plain.specs.Report.{folded, counts}

-- the sum of the nine numbers by which entries are told apart
abbrev pub sum_of_nine : Counts → ℕ
sum_of_nine k = k.done + k.finals + k.attempts + k.age + k.cancelled + k.waiting + k.due + k.live + k.exhausted

-- the number of entries is the sum of the nine numbers
abbrev pub CountsAddUp : Type 0
CountsAddUp = (h : History) (t : ℕ) → (counts h t).entries ≡ sum_of_nine (counts h t)

-- the pairs of all incarnations
abbrev pub all_pairs : History → List Pair
all_pairs h = flat_map (λ inc. entries (ledger_of h) inc) (numbers 1 (length (rows_of (changes_of h))))

-- the number of entries is that of the pairs of all incarnations, and of the entries that were folded away
abbrev pub EntriesAreCounted : Type 0
EntriesAreCounted = (h : History) (t : ℕ) → (counts h t).entries ≡ length (all_pairs h) + sum_of_folded (folded h)
