-- The lines that tell of a history.
use Rattle.std.specs.Prelude.{ℕ, List, [], ◌∷◌, ◌++◌, codes, decimal}
use Rattle.sched_plain.specs.declared.counts.Counts.{Counts}

-- the byte that ends a line
abbrev pub line_end : List ℕ
line_end = 10 ∷ []

-- words, a space, a number
abbrev pub numbered_line : List ℕ → ℕ → List ℕ
numbered_line words number = words ++ codes " " ++ decimal number ++ line_end

-- the counts, a line each
abbrev pub report_text : Counts → List ℕ
report_text counts =
    numbered_line (codes "moment") counts.moment
    ++ numbered_line (codes "steps") counts.steps
    ++ numbered_line (codes "schedules") counts.schedules
    ++ numbered_line (codes "groups") counts.groups
    ++ numbered_line (codes "entries") counts.entries
    ++ numbered_line (codes "done") counts.done
    ++ numbered_line (codes "final") counts.finals
    ++ numbered_line (codes "attempts") counts.attempts
    ++ numbered_line (codes "age") counts.age
    ++ numbered_line (codes "cancelled") counts.cancelled
    ++ numbered_line (codes "waiting") counts.waiting
    ++ numbered_line (codes "due") counts.due
    ++ numbered_line (codes "live") counts.live
    ++ numbered_line (codes "exhausted") counts.exhausted
    ++ numbered_line (codes "letters") counts.letters
