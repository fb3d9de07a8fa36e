-- When the last attempt of an entry was.
use Rattle.std.specs.Prelude.{ℕ}
use Rattle.sched_plain.specs.declared.entry.Last.{Last}
use Rattle.sched_plain.specs.declared.entry.Last.TheVariants as lasts

-- the moment of the last attempt: of its begin where it is live, else of its loss or its end; 0 where there is none
abbrev pub last_at : Last → ℕ
last_at lasts.NoAttempt = 0
last_at (lasts.Live at) = at
last_at (lasts.Lost at) = at
last_at (lasts.Ended at) = at
