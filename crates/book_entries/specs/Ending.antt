-- What the end of an attempt makes a letter of, and whether it is in the air.
use Rattle.std.specs.Prelude.{ℕ, Bool, false, Option, List}
use Rattle.std.specs.List.{list_any}
use Rattle.plain_words.specs.declared.verdict.Verdict.{Verdict}
use Rattle.plain_words.specs.declared.verdict.Verdict.TheVariants as verdicts
use Rattle.sched_plain.specs.declared.entry.Filed.{Filed}
use Rattle.sched_plain.specs.Entries.{is_open}
use Rattle.ledger_rows.specs.declared.row.Flight.{Flight}
use Rattle.ledger_rows.specs.Air.{is_of}

-- the verdict decides an open entry as failed for good
abbrev pub fails : Verdict → Option Filed → Bool
fails verdicts.Final filed = is_open filed
fails verdict filed = false

-- an attempt of an occurrence is in the air
abbrev pub is_aloft : List Flight → ℕ → ℕ → Bool
is_aloft flights inc instant = list_any {X = Flight} (is_of inc instant) flights
