-- What is looked up of an occurrence before a step about it is judged.
use Rattle.std.specs.Prelude.{ℕ, Option}
use Rattle.std.specs.Option.{option_map}
use Rattle.sched_plain.specs.declared.entry.Filed.{Filed}
use Rattle.sched_plain.specs.declared.standing.Standing.{Standing}
use Rattle.sched_plain.specs.Standing.{standing_of}
use Rattle.sched_plain.specs.Work.{Occurrence}

-- where what is filed stands at a moment, if anything is
abbrev pub standing_at : ℕ → Option Filed → Option Standing
standing_at now filed = option_map {T = Filed} (λ f. standing_of f now) filed

-- an incarnation with an instant, as an occurrence
abbrev pub occurrence_of : ℕ × ℕ → Occurrence
occurrence_of found = record { inc = found.0; instant = found.1 }
