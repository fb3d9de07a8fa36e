-- The attempts of an occurrence: its Begins, each with its End where one follows, or lost where a Boot or a
-- taking of its shard came before.
use Rattle.std.specs.Prelude.{ℕ, ◌==◌, Bool, true, false, ◌&&◌, if◌then◌else◌, Option, List, [], ◌∷◌, ◌++◌, map, length}
use Rattle.sched_plain.specs.declared.entry.Attempt.{Attempt}
use Rattle.sched_plain.specs.declared.entry.Filed.{Filed}
use Rattle.sched_plain.specs.declared.entry.Fate.{Fate}
use Rattle.sched_plain.specs.declared.entry.Fate.TheVariants as fates
use Rattle.sched_plain.specs.declared.entry.Last.{Last}
use Rattle.sched_plain.specs.declared.entry.Last.TheVariants as lasts
use Rattle.plain_words.specs.declared.verdict.Verdict.{Verdict}
use Rattle.plain_words.specs.Moments.{moment_of}
use Rattle.plain_words.specs.Lists.{some_pass}
use Rattle.sched_plain.specs.Ledger.{LedgerCall, Begun, Finished, Lost, Missed}
use Rattle.sched_plain.specs.Entries.{is_lost_in}

-- an attempt that was begun
abbrev pub begun_attempt : ℕ → ℕ → ℕ → Attempt
begun_attempt number at epoch = record { number = number; begun = moment_of at; epoch = epoch; fate = fates.Live }

-- the attempt of this number with its end
abbrev pub end_attempt : ℕ → Verdict → ℕ → Attempt → Attempt
end_attempt number verdict status attempt =
    if number == attempt.number then record attempt { fate = fates.Ended verdict status } else attempt

-- what becomes of a live attempt that is lost
abbrev pub lost_fate : Fate → Fate
lost_fate fates.Live = fates.Lost
lost_fate fate = fate

abbrev pub lose_attempt : Attempt → Attempt
lose_attempt attempt = record attempt { fate = lost_fate attempt.fate }

-- the attempt of this number as a lost one, where it is live
abbrev pub miss_attempt : ℕ → Attempt → Attempt
miss_attempt number attempt = if number == attempt.number then lose_attempt attempt else attempt

-- the attempts of an occurrence, in order
abbrev pub attempts : List LedgerCall → ℕ → ℕ → List Attempt
attempts [] inc instant = []
attempts (Begun of at number epoch moment ∷ before) inc instant =
    if inc == of && instant == at then attempts before inc instant ++ begun_attempt number moment epoch ∷ [] else attempts before inc instant
attempts (Finished of at number verdict status moment ∷ before) inc instant =
    if inc == of && instant == at then map (end_attempt number verdict status) (attempts before inc instant) else attempts before inc instant
attempts (Lost shard moment ∷ before) inc instant =
    if is_lost_in shard inc then map lose_attempt (attempts before inc instant) else attempts before inc instant
attempts (Missed of at number moment ∷ before) inc instant =
    if inc == of && instant == at then map (miss_attempt number) (attempts before inc instant) else attempts before inc instant
attempts (call ∷ before) inc instant = attempts before inc instant

-- how many attempts of an occurrence were begun
abbrev pub used : List LedgerCall → ℕ → ℕ → ℕ
used calls inc instant = length (attempts calls inc instant)

-- the last attempt is live
abbrev pub is_live_last : Last → Bool
is_live_last (lasts.Live at) = true
is_live_last last = false

-- the attempt of this number is live: it is the last one that was begun, and neither ended nor lost
abbrev pub is_live_attempt : Option Filed → ℕ → Bool
is_live_attempt filed number = some_pass (λ f. number == f.entry.used && is_live_last f.entry.last) filed
