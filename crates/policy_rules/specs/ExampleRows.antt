-- What the rules say of windows, waits, entries, leases and lists that are written out.
use Rattle.std.specs.Prelude.{◌≡◌, ℕ, None, Some, Ok, Err, [], ◌∷◌}
use Rattle.sched_plain.specs.declared.entry.Entry.{Entry}
use Rattle.sched_plain.specs.declared.entry.Last.{Last}
use Rattle.sched_plain.specs.declared.entry.Last.TheVariants as lasts
use Rattle.sched_plain.specs.declared.holder.Holder.{Holder}
use Rattle.sched_plain.specs.declared.outcome.Reason.TheVariants as reasons
use Rattle.sched_plain.specs.declared.schedule.Policy.{Policy}
use Rattle.sched_plain.specs.declared.standing.Standing.TheVariants as standings
use Rattle.sched_plain.specs.Standing.{delay, standing}
use Rattle.sched_plain.specs.Leases.{untaken, freed, leased}
use Rattle.sched_calls.specs.Serves.{chosen_in}
use Rattle.policy_rules.specs.Shards.{taking, renewing, releasing}
use Rattle.policy_rules.specs.Given.{word_at, reading_at, told_values}

-- an open entry that was to be sent at 1000, after so many attempts
abbrev pub tried : ℕ → Last → Entry
tried used last = record { chosen = 1000; used = used; last = last; outcome = None }

-- a policy of so many retries and seconds
abbrev pub policy : ℕ → ℕ → Policy
policy retries age = record { retries = retries; age = age }

-- an instant at 1000, alone and with a window of 15 minutes
pub record Choosing : Type 0 where
  pub off : chosen_in 0 1000 901 ≡ 1000
  pub first : chosen_in 15 1000 900 ≡ 1000
  pub second : chosen_in 15 1000 901 ≡ 1001
  pub last : chosen_in 15 1000 899 ≡ 1899

-- waits after an attempt
pub record Waiting : Type 0 where
  pub first : delay 1 ≡ 1
  pub tenth : delay 10 ≡ 512
  pub eleventh : delay 11 ≡ 900
  pub last : delay 185 ≡ 900

-- an entry that waits, is due, and is given up: after its last attempt, past its age, or since it would wait past it
pub record Standing : Type 0 where
  pub early : standing (tried 0 lasts.NoAttempt) (policy 2 86400) 999 ≡ standings.Waiting 1000
  pub due : standing (tried 0 lasts.NoAttempt) (policy 2 86400) 1000 ≡ standings.Due
  pub live : standing (tried 3 (lasts.Live 1003)) (policy 2 60) 90000 ≡ standings.Live
  pub waits : standing (tried 2 (lasts.Lost 1001)) (policy 2 86400) 1002 ≡ standings.Waiting 1003
  pub at_age : standing (tried 0 lasts.NoAttempt) (policy 2 86400) 87400 ≡ standings.Due
  pub past_age : standing (tried 0 lasts.NoAttempt) (policy 2 86400) 87401 ≡ standings.Exhausted reasons.Age
  pub waits_past_age : standing (tried 6 (lasts.Ended 1031)) (policy 185 60) 1031 ≡ standings.Exhausted reasons.Age
  pub one_left : standing (tried 185 (lasts.Ended 1003)) (policy 185 86400) 1903 ≡ standings.Due
  pub none_left : standing (tried 186 (lasts.Ended 1003)) (policy 185 86400) 1003 ≡ standings.Exhausted reasons.Attempts

-- a shard that worker 1 took at 100
abbrev pub taken_once : Holder
taken_once = leased untaken 1 1 160

-- that shard after worker 2 took it at 160
abbrev pub taken_twice : Holder
taken_twice = leased taken_once 2 2 220

-- two workers at one shard
pub record Leasing : Type 0 where
  pub first : taking untaken 1 100 ≡ Ok 1
  pub held : taking taken_once 2 159 ≡ Err (record { worker = 1; until = 160 })
  pub free : taking taken_once 2 160 ≡ Ok 2
  pub given_back : taking (freed taken_once) 2 101 ≡ Ok 2
  pub again : taking taken_once 1 101 ≡ Ok 2
  pub renewed : renewing taken_once 1 1 130 ≡ Ok 190
  pub by_another : renewing taken_once 2 1 130 ≡ Err (record { epoch = 1 })
  pub stale : renewing taken_twice 1 1 161 ≡ Err (record { epoch = 2 })
  pub released : releasing taken_twice 2 2 ≡ Ok tt
  pub untaken : releasing untaken 0 0 ≡ Err (record { epoch = 0 })

-- lists of two values, given three times, and an empty one
pub record Giving : Type 0 where
  pub words : told_values (word_at (7 ∷ 8 ∷ [])) 3 ≡ Some (7 ∷ 8 ∷ 0 ∷ [])
  pub readings : told_values (reading_at (100 ∷ 160 ∷ [])) 3 ≡ Some (100 ∷ 160 ∷ 160 ∷ [])
  pub none : told_values (reading_at []) 1 ≡ Some (0 ∷ [])
