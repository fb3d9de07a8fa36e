-- Where an entry stands at a moment.
use Rattle.std.specs.Prelude.{ℕ, ◌+◌, ◌-◌, ◌^◌, min, nat_le, nat_lt, Bool, ◌||◌, Option, Some, None, List, [], ◌∷◌}
use Rattle.std.specs.Option.{option_map}
use Rattle.sched_plain.specs.declared.entry.Entry.{Entry}
use Rattle.sched_plain.specs.declared.entry.Filed.{Filed}
use Rattle.sched_plain.specs.declared.entry.Last.{Last}
use Rattle.sched_plain.specs.declared.entry.Last.TheVariants as lasts
use Rattle.sched_plain.specs.declared.schedule.Policy.{Policy}
use Rattle.sched_plain.specs.declared.standing.Standing.{Standing}
use Rattle.sched_plain.specs.declared.standing.Standing.TheVariants as standings
use Rattle.sched_plain.specs.declared.outcome.Reason.TheVariants as reasons
use Rattle.plain_words.specs.Lists.{first_some, when}
use Rattle.sched_plain.specs.Attempts.{is_live_last}

-- how long to wait after the n-th attempt, in seconds: doubled each time, at most a quarter of an hour
abbrev pub delay : ℕ → ℕ
delay n = min (2 ^ (n - 1)) 900

-- the earliest moment of the next attempt
abbrev pub earliest_after : Entry → Last → ℕ
earliest_after entry lasts.NoAttempt = entry.chosen
earliest_after entry (lasts.Live at) = at + delay entry.used
earliest_after entry (lasts.Lost at) = at + delay entry.used
earliest_after entry (lasts.Ended at) = at + delay entry.used

abbrev pub earliest : Entry → ℕ
earliest entry = earliest_after entry entry.last

-- as many attempts as the policy allows were begun
abbrev pub is_used_up : Entry → Policy → Bool
is_used_up entry policy = nat_le (1 + policy.retries) entry.used

-- this moment, or the earliest moment of the next attempt, is past the age
abbrev pub is_past_age : Entry → Policy → ℕ → Bool
is_past_age entry policy now =
    nat_lt (entry.chosen + policy.age) now || nat_lt (entry.chosen + policy.age) (earliest entry)

-- the first standing that holds; an entry of which none does is due
abbrev pub standing_table : Entry → Policy → ℕ → List (Option Standing)
standing_table entry policy now =
    option_map standings.Decided entry.outcome
    ∷ when (is_live_last entry.last) standings.Live
    ∷ when (is_used_up entry policy) (standings.Exhausted reasons.Attempts)
    ∷ when (is_past_age entry policy now) (standings.Exhausted reasons.Age)
    ∷ when (nat_lt now (earliest entry)) (standings.Waiting (earliest entry))
    ∷ []

abbrev pub or_due : Option Standing → Standing
or_due None = standings.Due
or_due (Some standing) = standing

-- the standing of an entry under its policy at a moment
abbrev pub standing : Entry → Policy → ℕ → Standing
standing entry policy now = or_due (first_some (standing_table entry policy now))

-- the standing of what is filed
abbrev pub standing_of : Filed → ℕ → Standing
standing_of filed now = standing filed.entry filed.policy now
