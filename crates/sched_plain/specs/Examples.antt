-- Histories written out, on which the definitions are tried.
use Rattle.std.specs.Prelude.{ℕ, ◌+◌, ◌*◌, ◌-◌, ◌/◌, ◌%◌, ◌==◌, nat_le, Bool, true, false, ◌&&◌, Option, Some, None, List, [], ◌∷◌, ◌++◌, map, codes}
use Rattle.std.specs.List.{flat_map}
use Rattle.expressions.specs.declared.expression.Expr.{Expr}
use Rattle.expressions.specs.declared.expression.Expr.TheVariants as exprs
use Rattle.expressions.specs.declared.expression.Unit.{Unit as RateUnit}
use Rattle.expressions.specs.declared.expression.Unit.TheVariants as units
use Rattle.sched_plain.specs.declared.schedule.Schedule.{Schedule}
use Rattle.sched_plain.specs.declared.step.Step.{Step}
use Rattle.sched_plain.specs.declared.step.Step.TheVariants as steps
use Rattle.sched_plain.specs.declared.outcome.Reason.TheVariants as reasons
use Rattle.plain_words.specs.declared.verdict.Verdict.{Verdict}
use Rattle.plain_words.specs.declared.verdict.Verdict.TheVariants as verdicts
use Rattle.sched_plain.specs.declared.write.Write.TheVariants as writes
use Rattle.sched_plain.specs.History.{History, beginning, ◌upon◌, grown}
use Rattle.plain_words.specs.Lists.{numbers}
use Rattle.plain_words.specs.Moments.{moment_of}
use Rattle.expressions.specs.CivilSeconds.{second_of_day}
use Rattle.expressions.specs.Calendar.{Calendar}
use Rattle.sched_plain.specs.Groups.{default_name}

-- the seconds of a unit
abbrev pub seconds_of : RateUnit → ℕ
seconds_of units.Minute = 60
seconds_of units.Hour = 3600
seconds_of units.Day = 86400

-- the instants of 1 January 1970 in UTC: those of an `at`, and of a rate
abbrev pub first_day_at : Expr → Option (List ℕ) → ℕ → ℕ → Bool
first_day_at (exprs.At civil) None anchor instant = instant == second_of_day civil
first_day_at (exprs.Rate count unit) None anchor instant =
    nat_le anchor instant && ((instant - anchor) % (count * seconds_of unit) == 0)
first_day_at expr bytes anchor instant = false

-- a calendar that is right on 1 January 1970
abbrev pub first_day : Calendar
first_day = record { readable = λ bytes. false; at = first_day_at }

-- the schedule `at(1970-01-01T00:16:40)` with no retries
abbrev pub once : Schedule
once =
    record {
      description = [];
      text = codes "at(1970-01-01T00:16:40)";
      expr = exprs.At (record { year = 1970; month = 1; day = 1; hour = 0; minute = 16; second = 40 });
      zone = codes "UTC";
      start = None;
      finish = None;
      enabled = true;
      delete_after = false;
      window = 0;
      policy = record { retries = 0; age = 86400 };
      target = codes "http://127.0.0.1:9000/hook";
      role = codes "r";
      queue = None;
      input = None;
    }

-- it is created under the name `once`
abbrev pub creation : ℕ → Schedule → Step
creation at content = steps.Change (moment_of at) (writes.CreateSchedule default_name (codes "once") None content)

-- worker 0 takes a shard at a moment, with this epoch
abbrev pub taking : ℕ → ℕ → ℕ → Step
taking at shard epoch = steps.Lease (moment_of at) shard 0 epoch (at + 60)

-- it has nothing more to do, and gives it back
abbrev pub swept_and_released : ℕ → ℕ → ℕ → List Step
swept_and_released at shard epoch = steps.Swept (moment_of at) shard ∷ steps.Release (moment_of at) shard 0 epoch ∷ []

-- a sweep of one shard, which has this to do
abbrev pub shard_swept : ℕ → ℕ → ℕ → List Step → List Step
shard_swept at shard epoch todo = taking at shard epoch ∷ todo ++ swept_and_released at shard epoch

-- a sweep of all eight shards, of which shard 1 has this to do
abbrev pub all_swept : ℕ → ℕ → List Step → List Step
all_swept at epoch todo =
    shard_swept at 0 epoch [] ++ shard_swept at 1 epoch todo
    ++ flat_map (λ shard. shard_swept at shard epoch []) (2 ∷ 3 ∷ 4 ∷ 5 ∷ 6 ∷ 7 ∷ [])

-- an attempt of incarnation 1 begun and ended at one moment
abbrev pub attempted : ℕ → ℕ → ℕ → ℕ → Verdict → ℕ → List Step
attempted at instant number epoch verdict status =
    steps.Begin (moment_of at) 1 instant number epoch ∷ steps.End (moment_of at) 1 instant number verdict status ∷ []

-- its one occurrence entered, chosen at once
abbrev pub entered : ℕ → Step
entered at = steps.Enter (moment_of at) 1 (record { instant = 1000; chosen = 1000 } ∷ [])

-- a Boot at 0 and the creation at 900
abbrev pub created : Schedule → History
created content = creation 900 content upon steps.Boot (moment_of 0) upon beginning

-- the sweep at 1000 after it, whose one attempt the target took: 29 steps in all
abbrev pub first_sweep : History
first_sweep = grown (created once) (all_swept 1000 1 (entered 1000 ∷ attempted 1000 1000 1 1 verdicts.Done 200))

-- the same schedule with a window of 15 minutes
abbrev pub windowed : Schedule
windowed = record once { window = 15 }

-- created at 900, and its occurrence entered by the sweep at 1000 with the word 901: chosen 1001, so nothing is begun
abbrev pub windowed_sweep : History
windowed_sweep =
    grown (created windowed) (all_swept 1000 1 (steps.Enter (moment_of 1000) 1 (record { instant = 1000; chosen = 1001 } ∷ []) ∷ []))

-- the sweep at 1001 begins it
abbrev pub windowed_again : History
windowed_again = grown windowed_sweep (all_swept 1001 2 (attempted 1001 1000 1 2 verdicts.Done 200))

-- the name of a queue
abbrev pub dead_queue : List ℕ
dead_queue = codes "arn:aws:sqs:local:000000000000:dead"

-- the same schedule with two retries and a queue
abbrev pub retried : Schedule
retried = record once { policy = record { retries = 2; age = 86400 }; queue = Some dead_queue }

-- the attempt of this number is lost by the link, under an epoch of the same number
abbrev pub lost_attempt : ℕ → ℕ → List Step
lost_attempt at number = attempted at 1000 number number verdicts.Retry 0

-- swept at 1000, then at 1001 by a link that loses every request
abbrev pub retried_twice : History
retried_twice = grown (grown (created retried) (all_swept 1000 1 (entered 1000 ∷ lost_attempt 1000 1))) (all_swept 1001 2 (lost_attempt 1001 2))

-- the third attempt at 1003 is the last, so the entry is closed
abbrev pub retried_out : History
retried_out = grown retried_twice (all_swept 1003 3 (lost_attempt 1003 3 ++ steps.Close (moment_of 1003) 1 1000 reasons.Attempts ∷ []))

-- the same schedule with as many retries as there may be and the least age
abbrev pub aged : Schedule
aged = record once { policy = record { retries = 185; age = 60 }; queue = Some dead_queue }

-- five sweeps in which the link loses the attempt
abbrev pub aged_five : History
aged_five =
    grown (created aged)
    (all_swept 1000 1 (entered 1000 ∷ lost_attempt 1000 1) ++ all_swept 1001 2 (lost_attempt 1001 2)
    ++ all_swept 1003 3 (lost_attempt 1003 3) ++ all_swept 1007 4 (lost_attempt 1007 4) ++ all_swept 1015 5 (lost_attempt 1015 5))

-- the sixth attempt at 1031 is lost, the seventh would be too late: the entry is closed
abbrev pub aged_out : History
aged_out = grown aged_five (all_swept 1031 6 (lost_attempt 1031 6 ++ steps.Close (moment_of 1031) 1 1000 reasons.Age ∷ []))

-- in the middle of the first sweep: shard 1 taken, the occurrence entered, nothing begun
abbrev pub at_work : List Step → History
at_work more = grown (created once) (shard_swept 1000 0 1 [] ++ taking 1000 1 1 ∷ more)

-- the schedule deleted, and created again under its name
abbrev pub deletion : ℕ → Step
deletion at = steps.Change (moment_of at) (writes.DeleteSchedule default_name (codes "once") None)

abbrev pub created_again : History
created_again = creation 950 once upon deletion 950 upon created once

-- its creation with a client token
abbrev pub creation_with : List ℕ → ℕ → Schedule → Step
creation_with token at content = steps.Change (moment_of at) (writes.CreateSchedule default_name (codes "once") (Some token) content)

-- its update
abbrev pub update : ℕ → Schedule → Step
update at content = steps.Change (moment_of at) (writes.UpdateSchedule default_name (codes "once") None content)

-- its creation in another group
abbrev pub creation_in : List ℕ → ℕ → Schedule → Step
creation_in group at content = steps.Change (moment_of at) (writes.CreateSchedule group (codes "once") None content)

-- the same schedule each hour from its creation on
abbrev pub hourly : Schedule
hourly = record once { text = codes "rate(1 hours)"; expr = exprs.Rate 1 units.Hour; policy = record { retries = 0; age = 3600 } }

-- created at 1000 and updated at 1000: the update needs the entry at 1000 first, and covers from 1001 on
abbrev pub updated : History
updated =
    update 1000 hourly
    upon steps.Enter (moment_of 1000) 1 (record { instant = 1000; chosen = 1000 } ∷ [])
    upon creation 1000 hourly upon steps.Boot (moment_of 0) upon beginning

-- created at 0 and first looked at four hours later
abbrev pub late : History
late = taking 14400 1 1 upon creation 0 hourly upon steps.Boot (moment_of 0) upon beginning

-- the same schedule, removed once it has nothing left to do
abbrev pub passing_by : Schedule
passing_by = record once { delete_after = true }

-- created at 900, and its one occurrence sent by the sweep at 1000: shard 1 has nothing left to do but to remove it
abbrev pub finished : History
finished =
    grown (created passing_by)
    (shard_swept 1000 0 1 [] ++ taking 1000 1 1 ∷ entered 1000 ∷ attempted 1000 1000 1 1 verdicts.Done 200)

abbrev pub removed : History
removed = steps.Complete (moment_of 1000) 1 upon finished

-- deleted while its one entry waits for its first attempt
abbrev pub deleted_at_work : History
deleted_at_work = deletion 1000 upon at_work (entered 1000 ∷ [])

-- the calendar of 1 January 1970 in which any bytes are a zone
abbrev pub any_zone : Calendar
any_zone = record { readable = λ bytes. true; at = first_day_at }

-- the same schedule in the zone `Office`, whose bytes are told by a Zone step before its creation
abbrev pub at_the_office : Schedule
at_the_office = record once { zone = codes "Office" }

abbrev pub created_at_the_office : History
created_at_the_office =
    creation 900 at_the_office upon steps.Zone (moment_of 900) (codes "Office") (codes "x") upon steps.Boot (moment_of 0) upon beginning

-- a group of this name created at 0
abbrev pub group_created : List ℕ → Step
group_created name = steps.Change (moment_of 0) (writes.CreateGroup name None)

-- the name of the nth of many groups: its three digits
abbrev pub nth_name : ℕ → List ℕ
nth_name n = (48 + n / 100) ∷ (48 + n / 10 % 10) ∷ (48 + n % 10) ∷ []

-- as many groups as there may be, `default` among them
abbrev pub all_groups : History
all_groups = grown beginning (map (λ n. group_created (nth_name n)) (numbers 1 499))
