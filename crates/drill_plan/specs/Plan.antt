-- The plan of a drill.
use Rattle.std.specs.Prelude.{ℕ, ◌+◌, ◌*◌, ◌/◌, ◌%◌, ◌^◌, ◌==◌, nat_lt, if◌then◌else◌, List, ◌++◌, codes, decimal}
use Rattle.plain_words.specs.declared.moment.Moment.{Moment}
use Rattle.plain_words.specs.Moments.{moment_of}
use Rattle.drill_plan.specs.declared.schedules.Created.{Created}

-- what a number of at most three digits lacks to five digits
abbrev pub leading_zeros : ℕ → List ℕ
leading_zeros number =
    if nat_lt number 10 then codes "0000" else (if nat_lt number 100 then codes "000" else codes "00")

-- a schedule's name: s and its number in five digits
abbrev pub name_of : ℕ → List ℕ
name_of number = codes "s" ++ leading_zeros number ++ decimal number

-- its expression: of four schedules in turn one has a rate of 1 to 7 minutes, one a cron, one an `at` and one a rate of
-- an hour
abbrev pub expression_of : ℕ → List ℕ
expression_of number =
    if number % 4 == 0 then codes "rate(" ++ decimal (number % 7 + 1) ++ codes " minutes)"
    else (if number % 4 == 1 then codes "cron(0/15 * * * ? *)"
    else (if number % 4 == 2 then codes "at(1970-01-01T0" ++ decimal (number % 10) ++ codes ":00:00)"
    else codes "rate(1 hours)"))

-- its window in minutes, which the rates of an hour alone have
abbrev pub window_of : ℕ → ℕ
window_of number = if number % 4 == 3 then 10 else 0

-- the schedule of a number
abbrev pub schedule_of : ℕ → Created
schedule_of number = record { name = name_of number; expression = expression_of number; window = window_of number }

-- a minute goes by from one sweep to the next
abbrev pub sweep_moment : ℕ → Moment
sweep_moment sweep = moment_of (60 * sweep)

-- what the target answers: a retry is asked for where the sum of incarnation, minute and attempt is a multiple of 5
abbrev pub status_of : ℕ → ℕ → ℕ → ℕ
status_of inc instant number = if (inc + instant / 60 + number) % 5 == 0 then 503 else 200

-- the words that choose within windows
abbrev pub window_word : ℕ → ℕ
window_word place = 37 * place % 2 ^ 64
