-- The keywords of an input, which are replaced by what an attempt knows
-- (EventBridge Scheduler User Guide, "Adding context attributes").
use Rattle.std.specs.Prelude.{ℕ, zero, suc, ◌-◌, nat_eq, Option, Some, None, List, [], ◌∷◌, ◌++◌, length, codes, find}
use Rattle.std.specs.List.{starts_with}
use Rattle.target_link.specs.declared.keyword.Keyword.{Keyword}
use Rattle.target_link.specs.declared.keyword.Keyword.TheVariants.{ScheduleArn, ScheduledTime, ExecutionId, AttemptNumber}

-- how a keyword is spelled
abbrev pub keyword_text : Keyword → List ℕ
keyword_text ScheduleArn = codes "<aws.scheduler.schedule-arn>"
keyword_text ScheduledTime = codes "<aws.scheduler.scheduled-time>"
keyword_text ExecutionId = codes "<aws.scheduler.execution-id>"
keyword_text AttemptNumber = codes "<aws.scheduler.attempt-number>"

-- what an attempt puts in place of its keywords
pub record Known : Type 0 where
  pub arn : List ℕ
  pub time : List ℕ
  pub id : List ℕ
  pub number : List ℕ

-- what is put in place of a keyword
abbrev pub value_of : Known → Keyword → List ℕ
value_of known ScheduleArn = known.arn
value_of known ScheduledTime = known.time
value_of known ExecutionId = known.id
value_of known AttemptNumber = known.number

-- the keyword that a text begins with
abbrev pub keyword_at : List ℕ → Option Keyword
keyword_at text =
    find (λ keyword. starts_with nat_eq text (keyword_text keyword))
    (ScheduleArn ∷ ScheduledTime ∷ ExecutionId ∷ AttemptNumber ∷ [])

-- what is written at a place of a text: the value of the keyword there, or else the byte
abbrev pub written : Known → Option Keyword → ℕ → List ℕ
written known (Some keyword) byte = value_of known keyword
written known None byte = byte ∷ []

-- how many bytes behind the first one belong to the keyword at a place
abbrev pub skipped : Option Keyword → ℕ
skipped (Some keyword) = length (keyword_text keyword) - 1
skipped None = 0

-- A text with its keywords replaced, read once from left to right; what is put in is not read again. The first
-- `skip` bytes belong to a keyword that has been replaced.
abbrev pub replaced_behind : Known → ℕ → List ℕ → List ℕ
replaced_behind known skip [] = []
replaced_behind known (suc skip) (byte ∷ rest) = replaced_behind known skip rest
replaced_behind known zero (byte ∷ rest) =
    written known (keyword_at (byte ∷ rest)) byte
    ++ replaced_behind known (skipped (keyword_at (byte ∷ rest))) rest

-- a text with its keywords replaced
abbrev pub replaced : Known → List ℕ → List ℕ
replaced known text = replaced_behind known 0 text
