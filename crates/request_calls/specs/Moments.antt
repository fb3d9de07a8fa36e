-- What the X-Moment headers of a request tell.
use Rattle.std.specs.Prelude.{ℕ, List, [], ◌∷◌, Option, Some, None, Result, codes}
use Rattle.std.specs.Option.{option_map}
use Rattle.plain_words.specs.declared.limits.TheConstants.{LAST_MOMENT}
use Rattle.http_wire.specs.Digits.{number_within}
use Rattle.sched_calls.specs.declared.reply.Refusal.{Refusal}
use Rattle.sched_calls.specs.Replies.{refusal}
use Rattle.request_fields.specs.Refusals.{or_else_refused}
use Rattle.request_calls.specs.declared.moment.TheConstants.{MOMENT_DIGITS}

-- what headers with these values tell: nothing, or a moment. None where they may not stand so: one is no moment, or
-- there is more than one
abbrev pub stated_by : List (List ℕ) → Option (Option ℕ)
stated_by [] = Some None
stated_by (digits ∷ []) = option_map (λ moment. Some moment) (number_within MOMENT_DIGITS LAST_MOMENT digits)
stated_by (first ∷ second ∷ more) = None

-- the same, or the refusal
abbrev pub moment_of : List (List ℕ) → Result (Option ℕ) Refusal
moment_of values = or_else_refused (refusal 2 400 (codes "X-Moment")) (stated_by values)
