-- Members that no table of fields has: the first of them, outer objects before inner ones. A JSON object (RFC 8259) that was
-- read has its members in the order of their bytes.
use Rattle.std.specs.Prelude.{⊤, ℕ, Bool, if◌then◌else◌, Option, Some, None, Result, Ok, Err, List, [], ◌∷◌, ◌++◌, codes}
use Rattle.std.specs.List.{list_any}
use Rattle.std.specs.Option.{option_and_then}
use Rattle.std.specs.Str.{bytes_eq}
use Rattle.serde_json.specs.Data.{Data, Members, no_members, member}
use Rattle.serde_json.specs.Find.{get, as_object}
use Rattle.plain_words.specs.Lists.{first_some}
use Rattle.sched_calls.specs.declared.reply.Refusal.{Refusal}
use Rattle.sched_calls.specs.Replies.{refusal}
use Rattle.request_fields.specs.declared.part.Part.{Part}
use Rattle.request_fields.specs.declared.part.Part.TheVariants as parts

-- the members of each object
abbrev pub members_of : Part → List (List ℕ)
members_of parts.Schedule =
    codes "ActionAfterCompletion" ∷ codes "ClientToken" ∷ codes "Description" ∷ codes "EndDate" ∷ codes "FlexibleTimeWindow"
    ∷ codes "GroupName" ∷ codes "ScheduleExpression" ∷ codes "ScheduleExpressionTimezone" ∷ codes "StartDate" ∷ codes "State"
    ∷ codes "Target" ∷ []
members_of parts.Window = codes "MaximumWindowInMinutes" ∷ codes "Mode" ∷ []
members_of parts.Target = codes "Arn" ∷ codes "DeadLetterConfig" ∷ codes "Input" ∷ codes "RetryPolicy" ∷ codes "RoleArn" ∷ []
members_of parts.DeadLetters = codes "Arn" ∷ []
members_of parts.Retries = codes "MaximumEventAgeInSeconds" ∷ codes "MaximumRetryAttempts" ∷ []
members_of parts.Group = codes "ClientToken" ∷ []

-- the path of each object
abbrev pub prefix_of : Part → List ℕ
prefix_of parts.Schedule = []
prefix_of parts.Window = codes "FlexibleTimeWindow."
prefix_of parts.Target = codes "Target."
prefix_of parts.DeadLetters = codes "Target.DeadLetterConfig."
prefix_of parts.Retries = codes "Target.RetryPolicy."
prefix_of parts.Group = []

-- one of these names
abbrev pub is_among : List ℕ → List (List ℕ) → Bool
is_among name names = list_any (λ known. bytes_eq name known) names

-- the first member that is not one of the object's, with the object
abbrev pub first_unknown : Part → Members → Option (Part × List ℕ)
first_unknown part no_members = None
first_unknown part (member name d more) =
    if is_among name (members_of part) then first_unknown part more else Some (part, name)

-- the same of what is given there; what is no object has none
abbrev pub unknown_in : Part → Option Data → Option (Part × List ℕ)
unknown_in part here = option_and_then (first_unknown part) (option_and_then as_object here)

-- the same of the objects in a target
abbrev pub unknown_below : Option Data → Option (Part × List ℕ)
unknown_below target = first_some (
    unknown_in parts.DeadLetters (option_and_then (get (codes "DeadLetterConfig")) target)
    ∷ unknown_in parts.Retries (option_and_then (get (codes "RetryPolicy")) target) ∷ [])

-- the same of a schedule's body and the objects in it
abbrev pub unknown_of_schedule : Data → Option (Part × List ℕ)
unknown_of_schedule body = first_some (
    unknown_in parts.Schedule (Some body)
    ∷ unknown_in parts.Window (get (codes "FlexibleTimeWindow") body)
    ∷ unknown_in parts.Target (get (codes "Target") body)
    ∷ unknown_below (get (codes "Target") body) ∷ [])

-- the path of a member
abbrev pub path_of : Part × List ℕ → List ℕ
path_of place = prefix_of place.0 ++ place.1

-- no member is unknown, or the first is refused
abbrev pub unless_unknown : Option (Part × List ℕ) → Result ⊤ Refusal
unless_unknown None = Ok tt
unless_unknown (Some place) = Err (refusal 6 400 (path_of place))
