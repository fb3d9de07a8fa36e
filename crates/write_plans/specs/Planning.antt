-- What is to be done with a write at a moment, read off a history.
use Rattle.std.specs.Prelude.{◌≡◌, ◌≢◌, ◌⊎◌, ℕ, Bool, not, Option, Some, None, List, [], ◌∷◌, unwrap_or}
use Rattle.std.specs.List.{find}
use Rattle.std.specs.Option.{option_map}
use Rattle.plain_words.specs.Lists.{first_some, nth, some_pass}
use Rattle.plain_words.specs.Moments.{moment_of}
use Rattle.expressions.specs.Calendar.{Calendar}
use Rattle.sched_plain.specs.declared.step.Step.{Step}
use Rattle.sched_plain.specs.declared.step.Step.TheVariants as steps
use Rattle.sched_plain.specs.declared.why.RowFault.{RowFault}
use Rattle.sched_plain.specs.declared.write.Write.{Write}
use Rattle.sched_plain.specs.History.{History}
use Rattle.sched_plain.specs.Changes.{changes_of}
use Rattle.sched_plain.specs.Rows.{rows_of, touched_by, touches, deed_of}
use Rattle.sched_plain.specs.Marks.{unentered}
use Rattle.sched_plain.specs.Tokens.{Kept}
use Rattle.sched_plain.specs.Work.{is_empty}
use Rattle.sched_calls.specs.Replies.{reply_to, row_refusal, token_refusal}
use Rattle.sched_calls.specs.Serves.{kept_for, fault_of, needed_zone}
use Rattle.write_plans.specs.declared.plan.Plan.{Plan}
use Rattle.write_plans.specs.declared.plan.Plan.TheVariants as plans

-- an incarnation is behind at a moment: it has an occurrence up to it without an entry
abbrev pub is_behind : Calendar → History → ℕ → ℕ → Bool
is_behind c h t inc = not (is_empty (unentered c h inc t))

-- the incarnations that a write touches, rising
abbrev pub touched : History → Write → List ℕ
touched h write = touched_by (rows_of (changes_of h)) write

-- a write touches an incarnation
abbrev pub is_touched : History → Write → ℕ → Bool
is_touched h write inc = some_pass (λ row. touches (deed_of write row)) (nth (rows_of (changes_of h)) inc)

-- the least of them that is behind
abbrev pub first_behind : Calendar → History → ℕ → Write → Option ℕ
first_behind c h t write = find (is_behind c h t) (touched h write)

-- the Change of a write at a moment
abbrev pub change_at : ℕ → Write → Step
change_at t write = steps.Change (moment_of t) write

-- what may stand in the way of a write whose token is new: its fault over the schedules and groups, then the zone that it
-- needs, then an incarnation behind
abbrev pub hurdles : Write → Option RowFault → Option (List ℕ) → Option ℕ → List (Option Plan)
hurdles write fault zone behind =
    option_map (λ f. plans.Refused (row_refusal write f)) fault ∷ option_map plans.NeedsZone zone ∷ option_map plans.CatchUp behind ∷ []

-- its plan: the first of these that is there, else its Change
abbrev pub plan_by : ℕ → Write → Option RowFault → Option (List ℕ) → Option ℕ → Plan
plan_by t write fault zone behind = unwrap_or (first_some (hurdles write fault zone behind)) (plans.Ready (change_at t write))

abbrev pub plan_of_new : Calendar → History → ℕ → Write → Plan
plan_of_new c h t write = plan_by t write (fault_of h write) (needed_zone h write) (first_behind c h t write)

-- the plan of a write whose token is kept: the first reply where the same write kept it, else a refusal that names the step
abbrev pub IsPlanOfKept : Kept → Write → Plan → Type 0
IsPlanOfKept kept write plan =
    ((kept.write ≡ write) × (plan ≡ plans.Known (reply_to write)))
    ⊎ ((kept.write ≢ write) × (plan ≡ plans.Refused (token_refusal kept.place)))

-- the plan of a write, by what kept its token, if anything did
abbrev pub IsPlannedBy : Calendar → History → ℕ → Write → Option Kept → Plan → Type 0
IsPlannedBy c h t write None plan = plan ≡ plan_of_new c h t write
IsPlannedBy c h t write (Some kept) plan = IsPlanOfKept kept write plan

abbrev pub IsPlanned : Calendar → History → ℕ → Write → Plan → Type 0
IsPlanned c h t write plan = IsPlannedBy c h t write (kept_for h write) plan
