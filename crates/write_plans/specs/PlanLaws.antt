-- What follows from a plan: which step may follow, and how the write is served.
use Rattle.std.specs.Prelude.{◌≡◌, ◌≢◌, ◌⊎◌, ◌↔◌, ◌≤◌, ℕ, ◌&&◌, true, Some, None, Result, Ok, Err, List}
use Rattle.plain_words.specs.Moments.{moment_of}
use Rattle.expressions.specs.Calendar.{Calendar}
use Rattle.sched_plain.specs.declared.step.Step.{Step}
use Rattle.sched_plain.specs.declared.step.Step.TheVariants as steps
use Rattle.sched_plain.specs.declared.why.RowFault.{RowFault}
use Rattle.sched_plain.specs.declared.write.Write.{Write}
use Rattle.sched_plain.specs.History.{History, ◌upon◌}
use Rattle.sched_plain.specs.Moments.{moment}
use Rattle.next_dates.specs.Dates.{IsLeast}
use Rattle.sched_plain.specs.Rules.{moment_rule}
use Rattle.sched_plain.specs.Tokens.{Kept}
use Rattle.sched_plain.specs.Legal.{why, MayFollow}
use Rattle.sched_calls.specs.declared.reply.Refusal.{Refusal}
use Rattle.sched_calls.specs.declared.reply.Reply.{Reply}
use Rattle.sched_calls.specs.Replies.{reply_to, row_refusal, token_refusal, zone_refusal}
use Rattle.sched_calls.specs.Serves.{Accepts, Clashes, Faults, LacksZone, Repeats, ZoneSource, fault_of, is_zone, kept_for, lacks_zone, needed_zone, wanted_enter, words_left}
use Rattle.write_plans.specs.declared.plan.Plan.{Plan}
use Rattle.write_plans.specs.declared.plan.Plan.TheVariants as plans
use Rattle.write_plans.specs.Planning.{IsPlanned, change_at, first_behind, is_behind, is_touched}

-- a write has one plan at a moment
abbrev pub OnePlan : Type 0
OnePlan = (c : Calendar) (h : History) (t : ℕ) (write : Write) (plan other : Plan) → IsPlanned c h t write plan → IsPlanned c h t write other → plan ≡ other

-- no rule stops a write: its token is new, and the schedules and groups allow it
pub record IsAllowed (h : History) (write : Write) : Type 0 where
  pub new : kept_for h write ≡ None
  pub allowed : fault_of h write ≡ None

-- the same write kept its token
abbrev pub IsRepeated : History → Write → Type 0
IsRepeated h write = (kept : Kept) × (kept_for h write ≡ Some kept) × (kept.write ≡ write)

-- another write kept its token, and the refusal names that step
abbrev pub IsClash : History → Write → Refusal → Type 0
IsClash h write refusal = (kept : Kept) × (kept_for h write ≡ Some kept) × (kept.write ≢ write) × (refusal ≡ token_refusal kept.place)

-- its token is new, and the refusal is that of its first fault over the schedules and groups
abbrev pub IsFaulty : History → Write → Refusal → Type 0
IsFaulty h write refusal = (fault : RowFault) × (kept_for h write ≡ None) × (fault_of h write ≡ Some fault) × (refusal ≡ row_refusal write fault)

-- each plan is that of a write just where it has its cause
pub record HasCauses (c : Calendar) (h : History) (t : ℕ) (write : Write) (plan : Plan) : Type 0 where
  pub known : (plan ≡ plans.Known (reply_to write)) ↔ IsRepeated h write
  pub refused : (refusal : Refusal) → (plan ≡ plans.Refused refusal) ↔ (IsClash h write refusal ⊎ IsFaulty h write refusal)
  pub needs_zone : (zone : List ℕ) → (plan ≡ plans.NeedsZone zone) ↔ (IsAllowed h write × (needed_zone h write ≡ Some zone))
  pub catches_up : (inc : ℕ) → (plan ≡ plans.CatchUp inc)
      ↔ (IsAllowed h write × (needed_zone h write ≡ None) × (first_behind c h t write ≡ Some inc))
  pub ready : (plan ≡ plans.Ready (change_at t write)) ↔ (IsAllowed h write × (needed_zone h write ≡ None) × (first_behind c h t write ≡ None))

abbrev pub EachHasItsCause : Type 0
EachHasItsCause = (c : Calendar) (h : History) (t : ℕ) (write : Write) (plan : Plan) → IsPlanned c h t write plan → HasCauses c h t write plan

-- where a step is ready it is the Change at the moment, which breaks no rule but that of moments
abbrev pub ReadyFollows : Type 0
ReadyFollows =
    (c : Calendar) (h : History) (t : ℕ) (write : Write) (step : Step) → IsPlanned c h t write (plans.Ready step)
    → (step ≡ change_at t write) × (why c h step ≡ moment_rule (moment h) step)

-- so it may follow from the history's moment on, and where the Change may follow it is ready
abbrev pub ReadyWhereItMay : Type 0
ReadyWhereItMay =
    (c : Calendar) (h : History) (t : ℕ) (write : Write) (plan : Plan) → IsPlanned c h t write plan
    → (moment h ≤ t → plan ≡ plans.Ready (change_at t write) → MayFollow c h (change_at t write))
    × (MayFollow c h (change_at t write) → plan ≡ plans.Ready (change_at t write))

-- an incarnation that is to catch up is the least that the write touches and that is behind
abbrev pub CatchesUpLeast : Type 0
CatchesUpLeast =
    (c : Calendar) (h : History) (t : ℕ) (write : Write) (inc : ℕ) → IsPlanned c h t write (plans.CatchUp inc)
    → IsLeast (λ i. is_touched h write i && is_behind c h t i) (Some inc)

-- a write that was answered before is served by its first reply, and one that breaks a rule by its refusal
abbrev pub KnownRepeats : Type 0
KnownRepeats =
    (c : Calendar) (h : History) (t : ℕ) (write : Write) (reply : Reply) → IsPlanned c h t write (plans.Known reply) → Repeats h write h (Ok reply)

abbrev pub RefusedIsServed : Type 0
RefusedIsServed =
    (c : Calendar) (h : History) (t : ℕ) (write : Write) (refusal : Refusal) → IsPlanned c h t write (plans.Refused refusal)
    → Clashes h write h (Err refusal) ⊎ Faults h write h (Err refusal)

-- where the zone that is needed cannot be had, it is served by that refusal
abbrev pub LackingIsServed : Type 0
LackingIsServed =
    (c : Calendar) (h : History) (t : ℕ) (write : Write) (zone : List ℕ) → IsPlanned c h t write (plans.NeedsZone zone)
    → (source : ZoneSource) → lacks_zone c source (Some zone) ≡ true → LacksZone c source h write h (Err zone_refusal)

-- where it can be had, the write is accepted as it is behind the Zone step
abbrev pub ZonedIsAccepted : Type 0
ZonedIsAccepted =
    (c : Calendar) (h : History) (t : ℕ) (write : Write) (zone bytes : List ℕ) → IsPlanned c h t write (plans.NeedsZone zone)
    → (source : ZoneSource) → source zone ≡ Some bytes → is_zone c bytes ≡ true
    → (words left : List ℕ) (after : History) (answer : Result Reply Refusal)
    → Accepts c source t (steps.Zone (moment_of t) zone bytes upon h) write words after left answer
    → Accepts c source t h write words after left answer

-- where an incarnation is to catch up, the write is accepted as it is behind the Enter that is wanted for it
abbrev pub EnteredIsAccepted : Type 0
EnteredIsAccepted =
    (c : Calendar) (h : History) (t : ℕ) (write : Write) (inc : ℕ) → IsPlanned c h t write (plans.CatchUp inc)
    → (source : ZoneSource) (words left : List ℕ) (after : History) (answer : Result Reply Refusal)
    → Accepts c source t (wanted_enter c h inc t words upon h) write (words_left c h inc t words) after left answer
    → Accepts c source t h write words after left answer

-- where the Change is ready, the write is accepted by it
abbrev pub ReadyIsAccepted : Type 0
ReadyIsAccepted =
    (c : Calendar) (h : History) (t : ℕ) (write : Write) (step : Step) → IsPlanned c h t write (plans.Ready step)
    → (source : ZoneSource) (words : List ℕ) → Accepts c source t h write words (step upon h) words (Ok (reply_to write))
