-- When a step is valid: each field keeps its limits. Nothing here looks at what came before.
use Rattle.std.specs.Prelude.{◌≡◌, ◌⊎◌, ℕ, ◌+◌, ◌*◌, ◌^◌, ◌<◌, ◌≤◌, nat_le, nat_lt, true, not, ◌&&◌, List, length, Option, Some, None}
use Rattle.std.specs.List.{filter, All}
use Rattle.std.specs.Str.{is_utf8}
use Rattle.sched_plain.specs.declared.schedule.Schedule.{Schedule}
use Rattle.sched_plain.specs.declared.write.Write.{Write}
use Rattle.sched_plain.specs.declared.write.Write.TheVariants as writes
use Rattle.sched_plain.specs.declared.step.Pair.{Pair}
use Rattle.sched_plain.specs.declared.step.Step.{Step}
use Rattle.sched_plain.specs.declared.step.Step.TheVariants as steps
use Rattle.plain_words.specs.Words.{name_fault, token_fault, zone_name_fault}
use Rattle.sched_plain.specs.History.{History, beginning, based, ◌upon◌}
use Rattle.plain_words.specs.Moments.{last_moment}
use Rattle.expressions.specs.Spelling.{Spells}
use Rattle.plain_words.specs.declared.limits.TheConstants.{LONGEST_DESCRIPTION, LONGEST_EXPRESSION, LONGEST_ARN, LONGEST_INPUT, LONGEST_WINDOW, LONGEST_ZONE, MOST_RETRIES, LEAST_AGE, LONGEST_AGE, MOST_PAIRS, SHARDS, LEASE_SECONDS}

-- how many characters a text in UTF-8 has: its bytes but for those that continue a character
abbrev pub character_count : List ℕ → ℕ
character_count text = length (filter (λ b. not (nat_le 128 b && nat_lt b 192)) text)

-- a text of so many characters, in UTF-8
pub record IsText (least most : ℕ) (text : List ℕ) : Type 0 where
  pub utf8 : is_utf8 text ≡ true
  pub long : least ≤ character_count text
  pub short : character_count text ≤ most

-- the fact holds of what is there, if anything is
abbrev pub IfThere : {A : Type 0} → (A → Type 0) → Option A → Type 0
IfThere P None = Unit {0}
IfThere P (Some x) = P x

-- text that a target is sent, in UTF-8 and not empty
pub record IsInput (text : List ℕ) : Type 0 where
  pub utf8 : is_utf8 text ≡ true
  pub long : 1 ≤ length text
  pub short : length text ≤ LONGEST_INPUT

-- a content within its limits, whose text spells its expression
pub record IsContent (content : Schedule) : Type 0 where
  pub description : IsText 0 LONGEST_DESCRIPTION content.description
  pub text : IsText 1 LONGEST_EXPRESSION content.text
  pub expression : Spells content.text content.expr
  pub zone : zone_name_fault content.zone ≡ None
  pub start : IfThere (λ i. i ≤ last_moment) content.start
  pub finish : IfThere (λ i. i ≤ last_moment) content.finish
  pub window : content.window ≤ LONGEST_WINDOW
  pub retries : content.policy.retries ≤ MOST_RETRIES
  pub least_age : LEAST_AGE ≤ content.policy.age
  pub longest_age : content.policy.age ≤ LONGEST_AGE
  pub target : IsText 1 LONGEST_ARN content.target
  pub role : IsText 1 LONGEST_ARN content.role
  pub queue : IfThere (IsText 1 LONGEST_ARN) content.queue
  pub input : IfThere IsInput content.input

-- the name of a schedule or a group
abbrev pub IsName : List ℕ → Type 0
IsName name = name_fault name ≡ None

-- a client token, or none
abbrev pub IsToken : Option (List ℕ) → Type 0
IsToken token = IfThere (λ t. token_fault t ≡ None) token

-- a write whose names, token and content are within their limits
abbrev pub IsWrite : Write → Type 0
IsWrite (writes.CreateSchedule group name token content) = IsName group × IsName name × IsToken token × IsContent content
IsWrite (writes.UpdateSchedule group name token content) = IsName group × IsName name × IsToken token × IsContent content
IsWrite (writes.DeleteSchedule group name token) = IsName group × IsName name × IsToken token
IsWrite (writes.CreateGroup name token) = IsName name × IsToken token
IsWrite (writes.DeleteGroup name token) = IsName name × IsToken token

-- a moment
abbrev pub IsMoment : ℕ → Type 0
IsMoment n = n ≤ last_moment

-- the number of an incarnation, from 1
abbrev pub IsIncarnation : ℕ → Type 0
IsIncarnation inc = (1 ≤ inc) × (inc < 2 ^ 32)

-- the number of an attempt, from 1
abbrev pub IsNumber : ℕ → Type 0
IsNumber number = (1 ≤ number) × (number < 2 ^ 16)

-- an instant with the moment chosen for it, which lies within the longest window behind it
pub record IsPair (pair : Pair) : Type 0 where
  pub instant : pair.instant ≤ last_moment
  pub early : pair.instant ≤ pair.chosen
  pub late : pair.chosen < pair.instant + 60 * LONGEST_WINDOW

-- a shard, of the eight
abbrev pub IsShard : ℕ → Type 0
IsShard shard = shard < SHARDS

-- a status: 0 for none, or 100 to 999
abbrev pub IsStatus : ℕ → Type 0
IsStatus status = (status ≡ 0) ⊎ ((100 ≤ status) × (status ≤ 999))

-- the step is valid
abbrev pub IsValid : Step → Type 0
IsValid (steps.Boot at) = IsMoment at.0
IsValid (steps.Zone at name bytes) = IsMoment at.0 × (zone_name_fault name ≡ None) × (length bytes ≤ LONGEST_ZONE)
IsValid (steps.Change at write) = IsMoment at.0 × IsWrite write
IsValid (steps.Enter at inc pairs) = IsMoment at.0 × IsIncarnation inc × (1 ≤ length pairs) × (length pairs ≤ MOST_PAIRS) × All IsPair pairs
IsValid (steps.Lease at shard worker epoch until) = IsMoment at.0 × IsShard shard × (worker < 2 ^ 32) × (epoch < 2 ^ 64) × (until ≡ at.0 + LEASE_SECONDS)
IsValid (steps.Release at shard worker epoch) = IsMoment at.0 × IsShard shard × (worker < 2 ^ 32) × (epoch < 2 ^ 64)
IsValid (steps.Begin at inc instant number epoch) = IsMoment at.0 × IsIncarnation inc × IsMoment instant × IsNumber number × (epoch < 2 ^ 64)
IsValid (steps.End at inc instant number verdict status) = IsMoment at.0 × IsIncarnation inc × IsMoment instant × IsNumber number × IsStatus status
IsValid (steps.Close at inc instant reason) = IsMoment at.0 × IsIncarnation inc × IsMoment instant
IsValid (steps.Complete at inc) = IsMoment at.0 × IsIncarnation inc
IsValid (steps.Swept at shard) = IsMoment at.0 × IsShard shard

-- each step of the history that is there is valid
abbrev pub AllValid : History → Type 0
AllValid beginning = Unit {0}
AllValid (based b kept) = AllValid kept
AllValid (s upon h) = AllValid h × IsValid s
