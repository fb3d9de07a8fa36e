-- What the functions of a run pass on: the history that a keeper in memory stands for, and what was done up to an answer.
use Rattle.std.specs.Prelude.{◌≡◌, ℕ, Option, None, Result, Ok, Err, List}
use Rattle.zone_occ.specs.declared.zone_files.NamedZone.{NamedZone}
use Rattle.sched_plain.specs.declared.step.Step.{Step}
use Rattle.sched_plain.specs.History.{History, Extends}
use Rattle.sched_plain.specs.Legal.{IsLegal}
use Rattle.sched_plain.specs.Validity.{AllValid}
use Rattle.sweep_laws.specs.KeptLaws.{NoOtherHolds}
use Rattle.book_parts.specs.Stands.{calendar}
use Rattle.step_keeper.specs.Carrying.{Start, LivesWhere}
use Rattle.target_link.specs.declared.link.Sent.{Sent}
use Rattle.policy_rules.specs.Given.{Gives as GivesWords}
use Rattle.http_wire.specs.declared.request.HttpRequest.{HttpRequest}
use Rattle.http_wire.specs.Devices.{Gets, GetsPart}
use Rattle.timer_work.specs.Swept.{Sends}
use Rattle.sched_top.specs.Serving.{Kind, Taken, Answers}
use Rattle.sched_top.specs.Keeping.{IsHanded}
use Rattle.sched_top.specs.Batch.{booted, Ran, RoseBy, Told, nothing_full, words_of, zone_failure}

-- a kind of keeper that keeps steps in memory alone: none is in doubt, none is refused a place, no disk fails. It stands for
-- legal histories of valid steps
pub record IsInMemory {K : Type 0} (held : K → Start K → History → Type 0) (doubt : K → Option Step) (full : K → Step → ℕ → ℕ → Type 0) (faults : K → ℕ) : Type 0 where
  pub settled : (k : K) → doubt k ≡ None
  pub roomy : (k : K) (s : Step) (end need : ℕ) → full k s end need → ⊥
  pub quiet : (k : K) → faults k ≡ 0
  pub legal : (k : K) (since : Start K) (h : History) → held k since h → IsLegal calendar h
  pub valid : (k : K) (since : Start K) (h : History) → held k since h → AllValid h

-- a keeper stands for this history since some start
abbrev pub StandsFor : {K : Type 0} → (Start K → History → Type 0) → History → Type 0
StandsFor {K} held h = (since : Start K) × held since h

-- no other worker holds a shard past a moment
abbrev pub IsAlone : ℕ → History → Type 0
IsAlone now h = NoOtherHolds h now

-- a keeper stands for some history in which none does
abbrev pub LivesAlone : {K : Type 0} → ℕ → (Start K → History → Type 0) → Type 0
LivesAlone {K} now held = LivesWhere (IsAlone now) held

-- what the devices but the source tell at an answer
pub record Heard : Type 0 where
  pub got : Option (List ℕ)
  pub words : Option (List ℕ)
  pub handed : Option (List Sent)
  pub zone_faults : ℕ

-- the same, each in its turn
abbrev pub hears : Option (List ℕ) → Option (List ℕ) → Option (List Sent) → ℕ → Heard
hears got words handed zone_faults = record { got = got; words = words; handed = handed; zone_faults = zone_faults }

-- those of all that they tell
abbrev pub heard : Told → Heard
heard told = record { got = told.got; words = told.words; handed = told.handed; zone_faults = told.zone_faults }

-- a sink took these bytes whole, or a front of them where it failed
abbrev pub Takes : {A E : Type 0} → Result A E → Option (List ℕ) → List ℕ → Option (List ℕ) → Type 0
Takes {A} {E} (Ok value) got bytes got' = Gets got bytes got'
Takes {A} {E} (Err fault) got bytes got' = GetsPart got bytes got'

-- one request was answered in memory, and its response was given to the sink so
pub record Responds (Given : Option (List ℕ) → List ℕ → Option (List ℕ) → Type 0) (zones : Option (List NamedZone)) (now : ℕ) (request : HttpRequest) (at : ℕ) (old new : Heard) (h after : History) : Type 0 where
  pub response : List ℕ
  pub kind : Kind
  pub taken : Taken
  pub answers : Answers nothing_full ⊥ zones kind h now request taken after at response
  pub given : Given old.got response new.got
  pub drew : GivesWords old.words (words_of taken) new.words
  pub sends : Sends h after old.handed new.handed
  pub failed : RoseBy (zone_failure kind) old.zone_faults new.zone_faults
  pub free : NoOtherHolds after at

-- a run, up to its last answer: what it did, and the history that its keeper stands for
pub record Underway {K : Type 0} (held : Start K → History → Type 0) (zones : Option (List NamedZone)) (number : ℕ) (before : History) (now : ℕ) (old new : Told) : Type 0 where
  pub since : Start K
  pub after : History
  pub stands : held since after
  pub free : NoOtherHolds after now
  pub grows : Extends (booted before) after
  pub ran : Ran zones number before after now old new
  pub handed : IsHanded after old.handed new.handed
