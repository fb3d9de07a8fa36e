-- A request that is answered in memory.
use Rattle.std.proofs.Common.{◌≡◌, ℕ, ◌≤◌, Option, None, Result, Ok, Err, List, sym, subst, arith}
use Rattle.std.specs.Prelude.{OnOk, OnErr}
use Rattle.outside.specs.Faults.{Rose}
use Rattle.zone_occ.specs.declared.zone_files.NamedZone.{NamedZone}
use Rattle.sched_plain.specs.declared.step.Step.{Step}
use Rattle.sched_plain.specs.History.{History}
use Rattle.sched_calls.specs.Serves.{Finds}
use Rattle.sweep_laws.specs.KeptLaws.{NoOtherHolds}
use Rattle.step_keeper.specs.Carrying.{Start, CarriesWhere, LivesWhere}
use Rattle.timer_work.specs.Swept.{IsFree, Sends}
use Rattle.http_wire.specs.declared.request.HttpRequest.{HttpRequest}
use Rattle.http_wire.specs.Devices.{Gets, GetsPart}
use Rattle.sched_top.specs.declared.service.response.Response.{Response}
use Rattle.sched_top.specs.declared.service.response.Response.TheVariants as responses
use Rattle.sched_top.specs.Serving.{Kind, Served, ShortOfMemory, ZonesFailed, JournalFull, DiskFailed, Taken, Answers}
use Rattle.sched_top.specs.Turns.{Turn, Outside, ZonesRose, kind_of, bytes_of}
use Rattle.sched_top.specs.Batch.{RoseBy, nothing_full, zone_failure}
use Rattle.sched_top.specs.Running.{IsAlone, LivesAlone, Heard, Takes, Responds}

-- where no step is in doubt, what is found is the history as it was
free_found : (doubt : Option Step) (now : ℕ) (h : History) → doubt ≡ None → NoOtherHolds h now → IsFree doubt now h
free_found doubt now h none alone found finds =
    let same : found ≡ h = subst (λ (d : Option Step). Finds h d found) none finds in
    subst (λ (x : History). NoOtherHolds x now) (sym same) alone

pub lives_free : {K : Type 0} (held : Start K → History → Type 0) (doubt : Option Step) (now : ℕ) → doubt ≡ None → LivesAlone now held → LivesWhere (IsFree doubt now) held
lives_free held doubt now none (since, h, stands, alone) = (since, h, stands, free_found doubt now h none alone)

-- in memory no request is answered for want of room or of a disk
in_memory : (full : Step → ℕ → ℕ → Type 0) (failed : Type 0) (zones : Option (List NamedZone)) (kind : Kind) (before : History) (now : ℕ) (request : HttpRequest) (taken : Taken) (after : History) (at : ℕ) (response : List ℕ)
    → ((s : Step) (end need : ℕ) → full s end need → ⊥) → (failed → ⊥)
    → Answers full failed zones kind before now request taken after at response → Answers nothing_full ⊥ zones kind before now request taken after at response
in_memory full failed zones Served before now request taken after at response roomy quiet a =
    record { outcome = a.outcome; drew = a.drew; few = a.few; grows = a.grows; counts = a.counts; later = a.later }
in_memory full failed zones ShortOfMemory before now request taken after at response roomy quiet a =
    record { outcome = a.outcome; drew = a.drew; few = a.few; grows = a.grows; counts = a.counts; later = a.later }
in_memory full failed zones ZonesFailed before now request taken after at response roomy quiet a =
    record { outcome = a.outcome; drew = a.drew; few = a.few; grows = a.grows; counts = a.counts; later = a.later }
in_memory full failed zones JournalFull before now request taken after at response roomy quiet a =
    let room = a.outcome.has_no_room in absurd (roomy room.0 a.outcome.end a.outcome.need room.2)
in_memory full failed zones DiskFailed before now request taken after at response roomy quiet a = absurd (quiet a.outcome.has_failed)

-- a count of faults that is 0 has not risen
never_rose : (before now : ℕ) → before ≡ 0 → now ≡ 0 → Rose before now → ⊥
never_rose before now zero_before zero_now rose = omega (arith, rose)

-- the count of failed calls for zones rose where that was answered
zones_rose : (before now : ℕ) (response : Response) → before ≤ now → ZonesRose before now response → RoseBy (zone_failure (kind_of response)) before now
zones_rose before now (responses.Served text) later rose = omega arith
zones_rose before now responses.ShortOfMemory later rose = omega arith
zones_rose before now (responses.ZonesFailed text) later rose = rose
zones_rose before now (responses.JournalFull text) later rose = omega arith
zones_rose before now (responses.DiskFailed text) later rose = omega arith

-- what was found is the history as it was
unfound : (full : Step → ℕ → ℕ → Type 0) (failed : Type 0) (zones : Option (List NamedZone)) (now at : ℕ) (request : HttpRequest) (old new : Outside) (response : Response) (h after found : History) (taken : Taken)
    → found ≡ h → Answers full failed zones (kind_of response) found now request taken after at (bytes_of response)
    → Answers full failed zones (kind_of response) h now request taken after at (bytes_of response)
unfound full failed zones now at request old new response h after found taken same a =
    subst (λ (x : History). Answers full failed zones (kind_of response) x now request taken after at (bytes_of response)) same a

responds : (Given : Option (List ℕ) → List ℕ → Option (List ℕ) → Type 0) (full : Step → ℕ → ℕ → Type 0) (failed : Type 0) (zones : Option (List NamedZone)) (doubt : Option Step) (now : ℕ) (request : HttpRequest) (at : ℕ) (old new : Heard) (response : Response) (h after : History)
    → doubt ≡ None → ((s : Step) (end need : ℕ) → full s end need → ⊥) → (failed → ⊥)
    → RoseBy (zone_failure (kind_of response)) old.zone_faults new.zone_faults → Given old.got (bytes_of response) new.got
    → Turn full failed zones doubt now request at (record { words = old.words; sent = old.handed }) (record { words = new.words; sent = new.handed }) response h after
    → Responds Given zones now request at old new h after
responds Given full failed zones doubt now request at old new response h after none roomy quiet rose given turn =
    let same : turn.found ≡ h = subst (λ (d : Option Step). Finds h d turn.found) none turn.finds in
    let answers = unfound full failed zones now at request (record { words = old.words; sent = old.handed }) (record { words = new.words; sent = new.handed }) response h after turn.found turn.taken same turn.answers in
    record {
      response = bytes_of response;
      kind = kind_of response;
      taken = turn.taken;
      answers = in_memory full failed zones (kind_of response) h now request turn.taken after at (bytes_of response) roomy quiet answers;
      given = given;
      drew = turn.gives;
      sends = subst (λ (x : History). Sends x after old.handed new.handed) same turn.sends;
      failed = rose;
      free = turn.free;
    }

-- so it is of each history that a keeper in memory stood for
pub carries_response : {K : Type 0} (held held' : Start K → History → Type 0) (Given : Option (List ℕ) → List ℕ → Option (List ℕ) → Type 0) (full : Step → ℕ → ℕ → Type 0) (faults faults' : ℕ) (zones : Option (List NamedZone)) (doubt : Option Step) (now : ℕ) (request : HttpRequest) (at : ℕ) (old new : Heard) (response : Response)
    → doubt ≡ None → ((s : Step) (end need : ℕ) → full s end need → ⊥) → faults ≡ 0 → faults' ≡ 0
    → old.zone_faults ≤ new.zone_faults → ZonesRose old.zone_faults new.zone_faults response
    → CarriesWhere (IsFree doubt now) held held' (Turn full (Rose faults faults') zones doubt now request at (record { words = old.words; sent = old.handed }) (record { words = new.words; sent = new.handed }) response)
    → Given old.got (bytes_of response) new.got
    → CarriesWhere (IsAlone now) held held' (Responds Given zones now request at old new)
carries_response held held' Given full faults faults' zones doubt now request at old new response none roomy zero_before zero_now later rose carries given = λ since h stands alone.
    let turned = carries since h stands (free_found doubt now h none alone) in (
      turned.0,
      turned.1,
      responds Given full (Rose faults faults') zones doubt now request at old new response h turned.0 none roomy
          (never_rose faults faults' zero_before zero_now) (zones_rose old.zone_faults new.zone_faults response later rose) given turned.2,
    )

-- a sink that took all took so, and one that failed took a front
pub taken_so : {A E : Type 0} (result : Result A E) (got : Option (List ℕ)) (bytes : List ℕ) (got' : Option (List ℕ)) → OnOk result (Gets got bytes got') → OnErr result (GetsPart got bytes got') → Takes result got bytes got'
taken_so (Ok value) got bytes got' sent cut = sent
taken_so (Err fault) got bytes got' sent cut = cut
