-- A write served, by its plan.
use Rattle.std.proofs.Common.{◌≡◌, ◌⊎◌, ℕ, ◌≤◌, true, false, Option, Some, None, Result, Ok, Err, List, [], refl, ap, sym, subst, ◌∙◌, inl, inr}
use Rattle.std.specs.Prelude.{not}
use Rattle.plain_words.specs.Moments.{moment_of}
use Rattle.zone_occ.specs.declared.zone_files.NamedZone.{NamedZone}
use Rattle.sched_plain.specs.declared.step.Step.{Step}
use Rattle.sched_plain.specs.declared.step.Step.TheVariants as steps
use Rattle.sched_plain.specs.declared.write.Write.{Write}
use Rattle.sched_plain.specs.History.{History, ◌upon◌, as_it_was, with_step}
use Rattle.sched_plain.specs.Rules.{zone_of}
use Rattle.sched_plain.specs.Validity.{IsWrite}
use Rattle.sched_calls.specs.declared.reply.Refusal.{Refusal}
use Rattle.sched_calls.specs.declared.reply.Reply.{Reply}
use Rattle.sched_calls.specs.Replies.{zone_refusal}
use Rattle.sched_calls.specs.Serves.{Clashes, Faults, Finds, ServesWrite, ZoneSource, is_zone, lacks_zone, needed_zone}
use Rattle.step_keeper.specs.Carrying.{Start, Carries}
use Rattle.book_parts.specs.Stands.{calendar}
use Rattle.write_plans.specs.declared.plan.Plan.TheVariants as plans
use Rattle.write_plans.specs.Planning.{IsPlanned}
use Rattle.write_plans.proofs.FollowLemmas.{catching_is_late, ready_is_free}
use Rattle.write_plans.proofs.ServeLemmas.{known_repeats, refused_is_served, lacking_is_served, zoned_is_accepted, needs_is_zoneless, had_after, zoned_after}
use Rattle.sweep_laws.specs.ValidLaws.{IsGood}
use Rattle.sweep_laws.proofs.Kept.{with_zone_good}
use Rattle.durable_book.specs.declared.grow_fault.GrowFault.{GrowFault}
use Rattle.durable_book.specs.declared.grow_fault.GrowFault.TheVariants as grows
use Rattle.durable_book.specs.Acts.{IsCause}
use Rattle.durable_book.specs.Faults.{grow_denial}
use Rattle.durable_book.proofs.ActLemmas.{rose_later}
use Rattle.durable_writes.specs.declared.write_fault.WriteFault.{WriteFault}
use Rattle.durable_writes.specs.declared.write_fault.WriteFault.TheVariants as faults
use Rattle.durable_writes.specs.Leading.{IsAccepted, IsStopped, IsUnhindered, Leads, write_fault}
use Rattle.durable_writes.specs.Writing.{CutsWrite, EndsWrite, HasRisen, IsCauseOfCut, Writes}
use Rattle.durable_writes.specs.Zoning.{IsHad, IsLacked, IsNotHad}
use Rattle.durable_writes.proofs.CutLemmas.{cut_behind, cut_ends}
use Rattle.durable_writes.proofs.LeadLemmas.{leads_none, leads_on}
use Rattle.durable_writes.proofs.NothingLemmas.{some_source, draws_nothing, found_same}

-- ---- nothing is added

pub writes_known : (h : History) (t : ℕ) (write : Write) (zones : Option (List NamedZone)) (told : Option (List ℕ)) (reply : Reply) → IsPlanned calendar h t write (plans.Known reply)
    → Writes None t write zones told told (Ok reply) h h
writes_known h t write zones told reply is =
    let s = some_source zones in
    record { found = h; finds = refl; source = s.0; telling = s.1; words = []; served = inl (refl, inl (known_repeats calendar h t write reply is)); draws = draws_nothing h told }

refused_served : (source : ZoneSource) (h : History) (t : ℕ) (write : Write) (refusal : Refusal) → Clashes h write h (Err refusal) ⊎ Faults h write h (Err refusal)
    → ServesWrite calendar source t h write [] h [] (Err refusal)
refused_served source h t write refusal (inl clash) = inl (refl, inr (inl clash))
refused_served source h t write refusal (inr fault) = inl (refl, inr (inr (inl fault)))

pub writes_refused : (h : History) (t : ℕ) (write : Write) (zones : Option (List NamedZone)) (told : Option (List ℕ)) (refusal : Refusal) → IsPlanned calendar h t write (plans.Refused refusal)
    → Writes None t write zones told told (Err refusal) h h
writes_refused h t write zones told refusal is =
    let s = some_source zones in
    record {
      found = h;
      finds = refl;
      source = s.0;
      telling = s.1;
      words = [];
      served = refused_served s.0 h t write refusal (refused_is_served calendar h t write refusal is);
      draws = draws_nothing h told;
    }

pub writes_lacking : (h : History) (t : ℕ) (write : Write) (zones : Option (List NamedZone)) (told : Option (List ℕ)) (name : List ℕ) (refusal : Refusal)
    → IsPlanned calendar h t write (plans.NeedsZone name) → refusal ≡ zone_refusal → IsLacked zones name → Writes None t write zones told told (Err refusal) h h
writes_lacking h t write zones told name refusal is same lacked =
    subst (λ (r : Refusal). Writes None t write zones told told (Err r) h h) (sym same)
    (record {
      found = h;
      finds = refl;
      source = lacked.source;
      telling = lacked.telling;
      words = [];
      served = inl (refl, inr (inr (inr (lacking_is_served calendar h t write name is lacked.source lacked.lacks))));
      draws = draws_nothing h told;
    })

-- cut before the first step
pub cuts_nothing : (full : Step → ℕ → ℕ → Type 0) (h : History) (t : ℕ) (write : Write) (zones : Option (List NamedZone)) (told : Option (List ℕ)) (fault : WriteFault)
    → IsCauseOfCut full write fault h → CutsWrite full None t write zones told told fault h h
cuts_nothing full h t write zones told fault cause =
    let s = some_source zones in
    record { found = h; finds = refl; source = s.0; telling = s.1; words = []; dropped = []; part = inl refl; draws = draws_nothing h told; cause = cause }

-- ---- no rule stops it

pub catching_is_free : (h : History) (t : ℕ) (write : Write) (inc : ℕ) → IsPlanned calendar h t write (plans.CatchUp inc) → IsUnhindered write h
catching_is_free h t write inc is = let late = catching_is_late calendar h t write inc is in record { new = late.new; allowed = late.allowed; zone = late.zone }

pub ready_is_unhindered : (h : History) (t : ℕ) (write : Write) (s : Step) → IsPlanned calendar h t write (plans.Ready s) → IsUnhindered write h
ready_is_unhindered h t write s is = let free = ready_is_free calendar h t write s is in record { new = free.new; allowed = free.allowed; zone = free.zone }

pub writes_accepted : (h after : History) (t : ℕ) (write : Write) (zones : Option (List NamedZone)) (told told' : Option (List ℕ)) (reply : Reply)
    → IsAccepted t write told told' reply h after → Writes None t write zones told told' (Ok reply) h after
writes_accepted h after t write zones told told' reply accepted =
    let s = some_source zones in
    record { found = h; finds = refl; source = s.0; telling = s.1; words = accepted.words; served = inr (accepted.accepts s.0); draws = accepted.draws }

pub ends_stopped : (full : Step → ℕ → ℕ → Type 0) (h after : History) (t : ℕ) (write : Write) (zones : Option (List NamedZone)) (told told' : Option (List ℕ)) (fault : WriteFault) (denied : GrowFault)
    → fault ≡ write_fault denied → IsStopped full t write told told' denied h after → EndsWrite full None t write zones told told' fault h after
ends_stopped full h after t write zones told told' fault denied same stopped =
    let s = some_source zones in
    subst (λ (f : WriteFault). EndsWrite full None t write zones told told' f h after) (sym same)
    (cut_ends full None t write zones told told' denied h after
    (cut_behind full t write zones s.0 told told' denied h h after s.1 (leads_none s.0 t write h) refl stopped (λ a b. leads_on s.0 t write a b h h after)))

-- ---- its zone is had

-- the Zone step that it needs
abbrev pub zoned : ℕ → List ℕ → List ℕ → History → History
zoned t name bytes h = steps.Zone (moment_of t) name bytes upon h

pub zone_good : (h : History) (t : ℕ) (write : Write) (name bytes : List ℕ) → IsGood calendar h t → IsWrite write → IsPlanned calendar h t write (plans.NeedsZone name)
    → is_zone calendar bytes ≡ true → IsGood calendar (zoned t name bytes h) t
zone_good h t write name bytes good valid is readable =
    let source : ZoneSource = λ other. Some bytes in
    let needed = (needs_is_zoneless calendar h t write name is).needed in
    let had : lacks_zone calendar source (needed_zone h write) ≡ false = ap (lacks_zone calendar source) needed ∙ ap not readable in
    subst (λ (g : History). IsGood calendar g t) (zoned_after source t h name bytes (needed_zone h write) needed refl)
    (with_zone_good calendar source t h write (zone_of write) (needed_zone h write) good valid refl refl had)

pub zone_frees : (h : History) (t : ℕ) (write : Write) (name bytes : List ℕ) → IsPlanned calendar h t write (plans.NeedsZone name) → IsUnhindered write (zoned t name bytes h)
zone_frees h t write name bytes is =
    let zoneless = needs_is_zoneless calendar h t write name is in
    record { new = zoneless.new; allowed = zoneless.allowed; zone = had_after h t write name bytes zoneless.needed }

leads_zone : (source : ZoneSource) (h : History) (t : ℕ) (write : Write) (name bytes : List ℕ) → IsPlanned calendar h t write (plans.NeedsZone name) → source name ≡ Some bytes
    → is_zone calendar bytes ≡ true → Leads source t write [] h (zoned t name bytes h)
leads_zone source h t write name bytes is had readable = record {
  onward = λ more left last answer accepts. zoned_is_accepted calendar h t write name bytes is source had readable more left last answer accepts;
  from = with_step _ as_it_was;
  ends = refl;
}

pub writes_zoned : (h after : History) (t : ℕ) (write : Write) (zones : Option (List NamedZone)) (told told' : Option (List ℕ)) (name bytes : List ℕ) (reply : Reply)
    → IsPlanned calendar h t write (plans.NeedsZone name) → IsHad zones name bytes → is_zone calendar bytes ≡ true
    → IsAccepted t write told told' reply (zoned t name bytes h) after → Writes None t write zones told told' (Ok reply) h after
writes_zoned h after t write zones told told' name bytes reply is had readable accepted = record {
  found = h;
  finds = refl;
  source = had.source;
  telling = had.telling;
  words = accepted.words;
  served = inr ((leads_zone had.source h t write name bytes is had.had readable).onward accepted.words [] after (Ok reply) (accepted.accepts had.source));
  draws = record { gives = accepted.draws.gives; drew = accepted.draws.drew; few = accepted.draws.few };
}

pub ends_zoned : (full : Step → ℕ → ℕ → Type 0) (h after : History) (t : ℕ) (write : Write) (zones : Option (List NamedZone)) (told told' : Option (List ℕ)) (name bytes : List ℕ)
    (fault : WriteFault) (denied : GrowFault) → IsPlanned calendar h t write (plans.NeedsZone name) → IsHad zones name bytes → is_zone calendar bytes ≡ true
    → fault ≡ write_fault denied → IsStopped full t write told told' denied (zoned t name bytes h) after → EndsWrite full None t write zones told told' fault h after
ends_zoned full h after t write zones told told' name bytes fault denied is had readable same stopped =
    subst (λ (f : WriteFault). EndsWrite full None t write zones told told' f h after) (sym same)
    (cut_ends full None t write zones told told' denied h after
    (cut_behind full t write zones had.source told told' denied h (zoned t name bytes h) after had.telling (leads_zone had.source h t write name bytes is had.had readable) refl stopped
    (λ a b. leads_on had.source t write a b h (zoned t name bytes h) after)))

-- the Zone step was not added
cause_of_denial : (full : Step → ℕ → ℕ → Type 0) (write : Write) (s : Step) (fault : GrowFault) (h : History) → IsCause full s (grow_denial fault) h → IsCauseOfCut full write (write_fault fault) h
cause_of_denial full write s (grows.Full end need) h cause = (s, cause.0, cause.1)
cause_of_denial full write s grows.DiskFault h cause = tt
cause_of_denial full write s grows.OutOfMemory h cause = tt

pub ends_unzoned : (full : Step → ℕ → ℕ → Type 0) (h : History) (t : ℕ) (write : Write) (zones : Option (List NamedZone)) (told : Option (List ℕ)) (s : Step) (fault : WriteFault) (denied : GrowFault)
    → fault ≡ write_fault denied → IsCause full s (grow_denial denied) h → EndsWrite full None t write zones told told fault h h
ends_unzoned full h t write zones told s fault denied same cause =
    subst (λ (f : WriteFault). EndsWrite full None t write zones told told f h h) (sym same)
    (cut_ends full None t write zones told told denied h h (cuts_nothing full h t write zones told (write_fault denied) (cause_of_denial full write s denied h cause)))

-- or its zone was not had
pub ends_unhad : (full : Step → ℕ → ℕ → Type 0) (h : History) (t : ℕ) (write : Write) (zones : Option (List NamedZone)) (told : Option (List ℕ)) (name : List ℕ) (fault : WriteFault)
    → IsPlanned calendar h t write (plans.NeedsZone name) → IsNotHad zones name fault → EndsWrite full None t write zones told told fault h h
ends_unhad full h t write zones told name (faults.Refused refusal) is lacked = writes_lacking h t write zones told name refusal is lacked.0 lacked.1
ends_unhad full h t write zones told name (faults.Full end need) is lacked = absurd lacked
ends_unhad full h t write zones told name faults.DiskFault is lacked = absurd lacked
ends_unhad full h t write zones told name faults.ZoneFailed is lacked =
    cuts_nothing full h t write zones told faults.ZoneFailed (name, (needs_is_zoneless calendar h t write name is).needed)
ends_unhad full h t write zones told name faults.OutOfMemory is lacked = cuts_nothing full h t write zones told faults.OutOfMemory tt

-- a count that rose within a call rose in it
pub risen_later : (a b c zone zone' : ℕ) (fault : WriteFault) → a ≤ b → HasRisen b c zone zone' fault → HasRisen a c zone zone' fault
risen_later a b c zone zone' (faults.Refused refusal) le risen = risen
risen_later a b c zone zone' (faults.Full end need) le risen = risen
risen_later a b c zone zone' faults.DiskFault le risen = rose_later a b c le risen
risen_later a b c zone zone' faults.ZoneFailed le risen = risen
risen_later a b c zone zone' faults.OutOfMemory le risen = risen

-- ---- behind the settling of a step in doubt

pub writes_found : {K : Type 0} (H S N : Start K → History → Type 0) (doubt : Option Step) (t : ℕ) (write : Write) (zones : Option (List NamedZone)) (told told' : Option (List ℕ)) (answer : Result Reply Refusal)
    → Carries H S (λ h. Finds h doubt) → Carries S N (Writes None t write zones told told' answer) → Carries H N (Writes doubt t write zones told told' answer)
writes_found H S N doubt t write zones told told' answer settled writes_ = λ since h held.
    let found = settled since h held in
    let went = writes_ since found.0 found.1 in (
      went.0,
      went.1,
      record {
        found = went.2.found;
        finds = subst (Finds h doubt) (sym went.2.finds) found.2;
        source = went.2.source;
        telling = went.2.telling;
        words = went.2.words;
        served = went.2.served;
        draws = went.2.draws;
      },
    )

cuts_found : {K : Type 0} (H S N : Start K → History → Type 0) (full : Step → ℕ → ℕ → Type 0) (doubt : Option Step) (t : ℕ) (write : Write) (zones : Option (List NamedZone)) (told told' : Option (List ℕ))
    (fault : WriteFault) → Carries H S (λ h. Finds h doubt) → Carries S N (CutsWrite full None t write zones told told' fault)
    → Carries H N (CutsWrite full doubt t write zones told told' fault)
cuts_found H S N full doubt t write zones told told' fault settled cuts = λ since h held.
    let found = settled since h held in
    let went = cuts since found.0 found.1 in (
      went.0,
      went.1,
      record {
        found = went.2.found;
        finds = subst (Finds h doubt) (sym went.2.finds) found.2;
        source = went.2.source;
        telling = went.2.telling;
        words = went.2.words;
        dropped = went.2.dropped;
        part = went.2.part;
        draws = went.2.draws;
        cause = went.2.cause;
      },
    )

pub ends_found : {K : Type 0} (H S N : Start K → History → Type 0) (full : Step → ℕ → ℕ → Type 0) (doubt : Option Step) (t : ℕ) (write : Write) (zones : Option (List NamedZone)) (told told' : Option (List ℕ))
    (fault : WriteFault) → Carries H S (λ h. Finds h doubt) → Carries S N (EndsWrite full None t write zones told told' fault)
    → Carries H N (EndsWrite full doubt t write zones told told' fault)
ends_found H S N full doubt t write zones told told' (faults.Refused refusal) settled ends = writes_found H S N doubt t write zones told told' (Err refusal) settled ends
ends_found H S N full doubt t write zones told told' (faults.Full end need) settled ends = cuts_found H S N full doubt t write zones told told' (faults.Full end need) settled ends
ends_found H S N full doubt t write zones told told' faults.DiskFault settled ends = cuts_found H S N full doubt t write zones told told' faults.DiskFault settled ends
ends_found H S N full doubt t write zones told told' faults.ZoneFailed settled ends = cuts_found H S N full doubt t write zones told told' faults.ZoneFailed settled ends
ends_found H S N full doubt t write zones told told' faults.OutOfMemory settled ends = cuts_found H S N full doubt t write zones told told' faults.OutOfMemory settled ends

-- the disk failed before anything was found
pub ends_torn : (full : Step → ℕ → ℕ → Type 0) (doubt : Option Step) (h : History) (t : ℕ) (write : Write) (zones : Option (List NamedZone)) (told : Option (List ℕ))
    → CutsWrite full doubt t write zones told told faults.DiskFault h h
ends_torn full doubt h t write zones told =
    let s = some_source zones in
    record { found = h; finds = found_same doubt h; source = s.0; telling = s.1; words = []; dropped = []; part = inl refl; draws = draws_nothing h told; cause = tt }
