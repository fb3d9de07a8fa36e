-- What a call does, from what its parts did.
use Rattle.std.proofs.Common.{◌≡◌, ℕ, ◌≤◌, Option, Some, None, refl, ap, subst, sym, inl, arith}
use Rattle.outside.specs.Faults.{Rose}
use Rattle.sched_plain.specs.declared.step.Step.{Step}
use Rattle.sched_plain.specs.History.{History, ◌upon◌}
use Rattle.sched_plain.specs.Legal.{MayFollow}
use Rattle.sched_calls.specs.Serves.{Finds}
use Rattle.book_parts.specs.Stands.{calendar}
use Rattle.step_keeper.specs.Carrying.{Start, Carries, CarriesTo, Shows, same}
use Rattle.durable_book.specs.declared.denial.Denial.{Denial}
use Rattle.durable_book.specs.declared.denial.Denial.TheVariants as denials
use Rattle.durable_book.specs.Acts.{Adds, Refuses, IsCause, DiskRose}
use Rattle.durable_book.specs.Keeping.{IsJudged, IsUnkept}

-- what was found may be the history as it was
unsettled : (doubt : Option Step) (h : History) → Finds h doubt h
unsettled None h = refl
unsettled (Some s) h = inl refl

-- a step that was made of what was found and kept is added
pub adds : {K : Type 0} (H S N : Start K → History → Type 0) (doubt : Option Step) (step : History → Step) (Answer : History → Type 0) (s : Step)
    → Carries H S (λ h. Finds h doubt) → Shows S (λ h. s ≡ step h) → Shows S Answer → CarriesTo S N (λ h. s upon h)
    → Carries H N (Adds doubt step Answer)
adds H S N doubt step Answer s settled is answer kept = λ since h held.
    let found = settled since h held in
    (s upon found.0, kept since found.0 found.1, record { found = found.0; finds = found.2; added = ap (λ (x : Step). x upon found.0) (is since found.0 found.1); answer = answer since found.0 found.1 })

-- what was found stays, and the refusal has its cause over it
pub refuses : {K : Type 0} (H S N : Start K → History → Type 0) (doubt : Option Step) (Cause : History → Type 0)
    → Carries H S (λ h. Finds h doubt) → CarriesTo S N same → Shows S Cause → Carries H N (Refuses doubt Cause)
refuses H S N doubt Cause settled stays cause = λ since h held.
    let found = settled since h held in
    (found.0, stays since found.0 found.1, record { finds = found.2; cause = cause since found.0 found.1 })

-- what could not be settled stays
pub stays_torn : {K : Type 0} (H N : Start K → History → Type 0) (doubt : Option Step) (Cause : History → Type 0)
    → CarriesTo H N same → Shows H Cause → Carries H N (Refuses doubt Cause)
stays_torn H N doubt Cause torn cause = λ since h held. (h, torn since h held, record { finds = unsettled doubt h; cause = cause since h held })

-- a refusal for one cause is one for another that it makes
pub refuses_as : {K : Type 0} (H N : Start K → History → Type 0) (doubt : Option Step) (Cause Told : History → Type 0)
    → Carries H N (Refuses doubt Cause) → ((h : History) → Cause h → Told h) → Carries H N (Refuses doubt Told)
refuses_as H N doubt Cause Told refused makes = λ since h held.
    let stayed = refused since h held in
    (stayed.0, stayed.1, record { finds = stayed.2.finds; cause = makes stayed.0 stayed.2.cause })

-- causes by who denies
pub judged_cause : (full : Step → ℕ → ℕ → Type 0) (s : Step) (denial : Denial) (h : History) → IsJudged s denial h → IsCause full s denial h
judged_cause full s (denials.Rule broken) h judged = judged
judged_cause full s (denials.Full end need) h judged = absurd judged
judged_cause full s denials.DiskFault h judged = tt
judged_cause full s denials.OutOfMemory h judged = tt

pub unkept_cause : (full : Step → ℕ → ℕ → Type 0) (s : Step) (denial : Denial) (h : History) → MayFollow calendar h s → IsUnkept (full s) denial → IsCause full s denial h
unkept_cause full s (denials.Rule broken) h follows unkept = absurd unkept
unkept_cause full s (denials.Full end need) h follows unkept = (follows, unkept)
unkept_cause full s denials.DiskFault h follows unkept = tt
unkept_cause full s denials.OutOfMemory h follows unkept = tt

-- a count that rose within a call rose in it
pub rose_later : (a b c : ℕ) → a ≤ b → Rose b c → Rose a c
rose_later a b c le rose = omega (arith, le, rose)

pub disk_later : (a b c : ℕ) (denial told : Denial) → a ≤ b → (told ≡ denials.DiskFault → denial ≡ denials.DiskFault) → DiskRose b c denial → DiskRose a c told
disk_later a b c denial (denials.Rule broken) le is rose = tt
disk_later a b c denial (denials.Full end need) le is rose = tt
disk_later a b c denial denials.DiskFault le is rose = rose_later a b c le (subst (DiskRose b c) (is refl) rose)
disk_later a b c denial denials.OutOfMemory le is rose = tt

-- a step that is the one wanted is denied for the cause that is told
pub told_cause : (full : Step → ℕ → ℕ → Type 0) (s wanted : Step) (denial told : Denial) (h : History) → s ≡ wanted → IsCause full s denial h
    → (IsCause full wanted denial h → told ≡ denial) → IsCause full wanted told h
told_cause full s wanted denial told h e cause says =
    let so = subst (λ (x : Step). IsCause full x denial h) e cause in
    subst (λ (d : Denial). IsCause full wanted d h) (sym (says so)) so
