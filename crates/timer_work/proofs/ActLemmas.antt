-- What the calls that add the steps of a sweep do where no step is in doubt, and why they stop it.
use Rattle.std.proofs.Common.{◌≡◌, ℕ, ◌≤◌, Option, None, Some, sym, subst, ◌∙◌}
use Rattle.sched_plain.specs.declared.step.Step.{Step}
use Rattle.sched_plain.specs.History.{History, ◌upon◌}
use Rattle.sched_plain.specs.Legal.{MayFollow}
use Rattle.sched_plain.specs.Leases.{holder}
use Rattle.sched_calls.specs.Serves.{Finds, release_of}
use Rattle.book_parts.specs.Stands.{calendar}
use Rattle.step_keeper.specs.Carrying.{Start, Carries}
use Rattle.durable_book.specs.declared.denial.Denial.{Denial}
use Rattle.durable_book.specs.declared.denial.Denial.TheVariants as denials
use Rattle.durable_book.specs.declared.grow_fault.GrowFault.{GrowFault}
use Rattle.durable_book.specs.declared.grow_fault.GrowFault.TheVariants as faults
use Rattle.durable_book.specs.Acts.{Adds, Refuses, IsCause, DiskRose}
use Rattle.durable_book.specs.Faults.{grow_denial, IsOfGrowing}
use Rattle.durable_book.specs.Steps.{release_by}
use Rattle.durable_book.proofs.ActLemmas.{disk_later}
use Rattle.timer_work.specs.Swept.{IsCauseOfStop}

-- where no step is in doubt the history is found as it was
pub found_same : (doubt : Option Step) (h found : History) → doubt ≡ None → Finds h doubt found → found ≡ h
found_same doubt h found none finds = subst (λ (d : Option Step). Finds h d found) none finds

-- a step that was added stands upon the history, and the answer is so of that
pub put_upon : (Stands : History → Type 0) (doubt : Option Step) (step : History → Step) (Answer : History → Type 0) (h after : History)
    → doubt ≡ None → Stands after → Adds doubt step Answer h after → Stands (step h upon h) × Answer h
put_upon Stands doubt step Answer h after none stands adds =
    let is : adds.found ≡ h = found_same doubt h adds.found none adds.finds in
    (subst (λ (x : History). Stands (step x upon x)) is (subst Stands adds.added stands), subst Answer is adds.answer)

-- a refusal leaves the history, and has its cause over it
pub refused_upon : (Held : History → Type 0) (doubt : Option Step) (Cause : History → Type 0) (h after : History)
    → doubt ≡ None → Held after → Refuses doubt Cause h after → Held h × Cause h
refused_upon Held doubt Cause h after none held refuses =
    let is : after ≡ h = found_same doubt h after none refuses.finds in
    (subst Held is held, subst Cause is refuses.cause)

-- a step that may follow breaks no rule
pub growing : (full : Step → ℕ → ℕ → Type 0) (s : Step) (denial : Denial) (h : History) → MayFollow calendar h s → IsCause full s denial h → IsOfGrowing denial
growing full s (denials.Rule broken) h may cause = let same : Some broken ≡ None = sym cause ∙ may in absurd (cc same)
growing full s (denials.Full end need) h may cause = tt
growing full s denials.DiskFault h may cause = tt
growing full s denials.OutOfMemory h may cause = tt

-- the cause of a denial is that of a stop
pub stop_cause : (full : Step → ℕ → ℕ → Type 0) (s : Step) (denial : Denial) (fault : GrowFault) (h : History)
    → grow_denial fault ≡ denial → IsCause full s denial h → IsCauseOfStop full fault h
stop_cause full s denial (faults.Full end need) h is cause =
    let (may, full_) = subst (λ (d : Denial). IsCause full s d h) (sym is) cause in
    (s, may, full_)
stop_cause full s denial faults.DiskFault h is cause = tt
stop_cause full s denial faults.OutOfMemory h is cause = tt

-- the same of a keeper that stands for the history
pub puts_here : {K : Type 0} (Old Known New : Start K → History → Type 0) (doubt : Option Step) (step : History → Step) (Answer : History → Type 0)
    → ((since : Start K) (h : History) → Old since h → Known since h) → ((since : Start K) (h : History) → Old since h → doubt ≡ None)
    → Carries Known New (Adds doubt step Answer) → (since : Start K) (h : History) → Old since h → New since (step h upon h) × Answer h
puts_here Old Known New doubt step Answer holds settled added since h st =
    let (after, stands, adds) = added since h (holds since h st) in
    put_upon (New since) doubt step Answer h after (settled since h st) stands adds

pub stays_here : {K : Type 0} (Old Known Held : Start K → History → Type 0) (doubt : Option Step) (Cause : History → Type 0)
    → ((since : Start K) (h : History) → Old since h → Known since h) → ((since : Start K) (h : History) → Old since h → doubt ≡ None)
    → Carries Known Held (Refuses doubt Cause) → (since : Start K) (h : History) → Old since h → Held since h × Cause h
stays_here Old Known Held doubt Cause holds settled refused since h st =
    let (after, held, refuses) = refused since h (holds since h st) in
    refused_upon (Held since) doubt Cause h after (settled since h st) held refuses

-- a fault of the disk is told as what it is
pub disk_as : (a b c : ℕ) (denial told : Denial) → a ≤ b → told ≡ denial → DiskRose b c denial → DiskRose a c told
disk_as a b c denial told le is rose = disk_later a b c denial told le (λ e. sym is ∙ e) rose

-- the Release with the epoch of the shard is that of worker 0
pub own_release : (h : History) (t shard epoch : ℕ) → epoch ≡ (holder h shard).epoch → MayFollow calendar h (release_of h t shard) → MayFollow calendar h (release_by t shard 0 epoch)
own_release h t shard epoch is may = subst (λ (n : ℕ). MayFollow calendar h (release_by t shard 0 n)) (sym is) may
