-- Each step of a sweep leaves a history over which it may go on.
use Rattle.std.proofs.Common.{◌≡◌, ℕ, ◌+◌, Bool, true, false, refl, ap, sym, ◌∙◌, eq-eqb, eqb-true, arith}
use Rattle.std.specs.Prelude.{◌==◌, ◌&&◌, not, nat_lt, if◌then◌else◌}
use Rattle.std.proofs.lemmas.Bool.Decides.{nat_tests}
use Rattle.plain_words.specs.declared.limits.TheConstants.{LEASE_SECONDS}
use Rattle.sched_plain.specs.declared.holder.Holder.{Holder}
use Rattle.sched_plain.specs.History.{History, ◌upon◌}
use Rattle.sched_plain.specs.Leases.{holder, is_taking, is_held, freed, leased}
use Rattle.sched_calls.specs.Serves.{taking_of, release_of}
use Rattle.sweep_laws.specs.KeptLaws.{NoOtherHolds}
use Rattle.timer_work.specs.Places.{IsOwn}

none_and : (b : Bool) → (b && false) ≡ false
none_and true = refl
none_and false = refl

-- what worker 0 holds no other worker does
own_free : (held : Holder) (t : ℕ) → held.worker ≡ 0 → is_held held t 0 ≡ false
own_free held t own = ap (λ (w : ℕ). nat_lt t held.until && not (0 == w)) own ∙ none_and (nat_lt t held.until)

-- who holds the shard that was taken
taken_holder : (h : History) (t shard : ℕ)
    → holder (taking_of h t shard upon h) shard ≡ record { worker = 0; epoch = (holder h shard).epoch + 1; until = t + LEASE_SECONDS }
taken_holder h t shard =
    let held = holder h shard in
    let same : (shard == shard) ≡ true = eq-eqb shard shard refl in
    let taking : is_taking held (held.epoch + 1) ≡ true = eq-eqb (held.epoch + 1) (held.epoch + 1) refl in
    ap (λ (b : Bool). if b then leased held 0 (held.epoch + 1) (t + LEASE_SECONDS) else held) same
    ∙ ap (λ (b : Bool). record { worker = if b then 0 else held.worker; epoch = held.epoch + 1; until = t + LEASE_SECONDS }) taking

-- a shard that was taken is the sweep's own
pub own_taken : (h : History) (t shard : ℕ) → IsOwn shard (taking_of h t shard upon h)
own_taken h t shard =
    let is = taken_holder h t shard in
    let epoch = ap (λ (held : Holder). held.epoch) is in
    (ap (λ (held : Holder). held.worker) is, omega (arith, epoch))

-- it is not held by another worker, and the others are as they were
taken_case : (b : Bool) (one old : Holder) (t : ℕ) → (b ≡ true → one.worker ≡ 0) → is_held old t 0 ≡ false → is_held (if b then one else old) t 0 ≡ false
taken_case true one old t own free = own_free one t (own refl)
taken_case false one old t own free = free

pub free_taken : (h : History) (t shard : ℕ) → NoOtherHolds h t → NoOtherHolds (taking_of h t shard upon h) t
free_taken h t shard free = λ s.
    taken_case (s == shard) (leased (holder h s) 0 ((holder h shard).epoch + 1) (t + LEASE_SECONDS)) (holder h s) t
    (λ same.
    let is : s ≡ shard = eqb-true s shard same in
    let epochs : (holder h shard).epoch + 1 ≡ (holder h s).epoch + 1 = ap (λ (n : ℕ). (holder h n).epoch + 1) (sym is) in
    let taking : is_taking (holder h s) ((holder h shard).epoch + 1) ≡ true = eq-eqb ((holder h shard).epoch + 1) ((holder h s).epoch + 1) epochs in
    ap (λ (b : Bool). if b then 0 else (holder h s).worker) taking)
    (free s)

-- a shard that was given back is free
freed_case : (b : Bool) (held : Holder) (t : ℕ) → is_held held t 0 ≡ false → is_held (if b then freed held else held) t 0 ≡ false
freed_case true held t free = let late : nat_lt t 0 ≡ false = grind (arith, nat_tests) in ap (λ (b : Bool). b && not (0 == held.worker)) late
freed_case false held t free = free

pub free_released : (h : History) (t shard : ℕ) → NoOtherHolds h t → NoOtherHolds (release_of h t shard upon h) t
free_released h t shard free = λ s. freed_case (s == shard) (holder h s) t (free s)
