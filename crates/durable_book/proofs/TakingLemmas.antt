-- A worker that takes a shard breaks no rule but that another one holds it.
use Rattle.std.proofs.Common.{◌≡◌, ℕ, ◌+◌, ◌≤◌, Bool, true, false, Some, [], ◌∷◌, refl, subst, arith, eq-eqb}
use Rattle.std.specs.Prelude.{◌&&◌, ◌||◌, not, nat_lt}
use Rattle.std.proofs.lemmas.Bool.Decides.{nat_tests}
use Rattle.plain_words.specs.declared.moment.Moment.{Moment}
use Rattle.plain_words.specs.Lists.{first_some, when}
use Rattle.plain_words.specs.Moments.{moment_of}
use Rattle.sched_plain.specs.declared.step.Step.{Step}
use Rattle.sched_plain.specs.declared.why.Why.{Why}
use Rattle.sched_plain.specs.declared.why.Why.TheVariants as whys
use Rattle.sched_plain.specs.History.{History}
use Rattle.sched_plain.specs.Leases.{holder, is_taking, is_held, is_taker}
use Rattle.sched_plain.specs.Legal.{why}
use Rattle.sched_plain.specs.Moments.{moment}
use Rattle.book_parts.specs.Stands.{calendar}
use Rattle.durable_book.specs.declared.denial.Denial.{Denial}
use Rattle.durable_book.specs.declared.denial.Denial.TheVariants as denials
use Rattle.durable_book.specs.Acts.{IsCause}
use Rattle.durable_book.specs.Faults.{IsOfTaking}
use Rattle.durable_book.specs.Steps.{lease_of}

-- a moment that is no earlier than the last one does not lie behind
pub in_time : (last t : ℕ) → last ≤ t → nat_lt t last ≡ false
in_time last t le = grind (arith, nat_tests)

taking_case : (late taking held taker : Bool) (last : Moment) (a b e : ℕ) (w : Why) → late ≡ false → taking ≡ true
    → first_some (when late (whys.MomentBack last) ∷ when (taking && held) (whys.Held a b) ∷ when (not (taking || taker)) (whys.Stale e) ∷ []) ≡ Some w
    → IsOfTaking (denials.Rule w)
taking_case true taking held taker last a b e w late is broken = cc late
taking_case false false held taker last a b e w late is broken = cc is
taking_case false true true taker last a b e w late is broken = let same : whys.Held a b ≡ w = cc broken in subst (λ (x : Why). IsOfTaking (denials.Rule x)) same tt
taking_case false true false taker last a b e w late is broken = cc broken

taking_rule : (h : History) (t shard worker : ℕ) (w : Why) → moment h ≤ t → why calendar h (lease_of h t shard worker) ≡ Some w → IsOfTaking (denials.Rule w)
taking_rule h t shard worker w early broken =
    let held = holder h shard in
    taking_case (nat_lt t (moment h)) (is_taking held (held.epoch + 1)) (is_held held t worker) (is_taker held worker (held.epoch + 1)) (moment_of (moment h)) held.worker held.until held.epoch w
    (in_time (moment h) t early) (eq-eqb (held.epoch + 1) (held.epoch + 1) refl) broken

pub taking_denied : (full : Step → ℕ → ℕ → Type 0) (h : History) (t shard worker : ℕ) (denial : Denial) → moment h ≤ t
    → IsCause full (lease_of h t shard worker) denial h → IsOfTaking denial
taking_denied full h t shard worker (denials.Rule w) early cause = taking_rule h t shard worker w early cause
taking_denied full h t shard worker (denials.Full end need) early cause = tt
taking_denied full h t shard worker denials.DiskFault early cause = tt
taking_denied full h t shard worker denials.OutOfMemory early cause = tt
