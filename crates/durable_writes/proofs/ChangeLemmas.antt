-- The Change of a write that is ready.
use Rattle.std.proofs.Common.{◌≡◌, ℕ, ◌≤◌, ap, sym, subst}
use Rattle.plain_words.specs.Moments.{last_moment}
use Rattle.sched_plain.specs.declared.step.Step.{Step}
use Rattle.sched_plain.specs.declared.write.Write.{Write}
use Rattle.sched_plain.specs.History.{History}
use Rattle.sched_plain.specs.Legal.{MayFollow}
use Rattle.sched_plain.specs.Moments.{moment, at_of}
use Rattle.sched_plain.specs.Validity.{IsValid, IsWrite}
use Rattle.book_parts.specs.Stands.{calendar}
use Rattle.durable_book.specs.Doubts.{IsOwn}
use Rattle.write_plans.specs.declared.plan.Plan.TheVariants as plans
use Rattle.write_plans.specs.Planning.{IsPlanned, change_at}
use Rattle.write_plans.proofs.FollowLemmas.{ready_follows, ready_where_it_may}

pub is_change : (h : History) (t : ℕ) (write : Write) (s : Step) → IsPlanned calendar h t write (plans.Ready s) → s ≡ change_at t write
is_change h t write s is = (ready_follows calendar h t write s is).0

pub change_valid : (h : History) (t : ℕ) (write : Write) (s : Step) → IsPlanned calendar h t write (plans.Ready s) → t ≤ last_moment → IsWrite write → IsValid s
change_valid h t write s is late valid = subst IsValid (sym (is_change h t write s is)) (late, valid)

pub change_follows : (h : History) (t : ℕ) (write : Write) (s : Step) → IsPlanned calendar h t write (plans.Ready s) → moment h ≤ t → MayFollow calendar h s
change_follows h t write s is early =
    let same = is_change h t write s is in
    let may = ready_where_it_may calendar h t write (plans.Ready s) is in
    subst (MayFollow calendar h) (sym same) (may.0 early (ap (λ (x : Step). plans.Ready x) same))

pub change_moment : (h : History) (t : ℕ) (write : Write) (s : Step) → IsPlanned calendar h t write (plans.Ready s) → at_of s ≡ t
change_moment h t write s is = ap at_of (is_change h t write s is)

pub change_own : (h : History) (t : ℕ) (write : Write) (s : Step) → IsPlanned calendar h t write (plans.Ready s) → IsOwn s
change_own h t write s is = subst IsOwn (sym (is_change h t write s is)) tt
