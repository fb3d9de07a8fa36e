-- Each plan is that of a write just where it has its cause.
use Rattle.std.proofs.Common.{◌≡◌, ◌≢◌, ◌⊎◌, ℕ, Option, Some, None, List, Result, Err, ap, sym, ◌∙◌, subst, inl, inr}
use Rattle.expressions.specs.Calendar.{Calendar}
use Rattle.sched_plain.specs.declared.write.Write.{Write}
use Rattle.sched_plain.specs.History.{History}
use Rattle.sched_plain.specs.Tokens.{Kept}
use Rattle.sched_calls.specs.declared.reply.Refusal.{Refusal}
use Rattle.sched_calls.specs.declared.reply.Reply.{Reply}
use Rattle.sched_calls.specs.Replies.{reply_to, row_refusal, token_refusal}
use Rattle.sched_calls.specs.Serves.{kept_for, needed_zone, Clashes, Faults}
use Rattle.write_plans.specs.declared.plan.Plan.{Plan}
use Rattle.write_plans.specs.declared.plan.Plan.TheVariants as plans
use Rattle.write_plans.specs.Planning.{IsPlanOfKept, IsPlanned, IsPlannedBy, change_at, first_behind, plan_by, plan_of_new}
use Rattle.write_plans.specs.PlanLaws.{EachHasItsCause, IsAllowed, IsClash, IsFaulty, IsRepeated}
use Rattle.write_plans.proofs.FollowLemmas.{catching_is_late, ready_is_free}
use Rattle.write_plans.proofs.ServeLemmas.{known_repeats, needs_is_zoneless, refused_is_served}

-- the plan of a write whose token is new, and of one whose token is kept
when_new : (c : Calendar) (h : History) (t : ℕ) (write : Write) (plan : Plan) → IsPlanned c h t write plan → kept_for h write ≡ None → plan ≡ plan_of_new c h t write
when_new c h t write plan is new = subst (λ (found : Option Kept). IsPlannedBy c h t write found plan) new is

when_kept : (c : Calendar) (h : History) (t : ℕ) (write : Write) (plan : Plan) (kept : Kept) → IsPlanned c h t write plan → kept_for h write ≡ Some kept → IsPlanOfKept kept write plan
when_kept c h t write plan kept is there = subst (λ (found : Option Kept). IsPlannedBy c h t write found plan) there is

same_known : (kept : Kept) (write : Write) (plan : Plan) → kept.write ≡ write → IsPlanOfKept kept write plan → plan ≡ plans.Known (reply_to write)
same_known kept write plan same (inl p) = p.1
same_known kept write plan same (inr p) = absurd (p.0 same)

other_refused : (kept : Kept) (write : Write) (plan : Plan) → kept.write ≢ write → IsPlanOfKept kept write plan → plan ≡ plans.Refused (token_refusal kept.place)
other_refused kept write plan other (inl p) = absurd (other p.0)
other_refused kept write plan other (inr p) = p.1

err_same : (a b : Refusal) → (let left : Result Reply Refusal = Err a in left ≡ Err b) → a ≡ b
err_same a b e = cc e

broken_of : (h : History) (write : Write) (refusal : Refusal) → Clashes h write h (Err refusal) ⊎ Faults h write h (Err refusal) → IsClash h write refusal ⊎ IsFaulty h write refusal
broken_of h write refusal (inl clash) = inl (clash.kept, clash.found, clash.other, err_same refusal (token_refusal clash.kept.place) clash.answered)
broken_of h write refusal (inr faulty) = inr (faulty.fault, faulty.new, faulty.found, err_same refusal (row_refusal write faulty.fault) faulty.answered)

refused_for : (c : Calendar) (h : History) (t : ℕ) (write : Write) (plan : Plan) (refusal : Refusal) → IsPlanned c h t write plan
    → IsClash h write refusal ⊎ IsFaulty h write refusal → plan ≡ plans.Refused refusal
refused_for c h t write plan refusal is (inl clash) =
    other_refused clash.0 write plan clash.2 (when_kept c h t write plan clash.0 is clash.1) ∙ ap (λ (r : Refusal). plans.Refused r) (sym clash.3)
refused_for c h t write plan refusal is (inr faulty) =
    when_new c h t write plan is faulty.1 ∙ (λ i. plan_by t write (faulty.2 i) (needed_zone h write) (first_behind c h t write)) ∙ ap (λ (r : Refusal). plans.Refused r) (sym faulty.3)

known_cause : (c : Calendar) (h : History) (t : ℕ) (write : Write) → IsPlanned c h t write (plans.Known (reply_to write)) → IsRepeated h write
known_cause c h t write is = let again = known_repeats c h t write (reply_to write) is in (again.kept, again.found, again.repeated)

zone_cause : (c : Calendar) (h : History) (t : ℕ) (write : Write) (zone : List ℕ) → IsPlanned c h t write (plans.NeedsZone zone) → IsAllowed h write × (needed_zone h write ≡ Some zone)
zone_cause c h t write zone is = let needs = needs_is_zoneless c h t write zone is in (record { new = needs.new; allowed = needs.allowed }, needs.needed)

late_cause : (c : Calendar) (h : History) (t : ℕ) (write : Write) (inc : ℕ) → IsPlanned c h t write (plans.CatchUp inc)
    → IsAllowed h write × (needed_zone h write ≡ None) × (first_behind c h t write ≡ Some inc)
late_cause c h t write inc is = let late = catching_is_late c h t write inc is in (record { new = late.new; allowed = late.allowed }, late.zone, late.behind)

ready_cause : (c : Calendar) (h : History) (t : ℕ) (write : Write) → IsPlanned c h t write (plans.Ready (change_at t write))
    → IsAllowed h write × (needed_zone h write ≡ None) × (first_behind c h t write ≡ None)
ready_cause c h t write is = let free = ready_is_free c h t write (change_at t write) is in (record { new = free.new; allowed = free.allowed }, free.zone, free.behind)

pub each_has_its_cause : EachHasItsCause
each_has_its_cause c h t write plan is =
    let is_so : (other : Plan) → plan ≡ other → IsPlanned c h t write other = λ other same. subst (IsPlanned c h t write) same is in
    record {
      known = (λ e. known_cause c h t write (is_so (plans.Known (reply_to write)) e), λ again. same_known again.0 write plan again.2 (when_kept c h t write plan again.0 is again.1));
      refused = λ refusal. (λ e. broken_of h write refusal (refused_is_served c h t write refusal (is_so (plans.Refused refusal) e)), refused_for c h t write plan refusal is);
      needs_zone = λ zone. (
        λ e. zone_cause c h t write zone (is_so (plans.NeedsZone zone) e),
        λ needs. when_new c h t write plan is needs.0.new ∙ (λ i. plan_by t write (needs.0.allowed i) (needs.1 i) (first_behind c h t write)),
      );
      catches_up = λ inc. (
        λ e. late_cause c h t write inc (is_so (plans.CatchUp inc) e),
        λ late. when_new c h t write plan is late.0.new ∙ (λ i. plan_by t write (late.0.allowed i) (late.1 i) (late.2 i)),
      );
      ready = (
        λ e. ready_cause c h t write (is_so (plans.Ready (change_at t write)) e),
        λ free. when_new c h t write plan is free.0.new ∙ (λ i. plan_by t write (free.0.allowed i) (free.1 i) (free.2 i)),
      );
    }
