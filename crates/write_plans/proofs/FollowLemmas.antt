-- What a plan says of the step that may follow.
use Rattle.std.proofs.Common.{◌≡◌, ℕ, ◌≤◌, Bool, true, false, not, ◌&&◌, Option, Some, None, List, ◌∷◌, refl, ap, sym, ◌∙◌, subst, arith, inl, inr}
use Rattle.std.specs.Prelude.{if◌then◌else◌, is_some, is_none, nat_lt}
use Rattle.std.specs.Option.{option_and_then, option_map}
use Rattle.std.proofs.lemmas.Bool.Decides.{nat_tests}
use Rattle.plain_words.specs.Lists.{first_some, when}
use Rattle.plain_words.specs.Moments.{moment_of}
use Rattle.plain_words.proofs.Options.{map_none}
use Rattle.expressions.specs.Calendar.{Calendar}
use Rattle.sched_plain.specs.declared.step.Step.{Step}
use Rattle.sched_plain.specs.declared.why.RowFault.{RowFault}
use Rattle.sched_plain.specs.declared.why.Why.{Why}
use Rattle.sched_plain.specs.declared.why.Why.TheVariants as whys
use Rattle.sched_plain.specs.declared.write.Write.{Write}
use Rattle.sched_plain.specs.History.{History}
use Rattle.sched_plain.specs.Moments.{moment}
use Rattle.sched_plain.specs.Zones.{is_utc}
use Rattle.sched_plain.specs.Rules.{change_table, is_zone_unknown, moment_rule, zone_of}
use Rattle.sched_plain.specs.Seen.{ZonesSeen, seen}
use Rattle.sched_plain.specs.Tokens.{Kept, kept_of, kept_place, kept_under, token_of}
use Rattle.sched_plain.specs.Work.{Occurrence, first_open}
use Rattle.sched_plain.specs.Legal.{why, MayFollow}
use Rattle.sched_calls.specs.Serves.{kept_for, fault_of, needed_zone}
use Rattle.write_plans.specs.declared.plan.Plan.{Plan}
use Rattle.write_plans.specs.declared.plan.Plan.TheVariants as plans
use Rattle.write_plans.specs.Planning.{IsPlanOfKept, IsPlannedBy, change_at, first_behind, plan_by, plan_of_new, touched}
use Rattle.write_plans.specs.PlanLaws.{OnePlan, ReadyFollows, ReadyWhereItMay, CatchesUpLeast}
use Rattle.write_plans.proofs.BehindLemmas.{least_behind, none_behind, none_open}

-- ---- one plan

one_of_kept : (kept : Kept) (write : Write) (plan other : Plan) → IsPlanOfKept kept write plan → IsPlanOfKept kept write other → plan ≡ other
one_of_kept kept write plan other (inl p) (inl q) = p.1 ∙ sym q.1
one_of_kept kept write plan other (inl p) (inr q) = absurd (q.0 p.0)
one_of_kept kept write plan other (inr p) (inl q) = absurd (p.0 q.0)
one_of_kept kept write plan other (inr p) (inr q) = p.1 ∙ sym q.1

one_by : (c : Calendar) (h : History) (t : ℕ) (write : Write) (found : Option Kept) (plan other : Plan) → IsPlannedBy c h t write found plan
    → IsPlannedBy c h t write found other → plan ≡ other
one_by c h t write None plan other p q = p ∙ sym q
one_by c h t write (Some kept) plan other p q = one_of_kept kept write plan other p q

pub one_plan : OnePlan
one_plan c h t write plan other p q = one_by c h t write (kept_for h write) plan other p q

-- ---- what stands in the way of a write, by its plan

ready_same : (a b : Step) → plans.Ready a ≡ plans.Ready b → a ≡ b
ready_same a b e = cc e

-- nothing, where its Change is ready
pub record IsFree (c : Calendar) (h : History) (t : ℕ) (write : Write) (step : Step) : Type 0 where
  pub new : kept_for h write ≡ None
  pub allowed : fault_of h write ≡ None
  pub zone : needed_zone h write ≡ None
  pub behind : first_behind c h t write ≡ None
  pub change : step ≡ change_at t write

free_of : (t : ℕ) (write : Write) (fault : Option RowFault) (needed : Option (List ℕ)) (behind : Option ℕ) (step : Step) → plans.Ready step ≡ plan_by t write fault needed behind
    → (fault ≡ None) × (needed ≡ None) × (behind ≡ None) × (step ≡ change_at t write)
free_of t write (Some f) needed behind step e = cc e
free_of t write None (Some z) behind step e = cc e
free_of t write None None (Some inc) step e = cc e
free_of t write None None None step e = (refl, refl, refl, ready_same step (change_at t write) e)

not_ready : (kept : Kept) (write : Write) (step : Step) → IsPlanOfKept kept write (plans.Ready step) → ⊥
not_ready kept write step (inl p) = cc p.1
not_ready kept write step (inr p) = cc p.1

free_by : (c : Calendar) (h : History) (t : ℕ) (write : Write) (found : Option Kept) (step : Step) → kept_for h write ≡ found
    → IsPlannedBy c h t write found (plans.Ready step) → IsFree c h t write step
free_by c h t write None step new e =
    let parts = free_of t write (fault_of h write) (needed_zone h write) (first_behind c h t write) step e in
    record { new = new; allowed = parts.0; zone = parts.1; behind = parts.2; change = parts.3 }
free_by c h t write (Some kept) step is e = absurd (not_ready kept write step e)

pub ready_is_free : (c : Calendar) (h : History) (t : ℕ) (write : Write) (step : Step) → IsPlannedBy c h t write (kept_for h write) (plans.Ready step) → IsFree c h t write step
ready_is_free c h t write step is = free_by c h t write (kept_for h write) step refl is

-- ---- the rules that are not broken

-- a zone is needed where it is unknown
needed_if : (utc : Bool) (bytes : Option (List ℕ)) (zone : List ℕ) → (if utc then None else (if is_some bytes then None else Some zone)) ≡ None
    → (not utc && is_none bytes) ≡ false
needed_if true bytes zone e = refl
needed_if false (Some bytes) zone e = refl
needed_if false None zone e = cc e

known_if : (utc : Bool) (bytes : Option (List ℕ)) (zone : List ℕ) → (not utc && is_none bytes) ≡ false
    → (if utc then None else (if is_some bytes then None else Some zone)) ≡ None
known_if true bytes zone e = refl
known_if false (Some bytes) zone e = refl
known_if false None zone e = cc e

zone_known : (zones : ZonesSeen) (zone : Option (List ℕ))
    → option_and_then (λ z. if is_utc z then None else (if is_some (zones.bytes z) then None else Some z)) zone ≡ None → is_zone_unknown zones zone ≡ false
zone_known zones None e = refl
zone_known zones (Some z) e = needed_if (is_utc z) (zones.bytes z) z e

zone_free : (zones : ZonesSeen) (zone : Option (List ℕ)) → is_zone_unknown zones zone ≡ false
    → option_and_then (λ z. if is_utc z then None else (if is_some (zones.bytes z) then None else Some z)) zone ≡ None
zone_free zones None e = refl
zone_free zones (Some z) e = known_if (is_utc z) (zones.bytes z) z e

-- a token is kept at a place where it is kept
place_none : (kept : List Kept) (token : Option (List ℕ)) → option_and_then (kept_under kept) token ≡ None
    → option_and_then (λ text. option_map {T = Kept} (λ k. k.place) (kept_under kept text)) token ≡ None
place_none kept None e = refl
place_none kept (Some text) e = ap (option_map {T = Kept} (λ k. k.place)) e

kept_none : (kept : List Kept) (token : Option (List ℕ)) → option_and_then (λ text. option_map {T = Kept} (λ k. k.place) (kept_under kept text)) token ≡ None
    → option_and_then (kept_under kept) token ≡ None
kept_none kept None e = refl
kept_none kept (Some text) e = map_none (λ (k : Kept). k.place) (kept_under kept text) e

-- where no rule of a Change is broken, that of moments alone decides
moment_alone : (back : Option Why) (unknown : Bool) (fault : Option RowFault) (kept : Option ℕ) (found : Option Occurrence)
    → unknown ≡ false → fault ≡ None → kept ≡ None → found ≡ None → first_some (back ∷ change_table unknown fault kept found) ≡ back
moment_alone (Some w) unknown fault kept found u f k o = refl
moment_alone None unknown fault kept found u f k o = λ i. first_some (change_table (u i) (f i) (k i) (o i))

pub free_follows : (c : Calendar) (h : History) (t : ℕ) (write : Write) (step : Step) → IsFree c h t write step → why c h (change_at t write) ≡ moment_rule (moment h) (change_at t write)
free_follows c h t write step free =
    moment_alone (moment_rule (moment h) (change_at t write)) (is_zone_unknown (seen c h).zones (zone_of write)) (fault_of h write)
    (option_and_then (kept_place h) (token_of write)) (first_open (seen c h).times t (touched h write))
    (zone_known (seen c h).zones (zone_of write) free.zone) free.allowed (place_none (kept_of h) (token_of write) free.new)
    (none_open c h t (touched h write) free.behind)

pub ready_follows : ReadyFollows
ready_follows c h t write step is =
    let free = ready_is_free c h t write step is in
    (free.change, subst (λ s. why c h s ≡ moment_rule (moment h) s) (sym free.change) (free_follows c h t write step free))

-- where no rule is broken, each is kept
each_kept : (back : Option Why) (unknown : Bool) (fault : Option RowFault) (kept : Option ℕ) (found : Option Occurrence)
    → first_some (back ∷ change_table unknown fault kept found) ≡ None → (unknown ≡ false) × (fault ≡ None) × (kept ≡ None) × (found ≡ None)
each_kept (Some w) unknown fault kept found e = cc e
each_kept None true fault kept found e = cc e
each_kept None false (Some f) kept found e = cc e
each_kept None false None (Some place) found e = cc e
each_kept None false None None (Some o) e = cc e
each_kept None false None None None e = (refl, refl, refl, refl)

ready_by : (c : Calendar) (h : History) (t : ℕ) (write : Write) (found : Option Kept) (plan : Plan) → found ≡ None → plan_of_new c h t write ≡ plans.Ready (change_at t write)
    → IsPlannedBy c h t write found plan → plan ≡ plans.Ready (change_at t write)
ready_by c h t write None plan none ready is = is ∙ ready
ready_by c h t write (Some kept) plan none ready is = cc none

follows_is_ready : (c : Calendar) (h : History) (t : ℕ) (write : Write) (plan : Plan) → IsPlannedBy c h t write (kept_for h write) plan
    → MayFollow c h (change_at t write) → plan ≡ plans.Ready (change_at t write)
follows_is_ready c h t write plan is follows =
    let parts = each_kept (moment_rule (moment h) (change_at t write)) (is_zone_unknown (seen c h).zones (zone_of write)) (fault_of h write)
    (option_and_then (kept_place h) (token_of write)) (first_open (seen c h).times t (touched h write)) follows in
    let zone = zone_free (seen c h).zones (zone_of write) parts.0 in
    let behind = none_behind c h t (touched h write) parts.3 in
    ready_by c h t write (kept_for h write) plan (kept_none (kept_of h) (token_of write) parts.2)
    (λ i. plan_by t write (parts.1 i) (zone i) (behind i)) is

in_time : (last t : ℕ) (why_not : Why) → last ≤ t → when (nat_lt t last) why_not ≡ None
in_time last t why_not le = let early : nat_lt t last ≡ false = grind (arith, nat_tests, le) in ap (λ b. when b why_not) early

pub ready_where_it_may : ReadyWhereItMay
ready_where_it_may c h t write plan is = (
  λ le ready. free_follows c h t write (change_at t write) (ready_is_free c h t write (change_at t write) (subst (IsPlannedBy c h t write (kept_for h write)) ready is))
      ∙ in_time (moment h) t (whys.MomentBack (moment_of (moment h))) le,
  follows_is_ready c h t write plan is,
)

-- ---- the incarnation that is to catch up

catching_same : (a b : ℕ) → plans.CatchUp a ≡ plans.CatchUp b → a ≡ b
catching_same a b e = cc e

-- what stands in the way is an incarnation behind
pub record IsLate (c : Calendar) (h : History) (t : ℕ) (write : Write) (inc : ℕ) : Type 0 where
  pub new : kept_for h write ≡ None
  pub allowed : fault_of h write ≡ None
  pub zone : needed_zone h write ≡ None
  pub behind : first_behind c h t write ≡ Some inc

late_of : (t : ℕ) (write : Write) (fault : Option RowFault) (needed : Option (List ℕ)) (behind : Option ℕ) (inc : ℕ) → plans.CatchUp inc ≡ plan_by t write fault needed behind
    → (fault ≡ None) × (needed ≡ None) × (behind ≡ Some inc)
late_of t write (Some f) needed behind inc e = cc e
late_of t write None (Some z) behind inc e = cc e
late_of t write None None (Some other) inc e = (refl, refl, ap Some (sym (catching_same inc other e)))
late_of t write None None None inc e = cc e

not_late : (kept : Kept) (write : Write) (inc : ℕ) → IsPlanOfKept kept write (plans.CatchUp inc) → ⊥
not_late kept write inc (inl p) = cc p.1
not_late kept write inc (inr p) = cc p.1

late_by : (c : Calendar) (h : History) (t : ℕ) (write : Write) (found : Option Kept) (inc : ℕ) → kept_for h write ≡ found
    → IsPlannedBy c h t write found (plans.CatchUp inc) → IsLate c h t write inc
late_by c h t write None inc new e =
    let parts = late_of t write (fault_of h write) (needed_zone h write) (first_behind c h t write) inc e in
    record { new = new; allowed = parts.0; zone = parts.1; behind = parts.2 }
late_by c h t write (Some kept) inc is e = absurd (not_late kept write inc e)

pub catching_is_late : (c : Calendar) (h : History) (t : ℕ) (write : Write) (inc : ℕ) → IsPlannedBy c h t write (kept_for h write) (plans.CatchUp inc) → IsLate c h t write inc
catching_is_late c h t write inc is = late_by c h t write (kept_for h write) inc refl is

pub catches_up_least : CatchesUpLeast
catches_up_least c h t write inc is = least_behind c h t write inc (catching_is_late c h t write inc is).behind
