-- How a write is served, by its plan.
use Rattle.std.proofs.Common.{◌≡◌, ◌⊎◌, ℕ, ◌+◌, Bool, true, false, not, ◌||◌, ◌==◌, Option, Some, None, Ok, Err, List, [], ◌∷◌, ◌++◌, refl, ap, sym, ◌∙◌, subst, inl, inr}
use Rattle.std.specs.Prelude.{if◌then◌else◌, is_some, nat_le}
use Rattle.std.specs.List.{filter, find}
use Rattle.std.specs.Option.{option_and_then}
use Rattle.plain_words.specs.Lists.{head, some_pass}
use Rattle.plain_words.specs.Moments.{moment_of}
use Rattle.plain_words.proofs.Booleans.{by_bool}
use Rattle.plain_words.proofs.Options.{some_same}
use Rattle.expressions.specs.Calendar.{Calendar}
use Rattle.sched_plain.specs.declared.step.Pair.{Pair}
use Rattle.sched_plain.specs.declared.step.Step.{Step}
use Rattle.sched_plain.specs.declared.step.Step.TheVariants as steps
use Rattle.sched_plain.specs.declared.why.RowFault.{RowFault}
use Rattle.sched_plain.specs.declared.write.Write.{Write}
use Rattle.sched_plain.specs.History.{History, ◌upon◌}
use Rattle.sched_plain.specs.Entries.{entries, is_paired}
use Rattle.sched_plain.specs.Items.{items}
use Rattle.sched_plain.specs.Ledger.{ledger_of}
use Rattle.sched_plain.specs.Marks.{above_floor, unentered, without_pair}
use Rattle.sched_plain.specs.Occurrences.{occ_below}
use Rattle.sched_plain.specs.Rows.{same_text}
use Rattle.sched_plain.specs.Rules.{zone_of}
use Rattle.sched_plain.specs.Tokens.{Kept}
use Rattle.sched_plain.specs.Work.{is_empty}
use Rattle.sched_plain.specs.Zones.{bytes_of, is_utc}
use Rattle.sched_rows.proofs.NameLemmas.{same_text_self}
use Rattle.sched_calls.specs.declared.reply.Refusal.{Refusal}
use Rattle.sched_calls.specs.declared.reply.Reply.{Reply}
use Rattle.sched_calls.specs.Replies.{reply_to, row_refusal, token_refusal}
use Rattle.sched_calls.specs.Serves.{CatchUp, caught_up, next_incarnation, enters_first, Clashes, Faults, Repeats, ZoneSource, is_zone, kept_for, fault_of, needed_zone, lacks_zone, with_zone, zone_step, wanted_enter, words_left}
use Rattle.write_plans.specs.declared.plan.Plan.TheVariants as plans
use Rattle.write_plans.specs.Planning.{IsPlanOfKept, IsPlannedBy, first_behind, is_behind, plan_by, touched}
use Rattle.write_plans.specs.PlanLaws.{KnownRepeats, RefusedIsServed, LackingIsServed, ZonedIsAccepted, EnteredIsAccepted, ReadyIsAccepted}
use Rattle.write_plans.proofs.FollowLemmas.{catching_is_late, ready_is_free}

-- ---- answered before

known_same : (a b : Reply) → plans.Known a ≡ plans.Known b → a ≡ b
known_same a b e = cc e

not_known : (t : ℕ) (write : Write) (fault : Option RowFault) (needed : Option (List ℕ)) (behind : Option ℕ) (reply : Reply) → plans.Known reply ≡ plan_by t write fault needed behind → ⊥
not_known t write (Some f) needed behind reply e = cc e
not_known t write None (Some z) behind reply e = cc e
not_known t write None None (Some inc) reply e = cc e
not_known t write None None None reply e = cc e

known_of : (h : History) (write : Write) (kept : Kept) (reply : Reply) → kept_for h write ≡ Some kept → IsPlanOfKept kept write (plans.Known reply) → Repeats h write h (Ok reply)
known_of h write kept reply found (inl p) =
    record { kept = kept; found = found; repeated = p.0; unchanged = refl; answered = ap (λ (r : Reply). Ok r) (known_same reply (reply_to write) p.1) }
known_of h write kept reply found (inr p) = cc p.1

known_by : (c : Calendar) (h : History) (t : ℕ) (write : Write) (found : Option Kept) (reply : Reply) → kept_for h write ≡ found
    → IsPlannedBy c h t write found (plans.Known reply) → Repeats h write h (Ok reply)
known_by c h t write None reply is e = absurd (not_known t write (fault_of h write) (needed_zone h write) (first_behind c h t write) reply e)
known_by c h t write (Some kept) reply is e = known_of h write kept reply is e

pub known_repeats : KnownRepeats
known_repeats c h t write reply is = known_by c h t write (kept_for h write) reply refl is

-- ---- refused

refused_same : (a b : Refusal) → plans.Refused a ≡ plans.Refused b → a ≡ b
refused_same a b e = cc e

faulty_of : (t : ℕ) (write : Write) (fault : Option RowFault) (needed : Option (List ℕ)) (behind : Option ℕ) (refusal : Refusal) → plans.Refused refusal ≡ plan_by t write fault needed behind
    → (f : RowFault) × (fault ≡ Some f) × (refusal ≡ row_refusal write f)
faulty_of t write (Some f) needed behind refusal e = (f, refl, refused_same refusal (row_refusal write f) e)
faulty_of t write None (Some z) behind refusal e = cc e
faulty_of t write None None (Some inc) refusal e = cc e
faulty_of t write None None None refusal e = cc e

clash_of : (h : History) (write : Write) (kept : Kept) (refusal : Refusal) → kept_for h write ≡ Some kept → IsPlanOfKept kept write (plans.Refused refusal)
    → Clashes h write h (Err refusal)
clash_of h write kept refusal found (inl p) = cc p.1
clash_of h write kept refusal found (inr p) =
    record { kept = kept; found = found; other = p.0; unchanged = refl; answered = ap (λ (r : Refusal). Err r) (refused_same refusal (token_refusal kept.place) p.1) }

refused_by : (c : Calendar) (h : History) (t : ℕ) (write : Write) (found : Option Kept) (refusal : Refusal) → kept_for h write ≡ found
    → IsPlannedBy c h t write found (plans.Refused refusal) → Clashes h write h (Err refusal) ⊎ Faults h write h (Err refusal)
refused_by c h t write None refusal new e =
    let faulty = faulty_of t write (fault_of h write) (needed_zone h write) (first_behind c h t write) refusal e in
    inr (record { new = new; fault = faulty.0; found = faulty.1; unchanged = refl; answered = ap (λ (r : Refusal). Err r) faulty.2 })
refused_by c h t write (Some kept) refusal is e = inl (clash_of h write kept refusal is e)

pub refused_is_served : RefusedIsServed
refused_is_served c h t write refusal is = refused_by c h t write (kept_for h write) refusal refl is

-- ---- a zone is needed

needs_same : (a b : List ℕ) → plans.NeedsZone a ≡ plans.NeedsZone b → a ≡ b
needs_same a b e = cc e

pub record IsZoneless (h : History) (write : Write) (zone : List ℕ) : Type 0 where
  pub new : kept_for h write ≡ None
  pub allowed : fault_of h write ≡ None
  pub needed : needed_zone h write ≡ Some zone

zoneless_of : (t : ℕ) (write : Write) (fault : Option RowFault) (needed : Option (List ℕ)) (behind : Option ℕ) (zone : List ℕ) → plans.NeedsZone zone ≡ plan_by t write fault needed behind
    → (fault ≡ None) × (needed ≡ Some zone)
zoneless_of t write (Some f) needed behind zone e = cc e
zoneless_of t write None (Some z) behind zone e = (refl, ap (λ (n : List ℕ). Some n) (sym (needs_same zone z e)))
zoneless_of t write None None (Some inc) zone e = cc e
zoneless_of t write None None None zone e = cc e

not_zoneless : (kept : Kept) (write : Write) (zone : List ℕ) → IsPlanOfKept kept write (plans.NeedsZone zone) → ⊥
not_zoneless kept write zone (inl p) = cc p.1
not_zoneless kept write zone (inr p) = cc p.1

zoneless_by : (c : Calendar) (h : History) (t : ℕ) (write : Write) (found : Option Kept) (zone : List ℕ) → kept_for h write ≡ found
    → IsPlannedBy c h t write found (plans.NeedsZone zone) → IsZoneless h write zone
zoneless_by c h t write None zone new e =
    let parts = zoneless_of t write (fault_of h write) (needed_zone h write) (first_behind c h t write) zone e in
    record { new = new; allowed = parts.0; needed = parts.1 }
zoneless_by c h t write (Some kept) zone is e = absurd (not_zoneless kept write zone e)

pub needs_is_zoneless : (c : Calendar) (h : History) (t : ℕ) (write : Write) (zone : List ℕ) → IsPlannedBy c h t write (kept_for h write) (plans.NeedsZone zone) → IsZoneless h write zone
needs_is_zoneless c h t write zone is = zoneless_by c h t write (kept_for h write) zone refl is

pub lacking_is_served : LackingIsServed
lacking_is_served c h t write zone is source lacks =
    let zoneless = needs_is_zoneless c h t write zone is in
    record { new = zoneless.new; allowed = zoneless.allowed; lacking = ap (lacks_zone c source) zoneless.needed ∙ lacks; unchanged = refl; answered = refl }

-- behind its Zone step a zone is needed no more
had_if : (utc same : Bool) (bytes : List ℕ) (old : Option (List ℕ)) (zone : List ℕ) → same ≡ true
    → (if utc then None else (if is_some (if same then Some bytes else old) then None else Some zone)) ≡ None
had_if true same bytes old zone e = refl
had_if false true bytes old zone e = refl
had_if false false bytes old zone e = cc e

named_if : (utc known : Bool) (z zone : List ℕ) → (if utc then None else (if known then None else Some z)) ≡ Some zone → z ≡ zone
named_if true known z zone e = cc e
named_if false true z zone e = cc e
named_if false false z zone e = some_same z zone e

had_of : (bytes_then : List ℕ → Option (List ℕ)) (bytes zone : List ℕ) (named : Option (List ℕ))
    → option_and_then (λ z. if is_utc z then None else (if is_some (bytes_then z) then None else Some z)) named ≡ Some zone
    → option_and_then (λ z. if is_utc z then None else (if is_some (if same_text z zone then Some bytes else bytes_then z) then None else Some z)) named ≡ None
had_of bytes_then bytes zone None e = refl
had_of bytes_then bytes zone (Some z) e =
    had_if (is_utc z) (same_text z zone) bytes (bytes_then z) z
    (subst (λ (n : List ℕ). same_text z n ≡ true) (named_if (is_utc z) (is_some (bytes_then z)) z zone e) (same_text_self z))

pub had_after : (h : History) (t : ℕ) (write : Write) (zone bytes : List ℕ) → needed_zone h write ≡ Some zone
    → needed_zone (steps.Zone (moment_of t) zone bytes upon h) write ≡ None
had_after h t write zone bytes e = had_of (bytes_of h) bytes zone (zone_of write) e

not_lacking : (c : Calendar) (source : ZoneSource) (zone bytes : List ℕ) → source zone ≡ Some bytes → is_zone c bytes ≡ true → lacks_zone c source (Some zone) ≡ false
not_lacking c source zone bytes had is = (λ i. not (some_pass (is_zone c) (had i))) ∙ ap not is

pub zoned_after : (source : ZoneSource) (t : ℕ) (h : History) (zone bytes : List ℕ) (needed : Option (List ℕ)) → needed ≡ Some zone → source zone ≡ Some bytes
    → with_zone source t needed h ≡ (steps.Zone (moment_of t) zone bytes upon h)
zoned_after source t h zone bytes needed needs had = (λ i. with_zone source t (needs i) h) ∙ (λ i. zone_step t zone (had i) h)

pub zoned_is_accepted : ZonedIsAccepted
zoned_is_accepted c h t write zone bytes is source had is_one words left after answer accepted =
    let zoneless = needs_is_zoneless c h t write zone is in
    let zoned : History = steps.Zone (moment_of t) zone bytes upon h in
    let later = had_after h t write zone bytes zoneless.needed in
    let caught : CatchUp c t (touched h write) zoned words accepted.entered left =
    subst (λ (needed : Option (List ℕ)). CatchUp c t (touched h write) (with_zone source t needed zoned) words accepted.entered left) later accepted.caught_up in
    record {
      new = zoneless.new;
      allowed = zoneless.allowed;
      zone = ap (lacks_zone c source) zoneless.needed ∙ not_lacking c source zone bytes had is_one;
      entered = accepted.entered;
      caught_up = subst (λ (g : History). CatchUp c t (touched h write) g words accepted.entered left) (sym (zoned_after source t h zone bytes (needed_zone h write) zoneless.needed had)) caught;
      added = accepted.added;
      answered = accepted.answered;
    }

-- ---- an incarnation is to catch up

-- what is behind has an unentered occurrence, and what is not has none
open_of : (open_here : List ℕ) → not (is_empty open_here) ≡ true → (instant : ℕ) × (head open_here ≡ Some instant)
open_of [] e = cc e
open_of (i ∷ is) e = (i, refl)

no_head : (open_here : List ℕ) (instant : ℕ) (P : Type 0) → open_here ≡ [] → head open_here ≡ Some instant → P
no_head [] instant P none e = cc e
no_head (i ∷ is) instant P none e = cc none

empty_of : (open_here : List ℕ) → not (is_empty open_here) ≡ false → open_here ≡ []
empty_of [] e = refl
empty_of (i ∷ is) e = cc e

-- more pairs leave nothing where nothing was left
paired_at : (here there more : Bool) → (here || there) ≡ true → (there ≡ true → more ≡ true) → (here || more) ≡ true
paired_at true there more e f = refl
paired_at false there more e f = f e

paired_more : (ps qs : List Pair) (i : ℕ) → is_paired ps i ≡ true → is_paired (ps ++ qs) i ≡ true
paired_more [] qs i e = cc e
paired_more (p ∷ ps) qs i e = paired_at (i == p.instant) (is_paired ps i) (is_paired (ps ++ qs) i) e (paired_more ps qs i)

none_at : (paired more : Bool) (i : ℕ) (rest less : List ℕ) → (if not paired then i ∷ rest else rest) ≡ [] → (paired ≡ true → more ≡ true) → (rest ≡ [] → less ≡ [])
    → (if not more then i ∷ less else less) ≡ []
none_at true true i rest less e f g = g e
none_at true false i rest less e f g = cc (f refl)
none_at false more i rest less e f g = cc e

none_more : (ps qs : List Pair) (instants : List ℕ) → without_pair ps instants ≡ [] → without_pair (ps ++ qs) instants ≡ []
none_more ps qs [] e = refl
none_more ps qs (i ∷ is) e =
    none_at (is_paired ps i) (is_paired (ps ++ qs) i) i (without_pair ps is) (without_pair (ps ++ qs) is) e (paired_more ps qs i) (none_more ps qs is)

none_if : (b : Bool) (ps qs : List Pair) (instants : List ℕ) → without_pair ps instants ≡ [] → without_pair (if b then ps ++ qs else ps) instants ≡ []
none_if true ps qs instants e = none_more ps qs instants e
none_if false ps qs instants e = e

-- so an Enter leaves nothing of an incarnation unentered where nothing was
still_entered : (c : Calendar) (h : History) (at : ℕ) (of : ℕ) (pairs : List Pair) (inc t : ℕ) → unentered c h inc t ≡ []
    → unentered c (steps.Enter (moment_of at) of pairs upon h) inc t ≡ []
still_entered c h at of pairs inc t e =
    none_if (inc == of) (entries (ledger_of h) inc) pairs (filter (nat_le (above_floor h inc)) (occ_below c (items h inc) (t + 1))) e

-- nothing is entered of an incarnation that has nothing unentered
behind_next : (c : Calendar) (t : ℕ) (g : History) (x : ℕ) (xs : List ℕ) (words : List ℕ) (after : History) (left : List ℕ) → unentered c g x t ≡ []
    → CatchUp c t (x ∷ xs) g words after left → CatchUp c t xs g words after left
behind_next c t g x xs words after left none (next_incarnation empty rest) = rest
behind_next c t g x xs words after left none (enters_first {instant = instant} opens rest) = no_head (unentered c g x t) instant (CatchUp c t xs g words after left) none opens

-- the first that is behind has an unentered occurrence
found_passes : (test : ℕ → Bool) (xs : List ℕ) (found : ℕ) → find test xs ≡ Some found → test found ≡ true
found_passes test [] found e = cc e
found_passes test (x ∷ xs) found e =
    by_bool (λ b. test x ≡ b → (if b then Some x else find test xs) ≡ Some found → test found ≡ true) (test x)
    (λ yes-here passes there. subst (λ (n : ℕ). test n ≡ true) (some_same x found there) passes)
    (λ no-here fails there. found_passes test xs found there)
    refl e

behind_head : (c : Calendar) (h : History) (t : ℕ) (write : Write) (inc : ℕ) → first_behind c h t write ≡ Some inc → (instant : ℕ) × (head (unentered c h inc t) ≡ Some instant)
behind_head c h t write inc e = open_of (unentered c h inc t) (found_passes (is_behind c h t) (touched h write) inc e)

-- a catching up behind the Enter of the first that is behind is one before it
catches_behind : (c : Calendar) (t : ℕ) (h g : History) (inc : ℕ) (words words' : List ℕ) (after : History) (left : List ℕ)
    → ((x : ℕ) → unentered c h x t ≡ [] → unentered c g x t ≡ [])
    → ((rest : List ℕ) → CatchUp c t (inc ∷ rest) g words' after left → CatchUp c t (inc ∷ rest) h words after left)
    → (incs : List ℕ) → find (is_behind c h t) incs ≡ Some inc → CatchUp c t incs g words' after left → CatchUp c t incs h words after left
catches_behind c t h g inc words words' after left still enter [] e later = cc e
catches_behind c t h g inc words words' after left still enter (x ∷ xs) e later =
    by_bool (λ b. is_behind c h t x ≡ b → (if b then Some x else find (is_behind c h t) xs) ≡ Some inc → CatchUp c t (x ∷ xs) h words after left)
    (is_behind c h t x)
    (λ yes-here behind found. let same : x ≡ inc = some_same x inc found in
    subst (λ (n : ℕ). CatchUp c t (n ∷ xs) g words' after left → CatchUp c t (n ∷ xs) h words after left) (sym same) (enter xs) later)
    (λ no-here behind found. let none = empty_of (unentered c h x t) behind in
    next_incarnation none (catches_behind c t h g inc words words' after left still enter xs found (behind_next c t g x xs words' after left (still x none) later)))
    refl e

pub entered_is_accepted : EnteredIsAccepted
entered_is_accepted c h t write inc is source words left after answer accepted =
    let late = catching_is_late c h t write inc is in
    let entered : History = wanted_enter c h inc t words upon h in
    let caught : CatchUp c t (touched h write) entered (words_left c h inc t words) accepted.entered left =
    subst (λ (needed : Option (List ℕ)). CatchUp c t (touched h write) (with_zone source t needed entered) (words_left c h inc t words) accepted.entered left) late.zone accepted.caught_up in
    let here : CatchUp c t (touched h write) h words accepted.entered left =
    catches_behind c t h entered inc words (words_left c h inc t words) accepted.entered left
    (λ x none. still_entered c h t inc _ x t none) (λ rest more. enters_first (behind_head c h t write inc late.behind).1 more)
    (touched h write) late.behind caught in
    record {
      new = late.new;
      allowed = late.allowed;
      zone = ap (lacks_zone c source) late.zone;
      entered = accepted.entered;
      caught_up = subst (λ (needed : Option (List ℕ)). CatchUp c t (touched h write) (with_zone source t needed h) words accepted.entered left) (sym late.zone) here;
      added = accepted.added;
      answered = accepted.answered;
    }

-- ---- the Change is ready

none_or : (b : Bool) (x : ℕ) (rest : Option ℕ) → (if b then Some x else rest) ≡ None → (b ≡ false) × (rest ≡ None)
none_or true x rest e = cc e
none_or false x rest e = (refl, e)

-- where none of some incarnations is behind they are caught up
none_to_catch : (c : Calendar) (t : ℕ) (h : History) (words : List ℕ) (incs : List ℕ) → find (is_behind c h t) incs ≡ None → CatchUp c t incs h words h words
none_to_catch c t h words [] e = caught_up
none_to_catch c t h words (x ∷ xs) e =
    let parts = none_or (is_behind c h t x) x (find (is_behind c h t) xs) e in
    next_incarnation (empty_of (unentered c h x t) parts.0) (none_to_catch c t h words xs parts.1)

pub ready_is_accepted : ReadyIsAccepted
ready_is_accepted c h t write step is source words =
    let free = ready_is_free c h t write step is in
    record {
      new = free.new;
      allowed = free.allowed;
      zone = ap (lacks_zone c source) free.zone;
      entered = h;
      caught_up = subst (λ (needed : Option (List ℕ)). CatchUp c t (touched h write) (with_zone source t needed h) words h words) (sym free.zone) (none_to_catch c t h words (touched h write) free.behind);
      added = ap (λ (s : Step). s upon h) free.change;
      answered = refl;
    }
