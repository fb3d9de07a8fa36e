-- What a Close is told of where an entry stands, and when it may follow.
use Rattle.std.proofs.Common.{◌≡◌, ℕ, ◌≤◌, Bool, true, false, Option, Some, None, [], ◌∷◌, refl, ap, subst}
use Rattle.std.specs.Prelude.{nat_le, nat_lt, is_some, if◌then◌else◌}
use Rattle.std.specs.Option.{option_map, option_and_then}
use Rattle.plain_words.specs.Lists.{first_some, when}
use Rattle.plain_words.specs.Moments.{moment_of}
use Rattle.sched_plain.specs.declared.entry.Filed.{Filed}
use Rattle.sched_plain.specs.declared.outcome.Reason.{Reason}
use Rattle.sched_plain.specs.declared.outcome.Reason.TheVariants as reasons
use Rattle.sched_plain.specs.declared.standing.Standing.{Standing}
use Rattle.sched_plain.specs.declared.standing.Standing.TheVariants as standings
use Rattle.sched_plain.specs.declared.step.Step.{Step}
use Rattle.sched_plain.specs.declared.step.Step.TheVariants as steps
use Rattle.sched_plain.specs.declared.why.Why.{Why}
use Rattle.sched_plain.specs.declared.why.Why.TheVariants as whys
use Rattle.sched_plain.specs.declared.work.Work.TheVariants as works
use Rattle.sched_plain.specs.History.{History}
use Rattle.sched_plain.specs.Moments.{moment}
use Rattle.sched_plain.specs.Ledger.{ledger_of}
use Rattle.sched_plain.specs.Entries.{filed}
use Rattle.sched_plain.specs.Standing.{standing_of}
use Rattle.sched_plain.specs.Rules.{close_table, unless_exhausted}
use Rattle.sched_plain.specs.Legal.{why, MayFollow}
use Rattle.sched_plain.specs.Seen.{seen}
use Rattle.sched_plain.specs.Work.{work, act_of, wanted_by}
use Rattle.book_parts.specs.Stands.{calendar}
use Rattle.sweep_laws.proofs.Follow.{asks_close, on_time}
use Rattle.durable_book.specs.declared.denial.Denial.{Denial}
use Rattle.durable_book.specs.declared.denial.Denial.TheVariants as denials
use Rattle.durable_book.specs.Faults.{IsOfClosing}
use Rattle.durable_book.specs.Keeping.{IsJudged, IsRule}
use Rattle.durable_book.specs.Steps.{HasEntry, standing_at, reason_in, close_with}
use Rattle.durable_book.proofs.TakingLemmas.{in_time}

-- the Close for the first reason, by which the standing is asked
abbrev pub asking : ℕ → ℕ → ℕ → Step
asking t inc instant = steps.Close (moment_of t) inc instant reasons.Attempts

-- ---- what it is denied for

told_of : (s : Standing) (w : Why) → first_some (unless_exhausted reasons.Attempts s ∷ []) ≡ Some w → IsOfClosing (denials.Rule w)
told_of (standings.Decided outcome) w e = let is : whys.Standing (standings.Decided outcome) ≡ w = cc e in subst (λ x. IsOfClosing (denials.Rule x)) is tt
told_of standings.Live w e = let is : whys.Standing standings.Live ≡ w = cc e in subst (λ x. IsOfClosing (denials.Rule x)) is tt
told_of (standings.Exhausted reasons.Attempts) w e = absurd cc
told_of (standings.Exhausted reasons.Age) w e = let is : whys.Standing (standings.Exhausted reasons.Age) ≡ w = cc e in subst (λ x. IsOfClosing (denials.Rule x)) is tt
told_of (standings.Waiting until) w e = let is : whys.Standing (standings.Waiting until) ≡ w = cc e in subst (λ x. IsOfClosing (denials.Rule x)) is tt
told_of standings.Due w e = let is : whys.Standing standings.Due ≡ w = cc e in subst (λ x. IsOfClosing (denials.Rule x)) is tt

told_case : (late : Bool) (last : Why) (o : Option Filed) (t inc instant : ℕ) (w : Why) → late ≡ false → is_some o ≡ true
    → first_some (when late last ∷ close_table o t inc instant reasons.Attempts) ≡ Some w → IsOfClosing (denials.Rule w)
told_case true last o t inc instant w early there e = absurd cc
told_case false last None t inc instant w early there e = absurd cc
told_case false last (Some f) t inc instant w early there e = told_of (standing_of f t) w e

pub asking_denied : (h : History) (t inc instant : ℕ) (denial : Denial) → moment h ≤ t → HasEntry inc instant h → IsRule denial
    → IsJudged (asking t inc instant) denial h → IsOfClosing denial
asking_denied h t inc instant (denials.Rule w) early there rule judged =
    told_case (nat_lt t (moment h)) (whys.MomentBack (moment_of (moment h))) (filed (ledger_of h) inc instant) t inc instant w (in_time (moment h) t early) there judged
asking_denied h t inc instant (denials.Full end need) early there rule judged = absurd rule
asking_denied h t inc instant denials.DiskFault early there rule judged = absurd rule
asking_denied h t inc instant denials.OutOfMemory early there rule judged = absurd rule

-- ---- what it says of the standing

denied_of : (s told : Standing) → first_some (unless_exhausted reasons.Attempts s ∷ []) ≡ Some (whys.Standing told) → told ≡ s
denied_of (standings.Decided outcome) told e = cc e
denied_of standings.Live told e = cc e
denied_of (standings.Exhausted reasons.Attempts) told e = absurd cc
denied_of (standings.Exhausted reasons.Age) told e = cc e
denied_of (standings.Waiting until) told e = cc e
denied_of standings.Due told e = cc e

denied_case : (late : Bool) (last : ℕ) (o : Option Filed) (t inc instant : ℕ) (told : Standing)
    → first_some (when late (whys.MomentBack (moment_of last)) ∷ close_table o t inc instant reasons.Attempts) ≡ Some (whys.Standing told)
    → Some told ≡ option_map {T = Filed} (λ f. standing_of f t) o
denied_case true last o t inc instant told e = absurd cc
denied_case false last None t inc instant told e = absurd cc
denied_case false last (Some f) t inc instant told e = ap Some (denied_of (standing_of f t) told e)

pub told_standing : (h : History) (t inc instant : ℕ) (told : Standing) → why calendar h (asking t inc instant) ≡ Some (whys.Standing told)
    → Some told ≡ standing_at h t inc instant
told_standing h t inc instant told e = denied_case (nat_lt t (moment h)) (moment h) (filed (ledger_of h) inc instant) t inc instant told e

spent_of : (s : Standing) → first_some (unless_exhausted reasons.Attempts s ∷ []) ≡ None → standings.Exhausted reasons.Attempts ≡ s
spent_of (standings.Decided outcome) e = absurd cc
spent_of standings.Live e = absurd cc
spent_of (standings.Exhausted reasons.Attempts) e = refl
spent_of (standings.Exhausted reasons.Age) e = absurd cc
spent_of (standings.Waiting until) e = absurd cc
spent_of standings.Due e = absurd cc

spent_case : (late : Bool) (last : ℕ) (o : Option Filed) (t inc instant : ℕ)
    → first_some (when late (whys.MomentBack (moment_of last)) ∷ close_table o t inc instant reasons.Attempts) ≡ None
    → Some (standings.Exhausted reasons.Attempts) ≡ option_map {T = Filed} (λ f. standing_of f t) o
spent_case true last o t inc instant e = absurd cc
spent_case false last None t inc instant e = absurd cc
spent_case false last (Some f) t inc instant e = ap Some (spent_of (standing_of f t) e)

pub spent_standing : (h : History) (t inc instant : ℕ) → MayFollow calendar h (asking t inc instant)
    → Some (standings.Exhausted reasons.Attempts) ≡ standing_at h t inc instant
spent_standing h t inc instant e = spent_case (nat_lt t (moment h)) (moment h) (filed (ledger_of h) inc instant) t inc instant e

-- ---- when the Close for its reason may follow

closing_of : (s : Standing) (reason : Reason) → s ≡ standings.Exhausted reason → first_some (unless_exhausted reason s ∷ []) ≡ None
closing_of s reasons.Attempts e = rw e refl
closing_of s reasons.Age e = rw e refl

closing_case : (o : Option Filed) (t inc instant : ℕ) (reason : Reason) → Some (standings.Exhausted reason) ≡ option_map {T = Filed} (λ f. standing_of f t) o
    → first_some (close_table o t inc instant reason) ≡ None
closing_case None t inc instant reason e = absurd cc
closing_case (Some f) t inc instant reason e =
    let is : standing_of f t ≡ standings.Exhausted reason = cc e in closing_of (standing_of f t) reason is

pub close_may : (h : History) (t inc instant : ℕ) (reason : Reason) → moment h ≤ t → Some (standings.Exhausted reason) ≡ standing_at h t inc instant
    → MayFollow calendar h (steps.Close (moment_of t) inc instant reason)
close_may h t inc instant reason early e =
    on_time (moment h) t _ _ early (closing_case (filed (ledger_of h) inc instant) t inc instant reason e)

-- it is the Close of the entry
pub close_is : (h : History) (t inc instant : ℕ) (reason : Reason) → Some (standings.Exhausted reason) ≡ standing_at h t inc instant
    → steps.Close (moment_of t) inc instant reason ≡ close_with h t inc instant
close_is h t inc instant reason e = ap (λ (s : Option Standing). steps.Close (moment_of t) inc instant (reason_in s)) e

-- ---- what it breaks where the entry is open

abbrev pub IsOpen : Standing → Type 0
IsOpen s = (reason : Reason) → s ≡ standings.Exhausted reason → ⊥

open_of : (late : Bool) (last : Why) (s : Standing) → late ≡ false → IsOpen s
    → first_some (when late last ∷ unless_exhausted (reason_in (Some s)) s ∷ []) ≡ Some (whys.Standing s)
open_of true last s early open_ = absurd cc
open_of false last (standings.Decided outcome) early open_ = refl
open_of false last standings.Live early open_ = refl
open_of false last (standings.Exhausted reason) early open_ = absurd (open_ reason refl)
open_of false last (standings.Waiting until) early open_ = refl
open_of false last standings.Due early open_ = refl

open_case : (late : Bool) (last : Why) (o : Option Filed) (t inc instant : ℕ) (s : Standing) → late ≡ false → IsOpen s
    → Some s ≡ option_map {T = Filed} (λ f. standing_of f t) o
    → first_some (when late last ∷ close_table o t inc instant (reason_in (option_map {T = Filed} (λ f. standing_of f t) o))) ≡ Some (whys.Standing s)
open_case late last None t inc instant s early open_ e = absurd cc
open_case late last (Some f) t inc instant s early open_ e =
    let is : s ≡ standing_of f t = cc e in
    subst (λ (x : Standing). first_some (when late last ∷ unless_exhausted (reason_in (Some x)) x ∷ []) ≡ Some (whys.Standing s)) is (open_of late last s early open_)

pub open_denied : (h : History) (t inc instant : ℕ) (s : Standing) → moment h ≤ t → IsOpen s → Some s ≡ standing_at h t inc instant
    → why calendar h (close_with h t inc instant) ≡ Some (whys.Standing s)
open_denied h t inc instant s early open_ e =
    open_case (nat_lt t (moment h)) (whys.MomentBack (moment_of (moment h))) (filed (ledger_of h) inc instant) t inc instant s (in_time (moment h) t early) open_ e

-- ---- what a shard asks for

chosen_work : {A : Type 0} (b : Bool) (o : Option A) (w : A) → (if b then o else None) ≡ Some w → o ≡ Some w
chosen_work true o w e = e
chosen_work false o w e = absurd cc

wanted_close : (s : Standing) (inc instant : ℕ) (reason : Reason) → wanted_by inc instant s ≡ Some (works.Close inc instant reason) → standings.Exhausted reason ≡ s
wanted_close (standings.Decided outcome) inc instant reason e = absurd cc
wanted_close standings.Live inc instant reason e = absurd cc
wanted_close (standings.Exhausted found) inc instant reason e = let same : reason ≡ found = cc e in ap standings.Exhausted same
wanted_close (standings.Waiting until) inc instant reason e = absurd cc
wanted_close standings.Due inc instant reason e = absurd cc

asked_close : (t inc instant : ℕ) (reason : Reason) (o : Option Filed) → option_and_then (act_of t inc instant) o ≡ Some (works.Close inc instant reason)
    → Some (standings.Exhausted reason) ≡ option_map {T = Filed} (λ f. standing_of f t) o
asked_close t inc instant reason None e = absurd cc
asked_close t inc instant reason (Some f) e =
    ap Some (wanted_close (standing_of f t) inc instant reason
    (chosen_work (nat_le f.entry.chosen t) (wanted_by inc instant (standing_of f t)) (works.Close inc instant reason) e))

-- an entry whose Close a shard asks for is exhausted
pub close_standing : (h : History) (shard t inc instant : ℕ) (reason : Reason) → work (seen calendar h) shard t ≡ works.Close inc instant reason
    → Some (standings.Exhausted reason) ≡ standing_at h t inc instant
close_standing h shard t inc instant reason w =
    asked_close t inc instant reason (filed (ledger_of h) inc instant) (asks_close calendar h shard t inc instant reason w)

stands_there : (o : Option Filed) (t : ℕ) (s : Standing) → Some s ≡ option_map {T = Filed} (λ f. standing_of f t) o → is_some o ≡ true
stands_there None t s e = absurd cc
stands_there (Some f) t s e = refl

pub close_has_entry : (h : History) (shard t inc instant : ℕ) (reason : Reason) → work (seen calendar h) shard t ≡ works.Close inc instant reason
    → HasEntry inc instant h
close_has_entry h shard t inc instant reason w =
    stands_there (filed (ledger_of h) inc instant) t (standings.Exhausted reason) (close_standing h shard t inc instant reason w)

-- its Close is the one that is asked for
pub asked_close_is : (h : History) (shard t inc instant : ℕ) (reason : Reason) → work (seen calendar h) shard t ≡ works.Close inc instant reason
    → steps.Close (moment_of t) inc instant reason ≡ close_with h t inc instant
asked_close_is h shard t inc instant reason w = close_is h t inc instant reason (close_standing h shard t inc instant reason w)
