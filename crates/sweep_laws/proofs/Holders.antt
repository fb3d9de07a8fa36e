-- No worker but worker 0 holds a shard while requests are served.
use Rattle.std.proofs.Common.{◌≡◌, ℕ, ◌+◌, ◌≤◌, Bool, true, false, Option, Some, None, Result, Ok, Err, List, length, refl, ap, sym, ◌∙◌, arith, inl, inr}
use Rattle.std.specs.Prelude.{◌==◌, ◌&&◌, nat_lt, not}
use Rattle.std.proofs.lemmas.Bool.{ltb-false}
use Rattle.plain_words.proofs.Booleans.{and_true, and_false}
use Rattle.std.proofs.lemmas.Bool.Decides.{nat_tests}
use Rattle.sched_calls.specs.declared.call.Call.TheVariants as calls
use Rattle.sched_calls.specs.declared.reply.Refusal.{Refusal}
use Rattle.sched_calls.specs.declared.reply.Reply.{Reply}
use Rattle.sched_plain.specs.declared.holder.Holder.{Holder}
use Rattle.sched_plain.specs.declared.write.Write.{Write}
use Rattle.expressions.specs.Calendar.{Calendar}
use Rattle.sched_plain.specs.History.{History}
use Rattle.sched_plain.specs.Leases.{holder, is_held}
use Rattle.sched_calls.specs.Serves.{End, ZoneSource, CatchUp, caught_up, next_incarnation, enters_first, Works, settled, enters, closes, begins, completes, Sweeps, swept, next_shard, ServesWrite, needed_zone, zone_step, with_zone}
use Rattle.sweep_laws.specs.KeptLaws.{NoOtherHolds, HasEpochs}
use Rattle.sweep_laws.specs.HoldLaws.{BootsFree, LaterFree, ServesFree, ServesEpochs}
use Rattle.sweep_laws.proofs.Kept.{free_behind, epochs_behind}

never_past : (t : ℕ) → nat_lt t 0 ≡ false
never_past t = grind (arith, nat_tests)

pub boots_free : BootsFree
boots_free h at t shard = ap (λ (b : Bool). b && not (0 == (holder h shard).worker)) (never_past t)

past : (t later until : ℕ) → t ≤ later → nat_lt t until ≡ false → nat_lt later until ≡ false
past t later until le free = let no : until ≤ t = ltb-false t until free in grind (arith, nat_tests)

later_case : (t later until : ℕ) (other : Bool) → t ≤ later → (nat_lt t until && other) ≡ false → (nat_lt later until && other) ≡ false
later_case t later until true le free = ap (λ (b : Bool). b && true) (past t later until le (sym (and_true (nat_lt t until)) ∙ free))
later_case t later until false le free = and_false (nat_lt later until)

pub later_free : LaterFree
later_free h t later le free shard = later_case t later (holder h shard).until (not (0 == (holder h shard).worker)) le (free shard)

-- ---- a sweep

works_hold : {c : Calendar} {t shard : ℕ} {h after : History} {words left : List ℕ} {ends ends_left : List End}
    → Works c t shard h words ends after left ends_left → (s : ℕ) → holder after s ≡ holder h s
works_hold (settled e) s = refl
works_hold (enters e more) s = works_hold more s
works_hold (closes e more) s = works_hold more s
works_hold (begins e more) s = works_hold more s
works_hold (completes e more) s = works_hold more s

sweeps_free : {c : Calendar} {t : ℕ} {shards : List ℕ} {h after : History} {words left : List ℕ} {ends ends_left : List End}
    → Sweeps c t shards h words ends after left ends_left → NoOtherHolds h t → NoOtherHolds after t
sweeps_free swept free = free
sweeps_free {t = t} (next_shard {shard = shard} {h = h} {mid = mid} worked more) free = sweeps_free more (free_behind h mid t shard (works_hold worked) free)

sweeps_epochs : {c : Calendar} {t : ℕ} {shards : List ℕ} {h after : History} {words left : List ℕ} {ends ends_left : List End} (n : ℕ)
    → Sweeps c t shards h words ends after left ends_left → HasEpochs h (n + length shards) → HasEpochs after n
sweeps_epochs n swept fits = λ s. let all = fits s in omega (arith, all)
sweeps_epochs {t = t} n (next_shard {shard = shard} {shards = shards} {h = h} {mid = mid} worked more) fits =
    sweeps_epochs n more (epochs_behind h mid t shard (n + length shards) (works_hold worked) (λ s. let all = fits s in omega (arith, all)))

-- ---- a write

catch_hold : {c : Calendar} {t : ℕ} {incs : List ℕ} {h after : History} {words left : List ℕ} → CatchUp c t incs h words after left → (s : ℕ) → holder after s ≡ holder h s
catch_hold caught_up s = refl
catch_hold (next_incarnation e more) s = catch_hold more s
catch_hold (enters_first e more) s = catch_hold more s

step_holds : (t : ℕ) (zone : List ℕ) (bytes : Option (List ℕ)) (h : History) (s : ℕ) → holder (zone_step t zone bytes h) s ≡ holder h s
step_holds t zone None h s = refl
step_holds t zone (Some bytes) h s = refl

zone_holds : (source : ZoneSource) (t : ℕ) (needed : Option (List ℕ)) (h : History) (s : ℕ) → holder (with_zone source t needed h) s ≡ holder h s
zone_holds source t None h s = refl
zone_holds source t (Some zone) h s = step_holds t zone (source zone) h s

same_holders : (h after : History) → after ≡ h → (s : ℕ) → holder after s ≡ holder h s
same_holders h after same s = ap (λ (x : History). holder x s) same

write_holds : (c : Calendar) (source : ZoneSource) (t : ℕ) (h after : History) (write : Write) (words left : List ℕ) (answer : Result Reply Refusal)
    → ServesWrite c source t h write words after left answer → (s : ℕ) → holder after s ≡ holder h s
write_holds c source t h after write words left answer (inl (same, inl repeats)) s = same_holders h after repeats.unchanged s
write_holds c source t h after write words left answer (inl (same, inr (inl clashes))) s = same_holders h after clashes.unchanged s
write_holds c source t h after write words left answer (inl (same, inr (inr (inl faults)))) s = same_holders h after faults.unchanged s
write_holds c source t h after write words left answer (inl (same, inr (inr (inr lacks)))) s = same_holders h after lacks.unchanged s
write_holds c source t h after write words left answer (inr accepts) s =
    ap (λ (x : History). holder x s) accepts.added ∙ catch_hold accepts.caught_up s ∙ zone_holds source t (needed_zone h write) h s

-- ---- a request

alike_free : (h after : History) (t : ℕ) → ((s : ℕ) → holder after s ≡ holder h s) → NoOtherHolds h t → NoOtherHolds after t
alike_free h after t same free s = ap (λ (x : Holder). is_held x t 0) (same s) ∙ free s

alike_epochs : (h after : History) (n : ℕ) → ((s : ℕ) → holder after s ≡ holder h s) → HasEpochs h (n + 8) → HasEpochs after n
alike_epochs h after n same fits s =
    let e = ap (λ (x : Holder). x.epoch) (same s) in let all = fits s in omega (arith, e, all)

pub serves_free : ServesFree
serves_free c source t h after words left ends ends_left (Err refusal) answer serves free = alike_free h after t (same_holders h after serves.0) free
serves_free c source t h after words left ends ends_left (Ok (calls.Read read)) answer serves free = alike_free h after t (same_holders h after serves.0) free
serves_free c source t h after words left ends ends_left (Ok calls.Sweep) answer serves free = sweeps_free serves.0 free
serves_free c source t h after words left ends ends_left (Ok (calls.Write write)) answer serves free =
    alike_free h after t (write_holds c source t h after write words left answer serves.0) free

pub serves_epochs : ServesEpochs
serves_epochs c source t h after words left ends ends_left (Err refusal) answer n serves fits = alike_epochs h after n (same_holders h after serves.0) fits
serves_epochs c source t h after words left ends ends_left (Ok (calls.Read read)) answer n serves fits = alike_epochs h after n (same_holders h after serves.0) fits
serves_epochs c source t h after words left ends ends_left (Ok calls.Sweep) answer n serves fits = sweeps_epochs n serves.0 fits
serves_epochs c source t h after words left ends ends_left (Ok (calls.Write write)) answer n serves fits =
    alike_epochs h after n (write_holds c source t h after write words left answer serves.0) fits
