-- A live attempt is the last one of its occurrence, and each step keeps it so.
use Rattle.std.proofs.Common.{◌≡◌, ℕ, ◌+◌, ◌<◌, ◌==◌, Bool, true, false, cond, ◌&&◌, Option, Some, None, List, [], ◌∷◌, ◌++◌, map, length, get_or, refl, sym, ap, ◌∙◌, subst, arith}
use Rattle.std.specs.Prelude.{IfSome}
use Rattle.std.specs.List.{All}
use Rattle.std.proofs.lemmas.Bool.{and_parts, eq-eqb, eqb-true}
use Rattle.std.proofs.lemmas.List.{length-map, get_or-map}
use Rattle.std.proofs.lemmas.List.Elements.{All-push}
use Rattle.plain_words.specs.Lists.{or_else, some_pass}
use Rattle.plain_words.specs.declared.verdict.Verdict.{Verdict}
use Rattle.sched_plain.specs.declared.entry.Attempt.{Attempt}
use Rattle.sched_plain.specs.declared.entry.Fate.{Fate}
use Rattle.sched_plain.specs.declared.entry.Fate.TheVariants as fates
use Rattle.sched_plain.specs.declared.entry.Filed.{Filed}
use Rattle.sched_plain.specs.declared.outcome.Outcome.{Outcome}
use Rattle.sched_plain.specs.declared.outcome.Outcome.TheVariants as outcomes
use Rattle.sched_plain.specs.declared.schedule.Policy.{Policy}
use Rattle.sched_plain.specs.declared.step.Pair.{Pair}
use Rattle.sched_plain.specs.Attempts.{begun_attempt, end_attempt, is_live_attempt, is_live_last, lose_attempt, lost_fate}
use Rattle.sched_plain.specs.Entries.{changed_if, decided_as, filed_by, is_lost_in, on_entry, with_begin, with_end, with_loss}
use Rattle.sched_plain.specs.Report.{is_due}
use Rattle.sched_plain.specs.Standing.{standing_of}
use Rattle.entry_lines.specs.Rows.{LaneRows}
use Rattle.ledger_rows.specs.Rows.{attempts_at, filed_at}
use Rattle.ledger_rows.specs.State.{AreLast, ChangesIn, IsLastLive, Loses, RowsAre, attempts_in, filed_in, is_live_fate, lane_of, rows_cancelled, rows_entered, same_rows}
use Rattle.ledger_rows.proofs.FlightLemmas.{false_true}
use Rattle.ledger_rows.proofs.Standing.{attempts_if_cancelled, attempts_if_entered, filed_if_cancelled, filed_if_entered}
use Rattle.ledger_rows.proofs.StandingLemmas.{due_is}

-- attempts that were changed one by one
all_mapped : (P Q : Attempt → Type 0) (f : Attempt → Attempt) (xs : List Attempt) → All P xs → ((x : Attempt) → P x → Q (f x)) → All Q (map f xs)
all_mapped P Q f xs all step j d lt =
    let within : j < length xs = let long = length-map {A = Attempt} xs f in omega (arith, long, lt) in
    subst Q (sym (get_or-map {X = Attempt} f xs j d d within)) (step (get_or xs j d) (all j d within))

-- what is looked up is this
last_seen : (f now : Option Filed) (a attempts : List Attempt) → now ≡ f → attempts ≡ a → IsLastLive f a → IsLastLive now attempts
last_seen f now a attempts e r last = subst (IsLastLive now) (sym r) (subst (λ (o : Option Filed). IsLastLive o a) (sym e) last)

pub last_same : (old new : List LaneRows) → RowsAre old new same_rows → AreLast old → AreLast new
last_same old new are last i k = subst (λ rows. IsLastLive (filed_at rows k) (attempts_at rows k)) (sym (are i)) (last i k)

decided_one : (t : Bool) (outcome : Outcome) (o : Option Filed) (attempts : List Attempt) → IsLastLive o attempts → IsLastLive (changed_if t (decided_as outcome) o) attempts
decided_one true outcome None attempts last = last
decided_one true outcome (Some f) attempts last = last
decided_one false outcome o attempts last = last

pub last_decided : (old new : List LaneRows) (inc instant : ℕ) (outcome : Outcome) → ChangesIn old new inc instant (decided_as outcome) (λ before. before) → AreLast old → AreLast new
last_decided old new inc instant outcome changes last i k =
    let t = i == inc && k == instant in
    last_seen (changed_if t (decided_as outcome) (filed_in old i k)) (filed_in new i k) (attempts_in old i k) (attempts_in new i k) (changes.filed i k)
    (changes.attempts i k ∙ either t (attempts_in old i k)) (decided_one t outcome (filed_in old i k) (attempts_in old i k) (last i k))
  where
    either : (b : Bool) (attempts : List Attempt) → cond b attempts attempts ≡ attempts
    either true attempts = refl
    either false attempts = refl

pub last_cancelled : (old new : List LaneRows) (inc : ℕ) → RowsAre old new (rows_cancelled inc) → AreLast old → AreLast new
last_cancelled old new inc are last i k =
    last_seen (changed_if (i == inc) (decided_as outcomes.Cancelled) (filed_in old i k)) (filed_in new i k) (attempts_in old i k) (attempts_in new i k)
    (ap (λ rows. filed_at rows k) (are i) ∙ filed_if_cancelled (i == inc) (lane_of old i).rows k)
    (ap (λ rows. attempts_at rows k) (are i) ∙ attempts_if_cancelled (i == inc) (lane_of old i).rows k)
    (decided_one (i == inc) outcomes.Cancelled (filed_in old i k) (attempts_in old i k) (last i k))

-- an occurrence with no entry has no live attempt
entered_one : (t : Bool) (o new : Option Filed) (attempts : List Attempt) → IsLastLive o attempts → IsLastLive (cond t (or_else o new) o) attempts
entered_one true None new attempts last = λ j d lt live. false_true false refl (last j d lt live)
entered_one true (Some f) new attempts last = last
entered_one false o new attempts last = last

pub last_entered : (old new : List LaneRows) (inc : ℕ) (policy : Policy) (pairs : List Pair) → RowsAre old new (rows_entered inc policy pairs) → AreLast old → AreLast new
last_entered old new inc policy pairs are last i k =
    last_seen (cond (i == inc) (or_else (filed_in old i k) (filed_by policy pairs k)) (filed_in old i k)) (filed_in new i k) (attempts_in old i k) (attempts_in new i k)
    (ap (λ rows. filed_at rows k) (are i) ∙ filed_if_entered (i == inc) policy pairs (lane_of old i).rows k)
    (ap (λ rows. attempts_at rows k) (are i) ∙ attempts_if_entered (i == inc) policy pairs (lane_of old i).rows k)
    (entered_one (i == inc) (filed_in old i k) (filed_by policy pairs k) (attempts_in old i k) (last i k))

-- lost attempts are not live
lost_not_live : (fate : Fate) → is_live_fate (lost_fate fate) ≡ false
lost_not_live fates.Live = refl
lost_not_live fates.Lost = refl
lost_not_live (fates.Ended verdict status) = refl

lost_one : (t : Bool) (at : ℕ) (o : Option Filed) (attempts : List Attempt) → IsLastLive o attempts
    → IsLastLive (changed_if t (with_loss at) o) (cond t (map lose_attempt attempts) attempts)
lost_one true at o attempts last =
    all_mapped (λ attempt. is_live_fate attempt.fate ≡ true → is_live_attempt o attempt.number ≡ true)
    (λ attempt. is_live_fate attempt.fate ≡ true → is_live_attempt (changed_if true (with_loss at) o) attempt.number ≡ true)
    lose_attempt attempts last (λ attempt was live. false_true (is_live_fate (lost_fate attempt.fate)) (lost_not_live attempt.fate) live)
lost_one false at o attempts last = last

pub last_lost : (old new : List LaneRows) (shard : Option ℕ) (at : ℕ) → Loses old new (λ i k. is_lost_in shard i) at → AreLast old → AreLast new
last_lost old new shard at loses last i k =
    last_seen (changed_if (is_lost_in shard i) (with_loss at) (filed_in old i k)) (filed_in new i k)
    (cond (is_lost_in shard i) (map lose_attempt (attempts_in old i k)) (attempts_in old i k)) (attempts_in new i k) (loses.filed i k) (loses.attempts i k)
    (lost_one (is_lost_in shard i) at (filed_in old i k) (attempts_in old i k) (last i k))

-- a test of one occurrence
there : (i k inc instant : ℕ) → (i == inc && k == instant) ≡ true → (i ≡ inc) × (k ≡ instant)
there i k inc instant e = let parts = and_parts (i == inc) (k == instant) e in (eqb-true i inc parts.0, eqb-true k instant parts.1)

-- the attempt of an entry that was due is the only live one
begun_due : (at number epoch : ℕ) (o : Option Filed) (attempts : List Attempt) → some_pass (λ f. is_due (standing_of f at)) o ≡ true → IfSome o (λ f. number ≡ f.entry.used + 1)
    → IsLastLive o attempts → IsLastLive (changed_if true (with_begin at) o) (attempts ++ begun_attempt number at epoch ∷ [])
begun_due at number epoch None attempts due is last = false_true false refl due
begun_due at number epoch (Some f) attempts due is last =
    All-push (λ attempt. is_live_fate attempt.fate ≡ true → is_live_attempt (Some (on_entry (with_begin at) f)) attempt.number ≡ true) attempts (begun_attempt number at epoch)
    (λ j d lt live.
    let parts = and_parts ((get_or attempts j d).number == f.entry.used) (is_live_last f.entry.last) (last j d lt live) in
    false_true (is_live_last f.entry.last) (due_is f at due).landed parts.1)
    (λ live. let t : (number == f.entry.used + 1) ≡ true = eq-eqb number (f.entry.used + 1) is in rw t refl)

begun_one : (t : Bool) (at number epoch : ℕ) (o : Option Filed) (attempts : List Attempt) → (t ≡ true → some_pass (λ f. is_due (standing_of f at)) o ≡ true)
    → (t ≡ true → IfSome o (λ f. number ≡ f.entry.used + 1)) → IsLastLive o attempts
    → IsLastLive (changed_if t (with_begin at) o) (cond t (attempts ++ begun_attempt number at epoch ∷ []) attempts)
begun_one true at number epoch o attempts due is last = begun_due at number epoch o attempts (due refl) (is refl) last
begun_one false at number epoch o attempts due is last = last

pub last_begun : (old new : List LaneRows) (inc instant at number epoch : ℕ) → some_pass (λ f. is_due (standing_of f at)) (filed_in old inc instant) ≡ true
    → IfSome (filed_in old inc instant) (λ f. number ≡ f.entry.used + 1)
    → ChangesIn old new inc instant (with_begin at) (λ before. before ++ begun_attempt number at epoch ∷ []) → AreLast old → AreLast new
last_begun old new inc instant at number epoch due is changes last i k =
    let t = i == inc && k == instant in
    last_seen (changed_if t (with_begin at) (filed_in old i k)) (filed_in new i k)
    (cond t (attempts_in old i k ++ begun_attempt number at epoch ∷ []) (attempts_in old i k)) (attempts_in new i k) (changes.filed i k) (changes.attempts i k)
    (begun_one t at number epoch (filed_in old i k) (attempts_in old i k)
    (λ e. subst (λ (o : Option Filed). some_pass (λ f. is_due (standing_of f at)) o ≡ true) (sym (same i k e)) due)
    (λ e. subst (λ (o : Option Filed). IfSome o (λ f. number ≡ f.entry.used + 1)) (sym (same i k e)) is) (last i k))
  where
    same : (i k : ℕ) → (i == inc && k == instant) ≡ true → filed_in old i k ≡ filed_in old inc instant
    same i k e = let is = there i k inc instant e in ap (λ (n : ℕ). filed_in old n k) is.0 ∙ ap (filed_in old inc) is.1

-- and it is no more once it ended
ended_each : (number used : ℕ) (live : Bool) (verdict : Verdict) (status : ℕ) (attempt : Attempt) (b c : Bool) → number ≡ used → (number == attempt.number) ≡ b
    → (is_live_fate attempt.fate ≡ true → (attempt.number == used && live) ≡ true) → is_live_fate (end_attempt number verdict status attempt).fate ≡ true → c ≡ true
ended_each number used live verdict status attempt true c is e was now =
    let fate : is_live_fate (end_attempt number verdict status attempt).fate ≡ false = rw e refl in
    false_true (is_live_fate (end_attempt number verdict status attempt).fate) fate now
ended_each number used live verdict status attempt false c is e was now =
    let fate : is_live_fate (end_attempt number verdict status attempt).fate ≡ is_live_fate attempt.fate = rw e refl in
    let parts = and_parts (attempt.number == used) live (was (sym fate ∙ now)) in
    let same : (number == attempt.number) ≡ true = eq-eqb number attempt.number (is ∙ sym (eqb-true attempt.number used parts.0)) in
    false_true (number == attempt.number) e same

ended_live : (verdict : Verdict) (at number status : ℕ) (o : Option Filed) (attempts : List Attempt) → is_live_attempt o number ≡ true → IsLastLive o attempts
    → IsLastLive (changed_if true (with_end verdict at) o) (map (end_attempt number verdict status) attempts)
ended_live verdict at number status None attempts live last = false_true false refl live
ended_live verdict at number status (Some f) attempts live last =
    let parts = and_parts (number == f.entry.used) (is_live_last f.entry.last) live in
    all_mapped (λ attempt. is_live_fate attempt.fate ≡ true → is_live_attempt (Some f) attempt.number ≡ true)
    (λ attempt. is_live_fate attempt.fate ≡ true → is_live_attempt (changed_if true (with_end verdict at) (Some f)) attempt.number ≡ true)
    (end_attempt number verdict status) attempts last
    (λ attempt was now.
    ended_each number f.entry.used (is_live_last f.entry.last) verdict status attempt (number == attempt.number)
    (is_live_attempt (changed_if true (with_end verdict at) (Some f)) (end_attempt number verdict status attempt).number)
    (eqb-true number f.entry.used parts.0) refl was now)

ended_one : (t : Bool) (verdict : Verdict) (at number status : ℕ) (o : Option Filed) (attempts : List Attempt) → (t ≡ true → is_live_attempt o number ≡ true) → IsLastLive o attempts
    → IsLastLive (changed_if t (with_end verdict at) o) (cond t (map (end_attempt number verdict status) attempts) attempts)
ended_one true verdict at number status o attempts live last = ended_live verdict at number status o attempts (live refl) last
ended_one false verdict at number status o attempts live last = last

pub last_ended : (old new : List LaneRows) (inc instant at number status : ℕ) (verdict : Verdict) → is_live_attempt (filed_in old inc instant) number ≡ true
    → ChangesIn old new inc instant (with_end verdict at) (map (end_attempt number verdict status)) → AreLast old → AreLast new
last_ended old new inc instant at number status verdict live changes last i k =
    let t = i == inc && k == instant in
    last_seen (changed_if t (with_end verdict at) (filed_in old i k)) (filed_in new i k)
    (cond t (map (end_attempt number verdict status) (attempts_in old i k)) (attempts_in old i k)) (attempts_in new i k) (changes.filed i k) (changes.attempts i k)
    (ended_one t verdict at number status (filed_in old i k) (attempts_in old i k)
    (λ e. subst (λ (o : Option Filed). is_live_attempt o number ≡ true) (sym (same i k e)) live) (last i k))
  where
    same : (i k : ℕ) → (i == inc && k == instant) ≡ true → filed_in old i k ≡ filed_in old inc instant
    same i k e = let is = there i k inc instant e in ap (λ (n : ℕ). filed_in old n k) is.0 ∙ ap (filed_in old inc) is.1
