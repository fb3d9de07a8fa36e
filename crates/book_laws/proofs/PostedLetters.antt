-- The letters about an occurrence against its entry's outcome: the induction over every legal history.
use Rattle.std.proofs.Common.{◌≡◌, ℕ, ◌==◌, Bool, true, false, cond, ◌&&◌, Option, Some, None, is_some, is_none, List, [], ◌∷◌, ◌++◌, map, filter, find, option_map, refl, sym, ap, ◌∙◌, append-nil}
use Rattle.sched_plain.specs.declared.entry.Entry.{Entry}
use Rattle.sched_plain.specs.declared.entry.Filed.{Filed}
use Rattle.sched_plain.specs.declared.schedule.Policy.{Policy}
use Rattle.sched_plain.specs.declared.step.Pair.{Pair}
use Rattle.sched_plain.specs.declared.outcome.Outcome.{Outcome}
use Rattle.sched_plain.specs.declared.outcome.Outcome.TheVariants as outcomes
use Rattle.sched_plain.specs.declared.outcome.Reason.{Reason}
use Rattle.sched_plain.specs.declared.outcome.Reason.TheVariants as reasons
use Rattle.plain_words.specs.declared.verdict.Verdict.{Verdict}
use Rattle.plain_words.specs.declared.verdict.Verdict.TheVariants as verdicts
use Rattle.sched_plain.specs.History.{History}
use Rattle.plain_words.specs.Lists.{or_else, only_if}
use Rattle.sched_plain.specs.Ledger.{LedgerCall, Cancelled, Lost}
use Rattle.sched_plain.specs.Entries.{new_entry, decided_as, with_end, outcome_of, with_loss, changed_if, is_lost_in, filed_by, filed, is_open}
use Rattle.sched_plain.specs.Queues.{Posted, letter_in, final_letter, posted}
use Rattle.plain_words.proofs.Booleans.{both_itself}
use Rattle.book_laws.specs.OutcomeLaws.{decision}
use Rattle.book_laws.specs.LetterLaws.{is_about, queue_named}
use Rattle.book_laws.proofs.OutcomesStay.{decided}

-- the letters about an occurrence
abbrev pub about : ℕ → ℕ → List Posted → List Posted
about inc i all = filter {X = Posted} (λ p. is_about inc i p.letter) all

-- the letter that an outcome makes, where a queue is named
abbrev pub letter_for : Option Outcome → Option (List ℕ) → ℕ → ℕ → List Posted
letter_for None queue inc i = []
letter_for (Some outcomes.Done) queue inc i = []
letter_for (Some outcomes.Cancelled) queue inc i = []
letter_for (Some reason) queue inc i = letter_in queue inc i reason

abbrev pub Lettered : History → ℕ → ℕ → Type 0
Lettered h inc i = about inc i (posted h) ≡ letter_for (decision h inc i) (queue_named h inc i) inc i

-- edits that leave the outcome
pub edit_same : (b : Bool) (change : Entry → Entry) → ((e : Entry) → (change e).outcome ≡ e.outcome) → (f : Option Filed)
    → decided (changed_if b change f) ≡ decided f
edit_same true change same None = refl
edit_same true change same (Some f) = same f.entry
edit_same false change same f = refl

new_open : (policy : Policy) (pair : Option Pair) → decided (option_map {T = Pair} (λ p. record { entry = new_entry p.chosen; policy = policy }) pair) ≡ None
new_open policy None = refl
new_open policy (Some pair) = refl

pub entered_same : (b : Bool) (policy : Policy) (pairs : List Pair) (i : ℕ) (f : Option Filed)
    → decided (cond b (or_else f (filed_by policy pairs i)) f) ≡ decided f
entered_same true policy pairs i None = new_open policy (find (λ pair. i == pair.instant) pairs)
entered_same true policy pairs i (Some f) = refl
entered_same false policy pairs i f = refl

pub lost_if_same : (b : Bool) (shard : Option ℕ) (at : ℕ) (before : List LedgerCall) (inc i : ℕ)
    → decided (filed (only_if b (Lost shard at) ++ before) inc i) ≡ decided (filed before inc i)
lost_if_same true shard at before inc i = edit_same (is_lost_in shard inc) (with_loss at) (λ e. refl) (filed before inc i)
lost_if_same false shard at before inc i = refl

-- the same letter, by the same outcome
pub same_outcome : (one other : Option Outcome) (queue : Option (List ℕ)) (inc i : ℕ) → other ≡ one → letter_for one queue inc i ≡ letter_for other queue inc i
same_outcome one other queue inc i same = ap (λ o. letter_for o queue inc i) (sym same)

-- a cancelled entry makes no letter
cancelled_letter : (outcome : Option Outcome) (queue : Option (List ℕ)) (inc i : ℕ)
    → letter_for (or_else outcome (Some outcomes.Cancelled)) queue inc i ≡ letter_for outcome queue inc i
cancelled_letter None queue inc i = refl
cancelled_letter (Some outcome) queue inc i = refl

cancel_same : (b : Bool) (f : Option Filed) (queue : Option (List ℕ)) (inc i : ℕ)
    → letter_for (decided (changed_if b (decided_as outcomes.Cancelled) f)) queue inc i ≡ letter_for (decided f) queue inc i
cancel_same true None queue inc i = refl
cancel_same true (Some f) queue inc i = cancelled_letter f.entry.outcome queue inc i
cancel_same false f queue inc i = refl

pub cancels_same : (incs : List ℕ) (before : List LedgerCall) (queue : Option (List ℕ)) (inc i : ℕ)
    → letter_for (decided (filed (map Cancelled incs ++ before) inc i)) queue inc i ≡ letter_for (decided (filed before inc i)) queue inc i
cancels_same [] before queue inc i = refl
cancels_same (of ∷ incs) before queue inc i =
    cancel_same (inc == of) (filed (map Cancelled incs ++ before) inc i) queue inc i ∙ cancels_same incs before queue inc i

-- of an occurrence with no entry the queue does not matter
pub queue_matters : (f : Option Filed) (one other : Option (List ℕ)) (inc i : ℕ) → (is_some f ≡ true → one ≡ other)
    → letter_for (decided f) one inc i ≡ letter_for (decided f) other inc i
queue_matters None one other inc i same = refl
queue_matters (Some f) one other inc i same = ap (λ queue. letter_for f.entry.outcome queue inc i) (same refl)

-- a letter is about its own occurrence, and about no other
pub about_self : (queue : Option (List ℕ)) (inc i : ℕ) (reason : Outcome) → about inc i (letter_in queue inc i reason) ≡ letter_in queue inc i reason
about_self None inc i reason = refl
about_self (Some queue) inc i reason =
    let one : Posted = record { queue = queue; letter = record { inc = inc; instant = i; reason = reason } } in
    ap (λ b. cond b (one ∷ []) []) (both_itself inc i)

pub about_other : (queue : Option (List ℕ)) (of at : ℕ) (reason : Outcome) (inc i : ℕ) → (inc == of && i == at) ≡ false
    → about inc i (letter_in queue of at reason) ≡ []
about_other None of at reason inc i other = refl
about_other (Some queue) of at reason inc i other =
    let one : Posted = record { queue = queue; letter = record { inc = of; instant = at; reason = reason } } in
    ap (λ b. cond b (one ∷ []) []) other

pub final_other : (open_ : Bool) (verdict : Verdict) (queue : Option (List ℕ)) (of at inc i : ℕ) → (inc == of && i == at) ≡ false
    → about inc i (cond open_ (final_letter verdict queue of at) []) ≡ []
final_other true verdicts.Done queue of at inc i other = refl
final_other true verdicts.Retry queue of at inc i other = refl
final_other true verdicts.Final queue of at inc i other = about_other queue of at outcomes.Final inc i other
final_other false verdict queue of at inc i other = refl

-- the outcome after an end
abbrev ended_outcome : Verdict → Option Outcome → Option Outcome
ended_outcome verdicts.Done outcome = or_else outcome (Some outcomes.Done)
ended_outcome verdicts.Retry outcome = outcome
ended_outcome verdicts.Final outcome = or_else outcome (Some outcomes.Final)

ended_is : (verdict : Verdict) (at : ℕ) (f : Filed) → decided (changed_if true (with_end verdict at) (Some f)) ≡ ended_outcome verdict f.entry.outcome
ended_is verdicts.Done at f = refl
ended_is verdicts.Retry at f = refl
ended_is verdicts.Final at f = refl

end_letter : (verdict : Verdict) (outcome : Option Outcome) (queue : Option (List ℕ)) (inc i : ℕ)
    → letter_for outcome queue inc i ++ about inc i (cond (is_none outcome) (final_letter verdict queue inc i) [])
    ≡ letter_for (ended_outcome verdict outcome) queue inc i
end_letter verdicts.Done None queue inc i = refl
end_letter verdicts.Retry None queue inc i = refl
end_letter verdicts.Final None queue inc i = about_self queue inc i outcomes.Final
end_letter verdicts.Done (Some outcome) queue inc i = append-nil (letter_for (Some outcome) queue inc i)
end_letter verdicts.Retry (Some outcome) queue inc i = append-nil (letter_for (Some outcome) queue inc i)
end_letter verdicts.Final (Some outcome) queue inc i = append-nil (letter_for (Some outcome) queue inc i)

pub end_filed : (verdict : Verdict) (at : ℕ) (f : Option Filed) (queue : Option (List ℕ)) (inc i : ℕ)
    → letter_for (decided f) queue inc i ++ about inc i (cond (is_open f) (final_letter verdict queue inc i) [])
    ≡ letter_for (decided (changed_if true (with_end verdict at) f)) queue inc i
end_filed verdict at None queue inc i = refl
end_filed verdict at (Some f) queue inc i =
    end_letter verdict f.entry.outcome queue inc i ∙ ap (λ o. letter_for o queue inc i) (sym (ended_is verdict at f))

pub closed_letter : (reason : Reason) (queue : Option (List ℕ)) (inc i : ℕ) → letter_in queue inc i (outcome_of reason) ≡ letter_for (Some (outcome_of reason)) queue inc i
closed_letter reasons.Attempts queue inc i = refl
closed_letter reasons.Age queue inc i = refl
