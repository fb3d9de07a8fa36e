-- An entry of which an attempt was begun has its chosen moment behind it.
use Rattle.std.proofs.Common.{◌≡◌, ◌⊎◌, inl, inr, ℕ, ◌+◌, ◌<◌, ◌≤◌, ◌==◌, nat_lt, Bool, true, false, cond, ◌&&◌, Option, Some, None, List, [], ◌∷◌, ◌++◌, map, find, option_map, refl, sym, ap, ◌∙◌, subst, arith, le_trans, not}
use Rattle.std.proofs.lemmas.Bool.{and_parts, or_cases, ltb-true, ltb-false, leb-true, not-false, false≢true}
use Rattle.sched_plain.specs.declared.entry.Entry.{Entry}
use Rattle.sched_plain.specs.declared.entry.Filed.{Filed}
use Rattle.sched_plain.specs.declared.entry.Last.TheVariants as lasts
use Rattle.sched_plain.specs.declared.holder.Holder.{Holder}
use Rattle.sched_plain.specs.declared.schedule.Policy.{Policy}
use Rattle.sched_plain.specs.declared.standing.Standing.TheVariants as standings
use Rattle.sched_plain.specs.declared.step.Pair.{Pair}
use Rattle.sched_plain.specs.declared.step.Step.TheVariants as steps
use Rattle.sched_plain.specs.declared.outcome.Outcome.TheVariants as outcomes
use Rattle.sched_plain.specs.declared.outcome.Reason.{Reason}
use Rattle.plain_words.specs.declared.verdict.Verdict.{Verdict}
use Rattle.plain_words.specs.declared.verdict.Verdict.TheVariants as verdicts
use Rattle.sched_plain.specs.History.{History, beginning, based, ◌upon◌}
use Rattle.plain_words.specs.Ids.{shard_of}
use Rattle.sched_plain.specs.Moments.{moment}
use Rattle.plain_words.specs.Lists.{or_else, only_if}
use Rattle.sched_plain.specs.Changes.{changes_of}
use Rattle.sched_plain.specs.Rows.{rows_of}
use Rattle.expressions.specs.Calendar.{Calendar}
use Rattle.sched_plain.specs.Leases.{holder, is_taking}
use Rattle.sched_plain.specs.Ledger.{LedgerCall, Cancelled, Lost, policy_of, ended_by, ledger_of}
use Rattle.sched_plain.specs.Entries.{new_entry, decided_as, with_begin, with_end, outcome_of, with_loss, lost_last, changed_if, is_lost_in, filed_by, filed}
use Rattle.sched_plain.specs.Attempts.{is_live_last, is_live_attempt}
use Rattle.sched_plain.specs.Standing.{earliest, earliest_after, is_used_up, is_past_age, standing_of}
use Rattle.sched_plain.specs.Rules.{begin_table, end_table}
use Rattle.sched_plain.specs.Legal.{IsLegal}
use Rattle.plain_words.proofs.ListLemmas.{AllNone, when_none}
use Rattle.sched_plain.proofs.LedgerLemmas.{due_is}
use Rattle.book_laws.proofs.Tables.{kind_holds, moment_holds}
use Rattle.book_laws.proofs.Standings.{due_says, exhausted_says}
use Rattle.book_laws.proofs.FiledEdits.{edit_keeps}
use Rattle.book_laws.proofs.Numbers.{at_same}

-- no attempt was begun
pub record IsFresh (entry : Entry) : Type 0 where
  pub last : entry.last ≡ lasts.NoAttempt
  pub used : entry.used ≡ 0

-- no attempt was begun, or the chosen moment has come
abbrev pub IsCome : ℕ → Option Filed → Type 0
IsCome t None = Unit {0}
IsCome t (Some f) = IsFresh f.entry ⊎ (f.entry.chosen ≤ t)

pub come_later : (t u : ℕ) (f : Option Filed) → t ≤ u → IsCome t f → IsCome u f
come_later t u None le is = tt
come_later t u (Some f) le is = elim is [ inl fresh ↦ inl fresh | inr come ↦ inr (le_trans come le) ]

earliest_fresh : (entry : Entry) → IsFresh entry → earliest entry ≡ entry.chosen
earliest_fresh entry fresh = ap (earliest_after entry) fresh.last

-- an entry that is due, or exhausted, has its chosen moment behind it
pub due_come : (f : Filed) (t : ℕ) → IsCome t (Some f) → standing_of f t ≡ standings.Due → f.entry.chosen ≤ t
due_come f t is due =
    elim is [
      | inl fresh ↦
          let come : earliest f.entry ≤ t = ltb-false t (earliest f.entry) (due_says f.entry f.policy t due).come in
          let same : earliest f.entry ≡ f.entry.chosen = earliest_fresh f.entry fresh in
          omega arith
      | inr come ↦ come
    ]

fresh_spent : (entry : Entry) (policy : Policy) (t : ℕ) → IsFresh entry → (is_used_up entry policy ≡ true) ⊎ (is_past_age entry policy t ≡ true) → entry.chosen ≤ t
fresh_spent entry policy t fresh spent =
    let none : entry.used ≡ 0 = fresh.used in
    let same : earliest entry ≡ entry.chosen = earliest_fresh entry fresh in
    elim spent [
      | inl used ↦ let many : 1 + policy.retries ≤ entry.used = leb-true (1 + policy.retries) entry.used used in omega arith
      | inr past ↦
          elim (or_cases (nat_lt (entry.chosen + policy.age) t) (nat_lt (entry.chosen + policy.age) (earliest entry)) past) [
            | inl now ↦ let late : entry.chosen + policy.age < t = ltb-true (entry.chosen + policy.age) t now in omega arith
            | inr next ↦
                let late : entry.chosen + policy.age < earliest entry = ltb-true (entry.chosen + policy.age) (earliest entry) next in omega arith
          ]
    ]

pub exhausted_come : (f : Filed) (t : ℕ) (reason : Reason) → IsCome t (Some f) → standing_of f t ≡ standings.Exhausted reason → f.entry.chosen ≤ t
exhausted_come f t reason is exhausted =
    elim is [
      | inl fresh ↦ fresh_spent f.entry f.policy t fresh (exhausted_says f.entry f.policy t reason exhausted).spent
      | inr come ↦ come
    ]

-- the edits of the other calls
decided_come : (t : ℕ) (b : Bool) (outcome : _) (f : Option Filed) → IsCome t f → IsCome t (changed_if b (decided_as outcome) f)
decided_come t b outcome f is =
    edit_keeps (IsCome t) b (decided_as outcome) f tt
    (λ e policy old. elim old [ inl fresh ↦ inl (record { last = fresh.last; used = fresh.used }) | inr come ↦ inr come ]) is

loss_come : (t : ℕ) (b : Bool) (at : ℕ) (f : Option Filed) → IsCome t f → IsCome t (changed_if b (with_loss at) f)
loss_come t b at f is =
    edit_keeps (IsCome t) b (with_loss at) f tt
    (λ e policy old. elim old [ inl fresh ↦ inl (record { last = ap (lost_last at) fresh.last; used = fresh.used }) | inr come ↦ inr come ]) is

cancelled_come : (t : ℕ) (incs : List ℕ) (before : List LedgerCall) (inc i : ℕ) → IsCome t (filed before inc i)
    → IsCome t (filed (map Cancelled incs ++ before) inc i)
cancelled_come t [] before inc i is = is
cancelled_come t (of ∷ incs) before inc i is =
    decided_come t (inc == of) outcomes.Cancelled (filed (map Cancelled incs ++ before) inc i) (cancelled_come t incs before inc i is)

lost_if_come : (t : ℕ) (b : Bool) (shard : Option ℕ) (at : ℕ) (before : List LedgerCall) (inc i : ℕ) → IsCome t (filed before inc i)
    → IsCome t (filed (only_if b (Lost shard at) ++ before) inc i)
lost_if_come t true shard at before inc i is = loss_come t (is_lost_in shard inc) at (filed before inc i) is
lost_if_come t false shard at before inc i is = is

new_come : (t : ℕ) (policy : Policy) (pair : Option Pair) → IsCome t (option_map {T = Pair} (λ p. record { entry = new_entry p.chosen; policy = policy }) pair)
new_come t policy None = tt
new_come t policy (Some pair) = inl (record { last = refl; used = refl })

entered_come : (t : ℕ) (b : Bool) (policy : Policy) (pairs : List Pair) (i : ℕ) (f : Option Filed) → IsCome t f
    → IsCome t (cond b (or_else f (filed_by policy pairs i)) f)
entered_come t true policy pairs i None is = new_come t policy (find (λ pair. i == pair.instant) pairs)
entered_come t true policy pairs i (Some f) is = is
entered_come t false policy pairs i f is = is

-- what is begun has come, and so has what was live
abbrev HasCome : ℕ → Option Filed → Type 0
HasCome t None = Unit {0}
HasCome t (Some f) = f.entry.chosen ≤ t

begun_has : (held : Holder) (f : Option Filed) (at inc i number epoch : ℕ) → IsCome at f → AllNone (begin_table held f at inc i number epoch) → HasCome at f
begun_has held None at inc i number epoch is all = tt
begun_has held (Some f) at inc i number epoch is all = due_come f at is (due_is (standing_of f at) all.1.0)

ended_has : (t : ℕ) (f : Option Filed) (number : ℕ) → IsCome t f → AllNone (end_table f number) → HasCome t f
ended_has t None number is all = tt
ended_has t (Some f) number is all =
    let found : is_live_attempt (Some f) number ≡ true = not-false (is_live_attempt (Some f) number) (when_none (not (is_live_attempt (Some f) number)) _ all.0) in
    let live : is_live_last f.entry.last ≡ true = (and_parts (number == f.entry.used) (is_live_last f.entry.last) found).1 in
    elim is [
      | inl fresh ↦ absurd (false≢true (sym (ap is_live_last fresh.last) ∙ live))
      | inr come ↦ come
    ]

changed_has : (t : ℕ) (b : Bool) (change : Entry → Entry) → ((e : Entry) → (change e).chosen ≡ e.chosen) → (f : Option Filed) → (b ≡ true → HasCome t f) → IsCome t f
    → IsCome t (changed_if b change f)
changed_has t true change same None has is = tt
changed_has t true change same (Some f) has is = inr (subst (λ n. n ≤ t) (sym (same f.entry)) (has refl))
changed_has t false change same f has is = is

end_chosen : (verdict : Verdict) (at : ℕ) (e : Entry) → (with_end verdict at e).chosen ≡ e.chosen
end_chosen verdicts.Done at e = refl
end_chosen verdicts.Retry at e = refl
end_chosen verdicts.Final at e = refl

pub come_in : (c : Calendar) (h : History) → IsLegal c h → (inc i : ℕ) → IsCome (moment h) (filed (ledger_of h) inc i)
come_in c beginning legal inc i = tt
come_in c (based b kept) legal inc i = absurd legal
come_in c (steps.Boot at upon h) legal inc i =
    let f = filed (ledger_of h) inc i in
    loss_come at.0 (is_lost_in None inc) at.0 f (come_later (moment h) at.0 f (moment_holds c h (steps.Boot at) legal.1) (come_in c h legal.0 inc i))
come_in c (steps.Zone at name bytes upon h) legal inc i =
    come_later (moment h) at.0 (filed (ledger_of h) inc i) (moment_holds c h (steps.Zone at name bytes) legal.1) (come_in c h legal.0 inc i)
come_in c (steps.Change at write upon h) legal inc i =
    cancelled_come at.0 (ended_by (rows_of (changes_of h)) write) (ledger_of h) inc i
    (come_later (moment h) at.0 (filed (ledger_of h) inc i) (moment_holds c h (steps.Change at write) legal.1) (come_in c h legal.0 inc i))
come_in c (steps.Enter at of pairs upon h) legal inc i =
    entered_come at.0 (inc == of) (policy_of (rows_of (changes_of h)) of pairs) pairs i (filed (ledger_of h) inc i)
    (come_later (moment h) at.0 (filed (ledger_of h) inc i) (moment_holds c h (steps.Enter at of pairs) legal.1) (come_in c h legal.0 inc i))
come_in c (steps.Lease at shard worker epoch until upon h) legal inc i =
    lost_if_come at.0 (is_taking (holder h shard) epoch) (Some shard) at.0 (ledger_of h) inc i
    (come_later (moment h) at.0 (filed (ledger_of h) inc i) (moment_holds c h (steps.Lease at shard worker epoch until) legal.1) (come_in c h legal.0 inc i))
come_in c (steps.Release at shard worker epoch upon h) legal inc i =
    come_later (moment h) at.0 (filed (ledger_of h) inc i) (moment_holds c h (steps.Release at shard worker epoch) legal.1) (come_in c h legal.0 inc i)
come_in c (steps.Begin at of instant number epoch upon h) legal inc i =
    let s = steps.Begin at of instant number epoch in
    let f = filed (ledger_of h) inc i in
    let late = moment_holds c h s legal.1 in
    let there = come_later (moment h) at.0 (filed (ledger_of h) of instant) late (come_in c h legal.0 of instant) in
    let has = begun_has (holder h (shard_of of)) (filed (ledger_of h) of instant) at.0 of instant number epoch there (kind_holds c h s legal.1) in
    changed_has at.0 (inc == of && i == instant) (with_begin at.0) (λ e. refl) f
    (λ same. at_same (λ k j. HasCome at.0 (filed (ledger_of h) k j)) inc of i instant same has)
    (come_later (moment h) at.0 f late (come_in c h legal.0 inc i))
come_in c (steps.End at of instant number verdict status upon h) legal inc i =
    let s = steps.End at of instant number verdict status in
    let f = filed (ledger_of h) inc i in
    let late = moment_holds c h s legal.1 in
    let there = come_later (moment h) at.0 (filed (ledger_of h) of instant) late (come_in c h legal.0 of instant) in
    let has = ended_has at.0 (filed (ledger_of h) of instant) number there (kind_holds c h s legal.1) in
    changed_has at.0 (inc == of && i == instant) (with_end verdict at.0) (end_chosen verdict at.0) f
    (λ same. at_same (λ k j. HasCome at.0 (filed (ledger_of h) k j)) inc of i instant same has)
    (come_later (moment h) at.0 f late (come_in c h legal.0 inc i))
come_in c (steps.Close at of instant reason upon h) legal inc i =
    let f = filed (ledger_of h) inc i in
    decided_come at.0 (inc == of && i == instant) (outcome_of reason) f
    (come_later (moment h) at.0 f (moment_holds c h (steps.Close at of instant reason) legal.1) (come_in c h legal.0 inc i))
come_in c (steps.Complete at removed upon h) legal inc i =
    come_later (moment h) at.0 (filed (ledger_of h) inc i) (moment_holds c h (steps.Complete at removed) legal.1) (come_in c h legal.0 inc i)
come_in c (steps.Swept at shard upon h) legal inc i =
    come_later (moment h) at.0 (filed (ledger_of h) inc i) (moment_holds c h (steps.Swept at shard) legal.1) (come_in c h legal.0 inc i)
