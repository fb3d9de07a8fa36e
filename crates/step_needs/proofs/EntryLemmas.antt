-- What a Begin, an End and a Close find.
use Rattle.std.proofs.Common.{◌≡◌, ℕ, zero, suc, ◌+◌, ◌<◌, ◌≤◌, ◌==◌, Bool, true, false, not, ◌&&◌, ◌||◌, Option, Some, None, is_some, is_none, List, [], ◌∷◌, length, option_map, refl, sym, ap, ◌∙◌, subst, inl, inr, arith}
use Rattle.std.specs.Prelude.{IfSome}
use Rattle.std.proofs.lemmas.Bool.{and_parts, not-false, eqb-true, or_cases}
use Rattle.std.proofs.lemmas.List.Folds.{list_any-append}
use Rattle.plain_words.specs.Ids.{shard_of}
use Rattle.plain_words.specs.Lists.{first_some, nth, passing, put_if, some_pass, when}
use Rattle.plain_words.proofs.ListLemmas.{AllNone, when_none}
use Rattle.plain_words.proofs.Booleans.{or_false}
use Rattle.expressions.specs.Calendar.{Calendar}
use Rattle.sched_plain.specs.declared.entry.Filed.{Filed}
use Rattle.sched_plain.specs.declared.holder.Holder.{Holder}
use Rattle.sched_plain.specs.declared.outcome.Outcome.{Outcome}
use Rattle.sched_plain.specs.declared.outcome.Reason.{Reason}
use Rattle.sched_plain.specs.declared.outcome.Reason.TheVariants as reasons
use Rattle.sched_plain.specs.declared.standing.Standing.TheVariants as standings
use Rattle.sched_plain.specs.declared.step.Pair.{Pair}
use Rattle.sched_plain.specs.declared.step.Step.TheVariants as steps
use Rattle.sched_plain.specs.Attempts.{is_live_attempt, is_live_last}
use Rattle.sched_plain.specs.Changes.{changes_of}
use Rattle.sched_plain.specs.Entries.{entries, filed, instants_of, is_paired}
use Rattle.sched_plain.specs.History.{History}
use Rattle.sched_plain.specs.Items.{items}
use Rattle.sched_plain.specs.Leases.{holder}
use Rattle.sched_plain.specs.Ledger.{ledger_of}
use Rattle.sched_plain.specs.Legal.{IsLegal}
use Rattle.sched_plain.specs.Marks.{cover}
use Rattle.sched_plain.specs.Moments.{moment}
use Rattle.sched_plain.specs.Occurrences.{occurs_in}
use Rattle.sched_plain.specs.Report.{is_due}
use Rattle.sched_plain.specs.Rows.{rows_of}
use Rattle.sched_plain.specs.Rules.{begin_table, close_table, end_table, unless_exhausted}
use Rattle.sched_plain.specs.Standing.{earliest, is_past_age, is_used_up, or_due, standing_of}
use Rattle.sched_plain.proofs.LedgerLemmas.{due_is, filed_paired}
use Rattle.ledger_rows.specs.State.{is_closable, is_live_filed}
use Rattle.ledger_rows.specs.Air.{is_flown}
use Rattle.live_attempts.specs.AirLaws.{LiveAreAloft}
use Rattle.book_laws.specs.EntryLaws.{is_among}
use Rattle.book_laws.proofs.EntriesExact.{caught}
use Rattle.next_dates.proofs.Tables.{kind_holds}
use Rattle.work_order.proofs.Completed.{instants_reached}
use Rattle.work_order.proofs.FirstEntries.{paired_within}
use Rattle.book_parts.specs.Stands.{calendar}
use Rattle.step_needs.specs.Entries.{BeginsFind, ClosesFind, EndsFind}
use Rattle.step_needs.proofs.MomentLemmas.{is_forward}

-- a number among those that pass below a bound is below it
put_below : (b : Bool) (n : ℕ) (xs : List ℕ) (k : ℕ) → (is_among k xs ≡ true → k < n) → is_among k (put_if b n xs) ≡ true → k < suc n
put_below true n xs k below is =
    elim (or_cases (is_among k xs) (k == n) (sym (list_any-append (λ x. k == x) xs (n ∷ []) ∙ ap (λ b. is_among k xs || b) (or_false (k == n))) ∙ is)) [
      | inl old ↦ let lt : k < n = below old in omega arith
      | inr top ↦ let same : k ≡ n = eqb-true k n top in omega arith
    ]
put_below false n xs k below is = let lt : k < n = below is in omega arith

among_below : (p : ℕ → Bool) (n k : ℕ) → is_among k (passing p n) ≡ true → k < n
among_below p zero k is = let clash : ⊥ = cc in absurd clash
among_below p (suc n) k is = put_below (p n) n (passing p n) k (among_below p n k) is

paired_among : (pairs : List Pair) (k : ℕ) → is_paired pairs k ≡ is_among k (instants_of pairs)
paired_among [] k = refl
paired_among (pair ∷ pairs) k = ap (λ b. (k == pair.instant) || b) (paired_among pairs k)

-- an occurrence with an entry is of an incarnation that is there, and has come
record IsThere (h : History) (inc i : ℕ) : Type 0 where
  pub within : inc ≤ length (rows_of (changes_of h))
  pub come : i ≤ moment h

filed_there : (c : Calendar) (h : History) → IsLegal c h → (inc i : ℕ) → is_some (filed (ledger_of h) inc i) ≡ true → IsThere h inc i
filed_there c h legal inc i there =
    let pairs = entries (ledger_of h) inc in
    let paired : is_paired pairs i ≡ true = sym (filed_paired (ledger_of h) inc i) ∙ there in
    let within = paired_within c h legal inc i paired (nth (rows_of (changes_of h)) inc) refl in
    let under : i < cover h inc =
    among_below (occurs_in c (items h inc)) (cover h inc) i (sym (ap (is_among i) (instants_reached c h legal inc)) ∙ sym (paired_among pairs i) ∙ paired) in
    let up : cover h inc ≤ moment h + 1 = (caught c h legal inc).bound in
    record { within = within.up; come = omega arith }

-- what the rules of a Begin say of what is filed
record IsBegun (found : Option Filed) (at attempt : ℕ) : Type 0 where
  pub filed : is_some found ≡ true
  pub due : some_pass (λ f. is_due (standing_of f at)) found ≡ true
  pub number : IfSome found (λ f. attempt ≡ f.entry.used + 1)

begun : (held : Holder) (filed : Option Filed) (at inc instant number epoch : ℕ) → AllNone (begin_table held filed at inc instant number epoch)
    → IsBegun filed at number
begun held None at inc instant number epoch all = let clash : ⊥ = cc all.0 in absurd clash
begun held (Some f) at inc instant number epoch all =
    record {
      filed = refl;
      due = ap is_due (due_is (standing_of f at) all.1.0);
      number = eqb-true number (f.entry.used + 1) (not-false (number == f.entry.used + 1) (when_none (not (number == f.entry.used + 1)) _ all.1.1.0));
    }

-- the attempt that an End ends is live
ended : (filed : Option Filed) (number : ℕ) → AllNone (end_table filed number) → is_live_attempt filed number ≡ true
ended filed number all = not-false (is_live_attempt filed number) (when_none (not (is_live_attempt filed number)) _ all.0)

-- it is the last one of an entry
ended_last : (filed : Option Filed) (number : ℕ) → is_live_attempt filed number ≡ true → some_pass is_live_filed filed ≡ true
ended_last None number is = cc is
ended_last (Some f) number is = (and_parts (number == f.entry.used) (is_live_last f.entry.last) is).1

-- an entry that is exhausted is not decided, and has no attempt in the air
spent_is : (reason : Reason) (outcome : Option Outcome) (live used past wait : Bool) (until : ℕ)
    → unless_exhausted reason (or_due (first_some (
    option_map standings.Decided outcome
    ∷ when live standings.Live
    ∷ when used (standings.Exhausted reasons.Attempts)
    ∷ when past (standings.Exhausted reasons.Age)
    ∷ when wait (standings.Waiting until)
    ∷ [])))
    ≡ None → (is_none outcome && not live) ≡ true
spent_is reason (Some outcome) live used past wait until e = let clash : ⊥ = cc e in absurd clash
spent_is reason None true used past wait until e = let clash : ⊥ = cc e in absurd clash
spent_is reason None false used past wait until e = refl

closed : (filed : Option Filed) (at inc instant : ℕ) (reason : Reason) → AllNone (close_table filed at inc instant reason)
    → some_pass is_closable filed ≡ true
closed None at inc instant reason all = let clash : ⊥ = cc all.0 in absurd clash
closed (Some f) at inc instant reason all =
    spent_is reason f.entry.outcome (is_live_last f.entry.last) (is_used_up f.entry f.policy) (is_past_age f.entry f.policy at) _ (earliest f.entry) all.0

passed_there : (passes : Filed → Bool) (o : Option Filed) → some_pass passes o ≡ true → is_some o ≡ true
passed_there passes None holds = cc holds
passed_there passes (Some f) holds = refl

pub begins_find : BeginsFind
begins_find b h at inc instant number epoch st valid may =
    let s = steps.Begin at inc instant number epoch in
    let is = begun (holder h (shard_of inc)) (filed (ledger_of h) inc instant) at.0 inc instant number epoch (kind_holds calendar h s may) in
    let found = filed_there calendar h st.legal inc instant is.filed in
    let told = st.ledger.told.filed inc instant in
    let same : b.moment ≡ moment h = st.moment in
    let forward : b.moment ≤ at.0 = is_forward b h s st may in
    record {
      forward = forward;
      last = valid.0;
      due = subst (λ (o : Option Filed). some_pass (λ f. is_due (standing_of f at.0)) o ≡ true) (sym told) is.due;
      number = subst (λ (o : Option Filed). IfSome o (λ f. number ≡ f.entry.used + 1)) (sym told) is.number;
      there = subst (λ rows. inc ≤ length rows) (sym st.rows.rows) found.within;
      come = let come : instant ≤ moment h = found.come in omega arith;
    }

pub ends_find : LiveAreAloft → EndsFind
ends_find aloft b h at inc instant number verdict status st valid may =
    let s = steps.End at inc instant number verdict status in
    let filed = filed (ledger_of h) inc instant in
    let is = ended filed number (kind_holds calendar h s may) in
    let live = ended_last filed number is in
    let found = filed_there calendar h st.legal inc instant (passed_there is_live_filed filed live) in
    record {
      forward = is_forward b h s st may;
      last = valid.0;
      live = ap (λ (o : Option Filed). is_live_attempt o number) (st.ledger.told.filed inc instant) ∙ is;
      aloft = ap (λ flights. is_flown flights inc instant) st.ledger.air ∙ aloft calendar h st.legal inc instant live;
      low = valid.1.0;
      there = subst (λ rows. inc ≤ length rows) (sym st.rows.rows) found.within;
    }

pub closes_find : ClosesFind
closes_find b h at inc instant reason st valid may =
    let s = steps.Close at inc instant reason in
    let is = closed (filed (ledger_of h) inc instant) at.0 inc instant reason (kind_holds calendar h s may) in
    let found = filed_there calendar h st.legal inc instant (passed_there is_closable (filed (ledger_of h) inc instant) is) in
    record {
      forward = is_forward b h s st may;
      last = valid.0;
      closable = ap (some_pass is_closable) (st.ledger.told.filed inc instant) ∙ is;
      low = valid.1.0;
      there = subst (λ rows. inc ≤ length rows) (sym st.rows.rows) found.within;
    }
