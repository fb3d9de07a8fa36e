-- Each live attempt is in the air, and stays so; so the first that is waited for is found there.
use Rattle.std.proofs.Common.{◌≡◌, ℕ, ◌+◌, ◌<◌, ◌==◌, Bool, true, false, not, ◌&&◌, ◌||◌, Option, Some, None, List, [], ◌∷◌, ◌++◌, find, option_map, length, take, get_or, refl, sym, ap, ap₂, ◌∙◌, subst, inl, inr, ◌⊎◌, arith}
use Rattle.std.specs.Prelude.{nat_lt, if◌then◌else◌}
use Rattle.std.specs.List.{filter, list_any}
use Rattle.std.proofs.lemmas.Bool.{eq-eqb, eqb-true, ltb-true, lt-ltb, and_parts, or_cases}
use Rattle.std.proofs.lemmas.List.{take_more}
use Rattle.std.proofs.lemmas.List.Folds.{list_any-append}
use Rattle.plain_words.specs.Ids.{shard_of}
use Rattle.plain_words.specs.Lists.{or_else, some_pass}
use Rattle.plain_words.specs.declared.verdict.Verdict.{Verdict}
use Rattle.plain_words.specs.declared.verdict.Verdict.TheVariants as verdicts
use Rattle.sched_plain.specs.declared.entry.Attempt.{Attempt}
use Rattle.sched_plain.specs.declared.entry.Entry.{Entry}
use Rattle.sched_plain.specs.declared.entry.Filed.{Filed}
use Rattle.sched_plain.specs.declared.entry.Last.{Last}
use Rattle.sched_plain.specs.declared.entry.Last.TheVariants as lasts
use Rattle.sched_plain.specs.declared.outcome.Outcome.{Outcome}
use Rattle.sched_plain.specs.declared.outcome.Outcome.TheVariants as outcomes
use Rattle.sched_plain.specs.declared.schedule.Policy.{Policy}
use Rattle.sched_plain.specs.declared.step.Pair.{Pair}
use Rattle.sched_plain.specs.Attempts.{is_live_last}
use Rattle.sched_plain.specs.Entries.{changed_if, decided_as, filed_by, is_lost_in, lost_last, with_begin, with_end, with_loss}
use Rattle.sched_plain.specs.Standing.{earliest, is_past_age, is_used_up}
use Rattle.ledger_rows.specs.declared.question.Question.TheVariants as questions
use Rattle.ledger_rows.specs.declared.row.Flight.{Flight}
use Rattle.ledger_rows.specs.Air.{but_for, is_flown, is_of, outside}
use Rattle.ledger_rows.specs.Rows.{filed_at}
use Rattle.entry_lines.specs.Rows.{LaneRows}
use Rattle.ledger_rows.specs.State.{AreFlown, ChangesIn, RowsAre, filed_in, is_live_filed, lane_of, rows_cancelled, rows_entered, Loses, same_rows}
use Rattle.ledger_rows.specs.Waiting.{earlier, first_with, is_waited}
use Rattle.ledger_rows.specs.Wanting.{IsFirstOf, IsBefore, answers, is_in_air}
use Rattle.ledger_rows.proofs.Standing.{filed_if_cancelled, filed_if_entered}
use Rattle.ledger_rows.proofs.StandingLemmas.{stands_by}

pub bool_cases : (b : Bool) → (b ≡ true) ⊎ (b ≡ false)
bool_cases true = inl refl
bool_cases false = inr refl

or_true : (b : Bool) → (b || true) ≡ true
or_true true = refl
or_true false = refl

pub false_true : {A : Type 0} (b : Bool) → b ≡ false → b ≡ true → A
false_true b e f = let clash : ⊥ = cc in absurd clash

-- an element that is found is found among those that pass a test that it passes
kept : (p test : Flight → Bool) (xs : List Flight) → ((x : Flight) → p x ≡ true → test x ≡ true) → list_any p xs ≡ true → list_any p (filter test xs) ≡ true
kept p test [] implied e = e
kept p test (x ∷ xs) implied e = elim (bool_cases (p x)) [
  | inl here ↦ let passes : test x ≡ true = implied x here in rw passes (rw here refl)
  | inr other ↦
      let more : list_any p xs ≡ true = subst (λ (b : Bool). (b || list_any p xs) ≡ true) other e in
      let rest : list_any p (filter test xs) ≡ true = kept p test xs implied more in
      elim (bool_cases (test x)) [
        | inl passes ↦ rw passes (rw other rest)
        | inr fails ↦ rw fails rest
      ]
]

-- an attempt is of one occurrence alone
pub is_of_this : (i k : ℕ) (flight : Flight) → is_of i k flight ≡ true → (i ≡ flight.inc) × (k ≡ flight.instant)
is_of_this i k flight e =
    let parts = and_parts (i == flight.inc) (k == flight.instant) e in
    (eqb-true i flight.inc parts.0, eqb-true k flight.instant parts.1)

is_of_itself : (flight : Flight) → is_of flight.inc flight.instant flight ≡ true
is_of_itself flight = rw (eq-eqb flight.inc flight.inc refl, eq-eqb flight.instant flight.instant refl) refl

-- the attempts of others stay in the air where that of an occurrence lands
stays_but_for : (flights : List Flight) (inc instant i k : ℕ) → (i == inc && k == instant) ≡ false → is_flown flights i k ≡ true → is_flown (but_for inc instant flights) i k ≡ true
stays_but_for flights inc instant i k apart = kept (is_of i k) (λ flight. not (is_of inc instant flight)) flights passes
  where
    passes : (x : Flight) → is_of i k x ≡ true → not (is_of inc instant x) ≡ true
    passes x e = elim (bool_cases (is_of inc instant x)) [
      | inl both ↦
          let one = is_of_this i k x e in
          let two = is_of_this inc instant x both in
          let t : (i == inc) ≡ true = eq-eqb i inc (one.0 ∙ sym two.0) in
          let u : (k == instant) ≡ true = eq-eqb k instant (one.1 ∙ sym two.1) in
          false_true (i == inc && k == instant) apart (rw t u)
      | inr other ↦ ap not other
    ]

-- and those of other shards where those of a shard are lost
stays_outside : (flights : List Flight) (shard : Option ℕ) (i k : ℕ) → is_lost_in shard i ≡ false → is_flown flights i k ≡ true → is_flown (outside shard flights) i k ≡ true
stays_outside flights shard i k apart = kept (is_of i k) (λ (flight : Flight). not (is_lost_in shard flight.inc)) flights passes
  where
    passes : (x : Flight) → is_of i k x ≡ true → not (is_lost_in shard x.inc) ≡ true
    passes x e = ap not (ap (is_lost_in shard) (sym (is_of_this i k x e).0) ∙ apart)

-- a change that leaves the last attempt
live_kept : (t : Bool) (change : Entry → Entry) (o : Option Filed) → ((e : Entry) → is_live_last (change e).last ≡ is_live_last e.last)
    → some_pass is_live_filed (changed_if t change o) ≡ some_pass is_live_filed o
live_kept true change None same = refl
live_kept true change (Some f) same = same f.entry
live_kept false change o same = refl

-- a change after which no attempt is live
live_gone : (change : Entry → Entry) (o : Option Filed) → ((e : Entry) → is_live_last (change e).last ≡ false) → some_pass is_live_filed (changed_if true change o) ≡ false
live_gone change None gone = refl
live_gone change (Some f) gone = gone f.entry

ended_gone : (verdict : Verdict) (at : ℕ) (e : Entry) → is_live_last (with_end verdict at e).last ≡ false
ended_gone verdicts.Done at e = refl
ended_gone verdicts.Retry at e = refl
ended_gone verdicts.Final at e = refl

lost_gone : (at : ℕ) (last : Last) → is_live_last (lost_last at last) ≡ false
lost_gone at lasts.NoAttempt = refl
lost_gone at (lasts.Live begun) = refl
lost_gone at (lasts.Lost lost) = refl
lost_gone at (lasts.Ended ended) = refl

pub flown_same : (old new : List LaneRows) (flights : List Flight) → RowsAre old new same_rows → AreFlown old flights → AreFlown new flights
flown_same old new flights are flown i k live = flown i k (subst (λ rows. some_pass is_live_filed (filed_at rows k) ≡ true) (are i) live)

pub flown_decided : (old new : List LaneRows) (flights : List Flight) (inc instant : ℕ) (outcome : Outcome) (grow : List Attempt → List Attempt)
    → ChangesIn old new inc instant (decided_as outcome) grow → AreFlown old flights → AreFlown new flights
flown_decided old new flights inc instant outcome grow changes flown i k live =
    flown i k (sym (live_kept (i == inc && k == instant) (decided_as outcome) (filed_in old i k) (λ e. refl))
    ∙ subst (λ (o : Option Filed). some_pass is_live_filed o ≡ true) (changes.filed i k) live)

pub flown_cancelled : (old new : List LaneRows) (flights : List Flight) (inc : ℕ) → RowsAre old new (rows_cancelled inc) → AreFlown old flights → AreFlown new flights
flown_cancelled old new flights inc are flown i k live =
    flown i k (sym (live_kept (i == inc) (decided_as outcomes.Cancelled) (filed_in old i k) (λ e. refl))
    ∙ ap (some_pass is_live_filed) (sym (ap (λ rows. filed_at rows k) (are i) ∙ filed_if_cancelled (i == inc) (lane_of old i).rows k)) ∙ live)

pub flown_begun : (old new : List LaneRows) (flights : List Flight) (flight : Flight) (at : ℕ) (grow : List Attempt → List Attempt)
    → ChangesIn old new flight.inc flight.instant (with_begin at) grow → AreFlown old flights → AreFlown new (flights ++ flight ∷ [])
flown_begun old new flights flight at grow changes flown i k live = elim (bool_cases (is_of i k flight)) [
  | inl this ↦
      let last : list_any (is_of i k) (flight ∷ []) ≡ true = rw this refl in
      list_any-append (is_of i k) flights (flight ∷ []) ∙ or_right (is_flown flights i k) (list_any (is_of i k) (flight ∷ [])) last
  | inr other ↦
      let was : some_pass is_live_filed (filed_in old i k) ≡ true =
      subst (λ (b : Bool). some_pass is_live_filed (changed_if b (with_begin at) (filed_in old i k)) ≡ true) other
      (subst (λ (o : Option Filed). some_pass is_live_filed o ≡ true) (changes.filed i k) live) in
      list_any-append (is_of i k) flights (flight ∷ []) ∙ ap (λ (b : Bool). b || list_any (is_of i k) (flight ∷ [])) (flown i k was)
]
  where
    or_right : (a b : Bool) → b ≡ true → (a || b) ≡ true
    or_right true b e = refl
    or_right false b e = e

pub flown_ended : (old new : List LaneRows) (flights : List Flight) (inc instant at : ℕ) (verdict : Verdict) (grow : List Attempt → List Attempt)
    → ChangesIn old new inc instant (with_end verdict at) grow → AreFlown old flights → AreFlown new (but_for inc instant flights)
flown_ended old new flights inc instant at verdict grow changes flown i k live =
    let now : some_pass is_live_filed (changed_if (i == inc && k == instant) (with_end verdict at) (filed_in old i k)) ≡ true =
    subst (λ (o : Option Filed). some_pass is_live_filed o ≡ true) (changes.filed i k) live in
    elim (bool_cases (i == inc && k == instant)) [
      | inl this ↦
          false_true (some_pass is_live_filed (changed_if true (with_end verdict at) (filed_in old i k)))
          (live_gone (with_end verdict at) (filed_in old i k) (ended_gone verdict at))
          (subst (λ (b : Bool). some_pass is_live_filed (changed_if b (with_end verdict at) (filed_in old i k)) ≡ true) this now)
      | inr other ↦
          stays_but_for flights inc instant i k other
          (flown i k (subst (λ (b : Bool). some_pass is_live_filed (changed_if b (with_end verdict at) (filed_in old i k)) ≡ true) other now))
    ]

pub flown_lost : (old new : List LaneRows) (flights : List Flight) (shard : Option ℕ) (at : ℕ) → Loses old new (λ i k. is_lost_in shard i) at → AreFlown old flights
    → AreFlown new (outside shard flights)
flown_lost old new flights shard at loses flown i k live =
    let now : some_pass is_live_filed (changed_if (is_lost_in shard i) (with_loss at) (filed_in old i k)) ≡ true =
    subst (λ (o : Option Filed). some_pass is_live_filed o ≡ true) (loses.filed i k) live in
    elim (bool_cases (is_lost_in shard i)) [
      | inl this ↦
          false_true (some_pass is_live_filed (changed_if true (with_loss at) (filed_in old i k))) (live_gone (with_loss at) (filed_in old i k) (λ e. lost_gone at e.last))
          (subst (λ (b : Bool). some_pass is_live_filed (changed_if b (with_loss at) (filed_in old i k)) ≡ true) this now)
      | inr other ↦
          stays_outside flights shard i k other
          (flown i k (subst (λ (b : Bool). some_pass is_live_filed (changed_if b (with_loss at) (filed_in old i k)) ≡ true) other now))
    ]

new_landed : (policy : Policy) (o : Option Filed) (found : Option Pair)
    → some_pass is_live_filed (or_else o (option_map {T = Pair} (λ pair. record { entry = record { chosen = pair.chosen; used = 0; last = lasts.NoAttempt; outcome = None }; policy = policy }) found)) ≡ some_pass is_live_filed o
new_landed policy (Some f) found = refl
new_landed policy None None = refl
new_landed policy None (Some pair) = refl

entered_landed : (t : Bool) (policy : Policy) (pairs : List Pair) (k : ℕ) (o : Option Filed)
    → some_pass is_live_filed (if t then or_else o (filed_by policy pairs k) else o) ≡ some_pass is_live_filed o
entered_landed true policy pairs k o = new_landed policy o (find {X = Pair} (λ pair. k == pair.instant) pairs)
entered_landed false policy pairs k o = refl

pub flown_entered : (old new : List LaneRows) (flights : List Flight) (inc : ℕ) (policy : Policy) (pairs : List Pair) → RowsAre old new (rows_entered inc policy pairs)
    → AreFlown old flights → AreFlown new flights
flown_entered old new flights inc policy pairs are flown i k live =
    flown i k (sym (entered_landed (i == inc) policy pairs k (filed_in old i k))
    ∙ ap (some_pass is_live_filed) (sym (ap (λ rows. filed_at rows k) (are i) ∙ filed_if_entered (i == inc) policy pairs (lane_of old i).rows k)) ∙ live)

-- what is waited for is live
waits_live : (outcome : Option Outcome) (live used past waits : Bool) (until : ℕ) → is_in_air (stands_by outcome live used past waits until) ≡ true → live ≡ true
waits_live (Some o) live used past waits until e = let clash : ⊥ = cc in absurd clash
waits_live None true used past waits until e = refl
waits_live None false true past waits until e = let clash : ⊥ = cc in absurd clash
waits_live None false false true waits until e = let clash : ⊥ = cc in absurd clash
waits_live None false false false true until e = let clash : ⊥ = cc in absurd clash
waits_live None false false false false until e = let clash : ⊥ = cc in absurd clash

waited_live : (o : Option Filed) → answers questions.ToWait o ≡ true → some_pass is_live_filed o ≡ true
waited_live None e = e
waited_live (Some f) e =
    waits_live f.entry.outcome (is_live_last f.entry.last) (is_used_up f.entry f.policy) (is_past_age f.entry f.policy 0) (nat_lt 0 (earliest f.entry)) (earliest f.entry) e

-- the occurrences that are waited for, of those that were looked at
abbrev pub seen_waited : List LaneRows → List Flight → ℕ → ℕ → Bool
seen_waited lanes seen i k = is_waited lanes i k && is_flown seen i k

pub waited_all : (lanes : List LaneRows) (flights : List Flight) (shard : ℕ) (first : Option (ℕ × ℕ)) → AreFlown lanes flights
    → IsFirstOf (seen_waited lanes flights) shard first → IsFirstOf (is_waited lanes) shard first
waited_all lanes flights shard first flown is = subst (λ (f : ℕ → ℕ → Bool). IsFirstOf f shard first) (λ t i k. same i k (is_waited lanes i k) refl t) is
  where
    same : (i k : ℕ) (b : Bool) → is_waited lanes i k ≡ b → seen_waited lanes flights i k ≡ is_waited lanes i k
    same i k true e = rw (e, flown i k (waited_live (filed_in lanes i k) e)) refl
    same i k false e = rw e refl

pub none_seen : (lanes : List LaneRows) (shard : ℕ) → IsFirstOf (seen_waited lanes []) shard None
none_seen lanes shard i k e = and_false (is_waited lanes i k)
  where
    and_false : (b : Bool) → (b && false) ≡ false
    and_false true = refl
    and_false false = refl

pub seen_more : (flights : List Flight) (n : ℕ) (d : Flight) → n < length flights → (i k : ℕ)
    → is_flown (take (n + 1) flights) i k ≡ (is_flown (take n flights) i k || is_of i k (get_or flights n d))
seen_more flights n d lt i k =
    ap (list_any (is_of i k)) (take_more flights n d lt) ∙ list_any-append (is_of i k) (take n flights) (get_or flights n d ∷ [])
    ∙ ap (λ (b : Bool). list_any (is_of i k) (take n flights) || b) (or_none (is_of i k (get_or flights n d)))
  where
    or_none : (b : Bool) → (b || false) ≡ b
    or_none true = refl
    or_none false = refl

-- what was seen after one more
record Seen (p was now : ℕ → ℕ → Bool) (flight : Flight) : Type 0 where
  other : (i k : ℕ) → is_of i k flight ≡ false → (p i k && now i k) ≡ (p i k && was i k)
  older : (i k : ℕ) → (p i k && was i k) ≡ true → (p i k && now i k) ≡ true
  this : p flight.inc flight.instant ≡ true → (p flight.inc flight.instant && now flight.inc flight.instant) ≡ true

seen_is : (p was now : ℕ → ℕ → Bool) (flight : Flight) → ((i k : ℕ) → now i k ≡ (was i k || is_of i k flight)) → Seen p was now flight
seen_is p was now flight more = record {
  other = λ i k apart. ap (λ (b : Bool). p i k && b) (more i k ∙ ap (λ (b : Bool). was i k || b) apart ∙ or_false (was i k));
  older = λ i k both. let parts = and_parts (p i k) (was i k) both in rw (parts.0) (more i k ∙ ap (λ (b : Bool). b || is_of i k flight) parts.1);
  this = λ passes. rw passes (more flight.inc flight.instant ∙ ap (λ (b : Bool). was flight.inc flight.instant || b) (is_of_itself flight) ∙ or_true (was flight.inc flight.instant));
}
  where
    or_false : (b : Bool) → (b || false) ≡ b
    or_false true = refl
    or_false false = refl

before_apart : (i k : ℕ) (flight : Flight) → IsBefore i k flight.inc flight.instant → is_of i k flight ≡ false
before_apart i k flight before = elim (bool_cases (is_of i k flight)) [
  | inl this ↦
      let same = is_of_this i k flight this in
      elim before [
        | inl lower ↦ absurd (omega (arith, lower, same.0))
        | inr behind ↦ absurd (omega (arith, behind.1, same.1))
      ]
  | inr other ↦ other
]

-- the first of those seen, with one more
first_more : (p was now : ℕ → ℕ → Bool) (shard : ℕ) (flight : Flight) (first : Option (ℕ × ℕ)) → Seen p was now flight
    → (shard_of flight.inc == shard) ≡ true → p flight.inc flight.instant ≡ true
    → IsFirstOf (λ i k. p i k && was i k) shard first → IsFirstOf (λ i k. p i k && now i k) shard (Some (earlier first flight))
first_more p was now shard flight None seen mine passes is = record {
  in_shard = eqb-true (shard_of flight.inc) shard mine;
  passing = seen.this passes;
  first = λ i k e before. seen.other i k (before_apart i k flight before) ∙ is i k e;
}
first_more p was now shard flight (Some found) seen mine passes is = elim (bool_cases (nat_lt flight.inc found.0 || (flight.inc == found.0 && nat_lt flight.instant found.1))) [
  | inl less ↦
      let lower : IsBefore flight.inc flight.instant found.0 found.1 = elim (or_cases (nat_lt flight.inc found.0) (flight.inc == found.0 && nat_lt flight.instant found.1) less) [
        | inl inc ↦ inl (ltb-true flight.inc found.0 inc)
        | inr both ↦
            let parts = and_parts (flight.inc == found.0) (nat_lt flight.instant found.1) both in
            inr (eqb-true flight.inc found.0 parts.0, ltb-true flight.instant found.1 parts.1)
      ] in
      rw less (record {
        in_shard = eqb-true (shard_of flight.inc) shard mine;
        passing = seen.this passes;
        first = λ i k e before. seen.other i k (before_apart i k flight before) ∙ is.first i k e (before_both i k flight.inc flight.instant found.0 found.1 before lower);
      })
  | inr more ↦
      rw more (record {
        in_shard = is.in_shard;
        passing = seen.older found.0 found.1 is.passing;
        first = λ i k e before. seen.other i k (later i k before more) ∙ is.first i k e before;
      })
]
  where
    before_both : (i k a b x y : ℕ) → IsBefore i k a b → IsBefore a b x y → IsBefore i k x y
    before_both i k a b x y (inl p1) (inl q1) = inl (omega (arith, p1, q1))
    before_both i k a b x y (inl p1) (inr q1) = inl (omega (arith, p1, q1.0))
    before_both i k a b x y (inr p1) (inl q1) = inl (omega (arith, p1.0, q1))
    before_both i k a b x y (inr p1) (inr q1) = inr (p1.0 ∙ q1.0, let lt : k < y = omega (arith, p1.1, q1.1) in lt)

    later : (i k : ℕ) → IsBefore i k found.0 found.1 → (nat_lt flight.inc found.0 || (flight.inc == found.0 && nat_lt flight.instant found.1)) ≡ false → is_of i k flight ≡ false
    later i k before more = elim (bool_cases (is_of i k flight)) [
      | inr other ↦ other
      | inl this ↦
          let same = is_of_this i k flight this in
          elim before [
            | inl lower ↦
                let t : nat_lt flight.inc found.0 ≡ true = lt-ltb flight.inc found.0 (omega (arith, lower, same.0)) in
                false_true _ more (ap (λ (b : Bool). b || (flight.inc == found.0 && nat_lt flight.instant found.1)) t)
            | inr behind ↦
                let t : (flight.inc == found.0) ≡ true = eq-eqb flight.inc found.0 (sym same.0 ∙ behind.0) in
                let u : nat_lt flight.instant found.1 ≡ true = lt-ltb flight.instant found.1 (omega (arith, behind.1, same.1)) in
                false_true _ more (ap (λ (b : Bool). nat_lt flight.inc found.0 || b) (rw t u) ∙ or_true (nat_lt flight.inc found.0))
          ]
    ]

not_this : (p was now : ℕ → ℕ → Bool) (shard : ℕ) (flight : Flight) → ((shard_of flight.inc == shard) && p flight.inc flight.instant) ≡ false
    → (i k : ℕ) → shard_of i ≡ shard → is_of i k flight ≡ true → (p i k && now i k) ≡ (p i k && was i k)
not_this p was now shard flight fails i k e this =
    let is = is_of_this i k flight this in
    let mine : (shard_of flight.inc == shard) ≡ true = eq-eqb (shard_of flight.inc) shard (ap shard_of (sym is.0) ∙ e) in
    let off : p flight.inc flight.instant ≡ false = sym (ap (λ (b : Bool). b && p flight.inc flight.instant) mine) ∙ fails in
    let here : p i k ≡ false = ap₂ p is.0 is.1 ∙ off in
    rw here refl

-- an attempt that is not waited for changes nothing
first_stays : (p was now : ℕ → ℕ → Bool) (shard : ℕ) (flight : Flight) (first : Option (ℕ × ℕ)) → Seen p was now flight
    → ((shard_of flight.inc == shard) && p flight.inc flight.instant) ≡ false
    → IsFirstOf (λ i k. p i k && was i k) shard first → IsFirstOf (λ i k. p i k && now i k) shard first
first_stays p was now shard flight None seen fails is = λ i k e. same i k e ∙ is i k e
  where
    same : (i k : ℕ) → shard_of i ≡ shard → (p i k && now i k) ≡ (p i k && was i k)
    same i k e = elim (bool_cases (is_of i k flight)) [
      | inr other ↦ seen.other i k other
      | inl this ↦ not_this p was now shard flight fails i k e this
    ]
first_stays p was now shard flight (Some found) seen fails is = record {
  in_shard = is.in_shard;
  passing = seen.older found.0 found.1 is.passing;
  first = λ i k e before. same i k e ∙ is.first i k e before;
}
  where
    same : (i k : ℕ) → shard_of i ≡ shard → (p i k && now i k) ≡ (p i k && was i k)
    same i k e = elim (bool_cases (is_of i k flight)) [
      | inr other ↦ seen.other i k other
      | inl this ↦ not_this p was now shard flight fails i k e this
    ]

pub first_step : (lanes : List LaneRows) (flights : List Flight) (n shard : ℕ) (d : Flight) (first : Option (ℕ × ℕ)) → n < length flights
    → IsFirstOf (seen_waited lanes (take n flights)) shard first
    → IsFirstOf (seen_waited lanes (take (n + 1) flights)) shard (first_with lanes shard first (get_or flights n d))
first_step lanes flights n shard d first lt is =
    let flight = get_or flights n d in
    let seen : Seen (is_waited lanes) (is_flown (take n flights)) (is_flown (take (n + 1) flights)) flight =
    seen_is (is_waited lanes) (is_flown (take n flights)) (is_flown (take (n + 1) flights)) flight (seen_more flights n d lt) in
    elim (bool_cases ((shard_of flight.inc == shard) && is_waited lanes flight.inc flight.instant)) [
      | inl both ↦
          let parts = and_parts (shard_of flight.inc == shard) (is_waited lanes flight.inc flight.instant) both in
          rw both (first_more (is_waited lanes) (is_flown (take n flights)) (is_flown (take (n + 1) flights)) shard flight first seen parts.0 parts.1 is)
      | inr fails ↦ rw fails (first_stays (is_waited lanes) (is_flown (take n flights)) (is_flown (take (n + 1) flights)) shard flight first seen fails is)
    ]
