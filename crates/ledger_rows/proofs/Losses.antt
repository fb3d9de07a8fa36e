-- Losing the attempts in the air loses all that are live: the other entries have none.
use Rattle.std.proofs.Common.{◌≡◌, ℕ, suc, ◌+◌, ◌<◌, ◌==◌, Bool, true, false, cond, ◌&&◌, ◌||◌, Option, Some, None, List, [], ◌∷◌, map, length, take, get_or, refl, sym, ap, ◌∙◌, subst, inl, inr, arith}
use Rattle.plain_words.specs.Lists.{some_pass}
use Rattle.sched_plain.specs.declared.entry.Attempt.{Attempt}
use Rattle.sched_plain.specs.declared.entry.Entry.{Entry}
use Rattle.sched_plain.specs.declared.entry.Fate.{Fate}
use Rattle.sched_plain.specs.declared.entry.Fate.TheVariants as fates
use Rattle.sched_plain.specs.declared.entry.Filed.{Filed}
use Rattle.sched_plain.specs.declared.entry.Last.{Last}
use Rattle.sched_plain.specs.declared.entry.Last.TheVariants as lasts
use Rattle.sched_plain.specs.Attempts.{is_live_attempt, is_live_last, lose_attempt, lost_fate}
use Rattle.sched_plain.specs.Entries.{changed_if, is_lost_in, lost_last, on_entry, with_loss}
use Rattle.std.proofs.lemmas.Bool.{and_parts}
use Rattle.entry_lines.specs.Rows.{LaneRows}
use Rattle.ledger_rows.specs.declared.row.Flight.{Flight}
use Rattle.ledger_rows.specs.Air.{is_flown, is_of}
use Rattle.ledger_rows.specs.State.{AreFlown, AreLast, ChangesIn, IsLastLive, Loses, attempts_in, filed_in, is_live_fate, is_live_filed}
use Rattle.ledger_rows.proofs.FlightLemmas.{bool_cases, false_true, is_of_this, seen_more}

lost_last_twice : (at : ℕ) (last : Last) → lost_last at (lost_last at last) ≡ lost_last at last
lost_last_twice at lasts.NoAttempt = refl
lost_last_twice at (lasts.Live begun) = refl
lost_last_twice at (lasts.Lost lost) = refl
lost_last_twice at (lasts.Ended ended) = refl

lost_fate_twice : (fate : Fate) → lost_fate (lost_fate fate) ≡ lost_fate fate
lost_fate_twice fates.Live = refl
lost_fate_twice fates.Lost = refl
lost_fate_twice (fates.Ended verdict status) = refl

-- losing twice is losing once
filed_twice : (a c : Bool) (at : ℕ) (o : Option Filed) → changed_if c (with_loss at) (changed_if a (with_loss at) o) ≡ changed_if (a || c) (with_loss at) o
filed_twice true true at None = refl
filed_twice true true at (Some f) = ap {A = Last} (λ last. Some (on_entry (λ (e : Entry). record e { last = last }) f)) (lost_last_twice at f.entry.last)
filed_twice true false at o = refl
filed_twice false c at o = refl

each_twice : (attempts : List Attempt) → map lose_attempt (map lose_attempt attempts) ≡ map lose_attempt attempts
each_twice [] = refl
each_twice (attempt ∷ attempts) =
    ap {A = Fate} (λ fate. record attempt { fate = fate } ∷ map lose_attempt (map lose_attempt attempts)) (lost_fate_twice attempt.fate)
    ∙ ap (λ l. lose_attempt attempt ∷ l) (each_twice attempts)

attempts_twice : (a c : Bool) (attempts : List Attempt)
    → cond c (map lose_attempt (cond a (map lose_attempt attempts) attempts)) (cond a (map lose_attempt attempts) attempts) ≡ cond (a || c) (map lose_attempt attempts) attempts
attempts_twice true true attempts = each_twice attempts
attempts_twice true false attempts = refl
attempts_twice false c attempts = refl

lost_both : (old now new : List LaneRows) (f g : ℕ → ℕ → Bool) (at : ℕ) → Loses old now f at → Loses now new g at → Loses old new (λ i k. f i k || g i k) at
lost_both old now new f g at before after = record {
  filed = λ i k. after.filed i k ∙ ap (changed_if (g i k) (with_loss at)) (before.filed i k) ∙ filed_twice (f i k) (g i k) at (filed_in old i k);
  pairs = λ i. after.pairs i ∙ before.pairs i;
  attempts = λ i k.
      after.attempts i k ∙ ap (λ (l : List Attempt). cond (g i k) (map lose_attempt l) l) (before.attempts i k)
      ∙ attempts_twice (f i k) (g i k) (attempts_in old i k);
}

lost_by : (old new : List LaneRows) (f g : ℕ → ℕ → Bool) (at : ℕ) → ((i k : ℕ) → f i k ≡ g i k) → Loses old new f at → Loses old new g at
lost_by old new f g at same = subst (λ (test : ℕ → ℕ → Bool). Loses old new test at) (λ t i k. same i k t)

-- before any flight was looked at
pub lost_none : (lanes : List LaneRows) (shard : Option ℕ) (at : ℕ) → Loses lanes lanes (λ i k. is_lost_in shard i && is_flown [] i k) at
lost_none lanes shard at = lost_by lanes lanes (λ i k. false) (λ i k. is_lost_in shard i && is_flown [] i k) at (λ i k. none (is_lost_in shard i))
    (record { filed = λ i k. refl; pairs = λ i. refl; attempts = λ i k. refl })
  where
    none : (b : Bool) → false ≡ (b && false)
    none true = refl
    none false = refl

-- after one more
pub lost_more : (old now new : List LaneRows) (shard : Option ℕ) (at : ℕ) (flights : List Flight) (n : ℕ) (d : Flight) → n < length flights
    → Loses old now (λ i k. is_lost_in shard i && is_flown (take n flights) i k) at
    → Loses now new (λ i k. is_lost_in shard i && is_of i k (get_or flights n d)) at
    → Loses old new (λ i k. is_lost_in shard i && is_flown (take (n + 1) flights) i k) at
lost_more old now new shard at flights n d lt before after =
    lost_by old new
    (λ i k. (is_lost_in shard i && is_flown (take n flights) i k) || (is_lost_in shard i && is_of i k (get_or flights n d)))
    (λ i k. is_lost_in shard i && is_flown (take (n + 1) flights) i k) at
    (λ i k. both (is_lost_in shard i) (is_flown (take n flights) i k) (is_of i k (get_or flights n d)) ∙ ap (λ (b : Bool). is_lost_in shard i && b) (sym (seen_more flights n d lt i k)))
    (lost_both old now new (λ i k. is_lost_in shard i && is_flown (take n flights) i k) (λ i k. is_lost_in shard i && is_of i k (get_or flights n d)) at before after)
  where
    both : (s a b : Bool) → ((s && a) || (s && b)) ≡ (s && (a || b))
    both true a b = refl
    both false a b = refl

-- the flight of a shard that is lost, and that of another
pub flight_lost : (old new : List LaneRows) (shard : Option ℕ) (at : ℕ) (flight : Flight) → is_lost_in shard flight.inc ≡ true
    → ChangesIn old new flight.inc flight.instant (with_loss at) (map lose_attempt) → Loses old new (λ i k. is_lost_in shard i && is_of i k flight) at
flight_lost old new shard at flight mine changes =
    lost_by old new (λ i k. is_of i k flight) (λ i k. is_lost_in shard i && is_of i k flight) at same
    (record { filed = changes.filed; pairs = changes.pairs; attempts = changes.attempts })
  where
    same : (i k : ℕ) → is_of i k flight ≡ (is_lost_in shard i && is_of i k flight)
    same i k = elim (bool_cases (is_of i k flight)) [
      | inl this ↦ let here : is_lost_in shard i ≡ true = ap (is_lost_in shard) (is_of_this i k flight this).0 ∙ mine in rw here refl
      | inr other ↦ rw other (and_false (is_lost_in shard i))
    ]
      where
        and_false : (b : Bool) → false ≡ (b && false)
        and_false true = refl
        and_false false = refl

pub flight_stays : (lanes : List LaneRows) (shard : Option ℕ) (at : ℕ) (flight : Flight) → is_lost_in shard flight.inc ≡ false
    → Loses lanes lanes (λ i k. is_lost_in shard i && is_of i k flight) at
flight_stays lanes shard at flight apart =
    lost_by lanes lanes (λ i k. false) (λ i k. is_lost_in shard i && is_of i k flight) at same
    (record { filed = λ i k. refl; pairs = λ i. refl; attempts = λ i k. refl })
  where
    same : (i k : ℕ) → false ≡ (is_lost_in shard i && is_of i k flight)
    same i k = elim (bool_cases (is_lost_in shard i && is_of i k flight)) [
      | inr fails ↦ sym fails
      | inl both ↦
          let parts = and_parts (is_lost_in shard i) (is_of i k flight) both in
          false_true (is_lost_in shard flight.inc) apart (ap (is_lost_in shard) (sym (is_of_this i k flight parts.1).0) ∙ parts.0)
    ]

-- an entry that is not live stays as it is
landed_last : (at : ℕ) (last : Last) → is_live_last last ≡ false → lost_last at last ≡ last
landed_last at lasts.NoAttempt landed = refl
landed_last at (lasts.Live begun) landed = let clash : ⊥ = cc in absurd clash
landed_last at (lasts.Lost lost) landed = refl
landed_last at (lasts.Ended ended) landed = refl

landed_filed : (at : ℕ) (b : Bool) (o : Option Filed) → some_pass is_live_filed o ≡ false → o ≡ changed_if b (with_loss at) o
landed_filed at false o landed = refl
landed_filed at true None landed = refl
landed_filed at true (Some f) landed = ap {A = Last} (λ last. Some (on_entry (λ (e : Entry). record e { last = last }) f)) (sym (landed_last at f.entry.last landed))

not_live : (o : Option Filed) (number : ℕ) → some_pass is_live_filed o ≡ false → is_live_attempt o number ≡ false
not_live None number landed = refl
not_live (Some f) number landed = rw landed (and_false (number == f.entry.used))
  where
    and_false : (b : Bool) → (b && false) ≡ false
    and_false true = refl
    and_false false = refl

-- and so do its attempts
landed_fate : (fate : Fate) → (is_live_fate fate ≡ true → false ≡ true) → fate ≡ lost_fate fate
landed_fate fates.Live landed = let clash : false ≡ true = landed refl in false_true false refl clash
landed_fate fates.Lost landed = refl
landed_fate (fates.Ended verdict status) landed = refl

landed_attempts : (o : Option Filed) (attempts : List Attempt) → some_pass is_live_filed o ≡ false → IsLastLive o attempts → attempts ≡ map lose_attempt attempts
landed_attempts o [] landed last = refl
landed_attempts o (attempt ∷ attempts) landed last =
    let fate : attempt.fate ≡ lost_fate attempt.fate =
    landed_fate attempt.fate (λ live. sym (not_live o attempt.number landed) ∙ last 0 attempt (omega arith) live) in
    let rest : attempts ≡ map lose_attempt attempts = landed_attempts o attempts landed (λ j d lt. last (suc j) d (omega arith)) in
    ap {A = Fate} (λ f. record attempt { fate = f } ∷ attempts) fate ∙ ap (λ l. lose_attempt attempt ∷ l) rest

-- what is not in the air is not live
landed_is : (lanes : List LaneRows) (flights : List Flight) (i k : ℕ) → AreFlown lanes flights → is_flown flights i k ≡ false → some_pass is_live_filed (filed_in lanes i k) ≡ false
landed_is lanes flights i k flown away = elim (bool_cases (some_pass is_live_filed (filed_in lanes i k))) [
  | inl live ↦ false_true (is_flown flights i k) away (flown i k live)
  | inr landed ↦ landed
]

-- so with the attempts in the air all that are live are lost
pub lost_all : (old new : List LaneRows) (flights : List Flight) (shard : Option ℕ) (at : ℕ) → AreFlown old flights → AreLast old
    → Loses old new (λ i k. is_lost_in shard i && is_flown flights i k) at → Loses old new (λ i k. is_lost_in shard i) at
lost_all old new flights shard at flown last loses = record {
  filed = λ i k. loses.filed i k ∙ all_filed i k (is_flown flights i k) refl;
  pairs = loses.pairs;
  attempts = λ i k. loses.attempts i k ∙ all_attempts i k (is_flown flights i k) refl;
}
  where
    and_true : (b : Bool) → (b && true) ≡ b
    and_true true = refl
    and_true false = refl

    and_false : (b : Bool) → (b && false) ≡ false
    and_false true = refl
    and_false false = refl

    all_filed : (i k : ℕ) (b : Bool) → is_flown flights i k ≡ b
        → changed_if (is_lost_in shard i && b) (with_loss at) (filed_in old i k) ≡ changed_if (is_lost_in shard i) (with_loss at) (filed_in old i k)
    all_filed i k true e = ap (λ (t : Bool). changed_if t (with_loss at) (filed_in old i k)) (and_true (is_lost_in shard i))
    all_filed i k false e =
        ap (λ (t : Bool). changed_if t (with_loss at) (filed_in old i k)) (and_false (is_lost_in shard i))
        ∙ landed_filed at (is_lost_in shard i) (filed_in old i k) (landed_is old flights i k flown e)

    if_landed : (b : Bool) (attempts : List Attempt) → attempts ≡ map lose_attempt attempts → attempts ≡ cond b (map lose_attempt attempts) attempts
    if_landed true attempts e = e
    if_landed false attempts e = refl

    all_attempts : (i k : ℕ) (b : Bool) → is_flown flights i k ≡ b
        → cond (is_lost_in shard i && b) (map lose_attempt (attempts_in old i k)) (attempts_in old i k) ≡ cond (is_lost_in shard i) (map lose_attempt (attempts_in old i k)) (attempts_in old i k)
    all_attempts i k true e = ap (λ (t : Bool). cond t (map lose_attempt (attempts_in old i k)) (attempts_in old i k)) (and_true (is_lost_in shard i))
    all_attempts i k false e =
        ap (λ (t : Bool). cond t (map lose_attempt (attempts_in old i k)) (attempts_in old i k)) (and_false (is_lost_in shard i))
        ∙ if_landed (is_lost_in shard i) (attempts_in old i k) (landed_attempts (filed_in old i k) (attempts_in old i k) (landed_is old flights i k flown e) (last i k))
