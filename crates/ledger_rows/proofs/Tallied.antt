-- The tally of all entries, and those that are not decided, over the incarnations.
use Rattle.std.proofs.Common.{◌≡◌, ℕ, ◌+◌, ◌-◌, ◌≤◌, ◌==◌, ◌≢◌, Bool, true, false, ◌&&◌, cond, Option, Some, None, List, [], ◌∷◌, ◌++◌, map, length, length-append, option_map, refl, sym, ap, ap₂, ◌∙◌, subst, inl, inr, arith}
use Rattle.std.specs.List.{flat_map}
use Rattle.std.specs.Option.{option_to_list}
use Rattle.std.proofs.lemmas.Bool.{cases_eq, cases_lt, ne_eqb}
use Rattle.std.proofs.lemmas.List.{get_or_past}
use Rattle.sched_plain.specs.declared.entry.Attempt.{Attempt}
use Rattle.sched_plain.specs.declared.entry.Entry.{Entry}
use Rattle.sched_plain.specs.declared.entry.Filed.{Filed}
use Rattle.sched_plain.specs.declared.standing.Standing.{Standing}
use Rattle.sched_plain.specs.declared.step.Pair.{Pair}
use Rattle.sched_plain.specs.Attempts.{lose_attempt}
use Rattle.sched_plain.specs.Entries.{changed_if, on_entry, with_loss}
use Rattle.sched_plain.specs.Report.{number_of, one_more_if, is_done, is_final, is_closed_by_attempts, is_closed_by_age, is_cancelled}
use Rattle.sched_plain.specs.Standing.{standing_of}
use Rattle.sched_plain.specs.declared.schedule.Policy.{Policy}
use Rattle.entry_lines.specs.Rows.{Row, LaneRows, new_row}
use Rattle.entry_lines.specs.declared.entry_lines.TheConstants.{MOST_ENTRIES}
use Rattle.ledger_rows.specs.declared.tally.Tally.{Tally}
use Rattle.ledger_rows.specs.Rows.{cancelled_row, pairs_of, standings_looked}
use Rattle.ledger_rows.specs.State.{ChangesIn, Loses, RowsAre, Tells, attempts_in, filed_in, lane_of, lane_standings, no_lane, pairs_in, rows_cancelled, rows_entered, same_rows}
use Rattle.ledger_rows.specs.Tallying.{AreFew, AreTallied, IsAmong, IsUpTo, all_in, replaced, tally_of}
use Rattle.ledger_rows.proofs.Outcomes.{IsOfDecided, done_decided, final_decided, attempts_decided, age_decided, cancelled_decided, by_outcome, number_few}
use Rattle.ledger_rows.proofs.Sums.{number_sum, sum_changed, sum_ends, sum_few, sum_has, sum_same, sum_upto}
use Rattle.ledger_rows.proofs.Tallies.{number_append}

-- the standings that are looked up for some pairs
abbrev pub looked : (ℕ → Option Filed) → ℕ → List Pair → List Standing
looked f now pairs = flat_map {X = Pair} (λ pair. option_to_list (option_map (λ f. standing_of f now) (f pair.instant))) pairs

-- the number of the entry at an instant that pass a test
abbrev pub number_here : (Standing → Bool) → ℕ → Option Filed → ℕ
number_here test now filed = number_of test (option_to_list (option_map (λ f. standing_of f now) filed))

-- where each entry passes as before, as many do
pub looked_same : (test : Standing → Bool) (f g : ℕ → Option Filed) (now then : ℕ) (pairs : List Pair) → ((k : ℕ) → number_here test now (f k) ≡ number_here test then (g k))
    → number_of test (looked f now pairs) ≡ number_of test (looked g then pairs)
looked_same test f g now then [] same = refl
looked_same test f g now then (pair ∷ pairs) same =
    number_append test (option_to_list (option_map (λ f. standing_of f now) (f pair.instant))) (looked f now pairs)
    ∙ ap₂ (λ (a b : ℕ). a + b) (same pair.instant) (looked_same test f g now then pairs same)
    ∙ sym (number_append test (option_to_list (option_map (λ f. standing_of f then) (g pair.instant))) (looked g then pairs))

-- no moment changes what is decided
moment_here : (test : Standing → Bool) → IsOfDecided test → (now then : ℕ) (filed : Option Filed) → number_here test now filed ≡ number_here test then filed
moment_here test of now then None = refl
moment_here test of now then (Some f) = ap (λ (b : Bool). one_more_if b 0) (by_outcome test of f f now then refl)

pub lane_moment : (test : Standing → Bool) → IsOfDecided test → (lanes : List LaneRows) (now then inc : ℕ)
    → number_of test (lane_standings lanes now inc) ≡ number_of test (lane_standings lanes then inc)
lane_moment test of lanes now then inc =
    looked_same test (filed_in lanes inc) (filed_in lanes inc) now then (pairs_in lanes inc) (λ k. moment_here test of now then (filed_in lanes inc k))

all_moment : (test : Standing → Bool) → IsOfDecided test → (lanes : List LaneRows) (now then : ℕ) → number_of test (all_in lanes now) ≡ number_of test (all_in lanes then)
all_moment test of lanes now then =
    number_sum test (lane_standings lanes now) (length lanes)
    ∙ sum_same (λ i. number_of test (lane_standings lanes now i)) (λ i. number_of test (lane_standings lanes then i)) (length lanes) (λ i lt. lane_moment test of lanes now then i)
    ∙ sym (number_sum test (lane_standings lanes then) (length lanes))

pub tally_moment : (lanes : List LaneRows) (now then : ℕ) → tally_of (all_in lanes now) ≡ tally_of (all_in lanes then)
tally_moment lanes now then = λ i. record {
  done = all_moment is_done done_decided lanes now then i;
  finals = all_moment is_final final_decided lanes now then i;
  attempts = all_moment is_closed_by_attempts attempts_decided lanes now then i;
  age = all_moment is_closed_by_age age_decided lanes now then i;
  cancelled = all_moment is_cancelled cancelled_decided lanes now then i;
}

-- an incarnation with no lane has no entries
pub no_standings : (lanes : List LaneRows) (now inc : ℕ) → length lanes ≤ inc → lane_standings lanes now inc ≡ []
no_standings lanes now inc past = ap (λ (l : LaneRows). standings_looked now l.rows) (get_or_past lanes inc no_lane past)

-- so many entries have at most so many standings
looked_few : (f : ℕ → Option Filed) (now : ℕ) (pairs : List Pair) → length (looked f now pairs) ≤ length pairs
looked_few f now [] = omega arith
looked_few f now (pair ∷ pairs) =
    let both = length-append (option_to_list (option_map (λ f. standing_of f now) (f pair.instant))) (looked f now pairs) in
    let one = at_most (f pair.instant) in
    let rest = looked_few f now pairs in
    omega (arith, both, one, rest)
  where
    at_most : (filed : Option Filed) → length (option_to_list (option_map (λ f. standing_of f now) filed)) ≤ 1
    at_most None = omega arith
    at_most (Some f) = omega arith

pub lane_few : (test : Standing → Bool) (lanes : List LaneRows) (now inc : ℕ) → AreFew lanes → number_of test (lane_standings lanes now inc) ≤ MOST_ENTRIES
lane_few test lanes now inc few =
    let a = number_few test (lane_standings lanes now inc) in
    let b = looked_few (filed_in lanes inc) now (pairs_in lanes inc) in
    let c = few inc in omega (arith, a, b, c)

pub all_few : (test : Standing → Bool) (lanes : List LaneRows) (now : ℕ) → length lanes ≤ 4294967296 → AreFew lanes → number_of test (all_in lanes now) ≤ 9223372036854775808
all_few test lanes now le few =
    let is = number_sum test (lane_standings lanes now) (length lanes) in
    let most = sum_few (λ i. number_of test (lane_standings lanes now i)) MOST_ENTRIES (length lanes) (λ i. lane_few test lanes now i few) in
    omega (arith, is, most, le)

pub tallied_few : (lanes : List LaneRows) (t : Tally) → length lanes ≤ 4294967296 → AreTallied lanes t → IsUpTo 9223372036854775808 t
tallied_few lanes t le told =
    subst (IsUpTo 9223372036854775808) (sym told.value)
    (record {
      done = all_few is_done lanes 0 le told.few;
      finals = all_few is_final lanes 0 le told.few;
      attempts = all_few is_closed_by_attempts lanes 0 le told.few;
      age = all_few is_closed_by_age lanes 0 le told.few;
      cancelled = all_few is_cancelled lanes 0 le told.few;
    })

-- the entries of an incarnation are among all
has_lane : (test : Standing → Bool) (lanes : List LaneRows) (inc : ℕ) → number_of test (lane_standings lanes 0 inc) ≤ number_of test (all_in lanes 0)
has_lane test lanes inc = elim (cases_lt inc (length lanes)) [
  | inl inside ↦
      let is = number_sum test (lane_standings lanes 0) (length lanes) in
      let has = sum_has (λ i. number_of test (lane_standings lanes 0 i)) inc (length lanes) inside in omega (arith, is, has)
  | inr past ↦
      let none : number_of test (lane_standings lanes 0 inc) ≡ 0 = ap (number_of test) (no_standings lanes 0 inc past) in omega (arith, none)
]

pub tallied_has : (lanes : List LaneRows) (t part : Tally) (inc : ℕ) → AreTallied lanes t → part ≡ tally_of (lane_standings lanes 0 inc) → IsAmong part t
tallied_has lanes t part inc told is =
    subst (λ (p : Tally). IsAmong p t) (sym is)
    (subst (IsAmong (tally_of (lane_standings lanes 0 inc))) (sym told.value)
    (record {
      done = has_lane is_done lanes inc;
      finals = has_lane is_final lanes inc;
      attempts = has_lane is_closed_by_attempts lanes inc;
      age = has_lane is_closed_by_age lanes inc;
      cancelled = has_lane is_cancelled lanes inc;
    }))

-- the entries of other incarnations are as they were
pub record AreOthers (old new : List LaneRows) (inc : ℕ) : Type 0 where
  pub long : length new ≡ length old
  pub standings : (i : ℕ) → i ≢ inc → lane_standings new 0 i ≡ lane_standings old 0 i
  pub pairs : (i : ℕ) → i ≢ inc → pairs_in new i ≡ pairs_in old i

changed_number : (test : Standing → Bool) (old new : List LaneRows) (inc : ℕ) → AreOthers old new inc
    → number_of test (all_in new 0) ≡ number_of test (all_in old 0) - number_of test (lane_standings old 0 inc) + number_of test (lane_standings new 0 inc)
changed_number test old new inc others = elim (cases_lt inc (length old)) [
  | inl inside ↦
      let h : ℕ → ℕ = λ i. number_of test (lane_standings old 0 i) in
      let k : ℕ → ℕ = λ i. number_of test (lane_standings new 0 i) in
      let before = number_sum test (lane_standings old 0) (length old) in
      let after = number_sum test (lane_standings new 0) (length new) ∙ ap (sum_upto k) others.long in
      let sum = sum_changed h k inc (length old) inside (λ i away. ap (number_of test) (others.standings i away)) in
      let has = sum_has h inc (length old) inside in
      omega (arith, before, after, sum, has)
  | inr past ↦
      let none : number_of test (lane_standings old 0 inc) ≡ 0 = ap (number_of test) (no_standings old 0 inc past) in
      let still : number_of test (lane_standings new 0 inc) ≡ 0 = ap (number_of test) (no_standings new 0 inc (let l = others.long in omega (arith, l, past))) in
      let before = number_sum test (lane_standings old 0) (length old) in
      let after = number_sum test (lane_standings new 0) (length new) ∙ ap (sum_upto (λ i. number_of test (lane_standings new 0 i))) others.long in
      let same = sum_same (λ i. number_of test (lane_standings new 0 i)) (λ i. number_of test (lane_standings old 0 i)) (length old)
      (λ i lt. ap (number_of test) (others.standings i (λ e. omega (arith, e, lt, past)))) in
      omega (arith, none, still, before, after, same)
]

-- the entries of one incarnation are changed
pub tallied_changed : (old new : List LaneRows) (inc : ℕ) (t before after next : Tally) → AreTallied old t → AreOthers old new inc → length (pairs_in new inc) ≤ MOST_ENTRIES
    → before ≡ tally_of (lane_standings old 0 inc) → after ≡ tally_of (lane_standings new 0 inc) → next ≡ replaced t before after → AreTallied new next
tallied_changed old new inc t before after next told others few was now is =
    let changed : tally_of (all_in new 0) ≡ replaced (tally_of (all_in old 0)) (tally_of (lane_standings old 0 inc)) (tally_of (lane_standings new 0 inc)) =
    λ i. record {
      done = changed_number is_done old new inc others i;
      finals = changed_number is_final old new inc others i;
      attempts = changed_number is_closed_by_attempts old new inc others i;
      age = changed_number is_closed_by_age old new inc others i;
      cancelled = changed_number is_cancelled old new inc others i;
    } in
    record {
      value = is ∙ ap (λ (a : Tally). replaced a before after) told.value ∙ ap₂ (λ (a b : Tally). replaced (tally_of (all_in old 0)) a b) was now ∙ sym changed;
      few = λ i. elim (cases_eq i inc) [
        | inl here ↦ subst (λ (j : ℕ). length (pairs_in new j) ≤ MOST_ENTRIES) (sym here) few
        | inr away ↦ subst (λ (ps : List Pair). length ps ≤ MOST_ENTRIES) (sym (others.pairs i away)) (told.few i)
      ];
    }

-- the rows of an incarnation are changed, and no others
pub others_rows : (old new : List LaneRows) (inc : ℕ) (f : ℕ → List Row → List Row) → length new ≡ length old → RowsAre old new f
    → ((i : ℕ) (rows : List Row) → i ≢ inc → f i rows ≡ rows) → AreOthers old new inc
others_rows old new inc f long are same = record {
  long = long;
  standings = λ i away. ap (standings_looked 0) (are i ∙ same i (lane_of old i).rows away);
  pairs = λ i away. ap pairs_of (are i ∙ same i (lane_of old i).rows away);
}

-- the entry of one occurrence is changed, and no other
pub others_told : (old new : List LaneRows) (inc instant : ℕ) (change : Entry → Entry) (grow : List Attempt → List Attempt) → length new ≡ length old
    → ChangesIn old new inc instant change grow → AreOthers old new inc
others_told old new inc instant change grow long told = record {
  long = long;
  standings = λ i away. ap₂ (λ (f : ℕ → Option Filed) (ps : List Pair). looked f 0 ps) (λ t k. same i k away t) (told.pairs i);
  pairs = λ i away. told.pairs i;
}
  where
    same : (i k : ℕ) → i ≢ inc → filed_in new i k ≡ filed_in old i k
    same i k away = told.filed i k ∙ ap (λ (b : Bool). changed_if (b && k == instant) change (filed_in old i k)) (ne_eqb i inc away)

-- the same rows have the same tally
pub tallied_same : (old new : List LaneRows) (t : Tally) → RowsAre old new same_rows → AreTallied old t → AreTallied new t
tallied_same old new t are told = record {
  value = told.value ∙ (λ i. record {
    done = same is_done i;
    finals = same is_final i;
    attempts = same is_closed_by_attempts i;
    age = same is_closed_by_age i;
    cancelled = same is_cancelled i;
  });
  few = λ inc. subst (λ (rows : List Row). length (pairs_of rows) ≤ MOST_ENTRIES) (sym (are inc)) (told.few inc);
}
  where
    same : (test : Standing → Bool) → number_of test (all_in old 0) ≡ number_of test (all_in new 0)
    same test =
        let h : ℕ → ℕ = λ i. number_of test (lane_standings old 0 i) in
        let k : ℕ → ℕ = λ i. number_of test (lane_standings new 0 i) in
        let alike : (i : ℕ) → k i ≡ h i = λ i. ap (λ rows. number_of test (standings_looked 0 rows)) (are i) in
        number_sum test (lane_standings old 0) (length old)
        ∙ sum_ends h (length old) (length new) (λ i past. ap (number_of test) (no_standings old 0 i past)) (λ i past. sym (alike i) ∙ ap (number_of test) (no_standings new 0 i past))
        ∙ sum_same h k (length new) (λ i lt. sym (alike i))
        ∙ sym (number_sum test (lane_standings new 0) (length new))

-- a change that leaves outcomes
abbrev pub KeepsOutcome : (Entry → Entry) → Type 0
KeepsOutcome change = (entry : Entry) → (change entry).outcome ≡ entry.outcome

kept_here : (test : Standing → Bool) → IsOfDecided test → (change : Entry → Entry) → KeepsOutcome change → (b : Bool) (filed : Option Filed)
    → number_here test 0 (changed_if b change filed) ≡ number_here test 0 filed
kept_here test of change keeps true None = refl
kept_here test of change keeps false None = refl
kept_here test of change keeps true (Some f) = ap (λ (b : Bool). one_more_if b 0) (by_outcome test of (on_entry change f) f 0 0 (keeps f.entry))
kept_here test of change keeps false (Some f) = refl

-- such a change of some entries leaves the tally
pub tallied_kept : (old new : List LaneRows) (t : Tally) (passes : ℕ → ℕ → Bool) (change : Entry → Entry) (attempts : ℕ → ℕ → List Attempt) → KeepsOutcome change → length new ≡ length old
    → Tells new (λ i k. changed_if (passes i k) change (filed_in old i k)) (pairs_in old) attempts → AreTallied old t → AreTallied new t
tallied_kept old new t passes change attempts keeps long told tallied = record {
  value = tallied.value ∙ (λ i. record {
    done = same is_done done_decided i;
    finals = same is_final final_decided i;
    attempts = same is_closed_by_attempts attempts_decided i;
    age = same is_closed_by_age age_decided i;
    cancelled = same is_cancelled cancelled_decided i;
  });
  few = λ inc. subst (λ (ps : List Pair). length ps ≤ MOST_ENTRIES) (sym (told.pairs inc)) (tallied.few inc);
}
  where
    lane_same : (test : Standing → Bool) → IsOfDecided test → (i : ℕ) → number_of test (lane_standings new 0 i) ≡ number_of test (lane_standings old 0 i)
    lane_same test of i =
        ap (λ (ps : List Pair). number_of test (looked (filed_in new i) 0 ps)) (told.pairs i)
        ∙ looked_same test (filed_in new i) (filed_in old i) 0 0 (pairs_in old i)
        (λ k. ap (number_here test 0) (told.filed i k) ∙ kept_here test of change keeps (passes i k) (filed_in old i k))

    same : (test : Standing → Bool) → IsOfDecided test → number_of test (all_in old 0) ≡ number_of test (all_in new 0)
    same test of =
        number_sum test (lane_standings old 0) (length old)
        ∙ sum_same (λ i. number_of test (lane_standings old 0 i)) (λ i. number_of test (lane_standings new 0 i)) (length old) (λ i lt. sym (lane_same test of i))
        ∙ ap (sum_upto (λ i. number_of test (lane_standings new 0 i))) (sym long)
        ∙ sym (number_sum test (lane_standings new 0) (length new))

pub kept_told : (old new : List LaneRows) (t : Tally) (inc instant : ℕ) (change : Entry → Entry) (grow : List Attempt → List Attempt) → KeepsOutcome change → length new ≡ length old
    → ChangesIn old new inc instant change grow → AreTallied old t → AreTallied new t
kept_told old new t inc instant change grow keeps long told tallied =
    tallied_kept old new t (λ i k. i == inc && k == instant) change (λ i k. cond (i == inc && k == instant) (grow (attempts_in old i k)) (attempts_in old i k)) keeps long told tallied

pub kept_lost : (old new : List LaneRows) (t : Tally) (test : ℕ → ℕ → Bool) (at : ℕ) → length new ≡ length old → Loses old new test at → AreTallied old t → AreTallied new t
kept_lost old new t test at long told tallied =
    tallied_kept old new t test (with_loss at) (λ i k. cond (test i k) (map lose_attempt (attempts_in old i k)) (attempts_in old i k)) (λ entry. refl) long told tallied

pub others_entered : (old new : List LaneRows) (inc : ℕ) (policy : Policy) (pairs : List Pair) → length new ≡ length old → RowsAre old new (rows_entered inc policy pairs) → AreOthers old new inc
others_entered old new inc policy pairs long are =
    others_rows old new inc (rows_entered inc policy pairs) long are (λ i rows away. ap (λ (b : Bool). cond b (rows ++ map (new_row policy) pairs) rows) (ne_eqb i inc away))

pub others_cancelled : (old new : List LaneRows) (inc : ℕ) → length new ≡ length old → RowsAre old new (rows_cancelled inc) → AreOthers old new inc
others_cancelled old new inc long are =
    others_rows old new inc (rows_cancelled inc) long are (λ i rows away. ap (λ (b : Bool). cond b (map cancelled_row rows) rows) (ne_eqb i inc away))

-- a tally that was read of the lanes is among that of all
pub read_among : (old seen : List LaneRows) (inc : ℕ) (t before : Tally) → AreTallied old t → seen ≡ old → before ≡ tally_of (lane_standings seen 0 inc) → IsAmong before t
read_among old seen inc t before told same is = tallied_has old t before inc told (is ∙ ap (λ (l : List LaneRows). tally_of (lane_standings l 0 inc)) same)

-- and one that is read again replaces it
pub read_again : (old new seen again : List LaneRows) (inc : ℕ) (t before after next : Tally) → AreTallied old t → AreOthers old new inc → seen ≡ old → again ≡ new
    → before ≡ tally_of (lane_standings seen 0 inc) → after ≡ tally_of (lane_standings again 0 inc) → length (pairs_in again inc) ≤ MOST_ENTRIES → next ≡ replaced t before after
    → AreTallied new next
read_again old new seen again inc t before after next told others same still was now few is =
    tallied_changed old new inc t before after next told others (subst (λ (l : List LaneRows). length (pairs_in l inc) ≤ MOST_ENTRIES) still few)
    (was ∙ ap (λ (l : List LaneRows). tally_of (lane_standings l 0 inc)) same) (now ∙ ap (λ (l : List LaneRows). tally_of (lane_standings l 0 inc)) still) is

-- no entries
pub none_tallied : AreTallied [] (tally_of [])
none_tallied = record { value = refl; few = λ inc. omega arith }
