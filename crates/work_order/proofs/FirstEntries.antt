-- The first entry of a shard that gives work.
use Rattle.std.proofs.Common.{◌≡◌, ℕ, zero, suc, ◌≤◌, ◌==◌, nat_le, nat_lt, Bool, true, false, cond, ◌&&◌, Option, Some, None, is_some, is_none, List, [], ◌∷◌, length, option_map, refl, sym, ap, ◌∙◌, inl, inr, arith}
use Rattle.std.specs.Option.{option_and_then}
use Rattle.std.proofs.lemmas.Bool.{eq-eqb, eqb-true, true≢false}
use Rattle.sched_plain.specs.declared.entry.Filed.{Filed}
use Rattle.sched_plain.specs.declared.outcome.Outcome.{Outcome}
use Rattle.sched_plain.specs.declared.outcome.Reason.TheVariants as reasons
use Rattle.sched_plain.specs.declared.row.Row.{Row}
use Rattle.sched_plain.specs.declared.standing.Standing.{Standing}
use Rattle.sched_plain.specs.declared.standing.Standing.TheVariants as standings
use Rattle.sched_plain.specs.declared.step.Pair.{Pair}
use Rattle.sched_plain.specs.declared.work.Work.{Work}
use Rattle.sched_plain.specs.History.{History}
use Rattle.plain_words.specs.Ids.{shard_of}
use Rattle.plain_words.specs.Lists.{first_answer, first_some, nth, passing, some_pass, when}
use Rattle.sched_plain.specs.Changes.{changes_of}
use Rattle.sched_plain.specs.Rows.{rows_of}
use Rattle.sched_plain.specs.Items.{items}
use Rattle.expressions.specs.Calendar.{Calendar}
use Rattle.sched_plain.specs.Occurrences.{occurs_in}
use Rattle.sched_plain.specs.Marks.{cover}
use Rattle.sched_plain.specs.Ledger.{ledger_of}
use Rattle.sched_plain.specs.Entries.{entries, instants_of, is_paired, filed}
use Rattle.sched_plain.specs.Attempts.{is_live_last}
use Rattle.sched_plain.specs.Standing.{earliest, is_used_up, is_past_age, or_due, standing_of}
use Rattle.sched_plain.specs.Seen.{seen}
use Rattle.sched_plain.specs.Work.{wanted_by, act_of, waited_for, live_of, first_entry}
use Rattle.sched_plain.specs.Legal.{IsLegal}
use Rattle.sched_plain.proofs.LedgerLemmas.{filed_paired}
use Rattle.book_laws.proofs.EntriesExact.{caught, entries_rise}
use Rattle.ledger_rows.specs.declared.question.Question.TheVariants as questions
use Rattle.ledger_rows.specs.Wanting.{is_to_do, is_in_air, asks, IsFirstOf}
use Rattle.work_order.specs.DateLaws.{shard_incs}
use Rattle.work_order.specs.EntryOrder.{work_of_entry, DueIsFirst, LiveIsFirst}
use Rattle.work_order.proofs.Completed.{instants_reached}
use Rattle.work_order.proofs.Searches.{none_in_numbers, found_in_numbers, rise, none_in_pairs, found_in_pairs, IsWithin, nth_within}

nothing_passes : (c : Calendar) (n : ℕ) → passing (occurs_in c []) n ≡ []
nothing_passes c zero = refl
nothing_passes c (suc n) = nothing_passes c n

no_pairs : (pairs : List Pair) → instants_of pairs ≡ [] → pairs ≡ []
no_pairs [] e = refl
no_pairs (pair ∷ pairs) e = let clash : ⊥ = cc in absurd clash

-- an incarnation with an entry is there
pub paired_within : (c : Calendar) (h : History) → IsLegal c h → (inc k : ℕ) → is_paired (entries (ledger_of h) inc) k ≡ true
    → (row : Option Row) → nth (rows_of (changes_of h)) inc ≡ row → IsWithin inc (length (rows_of (changes_of h)))
paired_within c h legal inc k paired None none =
    let bare : items h inc ≡ [] = (caught c h legal inc).unborn none in
    let empty : entries (ledger_of h) inc ≡ [] =
    no_pairs (entries (ledger_of h) inc)
    (instants_reached c h legal inc ∙ ap (λ all. passing (occurs_in c all) (cover h inc)) bare ∙ nothing_passes c (cover h inc)) in
    absurd (true≢false (sym paired ∙ ap (λ pairs. is_paired pairs k) empty))
paired_within c h legal inc k paired (Some row) there = nth_within (rows_of (changes_of h)) inc row there

-- a question over entries whose answer is there just where a test passes
record AnswersWhere (question : ℕ → ℕ → Filed → Option Work) (passes : Filed → Bool) : Type 0 where
  pub misses : (inc k : ℕ) (f : Filed) → passes f ≡ false → question inc k f ≡ None
  pub hits : (inc k : ℕ) (f : Filed) → passes f ≡ true → is_some (question inc k f) ≡ true

missed : (question : ℕ → ℕ → Filed → Option Work) (passes : Filed → Bool) → AnswersWhere question passes → (inc k : ℕ) (o : Option Filed)
    → some_pass passes o ≡ false → option_and_then (question inc k) o ≡ None
missed question passes where_ inc k None fails = refl
missed question passes where_ inc k (Some f) fails = where_.misses inc k f fails

hit : (question : ℕ → ℕ → Filed → Option Work) (passes : Filed → Bool) → AnswersWhere question passes → (inc k : ℕ) (o : Option Filed)
    → some_pass passes o ≡ true → is_some (option_and_then (question inc k) o) ≡ true
hit question passes where_ inc k None holds = cc holds
hit question passes where_ inc k (Some f) holds = where_.hits inc k f holds

passed_there : (passes : Filed → Bool) (o : Option Filed) → some_pass passes o ≡ true → is_some o ≡ true
passed_there passes None holds = cc holds
passed_there passes (Some f) holds = refl

-- the first occurrence of a shard that passes gives the answer of the search
first_found : (c : Calendar) (h : History) → IsLegal c h → (question : ℕ → ℕ → Filed → Option Work) (passes : Filed → Bool)
    → AnswersWhere question passes → (shard : ℕ) (found : Option (ℕ × ℕ))
    → IsFirstOf (λ inc k. some_pass passes (filed (ledger_of h) inc k)) shard found
    → first_entry (seen c h).ledger question (shard_incs h shard) ≡ work_of_entry h question found
first_found c h legal question passes says shard None none =
    let calls = ledger_of h in
    none_in_numbers
    (λ inc. first_answer {A = Pair} (λ pair. option_and_then (question inc pair.instant) (filed calls inc pair.instant)) (entries calls inc))
    (λ inc. shard == shard_of inc) 1 (length (rows_of (changes_of h)))
    (λ inc mine.
    none_in_pairs (λ k. option_and_then (question inc k) (filed calls inc k)) (entries calls inc)
    (λ k. missed question passes says inc k (filed calls inc k) (none inc k (sym (eqb-true shard (shard_of inc) mine)))))
first_found c h legal question passes says shard (Some found) is =
    let calls = ledger_of h in
    let inc = found.0 in
    let k = found.1 in
    let paired : is_paired (entries calls inc) k ≡ true =
    sym (filed_paired calls inc k) ∙ passed_there passes (filed calls inc k) is.passing in
    let within = paired_within c h legal inc k paired (nth (rows_of (changes_of h)) inc) refl in
    let low : 1 ≤ inc = within.low in
    let up : inc ≤ length (rows_of (changes_of h)) = within.up in
    let answer : is_some (option_and_then (question inc k) (filed calls inc k)) ≡ true = hit question passes says inc k (filed calls inc k) is.passing in
    let inside : first_answer {A = Pair} (λ pair. option_and_then (question inc pair.instant) (filed calls inc pair.instant)) (entries calls inc)
    ≡ option_and_then (question inc k) (filed calls inc k) =
    found_in_pairs (λ i. option_and_then (question inc i) (filed calls inc i)) (entries calls inc) k
    (rise (entries calls inc) (entries_rise c h legal inc)) paired
    (λ i lt. missed question passes says inc i (filed calls inc i) (is.first inc i is.in_shard (inr (refl, lt)))) answer in
    found_in_numbers
    (λ i. first_answer {A = Pair} (λ pair. option_and_then (question i pair.instant) (filed calls i pair.instant)) (entries calls i))
    (λ i. shard == shard_of i) 1 (length (rows_of (changes_of h))) inc low (omega arith) (eq-eqb shard (shard_of inc) (sym is.in_shard))
    (λ i lt mine.
    none_in_pairs (λ j. option_and_then (question i j) (filed calls i j)) (entries calls i)
    (λ j. missed question passes says i j (filed calls i j) (is.first i j (sym (eqb-true shard (shard_of i) mine)) (inl lt))))
    (ap is_some inside ∙ answer)
    ∙ inside

unwanted : (inc k : ℕ) (b : Bool) (s : Standing) → (b && is_to_do s) ≡ false → cond b (wanted_by inc k s) None ≡ None
unwanted inc k true (standings.Decided outcome) fails = refl
unwanted inc k true standings.Live fails = refl
unwanted inc k true (standings.Exhausted reason) fails = cc fails
unwanted inc k true (standings.Waiting until) fails = refl
unwanted inc k true standings.Due fails = cc fails
unwanted inc k false s fails = refl

wanted : (inc k : ℕ) (b : Bool) (s : Standing) → (b && is_to_do s) ≡ true → is_some (cond b (wanted_by inc k s) None) ≡ true
wanted inc k true (standings.Decided outcome) holds = cc holds
wanted inc k true standings.Live holds = cc holds
wanted inc k true (standings.Exhausted reason) holds = refl
wanted inc k true (standings.Waiting until) holds = cc holds
wanted inc k true standings.Due holds = refl
wanted inc k false s holds = cc holds

acts_where : (t : ℕ) → AnswersWhere (act_of t) (asks (questions.ToAct t))
acts_where t =
    record {
      misses = λ inc k f fails. unwanted inc k (nat_le f.entry.chosen t) (standing_of f t) fails;
      hits = λ inc k f holds. wanted inc k (nat_le f.entry.chosen t) (standing_of f t) holds;
    }

-- which entry has its attempt in the air, whatever the moment
air_is : (outcome : Option Outcome) (live used past wait : Bool) (until : ℕ)
    → is_in_air (or_due (first_some (
    option_map standings.Decided outcome
    ∷ when live standings.Live
    ∷ when used (standings.Exhausted reasons.Attempts)
    ∷ when past (standings.Exhausted reasons.Age)
    ∷ when wait (standings.Waiting until)
    ∷ [])))
    ≡ (is_none outcome && live)
air_is (Some outcome) live used past wait until = refl
air_is None true used past wait until = refl
air_is None false true past wait until = refl
air_is None false false true wait until = refl
air_is None false false false true until = refl
air_is None false false false false until = refl

air_at : (f : Filed) (t : ℕ) → is_in_air (standing_of f t) ≡ (is_none f.entry.outcome && is_live_last f.entry.last)
air_at f t =
    air_is f.entry.outcome (is_live_last f.entry.last) (is_used_up f.entry f.policy) (is_past_age f.entry f.policy t)
    (nat_lt t (earliest f.entry)) (earliest f.entry)

unwaited : (inc k : ℕ) (s : Standing) → is_in_air s ≡ false → waited_for inc k s ≡ None
unwaited inc k (standings.Decided outcome) fails = refl
unwaited inc k standings.Live fails = cc fails
unwaited inc k (standings.Exhausted reason) fails = refl
unwaited inc k (standings.Waiting until) fails = refl
unwaited inc k standings.Due fails = refl

waited : (inc k : ℕ) (s : Standing) → is_in_air s ≡ true → is_some (waited_for inc k s) ≡ true
waited inc k (standings.Decided outcome) holds = cc holds
waited inc k standings.Live holds = refl
waited inc k (standings.Exhausted reason) holds = cc holds
waited inc k (standings.Waiting until) holds = cc holds
waited inc k standings.Due holds = cc holds

lives_where : (t : ℕ) → AnswersWhere (live_of t) (asks questions.ToWait)
lives_where t =
    record {
      misses = λ inc k f fails. unwaited inc k (standing_of f t) (air_at f t ∙ sym (air_at f 0) ∙ fails);
      hits = λ inc k f holds. waited inc k (standing_of f t) (air_at f t ∙ sym (air_at f 0) ∙ holds);
    }

pub due_first : DueIsFirst
due_first c h legal shard t found is = first_found c h legal (act_of t) (asks (questions.ToAct t)) (acts_where t) shard found is

pub live_first : LiveIsFirst
live_first c h legal shard t found is = first_found c h legal (live_of t) (asks questions.ToWait) (lives_where t) shard found is
