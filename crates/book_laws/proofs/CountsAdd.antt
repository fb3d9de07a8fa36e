-- Each standing is one of nine, and each entry has one standing.
use Rattle.std.proofs.Common.{◌≡◌, ℕ, ◌+◌, ◌==◌, true, Option, Some, None, is_some, List, [], ◌∷◌, length, refl, sym, ap₂, ◌∙◌, arith, length-append, option_to_list, option_map, flat_map, ap}
use Rattle.std.proofs.lemmas.Bool.{or_left, or_right, eq-eqb}
use Rattle.sched_plain.specs.declared.entry.Filed.{Filed}
use Rattle.sched_plain.specs.declared.standing.Standing.{Standing}
use Rattle.sched_plain.specs.declared.standing.Standing.TheVariants as standings
use Rattle.sched_plain.specs.declared.step.Pair.{Pair}
use Rattle.sched_plain.specs.declared.outcome.Outcome.TheVariants as outcomes
use Rattle.plain_words.specs.Lists.{numbers}
use Rattle.sched_plain.specs.Changes.{changes_of}
use Rattle.sched_plain.specs.Rows.{rows_of}
use Rattle.sched_plain.specs.Ledger.{LedgerCall, ledger_of}
use Rattle.sched_plain.specs.Entries.{entries, is_paired, filed}
use Rattle.sched_plain.specs.Standing.{standing_of}
use Rattle.sched_plain.specs.Base.{sum_of_folded}
use Rattle.sched_plain.specs.Report.{folded, standings_of, all_standings, number_of, is_done, is_final, is_closed_by_attempts, is_closed_by_age, is_cancelled, is_waiting, is_due, is_live, is_exhausted}
use Rattle.sched_plain.proofs.LedgerLemmas.{filed_paired}
use Rattle.book_laws.specs.CountLaws.{CountsAddUp, EntriesAreCounted}

abbrev nine : List Standing → ℕ
nine all =
    number_of is_done all + number_of is_final all + number_of is_closed_by_attempts all + number_of is_closed_by_age all
    + number_of is_cancelled all + number_of is_waiting all + number_of is_due all + number_of is_live all + number_of is_exhausted all

length_nine : (all : List Standing) → length all ≡ nine all
length_nine [] = refl
length_nine (standings.Decided outcomes.Done ∷ all) = let old : length all ≡ nine all = length_nine all in omega arith
length_nine (standings.Decided outcomes.Final ∷ all) = let old : length all ≡ nine all = length_nine all in omega arith
length_nine (standings.Decided outcomes.Attempts ∷ all) = let old : length all ≡ nine all = length_nine all in omega arith
length_nine (standings.Decided outcomes.Age ∷ all) = let old : length all ≡ nine all = length_nine all in omega arith
length_nine (standings.Decided outcomes.Cancelled ∷ all) = let old : length all ≡ nine all = length_nine all in omega arith
length_nine (standings.Live ∷ all) = let old : length all ≡ nine all = length_nine all in omega arith
length_nine (standings.Exhausted reason ∷ all) = let old : length all ≡ nine all = length_nine all in omega arith
length_nine (standings.Waiting until ∷ all) = let old : length all ≡ nine all = length_nine all in omega arith
length_nine (standings.Due ∷ all) = let old : length all ≡ nine all = length_nine all in omega arith

pub counts_add_up : CountsAddUp
counts_add_up h t =
    let all = all_standings (ledger_of h) (length (rows_of (changes_of h))) t in
    let nine_of : length all ≡ nine all = length_nine all in
    omega arith

-- what is filed for an occurrence has one standing
one_standing : (f : Option Filed) (t : ℕ) → is_some f ≡ true → length (option_to_list (option_map (λ x. standing_of x t) f)) ≡ 1
one_standing None t is = cc
one_standing (Some f) t is = refl

-- each of these pairs is filed
one_each : (calls : List LedgerCall) (t inc : ℕ) (pairs : List Pair) → ((i : ℕ) → is_paired pairs i ≡ true → is_some (filed calls inc i) ≡ true)
    → length (flat_map {X = Pair} (λ pair. option_to_list (option_map (λ f. standing_of f t) (filed calls inc pair.instant))) pairs) ≡ length pairs
one_each calls t inc [] are = refl
one_each calls t inc (pair ∷ pairs) are =
    let here : (pair.instant == pair.instant) ≡ true = eq-eqb pair.instant pair.instant refl in
    let one = one_standing (filed calls inc pair.instant) t (are pair.instant (or_left (pair.instant == pair.instant) (is_paired pairs pair.instant) here)) in
    let rest = one_each calls t inc pairs (λ i paired. are i (or_right (i == pair.instant) (is_paired pairs i) paired)) in
    length-append (option_to_list (option_map (λ f. standing_of f t) (filed calls inc pair.instant))) _
    ∙ ap₂ (λ a b. a + b) one rest
    ∙ (let more : 1 + length pairs ≡ length (pair ∷ pairs) = omega arith in more)

standings_counted : (calls : List LedgerCall) (t inc : ℕ) → length (standings_of calls t inc) ≡ length (entries calls inc)
standings_counted calls t inc = one_each calls t inc (entries calls inc) (λ i paired. filed_paired calls inc i ∙ paired)

all_counted : (calls : List LedgerCall) (t : ℕ) (incs : List ℕ)
    → length (flat_map (standings_of calls t) incs) ≡ length (flat_map (λ inc. entries calls inc) incs)
all_counted calls t [] = refl
all_counted calls t (inc ∷ incs) =
    length-append (standings_of calls t inc) (flat_map (standings_of calls t) incs)
    ∙ ap₂ (λ a b. a + b) (standings_counted calls t inc) (all_counted calls t incs)
    ∙ sym (length-append (entries calls inc) (flat_map (λ k. entries calls k) incs))

pub entries_are_counted : EntriesAreCounted
entries_are_counted h t =
    ap (λ n. n + sum_of_folded (folded h)) (all_counted (ledger_of h) t (numbers 1 (length (rows_of (changes_of h)))))
