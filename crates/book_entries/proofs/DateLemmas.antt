-- A date written down anew: there it is the new one, elsewhere it stays.
use Rattle.std.proofs.Common.{◌≡◌, ℕ, zero, suc, ◌-◌, ◌≤◌, ◌==◌, true, false, cond, Option, Some, None, List, [], ◌∷◌, length, refl, ap, sym, ◌∙◌, arith, inl, inr}
use Rattle.std.specs.Prelude.{nat_lt}
use Rattle.std.specs.Option.{option_and_then}
use Rattle.std.proofs.lemmas.Bool.{cases_eq, eq-eqb, ne_eqb}
use Rattle.std.proofs.lemmas.Bool.Decides.{nat_tests}
use Rattle.plain_words.specs.Lists.{nth, change_nth, last, when}
use Rattle.plain_words.specs.Moments.{last_moment}
use Rattle.plain_words.proofs.ListLemmas.{nth_first, nth_rest}
use Rattle.sched_plain.specs.declared.row.Row.{Row}
use Rattle.sched_plain.specs.Changes.{changes_of}
use Rattle.sched_plain.specs.Entries.{entries, instants_of, undecided}
use Rattle.sched_plain.specs.History.{History}
use Rattle.sched_plain.specs.Ledger.{ledger_of}
use Rattle.sched_plain.specs.Legal.{IsLegal}
use Rattle.sched_plain.specs.Rows.{rows_of, current}
use Rattle.date_table.specs.Dates.{date_at, never}
use Rattle.next_dates.specs.NextInstants.{next_instant}
use Rattle.work_order.specs.DateLaws.{FinishedInTime}
use Rattle.work_order.specs.Finished.{finished_from, finished_with}
use Rattle.book_parts.specs.Stands.{calendar}
use Rattle.book_entries.specs.Finishing.{finished_of, kept_date}

there : {A : Type 0} (x : A) (xs : List A) (place : ℕ) → 1 ≤ place → place ≤ length xs → nth (change_nth (λ (y : A). x) xs place) place ≡ Some x
there x [] place low within = absurd (omega arith)
there {A} x (z ∷ zs) place low within =
    elim (cases_eq place 1) [
      | inl first ↦
          ap (λ b. nth (cond b (x ∷ zs) (z ∷ change_nth (λ (y : A). x) zs (place - 1))) place) (eq-eqb place 1 first)
          ∙ nth_first x zs place first
      | inr apart ↦
          ap (λ b. nth (cond b (x ∷ zs) (z ∷ change_nth (λ (y : A). x) zs (place - 1))) place) (ne_eqb place 1 apart)
          ∙ nth_rest z (change_nth (λ (y : A). x) zs (place - 1)) place apart ∙ there x zs (place - 1) (omega arith) (omega arith)
    ]

behind : (at place : ℕ) → (at ≡ 1 → ⊥) → (place ≡ 1 → ⊥) → (place ≡ at → ⊥) → place - 1 ≡ at - 1 → ⊥
behind zero zero later apart ne same = ne refl
behind zero (suc place) later apart ne same = apart (omega arith)
behind (suc at) zero later apart ne same = later (omega arith)
behind (suc at) (suc place) later apart ne same = ne (omega arith)

changed_behind : {A : Type 0} (f : A → A) (x : A) (xs : List A) (at place : ℕ) → (at ≡ 1 → ⊥) → (place ≡ at → ⊥)
    → ((place - 1 ≡ at - 1 → ⊥) → nth (change_nth f xs (at - 1)) (place - 1) ≡ nth xs (place - 1))
    → nth (x ∷ change_nth f xs (at - 1)) place ≡ nth (x ∷ xs) place
changed_behind f x xs at place later ne rest =
    elim (cases_eq place 1) [
      | inl first ↦ nth_first x (change_nth f xs (at - 1)) place first ∙ sym (nth_first x xs place first)
      | inr apart ↦
          nth_rest x (change_nth f xs (at - 1)) place apart
          ∙ rest (λ same. behind at place later apart ne same)
          ∙ sym (nth_rest x xs place apart)
    ]

elsewhere : {A : Type 0} (f : A → A) (xs : List A) (at place : ℕ) → (place ≡ at → ⊥) → nth (change_nth f xs at) place ≡ nth xs place
elsewhere f [] at place ne = refl
elsewhere f (x ∷ xs) at place ne =
    elim (cases_eq at 1) [
      | inl first ↦
          let apart : place ≡ 1 → ⊥ = λ e. ne (e ∙ sym first) in
          ap (λ b. nth (cond b (f x ∷ xs) (x ∷ change_nth f xs (at - 1))) place) (eq-eqb at 1 first)
          ∙ nth_rest (f x) xs place apart ∙ sym (nth_rest x xs place apart)
      | inr later ↦
          ap (λ b. nth (cond b (f x ∷ xs) (x ∷ change_nth f xs (at - 1))) place) (ne_eqb at 1 later)
          ∙ changed_behind f x xs at place later ne (λ lower. elsewhere f xs (at - 1) (place - 1) lower)
    ]

dated : (o : Option (Option ℕ)) (x : Option ℕ) → o ≡ Some x → option_and_then (λ (date : Option ℕ). date) o ≡ x
dated o x e = ap (option_and_then (λ (date : Option ℕ). date)) e

kept_is : (o : Option ℕ) → ((date : ℕ) → o ≡ Some date → date ≤ last_moment) → kept_date o ≡ o
kept_is None bound = refl
kept_is (Some date) bound =
    let low = bound date refl in
    let small : nat_lt date never ≡ true = grind (arith, nat_tests, low) in
    ap (λ b. when b date) small

-- the dates since when incarnations are finished, where one of them is written down anew and the others stay
pub refinished : FinishedInTime → (h : History) (inc : ℕ) (rows : List Row) (next old dates : List (Option ℕ)) → IsLegal calendar h
    → rows ≡ rows_of (changes_of h) → date_at next inc ≡ next_instant calendar h inc → 1 ≤ inc → inc ≤ length old
    → dates ≡ change_nth (λ (x : Option ℕ). kept_date (finished_of rows (ledger_of h) next inc)) old inc
    → ((i : ℕ) → (i == inc) ≡ false → date_at old i ≡ finished_from calendar h i)
    → (i : ℕ) → date_at dates i ≡ finished_from calendar h i
refinished in_time h inc rows next old dates legal rows_are next_is low within are others i =
    let now : finished_of rows (ledger_of h) next inc ≡ finished_from calendar h inc =
    λ k. finished_with (current (rows_are k) inc) (next_is k) (nat_lt 0 (undecided (ledger_of h) inc)) (last (instants_of (entries (ledger_of h) inc))) in
    let value = kept_date (finished_of rows (ledger_of h) next inc) in
    let kept : value ≡ finished_from calendar h inc =
    ap kept_date now ∙ kept_is (finished_from calendar h inc) (λ date e. in_time calendar h legal inc date e) in
    let set : date_at dates i ≡ date_at (change_nth (λ (x : Option ℕ). value) old inc) i = ap (λ (all : List (Option ℕ)). date_at all i) are in
    elim (cases_eq i inc) [
      | inl same ↦
          set ∙ ap (date_at (change_nth (λ (x : Option ℕ). value) old inc)) same
          ∙ dated (nth (change_nth (λ (x : Option ℕ). value) old inc) inc) value (there value old inc low within)
          ∙ kept ∙ ap (finished_from calendar h) (sym same)
      | inr apart ↦
          set ∙ ap (option_and_then (λ (date : Option ℕ). date)) (elsewhere (λ (x : Option ℕ). value) old inc i apart)
          ∙ others i (ne_eqb i inc apart)
    ]
