-- Lists over numbers in a row: their elements, their ends, one changed, and the first of a shard that passes.
use Rattle.std.proofs.Common.{◌≡◌, ℕ, zero, suc, ◌+◌, ◌-◌, ◌<◌, ◌≤◌, ◌==◌, Bool, true, false, cond, Some, None, List, [], ◌∷◌, ◌++◌, map, find, refl, sym, ap, ap₂, ◌∙◌, inl, inr, arith, le_refl}
use Rattle.std.specs.List.{filter}
use Rattle.std.proofs.lemmas.Bool.{cases_eq, eq-eqb, ne_eqb, eqb-true}
use Rattle.plain_words.specs.Lists.{nth, change_nth, numbers}
use Rattle.plain_words.specs.Ids.{shard_of}
use Rattle.plain_words.proofs.ListLemmas.{nth_first, nth_rest}

-- the number at a place
pub nth_numbers : (from n place : ℕ) → 1 ≤ place → place ≤ n → nth (numbers from n) place ≡ Some (from + place - 1)
nth_numbers from zero place low up = absurd (omega arith)
nth_numbers from (suc n) place low up =
    elim (cases_eq place 1) [
      | inl first ↦
          let same : from ≡ from + place - 1 = omega arith in
          nth_first from (numbers (from + 1) n) place first ∙ ap (λ k. Some k) same
      | inr apart ↦
          let same : from + 1 + (place - 1) - 1 ≡ from + place - 1 = omega arith in
          nth_rest from (numbers (from + 1) n) place apart
          ∙ nth_numbers (from + 1) n (place - 1) (omega arith) (omega arith) ∙ ap (λ k. Some k) same
    ]

-- nothing stands at the place 0
pub nth_zero : {A : Type 0} (xs : List A) → nth xs 0 ≡ None
nth_zero [] = refl
nth_zero (x ∷ xs) = nth_zero xs

-- one more number stands at the end
pub numbers_push : (from n : ℕ) → numbers from (suc n) ≡ numbers from n ++ (from + n) ∷ []
numbers_push from zero = let same : from ≡ from + 0 = omega arith in ap (λ k. k ∷ []) same
numbers_push from (suc n) =
    let same : from + 1 + n ≡ from + suc n = omega arith in
    ap (λ ns. from ∷ ns) (numbers_push (from + 1) n ∙ ap (λ k. numbers (from + 1) n ++ k ∷ []) same)

-- what agrees at each of the numbers gives the same list
pub map_numbers : {A : Type 0} (f g : ℕ → A) (from n : ℕ) → ((i : ℕ) → from ≤ i → i < from + n → f i ≡ g i)
    → map f (numbers from n) ≡ map g (numbers from n)
map_numbers f g from zero same = refl
map_numbers f g from (suc n) same =
    ap₂ (λ x xs. x ∷ xs) (same from (omega arith) (omega arith))
    (map_numbers f g (from + 1) n (λ i low up. let more : from ≤ i = omega arith in let less : i < from + suc n = omega arith in same i more less))

-- what agrees but at one of the numbers gives the list with that place changed
pub map_changed : {A : Type 0} (f g : ℕ → A) (x : A) (at from n place : ℕ) → 1 ≤ place → 1 ≤ from → at + 1 ≡ from + place → g at ≡ x
    → ((i : ℕ) → 1 ≤ i → (i ≡ at → ⊥) → g i ≡ f i) → map g (numbers from n) ≡ change_nth (λ (old : A). x) (map f (numbers from n)) place
map_changed f g x at from zero place low least is here others = refl
map_changed f g x at from (suc n) place low least is here others =
    elim (cases_eq place 1) [
      | inl first ↦
          let same : from ≡ at = omega arith in
          let rest : map g (numbers (from + 1) n) ≡ map f (numbers (from + 1) n) =
          map_numbers g f (from + 1) n (λ i from_on below. others i (omega arith) (λ e. let clash : ⊥ = omega arith in clash)) in
          ap₂ (λ y ys. y ∷ ys) (ap g same ∙ here) rest
          ∙ sym (ap (λ b. cond b (x ∷ map f (numbers (from + 1) n)) (f from ∷ change_nth (λ old. x) (map f (numbers (from + 1) n)) (place - 1))) (eq-eqb place 1 first))
      | inr apart ↦
          let other : g from ≡ f from = others from least (λ e. let clash : ⊥ = omega arith in clash) in
          let more : at + 1 ≡ from + 1 + (place - 1) = omega arith in
          ap₂ (λ y ys. y ∷ ys) other (map_changed f g x at (from + 1) n (place - 1) (omega arith) (omega arith) more here others)
          ∙ sym (ap (λ b. cond b (x ∷ map f (numbers (from + 1) n)) (f from ∷ change_nth (λ old. x) (map f (numbers (from + 1) n)) (place - 1))) (ne_eqb place 1 apart))
    ]

-- a number of a shard passes, and no lesser one does from a number on
pub record IsFirstPassing (p : ℕ → Bool) (shard from at : ℕ) : Type 0 where
  pub behind : from ≤ at
  pub in_shard : shard_of at ≡ shard
  pub passes : p at ≡ true
  pub before : (i : ℕ) → from ≤ i → i < at → shard_of i ≡ shard → p i ≡ false

find_here : (p : ℕ → Bool) (b : Bool) (x : ℕ) (rest : List ℕ) → b ≡ true → p x ≡ true → find p (cond b (x ∷ rest) rest) ≡ Some x
find_here p true x rest e passes = ap (λ t. cond t (Some x) (find p rest)) passes
find_here p false x rest e passes = cc

find_past : (p : ℕ → Bool) (b : Bool) (x : ℕ) (rest : List ℕ) → (b ≡ true → p x ≡ false) → find p (cond b (x ∷ rest) rest) ≡ find p rest
find_past p true x rest fails = ap (λ t. cond t (Some x) (find p rest)) (fails refl)
find_past p false x rest fails = refl

pub find_first : (p : ℕ → Bool) (shard from n at : ℕ) → at < from + n → IsFirstPassing p shard from at
    → find p (filter (λ inc. shard == shard_of inc) (numbers from n)) ≡ Some at
find_first p shard from zero at up first = let low : from ≤ at = first.behind in absurd (omega arith)
find_first p shard from (suc n) at up first =
    let low : from ≤ at = first.behind in
    elim (cases_eq from at) [
      | inl same ↦
          let mine : shard ≡ shard_of from = sym (ap shard_of same ∙ first.in_shard) in
          find_here p (shard == shard_of from) from (filter (λ inc. shard == shard_of inc) (numbers (from + 1) n))
          (eq-eqb shard (shard_of from) mine) (ap p same ∙ first.passes)
          ∙ ap (λ k. Some k) same
      | inr apart ↦
          find_past p (shard == shard_of from) from (filter (λ inc. shard == shard_of inc) (numbers (from + 1) n))
          (λ mine. first.before from (le_refl from) (omega arith) (sym (eqb-true shard (shard_of from) mine)))
          ∙ find_first p shard (from + 1) n at (omega arith) (record {
            behind = omega arith;
            in_shard = first.in_shard;
            passes = first.passes;
            before = λ i from_on below here. let more : from ≤ i = omega arith in first.before i more below here;
          })
    ]

pub find_nothing : (p : ℕ → Bool) (shard from n : ℕ) → ((i : ℕ) → from ≤ i → i < from + n → shard_of i ≡ shard → p i ≡ false)
    → find p (filter (λ inc. shard == shard_of inc) (numbers from n)) ≡ None
find_nothing p shard from zero none = refl
find_nothing p shard from (suc n) none =
    find_past p (shard == shard_of from) from (filter (λ inc. shard == shard_of inc) (numbers (from + 1) n))
    (λ mine. none from (le_refl from) (omega arith) (sym (eqb-true shard (shard_of from) mine)))
    ∙ find_nothing p shard (from + 1) n (λ i low up here. let more : from ≤ i = omega arith in let less : i < from + suc n = omega arith in none i more less here)
