-- The last number that passes a test, and whether one does.
use Rattle.std.proofs.Common.{◌≡◌, ℕ, zero, suc, ◌<◌, Bool, true, false, ◌||◌, Option, Some, None, List, [], ◌∷◌, ◌++◌, refl, sym, ap, ap₂, ◌∙◌, subst, inl, inr, arith}
use Rattle.std.proofs.lemmas.Bool.{cases_lt}
use Rattle.plain_words.specs.Lists.{put_if, last, last_from, passing, any_passing}
use Rattle.plain_words.proofs.Booleans.{by_bool, or_second}

-- one that passes below the bound is found
pub any_found : (p : ℕ → Bool) (n i : ℕ) → i < n → p i ≡ true → any_passing p n ≡ true
any_found p zero i lt passes = absurd (omega arith)
any_found p (suc n) i lt passes =
    elim (cases_lt i n) [
      | inl below ↦ ap (λ b. b || p n) (any_found p n i below passes)
      | inr top ↦ let same : n ≡ i = omega arith in or_second (any_passing p n) (p n) (ap p same ∙ passes)
    ]

-- where each fails none is found
pub none_found : (p : ℕ → Bool) (n : ℕ) → ((i : ℕ) → i < n → p i ≡ false) → any_passing p n ≡ false
none_found p zero fails = refl
none_found p (suc n) fails =
    let here : p n ≡ false = fails n (omega arith) in
    ap₂ (λ a b. a || b) (none_found p n (λ i lt. fails i (omega arith))) here

-- the greatest number below a bound that passes, or none where none does
abbrev pub IsGreatest : (ℕ → Bool) → ℕ → Option ℕ → Type 0
IsGreatest p n None = (i : ℕ) → i < n → p i ≡ false
IsGreatest p n (Some w) = (w < n) × (p w ≡ true) × ((i : ℕ) → w < i → i < n → p i ≡ false)

from_push : (x : ℕ) (xs : List ℕ) (n : ℕ) → last_from x (xs ++ n ∷ []) ≡ Some n
from_push x [] n = refl
from_push x (y ∷ xs) n = from_push y xs n

last_push : (xs : List ℕ) (n : ℕ) → last (xs ++ n ∷ []) ≡ Some n
last_push [] n = refl
last_push (x ∷ xs) n = from_push x xs n

-- one more number that fails
one_more : (p : ℕ → Bool) (n : ℕ) → p n ≡ false → (o : Option ℕ) → IsGreatest p n o → IsGreatest p (suc n) o
one_more p n fails None old = λ i lt.
    elim (cases_lt i n) [ inl below ↦ old i below | inr top ↦ let same : i ≡ n = omega arith in ap p same ∙ fails ]
one_more p n fails (Some w) old =
    let under : w < n = old.0 in (
      omega arith,
      old.1,
      λ i up lt. elim (cases_lt i n) [ inl below ↦ old.2 i up below | inr top ↦ let same : i ≡ n = omega arith in ap p same ∙ fails ],
    )

-- the last of those that pass is the greatest
pub last_greatest : (p : ℕ → Bool) (n : ℕ) → IsGreatest p n (last (passing p n))
last_greatest p zero = λ i lt. absurd (omega arith)
last_greatest p (suc n) =
    by_bool (λ b. IsGreatest p (suc n) (last (put_if b n (passing p n)))) (p n)
    (λ passes.
    subst (IsGreatest p (suc n)) (sym (last_push (passing p n) n))
    (let under : n < suc n = omega arith in (under, passes, λ i up lt. absurd (omega arith))))
    (λ fails. one_more p n fails (last (passing p n)) (last_greatest p n))
