-- The least number that passes a test: the head of what passes, where that has come.
use Rattle.std.proofs.Common.{◌≡◌, ℕ, zero, suc, ◌+◌, ◌<◌, ◌≤◌, Bool, true, false, cond, ◌&&◌, Option, Some, None, List, [], ◌∷◌, ◌++◌, refl, sym, ap, ap₂, ◌∙◌, subst, inl, inr, arith, filter, append-nil}
use Rattle.std.proofs.lemmas.Bool.{cases_lt, cases_order, le-leb, lt-leb, true≢false}
use Rattle.std.proofs.lemmas.List.Elements.{filter-append}
use Rattle.plain_words.specs.Lists.{head, passing, put_if, or_else, when}
use Rattle.next_dates.specs.Dates.{come_by, IsLeast, from_on}

-- tests that agree let the same numbers pass
pub passing_same : (p q : ℕ → Bool) (n : ℕ) → ((i : ℕ) → p i ≡ q i) → passing p n ≡ passing q n
passing_same p q zero same = refl
passing_same p q (suc n) same = ap₂ (λ b xs. put_if b n xs) (same n) (passing_same p q n same)

pub passing_none : (p : ℕ → Bool) (n : ℕ) → ((i : ℕ) → p i ≡ false) → passing p n ≡ []
passing_none p zero none = refl
passing_none p (suc n) none = ap₂ (λ b xs. put_if b n xs) (none n) (passing_none p n none)

append_cond : (b : Bool) (n : ℕ) (xs : List ℕ) → xs ++ cond b (n ∷ []) [] ≡ put_if b n xs
append_cond true n xs = refl
append_cond false n xs = append-nil xs

filter_put : (q : ℕ → Bool) (b : Bool) (n : ℕ) (xs : List ℕ) → filter q (put_if b n xs) ≡ put_if (b && q n) n (filter q xs)
filter_put q true n xs = filter-append q xs (n ∷ []) ∙ append_cond (q n) n (filter q xs)
filter_put q false n xs = refl

-- a filter of what passes is what passes both tests
pub filter_passing : (q p : ℕ → Bool) (n : ℕ) → filter q (passing p n) ≡ passing (λ i. p i && q i) n
filter_passing q p zero = refl
filter_passing q p (suc n) = filter_put q (p n) n (passing p n) ∙ ap (put_if (p n && q n) n) (filter_passing q p n)

head_put : (b : Bool) (n : ℕ) (xs : List ℕ) → head (put_if b n xs) ≡ or_else (head xs) (when b n)
head_put true n [] = refl
head_put true n (x ∷ xs) = refl
head_put false n [] = refl
head_put false n (x ∷ xs) = refl

-- the least number that passes below a bound, or none where none does
abbrev pub IsLeastBelow : (ℕ → Bool) → ℕ → Option ℕ → Type 0
IsLeastBelow p n None = (i : ℕ) → i < n → p i ≡ false
IsLeastBelow p n (Some least) = (least < n) × (p least ≡ true) × ((i : ℕ) → i < least → p i ≡ false)

none_more : (p : ℕ → Bool) (n : ℕ) → ((i : ℕ) → i < n → p i ≡ false) → p n ≡ false → (i : ℕ) → i < suc n → p i ≡ false
none_more p n none fails i lt =
    elim (cases_lt i n) [
      | inl low ↦ none i low
      | inr ge ↦ let same : n ≡ i = omega arith in ap p (sym same) ∙ fails
    ]

least_more : (p : ℕ → Bool) (n : ℕ) (o : Option ℕ) (b : Bool) → IsLeastBelow p n o → p n ≡ b → IsLeastBelow p (suc n) (or_else o (when b n))
least_more p n (Some least) b old is = let low : least < n = old.0 in (omega arith, old.1, old.2)
least_more p n None true old is = (omega arith, is, old)
least_more p n None false old is = none_more p n old is

pub head_least : (p : ℕ → Bool) (n : ℕ) → IsLeastBelow p n (head (passing p n))
head_least p zero = λ i lt. absurd (omega arith)
head_least p (suc n) =
    subst (λ o. IsLeastBelow p (suc n) o) (sym (head_put (p n) n (passing p n)))
    (least_more p n (head (passing p n)) (p n) (head_least p n) refl)

-- where nothing passes from a bound on, the least below it is the least
pub least_whole : (p : ℕ → Bool) (n : ℕ) (o : Option ℕ) → ((i : ℕ) → n ≤ i → p i ≡ false) → IsLeastBelow p n o → IsLeast p o
least_whole p n None past old = λ i. elim (cases_lt i n) [ inl low ↦ old i low | inr ge ↦ past i ge ]
least_whole p n (Some least) past old = (old.1, old.2)

clash : (p : ℕ → Bool) (i : ℕ) → p i ≡ true → p i ≡ false → ⊥
clash p i passes fails = true≢false (sym passes ∙ fails)

-- the least is one
pub least_same : (p : ℕ → Bool) (a b : Option ℕ) → IsLeast p a → IsLeast p b → a ≡ b
least_same p None None one other = refl
least_same p None (Some m) one other = absurd (clash p m other.0 (one m))
least_same p (Some n) None one other = absurd (clash p n one.0 (other n))
least_same p (Some n) (Some m) one other =
    elim (cases_order n m) [
      | inl same ↦ ap (λ k. Some k) same
      | inr apart ↦ elim apart [
        | inl lt ↦ absurd (clash p n one.0 (other.1 n lt))
        | inr gt ↦ absurd (clash p m other.0 (one.1 m gt))
      ]
    ]

-- the least of tests that agree
pub least_agrees : (p q : ℕ → Bool) (o : Option ℕ) → ((i : ℕ) → p i ≡ q i) → IsLeast p o → IsLeast q o
least_agrees p q None same old = λ i. sym (same i) ∙ old i
least_agrees p q (Some least) same old = (sym (same least) ∙ old.0, λ i lt. sym (same i) ∙ old.1 i lt)

upto : (p : ℕ → Bool) (t : ℕ) (found o : Option ℕ) → IsLeastBelow p (t + 1) found → IsLeast p o → found ≡ come_by t o
upto p t None None old least = refl
upto p t None (Some n) old least =
    elim (cases_lt t n) [
      | inl lt ↦ ap (λ b. when b n) (sym (lt-leb n t lt))
      | inr le ↦ absurd (clash p n least.0 (old n (omega arith)))
    ]
upto p t (Some m) None old least = absurd (clash p m old.1 (least m))
upto p t (Some m) (Some n) old least =
    elim (cases_order m n) [
      | inl same ↦
          let low : m < t + 1 = old.0 in
          let up : n ≤ t = omega arith in
          ap (λ k. Some k) same ∙ ap (λ b. when b n) (sym (le-leb n t up))
      | inr apart ↦ elim apart [
        | inl lt ↦ absurd (clash p m old.1 (least.1 m lt))
        | inr gt ↦ absurd (clash p n least.0 (old.2 n gt))
      ]
    ]

-- the head of what passes up to a moment is the least that passes, where it has come
pub head_upto : (p : ℕ → Bool) (o : Option ℕ) (t : ℕ) → IsLeast p o → head (passing p (t + 1)) ≡ come_by t o
head_upto p o t least = upto p t (head (passing p (t + 1))) o (head_least p (t + 1)) least

-- where the least from a number on is found, what passes from there on passes from the number on
pub from_least : (p : ℕ → Bool) (m n : ℕ) → IsLeast (from_on m p) (Some n) → (i : ℕ) → from_on m p i ≡ from_on n p i
from_least p m n least i =
    elim (cases_lt i n) [
      | inl lt ↦ least.1 i lt ∙ ap (λ b. b && p i) (sym (lt-leb n i lt))
      | inr ge ↦ ap (λ b. b && p i) (le-leb m i (reached (elim (cases_lt n m) [
        | inl under ↦ absurd (clash (from_on m p) n least.0 (ap (λ b. b && p n) (lt-leb m n under)))
        | inr over ↦ over
      ]) ge) ∙ sym (le-leb n i ge))
    ]
  where
    reached : m ≤ n → n ≤ i → m ≤ i
    reached a b = omega arith
