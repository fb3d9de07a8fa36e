-- A front of what passes from a number on: what passes below some bound.
use Rattle.std.proofs.Common.{◌≡◌, ℕ, zero, suc, ◌+◌, ◌≤◌, max, Bool, true, false, Option, Some, None, List, [], ◌∷◌, ◌++◌, length, take, refl, sym, ap, ◌∙◌, subst, inl, inr, arith, append-nil, take_all, length-append, zero-le, add-one, le_refl}
use Rattle.std.proofs.lemmas.Bool.{cases_lt}
use Rattle.std.proofs.lemmas.List.{take-append-le}
use Rattle.plain_words.specs.Lists.{put_if, last, last_from}
use Rattle.plain_words.specs.Lists.{passing}
use Rattle.plain_words.proofs.Booleans.{by_bool}
use Rattle.book_laws.proofs.Passing.{from_on, nothing_from, passing_split}

-- what passes below this bound is a front of so many
pub record IsFront (q : ℕ → Bool) (n k m : ℕ) : Type 0 where
  pub within : m ≤ n
  pub front : take k (passing q n) ≡ passing q m

front_put : (q : ℕ → Bool) (n k m : ℕ) → IsFront q n k m → q n ≡ true → (bound : ℕ) × IsFront q (suc n) k bound
front_put q n k m old passes =
    let whole : passing q (suc n) ≡ passing q n ++ n ∷ [] = ap (λ b. put_if b n (passing q n)) passes in
    let less : m ≤ n = old.within in
    elim (cases_lt (length (passing q n)) k) [
      | inl long ↦
          let all : length (passing q n ++ n ∷ []) ≤ k = rw (length-append (passing q n) (n ∷ [])) (omega arith) in
          (suc n, record { within = le_refl (suc n); front = ap (take k) whole ∙ take_all k (passing q n ++ n ∷ []) all ∙ sym whole })
      | inr short ↦
          (m, record { within = omega arith; front = ap (take k) whole ∙ take-append-le k (passing q n) (n ∷ []) short ∙ old.front })
    ]

front_skip : (q : ℕ → Bool) (n k m : ℕ) → IsFront q n k m → q n ≡ false → (bound : ℕ) × IsFront q (suc n) k bound
front_skip q n k m old fails =
    let same : passing q (suc n) ≡ passing q n = ap (λ b. put_if b n (passing q n)) fails in
    let less : m ≤ n = old.within in
    (m, record { within = omega arith; front = ap (take k) same ∙ old.front })

take_none : (k : ℕ) → take {A = ℕ} k [] ≡ []
take_none zero = refl
take_none (suc k) = refl

-- a front of what passes is what passes below some bound
pub take_passing : (q : ℕ → Bool) (n k : ℕ) → (bound : ℕ) × IsFront q n k bound
take_passing q zero k = (zero, record { within = zero-le; front = take_none k })
take_passing q (suc n) k =
    let old = take_passing q n k in
    let step : (b : Bool) → q n ≡ b → (bound : ℕ) × IsFront q (suc n) k bound =
    λ b. elim b as (λ b. q n ≡ b → (bound : ℕ) × IsFront q (suc n) k bound) [
      | true ↦ front_put q n k old.0 old.1
      | false ↦ front_skip q n k old.0 old.1
    ] in
    step (q n) refl

-- one more than the last of these, 0 where there is none
abbrev pub past : Option ℕ → ℕ
past None = 0
past (Some i) = i + 1

abbrev pub bound_of : List ℕ → ℕ
bound_of xs = past (last xs)

last_from_push : (x : ℕ) (xs : List ℕ) (n : ℕ) → last_from x (xs ++ n ∷ []) ≡ Some n
last_from_push x [] n = refl
last_from_push x (y ∷ xs) n = last_from_push y xs n

last_push : (xs : List ℕ) (n : ℕ) → last (xs ++ n ∷ []) ≡ Some n
last_push [] n = refl
last_push (x ∷ xs) n = last_from_push x xs n

-- the bound of what passes lets the same numbers pass, and is no greater
pub record IsTight (q : ℕ → Bool) (n : ℕ) (xs : List ℕ) : Type 0 where
  pub same : passing q (bound_of xs) ≡ xs
  pub within : bound_of xs ≤ n

pub bound_tight : (q : ℕ → Bool) (n : ℕ) → IsTight q n (passing q n)
bound_tight q zero = record { same = refl; within = zero-le }
bound_tight q (suc n) =
    let old = bound_tight q n in
    by_bool (λ b. IsTight q (suc n) (put_if b n (passing q n))) (q n)
    (λ passes.
    let top : bound_of (passing q n ++ n ∷ []) ≡ suc n = ap past (last_push (passing q n) n) ∙ add-one n in
    record { same = ap (passing q) top ∙ ap (λ b. put_if b n (passing q n)) passes; within = omega (arith, top) })
    (λ fails. let less : bound_of (passing q n) ≤ n = old.within in record { same = old.same; within = omega arith })

-- a front reaches up to one more than its last
pub front_tight : (q : ℕ → Bool) (n k : ℕ) → IsTight q n (take k (passing q n))
front_tight q n k =
    let front = take_passing q n k in
    let less : front.0 ≤ n = front.1.within in
    let tight = bound_tight q front.0 in
    subst (λ xs. IsTight q n xs) (sym front.1.front)
    (record { same = tight.same; within = let under : bound_of (passing q front.0) ≤ front.0 = tight.within in omega arith })

-- what passes below m with a front of what passes from m on is what passes up to the front's last
pub passing_more : (p : ℕ → Bool) (m : ℕ) (xs : List ℕ) → passing (from_on m p) (bound_of xs) ≡ xs → passing p m ++ xs ≡ passing p (max m (bound_of xs))
passing_more p m xs is =
    elim (cases_lt (bound_of xs) m) [
      | inl lt ↦
          let none : xs ≡ [] = sym is ∙ nothing_from p m (bound_of xs) (omega arith) in
          let top : max m (bound_of xs) ≡ m = omega arith in
          ap (λ ys. passing p m ++ ys) none ∙ append-nil (passing p m) ∙ ap (passing p) (sym top)
      | inr ge ↦
          let top : max m (bound_of xs) ≡ bound_of xs = omega arith in
          ap (λ ys. passing p m ++ ys) (sym is) ∙ sym (passing_split p m (bound_of xs) ge) ∙ ap (passing p) (sym top)
    ]

-- where nothing passes from m on below n, what passes below m is what passes below both
pub reach : (p : ℕ → Bool) (m n : ℕ) → passing (from_on m p) n ≡ [] → passing p m ≡ passing p (max m n)
reach p m n none =
    elim (cases_lt n m) [
      | inl lt ↦ let top : max m n ≡ m = omega arith in ap (passing p) (sym top)
      | inr ge ↦
          let top : max m n ≡ n = omega arith in
          sym (append-nil (passing p m)) ∙ ap (λ xs. passing p m ++ xs) (sym none) ∙ sym (passing_split p m n ge) ∙ ap (passing p) (sym top)
    ]
