-- The numbers below a bound that pass a test: their parts, their members, a filter of them, and their order.
use Rattle.std.proofs.Common.{◌≡◌, ℕ, zero, suc, ◌<◌, ◌≤◌, ◌==◌, nat_le, nat_lt, Bool, true, false, not, cond, ◌&&◌, ◌||◌, List, [], ◌∷◌, ◌++◌, filter, All, AllPairs, refl, sym, ap, ap₂, ◌∙◌, inl, inr, arith, append-nil, append_assoc, zero-le, lt-suc_self}
use Rattle.std.proofs.lemmas.Bool.{cases_lt, cases_order, le-ltb, lt-ltb, le-leb, lt-leb, eq-eqb, ne_eqb}
use Rattle.std.proofs.lemmas.List.Elements.{filter-append, All-push, All-weaker, All-nil, All-get_or}
use Rattle.std.proofs.lemmas.List.Folds.{list_any-append}
use Rattle.std.proofs.lemmas.List.Quantifiers.{all_pairs_push}
use Rattle.plain_words.specs.Lists.{put_if}
use Rattle.plain_words.specs.Lists.{passing}
use Rattle.book_laws.specs.EntryLaws.{is_among}
use Rattle.plain_words.proofs.Booleans.{and_false, and_true, by_bool, or_false}

-- the test, from a number on
abbrev pub from_on : ℕ → (ℕ → Bool) → ℕ → Bool
from_on m test i = nat_le m i && test i

-- tests that agree below a bound let the same numbers pass
pub passing_same : (p q : ℕ → Bool) (n : ℕ) → ((i : ℕ) → i < n → p i ≡ q i) → passing p n ≡ passing q n
passing_same p q zero same = refl
passing_same p q (suc n) same =
    ap₂ (λ b xs. put_if b n xs) (same n (lt-suc_self n)) (passing_same p q n (λ i lt. let more : i < suc n = omega arith in same i more))

-- where a test fails below a bound nothing passes
pub passing_none : (p : ℕ → Bool) (n : ℕ) → ((i : ℕ) → i < n → p i ≡ false) → passing p n ≡ []
passing_none p zero none = refl
passing_none p (suc n) none =
    ap₂ (λ b xs. put_if b n xs) (none n (lt-suc_self n)) (passing_none p n (λ i lt. let more : i < suc n = omega arith in none i more))

put_append : (b : Bool) (n : ℕ) (xs ys : List ℕ) → put_if b n (xs ++ ys) ≡ xs ++ put_if b n ys
put_append true n xs ys = append_assoc xs ys (n ∷ [])
put_append false n xs ys = refl

-- from a number on nothing below it passes
pub nothing_from : (p : ℕ → Bool) (m n : ℕ) → n ≤ m → passing (from_on m p) n ≡ []
nothing_from p m n le = passing_none (from_on m p) n (λ i lt. let under : i < m = omega arith in ap (λ b. b && p i) (lt-leb m i under))

-- what passes below a bound is what passes below a lower one, then what passes from there on
pub passing_split : (p : ℕ → Bool) (m n : ℕ) → m ≤ n → passing p n ≡ passing p m ++ passing (from_on m p) n
passing_split p zero zero le = refl
passing_split p (suc m) zero le = absurd (omega arith)
passing_split p m (suc n) le =
    elim (cases_lt n m) [
      | inl lt ↦
          let top : m ≡ suc n = omega arith in
          let none : passing (from_on m p) (suc n) ≡ [] = nothing_from p m (suc n) (let up : suc n ≤ m = omega arith in up) in
          ap (passing p) (sym top) ∙ sym (append-nil (passing p m)) ∙ ap (λ xs. passing p m ++ xs) (sym none)
      | inr under ↦
          let here : (nat_le m n && p n) ≡ p n = ap (λ b. b && p n) (le-leb m n under) in
          ap (put_if (p n) n) (passing_split p m n under)
          ∙ put_append (p n) n (passing p m) (passing (from_on m p) n)
          ∙ ap (λ b. passing p m ++ put_if b n (passing (from_on m p) n)) (sym here)
    ]

in_put : (b : Bool) (n : ℕ) (xs : List ℕ) (i : ℕ) → is_among i (put_if b n xs) ≡ (is_among i xs || (b && (i == n)))
in_put true n xs i = list_any-append (λ x. i == x) xs (n ∷ []) ∙ ap (λ b. is_among i xs || b) (or_false (i == n))
in_put false n xs i = sym (or_false (is_among i xs))

mem_bool : (p : ℕ → Bool) (n i : ℕ) → ((nat_lt i n && p i) || (p n && (i == n))) ≡ (nat_lt i (suc n) && p i)
mem_bool p n i =
    elim (cases_order i n) [
      | inl same ↦
          let low : nat_lt i n ≡ false = le-ltb i n (omega arith) in
          let up : nat_lt i (suc n) ≡ true = lt-ltb i (suc n) (omega arith) in
          let here : (i == n) ≡ true = eq-eqb i n same in
          rw (low, up, here, same) (and_true (p n))
      | inr apart ↦
          elim apart [
            | inl lt ↦
                let low : nat_lt i n ≡ true = lt-ltb i n lt in
                let up : nat_lt i (suc n) ≡ true = lt-ltb i (suc n) (omega arith) in
                let here : (i == n) ≡ false = ne_eqb i n (λ e. omega arith) in
                rw (low, up, here, and_false (p n)) (or_false (p i))
            | inr gt ↦
                let low : nat_lt i n ≡ false = le-ltb i n (omega arith) in
                let up : nat_lt i (suc n) ≡ false = le-ltb i (suc n) (omega arith) in
                let here : (i == n) ≡ false = ne_eqb i n (λ e. omega arith) in
                rw (low, up, here) (and_false (p n))
          ]
    ]

-- a number is among those that pass where it is below the bound and passes
pub mem_passing : (p : ℕ → Bool) (n i : ℕ) → is_among i (passing p n) ≡ (nat_lt i n && p i)
mem_passing p zero i = ap (λ b. b && p i) (sym (le-ltb i 0 zero-le))
mem_passing p (suc n) i =
    in_put (p n) n (passing p n) i ∙ ap (λ b. b || (p n && (i == n))) (mem_passing p n i) ∙ mem_bool p n i

append_cond : (b : Bool) (n : ℕ) (xs : List ℕ) → xs ++ cond b (n ∷ []) [] ≡ put_if b n xs
append_cond true n xs = refl
append_cond false n xs = append-nil xs

filter_put : (q : ℕ → Bool) (b : Bool) (n : ℕ) (xs : List ℕ) → filter q (put_if b n xs) ≡ put_if (b && q n) n (filter q xs)
filter_put q true n xs = filter-append q xs (n ∷ []) ∙ append_cond (q n) n (filter q xs)
filter_put q false n xs = refl

-- a filter of what passes is what passes both tests
pub filter_passing : (q p : ℕ → Bool) (n : ℕ) → filter q (passing p n) ≡ passing (λ i. p i && q i) n
filter_passing q p zero = refl
filter_passing q p (suc n) = filter_put q (p n) n (passing p n) ∙ ap (put_if (p n && q n) n) (filter_passing q p n)

rest_bool : (m i : ℕ) (b : Bool) → (b && not (nat_lt i m && b)) ≡ (nat_le m i && b)
rest_bool m i true =
    elim (cases_lt i m) [
      | inl lt ↦
          let low : nat_lt i m ≡ true = lt-ltb i m lt in
          let up : nat_le m i ≡ false = lt-leb m i lt in
          rw (low, up) refl
      | inr ge ↦
          let low : nat_lt i m ≡ false = le-ltb i m ge in
          let up : nat_le m i ≡ true = le-leb m i ge in
          rw (low, up) refl
    ]
rest_bool m i false = sym (and_false (nat_le m i))

-- what passes without what passes below m is what passes from m on
pub filter_rest : (p : ℕ → Bool) (m n : ℕ) → filter (λ i. not (is_among i (passing p m))) (passing p n) ≡ passing (from_on m p) n
filter_rest p m n =
    filter_passing (λ i. not (is_among i (passing p m))) p n
    ∙ passing_same _ _ n (λ i lt. ap (λ b. p i && not b) (mem_passing p m i) ∙ rest_bool m i (p i))

-- each that passes is below the bound, and below each later one
pub passing_below : (p : ℕ → Bool) (n : ℕ) → All (λ x. x < n) (passing p n)
passing_below p zero = All-nil (λ x. x < zero)
passing_below p (suc n) =
    let before : All (λ x. x < suc n) (passing p n) = All-weaker (λ x. x < n) (λ x. x < suc n) (λ x lt. omega arith) (passing p n) (passing_below p n) in
    by_bool (λ b. All (λ x. x < suc n) (put_if b n (passing p n))) (p n)
    (λ passes. All-push (λ x. x < suc n) (passing p n) n before (lt-suc_self n)) (λ fails. before)

pub passing_rises : (p : ℕ → Bool) (n : ℕ) → AllPairs (λ x y. x < y) (passing p n)
passing_rises p zero = λ i j d lt within. absurd (omega arith)
passing_rises p (suc n) =
    by_bool (λ b. AllPairs (λ x y. x < y) (put_if b n (passing p n))) (p n)
    (λ passes. all_pairs_push (λ x y. x < y) (passing p n) n (passing_rises p n)
    (λ k d within. All-get_or (λ x. x < n) (passing p n) k d within (passing_below p n)))
    (λ fails. passing_rises p n)
