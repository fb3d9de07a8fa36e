-- Instants that are what passes below a cover, but for some below a floor that were folded away.
use Rattle.std.proofs.Common.{◌≡◌, ℕ, ◌≤◌, ◌==◌, nat_le, nat_lt, Bool, true, false, not, ◌&&◌, List, filter, refl, sym, ap, ◌∙◌, inl, inr, arith, le_trans}
use Rattle.std.proofs.lemmas.Bool.{cases_lt, le-ltb, lt-ltb, le-leb, lt-leb, eqb-true, and_parts}
use Rattle.std.proofs.lemmas.Map.Views.{any-filter_same}
use Rattle.plain_words.specs.Lists.{passing}
use Rattle.plain_words.proofs.Booleans.{and_false, and_true}
use Rattle.book_laws.specs.EntryLaws.{is_among}
use Rattle.book_laws.proofs.Passing.{from_on, passing_same, filter_passing}

-- from this number on all are kept
abbrev pub KeepsFrom : ℕ → (ℕ → Bool) → Type 0
KeepsFrom least kept = (i : ℕ) → least ≤ i → kept i ≡ true

-- the instants are those that pass below m and are kept, and from `least` on, which is at most m, all are kept
pub record Reaches (p : ℕ → Bool) (least m : ℕ) (instants : List ℕ) : Type 0 where
  pub kept : ℕ → Bool
  pub all : KeepsFrom least kept
  pub exact : instants ≡ filter kept (passing p m)
  pub under : least ≤ m

-- other tests and another bound, no lower, that let the same numbers pass
pub reaches_on : (p q : ℕ → Bool) (least m n : ℕ) (xs ys : List ℕ) → ys ≡ xs → passing p m ≡ passing q n → m ≤ n
    → Reaches p least m xs → Reaches q least n ys
reaches_on p q least m n xs ys same passes up old =
    record { kept = old.kept; all = old.all; exact = same ∙ old.exact ∙ ap (filter old.kept) passes; under = le_trans old.under up }

from_kept : (least m i : ℕ) (kept : ℕ → Bool) → least ≤ m → KeepsFrom least kept → (b : Bool) → ((nat_le m i && b) && kept i) ≡ (nat_le m i && b)
from_kept least m i kept le keeps b =
    elim (cases_lt i m) [
      | inl lt ↦ let low : nat_le m i ≡ false = lt-leb m i lt in rw low refl
      | inr ge ↦ let is : kept i ≡ true = keeps i (omega arith) in rw is (and_true (nat_le m i && b))
    ]

-- what passes from m on is kept
pub all_kept : (p kept : ℕ → Bool) (least m n : ℕ) → least ≤ m → KeepsFrom least kept
    → filter kept (passing (from_on m p) n) ≡ passing (from_on m p) n
all_kept p kept least m n le keeps =
    filter_passing kept (from_on m p) n ∙ passing_same _ _ n (λ i lt. from_kept least m i kept le keeps (p i))

-- what is above the floor and not among those that reach m is from m on
pub open_above : (least m i : ℕ) (kept : ℕ → Bool) → least ≤ m → KeepsFrom least kept → (b : Bool)
    → ((b && nat_le least i) && not (nat_lt i m && (b && kept i))) ≡ (nat_le m i && b)
open_above least m i kept le keeps true =
    elim (cases_lt i m) [
      | inl lt ↦
          let low : nat_lt i m ≡ true = lt-ltb i m lt in
          let up : nat_le m i ≡ false = lt-leb m i lt in
          elim (cases_lt i least) [
            | inl below ↦ let under : nat_le least i ≡ false = lt-leb least i below in rw (under, up) refl
            | inr above ↦
                let over : nat_le least i ≡ true = le-leb least i above in
                let is : kept i ≡ true = keeps i above in
                rw (low, up, over, is) refl
          ]
      | inr ge ↦
          let low : nat_lt i m ≡ false = le-ltb i m ge in
          let up : nat_le m i ≡ true = le-leb m i ge in
          let over : nat_le least i ≡ true = le-leb least i (omega arith) in
          rw (low, up, over) refl
    ]
open_above least m i kept le keeps false = sym (and_false (nat_le m i))

-- what is among the kept ones is there
pub among_filter : (kept : ℕ → Bool) (xs : List ℕ) (i : ℕ) → is_among i (filter kept xs) ≡ true → is_among i xs ≡ true
among_filter kept xs i is =
    (and_parts (kept i) (is_among i xs)
    (sym (any-filter_same (λ x. i == x) kept (kept i) (λ k same. ap kept (sym (eqb-true i k same))) xs) ∙ is)).1

-- what is there and kept is among the kept ones
pub kept_among : (kept : ℕ → Bool) (xs : List ℕ) (i : ℕ) → kept i ≡ true → is_among i xs ≡ true → is_among i (filter kept xs) ≡ true
kept_among kept xs i is there =
    any-filter_same (λ x. i == x) kept true (λ k same. ap kept (sym (eqb-true i k same)) ∙ is) xs ∙ there
