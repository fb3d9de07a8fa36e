-- Lemmas on texts that are the same.
use Rattle.std.proofs.Common.{◌≡◌, ◌≢◌, ℕ, ◌+◌, ◌<◌, true, false, List, length, get_or, drop, refl, sym, ◌∙◌, eq-eqb, ne_eqb, add-one}
use Rattle.std.proofs.Math.Seq.{drop-cons}
use Rattle.std.proofs.lemmas.Slice.Eq.{bytes_eq-Decides}
use Rattle.std.specs.Prelude.{map, nat_eq, ◌&&◌}
use Rattle.expressions.specs.Pieces.{same}
use Rattle.expressions.specs.ExpressionFaults.{masked}

pub same_is : (a b : List ℕ) → same a b ≡ true → a ≡ b
same_is a b = (bytes_eq-Decides a b).0

pub is_same : (a b : List ℕ) → a ≡ b → same a b ≡ true
is_same a b = (bytes_eq-Decides a b).1

-- a text and its form from a place on, by the byte there
pub masked_drop : (a b : List ℕ) (i : ℕ) → i < length a → i < length b →
    same (map masked (drop i a)) (drop i b)
    ≡ (nat_eq (masked (get_or a i 0)) (get_or b i 0) && same (map masked (drop (i + 1) a)) (drop (i + 1) b))
masked_drop a b i in_a in_b = rw (add-one, drop-cons a i 0, drop-cons b i 0) refl

-- the form differs at a place
pub masked_apart : (a b : List ℕ) (i : ℕ) → i < length a → i < length b →
    same (map masked (drop i a)) (drop i b) ≡ same (map masked a) b →
    masked (get_or a i 0) ≢ get_or b i 0 → false ≡ same (map masked a) b
masked_apart a b i in_a in_b left apart =
    let off : nat_eq (masked (get_or a i 0)) (get_or b i 0) ≡ false = ne_eqb _ _ apart in
    sym (sym left ∙ masked_drop a b i in_a in_b ∙ (rw off refl))

-- the form fits at a place
pub masked_more : (a b : List ℕ) (i : ℕ) → i < length a → i < length b → masked (get_or a i 0) ≡ get_or b i 0 →
    same (map masked (drop (i + 1) a)) (drop (i + 1) b) ≡ same (map masked (drop i a)) (drop i b)
masked_more a b i in_a in_b fits =
    let on : nat_eq (masked (get_or a i 0)) (get_or b i 0) ≡ true = eq-eqb _ _ fits in
    sym (masked_drop a b i in_a in_b ∙ (rw on refl))
