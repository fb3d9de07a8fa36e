-- Laws of Booleans that proofs of every crate cite.
use Rattle.std.proofs.Common.{◌≡◌, ℕ, Bool, true, false, not, cond, ◌&&◌, ◌||◌, ◌==◌, Some, None, refl}
use Rattle.std.proofs.lemmas.Bool.{eq-eqb}

pub not_not : (b : Bool) → not (not b) ≡ b
not_not true = refl
not_not false = refl

pub or_false : (b : Bool) → (b || false) ≡ b
or_false true = refl
or_false false = refl

pub and_true : (b : Bool) → (b && true) ≡ b
and_true true = refl
and_true false = refl

pub and_false : (b : Bool) → (b && false) ≡ false
and_false true = refl
and_false false = refl

pub or_assoc : (a b c : Bool) → ((a || b) || c) ≡ (a || (b || c))
or_assoc true b c = refl
or_assoc false b c = refl

-- a choice whose second part is one
pub or_grown : (a whole b c : Bool) → whole ≡ (b || c) → (a || whole) ≡ (a || b || c)
or_grown true whole b c e = refl
or_grown false whole b c e = e

pub or_alike : (a b x y : Bool) → a ≡ x → b ≡ y → (a || b) ≡ (x || y)
or_alike a b x y e f = rw (e, f) refl

pub or_second : (a b : Bool) → b ≡ true → (a || b) ≡ true
or_second true b e = refl
or_second false b e = e

pub and_first : (a b : Bool) → (a && b) ≡ true → a ≡ true
and_first true b e = refl
and_first false b e = cc e

pub and_second : (a b : Bool) → (a && b) ≡ true → b ≡ true
and_second true b e = e
and_second false b e = cc e

-- of five that have to hold the second fails
pub second_fails : (a b c d e : Bool) → b ≡ false → (a && b && c && d && e) ≡ false
second_fails true b c d e fails = rw fails refl
second_fails false b c d e fails = refl

-- what holds by cases of a Boolean
pub by_bool : (P : Bool → Type 0) (b : Bool) → (b ≡ true → P true) → (b ≡ false → P false) → P b
by_bool P true passes fails = passes refl
by_bool P false passes fails = fails refl

-- where a choice found nothing its test fails
pub not_there : {A : Type 0} (there : Bool) (x : A) → cond there (Some x) None ≡ None → there ≡ false
not_there true x e = cc e
not_there false x e = refl

-- a number, and a pair of numbers, is itself
pub itself : (n : ℕ) → (n == n) ≡ true
itself n = eq-eqb n n refl

pub both_itself : (m n : ℕ) → (m == m && n == n) ≡ true
both_itself m n = let a : (m == m) ≡ true = itself m in let b : (n == n) ≡ true = itself n in rw (a, b) refl
