-- Sums of a number of each element.
use Rattle.std.proofs.Common.{◌≡◌, ℕ, ◌+◌, ◌<◌, ◌≤◌, Option, Some, None, List, [], ◌∷◌, ◌++◌, arith}
use Rattle.plain_words.specs.Lists.{or_else, first_answer}
use Rattle.sweep_laws.specs.LoadLaws.{sum_over}

pub sum_fewer : {A : Type 0} (f g : A → ℕ) (xs : List A) → ((x : A) → g x ≤ f x) → sum_over g xs ≤ sum_over f xs
sum_fewer f g [] le = omega arith
sum_fewer f g (x ∷ xs) le = let a = le x in let b = sum_fewer f g xs le in omega arith

less_case : {W : Type 0} (o rest : Option W) (w : W) (a b c d : ℕ) → a ≤ b → c ≤ d → (o ≡ Some w → a < b) → (rest ≡ Some w → c < d) → or_else o rest ≡ Some w
    → a + c < b + d
less_case None rest w a b c d x y f g e = let z = g e in omega arith
less_case (Some v) rest w a b c d x y f g e = let z = f e in omega arith

-- a sum falls that falls at each element that gives the first answer
pub sum_less : {A W : Type 0} (question : A → Option W) (w : W) (f g : A → ℕ) (xs : List A) → ((x : A) → g x ≤ f x) → ((x : A) → question x ≡ Some w → g x < f x)
    → first_answer question xs ≡ Some w → sum_over g xs < sum_over f xs
sum_less question w f g [] le lt e = absurd cc
sum_less question w f g (x ∷ xs) le lt e =
    less_case (question x) (first_answer question xs) w (g x) (f x) (sum_over g xs) (sum_over f xs) (le x) (sum_fewer f g xs le) (lt x) (sum_less question w f g xs le lt) e

pub sum_appended : {A : Type 0} (f : A → ℕ) (xs ys : List A) → sum_over f (xs ++ ys) ≡ sum_over f xs + sum_over f ys
sum_appended f [] ys = omega arith
sum_appended f (x ∷ xs) ys = let a = sum_appended f xs ys in omega arith
