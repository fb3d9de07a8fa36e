-- Facts of any history, legal or not.
use Rattle.std.proofs.Common.{◌≡◌, ℕ, ◌+◌, ◌<◌, List, [], ◌∷◌, ◌++◌, length, take, get_or, refl, ap, ◌∙◌, arith}
use Rattle.std.proofs.lemmas.List.{take_more}
use Rattle.sched_plain.specs.declared.step.Step.{Step}
use Rattle.sched_plain.specs.History.{History, beginning, ◌upon◌, count, grown, Extends, as_it_was, with_step}

-- a history that extends one that extends a third extends that
pub extends_through : {h mid after : History} → Extends h mid → Extends mid after → Extends h after
extends_through a as_it_was = a
extends_through a (with_step s b) = with_step s (extends_through a b)

-- a history grown by steps and then by one more
pub grown_snoc : (h : History) (xs : List Step) (x : Step) → grown h (xs ++ x ∷ []) ≡ x upon grown h xs
grown_snoc h [] x = refl
grown_snoc h (y ∷ ys) x = grown_snoc (y upon h) ys x

-- the history of the first i + 1 steps is the next step upon that of the first i
pub grown_more : (xs : List Step) (i : ℕ) (d : Step) → i < length xs → grown beginning (take (i + 1) xs) ≡ get_or xs i d upon grown beginning (take i xs)
grown_more xs i d h = ap (grown beginning) (take_more xs i d h) ∙ grown_snoc beginning (take i xs) (get_or xs i d)

-- a history grown by steps has as many more
pub count_grown : (h : History) (xs : List Step) → count (grown h xs) ≡ count h + length xs
count_grown h [] = omega arith
count_grown h (x ∷ xs) = count_grown (x upon h) xs ∙ omega arith

-- a history of these steps has as many
pub count_steps : (xs : List Step) → length xs ≡ count (grown beginning xs)
count_steps xs = let all : count (grown beginning xs) ≡ 0 + length xs = count_grown beginning xs in omega (arith, all)
