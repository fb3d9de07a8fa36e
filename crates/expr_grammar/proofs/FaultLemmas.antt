-- Lemmas on first faults.
use Rattle.std.proofs.Common.{◌≡◌, Bool, true, false, List, ◌∷◌, refl, cond, Option, Some, None}
use Rattle.std.specs.Prelude.{not}
use Rattle.plain_words.specs.Lists.{first_some, when}

-- none among a list is none at its head and none behind
pub first_none : {A : Type 0} (x : Option A) (more : List (Option A)) → first_some (x ∷ more) ≡ None → (x ≡ None) × (first_some more ≡ None)
first_none None more is = (refl, is)
first_none (Some x) more is = cc

-- no fault by a test: it passes
pub passes : {A : Type 0} (test : Bool) (x : A) → when (not test) x ≡ None → test ≡ true
passes true x is = refl
passes false x is = cc

-- a choice that is none where the other choice is not
pub chosen_none : {A : Type 0} (test : Bool) (x : Option A) (y : A) → cond test x (Some y) ≡ None → (test ≡ true) × (x ≡ None)
chosen_none true x y is = (refl, is)
chosen_none false x y is = cc
