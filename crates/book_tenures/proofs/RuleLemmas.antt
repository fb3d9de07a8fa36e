-- What is not broken of a list of rules.
use Rattle.std.proofs.Common.{◌≡◌, Option, Some, None, List, ◌∷◌}
use Rattle.plain_words.specs.Lists.{first_some}

-- where a list of rules is not broken, what is behind its first is not
pub rest_none : {A : Type 0} (x : Option A) (xs : List (Option A)) → first_some (x ∷ xs) ≡ None → first_some xs ≡ None
rest_none None xs e = e
rest_none (Some x) xs e = cc e
