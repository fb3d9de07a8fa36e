-- What is given call after call.
use Rattle.std.proofs.Common.{ℕ, Option, Some, None, List, [], ◌++◌, ap, ◌∙◌}
use Rattle.std.proofs.Common.{append_assoc, append-nil}
use Rattle.plain_words.proofs.Options.{some_same}
use Rattle.policy_rules.specs.Given.{Gives}

-- nothing was given where nothing was asked
pub gives_none : (told : Option (List ℕ)) → Gives told [] told
gives_none None = tt
gives_none (Some given) = search append-nil

-- what was given by some calls and then by more
pub gives_through : (before mid after : Option (List ℕ)) (xs ys : List ℕ) → Gives before xs mid → Gives mid ys after → Gives before (xs ++ ys) after
gives_through before mid None xs ys a b = tt
gives_through before None (Some given) xs ys a b = cc b
gives_through None (Some mid) (Some given) xs ys a b = cc a
gives_through (Some before) (Some mid) (Some given) xs ys a b =
    b ∙ ap Some (ap (λ earlier. earlier ++ ys) (some_same mid (before ++ xs) a) ∙ append_assoc before xs ys)
