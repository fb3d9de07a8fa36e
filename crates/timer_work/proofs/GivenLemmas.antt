-- What a picker gives, one part after another.
use Rattle.std.proofs.Common.{◌≡◌, ℕ, Option, Some, None, List, [], ◌++◌, refl, ap, sym, ◌∙◌, append_assoc}
use Rattle.std.specs.Option.{option_map}
use Rattle.std.proofs.lemmas.List.{append-nil}
use Rattle.policy_rules.specs.Given.{Gives}

-- nothing is given
pub gives_nothing : (told : Option (List ℕ)) → Gives told [] told
gives_nothing None = tt
gives_nothing (Some given) = ap Some (sym (append-nil given))

told_on : (told : Option (List ℕ)) (one two : List ℕ)
    → option_map (λ (before : List ℕ). before ++ two) (option_map (λ (before : List ℕ). before ++ one) told) ≡ option_map (λ (before : List ℕ). before ++ (one ++ two)) told
told_on None one two = refl
told_on (Some before) one two = ap Some (append_assoc before one two)

-- what is given behind what was given
pub gives_on : (a b c : Option (List ℕ)) (one two : List ℕ) → Gives a one b → Gives b two c → Gives a (one ++ two) c
gives_on a b None one two p q = tt
gives_on a None (Some later) one two p q = absurd cc
gives_on a (Some given) (Some later) one two p q = q ∙ ap (option_map (λ (before : List ℕ). before ++ two)) p ∙ told_on a one two
