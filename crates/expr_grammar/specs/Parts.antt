-- The parts of a text as the code finds them.
use Rattle.std.specs.Prelude.{◌≡◌, ℕ, List, [], ◌∷◌}
use Rattle.expressions.specs.Pieces.{cut}
use Rattle.expr_grammar.specs.declared.cut.Parts.{Parts}
use Rattle.expr_grammar.specs.declared.cut.Parts.TheVariants.{One, Two, More}

-- the parts of a text between its bytes c are these
abbrev pub ArePartsOf : ℕ → List ℕ → Parts → Type 0
ArePartsOf c text One = cut c text ≡ text ∷ []
ArePartsOf c text (Two front back) = cut c text ≡ front.now ∷ back.now ∷ []
ArePartsOf c text More =
    (first : List ℕ) × (second : List ℕ) × (third : List ℕ) × (others : List (List ℕ)) × (cut c text ≡ first ∷ second ∷ third ∷ others)
