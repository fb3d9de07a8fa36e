-- What is written piece by piece.
use Rattle.std.proofs.Common.{◌≡◌, ℕ, List, [], ◌∷◌, ◌++◌, ◌∙◌, ap, append_assoc, Result, OnOk}
use Rattle.std.proofs.lemmas.Result.{on_ok_weaker}
use Rattle.json.specs.Token.{Token, begin_object, end_object, key}
use Rattle.reply_bodies.specs.Members.{ended_by, member_of, object_of}

-- pieces go together from the right; only tokens do, so that the texts in them stay as they are
pub together : (a b c : List Token) → (a ++ b) ++ c ≡ a ++ (b ++ c)
together a b c = append_assoc a b c

-- the pieces, each written behind what was there before, lead from one body to another
abbrev pub Follows : List Token → List (List Token) → List Token → Type 0
Follows x [] y = y ≡ x
Follows x (piece ∷ more) y = (z : List Token) × (z ≡ x ++ piece) × Follows z more y

ended : (last : Token) (pieces : List (List Token)) (x y new : List Token) → Follows x pieces y → new ≡ y ++ last ∷ [] → new ≡ x ++ ended_by last pieces
ended last [] x y new written end = end ∙ ap (λ l. l ++ last ∷ []) written
ended last (piece ∷ more) x y new written end =
    ended last more written.0 y new written.2 end
    ∙ ap (λ l. l ++ ended_by last more) written.1
    ∙ together x piece (ended_by last more)

-- an object: its beginning, its members in turn, its end
pub object_written :
    {E : Type 0} (r : Result (Unit {0}) E) (old start y new : List Token) (members : List (List Token))
    → start ≡ old ++ begin_object ∷ [] → Follows start members y → OnOk r (new ≡ y ++ end_object ∷ []) → OnOk r (new ≡ old ++ object_of members)
object_written r old start y new members begun written end =
    on_ok_weaker r
    (λ (e : new ≡ y ++ end_object ∷ []). ended end_object members start y new written e
    ∙ ap (λ l. l ++ ended_by end_object members) begun
    ∙ together old (begin_object ∷ []) (ended_by end_object members))
    end

-- the same for a member whose value is an object
pub member_written :
    {E : Type 0} (r : Result (Unit {0}) E) (old start y new : List Token) (name : List ℕ) (members : List (List Token))
    → start ≡ old ++ key name ∷ begin_object ∷ [] → Follows start members y → OnOk r (new ≡ y ++ end_object ∷ [])
    → OnOk r (new ≡ old ++ member_of name (object_of members))
member_written r old start y new name members begun written end =
    on_ok_weaker r
    (λ (e : new ≡ y ++ end_object ∷ []). ended end_object members start y new written e
    ∙ ap (λ l. l ++ ended_by end_object members) begun
    ∙ together old (key name ∷ begin_object ∷ []) (ended_by end_object members))
    end
