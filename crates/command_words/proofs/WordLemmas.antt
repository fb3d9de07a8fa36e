-- Words that are no flags, and how many of them a command has.
use Rattle.std.proofs.Common.{◌≡◌, ◌∙◌, ℕ, List, [], ◌∷◌, map, length, Option, None, Bool, true, false, ◌||◌, if◌then◌else◌, refl, sym, subst, ap, Bor}
use Rattle.std.specs.List.{list_any}
use Rattle.command_words.specs.Shapes.{AllPlain}
use Rattle.command_words.specs.Commands.{begun, command_of, is_flag, named, next_of}
use Rattle.command_words.specs.declared.command.Command.{Command}

-- the words of references to them
abbrev pub texts : List (Bor (List ℕ)) → List (List ℕ)
texts ws = map (λ w. w.now) ws

abbrev pub flagged : List (Bor (List ℕ)) → Bool
flagged ws = list_any (λ w. is_flag w.now) ws

list_any-texts : (ws : List (Bor (List ℕ))) → list_any is_flag (texts ws) ≡ flagged ws
list_any-texts [] = refl
list_any-texts (w ∷ ws) = ap (λ (b : Bool). is_flag w.now || b) (list_any-texts ws)

neither : (a b : Bool) → (a || b) ≡ false → (a ≡ false) × (b ≡ false)
neither false false e = (refl, refl)
neither false true e = absurd (cc)
neither true b e = absurd (cc)

all_plain : (ws : List (Bor (List ℕ))) → flagged ws ≡ false → AllPlain (texts ws)
all_plain [] e = tt
all_plain (w ∷ ws) e = let k = neither (is_flag w.now) (flagged ws) e in record { first = k.0; others = all_plain ws k.1 }

abbrev unless : Bool → Option Command → Option Command
unless flags found = if flags then None else found

pub flags_are_none : (ws : List (Bor (List ℕ))) → flagged ws ≡ true → ◌≡◌ {A = Option Command} None (command_of (texts ws))
flags_are_none ws e = sym (ap (λ (b : Bool). unless b (begun (texts ws))) (list_any-texts ws ∙ e))

plain_words : (name : Bor (List ℕ)) (rest : List (Bor (List ℕ))) → flagged (name ∷ rest) ≡ false → command_of (texts (name ∷ rest)) ≡ named name.now (texts rest)
plain_words name rest e = ap (λ (b : Bool). unless b (begun (texts (name ∷ rest)))) (list_any-texts (name ∷ rest) ∙ e)

pub plain_behind : (ws : List (Bor (List ℕ))) (name : Bor (List ℕ)) (rest : List (Bor (List ℕ))) → ws ≡ name ∷ rest → flagged ws ≡ false → AllPlain (texts rest)
plain_behind ws name rest is e =
    all_plain rest (neither (is_flag name.now) (flagged rest) (subst (λ (l : List (Bor (List ℕ))). flagged l ≡ false) is e)).1

pub command_is : (ws : List (Bor (List ℕ))) (name : Bor (List ℕ)) (rest : List (Bor (List ℕ))) → ws ≡ name ∷ rest → flagged ws ≡ false
    → command_of (texts ws) ≡ named name.now (texts rest)
command_is ws name rest is e =
    subst (λ (l : List (Bor (List ℕ))). flagged l ≡ false → command_of (texts l) ≡ named name.now (texts rest)) (sym is) (plain_words name rest) e

pub not_four : (ws : List (Bor (List ℕ))) → (length ws ≡ 4 → ⊥) → ◌≡◌ {A = Option Command} None (next_of (texts ws))
not_four [] other = refl
not_four (w ∷ []) other = refl
not_four (w ∷ v ∷ []) other = refl
not_four (w ∷ v ∷ u ∷ []) other = refl
not_four (w ∷ v ∷ u ∷ t ∷ []) other = absurd (other refl)
not_four (w ∷ v ∷ u ∷ t ∷ y ∷ ws) other = refl
