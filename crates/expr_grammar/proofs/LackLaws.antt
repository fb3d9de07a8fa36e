-- Texts that lack a byte, and where they are cut.
use Rattle.std.proofs.Common.{◌≡◌, ℕ, suc, ◌-◌, ◌<◌, true, false, List, [], ◌∷◌, ◌++◌, length, get_or, refl, sym, ap, ◌∙◌, arith, ne_eqb}
use Rattle.std.specs.Prelude.{◌==◌, slice_index}
use Rattle.std.specs.List.{join_with_byte, list_all}
use Rattle.std.proofs.lemmas.Bool.{false≢true, and_parts}
use Rattle.expressions.specs.Pieces.{cut, has_bare_ends, is_digit, words, words_among}
use Rattle.expr_grammar.proofs.Cuts.{same_byte}

-- no byte of the text is c
abbrev pub Lacks : ℕ → List ℕ → Type 0
Lacks c [] = Unit {0}
Lacks c (b ∷ bs) = ((b == c) ≡ false) × Lacks c bs

-- no byte of the texts is c
abbrev pub AllLack : ℕ → List (List ℕ) → Type 0
AllLack c [] = Unit {0}
AllLack c (text ∷ texts) = Lacks c text × AllLack c texts

-- each text has a byte
abbrev pub AllFilled : List (List ℕ) → Type 0
AllFilled [] = Unit {0}
AllFilled (text ∷ texts) = (0 < length text) × AllFilled texts

pub lacks_append : (c : ℕ) (a b : List ℕ) → Lacks c a → Lacks c b → Lacks c (a ++ b)
lacks_append c [] b la lb = lb
lacks_append c (x ∷ a) b la lb = (la.0, lacks_append c a b la.1 lb)

-- digits lack what is no digit
pub digits_lack : (c : ℕ) (text : List ℕ) → is_digit c ≡ false → list_all is_digit text ≡ true → Lacks c text
digits_lack c [] bare digits = tt
digits_lack c (b ∷ bs) bare digits =
    let parts = and_parts (is_digit b) (list_all is_digit bs) digits in
    (ne_eqb b c (λ e. absurd (false≢true (sym bare ∙ ap is_digit (sym e) ∙ parts.0))), digits_lack c bs bare parts.1)

-- a text that lacks the byte is one part
pub cut_lacking : (c : ℕ) (a : List ℕ) → Lacks c a → cut c a ≡ a ∷ []
cut_lacking c [] la = refl
cut_lacking c (b ∷ bs) la = rw (la.0, cut_lacking c bs la.1) refl

-- a text that lacks the byte is the part in front of it
pub cut_behind : (c : ℕ) (a b : List ℕ) → Lacks c a → cut c (a ++ c ∷ b) ≡ a ∷ cut c b
cut_behind c [] b la = rw (same_byte c) refl
cut_behind c (x ∷ a) b la = rw (la.0, cut_behind c a b la.1) refl

-- texts that lack the byte, joined by it, are cut into the same texts
pub cut_joined : (c : ℕ) (part : List ℕ) (parts : List (List ℕ)) → AllLack c (part ∷ parts) → cut c (join_with_byte c (part ∷ parts)) ≡ part ∷ parts
cut_joined c part [] lack = cut_lacking c part lack.0
cut_joined c part (next ∷ parts) lack =
    cut_behind c part (join_with_byte c (next ∷ parts)) lack.0 ∙ ap (λ x. part ∷ x) (cut_joined c next parts lack.1)

pub joined_lacks : (c d : ℕ) (parts : List (List ℕ)) → (d == c) ≡ false → AllLack c parts → Lacks c (join_with_byte d parts)
joined_lacks c d [] apart lack = tt
joined_lacks c d (part ∷ []) apart lack = lack.0
joined_lacks c d (part ∷ next ∷ parts) apart lack =
    lacks_append c part (d ∷ join_with_byte d (next ∷ parts)) lack.0 (apart, joined_lacks c d (next ∷ parts) apart lack.1)

pub words_filled : (parts : List (List ℕ)) → AllFilled parts → words_among parts ≡ parts
words_filled [] filled = refl
words_filled ([] ∷ parts) filled = absurd (let none : 0 < 0 = filled.0 in omega arith)
words_filled ((b ∷ bs) ∷ parts) filled = ap (λ x. (b ∷ bs) ∷ x) (words_filled parts filled.1)

-- filled texts without a space, joined by spaces, are the words
pub words_joined : (part : List ℕ) (parts : List (List ℕ)) → AllLack 32 (part ∷ parts) → AllFilled (part ∷ parts) →
    words (join_with_byte 32 (part ∷ parts)) ≡ part ∷ parts
words_joined part parts lack filled = ap words_among (cut_joined 32 part parts lack) ∙ words_filled (part ∷ parts) filled

-- a text that ends with another byte than a space
pub record EndsBare (text : List ℕ) : Type 0 where
  pub some : 0 < length text
  pub bare : (slice_index text (length text - 1) == 32) ≡ false

ends_cons : (b : ℕ) (text : List ℕ) → EndsBare text → EndsBare (b ∷ text)
ends_cons b [] ends = absurd (let none : 0 < 0 = ends.some in omega arith)
ends_cons b (x ∷ xs) ends =
    let longer : suc (suc (length xs)) - 1 ≡ suc (length xs) = omega arith in
    let shorter : suc (length xs) - 1 ≡ length xs = omega arith in
    record {
      some = omega arith;
      bare = ap (λ i. get_or (b ∷ x ∷ xs) i 0 == 32) longer ∙ ap (λ i. get_or (x ∷ xs) i 0 == 32) (sym shorter) ∙ ends.bare;
    }

pub ends_append : (a text : List ℕ) → EndsBare text → EndsBare (a ++ text)
ends_append [] text ends = ends
ends_append (b ∷ a) text ends = ends_cons b (a ++ text) (ends_append a text ends)

pub lacking_ends : (text : List ℕ) → Lacks 32 text → 0 < length text → EndsBare text
lacking_ends [] lack some = absurd (omega arith)
lacking_ends (b ∷ []) lack some = record { some = some; bare = lack.0 }
lacking_ends (b ∷ x ∷ xs) lack some = ends_cons b (x ∷ xs) (lacking_ends (x ∷ xs) lack.1 (omega arith))

-- no space is first or last
pub bare_ends : (first rest : List ℕ) → Lacks 32 first → 0 < length first → EndsBare (first ++ rest) → has_bare_ends (first ++ rest) ≡ true
bare_ends [] rest lack some ends = absurd (omega arith)
bare_ends (b ∷ bs) rest lack some ends = rw (lack.0, ends.bare) refl

joined_ends : (part : List ℕ) (parts : List (List ℕ)) → AllLack 32 (part ∷ parts) → AllFilled (part ∷ parts) → EndsBare (join_with_byte 32 (part ∷ parts))
joined_ends part [] lack filled = lacking_ends part lack.0 filled.0
joined_ends part (next ∷ parts) lack filled =
    ends_append part (32 ∷ join_with_byte 32 (next ∷ parts)) (ends_cons 32 (join_with_byte 32 (next ∷ parts)) (joined_ends next parts lack.1 filled.1))

-- words joined by spaces have no space at their ends
pub joined_bare : (part next : List ℕ) (parts : List (List ℕ)) → AllLack 32 (part ∷ next ∷ parts) → AllFilled (part ∷ next ∷ parts) →
    has_bare_ends (join_with_byte 32 (part ∷ next ∷ parts)) ≡ true
joined_bare part next parts lack filled =
    bare_ends part (32 ∷ join_with_byte 32 (next ∷ parts)) lack.0 filled.0 (joined_ends part (next ∷ parts) lack filled)
