-- A text cut into pieces: at its spaces into words, at its commas into items.
use Rattle.std.specs.Prelude.{ℕ, ◌+◌, ◌-◌, ◌*◌, ◌==◌, nat_le, nat_eq, Bool, true, false, not, ◌&&◌, if◌then◌else◌, Option, Some, None, List, [], ◌∷◌, length, take, drop, slice_index, map, codes}
use Rattle.std.specs.List.{starts_with, ends_with, list_all}
use Rattle.std.specs.Char.{to_ascii_uppercase}
use Rattle.plain_words.specs.Bytes.{digit_nine, digit_zero, space}
pub use Rattle.plain_words.specs.Lists.{same_text as same}

-- a piece of a text, and the place of its first byte, counted from 0
pub record Piece : Type 0 where
  pub place : ℕ
  pub text : List ℕ

-- the byte in front of the first of these parts, where they go on
abbrev pub with_front : ℕ → List (List ℕ) → List (List ℕ)
with_front b [] = (b ∷ []) ∷ []
with_front b (part ∷ parts) = (b ∷ part) ∷ parts

-- a part ends before the byte, or the byte belongs to the first of these parts
abbrev pub parted : Bool → ℕ → List (List ℕ) → List (List ℕ)
parted true b parts = [] ∷ parts
parted false b parts = with_front b parts

-- the parts of a text between its bytes c, the empty ones too; at least one
abbrev pub cut : ℕ → List ℕ → List (List ℕ)
cut c [] = [] ∷ []
cut c (b ∷ bs) = parted (b == c) b (cut c bs)

-- the parts of a text with their places, the first at this one and one byte between each two
abbrev pub placed : ℕ → List (List ℕ) → List Piece
placed place [] = []
placed place (part ∷ parts) = record { place = place; text = part } ∷ placed (place + length part + 1) parts

-- the parts that are not empty
abbrev pub words_among : List (List ℕ) → List (List ℕ)
words_among [] = []
words_among ([] ∷ parts) = words_among parts
words_among ((b ∷ bs) ∷ parts) = (b ∷ bs) ∷ words_among parts

-- the words of a text, one or more spaces apart
abbrev pub words : List ℕ → List (List ℕ)
words text = words_among (cut space text)

-- the parts that are not empty, with their places
abbrev pub placed_words_among : ℕ → List (List ℕ) → List Piece
placed_words_among place [] = []
placed_words_among place ([] ∷ parts) = placed_words_among (place + 1) parts
placed_words_among place ((b ∷ bs) ∷ parts) =
    record { place = place; text = b ∷ bs } ∷ placed_words_among (place + length (b ∷ bs) + 1) parts

-- the words of a text that begins at this place, each with its own place
abbrev pub placed_words : ℕ → List ℕ → List Piece
placed_words place text = placed_words_among place (cut space text)

-- no space is first or last
abbrev pub has_bare_ends : List ℕ → Bool
has_bare_ends text = not (slice_index text 0 == space) && not (slice_index text (length text - 1) == space)

-- what stands between an opening, as "rate(", and the closing bracket at the end
abbrev pub inside : List ℕ → List ℕ → Option (List ℕ)
inside opening text =
    if starts_with nat_eq text opening && ends_with nat_eq text (codes ")")
    then Some (take (length text - length opening - 1) (drop (length opening) text))
    else None

-- a decimal digit
abbrev pub is_digit : ℕ → Bool
is_digit b = nat_le digit_zero b && nat_le b digit_nine

-- decimal digits, so many at least and so many at most
abbrev pub is_number : ℕ → ℕ → List ℕ → Bool
is_number least most text = list_all is_digit text && nat_le least (length text) && nat_le (length text) most

-- the number that decimal digits stand for, behind digits that stand for n
abbrev pub number_from : ℕ → List ℕ → ℕ
number_from n [] = n
number_from n (b ∷ bs) = number_from (n * 10 + (b - digit_zero)) bs

-- the number that decimal digits stand for
abbrev pub number_of : List ℕ → ℕ
number_of text = number_from 0 text

-- the text with its letters in upper case
abbrev pub upper : List ℕ → List ℕ
upper text = map to_ascii_uppercase text
