-- What a payload is made of: a row of cells, each of which has one spelling. Numbers are big-endian.
use Rattle.std.specs.Prelude.{ℕ, List, [], ◌∷◌, ◌++◌, length, Option, Some, None}
use Rattle.std.specs.Int.{Width, w8, w16, w32, w64, to_be_bytes}

-- how many bytes a number has
pub data Size : Type 0 where
  One : Size
  Two : Size
  Four : Size
  Eight : Size

abbrev pub width_of : Size → Width
width_of One = w8
width_of Two = w16
width_of Four = w32
width_of Eight = w64

-- the bytes of a number
abbrev pub big_endian : Size → ℕ → List ℕ
big_endian size n = to_be_bytes (width_of size) n

-- a number in so many bytes, a text behind its length in so many bytes, or a moment that may be left out
pub data Cell : Type 0 where
  Number : Size → ℕ → Cell
  Words : Size → List ℕ → Cell
  Date : Option ℕ → Cell

-- the bytes of a cell
abbrev pub spell : Cell → List ℕ
spell (Number size n) = big_endian size n
spell (Words size text) = big_endian size (length text) ++ text
spell (Date None) = 0 ∷ []
spell (Date (Some moment)) = 1 ∷ big_endian Eight moment

-- the bytes of a row of cells
abbrev pub spelled : List Cell → List ℕ
spelled [] = []
spelled (cell ∷ more) = spell cell ++ spelled more
