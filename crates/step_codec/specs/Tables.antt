-- Reading by a table: which fields stand one behind the other, and the rule that each of them keeps.
use Rattle.std.specs.Prelude.{ℕ, zero, suc, nat_lt, Bool, if◌then◌else◌, List, [], ◌∷◌, length, take, drop, Option, Some, None, Result, Ok, Err}
use Rattle.std.specs.Int.{byte_len, from_be_bytes}
use Rattle.step_codec.specs.declared.fault.FieldFault.{FieldFault}
use Rattle.step_codec.specs.declared.fault.FieldFault.TheVariants.{Cut, Broken}
use Rattle.step_codec.specs.Cells.{Size, Eight, width_of, Cell, Number, Words, Date}

-- a field: a number in so many bytes or a text behind its length in so many bytes, which passes a test, or a moment that
-- passes and may be left out
pub data Field : Type 0 where
  a_number : Size → (ℕ → Bool) → Field
  a_text : Size → (List ℕ → Bool) → Field
  a_date : (ℕ → Bool) → Field

-- fields one behind the other; which fields stand behind a number may depend on it
infixr 20 ◌then◌
pub data Table : Type 0 where
  nothing : Table
  ◌then◌ : Field → Table → Table
  choosing : Size → (ℕ → Bool) → (ℕ → Table) → Table

-- the fields of one table and then those of another
infixr 18 ◌and◌
abbrev pub ◌and◌ : Table → Table → Table
nothing and second = second
(field then more) and second = field then (more and second)
(choosing size passes more) and second = choosing size passes (λ n. more n and second)

infixl 10 ◌giving◌
abbrev pub ◌giving◌ : {A B : Type 0} → Result A FieldFault → (A → Result B FieldFault) → Result B FieldFault
(Ok x) giving next = next x
(Err fault) giving next = Err fault

-- what passes; else the field is broken that begins where so many bytes are left
abbrev pub kept : {A : Type 0} → Bool → ℕ → A → Result A FieldFault
kept passes left x = if passes then Ok x else Err (Broken left)

-- so many bytes and those behind them, or the bytes end before
abbrev pub cut_at : ℕ → List ℕ → Result (List ℕ × List ℕ) FieldFault
cut_at n bytes = if nat_lt (length bytes) n then Err Cut else Ok (take n bytes, drop n bytes)

-- the number of so many bytes, and what is behind it
unfoldable pub number_at : Size → List ℕ → Result (ℕ × List ℕ) FieldFault
number_at size bytes = cut_at (byte_len (width_of size)) bytes giving λ parts. Ok (from_be_bytes (width_of size) parts.0, parts.1)

-- the number, where it passes
unfoldable pub passing_at : Size → (ℕ → Bool) → List ℕ → Result (ℕ × List ℕ) FieldFault
passing_at size passes bytes = number_at size bytes giving λ n. kept (passes n.0) (length bytes) n

-- the text behind its length, and what is behind it
unfoldable pub words_at : Size → List ℕ → Result (List ℕ × List ℕ) FieldFault
words_at size bytes = number_at size bytes giving λ n. cut_at n.0 n.1

-- the text, where it passes
unfoldable pub text_at : Size → (List ℕ → Bool) → List ℕ → Result (List ℕ × List ℕ) FieldFault
text_at size passes bytes = words_at size bytes giving λ t. kept (passes t.0) (length bytes) t

-- the moment behind a 1, where it passes; none behind a 0
unfoldable pub date_at : (ℕ → Bool) → List ℕ → Result (Option ℕ × List ℕ) FieldFault
date_at passes [] = Err Cut
date_at passes (zero ∷ more) = Ok (None, more)
date_at passes (suc zero ∷ more) =
    number_at Eight more giving λ n. kept (passes n.0) (suc (length more)) (Some n.0, n.1)
date_at passes (suc (suc other) ∷ more) = Err (Broken (suc (length more)))

-- the cell that a field reads, and what is behind it
abbrev pub cell_at : Field → List ℕ → Result (Cell × List ℕ) FieldFault
cell_at (a_number size passes) bytes = passing_at size passes bytes giving λ n. Ok (Number size n.0, n.1)
cell_at (a_text size passes) bytes = text_at size passes bytes giving λ t. Ok (Words size t.0, t.1)
cell_at (a_date passes) bytes = date_at passes bytes giving λ d. Ok (Date d.0, d.1)

-- a cell in front of those that were read behind it
abbrev pub in_front : Cell → Result (List Cell × List ℕ) FieldFault → Result (List Cell × List ℕ) FieldFault
in_front cell read = read giving λ r. Ok (cell ∷ r.0, r.1)

-- the cells that the bytes begin with, by the table, and the bytes behind them; or the first field that is cut or broken
abbrev pub walk : Table → List ℕ → Result (List Cell × List ℕ) FieldFault
walk nothing bytes = Ok ([], bytes)
walk (field then more) bytes = cell_at field bytes giving λ c. in_front c.0 (walk more c.1)
walk (choosing size passes more) bytes =
    passing_at size passes bytes giving λ n. in_front (Number size n.0) (walk (more n.0) n.1)
