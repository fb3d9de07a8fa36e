-- Rows of cells that are written one behind the other.
use Rattle.std.proofs.Common.{◌≡◌, ℕ, ◌+◌, ◌<◌, List, [], ◌∷◌, ◌++◌, length, take, get_or, refl, sym, ap, ◌∙◌, append_assoc}
use Rattle.std.proofs.lemmas.List.{append-nil, take_more}
use Rattle.sched_plain.specs.declared.step.Pair.{Pair}
use Rattle.step_codec.specs.Payload.{pair_cells}
use Rattle.step_codec.proofs.Pairs.{pair_cells-append}
use Rattle.step_codec.specs.Cells.{Cell, spell, spelled}

pub spelled-append : (first second : List Cell) → spelled (first ++ second) ≡ spelled first ++ spelled second
spelled-append [] second = refl
spelled-append (cell ∷ first) second = ap (λ (bytes : List ℕ). spell cell ++ bytes) (spelled-append first second) ∙ sym (append_assoc (spell cell) (spelled first) (spelled second))

-- two rows behind what was there
pub two_parts : (before : List ℕ) (first second : List Cell) → (before ++ spelled first) ++ spelled second ≡ before ++ spelled (first ++ second)
two_parts before first second = append_assoc before (spelled first) (spelled second) ∙ ap (λ (bytes : List ℕ). before ++ bytes) (sym (spelled-append first second))

-- three rows behind what was there
pub three_parts : (before : List ℕ) (first second third : List Cell) →
    ((before ++ spelled first) ++ spelled second) ++ spelled third ≡ before ++ spelled (first ++ (second ++ third))
three_parts before first second third =
    append_assoc (before ++ spelled first) (spelled second) (spelled third)
    ∙ ap (λ (bytes : List ℕ). (before ++ spelled first) ++ bytes) (sym (spelled-append second third))
    ∙ two_parts before first (second ++ third)

-- two cells behind what was there
pub two_cells : (before : List ℕ) (a b : Cell) → (before ++ spell a) ++ spell b ≡ before ++ spelled (a ∷ b ∷ [])
two_cells before a b = append_assoc before (spell a) (spell b) ∙ ap (λ (bytes : List ℕ). before ++ (spell a ++ bytes)) (sym (append-nil (spell b)))

-- the pairs so far and the next one
pub pairs_grown : (before : List ℕ) (pairs : List Pair) (i : ℕ) (d : Pair) → i < length pairs →
    (before ++ spelled (pair_cells (take i pairs))) ++ spelled (pair_cells (get_or pairs i d ∷ [])) ≡ before ++ spelled (pair_cells (take (i + 1) pairs))
pairs_grown before pairs i d lt =
    two_parts before (pair_cells (take i pairs)) (pair_cells (get_or pairs i d ∷ []))
    ∙ ap (λ (cells : List Cell). before ++ spelled cells) (sym (pair_cells-append (take i pairs) (get_or pairs i d ∷ [])))
    ∙ ap (λ (ps : List Pair). before ++ spelled (pair_cells ps)) (sym (take_more pairs i d lt))

-- cells behind what was there, by how many they are
pub four_cells : (before : List ℕ) (a b c d : Cell) →
    (((before ++ spell a) ++ spell b) ++ spell c) ++ spell d ≡ before ++ spelled (a ∷ b ∷ c ∷ d ∷ [])
four_cells before a b c d = simp (append_assoc, append-nil)

pub five_cells : (before : List ℕ) (a b c d e : Cell) →
    ((((before ++ spell a) ++ spell b) ++ spell c) ++ spell d) ++ spell e ≡ before ++ spelled (a ∷ b ∷ c ∷ d ∷ e ∷ [])
five_cells before a b c d e = simp (append_assoc, append-nil)

-- a row and one cell more
pub row_and_one : (before : List ℕ) (row : List Cell) (a : Cell) → (before ++ spelled row) ++ spell a ≡ before ++ spelled (row ++ a ∷ [])
row_and_one before row a = ap (λ (bytes : List ℕ). (before ++ spelled row) ++ bytes) (sym (append-nil (spell a))) ∙ two_parts before row (a ∷ [])

-- a row and two cells more
pub row_and_two : (before : List ℕ) (row : List Cell) (a b : Cell) → ((before ++ spelled row) ++ spell a) ++ spell b ≡ before ++ spelled (row ++ a ∷ b ∷ [])
row_and_two before row a b = two_cells (before ++ spelled row) a b ∙ two_parts before row (a ∷ b ∷ [])

-- a row and three cells more
pub row_and_three : (before : List ℕ) (row : List Cell) (a b c : Cell) →
    (((before ++ spelled row) ++ spell a) ++ spell b) ++ spell c ≡ before ++ spelled (row ++ a ∷ b ∷ c ∷ [])
row_and_three before row a b c =
    append_assoc ((before ++ spelled row) ++ spell a) (spell b) (spell c)
    ∙ append_assoc (before ++ spelled row) (spell a) (spell b ++ spell c)
    ∙ ap (λ (bytes : List ℕ). (before ++ spelled row) ++ (spell a ++ (spell b ++ bytes))) (sym (append-nil (spell c)))
    ∙ two_parts before row (a ∷ b ∷ c ∷ [])
