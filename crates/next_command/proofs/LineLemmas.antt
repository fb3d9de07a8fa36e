-- Lines, one behind another.
use Rattle.std.proofs.Common.{ℕ, List, [], ◌∷◌, ◌++◌, refl, ap, sym, ◌∙◌, append_assoc, append-nil}
use Rattle.next_command.specs.Lines.{IsInstantLine, AreInstantLines}
use Rattle.next_command.specs.Adding.{AddsLine, AddsLines}

-- one more line stands behind the others
lines_more : (instants : List ℕ) (instant : ℕ) (text line : List ℕ) → AreInstantLines instants text → IsInstantLine instant line
    → AreInstantLines (instants ++ instant ∷ []) (text ++ line)
lines_more [] instant text line none is = (line, [], is, refl, ap (λ (t : List ℕ). t ++ line) none ∙ sym (append-nil line))
lines_more (i ∷ more) instant text line (first, rest, one, others, whole) is =
    (first, rest ++ line, one, lines_more more instant rest line others is, ap (λ (t : List ℕ). t ++ line) whole ∙ append_assoc first rest line)

pub no_lines : (text : List ℕ) → AddsLines [] text text
no_lines text = record { added = []; are = refl; behind = sym (append-nil text) }

pub adds_more : (instants : List ℕ) (instant : ℕ) (before text after : List ℕ) → AddsLines instants before text → AddsLine instant text after
    → AddsLines (instants ++ instant ∷ []) before after
adds_more instants instant before text after lines line = record {
  added = lines.added ++ line.added;
  are = lines_more instants instant lines.added line.added lines.are line.is;
  behind = line.behind ∙ ap (λ (t : List ℕ). t ++ line.added) lines.behind ∙ append_assoc before lines.added line.added;
}
