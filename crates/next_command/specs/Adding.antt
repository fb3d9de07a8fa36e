-- Lines that are appended to a text.
use Rattle.std.specs.Prelude.{◌≡◌, ℕ, List, ◌++◌}
use Rattle.next_command.specs.Lines.{IsInstantLine, AreInstantLines}

-- the line of an instant was appended
pub record AddsLine (instant : ℕ) (before after : List ℕ) : Type 0 where
  pub added : List ℕ
  pub is : IsInstantLine instant added
  pub behind : after ≡ before ++ added

-- the lines of instants were
pub record AddsLines (instants : List ℕ) (before after : List ℕ) : Type 0 where
  pub added : List ℕ
  pub are : AreInstantLines instants added
  pub behind : after ≡ before ++ added
