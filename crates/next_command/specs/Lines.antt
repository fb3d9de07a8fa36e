-- The lines that tell instants: each ends with a line feed.
use Rattle.std.specs.Prelude.{◌≡◌, ℕ, ◌/◌, List, [], ◌∷◌, ◌++◌, codes}
use Rattle.expressions.specs.declared.expression.Civil.{Civil}
use Rattle.expressions.specs.CivilSeconds.{IsCivilSecond, civil_second, two_digits}

-- a text as a line
abbrev pub line : List ℕ → List ℕ
line text = text ++ 10 ∷ []

-- a civil second, read in UTC: yyyy-mm-ddThh:mm:ssZ
abbrev pub utc_text : Civil → List ℕ
utc_text c =
    two_digits (c.year / 100) ++ two_digits c.year ++ codes "-" ++ two_digits c.month ++ codes "-" ++ two_digits c.day
    ++ codes "T" ++ two_digits c.hour ++ codes ":" ++ two_digits c.minute ++ codes ":" ++ two_digits c.second ++ codes "Z"

-- the line of an instant: of the one civil second that comes so many seconds after 1970-01-01T00:00:00
pub record IsInstantLine (instant : ℕ) (text : List ℕ) : Type 0 where
  pub civil : Civil
  pub real : IsCivilSecond civil
  pub same : civil_second civil ≡ instant
  pub told : text ≡ line (utc_text civil)

-- the lines of instants, one behind the other
abbrev pub AreInstantLines : List ℕ → List ℕ → Type 0
AreInstantLines [] text = text ≡ []
AreInstantLines (instant ∷ more) text =
    (first : List ℕ) × (rest : List ℕ) × IsInstantLine instant first × AreInstantLines more rest × (text ≡ first ++ rest)
