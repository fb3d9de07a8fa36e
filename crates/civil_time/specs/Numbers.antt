-- Civil seconds and their numbers of seconds.
use Rattle.std.specs.Prelude.{◌≡◌}
use Rattle.expressions.specs.declared.expression.Civil.{Civil}
use Rattle.expressions.specs.CivilSeconds.{IsCivilSecond, civil_second}

-- no two civil seconds have one number
abbrev pub HasOneOfEach : Type 0
HasOneOfEach = (a b : Civil) → IsCivilSecond a → IsCivilSecond b → civil_second a ≡ civil_second b → a ≡ b
