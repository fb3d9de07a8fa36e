-- The bytes of ASCII that definitions name.
use Rattle.std.specs.Prelude.{ℕ}

abbrev pub space : ℕ
space = 32

abbrev pub hash : ℕ
hash = 35

abbrev pub star : ℕ
star = 42

abbrev pub plus : ℕ
plus = 43

abbrev pub comma : ℕ
comma = 44

abbrev pub dash : ℕ
dash = 45

abbrev pub dot : ℕ
dot = 46

abbrev pub slash : ℕ
slash = 47

-- the digit 0, behind which the others stand in order
abbrev pub digit_zero : ℕ
digit_zero = 48

abbrev pub digit_nine : ℕ
digit_nine = 57

abbrev pub colon : ℕ
colon = 58

abbrev pub question_mark : ℕ
question_mark = 63

abbrev pub underscore : ℕ
underscore = 95
