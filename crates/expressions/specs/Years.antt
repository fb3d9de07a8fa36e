-- The years of civil time.
use Rattle.std.specs.Prelude.{ℕ}

-- the first year that there is
abbrev pub first_year : ℕ
first_year = 1970

-- the last year that there is
abbrev pub last_year : ℕ
last_year = 2199

-- the first year of the upper half of a set of years: each half has 128
abbrev pub upper_year : ℕ
upper_year = 2098
