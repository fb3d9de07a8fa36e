-- Moments: whole seconds since 1970-01-01T00:00:00Z.
use Rattle.std.specs.Prelude.{ℕ}
use Rattle.plain_words.specs.declared.moment.Moment.{Moment}
use Rattle.plain_words.specs.declared.limits.TheConstants.{LAST_MOMENT}

-- the last moment that there is, 2199-12-31T23:59:59Z
abbrev pub last_moment : ℕ
last_moment = LAST_MOMENT

-- the moment so many seconds after 1970
abbrev pub moment_of : ℕ → Moment
moment_of n = record { 0 = n }
