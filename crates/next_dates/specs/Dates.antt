-- When something comes, if it comes at all, and the least number that passes a test.
use Rattle.std.specs.Prelude.{◌≡◌, ℕ, ◌<◌, nat_le, Bool, true, false, ◌&&◌, Option, Some, None}
use Rattle.plain_words.specs.Lists.{when}
pub use Rattle.date_table.specs.Dates.{never, IsDate, has_come, date_at}

-- the date, where it has come by a moment
abbrev pub come_by : ℕ → Option ℕ → Option ℕ
come_by t None = None
come_by t (Some date) = when (nat_le date t) date

-- the least number that passes a test, or none where none passes
abbrev pub IsLeast : (ℕ → Bool) → Option ℕ → Type 0
IsLeast test None = (i : ℕ) → test i ≡ false
IsLeast test (Some least) = (test least ≡ true) × ((i : ℕ) → i < least → test i ≡ false)

-- the test, from a number on
abbrev pub from_on : ℕ → (ℕ → Bool) → ℕ → Bool
from_on from test i = nat_le from i && test i
