-- Each number of seconds is that of one civil second.
use Rattle.std.proofs.Common.{◌≡◌, ℕ, pos, arith}
use Rattle.jiff_core.proofs.CalendarLemmas.{days_in_month_bounds}
use Rattle.expressions.specs.declared.expression.Civil.{Civil}
use Rattle.cron_search.proofs.InTime.{second_key-le}
use Rattle.civil_time.specs.Numbers.{HasOneOfEach}

same_parts : (y y' m m' d d' h h' n n' s s' : ℕ) → y ≡ y' → m ≡ m' → d ≡ d' → h ≡ h' → n ≡ n' → s ≡ s'
    → ◌≡◌ {A = Civil} (record { year = y; month = m; day = d; hour = h; minute = n; second = s }) (record { year = y'; month = m'; day = d'; hour = h'; minute = n'; second = s' })
same_parts y y' m m' d d' h h' n n' s s' e1 e2 e3 e4 e5 e6 = cc

-- civil seconds that are one in each part are one
same_civil : (a b : Civil) → a.year ≡ b.year → a.month ≡ b.month → a.day ≡ b.day → a.hour ≡ b.hour → a.minute ≡ b.minute → a.second ≡ b.second → a ≡ b
same_civil a b y m d h n s = same_parts a.year b.year a.month b.month a.day b.day a.hour b.hour a.minute b.minute a.second b.second y m d h n s

pub one_of_each : HasOneOfEach
one_of_each a b one two same =
    let up = second_key-le a b one two (omega arith) in
    let down = second_key-le b a two one (omega arith) in
    let short = days_in_month_bounds (pos a.year) a.month in
    let short_too = days_in_month_bounds (pos b.year) b.month in
    same_civil a b
    (omega (arith, one.date.month_high, one.date.day_high, one.hour, one.minute, one.second, two.date.month_high, two.date.day_high, two.hour, two.minute, two.second))
    (omega (arith, one.date.month_high, one.date.day_high, one.hour, one.minute, one.second, two.date.month_high, two.date.day_high, two.hour, two.minute, two.second))
    (omega (arith, one.date.month_high, one.date.day_high, one.hour, one.minute, one.second, two.date.month_high, two.date.day_high, two.hour, two.minute, two.second))
    (omega (arith, one.date.month_high, one.date.day_high, one.hour, one.minute, one.second, two.date.month_high, two.date.day_high, two.hour, two.minute, two.second))
    (omega (arith, one.date.month_high, one.date.day_high, one.hour, one.minute, one.second, two.date.month_high, two.date.day_high, two.hour, two.minute, two.second))
    (omega (arith, one.date.month_high, one.date.day_high, one.hour, one.minute, one.second, two.date.month_high, two.date.day_high, two.hour, two.minute, two.second))
