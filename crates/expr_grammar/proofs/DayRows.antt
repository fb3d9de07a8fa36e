-- The rules of days are read back.
use Rattle.std.proofs.Common.{◌≡◌, ℕ, ◌≤◌, Bool, true, false, ◌++◌, refl, ap, arith, Option, Some, None}
use Rattle.std.specs.Prelude.{codes, decimal, ◌==◌, ◌&&◌}
use Rattle.std.specs.Fmt.{digits}
use Rattle.std.proofs.lemmas.Bool.{eqb-true, and_parts}
use Rattle.expressions.specs.Canonical.{all_pass}
use Rattle.expressions.specs.CronItems as cron
use Rattle.expressions.specs.CronItems.{row}
use Rattle.expr_grammar.proofs.RunLaws.{pass_at}

-- the item is the day from Monday to Friday closest to this day
abbrev is_near : ℕ → Option cron.Item → Bool
is_near n (Some (cron.near_weekday m)) = m == n
is_near n o = false

-- the item is the last such day of the week
abbrev is_last : ℕ → Option cron.Item → Bool
is_last n (Some (cron.last_of m)) = m == n
is_last n o = false

-- the item is this day of the week in this place
abbrev is_nth : ℕ → ℕ → Option cron.Item → Bool
is_nth n k (Some (cron.nth_of m j)) = (m == n) && (j == k)
is_nth n k o = false

near_found : (n : ℕ) (o : Option cron.Item) → is_near n o ≡ true → o ≡ Some (cron.near_weekday n)
near_found n None is = cc
near_found n (Some (cron.values from to by)) is = cc
near_found n (Some cron.no_rule) is = cc
near_found n (Some cron.last_day) is = cc
near_found n (Some cron.saturday) is = cc
near_found n (Some (cron.near_weekday m)) is = ap (λ x. Some (cron.near_weekday x)) (eqb-true m n is)
near_found n (Some (cron.last_of m)) is = cc
near_found n (Some (cron.nth_of m k)) is = cc

last_found : (n : ℕ) (o : Option cron.Item) → is_last n o ≡ true → o ≡ Some (cron.last_of n)
last_found n None is = cc
last_found n (Some (cron.values from to by)) is = cc
last_found n (Some cron.no_rule) is = cc
last_found n (Some cron.last_day) is = cc
last_found n (Some cron.saturday) is = cc
last_found n (Some (cron.near_weekday m)) is = cc
last_found n (Some (cron.last_of m)) is = ap (λ x. Some (cron.last_of x)) (eqb-true m n is)
last_found n (Some (cron.nth_of m k)) is = cc

nth_found : (n k : ℕ) (o : Option cron.Item) → is_nth n k o ≡ true → o ≡ Some (cron.nth_of n k)
nth_found n k None is = cc
nth_found n k (Some (cron.values from to by)) is = cc
nth_found n k (Some cron.no_rule) is = cc
nth_found n k (Some cron.last_day) is = cc
nth_found n k (Some cron.saturday) is = cc
nth_found n k (Some (cron.near_weekday m)) is = cc
nth_found n k (Some (cron.last_of m)) is = cc
nth_found n k (Some (cron.nth_of m j)) is =
    let both_same = and_parts (m == n) (j == k) is in
    let one : m ≡ n = eqb-true m n both_same.0 in
    let other : j ≡ k = eqb-true j k both_same.1 in
    λ t. Some (cron.nth_of (one t) (other t))

-- each day of a month, tried
all_near : all_pass (λ n. is_near n (row cron.day_of_month (decimal n ++ codes "W"))) 1 31 ≡ true
unfolding row digits
all_near = refl

all_last : all_pass (λ n. is_last n (row cron.day_of_week (decimal n ++ codes "L"))) 1 7 ≡ true
unfolding row digits
all_last = refl

all_nth : all_pass (λ n. all_pass (λ k. is_nth n k (row cron.day_of_week (decimal n ++ codes "#" ++ decimal k))) 1 5) 1 7 ≡ true
unfolding row digits
all_nth = refl

pub near_row_is : (n : ℕ) → 1 ≤ n → n ≤ 31 → row cron.day_of_month (decimal n ++ codes "W") ≡ Some (cron.near_weekday n)
near_row_is n low high =
    near_found n _ (pass_at (λ m. is_near m (row cron.day_of_month (decimal m ++ codes "W"))) 1 31 n all_near low (omega arith))

pub last_row_is : (n : ℕ) → 1 ≤ n → n ≤ 7 → row cron.day_of_week (decimal n ++ codes "L") ≡ Some (cron.last_of n)
last_row_is n low high =
    last_found n _ (pass_at (λ m. is_last m (row cron.day_of_week (decimal m ++ codes "L"))) 1 7 n all_last low (omega arith))

pub nth_row_is : (n k : ℕ) → 1 ≤ n → n ≤ 7 → 1 ≤ k → k ≤ 5 → row cron.day_of_week (decimal n ++ codes "#" ++ decimal k) ≡ Some (cron.nth_of n k)
nth_row_is n k low high few many =
    nth_found n k _ (pass_at (λ j. is_nth n j (row cron.day_of_week (decimal n ++ codes "#" ++ decimal j))) 1 5 k
    (pass_at (λ m. all_pass (λ j. is_nth m j (row cron.day_of_week (decimal m ++ codes "#" ++ decimal j))) 1 5) 1 7 n all_nth low (omega arith))
    few (omega arith))
