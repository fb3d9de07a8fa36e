-- The first instant of a content is a date.
use Rattle.std.proofs.Common.{◌≡◌, ℕ, ◌≤◌, ◌<◌, true, Option, Some, None, refl, sym, ◌∙◌, arith, true≢false, le_refl}
use Rattle.std.specs.Prelude.{nat_lt, nat_le}
use Rattle.std.proofs.lemmas.Bool.Decides.{nat_tests}
use Rattle.plain_words.proofs.Booleans.{by_bool, and_second}
use Rattle.plain_words.specs.Moments.{last_moment}
use Rattle.sched_plain.specs.declared.schedule.Schedule.{Schedule}
use Rattle.sched_plain.specs.Items.{opened}
use Rattle.sched_plain.specs.Occurrences.{occurs}
use Rattle.zone_shelf.specs.Places.{Places}
use Rattle.date_table.specs.Dates.{IsDate, never}
use Rattle.next_dates.proofs.LastItems.{past_end}
use Rattle.book_parts.specs.Stands.{calendar}
use Rattle.book_writes.specs.Dating.{read_in, IsFirst}

-- the first instant of a content is no later than the last moment
pub first_is_date : (zones : Places) (content : Schedule) (created first : ℕ) (next : Option ℕ) → IsFirst zones content created first next → IsDate next
first_is_date zones content created first None is = tt
first_is_date zones content created first (Some date) is =
    let item = opened (read_in zones content.zone) created first content in
    let occurring : occurs calendar item date ≡ true = and_second (nat_le first date) (occurs calendar item date) (is first (le_refl first)).0 in
    by_bool (λ b. b ≡ nat_lt last_moment date → date < never) (nat_lt last_moment date)
    (λ past same. absurd (true≢false (sym occurring ∙ past_end calendar item date (grind (arith, nat_tests, past)))))
    (λ within same. let le : date ≤ last_moment = grind (arith, nat_tests, within) in omega (arith, le)) refl
