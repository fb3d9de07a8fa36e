-- The scan of a cron's minutes for the earliest instant: what is known when the minutes before a cursor were seen.
use Rattle.std.proofs.Common.{◌≡◌, ◌⊎◌, ℕ, min, ◌+◌, ◌<◌, ◌≤◌, pos, Option, Some, None, IfSome, IfNone, sym, ap, ◌∙◌, subst, inl, inr, arith}
use Rattle.std.specs.Prelude.{unwrap_or}
use Rattle.std.proofs.lemmas.Bool.{cases_lt}
use Rattle.std.proofs.lemmas.Option.{same_Some, MatchOption-at_some}
use Rattle.std.specs.Bool.{⊤}
use Rattle.jiff_core.proofs.SignedLemmas.{signed_arith}
use Rattle.jiff_core.proofs.CalendarLemmas.{days_in_month_bounds}
use Rattle.expressions.specs.declared.expression.Civil.{Civil}
use Rattle.expressions.specs.declared.expression.CronSets.{CronSets}
use Rattle.plain_words.specs.Moments.{last_moment}
use Rattle.cron_search.specs.CivilTime.{IsCivilSecond, civil_second}
use Rattle.cron_search.specs.Search.{IsFittingMinute, IsFirstFit, IsNoLater}
use Rattle.cron_search.proofs.InTime.{second_key-le}
use Rattle.zone_occ.specs.ZoneText.{ZoneText}
use Rattle.zone_occ.specs.Sides.{sides}
use Rattle.zone_occ.specs.Conversion.{conv, instant_by}
use Rattle.zone_occ.specs.Scan.{IsStart}
use Rattle.zone_occ.specs.InstantFacts.{IsCronInstant}
use Rattle.zone_occ.specs.FirstInstants.{IsNext, HasNoNext, earlier}

-- a moment of a cron whose minute comes before a civil second, on the clock on the wall
pub record IsSeen (sets : CronSets) (zone : ZoneText) (cursor : Civil) (moment : ℕ) : Type 0 where
  pub in_time : moment ≤ last_moment
  pub minute : Civil
  pub fitting : IsFittingMinute sets minute
  pub before : civil_second minute < civil_second cursor
  pub shown : conv zone minute ≡ Some (pos moment)

-- a moment that there may be is no later than another
abbrev pub IsAtMost : Option ℕ → ℕ → Type 0
IsAtMost None moment = ⊥
IsAtMost (Some earliest) moment = earliest ≤ moment

-- two real civil seconds with one number are of one year
same_year : (a b : Civil) → IsCivilSecond a → IsCivilSecond b → civil_second a ≡ civil_second b → a.year ≡ b.year
same_year a b one two same =
    let up = second_key-le a b one two (omega arith) in
    let down = second_key-le b a two one (omega arith) in
    let short = days_in_month_bounds (pos a.year) a.month in
    let short_too = days_in_month_bounds (pos b.year) b.month in
    omega (arith, one.date.month_high, one.date.day_high, one.hour, one.minute, one.second, two.date.month_high, two.date.day_high, two.hour, two.minute, two.second)

-- and have one instant
pub same_instant : (zone : ZoneText) (a b : Civil) → IsCivilSecond a → IsCivilSecond b → civil_second a ≡ civil_second b → conv zone a ≡ conv zone b
same_instant zone a b one two same =
    ap (λ y. instant_by (pos (civil_second a)) (sides zone (pos y) (pos (civil_second a)))) (same_year a b one two same)
    ∙ ap (λ s. instant_by (pos s) (sides zone (pos b.year) (pos s))) same

-- what was seen once the scan has passed one more minute: it was seen before, or is that minute's instant
pub seen_more : (sets : CronSets) (zone : ZoneText) (cursor minute next : Civil) (moment : ℕ) → IsFirstFit sets cursor minute → civil_second next ≡ civil_second minute + 1 → IsSeen sets zone next moment → IsSeen sets zone cursor moment ⊎ (conv zone minute ≡ Some (pos moment))
seen_more sets zone cursor minute next moment first one_more seen =
    elim (cases_lt (civil_second seen.minute) (civil_second cursor)) [
      | inl lt ↦ inl (record { in_time = seen.in_time; minute = seen.minute; fitting = seen.fitting; before = lt; shown = seen.shown })
      | inr ge ↦
          let least = first.least seen.minute seen.fitting ge in
          let same : civil_second minute ≡ civil_second seen.minute = omega (arith, seen.before) in
          inr (same_instant zone minute seen.minute first.found.real seen.fitting.real same ∙ seen.shown)
    ]

-- the minutes before a start have no instant from its moment on
pub none_seen : (sets : CronSets) (zone : ZoneText) (cursor : Civil) (from moment : ℕ) → IsStart zone from cursor → IsSeen sets zone cursor moment → from ≤ moment → ⊥
none_seen sets zone cursor from moment start seen late =
    omega (arith, seen.before, start seen.minute moment seen.fitting.real seen.shown late)

-- what is known when the minutes before the cursor were seen: the earliest of their instants from `from` on
pub record IsEarliest (sets : CronSets) (zone : ZoneText) (from : ℕ) (cursor : Civil) (earliest : Option ℕ) : Type 0 where
  pub real : IsCivilSecond cursor
  pub has : IfSome earliest (λ moment. IsCronInstant sets zone moment × (from ≤ moment))
  pub least : (moment : ℕ) → IsSeen sets zone cursor moment → from ≤ moment → IsAtMost earliest moment

-- nothing was seen
pub begins : (sets : CronSets) (zone : ZoneText) (from : ℕ) (cursor : Civil) → IsCivilSecond cursor → IsStart zone from cursor → IsEarliest sets zone from cursor None
begins sets zone from cursor real start = record {
  real = real;
  has = tt;
  least = λ moment seen late. none_seen sets zone cursor from moment start seen late;
}

-- the instant of a minute that is looked at, where it has one in a span
pub record IsSought (zone : ZoneText) (minute : Civil) (from to : ℕ) (look : Option ℕ) : Type 0 where
  pub found : IfSome look (λ i. (conv zone minute ≡ Some (pos i)) × (from ≤ i) × (i ≤ to))
  pub none : IfNone look ((i : ℕ) → conv zone minute ≡ Some (pos i) → from ≤ i → i ≤ to → ⊥)

pub sought : (zone : ZoneText) (minute : Civil) (from to x : ℕ) (look : Option ℕ) → IsSought zone minute from to look → conv zone minute ≡ Some (pos x) → from ≤ x → x ≤ to → look ≡ Some x
sought zone minute from to x None look shown late early = absurd (look.none x shown late early)
sought zone minute from to x (Some i) look shown late early =
    let same : Some (pos i) ≡ Some (pos x) = sym look.found.0 ∙ shown in
    let number = same_Some (pos i) (pos x) same in
    let equal : i ≡ x = omega (arith, signed_arith) in
    ap (λ n. Some n) equal

pub found_at : (zone : ZoneText) (minute : Civil) (from to x : ℕ) (look : Option ℕ) → IsSought zone minute from to look → look ≡ Some x → (conv zone minute ≡ Some (pos x)) × (from ≤ x) × (x ≤ to)
found_at zone minute from to x look sought is =
    MatchOption-at_some ⊤ (λ i. (conv zone minute ≡ Some (pos i)) × (from ≤ i) × (i ≤ to)) x is sought.found

-- the earlier of two is there where the one is, and where the other is
earlier-first : (a b : Option ℕ) (moment : ℕ) → IsAtMost a moment → IsAtMost (earlier a b) moment
earlier-first None b moment le = absurd le
earlier-first (Some x) None moment le = le
earlier-first (Some x) (Some y) moment le = omega arith

earlier-second : (a b : Option ℕ) (moment : ℕ) → IsAtMost b moment → IsAtMost (earlier a b) moment
earlier-second None b moment le = le
earlier-second (Some x) None moment le = absurd le
earlier-second (Some x) (Some y) moment le = omega arith

-- and has what both have
earlier-has : (a b : Option ℕ) (P : ℕ → Type 0) → IfSome a P → IfSome b P → IfSome (earlier a b) P
earlier-has None b P h k = k
earlier-has (Some x) None P h k = h
earlier-has (Some x) (Some y) P h k =
    elim (cases_lt x y) [
      | inl lt ↦ let same : x ≡ min x y = omega arith in subst P same h
      | inr ge ↦ let same : y ≡ min x y = omega arith in subst P same k
    ]

-- what is found at a fitting minute is an instant
look-has : (sets : CronSets) (zone : ZoneText) (minute : Civil) (from : ℕ) (look : Option ℕ) → IsFittingMinute sets minute → IsSought zone minute from last_moment look → IfSome look (λ moment. IsCronInstant sets zone moment × (from ≤ moment))
look-has sets zone minute from None fit seen = tt
look-has sets zone minute from (Some i) fit seen =
    (record { in_time = seen.found.2; minute = minute; fitting = fit; shown = seen.found.0 }, seen.found.1)

-- and no later one than the minute has
look-least : (zone : ZoneText) (minute : Civil) (from moment : ℕ) (look : Option ℕ) → IsSought zone minute from last_moment look → conv zone minute ≡ Some (pos moment) → from ≤ moment → moment ≤ last_moment → IsAtMost look moment
look-least zone minute from moment look seen shown late early =
    let found : look ≡ Some moment = sought zone minute from last_moment moment look seen shown late early in
    subst (λ o. IsAtMost o moment) (sym found) (omega arith)

-- one more minute was looked at
pub goes_on : (sets : CronSets) (zone : ZoneText) (from : ℕ) (cursor minute next : Civil) (earliest look : Option ℕ) → IsEarliest sets zone from cursor earliest → IsFirstFit sets cursor minute → IsCivilSecond next → civil_second next ≡ civil_second minute + 1 → IsSought zone minute from last_moment look → IsEarliest sets zone from next (earlier earliest look)
goes_on sets zone from cursor minute next earliest look known first real one_more seen = record {
  real = real;
  has = earlier-has earliest look (λ moment. IsCronInstant sets zone moment × (from ≤ moment)) known.has
      (look-has sets zone minute from look first.found seen);
  least = λ moment was late.
      elim (seen_more sets zone cursor minute next moment first one_more was) [
        | inl before ↦ earlier-first earliest look moment (known.least moment before late)
        | inr now ↦ earlier-second earliest look moment (look-least zone minute from moment look seen now late was.in_time)
      ];
}

-- no minute from the cursor on has an instant up to a limit
abbrev pub IsPassed : CronSets → ZoneText → Civil → ℕ → Type 0
IsPassed sets zone cursor limit =
    (e : Civil) (i : ℕ) → IsFittingMinute sets e → IsNoLater cursor e → conv zone e ≡ Some (pos i) → limit < i

-- so an instant up to the limit was seen
pub seen_all : (sets : CronSets) (zone : ZoneText) (cursor : Civil) (limit moment : ℕ) → IsPassed sets zone cursor limit → IsCronInstant sets zone moment → moment ≤ limit → IsSeen sets zone cursor moment
seen_all sets zone cursor limit moment passed fact le =
    elim (cases_lt (civil_second fact.minute) (civil_second cursor)) [
      | inl lt ↦ record { in_time = fact.in_time; minute = fact.minute; fitting = fact.fitting; before = lt; shown = fact.shown }
      | inr ge ↦ absurd (omega (arith, passed fact.minute moment fact.fitting ge fact.shown))
    ]

-- the earliest instant that was seen is the next one
pub ends-found : (sets : CronSets) (zone : ZoneText) (from : ℕ) (cursor : Civil) (earliest : Option ℕ) → IsEarliest sets zone from cursor earliest → IsPassed sets zone cursor (unwrap_or earliest last_moment) → IfSome earliest (IsNext (IsCronInstant sets zone) from)
ends-found sets zone from cursor None known passed = tt
ends-found sets zone from cursor (Some first) known passed = record {
  has = known.has.0;
  after = known.has.1;
  least = λ later fact late.
      elim (cases_lt later first) [
        | inl lt ↦ known.least later (seen_all sets zone cursor first later passed fact (omega arith)) late
        | inr ge ↦ ge
      ];
}

-- and where none was seen there is none
pub ends-none : (sets : CronSets) (zone : ZoneText) (from : ℕ) (cursor : Civil) (earliest : Option ℕ) → IsEarliest sets zone from cursor earliest → IsPassed sets zone cursor (unwrap_or earliest last_moment) → IfNone earliest (HasNoNext (IsCronInstant sets zone) from)
ends-none sets zone from cursor None known passed = λ later fact late.
    known.least later (seen_all sets zone cursor last_moment later passed fact fact.in_time) late
ends-none sets zone from cursor (Some first) known passed = tt
