-- When a content acts: within the span that its dates leave, at the instants of its expression; and that this is when
-- an item with it occurs.
use Rattle.std.proofs.Common.{◌≡◌, ℕ, ◌≤◌, nat_le, Bool, true, false, ◌&&◌, Option, Some, None, List, refl, sym, ap, ◌∙◌, arith}
use Rattle.std.proofs.lemmas.Bool.{le-leb, leb-true, and_parts, and_from}
use Rattle.expressions.specs.declared.expression.Expr.{Expr}
use Rattle.expressions.specs.declared.expression.Expr.TheVariants.{At, Rate, Cron}
use Rattle.plain_words.specs.Moments.{last_moment}
use Rattle.plain_words.specs.Lists.{some_pass}
use Rattle.plain_words.proofs.Booleans.{and_first, and_false, by_bool}
use Rattle.sched_plain.specs.declared.schedule.Schedule.{Schedule}
use Rattle.sched_plain.specs.Items.{opened}
use Rattle.sched_plain.specs.Occurrences.{is_within_dates, occurs}
use Rattle.zone_occ.specs.ZoneText.{ZoneText}
use Rattle.zone_occ.specs.Instants.{is_instant}
use Rattle.zone_occ.specs.FirstInstants.{IsInstant}
use Rattle.zone_occ.specs.ZoneCalendar.{zone_calendar, zone_under}
use Rattle.next_dates.specs.Dates.{IsLeast, from_on}
use Rattle.schedule_clock.specs.Acting.{anchor_of, acts}

-- an instant is a moment
pub in_time : (expr : Expr) (zone : ZoneText) (anchor i : ℕ) → is_instant expr zone anchor i ≡ true → i ≤ last_moment
unfolding is_instant
in_time (At civil) zone anchor i test = leb-true i last_moment (and_first _ _ test)
in_time (Rate count unit) zone anchor i test = leb-true i last_moment (and_first _ _ test)
in_time (Cron sets) zone anchor i test = leb-true i last_moment (and_first _ _ test)

-- ---- the occurrences of an item

-- of five tests, two of which hold where the first and the last do
two_less : (from enabled first last dated instant : Bool) → (from ≡ true → first ≡ true) → (instant ≡ true → last ≡ true)
    → (from && (enabled && first && last && dated && instant)) ≡ (from && (enabled && (dated && instant)))
two_less false enabled first last dated instant begun known = refl
two_less true false first last dated instant begun known = refl
two_less true true false last dated instant begun known = absurd (let no : false ≡ true = begun refl in cc)
two_less true true true true dated instant begun known = refl
two_less true true true false dated true begun known = absurd (let no : false ≡ true = known refl in cc)
two_less true true true false dated false begun known = sym (and_false dated)

pub occurs_acts : (content : Schedule) (bytes : Option (List ℕ)) (zone : ZoneText) (created first from i : ℕ) → zone_under bytes ≡ Some zone → first ≤ from
    → from_on from (occurs zone_calendar (opened bytes created first content)) i ≡ from_on from (acts content zone created) i
occurs_acts content bytes zone created first from i is begun =
    let instant = is_instant content.expr zone (anchor_of content created) i in
    ap (λ (b : Bool). nat_le from i && (content.enabled && nat_le first i && nat_le i last_moment && is_within_dates content.expr content i && b))
    (ap (some_pass (λ z. is_instant content.expr z (anchor_of content created) i)) is)
    ∙ two_less (nat_le from i) content.enabled (nat_le first i) (nat_le i last_moment) (is_within_dates content.expr content i) instant
    (λ late. le-leb first i (let after : from ≤ i = leb-true from i late in omega arith))
    (λ test. le-leb i last_moment (in_time content.expr zone (anchor_of content created) i test))

-- the least number that passes a test passes another that agrees
pub least_as : (p q : ℕ → Bool) (o : Option ℕ) → ((i : ℕ) → p i ≡ q i) → IsLeast p o → IsLeast q o
least_as p q None same least = λ i. sym (same i) ∙ least i
least_as p q (Some u) same least = (sym (same u) ∙ least.0, λ i lt. sym (same i) ∙ least.1 i lt)

-- ---- the span that the dates leave

-- the moments from a to b are those of another span that the content's dates let through
abbrev pub AreDated : Schedule → ℕ → ℕ → ℕ → ℕ → Type 0
AreDated content from to a b = (i : ℕ) → (nat_le a i && nat_le i b) ≡ (nat_le from i && nat_le i to && is_within_dates content.expr content i)

-- an instant of the content's expression, within a span
pub record IsActing (content : Schedule) (zone : ZoneText) (created a b i : ℕ) : Type 0 where
  pub after : a ≤ i
  pub before : i ≤ b
  pub instant : IsInstant content.expr zone (anchor_of content created) i

three_tests : (from enabled dated instant : Bool) → (from && (enabled && (dated && instant))) ≡ true → (from ≡ true) × (dated ≡ true) × (instant ≡ true)
three_tests from enabled dated instant test =
    let outer = and_parts from (enabled && (dated && instant)) test in
    let inner = and_parts enabled (dated && instant) outer.1 in
    let last = and_parts dated instant inner.1 in
    (outer.0, last.0, last.1)

-- a content acts at moments
pub acts_in_time : (content : Schedule) (zone : ZoneText) (created from i : ℕ) → from_on from (acts content zone created) i ≡ true → i ≤ last_moment
acts_in_time content zone created from i test =
    let tests = three_tests (nat_le from i) content.enabled (is_within_dates content.expr content i) (is_instant content.expr zone (anchor_of content created) i) test in
    in_time content.expr zone (anchor_of content created) i tests.2

module _ (content : Schedule) (zone : ZoneText) (created from to a b : ℕ) (dated : AreDated content from to a b) where
  pub acting_at : (i : ℕ) → i ≤ to → from_on from (acts content zone created) i ≡ true → IsActing content zone created a b i
  acting_at i early test =
      let tests = three_tests (nat_le from i) content.enabled (is_within_dates content.expr content i) (is_instant content.expr zone (anchor_of content created) i) test in
      let both = and_from (nat_le from i) (nat_le i to) tests.0 (le-leb i to early) in
      let within = and_parts (nat_le a i) (nat_le i b) (dated i ∙ and_from (nat_le from i && nat_le i to) (is_within_dates content.expr content i) both tests.1) in
      record { after = leb-true a i within.0; before = leb-true i b within.1; instant = tests.2 }

  pub acts_at : content.enabled ≡ true → (i : ℕ) → IsActing content zone created a b i → from_on from (acts content zone created) i ≡ true
  acts_at enabled i acting =
      let within = and_from (nat_le a i) (nat_le i b) (le-leb a i acting.after) (le-leb i b acting.before) in
      let outer = and_parts (nat_le from i && nat_le i to) (is_within_dates content.expr content i) (sym (dated i) ∙ within) in
      let early = and_parts (nat_le from i) (nat_le i to) outer.0 in
      and_from (nat_le from i) (content.enabled && (is_within_dates content.expr content i && is_instant content.expr zone (anchor_of content created) i)) early.0
      (and_from content.enabled (is_within_dates content.expr content i && is_instant content.expr zone (anchor_of content created) i) enabled
      (and_from (is_within_dates content.expr content i) (is_instant content.expr zone (anchor_of content created) i) outer.1 acting.instant))

-- a disabled content never acts
pub never_acts : (content : Schedule) (zone : ZoneText) (created from : ℕ) → content.enabled ≡ false → (i : ℕ) → from_on from (acts content zone created) i ≡ false
never_acts content zone created from disabled i =
    ap (λ (b : Bool). nat_le from i && (b && (is_within_dates content.expr content i && is_instant content.expr zone (anchor_of content created) i))) disabled
    ∙ and_false (nat_le from i)

-- what is not so is false
pub not_so : (b : Bool) → (b ≡ true → ⊥) → b ≡ false
not_so b never = by_bool (λ x. x ≡ false) b (λ e. absurd (never e)) (λ e. refl)
