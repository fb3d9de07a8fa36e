-- The first moments of a span, as a search finds them.
use Rattle.std.proofs.Common.{◌≡◌, ◌⊎◌, ℕ, ◌+◌, ◌-◌, ◌<◌, ◌≤◌, Option, Some, None, IfSome, List, [], length, get_or, refl, ap, subst, inl, inr, arith}
use Rattle.std.proofs.lemmas.Bool.{cases_lt}
use Rattle.std.proofs.lemmas.List.Elements.{Contains-get_or}
use Rattle.std.proofs.lemmas.Option.{same_Some}
use Rattle.std.specs.List.{All, Contains}
use Rattle.expressions.specs.declared.expression.Civil.{Civil}
use Rattle.expressions.specs.declared.expression.CronSets.{CronSets}
use Rattle.plain_words.specs.Moments.{last_moment}
use Rattle.cron_search.specs.CivilTime.{civil_second}
use Rattle.cron_search.specs.Search.{IsFirstFit}
use Rattle.zone_occ.specs.ZoneText.{ZoneText}
use Rattle.zone_occ.specs.Scan.{IsStart}
use Rattle.zone_occ.specs.InstantFacts.{IsCronInstant}
use Rattle.zone_occ.specs.FirstInstants.{IsNext, IsBare, complete_to, AreFirsts}
use Rattle.zone_occ.specs.Window.{IsOffered}
use Rattle.zone_occ.proofs.EarliestInstant.{IsSeen, IsSought, IsPassed, found_at, sought, none_seen, seen_more, seen_all}
use Rattle.zone_occ.proofs.WindowLemmas.{place_at, complete_full, complete_rest}

-- what each element has, all have
pub all_from : (P : ℕ → Type 0) (xs : List ℕ) → ((x : ℕ) → Contains xs x → P x) → All P xs
all_from P xs each k d within = each (get_or xs k d) (Contains-get_or xs k d within)

pub all_at : (P : ℕ → Type 0) (xs : List ℕ) (x : ℕ) → All P xs → Contains xs x → P x
all_at P xs x all has = let found = place_at xs x has in subst P found.2 (all found.0 0 found.1)

-- moments up to the end are complete no farther
pub complete_within : (max to : ℕ) (xs : List ℕ) → 1 ≤ max → length xs ≤ max → All (λ m. m ≤ to) xs → complete_to max to xs ≤ to
complete_within max to xs low few high =
    elim (cases_lt (length xs) max) [
      | inl room ↦ omega (arith, complete_rest max to xs room)
      | inr full ↦ omega (arith, complete_full max to xs (omega arith), high (max - 1) 0 (omega arith))
    ]

pub complete_in_span : (Has : ℕ → Type 0) (from to max : ℕ) (xs : List ℕ) → 1 ≤ max → AreFirsts Has from to max xs → complete_to max to xs ≤ to
complete_in_span Has from to max xs low firsts = complete_within max to xs low firsts.few firsts.high

-- no moment is the first where there is none
pub firsts-none : (Has : ℕ → Type 0) (from to max : ℕ) → 1 ≤ max → IsBare Has from to → AreFirsts Has from to max []
firsts-none Has from to max low bare = record {
  rising = λ k within. absurd (omega arith);
  few = omega arith;
  low = λ k d within. absurd (omega arith);
  high = λ k d within. absurd (omega arith);
  each = λ x has. absurd (let within = has.1 in omega arith);
  all = λ x has late early. absurd (bare x has late (omega (arith, complete_rest max to [] (omega arith))));
}

-- the first of one property are the first of another that says the same as far as they are complete
pub firsts-as : (P Q : ℕ → Type 0) (from to max : ℕ) (xs : List ℕ) → AreFirsts P from to max xs → ((x : ℕ) → P x → Q x) → ((x : ℕ) → Q x → from ≤ x → x ≤ complete_to max to xs → P x) → AreFirsts Q from to max xs
firsts-as P Q from to max xs firsts there back = record {
  rising = firsts.rising;
  few = firsts.few;
  low = firsts.low;
  high = firsts.high;
  each = λ x has. there x (firsts.each x has);
  all = λ x has late early. firsts.all x (back x has late early) late early;
}

-- one more moment was found, in the span as far as the others were complete
pub record IsFound (Has : ℕ → Type 0) (from limit : ℕ) (look : Option ℕ) : Type 0 where
  pub has : (x : ℕ) → look ≡ Some x → Has x
  pub late : (x : ℕ) → look ≡ Some x → from ≤ x
  pub early : (x : ℕ) → look ≡ Some x → x ≤ limit

some_all : (P : ℕ → Type 0) (look : Option ℕ) → ((x : ℕ) → look ≡ Some x → P x) → IfSome look P
some_all P None all = tt
some_all P (Some x) all = all x refl

pub firsts-offer : (P Q : ℕ → Type 0) (from to max : ℕ) (xs ys : List ℕ) (look : Option ℕ) → 1 ≤ max → AreFirsts P from to max xs → IsOffered max xs look ys → IsFound Q from (complete_to max to xs) look → ((x : ℕ) → P x → Q x) → ((x : ℕ) → Q x → from ≤ x → x ≤ complete_to max to xs → P x ⊎ (look ≡ Some x)) → AreFirsts Q from to max ys
firsts-offer P Q from to max xs ys look low firsts offered found there back =
    let within = complete_within max to xs low firsts.few firsts.high in
    let bound : IfSome look (λ m. m ≤ to) = some_all (λ m. m ≤ to) look (λ x is. omega (arith, found.early x is)) in
    let sooner = offered.sooner to firsts.high bound in
    record {
      rising = offered.rising;
      few = offered.few;
      low = all_from (λ m. from ≤ m) ys (λ x has. elim (offered.from x has) [
        | inl old ↦ all_at (λ m. from ≤ m) xs x firsts.low old
        | inr new ↦ found.late x new
      ]);
      high = all_from (λ m. m ≤ to) ys (λ x has. elim (offered.from x has) [
        | inl old ↦ all_at (λ m. m ≤ to) xs x firsts.high old
        | inr new ↦ omega (arith, found.early x new)
      ]);
      each = λ x has. elim (offered.from x has) [
        | inl old ↦ there x (firsts.each x old)
        | inr new ↦ found.has x new
      ];
      all = λ x has late early. elim (back x has late (omega arith)) [
        | inl old ↦ offered.keeps to x (inl (firsts.all x old late (omega arith))) early
        | inr new ↦ offered.keeps to x (inr new) early
      ];
    }

-- ---- one search for each

-- an instant that comes before a start
pub record IsEarly (Has : ℕ → Type 0) (start moment : ℕ) : Type 0 where
  pub has : Has moment
  pub before : moment < start

-- the first ones before the start of the next search
pub record AreBefore (Has : ℕ → Type 0) (start from to max : ℕ) (moments : List ℕ) : Type 0 where
  pub later : from ≤ start
  pub firsts : AreFirsts (IsEarly Has start) from to max moments

pub before-more : (Has : ℕ → Type 0) (start from to max moment : ℕ) (xs ys : List ℕ) → 1 ≤ max → AreBefore Has start from to max xs → IsNext Has start moment → moment ≤ complete_to max to xs → IsOffered max xs (Some moment) ys → AreBefore Has (moment + 1) from to max ys
before-more Has start from to max moment xs ys low known next early offered =
    let later = known.later in
    let after = next.after in
    record {
      later = omega arith;
      firsts = firsts-offer (IsEarly Has start) (IsEarly Has (moment + 1)) from to max xs ys (Some moment) low known.firsts offered
          (record {
            has = λ x is. let same = same_Some moment x is in record { has = subst Has same next.has; before = omega arith };
            late = λ x is. let same = same_Some moment x is in omega arith;
            early = λ x is. let same = same_Some moment x is in omega arith;
          })
          (λ x was. record { has = was.has; before = let lt = was.before in omega arith })
          (λ x was late within. elim (cases_lt x start) [
            | inl lt ↦ inl (record { has = was.has; before = lt })
            | inr ge ↦ let same : moment ≡ x = omega (arith, was.before, next.least x was.has ge) in inr (ap (λ n. Some n) same)
          ]);
    }

-- ---- one scan of all minutes

pub seen-none : (sets : CronSets) (zone : ZoneText) (cursor : Civil) (from to max : ℕ) → 1 ≤ max → IsStart zone from cursor → AreFirsts (IsSeen sets zone cursor) from to max []
seen-none sets zone cursor from to max low start =
    firsts-none (IsSeen sets zone cursor) from to max low (λ x seen late high. none_seen sets zone cursor from x start seen late)

pub seen-more : (sets : CronSets) (zone : ZoneText) (cursor minute next : Civil) (from to max : ℕ) (xs ys : List ℕ) (look : Option ℕ) → 1 ≤ max → to ≤ last_moment → AreFirsts (IsSeen sets zone cursor) from to max xs → IsFirstFit sets cursor minute → civil_second next ≡ civil_second minute + 1 → IsSought zone minute from (complete_to max to xs) look → IsOffered max xs look ys → AreFirsts (IsSeen sets zone next) from to max ys
seen-more sets zone cursor minute next from to max xs ys look low end known first one_more seek offered =
    let limit : ℕ = complete_to max to xs in
    let bound = complete_in_span (IsSeen sets zone cursor) from to max xs low known in
    firsts-offer (IsSeen sets zone cursor) (IsSeen sets zone next) from to max xs ys look low known offered
    (record {
      has = λ x is. let at = found_at zone minute from limit x look seek is in record {
        in_time = omega (arith, at.2);
        minute = minute;
        fitting = first.found;
        before = omega arith;
        shown = at.0;
      };
      late = λ x is. (found_at zone minute from limit x look seek is).1;
      early = λ x is. (found_at zone minute from limit x look seek is).2;
    })
    (λ x was. record { in_time = was.in_time; minute = was.minute; fitting = was.fitting; before = let lt = was.before in let le = first.after in omega arith; shown = was.shown })
    (λ x was late early. elim (seen_more sets zone cursor minute next x first one_more was) [
      | inl before ↦ inl before
      | inr now ↦ inr (sought zone minute from limit x look seek now late early)
    ])

pub seen-all : (sets : CronSets) (zone : ZoneText) (cursor : Civil) (from to max : ℕ) (xs : List ℕ) → AreFirsts (IsSeen sets zone cursor) from to max xs → IsPassed sets zone cursor (complete_to max to xs) → AreFirsts (IsCronInstant sets zone) from to max xs
seen-all sets zone cursor from to max xs known passed =
    firsts-as (IsSeen sets zone cursor) (IsCronInstant sets zone) from to max xs known
    (λ x was. record { in_time = was.in_time; minute = was.minute; fitting = was.fitting; shown = was.shown })
    (λ x has late early. seen_all sets zone cursor (complete_to max to xs) x passed has early)
