-- The number of an entry says from which moment on something is to be done for it.
use Rattle.std.proofs.Common.{◌≡◌, ℕ, zero, suc, ◌+◌, ◌≤◌, ◌<◌, Bool, true, false, ◌&&◌, ◌||◌, Option, Some, None, List, [], ◌∷◌, ◌++◌, map, length, take, drop, get_or, set, slice_index, refl, sym, ap, ap₂, ◌∙◌, subst, arith}
use Rattle.std.specs.Prelude.{nat_le, nat_lt, slice_set, is_some, is_none}
use Rattle.std.specs.List.{All}
use Rattle.std.proofs.lemmas.Bool.{ltb-true, ltb-false, leb-true, leb-false}
use Rattle.std.proofs.lemmas.List.{map-set, map-append, get_or-map, length-map, length-set}
use Rattle.min_tree.specs.Search.{least, IsFirstAtMost, AllAbove}
use Rattle.min_tree.proofs.LeastLemmas.{least_low, least_high}
use Rattle.sched_plain.specs.declared.entry.Entry.{Entry}
use Rattle.sched_plain.specs.declared.entry.Filed.{Filed}
use Rattle.sched_plain.specs.declared.entry.Last.{Last}
use Rattle.sched_plain.specs.declared.entry.Last.TheVariants as lasts
use Rattle.sched_plain.specs.declared.outcome.Outcome.{Outcome}
use Rattle.sched_plain.specs.Attempts.{is_live_last}
use Rattle.sched_plain.specs.Standing.{earliest, earliest_after, is_past_age, is_used_up}
use Rattle.policy_rules.specs.LastAttempt.{last_at}
use Rattle.policy_rules.specs.declared.standings.TheConstants.{LAST_CHOSEN}
use Rattle.ledger_rows.specs.declared.question.Question.TheVariants as questions
use Rattle.entry_lines.specs.Rows.{Row}
use Rattle.ledger_rows.specs.declared.wants.TheConstants.{IN_AIR, LAST_BOUND}
use Rattle.ledger_rows.specs.Numbers.{bound_at, lane_number, numbers_of, wants, wants_at}
use Rattle.ledger_rows.specs.Rows.{IsLane, IsSmallRow, filed_at, filed_in_row, is_open_row}
use Rattle.ledger_rows.specs.Wanting.{answers, asks, is_to_do, IsFirstIn}
use Rattle.ledger_rows.proofs.ListSteps.{mapped_step}
use Rattle.ledger_rows.proofs.Lookups.{IsEven, lane_set, each_looked, found_here, first_here}
use Rattle.ledger_rows.proofs.StandingLemmas.{stands_by}

-- what is asked of an entry, by the tests of its standing
abbrev asked : Bool → Option Outcome → Bool → Bool → Bool → Bool → Bool → ℕ → Bool
asked come outcome live used past next waits until = come && is_to_do (stands_by outcome live used (past || next) waits until)

-- the tests at a moment, and at moment 0
record Tests (chosen age until now : ℕ) (come past next waits none first : Bool) : Type 0 where
  come_is : nat_le chosen now ≡ come
  past_is : nat_lt (chosen + age) now ≡ past
  next_is : nat_lt (chosen + age) until ≡ next
  waits_is : nat_lt now until ≡ waits
  none_is : nat_lt (chosen + age) 0 ≡ none
  first_is : nat_lt 0 until ≡ first

none_past : (chosen age : ℕ) → nat_lt (chosen + age) 0 ≡ true → ⊥
none_past chosen age e = omega (arith, ltb-true (chosen + age) 0 e)

later_by : (outcome : Option Outcome) (live used come past next waits none first : Bool) (chosen age until now : ℕ)
    → chosen ≤ LAST_BOUND → until ≤ LAST_BOUND → Tests chosen age until now come past next waits none first
    → bound_at now < wants_at (stands_by outcome live used (none || next) first until) chosen
    → asked come outcome live used past next waits until ≡ false
later_by outcome live used false past next waits none first chosen age until now a b t lt = refl
later_by (Some o) live used true past next waits none first chosen age until now a b t lt = refl
later_by None true used true past next waits none first chosen age until now a b t lt = refl
later_by None false true true past next waits none first chosen age until now a b t lt =
    absurd (omega (arith, lt, a, leb-true chosen now t.come_is))
later_by None false false true past next waits true first chosen age until now a b t lt = absurd (none_past chosen age t.none_is)
later_by None false false true past true waits false first chosen age until now a b t lt =
    absurd (omega (arith, lt, a, leb-true chosen now t.come_is))
later_by None false false true true false waits false true chosen age until now a b t lt =
    absurd (omega (arith, lt, a, b, ltb-true (chosen + age) now t.past_is, ltb-false (chosen + age) until t.next_is))
later_by None false false true true false waits false false chosen age until now a b t lt =
    absurd (omega (arith, lt, a, leb-true chosen now t.come_is))
later_by None false false true false false true false first chosen age until now a b t lt = refl
later_by None false false true false false false false true chosen age until now a b t lt =
    absurd (omega (arith, lt, a, b, leb-true chosen now t.come_is, ltb-false now until t.waits_is))
later_by None false false true false false false false false chosen age until now a b t lt =
    absurd (omega (arith, lt, a, leb-true chosen now t.come_is))

now_by : (outcome : Option Outcome) (live used come past next waits none first : Bool) (chosen age until now : ℕ)
    → Tests chosen age until now come past next waits none first
    → wants_at (stands_by outcome live used (none || next) first until) chosen ≤ bound_at now
    → asked come outcome live used past next waits until ≡ true
now_by (Some o) live used come past next waits none first chosen age until now t le = absurd (omega (arith, le))
now_by None true used come past next waits none first chosen age until now t le = absurd (omega (arith, le))
now_by None false true true past next waits none first chosen age until now t le = refl
now_by None false true false past next waits none first chosen age until now t le = absurd (omega (arith, le, leb-false chosen now t.come_is))
now_by None false false come past next waits true first chosen age until now t le = absurd (none_past chosen age t.none_is)
now_by None false false true true next waits false first chosen age until now t le = refl
now_by None false false true false true waits false first chosen age until now t le = refl
now_by None false false true false false false false first chosen age until now t le = refl
now_by None false false true false false true false true chosen age until now t le = absurd (omega (arith, le, ltb-true now until t.waits_is))
now_by None false false true false false true false false chosen age until now t le =
    absurd (omega (arith, ltb-true now until t.waits_is, ltb-false 0 until t.first_is))
now_by None false false false past true waits false first chosen age until now t le = absurd (omega (arith, le, leb-false chosen now t.come_is))
now_by None false false false past false waits false true chosen age until now t le = absurd (omega (arith, le, leb-false chosen now t.come_is))
now_by None false false false past false waits false false chosen age until now t le = absurd (omega (arith, le, leb-false chosen now t.come_is))

tests_of : (f : Filed) (now : ℕ) → Tests f.entry.chosen f.policy.age (earliest f.entry) now (nat_le f.entry.chosen now) (nat_lt (f.entry.chosen + f.policy.age) now)
    (nat_lt (f.entry.chosen + f.policy.age) (earliest f.entry)) (nat_lt now (earliest f.entry)) (nat_lt (f.entry.chosen + f.policy.age) 0) (nat_lt 0 (earliest f.entry))
tests_of f now = record { come_is = refl; past_is = refl; next_is = refl; waits_is = refl; none_is = refl; first_is = refl }

early : (entry : Entry) (last : Last) → entry.chosen ≤ LAST_CHOSEN → last_at last ≤ LAST_CHOSEN → earliest_after entry last ≤ LAST_BOUND
early entry lasts.NoAttempt a b = omega (arith, a)
early entry (lasts.Live at) a b = omega (arith, b)
early entry (lasts.Lost at) a b = omega (arith, b)
early entry (lasts.Ended at) a b = omega (arith, b)

-- nothing is to be done for an entry yet
pub acts_later : (row : Row) (now : ℕ) → IsSmallRow row → bound_at now < wants row.filed → asks (questions.ToAct now) row.filed ≡ false
unfolding wants
acts_later row now small lt =
    let f = row.filed in
    later_by f.entry.outcome (is_live_last f.entry.last) (is_used_up f.entry f.policy) (nat_le f.entry.chosen now) (nat_lt (f.entry.chosen + f.policy.age) now)
    (nat_lt (f.entry.chosen + f.policy.age) (earliest f.entry)) (nat_lt now (earliest f.entry)) (nat_lt (f.entry.chosen + f.policy.age) 0) (nat_lt 0 (earliest f.entry))
    f.entry.chosen f.policy.age (earliest f.entry) now (omega (arith, small.chosen)) (early f.entry f.entry.last small.chosen small.last) (tests_of f now) lt

-- something is
pub acts_now : (row : Row) (now : ℕ) → wants row.filed ≤ bound_at now → asks (questions.ToAct now) row.filed ≡ true
unfolding wants
acts_now row now le =
    let f = row.filed in
    now_by f.entry.outcome (is_live_last f.entry.last) (is_used_up f.entry f.policy) (nat_le f.entry.chosen now) (nat_lt (f.entry.chosen + f.policy.age) now)
    (nat_lt (f.entry.chosen + f.policy.age) (earliest f.entry)) (nat_lt now (earliest f.entry)) (nat_lt (f.entry.chosen + f.policy.age) 0) (nat_lt 0 (earliest f.entry))
    f.entry.chosen f.policy.age (earliest f.entry) now (tests_of f now) le

-- the number at a place is that of the entry there
pub number_at : (rows : List Row) (j : ℕ) (d : Row) → j < length rows → slice_index (numbers_of rows) j ≡ wants (get_or rows j d).filed
number_at rows j d lt = get_or-map {X = Row} (λ row. wants row.filed) rows j d 0 lt

later_at : (rows : List Row) (now j : ℕ) (d : Row) → All IsSmallRow rows → j < length rows → bound_at now < slice_index (numbers_of rows) j
    → asks (questions.ToAct now) (get_or rows j d).filed ≡ false
later_at rows now j d small within lt =
    acts_later (get_or rows j d) now (small j d within) (let e = number_at rows j d within in omega (arith, e, lt))

-- where the least number is not reached, nothing is to be done for any entry
pub none_due : (rows : List Row) (now k : ℕ) → All IsSmallRow rows → bound_at now < lane_number rows → answers (questions.ToAct now) (filed_at rows k) ≡ false
none_due rows now k small lt = each_looked (asks (questions.ToAct now)) rows k (λ j d within same.
    let long : length (numbers_of rows) ≡ length rows = length-map {A = Row} rows (λ row. wants row.filed) in
    later_at rows now j d small within (let low = least_low (numbers_of rows) j (omega (arith, within, long)) in omega (arith, low, lt)))

pub above_least : (rows : List Row) (numbers : List ℕ) (now : ℕ) → numbers ≡ numbers_of rows → AllAbove numbers 0 (length numbers) (bound_at now) → bound_at now < lane_number rows
above_least rows numbers now same above =
    let high = least_high numbers (bound_at now + 1) (omega arith) (λ j lt. let a = above j (omega arith) lt in omega (arith, a)) in
    let equal : least numbers ≡ lane_number rows = ap least same in
    omega (arith, high, equal)

-- the first number that is reached is of the first entry for which something is to be done
pub due_first : (rows : List Row) (numbers : List ℕ) (now i : ℕ) (row : Row) → IsLane rows → numbers ≡ numbers_of rows → IsFirstAtMost numbers 0 (bound_at now) i
    → row ≡ get_or rows i row → IsFirstIn (λ k. answers (questions.ToAct now) (filed_at rows k)) (Some row.instant)
due_first rows numbers now i row lane same first there =
    let at : IsFirstAtMost (numbers_of rows) 0 (bound_at now) i = subst (λ (l : List ℕ). IsFirstAtMost l 0 (bound_at now) i) same first in
    let long : length (numbers_of rows) ≡ length rows = length-map {A = Row} rows (λ row. wants row.filed) in
    let within : i < length rows = omega (arith, at.in_range, long) in
    let reached : wants row.filed ≤ bound_at now =
    let e = number_at rows i row within in let f : wants (get_or rows i row).filed ≡ wants row.filed = ap (λ (r : Row). wants r.filed) (sym there) in omega (arith, e, f, at.low) in
    let found = found_here rows i row lane.rising within there in (
      subst (λ (o : Option Row). answers (questions.ToAct now) (filed_in_row o) ≡ true) (sym found) (acts_now row now reached),
      first_here (asks (questions.ToAct now)) rows i row lane.rising within there
          (λ j d lt. later_at rows now j d lane.small (omega (arith, lt, within)) (at.before j (omega arith) lt)),
    )

-- the numbers after a change of one entry
pub numbers_set : (rows : List Row) (p n : ℕ) (new : Row) (before after : List ℕ) → before ≡ numbers_of rows → after ≡ slice_set before p n → n ≡ wants new.filed
    → after ≡ numbers_of (set rows p new)
numbers_set rows p n new before after was is value =
    is ∙ ap₂ (λ (l : List ℕ) (m : ℕ). set l p m) was value ∙ sym (map-set {A = Row} (λ row. wants row.filed) rows p new)

-- the numbers with that of one more entry
pub numbers_push : (rows new : List Row) (row : Row) (n : ℕ) (before after : List ℕ) → before ≡ numbers_of rows → after ≡ before ++ n ∷ [] → n ≡ wants row.filed → new ≡ rows ++ row ∷ []
    → after ≡ numbers_of new
numbers_push rows new row n before after was is value pushed =
    is ∙ ap₂ (λ (l : List ℕ) (m : ℕ). l ++ m ∷ []) was value ∙ sym (map-append {A = Row} (λ row. wants row.filed) rows (row ∷ [])) ∙ ap numbers_of (sym pushed)

-- the entries so far are changed, the others are as they were, and the numbers are theirs
pub record Mapped (f : Row → Row) (initial rows : List Row) (numbers : List ℕ) (at : ℕ) : Type 0 where
  pub lane : IsLane rows
  pub long : length rows ≡ length initial
  pub are : rows ≡ map f (take at initial) ++ drop at initial
  pub numbers_are : numbers ≡ numbers_of rows

pub small_mapped : (f : Row → Row) (rows : List Row) (i : ℕ) (old new : Row) → IsEven f → IsLane rows → i < length rows → old ≡ get_or rows i old → new ≡ f old → IsSmallRow new
small_mapped f rows i old new even lane lt there is =
    subst IsSmallRow (sym is) (even.small old (subst IsSmallRow (sym there) (lane.small i old lt)))

pub mapping_step : (f : Row → Row) (initial rows : List Row) (before after : List ℕ) (i n : ℕ) (old new : Row) → IsEven f → Mapped f initial rows before i → i < length initial
    → old ≡ get_or rows i old → new ≡ f old → after ≡ slice_set before i n → n ≡ wants new.filed → Mapped f initial (set rows i new) after (i + 1)
mapping_step f initial rows before after i n old new even m lt there is noted value = record {
  lane = lane_set rows i old new m.lane (ap {A = Row} (λ r. r.instant) is ∙ even.instant old ∙ ap {A = Row} (λ r. r.instant) there)
      (small_mapped f rows i old new even m.lane (omega (arith, lt, m.long)) there is);
  long = length-set rows i new ∙ m.long;
  are = mapped_step f old initial rows i new lt m.are (is ∙ ap f there);
  numbers_are = numbers_set rows i n new before after m.numbers_are noted value;
}

pub mapping_begins : (f : Row → Row) (rows : List Row) (numbers : List ℕ) → IsLane rows → numbers ≡ numbers_of rows → Mapped f rows rows numbers 0
mapping_begins f rows numbers lane are = record { lane = lane; long = refl; are = refl; numbers_are = are }

pub mapping_ends : {A : Type 0} (f : A → A) (xs : List A) (i : ℕ) → length xs ≤ i → map f (take i xs) ++ drop i xs ≡ map f xs
mapping_ends f [] zero le = refl
mapping_ends f [] (suc i) le = refl
mapping_ends f (x ∷ xs) zero le = absurd (omega (arith, le))
mapping_ends f (x ∷ xs) (suc i) le = ap (λ ys. f x ∷ ys) (mapping_ends f xs i (omega (arith, le)))

open_low : (outcome : Option Outcome) (live used past waits : Bool) (chosen until : ℕ) → chosen ≤ LAST_BOUND → until ≤ LAST_BOUND
    → IN_AIR < wants_at (stands_by outcome live used past waits until) chosen → is_some outcome ≡ true
open_low (Some o) live used past waits chosen until a b lt = refl
open_low None true used past waits chosen until a b lt = absurd (omega (arith, lt))
open_low None false true past waits chosen until a b lt = absurd (omega (arith, lt, a))
open_low None false false true waits chosen until a b lt = absurd (omega (arith, lt, a))
open_low None false false false true chosen until a b lt = absurd (omega (arith, lt, a, b))
open_low None false false false false chosen until a b lt = absurd (omega (arith, lt, a))

-- an entry whose number is above that of one in the air is decided
pub decided_above : (row : Row) → IsSmallRow row → IN_AIR < wants row.filed → is_some row.filed.entry.outcome ≡ true
unfolding wants
decided_above row small lt =
    let f = row.filed in
    open_low f.entry.outcome (is_live_last f.entry.last) (is_used_up f.entry f.policy) (is_past_age f.entry f.policy 0) (nat_lt 0 (earliest f.entry)) f.entry.chosen (earliest f.entry)
    (omega (arith, small.chosen)) (early f.entry f.entry.last small.chosen small.last) lt

low_open : (outcome : Option Outcome) (live used past waits : Bool) (chosen until : ℕ) → wants_at (stands_by outcome live used past waits until) chosen ≤ IN_AIR → is_none outcome ≡ true
low_open (Some o) live used past waits chosen until le = absurd (omega (arith, le))
low_open None live used past waits chosen until le = refl

-- any other is not
pub open_below : (row : Row) → wants row.filed ≤ IN_AIR → is_open_row row ≡ true
unfolding wants
open_below row le =
    let f = row.filed in
    low_open f.entry.outcome (is_live_last f.entry.last) (is_used_up f.entry f.policy) (is_past_age f.entry f.policy 0) (nat_lt 0 (earliest f.entry)) f.entry.chosen (earliest f.entry) le
