-- An incarnation is completable from the date on since when it is finished.
use Rattle.std.proofs.Common.{◌≡◌, ℕ, ◌+◌, ◌<◌, ◌≤◌, nat_le, nat_lt, Bool, true, false, not, cond, ◌&&◌, ◌||◌, Option, Some, None, is_none, List, [], ◌∷◌, length, filter, unwrap_or, refl, sym, ap, ap₂, ◌∙◌, subst, inl, inr, arith, zero-le}
use Rattle.std.specs.List.{list_any}
use Rattle.std.proofs.lemmas.Bool.{cases_lt, le-leb, lt-leb, lt-ltb, le-ltb, true≢false}
use Rattle.sched_plain.specs.declared.schedule.Schedule.{Schedule}
use Rattle.sched_plain.specs.declared.step.Pair.{Pair}
use Rattle.sched_plain.specs.History.{History, beginning, based, ◌upon◌}
use Rattle.plain_words.specs.Moments.{last_moment}
use Rattle.plain_words.specs.Lists.{head, last, some_pass, passing, any_passing, when}
use Rattle.sched_plain.specs.Changes.{changes_of}
use Rattle.sched_plain.specs.Rows.{rows_of, current}
use Rattle.sched_plain.specs.Items.{Item, items}
use Rattle.expressions.specs.Calendar.{Calendar}
use Rattle.sched_plain.specs.Occurrences.{occurs_in, has_later}
use Rattle.sched_plain.specs.Marks.{above_floor, unentered, cover}
use Rattle.sched_plain.specs.Ledger.{ledger_of}
use Rattle.sched_plain.specs.Entries.{entries, instants_of, filed, is_open, undecided}
use Rattle.sched_plain.specs.Seen.{seen}
use Rattle.sched_plain.specs.Work.{is_empty, has_open, is_finished}
use Rattle.sched_plain.specs.Legal.{IsLegal}
use Rattle.plain_words.proofs.Options.{some_same}
use Rattle.plain_words.proofs.ListLemmas.{filter_every}
use Rattle.plain_words.proofs.Booleans.{and_false}
use Rattle.book_laws.proofs.EntriesExact.{caught}
use Rattle.next_dates.specs.Dates.{has_come, come_by, IsLeast, from_on}
use Rattle.next_dates.specs.NextInstants.{next_instant}
use Rattle.work_order.specs.Finished.{finished_with}
use Rattle.work_order.specs.DateLaws.{Completes, FinishedInTime}
use Rattle.work_order.proofs.Greatest.{any_found, none_found, IsGreatest, last_greatest}
use Rattle.next_dates.proofs.LastItems.{past_ends}
use Rattle.next_dates.proofs.ItemSteps.{items_end}
use Rattle.next_dates.proofs.NextComing.{next_comes, next_least, nothing_to_come}

-- a legal history has no floors
no_floor : (c : Calendar) (h : History) → IsLegal c h → (inc : ℕ) → above_floor h inc ≡ 0
no_floor c beginning legal inc = refl
no_floor c (based b kept) legal inc = absurd legal
no_floor c (s upon h) legal inc = no_floor c h legal.0 inc

-- the instants of the entries are the occurrences that they reach
pub instants_reached : (c : Calendar) (h : History) → IsLegal c h → (inc : ℕ)
    → instants_of (entries (ledger_of h) inc) ≡ passing (occurs_in c (items h inc)) (cover h inc)
instants_reached c h legal inc =
    let old = caught c h legal inc in
    old.reaches.exact
    ∙ filter_every old.reaches.kept (passing (occurs_in c (items h inc)) (cover h inc))
    (λ i. old.reaches.all i (let low : above_floor h inc ≤ i = omega (arith, no_floor c h legal inc) in low))

-- nothing of an incarnation occurs later than the last moment
occurs_in_time : (c : Calendar) (h : History) (inc i : ℕ) → occurs_in c (items h inc) i ≡ true → i ≤ last_moment
occurs_in_time c h inc i is =
    elim (cases_lt last_moment i) [
      | inl past ↦ absurd (true≢false (sym is ∙ past_ends c last_moment (items h inc) i (items_end h inc) past))
      | inr within ↦ within
    ]

-- an occurrence behind a moment is later
later_found : (c : Calendar) (all : List Item) (t w : ℕ) → t < w → w ≤ last_moment → occurs_in c all w ≡ true → has_later c all t ≡ true
unfolding has_later
later_found c all t w lt up is = within (last_moment + 1) (omega arith)
  where
    within : (n : ℕ) → w < n → any_passing (λ i. nat_lt t i && occurs_in c all i) n ≡ true
    within n below = any_found (λ i. nat_lt t i && occurs_in c all i) n w below (ap₂ (λ a b. a && b) (lt-ltb t w lt) is)

fails_later : (t i : ℕ) (b : Bool) → (t < i → b ≡ false) → (nat_lt t i && b) ≡ false
fails_later t i b fails =
    elim (cases_lt t i) [
      | inl lt ↦ ap₂ (λ x y. x && y) (lt-ltb t i lt) (fails lt)
      | inr ge ↦ ap (λ x. x && b) (le-ltb t i ge)
    ]

later_none : (c : Calendar) (all : List Item) (t : ℕ) → ((i : ℕ) → t < i → occurs_in c all i ≡ false) → has_later c all t ≡ false
unfolding has_later
later_none c all t none = within (last_moment + 1)
  where
    within : (n : ℕ) → any_passing (λ i. nat_lt t i && occurs_in c all i) n ≡ false
    within n = none_found (λ i. nat_lt t i && occurs_in c all i) n (λ i below. fails_later t i (occurs_in c all i) (none i))

headed : (xs : List ℕ) (x : ℕ) → head xs ≡ Some x → is_empty xs ≡ false
headed [] x e = cc
headed (y ∷ xs) x e = refl

from_on_is : (p : ℕ → Bool) (m i : ℕ) → m ≤ i → from_on m p i ≡ p i
from_on_is p m i le = ap (λ b. b && p i) (le-leb m i le)

-- nothing is to come, up to a moment or later
abbrev is_over : Calendar → History → ℕ → ℕ → Bool
is_over c h inc t = not (has_later c (items h inc) t) && is_empty (unentered c h inc t)

-- what the laws of next instants say of one
record Dated (c : Calendar) (h : History) (inc t : ℕ) (next : Option ℕ) : Type 0 where
  pub comes : head (unentered c h inc t) ≡ come_by t next
  pub least : IsLeast (from_on (cover h inc) (occurs_in c (items h inc))) next
  pub closed : next ≡ None → unentered c h inc t ≡ []

-- with something to come it is not over
open_yet : (c : Calendar) (h : History) (inc t u : ℕ) → Dated c h inc t (Some u) → is_over c h inc t ≡ false
open_yet c h inc t u is =
    let p = occurs_in c (items h inc) in
    let occurs : p u ≡ true = passes (nat_le (cover h inc) u) (p u) is.least.0 in
    elim (cases_lt t u) [
      | inl lt ↦ ap (λ b. not b && is_empty (unentered c h inc t)) (later_found c (items h inc) t u lt (occurs_in_time c h inc u occurs) occurs)
      | inr ge ↦
          let come : head (unentered c h inc t) ≡ Some u = is.comes ∙ ap (λ b. when b u) (le-leb u t ge) in
          ap (λ b. not (has_later c (items h inc) t) && b) (headed (unentered c h inc t) u come) ∙ and_false (not (has_later c (items h inc) t))
    ]
  where
    passes : (a b : Bool) → (a && b) ≡ true → b ≡ true
    passes true b e = e
    passes false b e = cc

-- nothing passes from m on
none_from : (p : ℕ → Bool) (m i : ℕ) → IsLeast (from_on m p) None → m ≤ i → p i ≡ false
none_from p m i none le = sym (from_on_is p m i le) ∙ none i

-- with nothing to come it is over from the last occurrence on
over_from : (c : Calendar) (h : History) (inc t : ℕ) → IsLeast (from_on (cover h inc) (occurs_in c (items h inc))) None
    → (entered : Option ℕ) → IsGreatest (occurs_in c (items h inc)) (cover h inc) entered
    → not (has_later c (items h inc) t) ≡ nat_le (unwrap_or entered 0) t
over_from c h inc t none None greatest =
    let p = occurs_in c (items h inc) in
    ap not (later_none c (items h inc) t (λ i lt.
    elim (cases_lt i (cover h inc)) [ inl below ↦ greatest i below | inr above ↦ none_from p (cover h inc) i none above ]))
    ∙ sym (le-leb 0 t zero-le)
over_from c h inc t none (Some w) greatest =
    let p = occurs_in c (items h inc) in
    elim (cases_lt t w) [
      | inl lt ↦
          ap not (later_found c (items h inc) t w lt (occurs_in_time c h inc w greatest.1) greatest.1) ∙ sym (lt-leb w t lt)
      | inr ge ↦
          ap not (later_none c (items h inc) t (λ i lt.
          elim (cases_lt i (cover h inc)) [
            | inl below ↦ greatest.2 i (omega arith) below
            | inr above ↦ none_from p (cover h inc) i none above
          ]))
          ∙ sym (le-leb w t ge)
    ]

over_is : (c : Calendar) (h : History) (inc t : ℕ) → IsLegal c h → (next : Option ℕ) → Dated c h inc t next
    → is_over c h inc t ≡ (is_none next && nat_le (unwrap_or (last (instants_of (entries (ledger_of h) inc))) 0) t)
over_is c h inc t legal (Some u) is = open_yet c h inc t u is
over_is c h inc t legal None is =
    let p = occurs_in c (items h inc) in
    let reached : last (passing p (cover h inc)) ≡ last (instants_of (entries (ledger_of h) inc)) = ap last (sym (instants_reached c h legal inc)) in
    let greatest = subst (IsGreatest p (cover h inc)) reached (last_greatest p (cover h inc)) in
    ap₂ (λ a xs. a && is_empty xs) (over_from c h inc t is.least (last (instants_of (entries (ledger_of h) inc))) greatest) (is.closed refl)
    ∙ and_true_of (nat_le (unwrap_or (last (instants_of (entries (ledger_of h) inc))) 0) t)
  where
    and_true_of : (b : Bool) → (b && true) ≡ b
    and_true_of true = refl
    and_true_of false = refl

-- an entry that is not decided, as it is counted
some_counted : (b : Bool) (n : ℕ) (x : ℕ) (xs : List ℕ) → nat_lt 0 (length (cond b (x ∷ xs) xs)) ≡ (b || nat_lt 0 (length xs))
some_counted true n x xs = lt-ltb 0 (length (x ∷ xs)) (omega arith)
some_counted false n x xs = refl

open_counted : (test : ℕ → Bool) (pairs : List Pair)
    → list_any {X = Pair} (λ pair. test pair.instant) pairs ≡ nat_lt 0 (length (filter test (instants_of pairs)))
open_counted test [] = refl
open_counted test (pair ∷ pairs) =
    ap (λ b. test pair.instant || b) (open_counted test pairs)
    ∙ sym (some_counted (test pair.instant) 0 pair.instant (filter test (instants_of pairs)))

-- the tests of a finished schedule in another order
reordered : (enabled deletes late empty waits none come : Bool) → (not late && empty) ≡ (none && come)
    → (enabled && deletes && not late && empty && not waits) ≡ ((enabled && deletes && none && not waits) && come)
reordered true true late empty waits none come same = ap (λ b. b && not waits) same ∙ swapped none come waits
  where
    swapped : (none come waits : Bool) → ((none && come) && not waits) ≡ ((none && not waits) && come)
    swapped true true waits = swapped_one (not waits)
      where
        swapped_one : (b : Bool) → b ≡ (b && true)
        swapped_one true = refl
        swapped_one false = refl
    swapped true false waits = sym (and_false (not waits))
    swapped false come waits = refl
reordered true false late empty waits none come same = refl
reordered false deletes late empty waits none come same = refl

come_if : (b : Bool) (w t : ℕ) → has_come t (cond b (Some w) None) ≡ (b && nat_le w t)
come_if true w t = refl
come_if false w t = refl

finished_is : (c : Calendar) (h : History) (inc t : ℕ) → IsLegal c h → (next : Option ℕ) → Dated c h inc t next → (content : Option Schedule)
    → some_pass (is_finished (seen c h) inc t) content
    ≡ has_come t (finished_with content next (nat_lt 0 (undecided (ledger_of h) inc)) (last (instants_of (entries (ledger_of h) inc))))
finished_is c h inc t legal next is None = refl
finished_is c h inc t legal next is (Some content) =
    let calls = ledger_of h in
    let waits : has_open (seen c h).ledger inc (entries calls inc) ≡ nat_lt 0 (undecided calls inc) =
    open_counted (λ i. is_open (filed calls inc i)) (entries calls inc) in
    let entered = last (instants_of (entries calls inc)) in
    ap (λ b. content.enabled && content.delete_after && not (has_later c (items h inc) t) && is_empty (unentered c h inc t) && not b) waits
    ∙ reordered content.enabled content.delete_after (has_later c (items h inc) t) (is_empty (unentered c h inc t))
    (nat_lt 0 (undecided calls inc)) (is_none next) (nat_le (unwrap_or entered 0) t) (over_is c h inc t legal next is)
    ∙ sym (come_if (content.enabled && content.delete_after && is_none next && not (nat_lt 0 (undecided calls inc))) (unwrap_or entered 0) t)

pub completes : Completes
completes c h legal inc t =
    finished_is c h inc t legal (next_instant c h inc)
    (record { comes = next_comes c h legal inc t; least = next_least c h legal inc; closed = nothing_to_come c h legal inc t })
    (current (rows_of (changes_of h)) inc)

chosen_same : (b : Bool) (w date : ℕ) → cond b (Some w) None ≡ Some date → w ≡ date
chosen_same true w date is = some_same w date is
chosen_same false w date is = let clash : ⊥ = cc in absurd clash

date_is : (content : Option Schedule) (next : Option ℕ) (waits : Bool) (entered : Option ℕ) (date : ℕ)
    → finished_with content next waits entered ≡ Some date → unwrap_or entered 0 ≡ date
date_is None next waits entered date is = let clash : ⊥ = cc in absurd clash
date_is (Some content) next waits entered date is =
    chosen_same (content.enabled && content.delete_after && is_none next && not waits) (unwrap_or entered 0) date is

entered_in_time : (c : Calendar) (h : History) (inc : ℕ) (entered : Option ℕ) → IsGreatest (occurs_in c (items h inc)) (cover h inc) entered
    → unwrap_or entered 0 ≤ last_moment
entered_in_time c h inc None greatest = zero-le
entered_in_time c h inc (Some w) greatest = occurs_in_time c h inc w greatest.1

pub finished_in_time : FinishedInTime
finished_in_time c h legal inc date is =
    let p = occurs_in c (items h inc) in
    let reached : last (passing p (cover h inc)) ≡ last (instants_of (entries (ledger_of h) inc)) = ap last (sym (instants_reached c h legal inc)) in
    subst (λ n. n ≤ last_moment)
    (date_is (current (rows_of (changes_of h)) inc) (next_instant c h inc) (nat_lt 0 (undecided (ledger_of h) inc))
    (last (instants_of (entries (ledger_of h) inc))) date is)
    (entered_in_time c h inc (last (instants_of (entries (ledger_of h) inc)))
    (subst (IsGreatest p (cover h inc)) reached (last_greatest p (cover h inc))))
