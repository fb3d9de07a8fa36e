-- One more moment among the first ones.
use Rattle.std.proofs.Common.{◌≡◌, ◌⊎◌, ℕ, ◌+◌, ◌-◌, ◌<◌, ◌≤◌, Option, Some, Result, Ok, Err, MatchResult, List, length, get_or, take, sym, ap, ◌∙◌, inl, inr, arith, length-take}
use Rattle.std.proofs.lemmas.Bool.{cases_lt, cases_order}
use Rattle.std.proofs.lemmas.Bool.Decides.{nat_tests}
use Rattle.std.proofs.lemmas.List.{get_or_default, get_or-take}
use Rattle.std.proofs.lemmas.List.Edits.{length-insert, get_or-insert_below, get_or-insert_at, get_or-insert_above}
use Rattle.std.proofs.lemmas.List.Elements.{Contains-get_or}
use Rattle.std.proofs.lemmas.List.Kept.{AllPairs-from_increasing}
use Rattle.std.proofs.lemmas.Option.{same_Some}
use Rattle.std.specs.List.{All, Contains, insert}
use Rattle.std.specs.List.Sorted.{IsStrictlyIncreasing, IsBinarySearchResult}
use Rattle.std.specs.Ordering.{nat_cmp}
use Rattle.std.proofs.lemmas.List.Sorted.{searched}
use Rattle.zone_occ.specs.FirstInstants.{complete_to}
use Rattle.zone_occ.specs.Window.{IsPlace, IsOffered}

-- ---- rising lists by their places

pub rises : (xs : List ℕ) (i j : ℕ) → IsStrictlyIncreasing xs → i < j → j < length xs → get_or xs i 0 < get_or xs j 0
rises xs i j rising lt within = AllPairs-from_increasing xs rising i j 0 lt within

pub at_place : (xs : List ℕ) (k x : ℕ) → k < length xs → get_or xs k 0 ≡ x → Contains xs x
at_place xs k x within is = (k, within, get_or_default xs k x 0 within ∙ is)

pub place_at : (xs : List ℕ) (x : ℕ) → Contains xs x → (k : ℕ) × (k < length xs) × (get_or xs k 0 ≡ x)
place_at xs x has = (has.0, has.1, get_or_default xs has.0 0 x has.1 ∙ has.2)

-- ---- how far they are complete

pub complete_full : (max to : ℕ) (xs : List ℕ) → length xs ≡ max → complete_to max to xs ≡ get_or xs (max - 1) 0
complete_full max to xs full = grind (arith, nat_tests)

pub complete_rest : (max to : ℕ) (xs : List ℕ) → length xs < max → complete_to max to xs ≡ to
complete_rest max to xs few = grind (arith, nat_tests)

-- ---- the first ones of a rising list

pub take_rising : (max : ℕ) (zs : List ℕ) → IsStrictlyIncreasing zs → IsStrictlyIncreasing (take max zs)
take_rising max zs rising k within =
    let long = length-take max zs in
    let at : get_or (take max zs) k 0 ≡ get_or zs k 0 = get_or-take max zs k 0 (omega arith) in
    let next : get_or (take max zs) (k + 1) 0 ≡ get_or zs (k + 1) 0 = get_or-take max zs (k + 1) 0 (omega arith) in
    omega (arith, rising k (omega arith))

pub take_from : (max x : ℕ) (zs : List ℕ) → Contains (take max zs) x → Contains zs x
take_from max x zs has =
    let place = place_at (take max zs) x has in
    let long = length-take max zs in
    let within = place.1 in
    at_place zs place.0 x (omega arith) (sym (get_or-take max zs place.0 0 (omega arith)) ∙ place.2)

-- what comes no later than the last of them is among them
pub take_keeps : (max to x : ℕ) (zs : List ℕ) → 1 ≤ max → IsStrictlyIncreasing zs → Contains zs x → x ≤ complete_to max to (take max zs) → Contains (take max zs) x
take_keeps max to x zs low rising has early =
    let place = place_at zs x has in
    let long = length-take max zs in
    let within = place.1 in
    elim (cases_lt place.0 max) [
      | inl lt ↦ at_place (take max zs) place.0 x (omega arith) (get_or-take max zs place.0 0 lt ∙ place.2)
      | inr ge ↦
          let full = complete_full max to (take max zs) (omega arith) in
          let last : get_or (take max zs) (max - 1) 0 ≡ get_or zs (max - 1) 0 = get_or-take max zs (max - 1) 0 (omega arith) in
          let far = rises zs (max - 1) place.0 rising (omega arith) within in
          absurd (omega (arith, place.2))
    ]

-- ---- one more moment in its place

insert_above : (xs : List ℕ) (at x k : ℕ) → at ≤ length xs → at < k → get_or (insert xs at x) k 0 ≡ get_or xs (k - 1) 0
insert_above xs at x k within after =
    let same : k ≡ k - 1 + 1 = omega arith in
    ap (λ n. get_or (insert xs at x) n 0) same ∙ get_or-insert_above xs at x 0 (k - 1) (omega arith) within

insert_rising : (xs : List ℕ) (at x : ℕ) → IsStrictlyIncreasing xs → IsPlace xs x at → IsStrictlyIncreasing (insert xs at x)
insert_rising xs at x rising place k within =
    let long = length-insert xs at x place.within in
    elim (cases_order (k + 1) at) [
      | inl here ↦
          let low = get_or-insert_below xs at x 0 k (omega arith) place.within in
          let mid : get_or (insert xs at x) (k + 1) 0 ≡ x = ap (λ n. get_or (insert xs at x) n 0) here ∙ get_or-insert_at xs at x 0 place.within in
          omega (arith, place.below k (omega arith))
      | inr (inl before) ↦
          let low = get_or-insert_below xs at x 0 k (omega arith) place.within in
          let high = get_or-insert_below xs at x 0 (k + 1) before place.within in
          omega (arith, rising k (omega (arith, place.within)))
      | inr (inr after) ↦
          let high = get_or-insert_above xs at x 0 k (omega arith) place.within in
          elim (cases_lt at k) [
            | inl later ↦
                let low = insert_above xs at x k place.within later in
                omega (arith, rises xs (k - 1) k rising (omega arith) (omega arith))
            | inr not_later ↦
                let same : k ≡ at = omega arith in
                let mid : get_or (insert xs at x) k 0 ≡ x = ap (λ n. get_or (insert xs at x) n 0) same ∙ get_or-insert_at xs at x 0 place.within in
                omega (arith, place.above k (omega arith) (omega arith))
          ]
    ]

insert_from : (xs : List ℕ) (at x y : ℕ) → IsPlace xs x at → Contains (insert xs at x) y → Contains xs y ⊎ (◌≡◌ {A = Option ℕ} (Some x) (Some y))
insert_from xs at x y place has =
    let long = length-insert xs at x place.within in
    let found = place_at (insert xs at x) y has in
    let within = found.1 in
    elim (cases_order found.0 at) [
      | inl here ↦
          let mid : get_or (insert xs at x) found.0 0 ≡ x = ap (λ n. get_or (insert xs at x) n 0) here ∙ get_or-insert_at xs at x 0 place.within in
          inr (ap (λ n. Some n) (sym mid ∙ found.2))
      | inr (inl before) ↦
          inl (at_place xs found.0 y (omega (arith, place.within)) (sym (get_or-insert_below xs at x 0 found.0 before place.within) ∙ found.2))
      | inr (inr after) ↦
          inl (at_place xs (found.0 - 1) y (omega arith) (sym (insert_above xs at x found.0 place.within after) ∙ found.2))
    ]

insert_keeps : (xs : List ℕ) (at x y : ℕ) → IsPlace xs x at → Contains xs y ⊎ (◌≡◌ {A = Option ℕ} (Some x) (Some y)) → Contains (insert xs at x) y
insert_keeps xs at x y place (inr same) =
    let long = length-insert xs at x place.within in
    at_place (insert xs at x) at y (omega (arith, place.within)) (get_or-insert_at xs at x 0 place.within ∙ same_Some x y same)
insert_keeps xs at x y place (inl has) =
    let long = length-insert xs at x place.within in
    let found = place_at xs y has in
    let within = found.1 in
    elim (cases_lt found.0 at) [
      | inl before ↦ at_place (insert xs at x) found.0 y (omega arith) (get_or-insert_below xs at x 0 found.0 before place.within ∙ found.2)
      | inr after ↦ at_place (insert xs at x) (found.0 + 1) y (omega arith) (get_or-insert_above xs at x 0 found.0 after place.within ∙ found.2)
    ]

-- what is last of a list that got one more is no later than what was last
last_sooner : (xs : List ℕ) (at x last : ℕ) → IsStrictlyIncreasing xs → IsPlace xs x at → last + 1 ≡ length xs → get_or (insert xs at x) last 0 ≤ get_or xs last 0
last_sooner xs at x last rising place is =
    elim (cases_order last at) [
      | inl here ↦
          let mid : get_or (insert xs at x) last 0 ≡ x = ap (λ n. get_or (insert xs at x) n 0) here ∙ get_or-insert_at xs at x 0 place.within in
          omega (arith, place.above last (omega arith) (omega arith))
      | inr (inl before) ↦ omega (arith, get_or-insert_below xs at x 0 last before place.within)
      | inr (inr after) ↦ omega (arith, insert_above xs at x last place.within after, rises xs (last - 1) last rising (omega arith) (omega arith))
    ]

-- an element is within a bound that all keep
within_bound : (to y : ℕ) (xs : List ℕ) → All (λ m. m ≤ to) xs → Contains xs y → y ≤ to
within_bound to y xs all has =
    let found = place_at xs y has in
    omega (arith, found.2, all found.0 0 found.1)

put_sooner : (max to : ℕ) (xs : List ℕ) (at x : ℕ) → 1 ≤ max → length xs ≤ max → IsStrictlyIncreasing xs → IsPlace xs x at → All (λ m. m ≤ to) xs → x ≤ to → complete_to max to (take max (insert xs at x)) ≤ complete_to max to xs
put_sooner max to xs at x low few rising place all bound =
    let zs : List ℕ = insert xs at x in
    let long = length-insert xs at x place.within in
    let cut = length-take max zs in
    elim (cases_lt (length xs) max) [
      | inl room ↦
          let before = complete_rest max to xs room in
          elim (cases_lt (length (take max zs)) max) [
            | inl still ↦ omega (arith, complete_rest max to (take max zs) still)
            | inr full ↦
                let last = complete_full max to (take max zs) (omega arith) in
                let has = Contains-get_or (take max zs) (max - 1) 0 (omega arith) in
                elim (insert_from xs at x (get_or (take max zs) (max - 1) 0) place (take_from max (get_or (take max zs) (max - 1) 0) zs has)) [
                  | inl old ↦ omega (arith, within_bound to (get_or (take max zs) (max - 1) 0) xs all old)
                  | inr new ↦ let same = same_Some x (get_or (take max zs) (max - 1) 0) new in omega arith
                ]
          ]
      | inr none ↦
          let before = complete_full max to xs (omega arith) in
          let now = complete_full max to (take max zs) (omega arith) in
          let last : get_or (take max zs) (max - 1) 0 ≡ get_or zs (max - 1) 0 = get_or-take max zs (max - 1) 0 (omega arith) in
          omega (arith, last_sooner xs at x (max - 1) rising place (omega arith))
    ]

-- ---- what an offer does

pub put_offered : (max : ℕ) (xs : List ℕ) (at x : ℕ) → 1 ≤ max → length xs ≤ max → IsStrictlyIncreasing xs → IsPlace xs x at → IsOffered max xs (Some x) (take max (insert xs at x))
put_offered max xs at x low few rising place = record {
  rising = take_rising max (insert xs at x) (insert_rising xs at x rising place);
  few = omega (arith, length-take max (insert xs at x));
  from = λ y has. insert_from xs at x y place (take_from max y (insert xs at x) has);
  keeps = λ to y had early. take_keeps max to y (insert xs at x) low (insert_rising xs at x rising place) (insert_keeps xs at x y place had) early;
  sooner = λ to all bound. put_sooner max to xs at x low few rising place all bound;
}

-- ---- where a moment belongs

non_falling : (xs : List ℕ) (i j : ℕ) → IsStrictlyIncreasing xs → i ≤ j → j < length xs → get_or xs i 0 ≤ get_or xs j 0
non_falling xs i j rising le within =
    elim (cases_lt i j) [
      | inl lt ↦ omega (arith, rises xs i j rising lt within)
      | inr ge ↦ let same : i ≡ j = omega arith in rw same (omega arith)
    ]

by_place : (xs : List ℕ) (x : ℕ) (r : Result ℕ ℕ) → MatchResult r (λ i. (i < length xs) × (get_or xs i 0 ≡ x)) (λ i. (i ≤ length xs) × ((k : ℕ) → k < i → get_or xs k 0 < x) × ((k : ℕ) → i ≤ k → k < length xs → x < get_or xs k 0)) → MatchResult r (λ _. Contains xs x) (IsPlace xs x)
by_place xs x (Ok i) found = at_place xs i x found.0 found.1
by_place xs x (Err i) none = record { within = none.0; below = none.1; above = none.2 }

pub searched_place : (xs : List ℕ) (x : ℕ) (r : Result ℕ ℕ) → IsStrictlyIncreasing xs → IsBinarySearchResult (λ y. nat_cmp y x) xs r → MatchResult r (λ _. Contains xs x) (IsPlace xs x)
searched_place xs x r rising position =
    by_place xs x r (searched xs x r position (λ i j le within. non_falling xs i j rising le within))
