-- Items that are cut at a moment: up to it they occur as before, and past it not at all.
use Rattle.std.proofs.Common.{◌≡◌, ℕ, ◌<◌, ◌≤◌, min, nat_le, false, ◌&&◌, ◌||◌, List, [], ◌∷◌, map, refl, sym, ap, ap₂, ◌∙◌, inl, inr, arith}
use Rattle.std.proofs.lemmas.Bool.{cases_lt, le-leb, lt-leb}
use Rattle.plain_words.proofs.Booleans.{and_false}
use Rattle.expressions.specs.Calendar.{Calendar}
use Rattle.sched_plain.specs.Items.{Item, cut_item}
use Rattle.sched_plain.specs.Occurrences.{is_within_dates, occurs_in}
use Rattle.next_dates.specs.Dates.{from_on}
use Rattle.next_dates.proofs.LastItems.{cut_end, past_ends}

pub le_min : (i at to : ℕ) → i ≤ at → nat_le i (min at to) ≡ nat_le i to
le_min i at to le =
    elim (cases_lt to i) [
      | inl lt ↦ let low : min at to < i = omega arith in lt-leb i (min at to) low ∙ sym (lt-leb i to lt)
      | inr ge ↦ let up : i ≤ min at to = omega arith in le-leb i (min at to) up ∙ sym (le-leb i to ge)
    ]

pub cuts_stay : (c : Calendar) (at : ℕ) (all : List Item) (i : ℕ) → i ≤ at → occurs_in c (map (cut_item at) all) i ≡ occurs_in c all i
cuts_stay c at [] i le = refl
cuts_stay c at (item ∷ all) i le =
    ap₂ (λ a b. a || b)
    (ap (λ b. item.content.enabled && nat_le item.first i && b
    && is_within_dates item.content.expr item.content i && c.at item.content.expr item.bytes item.anchor i) (le_min i at item.last le))
    (cuts_stay c at all i le)

-- where nothing occurred from a number on, nothing does after the cut
pub cut_none : (c : Calendar) (m at : ℕ) (all : List Item) → ((i : ℕ) → from_on m (occurs_in c all) i ≡ false)
    → (i : ℕ) → from_on m (occurs_in c (map (cut_item at) all)) i ≡ false
cut_none c m at all none i =
    elim (cases_lt at i) [
      | inl past ↦ ap (λ b. nat_le m i && b) (past_ends c at (map (cut_item at) all) i (cut_end at all) past) ∙ and_false (nat_le m i)
      | inr upto ↦ ap (λ b. nat_le m i && b) (cuts_stay c at all i upto) ∙ none i
    ]

-- and nothing does past the cut
pub cut_past : (c : Calendar) (m at : ℕ) (all : List Item) → at < m → (i : ℕ) → from_on m (occurs_in c (map (cut_item at) all)) i ≡ false
cut_past c m at all lt i =
    elim (cases_lt i m) [
      | inl below ↦ ap (λ b. b && occurs_in c (map (cut_item at) all) i) (lt-leb m i below)
      | inr from ↦
          let past : at < i = omega arith in
          ap (λ b. nat_le m i && b) (past_ends c at (map (cut_item at) all) i (cut_end at all) past) ∙ and_false (nat_le m i)
    ]
