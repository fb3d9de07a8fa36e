-- Items: none occurs past the last moment, and of an incarnation's items only the last reaches past its cover.
use Rattle.std.proofs.Common.{◌≡◌, ℕ, ◌<◌, ◌≤◌, nat_le, Bool, true, false, ◌&&◌, ◌||◌, Some, List, [], ◌∷◌, ◌++◌, map, refl, sym, ap, ap₂, ◌∙◌, inl, inr, arith}
use Rattle.std.proofs.lemmas.Bool.{cases_lt, lt-leb}
use Rattle.plain_words.specs.Lists.{last, last_from}
use Rattle.plain_words.proofs.Booleans.{or_false}
use Rattle.expressions.specs.Calendar.{Calendar}
use Rattle.sched_plain.specs.Items.{Item, cut_item}
use Rattle.sched_plain.specs.Occurrences.{is_within_dates, occurs, occurs_in}
use Rattle.next_dates.specs.Dates.{from_on}

-- each item ends at or before a moment
abbrev pub EndBy : ℕ → List Item → Type 0
EndBy m [] = Unit {0}
EndBy m (item ∷ all) = (item.last ≤ m) × EndBy m all

-- each item but the last ends before a moment
abbrev pub OthersEnd : ℕ → List Item → Type 0
OthersEnd m [] = Unit {0}
OthersEnd m (item ∷ []) = Unit {0}
OthersEnd m (item ∷ next ∷ all) = (item.last < m) × OthersEnd m (next ∷ all)

third_fails : (a b c d e : Bool) → c ≡ false → (a && b && c && d && e) ≡ false
third_fails true true c d e fails = ap (λ x. x && d && e) fails
third_fails true false c d e fails = refl
third_fails false b c d e fails = refl

-- an item does not occur past its end
pub past_end : (c : Calendar) (item : Item) (i : ℕ) → item.last < i → occurs c item i ≡ false
past_end c item i lt =
    third_fails item.content.enabled (nat_le item.first i) (nat_le i item.last) (is_within_dates item.content.expr item.content i)
    (c.at item.content.expr item.bytes item.anchor i) (lt-leb i item.last lt)

pub past_ends : (c : Calendar) (m : ℕ) (all : List Item) (i : ℕ) → EndBy m all → m < i → occurs_in c all i ≡ false
past_ends c m [] i end lt = refl
past_ends c m (item ∷ all) i end lt =
    let before : item.last ≤ m = end.0 in
    ap₂ (λ a b. a || b) (past_end c item i (omega arith)) (past_ends c m all i end.1 lt)

pub end_more : (m : ℕ) (all : List Item) (item : Item) → EndBy m all → item.last ≤ m → EndBy m (all ++ item ∷ [])
end_more m [] item end last = (last, tt)
end_more m (one ∷ all) item end last = (end.0, end_more m all item end.1 last)

pub end_cut : (m at : ℕ) (all : List Item) → EndBy m all → EndBy m (map (cut_item at) all)
end_cut m at [] end = tt
end_cut m at (item ∷ all) end = let old : item.last ≤ m = end.0 in (omega arith, end_cut m at all end.1)

pub cut_end : (at : ℕ) (all : List Item) → EndBy at (map (cut_item at) all)
cut_end at [] = tt
cut_end at (item ∷ all) = (omega arith, cut_end at all)

pub others_more : (m n : ℕ) (all : List Item) → m ≤ n → OthersEnd m all → OthersEnd n all
others_more m n [] le end = tt
others_more m n (item ∷ []) le end = tt
others_more m n (item ∷ next ∷ all) le end = let low : item.last < m = end.0 in (omega arith, others_more m n (next ∷ all) le end.1)

pub others_cut : (m at : ℕ) (all : List Item) → OthersEnd m all → OthersEnd m (map (cut_item at) all)
others_cut m at [] end = tt
others_cut m at (item ∷ []) end = tt
others_cut m at (item ∷ next ∷ all) end = let low : item.last < m = end.0 in (omega arith, others_cut m at (next ∷ all) end.1)

-- one more behind items that all end by a moment
pub others_behind : (at m : ℕ) (all : List Item) (item : Item) → at < m → EndBy at all → OthersEnd m (all ++ item ∷ [])
others_behind at m [] item lt end = tt
others_behind at m (one ∷ []) item lt end = let low : one.last ≤ at = end.0 in (omega arith, tt)
others_behind at m (one ∷ next ∷ all) item lt end = let low : one.last ≤ at = end.0 in (omega arith, others_behind at m (next ∷ all) item lt end.1)

pub last_push : {A : Type 0} (xs : List A) (x : A) → last (xs ++ x ∷ []) ≡ Some x
last_push [] x = refl
last_push {A = A} (y ∷ xs) x = behind y xs
  where
    behind : (y : A) (xs : List A) → last_from y (xs ++ x ∷ []) ≡ Some x
    behind y [] = refl
    behind y (z ∷ xs) = behind z xs

-- from the moment on that the others do not reach only the last item occurs
pub only_last : (c : Calendar) (m : ℕ) (all : List Item) (item : Item) → OthersEnd m all → last all ≡ Some item
    → (i : ℕ) → from_on m (occurs_in c all) i ≡ from_on m (occurs c item) i
only_last c m [] item end is i = let clash : ⊥ = cc in absurd clash
only_last c m (one ∷ []) item end is i =
    let same : one ≡ item = cc in
    ap (λ b. nat_le m i && b) (or_false (occurs c one i) ∙ ap (λ it. occurs c it i) same)
only_last c m (one ∷ next ∷ all) item end is i =
    elim (cases_lt i m) [
      | inl below ↦
          ap (λ b. b && occurs_in c (one ∷ next ∷ all) i) (lt-leb m i below) ∙ ap (λ b. b && occurs c item i) (sym (lt-leb m i below))
      | inr from ↦
          let low : one.last < m = end.0 in
          ap (λ b. nat_le m i && (b || occurs_in c (next ∷ all) i)) (past_end c one i (omega arith))
          ∙ only_last c m (next ∷ all) item end.1 is i
    ]
