-- One element of a list changed, and the elements of some numbers changed one after another.
use Rattle.std.proofs.Common.{◌≡◌, ℕ, zero, suc, ◌+◌, ◌-◌, ◌≤◌, ◌<◌, ◌==◌, Bool, true, false, Option, Some, None, List, [], ◌∷◌, ◌++◌, map, length, get_or, set, option_map, refl, sym, ap, ◌∙◌, subst, arith, cond, inl, inr}
use Rattle.std.specs.Prelude.{if◌then◌else◌, ◌⊎◌}
use Rattle.std.specs.List.{filter, list_any}
use Rattle.std.proofs.lemmas.Bool.{cases_eq, eq-eqb, ne_eqb, or_cases, or_left}
use Rattle.std.proofs.lemmas.Bool.Decides.{nat_tests}
use Rattle.plain_words.specs.Lists.{nth, change_nth}
use Rattle.plain_words.proofs.Booleans.{or_second}
use Rattle.plain_words.proofs.ListLemmas.{nth_first, nth_rest}
use Rattle.sched_plain.specs.declared.row.Row.{Row}
use Rattle.sched_rows.specs.State.{Kept, rows_in, rooms_in}
use Rattle.sched_rows.specs.Groups.{change_all}
use Rattle.sched_rows.specs.Order.{numbered, numbers_in}

change_first : {A : Type 0} (f : A → A) (x : A) (xs : List A) (n : ℕ) → n ≡ 1 → change_nth f (x ∷ xs) n ≡ f x ∷ xs
change_first f x xs n e = rw (eq-eqb n 1 e) refl

change_rest : {A : Type 0} (f : A → A) (x : A) (xs : List A) (n : ℕ) → (n ≡ 1 → ⊥) → change_nth f (x ∷ xs) n ≡ x ∷ change_nth f xs (n - 1)
change_rest f x xs n e = rw (ne_eqb n 1 e) refl

pub change_none : {A : Type 0} (f : A → A) (xs : List A) (n : ℕ) → n ≡ 0 → change_nth f xs n ≡ xs
change_none f [] n e = refl
change_none f (x ∷ xs) n e =
    let apart : n ≡ 1 → ⊥ = λ h. omega arith in
    change_rest f x xs n apart ∙ ap (λ (ys : List _). x ∷ ys) (change_none f xs (n - 1) (omega arith))

pub length_change : {A : Type 0} (f : A → A) (xs : List A) (n : ℕ) → length (change_nth f xs n) ≡ length xs
length_change f [] n = refl
length_change f (x ∷ xs) n = elim (cases_eq n 1) [
  | inl first ↦ ap length (change_first f x xs n first)
  | inr apart ↦ ap length (change_rest f x xs n apart) ∙ ap suc (length_change f xs (n - 1))
]

-- a row written over the one of a number
pub rows_set : (kept : List Kept) (i n : ℕ) (k d : Kept) (f : Row → Row) → n ≡ i + 1 → i < length kept → d ≡ get_or kept i d → k.row ≡ f d.row
    → rows_in (set kept i k) ≡ change_nth f (rows_in kept) n
rows_set [] i n k d f e within read is = absurd (omega arith)
rows_set (x ∷ kept) zero n k d f e within read is =
    let first : n ≡ 1 = omega arith in
    ap (λ (r : Row). r ∷ rows_in kept) (is ∙ ap (λ (y : Kept). f y.row) read) ∙ sym (change_first f x.row (rows_in kept) n first)
rows_set (x ∷ kept) (suc i) n k d f e within read is =
    let apart : n ≡ 1 → ⊥ = λ h. omega arith in
    ap (λ (rs : List Row). x.row ∷ rs) (rows_set kept i (n - 1) k d f (omega arith) (omega arith) read is) ∙ sym (change_rest f x.row (rows_in kept) n apart)

pub rooms_set : (kept : List Kept) (i n : ℕ) (k : Kept) → n ≡ i + 1 → i < length kept → nth (rooms_in (set kept i k)) n ≡ Some k.room
rooms_set [] i n k e within = absurd (omega arith)
rooms_set (x ∷ kept) zero n k e within = nth_first k.room (rooms_in kept) n (omega arith)
rooms_set (x ∷ kept) (suc i) n k e within =
    let apart : n ≡ 1 → ⊥ = λ h. omega arith in
    nth_rest x.room (rooms_in (set kept i k)) n apart ∙ rooms_set kept i (n - 1) k (omega arith) (omega arith)

pub length_rows : (kept : List Kept) → length (rows_in kept) ≡ length kept
length_rows [] = refl
length_rows (k ∷ kept) = ap suc (length_rows kept)

pub rows_get : (kept : List Kept) (i : ℕ) (d : Kept) → get_or (rows_in kept) i d.row ≡ (get_or kept i d).row
rows_get [] i d = refl
rows_get (k ∷ kept) zero d = refl
rows_get (k ∷ kept) (suc i) d = rows_get kept i d

pub rows_push : (kept : List Kept) (k : Kept) → rows_in (kept ++ k ∷ []) ≡ rows_in kept ++ k.row ∷ []
rows_push [] k = refl
rows_push (x ∷ kept) k = ap (λ (rs : List Row). x.row ∷ rs) (rows_push kept k)

-- ---- numbered elements

-- the element of a number changed
abbrev pub at_number : {A : Type 0} → (A → A) → ℕ → (ℕ × A) → (ℕ × A)
at_number f n p = (p.0, if p.0 == n then f p.1 else p.1)

numbered_above : {A : Type 0} (f : A → A) (n from : ℕ) (xs : List A) → n < from → numbered from xs ≡ map (at_number f n) (numbered from xs)
numbered_above f n from [] lt = refl
numbered_above f n from (x ∷ xs) lt =
    let apart : (from == n) ≡ false = ne_eqb from n (λ e. omega arith) in
    let here : (from, x) ≡ at_number f n (from, x) = rw apart refl in
    ap (λ (p : ℕ × _). p ∷ numbered (from + 1) xs) here ∙ ap (λ (ps : List (ℕ × _)). at_number f n (from, x) ∷ ps) (numbered_above f n (from + 1) xs (omega arith))

pub numbered_change : {A : Type 0} (f : A → A) (n from k : ℕ) (xs : List A) → n + 1 ≡ k + from → 1 ≤ k → numbered from (change_nth f xs k) ≡ map (at_number f n) (numbered from xs)
numbered_change f n from k [] e le = refl
numbered_change {A} f n from k (x ∷ xs) e le = elim (cases_eq k 1) [
  | inl first ↦
      let same : (from == n) ≡ true = eq-eqb from n (omega arith) in
      let here : (from, f x) ≡ at_number f n (from, x) = rw same refl in
      ap (numbered {A = A} from) (change_first f x xs k first)
      ∙ ap (λ (p : ℕ × A). p ∷ numbered (from + 1) xs) here
      ∙ ap (λ (ps : List (ℕ × A)). at_number f n (from, x) ∷ ps) (numbered_above f n (from + 1) xs (omega arith))
  | inr apart ↦
      let other : (from == n) ≡ false = ne_eqb from n (λ h. apart (omega arith)) in
      let here : (from, x) ≡ at_number f n (from, x) = rw other refl in
      ap (numbered {A = A} from) (change_rest f x xs k apart)
      ∙ ap (λ (p : ℕ × A). p ∷ numbered (from + 1) (change_nth f xs (k - 1))) here
      ∙ ap (λ (ps : List (ℕ × A)). at_number f n (from, x) ∷ ps) (numbered_change f n (from + 1) (k - 1) xs (omega arith) (omega arith))
]

pub numbered_map : {A : Type 0} (f : A → A) (from : ℕ) (xs : List A) → numbered from (map f xs) ≡ map (λ (p : ℕ × A). (p.0, f p.1)) (numbered from xs)
numbered_map f from [] = refl
numbered_map f from (x ∷ xs) = ap (λ (ps : List (ℕ × _)). (from, f x) ∷ ps) (numbered_map f (from + 1) xs)

pub numbered_push : {A : Type 0} (from n : ℕ) (xs : List A) (x : A) → n ≡ from + length xs → numbered from (xs ++ x ∷ []) ≡ numbered from xs ++ (n, x) ∷ []
numbered_push from n [] x e = let same : from ≡ n = omega arith in ap (λ (m : ℕ). (m, x) ∷ []) same
numbered_push from n (y ∷ xs) x e = ap (λ (ps : List (ℕ × _)). (from, y) ∷ ps) (numbered_push (from + 1) n xs x (omega arith))

-- ---- the one element that passes, and several

-- nothing passes, so nothing is changed
abbrev pub where_passes : {A : Type 0} → (A → Bool) → (A → A) → A → A
where_passes test f x = if test x then f x else x

-- the numbers of those of the elements that pass
abbrev pub passing_numbers : {A : Type 0} → (A → Bool) → ℕ → List A → List ℕ
passing_numbers {A} test from xs = numbers_in (filter (λ (p : ℕ × A). test p.1) (numbered from xs))

-- and with one more element before them
abbrev pub with_first : {A : Type 0} → (A → Bool) → Bool → ℕ → A → List A → List ℕ
with_first {A} test b from x xs =
    numbers_in (cond b ((from, x) ∷ filter (λ (p : ℕ × A). test p.1) (numbered (from + 1) xs)) (filter (λ (p : ℕ × A). test p.1) (numbered (from + 1) xs)))

none_step : {A : Type 0} (test : A → Bool) (f : A → A) (b : Bool) (from : ℕ) (x : A) (xs : List A) → with_first test b from x xs ≡ []
    → (passing_numbers test (from + 1) xs ≡ [] → map (where_passes test f) xs ≡ xs) → ((if b then f x else x) ∷ map (where_passes test f) xs) ≡ x ∷ xs
none_step test f true from x xs e ih = cc e
none_step {A} test f false from x xs e ih = ap (λ (ys : List A). x ∷ ys) (ih e)

pub none_changed : {A : Type 0} (test : A → Bool) (f : A → A) (from : ℕ) (xs : List A) → passing_numbers test from xs ≡ [] → map (where_passes test f) xs ≡ xs
none_changed test f from [] e = refl
none_changed test f from (x ∷ xs) e = none_step test f (test x) from x xs e (none_changed test f (from + 1) xs)

pub head_number : (n m : ℕ) (ns ms : List ℕ) → n ∷ ns ≡ m ∷ ms → (n ≡ m) × (ns ≡ ms)
head_number n m ns ms e = (cc e, cc e)

from_step : {A : Type 0} (test : A → Bool) (b : Bool) (from n : ℕ) (ns : List ℕ) (x : A) (xs : List A) → with_first test b from x xs ≡ n ∷ ns
    → (passing_numbers test (from + 1) xs ≡ n ∷ ns → from + 1 ≤ n) → from ≤ n
from_step test true from n ns x xs e ih = omega (arith, (head_number from n _ ns e).0)
from_step test false from n ns x xs e ih = omega (arith, ih e)

pub numbers_from : {A : Type 0} (test : A → Bool) (from n : ℕ) (ns : List ℕ) (xs : List A) → passing_numbers test from xs ≡ n ∷ ns → from ≤ n
numbers_from test from n ns [] e = cc e
numbers_from test from n ns (x ∷ xs) e = from_step test (test x) from n ns x xs e (numbers_from test (from + 1) n ns xs)

one_step : {A : Type 0} (test : A → Bool) (f : A → A) (b : Bool) (from n k : ℕ) (x : A) (xs : List A) → with_first test b from x xs ≡ n ∷ [] → n + 1 ≡ k + from
    → (passing_numbers test (from + 1) xs ≡ n ∷ [] → n + 1 ≡ k - 1 + (from + 1) → map (where_passes test f) xs ≡ change_nth f xs (k - 1))
    → ((if b then f x else x) ∷ map (where_passes test f) xs) ≡ change_nth f (x ∷ xs) k
one_step {A} test f true from n k x xs e sum ih =
    let both = head_number from n _ [] e in
    let first : k ≡ 1 = omega (arith, both.0) in
    ap (λ (ys : List A). f x ∷ ys) (none_changed test f (from + 1) xs both.1) ∙ sym (change_first f x xs k first)
one_step {A} test f false from n k x xs e sum ih =
    let above : from + 1 ≤ n = numbers_from test (from + 1) n [] xs e in
    let apart : k ≡ 1 → ⊥ = λ h. omega arith in
    ap (λ (ys : List A). x ∷ ys) (ih e (omega arith)) ∙ sym (change_rest f x xs k apart)

-- where one element passes, it alone is changed
pub one_changed : {A : Type 0} (test : A → Bool) (f : A → A) (from n k : ℕ) (xs : List A) → numbers_in (filter (λ (p : ℕ × A). test p.1) (numbered from xs)) ≡ n ∷ [] → n + 1 ≡ k + from
    → map (where_passes test f) xs ≡ change_nth f xs k
one_changed test f from n k [] e sum = refl
one_changed test f from n k (x ∷ xs) e sum = one_step test f (test x) from n k x xs e sum (one_changed test f (from + 1) n (k - 1) xs)

-- ---- one element changed after another

-- the element of a number, changed where it is that one
abbrev changed_at : {A : Type 0} → (A → A) → List A → ℕ → ℕ → Option A
changed_at f xs n k = if k == n then option_map f (nth xs k) else nth xs k

either_none : {A : Type 0} (f : A → A) (b : Bool) (o : Option A) → o ≡ None → None ≡ (if b then option_map f o else o)
either_none f true o e = rw e refl
either_none f false o e = sym e

nth_zero : {A : Type 0} (xs : List A) (k : ℕ) → k ≡ 0 → nth xs k ≡ None
nth_zero [] k e = refl
nth_zero (x ∷ xs) k e =
    let apart : k ≡ 1 → ⊥ = λ h. omega arith in
    nth_rest x xs k apart ∙ nth_zero xs (k - 1) (omega arith)

change_step : {A : Type 0} (f : A → A) (x : A) (xs : List A) (n k : ℕ) → 1 ≤ k → ((n ≡ 1) ⊎ (n ≡ 1 → ⊥)) → ((k ≡ 1) ⊎ (k ≡ 1 → ⊥))
    → nth (change_nth f xs (n - 1)) (k - 1) ≡ changed_at f xs (n - 1) (k - 1) → nth (change_nth f (x ∷ xs) n) k ≡ changed_at f (x ∷ xs) n k
change_step {A} f x xs n k le (inl first) (inl one) ih =
    let e : (k == n) ≡ true = eq-eqb k n (omega arith) in
    ap (λ (ys : List A). nth ys k) (change_first f x xs n first) ∙ nth_first (f x) xs k one
    ∙ sym (rw e (ap (option_map f) (nth_first x xs k one)))
change_step {A} f x xs n k le (inl first) (inr other) ih =
    let e : (k == n) ≡ false = ne_eqb k n (λ h. other (omega arith)) in
    ap (λ (ys : List A). nth ys k) (change_first f x xs n first) ∙ nth_rest (f x) xs k other
    ∙ sym (rw e (nth_rest x xs k other))
change_step {A} f x xs n k le (inr apart) (inl one) ih =
    let e : (k == n) ≡ false = ne_eqb k n (λ h. apart (omega arith)) in
    ap (λ (ys : List A). nth ys k) (change_rest f x xs n apart) ∙ nth_first x (change_nth f xs (n - 1)) k one
    ∙ sym (rw e (nth_first x xs k one))
change_step {A} f x xs n k le (inr apart) (inr other) ih =
    let e : ((k - 1) == (n - 1)) ≡ (k == n) = grind (arith, nat_tests) in
    ap (λ (ys : List A). nth ys k) (change_rest f x xs n apart) ∙ nth_rest x (change_nth f xs (n - 1)) k other ∙ ih
    ∙ ap (λ (b : Bool). if b then option_map f (nth xs (k - 1)) else nth xs (k - 1)) e
    ∙ ap (λ (o : Option A). if k == n then option_map f o else o) (sym (nth_rest x xs k other))

nth_change_from : {A : Type 0} (f : A → A) (xs : List A) (n k : ℕ) → ((k ≡ 0) ⊎ (k ≡ 0 → ⊥)) → nth (change_nth f xs n) k ≡ changed_at f xs n k
nth_change_from f xs n k (inl none) = nth_zero (change_nth f xs n) k none ∙ either_none f (k == n) (nth xs k) (nth_zero xs k none)
nth_change_from f [] n k (inr some) = either_none f (k == n) None refl
nth_change_from f (x ∷ xs) n k (inr some) =
    change_step f x xs n k (omega arith) (cases_eq n 1) (cases_eq k 1) (nth_change_from f xs (n - 1) (k - 1) (cases_eq (k - 1) 0))

-- the element of a number in a list that was changed at one
pub nth_change : {A : Type 0} (f : A → A) (xs : List A) (n k : ℕ) → nth (change_nth f xs n) k ≡ (if k == n then option_map f (nth xs k) else nth xs k)
nth_change f xs n k = nth_change_from f xs n k (cases_eq k 0)

-- an element of a number is left as it is
abbrev IsFixed : {A : Type 0} → (A → A) → List A → ℕ → Type 0
IsFixed f xs k = option_map f (nth xs k) ≡ nth xs k

some_same : {A : Type 0} (x y : A) → Some x ≡ Some y → x ≡ y
some_same x y e = cc e

all_fixed : {A : Type 0} (f : A → A) (xs : List A) → ((k : ℕ) → IsFixed f xs k) → xs ≡ map f xs
all_fixed f [] fixed = refl
all_fixed {A} f (x ∷ xs) fixed =
    let first : f x ≡ x = some_same (f x) x (sym (ap (option_map f) (nth_first x xs 1 refl)) ∙ fixed 1 ∙ nth_first x xs 1 refl) in
    let rest = all_fixed f xs (λ k. elim (cases_eq k 0) as (λ c. IsFixed f xs k) [
      | inl none ↦ ap (option_map f) (nth_zero xs k none) ∙ sym (nth_zero xs k none)
      | inr some ↦
          let apart : k + 1 ≡ 1 → ⊥ = λ h. some (omega arith) in
          let less : k + 1 - 1 ≡ k = omega arith in
          let at : nth (x ∷ xs) (k + 1) ≡ nth xs k = nth_rest x xs (k + 1) apart ∙ ap (nth xs) less in
          sym (ap (option_map f) at) ∙ fixed (k + 1) ∙ at
    ]) in
    ap (λ (y : A). y ∷ xs) (sym first) ∙ ap (λ (ys : List A). f x ∷ ys) rest

map_if : {A : Type 0} (f : A → A) → ((x : A) → f (f x) ≡ f x) → (b : Bool) (x : A) (xs ys : List A) → map f xs ≡ map f ys → map f (if b then f x ∷ ys else x ∷ xs) ≡ map f (x ∷ ys)
map_if {A} f twice true x xs ys e = ap (λ (y : A). y ∷ map f ys) (twice x)
map_if {A} f twice false x xs ys e = ap (λ (zs : List A). f x ∷ zs) e

map_change : {A : Type 0} (f : A → A) → ((x : A) → f (f x) ≡ f x) → (xs : List A) (n : ℕ) → map f (change_nth f xs n) ≡ map f xs
map_change f twice [] n = refl
map_change f twice (x ∷ xs) n = map_if f twice (n == 1) x (change_nth f xs (n - 1)) xs (map_change f twice xs (n - 1))

map_twice : {A : Type 0} (f : A → A) → ((x : A) → f (f x) ≡ f x) → (o : Option A) → option_map f (option_map f o) ≡ option_map f o
map_twice f twice None = refl
map_twice f twice (Some x) = ap Some (twice x)

fixed_if : {A : Type 0} (f : A → A) → ((x : A) → f (f x) ≡ f x) → (b : Bool) (o : Option A) → option_map f o ≡ o → option_map f (if b then option_map f o else o) ≡ (if b then option_map f o else o)
fixed_if f twice true o e = map_twice f twice o
fixed_if f twice false o e = e

fixed_at : {A : Type 0} (f : A → A) → ((x : A) → f (f x) ≡ f x) → (b : Bool) (o : Option A) → b ≡ true → option_map f (if b then option_map f o else o) ≡ (if b then option_map f o else o)
fixed_at f twice true o e = map_twice f twice o
fixed_at f twice false o e = cc e

-- an element is one of those to be changed, or is left as it is
abbrev pub IsCovered : {A : Type 0} → (A → A) → List A → List ℕ → ℕ → Type 0
IsCovered f xs ns k = (list_any (λ n. k == n) ns ≡ true) ⊎ (option_map f (nth xs k) ≡ nth xs k)

covered_fixed : {A : Type 0} (f : A → A) (xs : List A) (n k : ℕ) → option_map f (if k == n then option_map f (nth xs k) else nth xs k) ≡ (if k == n then option_map f (nth xs k) else nth xs k)
    → option_map f (nth (change_nth f xs n) k) ≡ nth (change_nth f xs n) k
covered_fixed {A} f xs n k e = subst (λ (o : Option A). option_map f o ≡ o) (sym (nth_change f xs n k)) e

covered_rest : {A : Type 0} (f : A → A) → ((x : A) → f (f x) ≡ f x) → (xs : List A) (n : ℕ) (ns : List ℕ) (k : ℕ) → IsCovered f xs (n ∷ ns) k → IsCovered f (change_nth f xs n) ns k
covered_rest f twice xs n ns k (inr fixed) = inr (covered_fixed f xs n k (fixed_if f twice (k == n) (nth xs k) fixed))
covered_rest {A} f twice xs n ns k (inl any) = elim (or_cases (k == n) (list_any (λ m. k == m) ns) any) [
  | inl here ↦ inr (covered_fixed f xs n k (fixed_at f twice (k == n) (nth xs k) here))
  | inr later ↦ inl later
]

nothing_left : {A : Type 0} (f : A → A) (xs : List A) (k : ℕ) → IsCovered f xs [] k → option_map f (nth xs k) ≡ nth xs k
nothing_left f xs k (inl e) = cc e
nothing_left f xs k (inr fixed) = fixed

-- changed one after another, each element that a change would alter is altered
pub changed_all : {A : Type 0} (f : A → A) → ((x : A) → f (f x) ≡ f x) → (ns : List ℕ) (xs : List A) → ((k : ℕ) → IsCovered f xs ns k) → change_all f xs ns ≡ map f xs
changed_all f twice [] xs covered = all_fixed f xs (λ k. nothing_left f xs k (covered k))
changed_all f twice (n ∷ ns) xs covered =
    changed_all f twice ns (change_nth f xs n) (λ k. covered_rest f twice xs n ns k (covered k)) ∙ map_change f twice xs n

any_step : {A : Type 0} (test : A → Bool) (b : Bool) (from n : ℕ) (x : A) (xs : List A) → list_any (λ m. n == m) (passing_numbers test (from + 1) xs) ≡ true
    → list_any (λ m. n == m) (with_first test b from x xs) ≡ true
any_step test true from n x xs e = or_second (n == from) _ e
any_step test false from n x xs e = e

any_here : {A : Type 0} (test : A → Bool) (b : Bool) (from n : ℕ) (x : A) (xs : List A) → b ≡ true → n ≡ from → list_any (λ m. n == m) (with_first test b from x xs) ≡ true
any_here test true from n x xs e same = or_left (n == from) _ (eq-eqb n from same)
any_here test false from n x xs e same = cc e

-- an element that passes is among the numbers of those that pass
pub passing_any : {A : Type 0} (test : A → Bool) (from n k : ℕ) (xs : List A) (x : A) → nth xs k ≡ Some x → test x ≡ true → n + 1 ≡ k + from
    → list_any (λ m. n == m) (numbers_in (filter (λ (p : ℕ × A). test p.1) (numbered from xs))) ≡ true
passing_any test from n k [] x e passes sum = let clash : ⊥ = cc in absurd clash
passing_any test from n k (y ∷ xs) x e passes sum = elim (cases_eq k 0) [
  | inl none ↦ let clash : None ≡ Some x = sym (nth_zero (y ∷ xs) k none) ∙ e in cc clash
  | inr some ↦ elim (cases_eq k 1) [
    | inl first ↦
        let same : y ≡ x = some_same y x (sym (nth_first y xs k first) ∙ e) in
        any_here test (test y) from n y xs (ap test same ∙ passes) (omega arith)
    | inr apart ↦
        any_step test (test y) from n y xs
        (passing_any test (from + 1) n (k - 1) xs x (sym (nth_rest y xs k apart) ∙ e) passes (omega arith))
  ]
]

-- changes that do the same to the element of a number
change_same_step : {A : Type 0} (f h : A → A) (x : A) (xs : List A) (n : ℕ) → ((n ≡ 1) ⊎ (n ≡ 1 → ⊥)) → option_map f (nth (x ∷ xs) n) ≡ option_map h (nth (x ∷ xs) n)
    → (option_map f (nth xs (n - 1)) ≡ option_map h (nth xs (n - 1)) → change_nth f xs (n - 1) ≡ change_nth h xs (n - 1)) → change_nth f (x ∷ xs) n ≡ change_nth h (x ∷ xs) n
change_same_step {A} f h x xs n (inl first) e ih =
    let here : f x ≡ h x = some_same (f x) (h x) (sym (ap (option_map f) (nth_first x xs n first)) ∙ e ∙ ap (option_map h) (nth_first x xs n first)) in
    change_first f x xs n first ∙ ap (λ (y : A). y ∷ xs) here ∙ sym (change_first h x xs n first)
change_same_step {A} f h x xs n (inr apart) e ih =
    change_rest f x xs n apart
    ∙ ap (λ (ys : List A). x ∷ ys) (ih (sym (ap (option_map f) (nth_rest x xs n apart)) ∙ e ∙ ap (option_map h) (nth_rest x xs n apart)))
    ∙ sym (change_rest h x xs n apart)

pub change_same : {A : Type 0} (f h : A → A) (xs : List A) (n : ℕ) → option_map f (nth xs n) ≡ option_map h (nth xs n) → change_nth f xs n ≡ change_nth h xs n
change_same f h [] n e = refl
change_same f h (x ∷ xs) n e = change_same_step f h x xs n (cases_eq n 1) e (change_same f h xs (n - 1))

change_id : {A : Type 0} (xs : List A) (n : ℕ) → change_nth (λ (x : A). x) xs n ≡ xs
change_id [] n = refl
change_id {A} (x ∷ xs) n = either_id (n == 1) x xs (change_nth (λ (y : A). y) xs (n - 1)) (change_id xs (n - 1))
  where
    either_id : (b : Bool) (x : A) (xs ys : List A) → ys ≡ xs → (if b then x ∷ xs else x ∷ ys) ≡ x ∷ xs
    either_id true x xs ys e = refl
    either_id false x xs ys e = ap (λ (zs : List A). x ∷ zs) e

map_id : {A : Type 0} (o : Option A) → option_map (λ (x : A). x) o ≡ o
map_id None = refl
map_id (Some x) = refl

-- a change that leaves the element of a number as it is changes nothing there
pub change_fixed : {A : Type 0} (f : A → A) (xs : List A) (n : ℕ) → option_map f (nth xs n) ≡ nth xs n → xs ≡ change_nth f xs n
change_fixed {A} f xs n e = sym (change_same f (λ (x : A). x) xs n (e ∙ sym (map_id (nth xs n))) ∙ change_id xs n)
