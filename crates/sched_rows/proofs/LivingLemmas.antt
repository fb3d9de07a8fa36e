-- The index of the living by name: what stands at the place of a name.
use Rattle.std.proofs.Common.{◌≡◌, ℕ, zero, suc, ◌≤◌, ◌<◌, Bool, true, false, not, ◌&&◌, ◌||◌, Option, Some, None, List, [], ◌∷◌, ◌++◌, length, take, drop, get_or, option_map, refl, sym, ap, ◌∙◌, subst, arith, cond, inl, inr}
use Rattle.std.specs.Prelude.{nat_eq, if◌then◌else◌}
use Rattle.std.specs.List.{filter, list_all, starts_with}
use Rattle.std.proofs.lemmas.Bool.{and_parts, and_from, or_cases, both_ways, false_from_ne_true}
use Rattle.std.proofs.lemmas.List.{take-append-drop}
use Rattle.std.proofs.lemmas.List.Elements.{filter-append, filter_agree}
use Rattle.plain_words.specs.Lists.{nth, head, some_pass, same_text}
use Rattle.plain_words.proofs.ListLemmas.{nth_map}
use Rattle.sched_calls.specs.Replies.{sorted, text_before, name_before}
use Rattle.sched_plain.specs.declared.row.Row.{Row}
use Rattle.sched_plain.specs.Rows.{is_at, living}
use Rattle.sched_rows.specs.State.{Kept, rows_in}
use Rattle.sched_rows.specs.Order.{numbered, numbers_in, IsRising, IsPlace}
use Rattle.sched_rows.specs.declared.edge.Edge.{Edge}
use Rattle.sched_rows.specs.declared.edge.Edge.TheVariants as edges
use Rattle.sched_rows.specs.Filing.{is_within, is_short_of, comes_short, living_rows, row_before, in_order, has_names, is_called, IsByName}
use Rattle.sched_rows.proofs.OrderLemmas.{IsOrder, filter_sorted, length_sorted, if_false}
use Rattle.sched_rows.proofs.NameLemmas.{name_asym, name_trans, name_total, name_itself, same_text_same, same_text_is, before_is, before_from, text_between, or_left_of, or_right_of, Before}
use Rattle.sched_rows.proofs.PlaceLemmas.{Each, IsPlaced, placed, each_filter, each_sorted, each_weaker, incs_numbered, front_passes, back_fails}

pub row_order : IsOrder row_before
row_order = record {
  asym = λ p q e. name_asym p.1.group p.1.name q.1.group q.1.name e;
  trans = λ p q r e f. name_trans p.1.group p.1.name q.1.group q.1.name r.1.group r.1.name e f;
}

-- each living row stands at its number
pub living_placed : (rows : List Row) → Each (IsPlaced rows) (in_order rows)
living_placed rows = each_sorted (IsPlaced rows) row_before (living_rows rows) (each_filter (IsPlaced rows) (λ p. p.1.lives) (numbered 1 rows) (placed rows))

pub kept_pass : (t : Row → Bool) (o : Option Kept) → some_pass (λ k. t k.row) o ≡ some_pass t (option_map (λ k. k.row) o)
kept_pass t None = refl
kept_pass t (Some k) = refl

-- a test of the row of a number is one of the row that stands there
pub tested : (t : Row → Bool) (kept : List Kept) → Each (λ p. some_pass (λ k. t k.row) (nth kept p.0) ≡ t p.1) (in_order (rows_in kept))
tested t kept =
    each_weaker (IsPlaced (rows_in kept)) (λ p. some_pass (λ k. t k.row) (nth kept p.0) ≡ t p.1)
    (λ p e. kept_pass t (nth kept p.0) ∙ ap (some_pass t) (sym (nth_map (λ (k : Kept). k.row) kept p.0) ∙ e)) (in_order (rows_in kept)) (living_placed (rows_in kept))

-- ---- a bound of names

pub not_is : (b : Bool) → not b ≡ true → b ≡ false
not_is true e = cc e
not_is false e = refl

-- what comes before a row whose name begins with a text comes before that text, or its name begins with it too
before_within : (g n : List ℕ) (p q : Row) → Before p.group p.name q.group q.name → (same_text g q.group ≡ true) × (starts_with nat_eq q.name n ≡ true)
    → (name_before p.group p.name g n || is_within g n p) ≡ true
before_within g n p q (inl less) parts =
    let lower : text_before p.group g ≡ true = subst (λ (x : List ℕ). text_before p.group x ≡ true) (sym (same_text_same g q.group parts.0)) less in
    or_left_of (name_before p.group p.name g n) _ (before_from p.group p.name g n (inl lower))
before_within g n p q (inr same) parts =
    let there : g ≡ p.group = same_text_same g q.group parts.0 ∙ sym same.0 in
    elim (or_cases (text_before p.name n) (starts_with nat_eq p.name n) (text_between n p.name q.name same.1 parts.1)) [
      | inl less ↦ or_left_of (name_before p.group p.name g n) _ (before_from p.group p.name g n (inr (sym there, less)))
      | inr begins ↦ or_right_of (name_before p.group p.name g n) _ (and_from (same_text g p.group) _ (same_text_is g p.group there) begins)
    ]

-- what comes before a row that is short of a bound is short of it too
pub short_before : (group name : List ℕ) (edge : Edge) (p q : ℕ × Row) → row_before p q ≡ true → is_short_of group name edge q.1 ≡ true → is_short_of group name edge p.1 ≡ true
short_before group name edges.Before p q e f = name_trans p.1.group p.1.name q.1.group q.1.name group name e f
short_before group name edges.Behind p q e f = elim (or_cases (name_before q.1.group q.1.name group name) (is_within group name q.1) f) [
  | inl less ↦ or_left_of (name_before p.1.group p.1.name group name) (is_within group name p.1) (name_trans p.1.group p.1.name q.1.group q.1.name group name e less)
  | inr within ↦ before_within group name p.1 q.1 (before_is p.1.group p.1.name q.1.group q.1.name e) (and_parts (same_text group q.1.group) (starts_with nat_eq q.1.name name) within)
]

-- the two parts of the index at a place
pub record Parted (group name : List ℕ) (edge : Edge) (placed : List (ℕ × Row)) (at : ℕ) : Type 0 where
  pub front : list_all (λ p. is_short_of group name edge p.1) (take at placed) ≡ true
  pub back : list_all (λ p. not (is_short_of group name edge p.1)) (drop at placed) ≡ true

pub length_numbers_in : {A : Type 0} (ps : List (ℕ × A)) → length (numbers_in ps) ≡ length ps
length_numbers_in [] = refl
length_numbers_in (p ∷ ps) = ap suc (length_numbers_in ps)

pub parted : (kept : List Kept) (numbers : List ℕ) (group name : List ℕ) (edge : Edge) (at : ℕ) → IsByName (rows_in kept) numbers
    → IsPlace (comes_short kept group name edge) numbers at → Parted group name edge (in_order (rows_in kept)) at
parted kept numbers group name edge at index place =
    let placed = subst (λ (ns : List ℕ). IsPlace (comes_short kept group name edge) ns at) index.names place in
    let long = length_numbers_in (in_order (rows_in kept)) in
    record {
      front = front_passes row_before (comes_short kept group name edge) (λ p. is_short_of group name edge p.1) (short_before group name edge) (in_order (rows_in kept)) at
          index.apart (tested (is_short_of group name edge) kept) (omega (arith, placed.within)) placed.front;
      back = back_fails row_before (comes_short kept group name edge) (λ p. is_short_of group name edge p.1) (short_before group name edge) (in_order (rows_in kept)) at
          index.apart (tested (is_short_of group name edge) kept) (λ lt. placed.back (omega arith));
    }

-- ---- the living row of a name

-- the first element alone, where it passes
abbrev pub first_if : {A : Type 0} → (A → Bool) → List A → List A
first_if t [] = []
first_if t (x ∷ xs) = if t x then x ∷ [] else []

pub none_pass : {A : Type 0} (t : A → Bool) (xs : List A) → list_all (λ x. not (t x)) xs ≡ true → filter t xs ≡ []
none_pass t [] e = refl
none_pass t (x ∷ xs) e =
    let parts = and_parts (not (t x)) (list_all (λ y. not (t y)) xs) e in
    if_false (t x) (x ∷ filter t xs) (filter t xs) (not_is _ parts.0) ∙ none_pass t xs parts.1

pub all_where : {A : Type 0} (p q : A → Bool) → ((x : A) → p x ≡ true → q x ≡ true) → (xs : List A) → list_all p xs ≡ true → list_all q xs ≡ true
all_where p q weaker [] e = refl
all_where p q weaker (x ∷ xs) e =
    let parts = and_parts (p x) (list_all p xs) e in
    and_from (q x) (list_all q xs) (weaker x parts.0) (all_where p q weaker xs parts.1)

module _ (g n : List ℕ) where
  named : ℕ × Row → Bool
  named p = has_names g n p.1

-- the row has just these names
pub names_are : (g n : List ℕ) (row : Row) → has_names g n row ≡ true → (g ≡ row.group) × (n ≡ row.name)
names_are g n row e =
    let parts = and_parts (same_text g row.group) (same_text n row.name) e in
    (same_text_same g row.group parts.0, same_text_same n row.name parts.1)

names_from : (g n : List ℕ) (row : Row) → g ≡ row.group → n ≡ row.name → has_names g n row ≡ true
names_from g n row e f = and_from _ _ (same_text_is g row.group e) (same_text_is n row.name f)

pub short_other : (g n : List ℕ) (row : Row) → name_before row.group row.name g n ≡ true → not (has_names g n row) ≡ true
short_other g n row e =
    ap not (false_from_ne_true _ (λ h. let same = names_are g n row h in
    both_ways (name_before row.group row.name g n) (subst (λ (x : List ℕ). name_before row.group row.name x n ≡ false) (sym same.0)
    (subst (λ (x : List ℕ). name_before row.group row.name row.group x ≡ false) (sym same.1) (name_itself row.group row.name))) e))

behind_other : (g n : List ℕ) (row : Row) → name_before g n row.group row.name ≡ true → not (has_names g n row) ≡ true
behind_other g n row e =
    ap not (false_from_ne_true _ (λ h. let same = names_are g n row h in
    both_ways (name_before g n row.group row.name) (subst (λ (x : List ℕ). name_before g n x row.name ≡ false) same.0
    (subst (λ (x : List ℕ). name_before g n g x ≡ false) same.1 (name_itself g n))) e))

-- the first row from the place on is the only one that may have the name
first_named : (g n : List ℕ) (ps : List (ℕ × Row)) → IsRising row_before ps → list_all (λ p. not (name_before p.1.group p.1.name g n)) ps ≡ true
    → filter (λ p. has_names g n p.1) ps ≡ first_if (λ p. has_names g n p.1) ps
first_named g n [] rising back = refl
first_named g n (p ∷ ps) rising back =
    ap (λ (rest : List (ℕ × Row)). cond (has_names g n p.1) (p ∷ rest) rest) (none_pass (λ q. has_names g n q.1) ps (all_where (row_before p) (λ q. not (has_names g n q.1)) later ps rising.0))
  where
    not_short : name_before p.1.group p.1.name g n ≡ false
    not_short = not_is _ (and_parts (not (name_before p.1.group p.1.name g n)) (list_all (λ q. not (name_before q.1.group q.1.name g n)) ps) back).0

    later_from : (b : Bool) → b ≡ name_before g n p.1.group p.1.name → (q : ℕ × Row) → row_before p q ≡ true → name_before g n q.1.group q.1.name ≡ true
    later_from true e q lt = name_trans g n p.1.group p.1.name q.1.group q.1.name (sym e) lt
    later_from false e q lt =
        let same = name_total p.1.group p.1.name g n not_short (sym e) in
        subst (λ (x : List ℕ). name_before x n q.1.group q.1.name ≡ true) same.0 (subst (λ (x : List ℕ). name_before p.1.group x q.1.group q.1.name ≡ true) same.1 lt)

    later : (q : ℕ × Row) → row_before p q ≡ true → not (has_names g n q.1) ≡ true
    later q lt = behind_other g n q.1 (later_from (name_before g n p.1.group p.1.name) refl q lt)

pub rising_drop : {A : Type 0} (before : A → A → Bool) (at : ℕ) (xs : List A) → IsRising before xs → IsRising before (drop at xs)
rising_drop before zero xs r = r
rising_drop before (suc at) [] r = tt
rising_drop before (suc at) (x ∷ xs) r = rising_drop before at xs r.1

named_at : (g n : List ℕ) (ps : List (ℕ × Row)) (at : ℕ) → IsRising row_before ps → Parted g n edges.Before ps at
    → filter (λ p. has_names g n p.1) ps ≡ first_if (λ p. has_names g n p.1) (drop at ps)
named_at g n ps at rising parts =
    let t : ℕ × Row → Bool = λ p. has_names g n p.1 in
    ap (filter t) (sym (take-append-drop at ps)) ∙ filter-append t (take at ps) (drop at ps)
    ∙ ap (λ (front : List (ℕ × Row)). front ++ filter t (drop at ps))
    (none_pass t (take at ps) (all_where (λ p. name_before p.1.group p.1.name g n) (λ p. not (t p)) (λ p e. short_other g n p.1 e) (take at ps) parts.front))
    ∙ first_named g n (drop at ps) (rising_drop row_before at ps rising) parts.back

-- a list of at most one element is sorted
pub sorted_alone : {A : Type 0} (before : A → A → Bool) (t : A → Bool) (xs ys : List A) → sorted before xs ≡ first_if t ys → xs ≡ first_if t ys
sorted_alone {A} before t xs ys e = one xs (subst (λ (zs : List A). length zs ≤ 1) (sym e) (short ys)) ∙ e
  where
    short_if : (b : Bool) (y : A) → length (if b then y ∷ [] else []) ≤ 1
    short_if true y = omega arith
    short_if false y = omega arith

    short : (ys : List A) → length (first_if t ys) ≤ 1
    short [] = omega arith
    short (y ∷ ys) = short_if (t y) y

    one : (xs : List A) → length (sorted before xs) ≤ 1 → xs ≡ sorted before xs
    one [] le = refl
    one (x ∷ []) le = refl
    one (x ∷ y ∷ xs) le = absurd (omega (arith, length_sorted before (x ∷ y ∷ xs)))

pub and_assoc : (a b c : Bool) → ((a && b) && c) ≡ (a && (b && c))
and_assoc true b c = refl
and_assoc false b c = refl

pub filter_both : {A : Type 0} (p q : A → Bool) (xs : List A) → filter (λ x. p x && q x) xs ≡ filter q (filter p xs)
filter_both p q [] = refl
filter_both {A} p q (x ∷ xs) = step (p x) (filter_both p q xs)
  where
    step : (b : Bool) → filter (λ x. p x && q x) xs ≡ filter q (filter p xs)
        → cond (b && q x) (x ∷ filter (λ x. p x && q x) xs) (filter (λ x. p x && q x) xs) ≡ filter q (cond b (x ∷ filter p xs) (filter p xs))
    step true e = ap (λ (rest : List A). cond (q x) (x ∷ rest) rest) e
    step false e = e

-- what lives under a name stands, if anywhere, at its place in the index
pub living_is : (rows : List Row) (g n : List ℕ) (at : ℕ) → IsRising row_before (in_order rows) → Parted g n edges.Before (in_order rows) at
    → living rows g n ≡ head (numbers_in (first_if (λ p. has_names g n p.1) (drop at (in_order rows))))
living_is rows g n at rising parts =
    let t : ℕ × Row → Bool = λ p. has_names g n p.1 in
    let kept : filter (λ p. is_at g n p.1) (numbered 1 rows) ≡ filter t (living_rows rows) =
    filter_agree (λ p. is_at g n p.1) (λ p. p.1.lives && has_names g n p.1) (λ p. and_assoc p.1.lives (same_text g p.1.group) (same_text n p.1.name)) (numbered 1 rows)
    ∙ filter_both (λ p. p.1.lives) t (numbered 1 rows) in
    let alone : filter t (living_rows rows) ≡ first_if t (drop at (in_order rows)) =
    sorted_alone row_before t (filter t (living_rows rows)) (drop at (in_order rows))
    (sym (filter_sorted row_before row_order t (living_rows rows) rising) ∙ named_at g n (in_order rows) at rising parts) in
    ap head (incs_numbered (is_at g n) rows ∙ ap (numbers_in {A = Row}) (kept ∙ alone))

-- ---- as the code asks for it

at_found : (u : ℕ → Bool) (t : ℕ × Row → Bool) (ps : List (ℕ × Row)) (at : ℕ) → Each (λ p. u p.0 ≡ t p) ps → at < length (numbers_in ps)
    → (b : Bool) → u (get_or (numbers_in ps) at 0) ≡ b → head (numbers_in (first_if t (drop at ps))) ≡ (if b then Some (get_or (numbers_in ps) at 0) else None)
at_found u t [] at e within b is = absurd (omega arith)
at_found u t (p ∷ ps) zero e within b is =
    let same : t p ≡ b = sym e.0 ∙ is in
    by_test (t p) b same
  where
    by_test : (c b : Bool) → c ≡ b → head (numbers_in (if c then p ∷ [] else [])) ≡ (if b then Some p.0 else None)
    by_test true true e = refl
    by_test true false e = cc e
    by_test false true e = cc e
    by_test false false e = refl
at_found u t (p ∷ ps) (suc at) e within b is = at_found u t ps at e.1 (omega arith) b is

pub living_found : (kept : List Kept) (numbers : List ℕ) (g n : List ℕ) (at : ℕ) → IsByName (rows_in kept) numbers → IsPlace (comes_short kept g n edges.Before) numbers at
    → at < length numbers → (b : Bool) → is_called kept g n (get_or numbers at 0) ≡ b → (if b then Some (get_or numbers at 0) else None) ≡ living (rows_in kept) g n
living_found kept numbers g n at index place within b is =
    let e = index.names in
    let parts = parted kept numbers g n edges.Before at index place in
    let found = at_found (is_called kept g n) (λ p. has_names g n p.1) (in_order (rows_in kept)) at (tested (has_names g n) kept)
    (subst (λ (ns : List ℕ). at < length ns) e within) b (subst (λ (ns : List ℕ). is_called kept g n (get_or ns at 0) ≡ b) e is) in
    subst (λ (ns : List ℕ). (if b then Some (get_or ns at 0) else None) ≡ living (rows_in kept) g n) (sym e)
    (sym (living_is (rows_in kept) g n at index.apart parts ∙ found))

pub drop_past : {A : Type 0} (at : ℕ) (xs : List A) → length xs ≤ at → drop at xs ≡ []
drop_past zero [] le = refl
drop_past zero (x ∷ xs) le = absurd (omega arith)
drop_past (suc at) [] le = refl
drop_past (suc at) (x ∷ xs) le = drop_past at xs (omega arith)

pub living_past : (kept : List Kept) (numbers : List ℕ) (g n : List ℕ) (at : ℕ) → IsByName (rows_in kept) numbers → IsPlace (comes_short kept g n edges.Before) numbers at
    → length numbers ≤ at → None ≡ living (rows_in kept) g n
living_past kept numbers g n at index place past =
    let parts = parted kept numbers g n edges.Before at index place in
    let long : length (in_order (rows_in kept)) ≤ at = omega (arith, length_numbers_in (in_order (rows_in kept)), ap length index.names) in
    sym (living_is (rows_in kept) g n at index.apart parts
    ∙ ap (λ (ps : List (ℕ × Row)). head (numbers_in (first_if (λ p. has_names g n p.1) ps))) (drop_past at (in_order (rows_in kept)) long))
