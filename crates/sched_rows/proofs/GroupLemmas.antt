-- What the creation and the deletion of a group do to the index by name.
use Rattle.std.proofs.Common.{◌≡◌, ℕ, zero, suc, ◌+◌, ◌-◌, ◌≤◌, ◌<◌, ◌==◌, Bool, true, false, not, ◌&&◌, ◌||◌, Some, None, List, [], ◌∷◌, ◌++◌, map, length, take, drop, get_or, refl, sym, ap, ◌∙◌, subst, arith, cond, inl, inr}
use Rattle.std.specs.Prelude.{nat_eq, nat_lt}
use Rattle.std.specs.List.{filter, find, list_all, insert, position, position_or_len, starts_with}
use Rattle.std.proofs.lemmas.Bool.{and_parts, and_from, or_cases, both_ways, false_from_ne_true, eq-eqb, ne_eqb, le-ltb, lt-ltb, ltb-false}
use Rattle.plain_words.proofs.Booleans.{not_there}
use Rattle.std.proofs.lemmas.List.Quantifiers.{position-Some}
use Rattle.plain_words.specs.Lists.{nth, some_pass}
use Rattle.plain_words.specs.declared.limits.TheConstants.{MOST_GROUPS}
use Rattle.sched_plain.specs.declared.row.GroupRow.{GroupRow}
use Rattle.sched_plain.specs.Groups.{is_named}
use Rattle.sched_calls.specs.Replies.{sorted, put_sorted, text_before}
use Rattle.sched_rows.specs.declared.edge.Edge.{Edge}
use Rattle.sched_rows.specs.declared.edge.Edge.TheVariants as edges
use Rattle.sched_rows.specs.Order.{numbered, numbers_in, IsRising, IsPlace}
use Rattle.sched_rows.specs.GroupIndex.{group_before, groups_in_order, group_short, is_group_short, lowered, IsGrouped}
use Rattle.sched_rows.proofs.OrderLemmas.{IsOrder, is_apart, before_first, filter_sorted, length_sorted, sorted_map, sorted_push, insert_put, rising_put, rising_map, rising_filter, all_sorted}
use Rattle.sched_rows.proofs.NameLemmas.{text_asym, text_trans, text_total, text_itself, text_between, or_left_of, same_text_same, same_text_is}
use Rattle.sched_rows.proofs.PlaceLemmas.{Each, IsPlaced, placed, each_sorted, each_weaker, filter_numbers, front_passes, back_fails}
use Rattle.sched_rows.proofs.LivingLemmas.{all_where, not_is, length_numbers_in}
use Rattle.sched_rows.proofs.ChangeLemmas.{numbered_push, head_number, numbers_from, passing_numbers, with_first}

pub group_order : IsOrder group_before
group_order = record {
  asym = λ p q e. text_asym p.1.name q.1.name e;
  trans = λ p q r e f. text_trans p.1.name q.1.name r.1.name e f;
}

-- ---- one element that passes, taken out of the numbered ones

nothing_passes : {A : Type 0} (test : A → Bool) (from : ℕ) (xs : List A) → passing_numbers test from xs ≡ [] → list_all (λ x. not (test x)) xs ≡ true
nothing_passes test from [] e = refl
nothing_passes {A} test from (x ∷ xs) e = step (test x) e (nothing_passes test (from + 1) xs)
  where
    step : (b : Bool) → with_first test b from x xs ≡ [] → (passing_numbers test (from + 1) xs ≡ [] → list_all (λ y. not (test y)) xs ≡ true) → (not b && list_all (λ y. not (test y)) xs) ≡ true
    step true e ih = cc e
    step false e ih = ih e

pub kept_whole : {A : Type 0} (t : A → Bool) (xs : List A) → list_all t xs ≡ true → filter t xs ≡ xs
kept_whole t [] e = refl
kept_whole {A} t (x ∷ xs) e =
    let parts = and_parts (t x) (list_all t xs) e in
    rw (parts.0) (ap (λ (ys : List A). x ∷ ys) (kept_whole t xs parts.1))

-- a numbered element, where another was taken out
abbrev pub moved : {A : Type 0} → ℕ → (ℕ × A) → (ℕ × A)
moved out p = (lowered out p.0, p.1)

all_moved : {A : Type 0} (out from : ℕ) (xs : List A) → out ≤ from → numbered from xs ≡ map (moved out) (filter (λ (p : ℕ × A). not (p.0 == out)) (numbered (from + 1) xs))
all_moved out from [] le = refl
all_moved {A} out from (x ∷ xs) le =
    let apart : (from + 1 == out) ≡ false = ne_eqb (from + 1) out (λ e. omega arith) in
    let above : nat_lt out (from + 1) ≡ true = lt-ltb out (from + 1) (omega arith) in
    let less : from + 1 - 1 ≡ from = omega arith in
    rw (apart, above, less) (ap (λ (ps : List (ℕ × A)). (from, x) ∷ ps) (all_moved out (from + 1) xs (omega arith)))

pub one_out : {A : Type 0} (test : A → Bool) (from n : ℕ) (xs : List A) → passing_numbers test from xs ≡ n ∷ []
    → numbered from (filter (λ x. not (test x)) xs) ≡ map (moved n) (filter (λ (p : ℕ × A). not (p.0 == n)) (numbered from xs))
one_out test from n [] e = cc e
one_out {A} test from n (x ∷ xs) e = step (test x) e (one_out test (from + 1) n xs)
  where
    step : (b : Bool) → with_first test b from x xs ≡ n ∷ []
        → (passing_numbers test (from + 1) xs ≡ n ∷ [] → numbered (from + 1) (filter (λ y. not (test y)) xs) ≡ map (moved n) (filter (λ (p : ℕ × A). not (p.0 == n)) (numbered (from + 1) xs)))
        → numbered from (cond (not b) (x ∷ filter (λ y. not (test y)) xs) (filter (λ y. not (test y)) xs)) ≡ map (moved n) (filter (λ (p : ℕ × A). not (p.0 == n)) (numbered from (x ∷ xs)))
    step true e ih =
        let both = head_number from n _ [] e in
        let here : (from == n) ≡ true = eq-eqb from n both.0 in
        let none = nothing_passes test (from + 1) xs both.1 in
        rw here (ap (numbered {A = A} from) (kept_whole (λ y. not (test y)) xs none) ∙ all_moved n from xs (omega (arith, both.0)))
    step false e ih =
        let above : from + 1 ≤ n = numbers_from test (from + 1) n [] xs e in
        let apart : (from == n) ≡ false = ne_eqb from n (λ h. omega arith) in
        let below : nat_lt n from ≡ false = le-ltb n from (omega arith) in
        rw (apart, below) (ap (λ (ps : List (ℕ × A)). (from, x) ∷ ps) (ih e))

numbers_moved : {A : Type 0} (out : ℕ) (ps : List (ℕ × A)) → numbers_in (map (moved out) ps) ≡ map (lowered out) (numbers_in ps)
numbers_moved out [] = refl
numbers_moved out (p ∷ ps) = ap (λ (ns : List ℕ). lowered out p.0 ∷ ns) (numbers_moved out ps)

-- ---- names are apart

-- in a rising list one element at most has a name
one_named : (name : List ℕ) (ps : List (ℕ × GroupRow)) → IsRising group_before ps → length (filter (λ p. is_named name p.1) ps) ≤ 1
one_named name [] r = omega arith
one_named name (p ∷ ps) r = step (is_named name p.1) refl (one_named name ps r.1)
  where
    others : is_named name p.1 ≡ true → filter (λ q. is_named name q.1) ps ≡ []
    others is = none_left (λ q. is_named name q.1) ps (all_where (group_before p) (λ q. not (is_named name q.1)) (λ q lt. ap not (false_from_ne_true (is_named name q.1) (λ h.
        both_ways (text_before p.1.name q.1.name)
        (subst (λ (x : List ℕ). text_before p.1.name x ≡ false) (sym (same_text_same name p.1.name is) ∙ same_text_same name q.1.name h) (text_itself p.1.name)) lt))) ps r.0)
      where
        none_left : {A : Type 0} (t : A → Bool) (xs : List A) → list_all (λ x. not (t x)) xs ≡ true → filter t xs ≡ []
        none_left t [] e = refl
        none_left t (x ∷ xs) e = let parts = and_parts (not (t x)) (list_all (λ y. not (t y)) xs) e in rw (not_is (t x) parts.0) (none_left t xs parts.1)

    step : (b : Bool) → b ≡ is_named name p.1 → length (filter (λ q. is_named name q.1) ps) ≤ 1 → length (cond b (p ∷ filter (λ q. is_named name q.1) ps) (filter (λ q. is_named name q.1) ps)) ≤ 1
    step true is ih = omega (arith, ap length (others (sym is)))
    step false is ih = ih

first_passing : {A : Type 0} (test : A → Bool) (from i : ℕ) (xs : List A) (d : A) → i < length xs → test (get_or xs i d) ≡ true → ((k : ℕ) → k < i → test (get_or xs k d) ≡ false)
    → (ns : List ℕ) × (passing_numbers test from xs ≡ (from + i) ∷ ns)
first_passing test from i [] d within here front = absurd (omega arith)
first_passing {A} test from zero (x ∷ xs) d within here front =
    let e : from ≡ from + 0 = omega arith in
    (passing_numbers test (from + 1) xs, rw here (ap (λ (n : ℕ). n ∷ passing_numbers test (from + 1) xs) e))
first_passing {A} test from (suc i) (x ∷ xs) d within here front =
    let ih = first_passing test (from + 1) i xs d (omega arith) here (λ k lt. front (suc k) (omega arith)) in
    let e : from + 1 + i ≡ from + suc i = omega arith in
    let not_here : test x ≡ false = front 0 (omega arith) in
    (ih.0, rw not_here (ih.1 ∙ ap (λ (n : ℕ). n ∷ ih.0) e))

no_more : (n : ℕ) (ns ms : List ℕ) → ms ≡ n ∷ ns → length ms ≤ 1 → ms ≡ n ∷ []
no_more n [] ms e le = e
no_more n (m ∷ ns) ms e le = absurd (omega (arith, ap length e))

-- the group of a name stands where it was found, and there alone
pub found_alone : (name : List ℕ) (groups : List GroupRow) (i : ℕ) → IsRising group_before (groups_in_order groups) → position (is_named name) groups ≡ Some i
    → passing_numbers (is_named name) 1 groups ≡ (i + 1) ∷ []
found_alone name [] i rising e = cc e
found_alone name (g ∷ groups) i rising e =
    let all = g ∷ groups in
    let found = position-Some (is_named name) all i g e in
    let first = first_passing (is_named name) 1 i all g found.0 found.1 found.2 in
    let t : ℕ × GroupRow → Bool = λ p. is_named name p.1 in
    let few : length (passing_numbers (is_named name) 1 all) ≤ 1 =
    omega (
      arith,
      length_numbers_in (filter t (numbered 1 all)),
      length_sorted group_before (filter t (numbered 1 all)),
      ap length (filter_sorted group_before group_order t (numbered 1 all) rising),
      one_named name (groups_in_order all) rising,
    ) in
    let at : 1 + i ≡ i + 1 = omega arith in
    no_more (1 + i) first.0 _ first.1 few ∙ ap (λ (n : ℕ). n ∷ []) at

each_true : {A : Type 0} (P : A → Type 0) → ((x : A) → P x) → (xs : List A) → Each P xs
each_true P h [] = tt
each_true P h (x ∷ xs) = (h x, each_true P h xs)

length_filter : {A : Type 0} (t : A → Bool) (xs : List A) → length (filter t xs) ≤ length xs
length_filter t [] = omega arith
length_filter {A} t (x ∷ xs) = step (t x) (length_filter t xs)
  where
    step : (b : Bool) → length (filter t xs) ≤ length xs → length (cond b (x ∷ filter t xs) (filter t xs)) ≤ suc (length xs)
    step true le = omega arith
    step false le = omega arith

-- the index after a group is taken out
pub grouped_less : (name : List ℕ) (groups : List GroupRow) (places : List ℕ) (i : ℕ) → IsGrouped groups places → position (is_named name) groups ≡ Some i
    → IsGrouped (filter (λ group. not (is_named name group)) groups) (map (lowered (i + 1)) (filter (λ n. not (n == i + 1)) places))
grouped_less name groups places i index e =
    let n = i + 1 in
    let stays : ℕ × GroupRow → Bool = λ p. not (p.0 == n) in
    let left = filter (λ group. not (is_named name group)) groups in
    let alone = found_alone name groups i index.apart e in
    let ordered : groups_in_order left ≡ map (moved n) (filter stays (groups_in_order groups)) =
    ap (sorted group_before) (one_out (is_named name) 1 n groups alone)
    ∙ sorted_map (moved n) group_before group_before (λ p q. refl) (filter stays (numbered 1 groups))
    ∙ ap (map (moved n)) (sym (filter_sorted group_before group_order stays (numbered 1 groups) index.apart)) in
    record {
      few = omega (arith, index.few, length_filter (λ group. not (is_named name group)) groups);
      names =
          ap (λ (ns : List ℕ). map (lowered n) (filter (λ m. not (m == n)) ns)) index.names
          ∙ ap (map (lowered n)) (filter_numbers (λ m. not (m == n)) stays (groups_in_order groups) (each_true (λ p. not (p.0 == n) ≡ stays p) (λ p. refl) (groups_in_order groups)))
          ∙ sym (ap (numbers_in {A = GroupRow}) ordered ∙ numbers_moved n (filter stays (groups_in_order groups)));
      apart = subst (IsRising group_before) (sym ordered)
          (rising_map (moved n) group_before group_before (λ p q. refl) (filter stays (groups_in_order groups)) (rising_filter group_before stays (groups_in_order groups) index.apart));
    }

absent_from : {A : Type 0} (p : A → Bool) (xs : List A) → length xs ≤ position_or_len p xs → list_all (λ x. not (p x)) xs ≡ true
absent_from p [] le = refl
absent_from {A} p (x ∷ xs) le = step (p x) le (absent_from p xs)
  where
    step : (b : Bool) → suc (length xs) ≤ cond (not b) (1 + position_or_len p xs) 0 → (length xs ≤ position_or_len p xs → list_all (λ y. not (p y)) xs ≡ true) → (not b && list_all (λ y. not (p y)) xs) ≡ true
    step true le ih = absurd (omega arith)
    step false le ih = ih (omega arith)

-- where no group has a name, none is taken out
pub none_out : (name : List ℕ) (groups : List GroupRow) → None ≡ position (is_named name) groups → groups ≡ filter (λ group. not (is_named name group)) groups
none_out name groups e =
    let past = not_there (nat_lt (position_or_len (is_named name) groups) (length groups)) _ (sym e) in
    sym (kept_whole (λ group. not (is_named name group)) groups (absent_from (is_named name) groups (ltb-false _ _ past)))

none_found : {A : Type 0} (p : A → Bool) (xs : List A) → find p xs ≡ None → list_all (λ x. not (p x)) xs ≡ true
none_found p [] e = refl
none_found {A} p (x ∷ xs) e = step (p x) e (none_found p xs)
  where
    step : (b : Bool) → cond b (Some x) (find p xs) ≡ None → (find p xs ≡ None → list_all (λ y. not (p y)) xs ≡ true) → (not b && list_all (λ y. not (p y)) xs) ≡ true
    step true e ih = cc e
    step false e ih = ih e

all_numbered : {A : Type 0} (t : A → Bool) (from : ℕ) (xs : List A) → list_all t xs ≡ true → list_all (λ (p : ℕ × A). t p.1) (numbered from xs) ≡ true
all_numbered t from [] e = refl
all_numbered t from (x ∷ xs) e = let parts = and_parts (t x) (list_all t xs) e in and_from _ _ parts.0 (all_numbered t (from + 1) xs parts.1)

group_apart : (group : GroupRow) (n : ℕ) (p : ℕ × GroupRow) → not (is_named group.name p.1) ≡ true → is_apart group_before (n, group) p ≡ true
group_apart group n p e = step (text_before group.name p.1.name) (text_before p.1.name group.name) refl refl
  where
    step : (b c : Bool) → b ≡ text_before group.name p.1.name → c ≡ text_before p.1.name group.name → (b || c) ≡ true
    step true c is back = refl
    step false true is back = refl
    step false false is back = absurd (both_ways (is_named group.name p.1) (not_is _ e) (same_text_is group.name p.1.name (text_total group.name p.1.name (sym is) (sym back))))

apart_before : (b c : Bool) → (b || c) ≡ true → not c ≡ true → b ≡ true
apart_before true c e f = refl
apart_before false true e f = cc f
apart_before false false e f = cc e

all_drop : {A : Type 0} (t : A → Bool) (at : ℕ) (xs : List A) → list_all t xs ≡ true → list_all t (drop at xs) ≡ true
all_drop t zero xs e = e
all_drop t (suc at) [] e = refl
all_drop t (suc at) (x ∷ xs) e = all_drop t at xs (and_parts (t x) (list_all t xs) e).1

first_behind : (z : ℕ × GroupRow) (ps : List (ℕ × GroupRow)) → list_all (is_apart group_before z) ps ≡ true → list_all (λ p. not (group_before p z)) ps ≡ true → before_first group_before z ps ≡ true
first_behind z [] e f = refl
first_behind z (p ∷ ps) e f =
    apart_before (group_before z p) (group_before p z) (and_parts (is_apart group_before z p) (list_all (is_apart group_before z) ps) e).0 (and_parts (not (group_before p z)) (list_all (λ q. not (group_before q z)) ps) f).0

numbers_insert : (ps : List (ℕ × GroupRow)) (at : ℕ) (z : ℕ × GroupRow) → insert (numbers_in ps) at z.0 ≡ numbers_in (insert ps at z)
numbers_insert ps zero z = refl
numbers_insert [] (suc at) z = refl
numbers_insert (p ∷ ps) (suc at) z = ap (λ (ns : List ℕ). p.0 ∷ ns) (numbers_insert ps at z)

-- each group stands at its place
pub groups_placed : (groups : List GroupRow) → Each (IsPlaced groups) (groups_in_order groups)
groups_placed groups = each_sorted (IsPlaced groups) group_before (numbered 1 groups) (placed groups)

pub group_tested : (t : GroupRow → Bool) (groups : List GroupRow) → Each (λ p. some_pass t (nth groups p.0) ≡ t p.1) (groups_in_order groups)
group_tested t groups =
    each_weaker (IsPlaced groups) (λ p. some_pass t (nth groups p.0) ≡ t p.1) (λ p e. ap (some_pass t) e) (groups_in_order groups) (groups_placed groups)

-- what comes before a group that is short of a bound is short of it too
group_short_before : (name : List ℕ) (edge : Edge) (p q : ℕ × GroupRow) → group_before p q ≡ true → is_group_short name edge q.1 ≡ true → is_group_short name edge p.1 ≡ true
group_short_before name edges.Before p q e f = text_trans p.1.name q.1.name name e f
group_short_before name edges.Behind p q e f = elim (or_cases (text_before q.1.name name) (starts_with nat_eq q.1.name name) f) [
  | inl less ↦ or_left_of (text_before p.1.name name) (starts_with nat_eq p.1.name name) (text_trans p.1.name q.1.name name e less)
  | inr begins ↦ text_between name p.1.name q.1.name e begins
]

-- the two parts of the index at a place
pub record GroupsParted (name : List ℕ) (edge : Edge) (ps : List (ℕ × GroupRow)) (at : ℕ) : Type 0 where
  pub front : list_all (λ p. is_group_short name edge p.1) (take at ps) ≡ true
  pub back : list_all (λ p. not (is_group_short name edge p.1)) (drop at ps) ≡ true

pub groups_parted : (groups : List GroupRow) (places : List ℕ) (name : List ℕ) (edge : Edge) (at : ℕ) → IsGrouped groups places → IsPlace (group_short groups name edge) places at
    → GroupsParted name edge (groups_in_order groups) at
groups_parted groups places name edge at index place =
    let placed = subst (λ (ns : List ℕ). IsPlace (group_short groups name edge) ns at) index.names place in
    let long = length_numbers_in (groups_in_order groups) in
    let t : GroupRow → Bool = is_group_short name edge in
    record {
      front = front_passes group_before (group_short groups name edge) (λ p. t p.1) (group_short_before name edge) (groups_in_order groups) at index.apart (group_tested t groups) (omega (arith, placed.within)) placed.front;
      back = back_fails group_before (group_short groups name edge) (λ p. t p.1) (group_short_before name edge) (groups_in_order groups) at index.apart (group_tested t groups) (λ lt. placed.back (omega arith));
    }

-- the index after a group is created
pub grouped_more : (groups : List GroupRow) (places : List ℕ) (group : GroupRow) (at n : ℕ) → IsGrouped groups places → find (is_named group.name) groups ≡ None
    → IsPlace (group_short groups group.name edges.Before) places at → n ≡ length groups + 1 → n ≤ MOST_GROUPS → IsGrouped (groups ++ group ∷ []) (insert places at n)
grouped_more groups places group at n index free place e few =
    let z : ℕ × GroupRow = (n, group) in
    let parts = groups_parted groups places group.name edges.Before at index place in
    let pushed : numbered 1 (groups ++ group ∷ []) ≡ numbered 1 groups ++ z ∷ [] = numbered_push 1 n groups group (omega arith) in
    let apart : list_all (is_apart group_before z) (numbered 1 groups) ≡ true =
    all_where (λ p. not (is_named group.name p.1)) (is_apart group_before z) (group_apart group n) (numbered 1 groups)
    (all_numbered (λ g. not (is_named group.name g)) 1 groups (none_found (is_named group.name) groups free)) in
    let apart_sorted : list_all (is_apart group_before z) (groups_in_order groups) ≡ true = all_sorted (is_apart group_before z) group_before (numbered 1 groups) ∙ apart in
    let ordered : groups_in_order (groups ++ group ∷ []) ≡ put_sorted group_before z (groups_in_order groups) =
    ap (sorted group_before) pushed ∙ sorted_push group_before group_order z (numbered 1 groups) apart in
    let front : list_all (λ p. not (group_before z p)) (take at (groups_in_order groups)) ≡ true =
    all_where (λ p. group_before p z) (λ p. not (group_before z p)) (λ p h. ap not (group_order.asym p z h)) (take at (groups_in_order groups)) parts.front in
    let rest : before_first group_before z (drop at (groups_in_order groups)) ≡ true =
    first_behind z (drop at (groups_in_order groups)) (all_drop (is_apart group_before z) at (groups_in_order groups) apart_sorted) parts.back in
    let put : insert (groups_in_order groups) at z ≡ put_sorted group_before z (groups_in_order groups) = insert_put group_before z at (groups_in_order groups) front rest in
    record {
      few = omega (arith, length_more groups group);
      names = ap (λ (ns : List ℕ). insert ns at n) index.names ∙ numbers_insert (groups_in_order groups) at z ∙ ap (numbers_in {A = GroupRow}) (put ∙ sym ordered);
      apart = subst (IsRising group_before) (sym ordered) (rising_put group_before group_order z (groups_in_order groups) apart_sorted index.apart);
    }
  where
    length_more : (groups : List GroupRow) (group : GroupRow) → length (groups ++ group ∷ []) ≡ length groups + 1
    length_more [] group = refl
    length_more (g ∷ groups) group = ap suc (length_more groups group) ∙ omega arith
