-- The least living incarnation above one.
use Rattle.std.proofs.Common.{◌≡◌, ℕ, zero, suc, ◌+◌, ◌<◌, Bool, true, false, not, ◌&&◌, Option, Some, None, List, [], ◌∷◌, length, take, drop, refl, sym, ap, ◌∙◌, subst, arith, cond}
use Rattle.std.specs.Prelude.{nat_le, nat_lt}
use Rattle.std.specs.List.{filter, find, list_all}
use Rattle.std.proofs.lemmas.Bool.{and_parts, and_from, lt-ltb, leb-true, le-ltb}
use Rattle.std.proofs.lemmas.Bool.Decides.{nat_tests}
use Rattle.plain_words.specs.Lists.{nth, some_pass, numbers}
use Rattle.plain_words.proofs.Booleans.{and_true, and_false}
use Rattle.sched_plain.specs.declared.row.Row.{Row}
use Rattle.sched_plain.specs.Rows.{incs_where}
use Rattle.sched_rows.specs.Answers.{is_of, lives_in, next_living}
use Rattle.sched_rows.specs.Filing.{living_rows}
use Rattle.sched_rows.specs.Order.{numbered, numbers_in, IsRising, IsPlace}
use Rattle.sched_rows.proofs.OrderLemmas.{rising_filter}
use Rattle.sched_rows.proofs.PlaceLemmas.{Each, front_passes, incs_numbered}
use Rattle.sched_rows.proofs.LivingLemmas.{filter_both, all_where, length_numbers_in}

above : {A : Type 0} (p : ℕ × A) (from : ℕ) (xs : List A) → p.0 < from → list_all (λ (q : ℕ × A). nat_lt p.0 q.0) (numbered from xs) ≡ true
above p from [] lt = refl
above p from (x ∷ xs) lt = and_from _ _ (lt-ltb p.0 from lt) (above p (from + 1) xs (omega arith))

numbered_rising : {A : Type 0} (from : ℕ) (xs : List A) → IsRising (λ (p q : ℕ × A). nat_lt p.0 q.0) (numbered from xs)
numbered_rising from [] = tt
numbered_rising from (x ∷ xs) = (above (from, x) (from + 1) xs (omega arith), numbered_rising (from + 1) xs)

each_itself : {A : Type 0} (t : ℕ → Bool) (ps : List (ℕ × A)) → Each (λ p. t p.0 ≡ t p.0) ps
each_itself t [] = tt
each_itself t (p ∷ ps) = (refl, each_itself t ps)

all_numbers : {A : Type 0} (t : ℕ → Bool) (at : ℕ) (ps : List (ℕ × A)) → list_all (λ (p : ℕ × A). t p.0) (take at ps) ≡ true → list_all t (take at (numbers_in ps)) ≡ true
all_numbers t zero ps e = refl
all_numbers t (suc at) [] e = refl
all_numbers {A} t (suc at) (p ∷ ps) e =
    let parts = and_parts (t p.0) (list_all (λ (q : ℕ × A). t q.0) (take at ps)) e in
    and_from _ _ parts.0 (all_numbers t at ps parts.1)

not_above : (after n : ℕ) (b : Bool) → nat_le n after ≡ true → not (nat_lt after n && b) ≡ true
not_above after n b e = let f : nat_lt after n ≡ false = le-ltb after n (leb-true n after e) in rw f refl

skipped : {A : Type 0} (t : A → Bool) (at : ℕ) (xs : List A) → list_all (λ x. not (t x)) (take at xs) ≡ true → find t (drop at xs) ≡ find t xs
skipped t zero xs e = refl
skipped t (suc at) [] e = refl
skipped {A} t (suc at) (x ∷ xs) e =
    let parts = and_parts (not (t x)) (list_all (λ y. not (t y)) (take at xs)) e in
    step (t x) parts.0 (skipped t at xs parts.1)
  where
    step : (b : Bool) → not b ≡ true → find t (drop at xs) ≡ find t xs → find t (drop at xs) ≡ cond b (Some x) (find t xs)
    step true e ih = cc e
    step false e ih = ih

find_filter : {A : Type 0} (t u : A → Bool) (xs : List A) → find t (filter u xs) ≡ find (λ x. t x && u x) xs
find_filter t u [] = refl
find_filter {A} t u (x ∷ xs) = step (u x) (find_filter t u xs)
  where
    step : (b : Bool) → find t (filter u xs) ≡ find (λ y. t y && u y) xs → find t (cond b (x ∷ filter u xs) (filter u xs)) ≡ cond (t x && b) (Some x) (find (λ y. t y && u y) xs)
    step true e = rw (and_true (t x)) (ap (λ (o : Option A). cond (t x) (Some x) o) e)
    step false e = rw (and_false (t x)) e

both_pass : (group : Option (List ℕ)) (o : Option Row) → some_pass (lives_in group) o ≡ (some_pass (λ (row : Row). row.lives) o && some_pass (is_of group) o)
both_pass group None = refl
both_pass group (Some row) = refl

filter_same_test : (p q : ℕ → Bool) → ((n : ℕ) → p n ≡ q n) → (ns : List ℕ) → filter p ns ≡ filter q ns
filter_same_test p q h [] = refl
filter_same_test p q h (n ∷ ns) = rw (h n, filter_same_test p q h ns) refl

-- the living of a group are those of the living that are of the group
members : (group : Option (List ℕ)) (rows : List Row) → incs_where (lives_in group) rows ≡ filter (λ n. some_pass (is_of group) (nth rows n)) (incs_where (λ row. row.lives) rows)
members group rows =
    filter_same_test (λ n. some_pass (lives_in group) (nth rows n)) (λ n. some_pass (λ (row : Row). row.lives) (nth rows n) && some_pass (is_of group) (nth rows n)) (λ n. both_pass group (nth rows n)) (numbers 1 (length rows))
    ∙ filter_both (λ n. some_pass (λ (row : Row). row.lives) (nth rows n)) (λ n. some_pass (is_of group) (nth rows n)) (numbers 1 (length rows))

pub next_found : (rows : List Row) (ns : List ℕ) (group : Option (List ℕ)) (after at : ℕ) → ns ≡ numbers_in (living_rows rows) → IsPlace (λ n. nat_le n after) ns at
    → find (λ n. nat_lt after n && some_pass (is_of group) (nth rows n)) (drop at ns) ≡ next_living rows group after
next_found rows ns group after at e place =
    let placed = subst (λ (ms : List ℕ). IsPlace (λ n. nat_le n after) ms at) e place in
    let rising = rising_filter (λ (p q : ℕ × Row). nat_lt p.0 q.0) (λ p. p.1.lives) (numbered 1 rows) (numbered_rising 1 rows) in
    let front = front_passes (λ (p q : ℕ × Row). nat_lt p.0 q.0) (λ n. nat_le n after) (λ p. nat_le p.0 after) (λ p q lt le. grind (arith, nat_tests)) (living_rows rows) at rising
    (each_itself (λ n. nat_le n after) (living_rows rows)) (omega (arith, placed.within, length_numbers_in (living_rows rows))) placed.front in
    let low = subst (λ (ms : List ℕ). list_all (λ n. nat_le n after) (take at ms) ≡ true) (sym e) (all_numbers (λ n. nat_le n after) at (living_rows rows) front) in
    let t : ℕ → Bool = λ n. nat_lt after n && some_pass (is_of group) (nth rows n) in
    skipped t at ns (all_where (λ n. nat_le n after) (λ n. not (t n)) (λ n h. not_above after n (some_pass (is_of group) (nth rows n)) h) (take at ns) low)
    ∙ ap (find t) (e ∙ sym (incs_numbered (λ row. row.lives) rows))
    ∙ sym (find_filter (nat_lt after) (λ n. some_pass (is_of group) (nth rows n)) (incs_where (λ row. row.lives) rows))
    ∙ ap (find (nat_lt after)) (sym (members group rows))
