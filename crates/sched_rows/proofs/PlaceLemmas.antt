-- Numbered elements, and the place in a rising list from which on a test fails.
use Rattle.std.proofs.Common.{◌≡◌, ℕ, zero, suc, ◌+◌, ◌-◌, ◌≤◌, ◌<◌, Bool, true, false, not, Some, None, List, [], ◌∷◌, ◌++◌, length, take, drop, get_or, refl, sym, ap, ◌∙◌, subst, arith, append_assoc, cond}
use Rattle.std.specs.Prelude.{if◌then◌else◌}
use Rattle.std.specs.List.{filter, list_all}
use Rattle.std.proofs.lemmas.Bool.{and_parts, and_from, both_ways, false_from_ne_true}
use Rattle.plain_words.specs.Lists.{nth, numbers, some_pass}
use Rattle.plain_words.proofs.ListLemmas.{nth_first, nth_rest}
use Rattle.sched_calls.specs.Replies.{put_sorted, sorted}
use Rattle.sched_plain.specs.declared.row.Row.{Row}
use Rattle.sched_plain.specs.Rows.{incs_where}
use Rattle.sched_rows.specs.Order.{numbered, numbers_in, IsRising}

-- ---- what holds of each element

abbrev pub Each : {A : Type 0} → (A → Type 0) → List A → Type 0
Each P [] = Unit {0}
Each P (x ∷ xs) = P x × Each P xs

each_kept : {A : Type 0} (P : A → Type 0) (b : Bool) (x : A) (xs : List A) → P x → Each P xs → Each P (cond b (x ∷ xs) xs)
each_kept P true x xs p e = (p, e)
each_kept P false x xs p e = e

pub each_filter : {A : Type 0} (P : A → Type 0) (test : A → Bool) (xs : List A) → Each P xs → Each P (filter test xs)
each_filter P test [] e = tt
each_filter P test (x ∷ xs) e = each_kept P (test x) x (filter test xs) e.0 (each_filter P test xs e.1)

each_either : {A : Type 0} (P : A → Type 0) (b : Bool) (xs ys : List A) → Each P xs → Each P ys → Each P (if b then xs else ys)
each_either P true xs ys e f = e
each_either P false xs ys e f = f

pub each_put : {A : Type 0} (P : A → Type 0) (before : A → A → Bool) (x : A) (ys : List A) → P x → Each P ys → Each P (put_sorted before x ys)
each_put P before x [] p e = (p, tt)
each_put P before x (y ∷ ys) p e =
    each_either P (before x y) (x ∷ y ∷ ys) (y ∷ put_sorted before x ys) (p, (e.0, e.1)) (e.0, each_put P before x ys p e.1)

pub each_sorted : {A : Type 0} (P : A → Type 0) (before : A → A → Bool) (xs : List A) → Each P xs → Each P (sorted before xs)
each_sorted P before [] e = tt
each_sorted P before (x ∷ xs) e = each_put P before x (sorted before xs) e.0 (each_sorted P before xs e.1)

pub each_weaker : {A : Type 0} (P Q : A → Type 0) → ((x : A) → P x → Q x) → (xs : List A) → Each P xs → Each Q xs
each_weaker P Q weaker [] e = tt
each_weaker P Q weaker (x ∷ xs) e = (weaker x e.0, each_weaker P Q weaker xs e.1)

pub each_drop : {A : Type 0} (P : A → Type 0) (n : ℕ) (xs : List A) → Each P xs → Each P (drop n xs)
each_drop P zero xs e = e
each_drop P (suc n) [] e = tt
each_drop P (suc n) (x ∷ xs) e = each_drop P n xs e.1

-- ---- numbers

-- the element stands at its number
abbrev pub IsPlaced : {A : Type 0} → List A → (ℕ × A) → Type 0
IsPlaced xs p = nth xs p.0 ≡ Some p.1

nth_at : {A : Type 0} (before : List A) (x : A) (xs : List A) → nth (before ++ x ∷ xs) (length before + 1) ≡ Some x
nth_at [] x xs = refl
nth_at (b ∷ before) x xs =
    let apart : suc (length before) + 1 ≡ 1 → ⊥ = λ e. omega arith in
    let less : suc (length before) + 1 - 1 ≡ length before + 1 = omega arith in
    nth_rest b (before ++ x ∷ xs) (suc (length before) + 1) apart ∙ ap (nth (before ++ x ∷ xs)) less ∙ nth_at before x xs

length_more : {A : Type 0} (before : List A) (x : A) → length (before ++ x ∷ []) ≡ length before + 1
length_more [] x = refl
length_more (b ∷ before) x = ap suc (length_more before x) ∙ omega arith

placed_from : {A : Type 0} (before xs : List A) (from : ℕ) → from ≡ length before + 1 → Each (IsPlaced (before ++ xs)) (numbered from xs)
placed_from before [] from e = tt
placed_from {A} before (x ∷ xs) from e =
    let first : nth (before ++ x ∷ xs) from ≡ Some x = subst (λ (n : ℕ). nth (before ++ x ∷ xs) n ≡ Some x) (sym e) (nth_at before x xs) in
    let count : from + 1 ≡ length (before ++ x ∷ []) + 1 = ap (λ (n : ℕ). n + 1) (e ∙ sym (length_more before x)) in
    let rest = placed_from (before ++ x ∷ []) xs (from + 1) count in
    (first, subst (λ (all : List A). Each (IsPlaced all) (numbered (from + 1) xs)) (append_assoc before (x ∷ []) xs) rest)

-- each numbered element stands at its number
pub placed : {A : Type 0} (xs : List A) → Each (IsPlaced xs) (numbered 1 xs)
placed xs = placed_from [] xs 1 refl

pub numbers_numbered : {A : Type 0} (from : ℕ) (xs : List A) → numbers_in (numbered from xs) ≡ numbers from (length xs)
numbers_numbered from [] = refl
numbers_numbered from (x ∷ xs) = ap (λ (ns : List ℕ). from ∷ ns) (numbers_numbered (from + 1) xs)

filter_numbers_step : {A : Type 0} (b c : Bool) (p : ℕ × A) (ps : List (ℕ × A)) (ns : List ℕ) → b ≡ c → ns ≡ numbers_in ps → cond b (p.0 ∷ ns) ns ≡ numbers_in (cond c (p ∷ ps) ps)
filter_numbers_step true true p ps ns e f = ap (λ (ms : List ℕ). p.0 ∷ ms) f
filter_numbers_step true false p ps ns e f = cc e
filter_numbers_step false true p ps ns e f = cc e
filter_numbers_step false false p ps ns e f = f

-- a filter of numbers is one of the elements that they stand for
pub filter_numbers : {A : Type 0} (number_test : ℕ → Bool) (test : ℕ × A → Bool) (ps : List (ℕ × A)) → Each (λ p. number_test p.0 ≡ test p) ps
    → filter number_test (numbers_in ps) ≡ numbers_in (filter test ps)
filter_numbers number_test test [] e = refl
filter_numbers number_test test (p ∷ ps) e =
    filter_numbers_step (number_test p.0) (test p) p (filter test ps) (filter number_test (numbers_in ps)) e.0 (filter_numbers number_test test ps e.1)

-- the incarnations whose rows pass are the numbers of these rows
pub incs_numbered : (test : Row → Bool) (rows : List Row) → incs_where test rows ≡ numbers_in (filter (λ p. test p.1) (numbered 1 rows))
incs_numbered test rows =
    ap (filter (λ inc. some_pass test (nth rows inc))) (sym (numbers_numbered 1 rows))
    ∙ filter_numbers (λ inc. some_pass test (nth rows inc)) (λ p. test p.1) (numbered 1 rows)
    (each_weaker (IsPlaced rows) (λ p. some_pass test (nth rows p.0) ≡ test p.1) (λ p e. ap (some_pass test) e) (numbered 1 rows) (placed rows))

-- ---- places

-- in a rising list a test holds of all elements before the place where it fails
pub front_passes : {A : Type 0} (before : (ℕ × A) → (ℕ × A) → Bool) (u : ℕ → Bool) (t : ℕ × A → Bool)
    → ((p q : ℕ × A) → before p q ≡ true → t q ≡ true → t p ≡ true)
    → (ps : List (ℕ × A)) (at : ℕ) → IsRising before ps → Each (λ p. u p.0 ≡ t p) ps → at ≤ length ps
    → (1 ≤ at → u (get_or (numbers_in ps) (at - 1) 0) ≡ true) → list_all t (take at ps) ≡ true
front_passes before u t mono ps zero r e within seen = refl
front_passes before u t mono [] (suc at) r e within seen = refl
front_passes before u t mono (p ∷ ps) (suc zero) r e within seen =
    and_from (t p) true (sym e.0 ∙ seen (omega arith)) refl
front_passes before u t mono (p ∷ []) (suc (suc at)) r e within seen = absurd (omega arith)
front_passes before u t mono (p ∷ q ∷ ps) (suc (suc at)) r e within seen =
    let index : suc (suc at) - 1 ≡ suc at = omega arith in
    let less : suc at - 1 ≡ at = omega arith in
    let here : u (get_or (numbers_in (p ∷ q ∷ ps)) (suc at) 0) ≡ true = subst (λ (i : ℕ). u (get_or (numbers_in (p ∷ q ∷ ps)) i 0) ≡ true) index (seen (omega arith)) in
    let rest = front_passes before u t mono (q ∷ ps) (suc at) r.1 e.1 (omega arith)
    (λ _. subst (λ (i : ℕ). u (get_or (numbers_in (q ∷ ps)) i 0) ≡ true) (sym less) here) in
    and_from (t p) _ (mono p q (and_parts (before p q) (list_all (before p) ps) r.0).0 (and_parts (t q) (list_all t (take at ps)) rest).0) rest

fails_behind : {A : Type 0} (before : (ℕ × A) → (ℕ × A) → Bool) (t : ℕ × A → Bool)
    → ((p q : ℕ × A) → before p q ≡ true → t q ≡ true → t p ≡ true)
    → (p : ℕ × A) (ps : List (ℕ × A)) → t p ≡ false → list_all (before p) ps ≡ true → list_all (λ q. not (t q)) ps ≡ true
fails_behind before t mono p [] fails all = refl
fails_behind before t mono p (q ∷ ps) fails all =
    let parts = and_parts (before p q) (list_all (before p) ps) all in
    let not_q : t q ≡ false = false_from_ne_true (t q) (λ h. both_ways (t p) fails (mono p q parts.0 h)) in
    and_from (not (t q)) _ (ap not not_q) (fails_behind before t mono p ps fails parts.1)

-- and fails of all from it on
pub back_fails : {A : Type 0} (before : (ℕ × A) → (ℕ × A) → Bool) (u : ℕ → Bool) (t : ℕ × A → Bool)
    → ((p q : ℕ × A) → before p q ≡ true → t q ≡ true → t p ≡ true)
    → (ps : List (ℕ × A)) (at : ℕ) → IsRising before ps → Each (λ p. u p.0 ≡ t p) ps
    → (at < length ps → u (get_or (numbers_in ps) at 0) ≡ false) → list_all (λ p. not (t p)) (drop at ps) ≡ true
back_fails before u t mono [] zero r e seen = refl
back_fails before u t mono [] (suc at) r e seen = refl
back_fails before u t mono (p ∷ ps) zero r e seen =
    let fails : t p ≡ false = sym e.0 ∙ seen (omega arith) in
    and_from (not (t p)) _ (ap not fails) (fails_behind before t mono p ps fails r.0)
back_fails before u t mono (p ∷ ps) (suc at) r e seen =
    back_fails before u t mono ps at r.1 e.1 (λ lt. seen (omega arith))

-- ---- the element of a number, and at a place

pub nth_none : {A : Type 0} (xs : List A) (n : ℕ) → n ≡ 0 → None ≡ nth xs n
nth_none [] n e = refl
nth_none (x ∷ xs) n e =
    let apart : n ≡ 1 → ⊥ = λ f. omega arith in
    nth_none xs (n - 1) (omega arith) ∙ sym (nth_rest x xs n apart)

pub nth_read : {A : Type 0} (xs : List A) (i n : ℕ) (d : A) → i < length xs → n ≡ i + 1 → d ≡ get_or xs i d → Some d ≡ nth xs n
nth_read [] i n d within e read = absurd (omega arith)
nth_read (x ∷ xs) zero n d within e read = ap Some read ∙ sym (nth_first x xs n (omega arith))
nth_read (x ∷ xs) (suc i) n d within e read =
    let apart : n ≡ 1 → ⊥ = λ f. omega arith in
    nth_read xs i (n - 1) d (omega arith) (omega arith) read ∙ sym (nth_rest x xs n apart)
