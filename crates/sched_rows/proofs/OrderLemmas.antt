-- Sorting by insertion: it goes through maps and filters, and one more element is put in its place.
use Rattle.std.proofs.Common.{◌≡◌, ℕ, zero, suc, Bool, true, false, not, cond, ◌&&◌, ◌||◌, List, [], ◌∷◌, ◌++◌, map, length, take, drop, refl, sym, ap, ◌∙◌, subst}
use Rattle.std.specs.Prelude.{if◌then◌else◌}
use Rattle.std.specs.List.{filter, list_all, list_any, insert}
use Rattle.std.proofs.lemmas.Bool.{and_parts, and_from, both_ways}
use Rattle.sched_calls.specs.Replies.{put_sorted, sorted}
use Rattle.sched_rows.specs.Order.{IsRising}

-- an order of elements by a test
pub record IsOrder {A : Type 0} (before : A → A → Bool) : Type 0 where
  pub asym : (a b : A) → before a b ≡ true → before b a ≡ false
  pub trans : (a b c : A) → before a b ≡ true → before b c ≡ true → before a c ≡ true

-- ---- what a choice does

-- a choice by a test of which it is known that it holds, or that it fails
pub if_true : {X : Type 0} (b : Bool) (x y : X) → b ≡ true → (if b then x else y) ≡ x
if_true true x y e = refl
if_true false x y e = cc e

pub if_false : {X : Type 0} (b : Bool) (x y : X) → b ≡ false → (if b then x else y) ≡ y
if_false true x y e = cc e
if_false false x y e = refl

if_map : {A B : Type 0} (f : A → B) (b : Bool) (x y : List A) → map f (if b then x else y) ≡ (if b then map f x else map f y)
if_map f true x y = refl
if_map f false x y = refl

if_alike : {X : Type 0} (b c : Bool) (x y z w : X) → b ≡ c → x ≡ z → y ≡ w → (if b then x else y) ≡ (if c then z else w)
if_alike b c x y z w e f g = rw (e, f, g) refl

-- ---- maps

-- an insertion goes through a map that keeps the order
pub put_map : {A B : Type 0} (f : A → B) (before : A → A → Bool) (after : B → B → Bool) → ((x y : A) → after (f x) (f y) ≡ before x y)
    → (x : A) (ys : List A) → put_sorted after (f x) (map f ys) ≡ map f (put_sorted before x ys)
put_map f before after same x [] = refl
put_map f before after same x (y ∷ ys) =
    if_alike (after (f x) (f y)) (before x y) _ _ _ _ (same x y) refl (ap (λ (zs : List _). f y ∷ zs) (put_map f before after same x ys))
    ∙ sym (if_map f (before x y) (x ∷ y ∷ ys) (y ∷ put_sorted before x ys))

pub sorted_map : {A B : Type 0} (f : A → B) (before : A → A → Bool) (after : B → B → Bool) → ((x y : A) → after (f x) (f y) ≡ before x y)
    → (xs : List A) → sorted after (map f xs) ≡ map f (sorted before xs)
sorted_map f before after same [] = refl
sorted_map f before after same (x ∷ xs) =
    ap (put_sorted after (f x)) (sorted_map f before after same xs) ∙ put_map f before after same x (sorted before xs)

-- ---- tests

if_any : {A : Type 0} (q : A → Bool) (b : Bool) (x y : List A) → list_any q (if b then x else y) ≡ (if b then list_any q x else list_any q y)
if_any q true x y = refl
if_any q false x y = refl

swap_or : (x y z : Bool) → (y || (x || z)) ≡ (x || (y || z))
swap_or true true z = refl
swap_or true false z = refl
swap_or false true z = refl
swap_or false false z = refl

if_same : {X : Type 0} (b : Bool) (x y z : X) → x ≡ z → y ≡ z → (if b then x else y) ≡ z
if_same true x y z e f = e
if_same false x y z e f = f

-- an element of the list passes before and after an insertion
pub any_put : {A : Type 0} (q : A → Bool) (before : A → A → Bool) (x : A) (ys : List A) → list_any q (put_sorted before x ys) ≡ (q x || list_any q ys)
any_put q before x [] = refl
any_put q before x (y ∷ ys) =
    if_any q (before x y) (x ∷ y ∷ ys) (y ∷ put_sorted before x ys)
    ∙ if_same (before x y) (list_any q (x ∷ y ∷ ys)) (list_any q (y ∷ put_sorted before x ys)) (q x || list_any q (y ∷ ys)) refl
    (ap (λ (b : Bool). q y || b) (any_put q before x ys) ∙ swap_or (q x) (q y) (list_any q ys))

pub any_sorted : {A : Type 0} (q : A → Bool) (before : A → A → Bool) (xs : List A) → list_any q (sorted before xs) ≡ list_any q xs
any_sorted q before [] = refl
any_sorted q before (x ∷ xs) = any_put q before x (sorted before xs) ∙ ap (λ (b : Bool). q x || b) (any_sorted q before xs)

if_all : {A : Type 0} (q : A → Bool) (b : Bool) (x y : List A) → list_all q (if b then x else y) ≡ (if b then list_all q x else list_all q y)
if_all q true x y = refl
if_all q false x y = refl

swap_and : (x y z : Bool) → (y && (x && z)) ≡ (x && (y && z))
swap_and true true z = refl
swap_and true false z = refl
swap_and false true z = refl
swap_and false false z = refl

pub all_put : {A : Type 0} (q : A → Bool) (before : A → A → Bool) (x : A) (ys : List A) → list_all q (put_sorted before x ys) ≡ (q x && list_all q ys)
all_put q before x [] = refl
all_put q before x (y ∷ ys) =
    if_all q (before x y) (x ∷ y ∷ ys) (y ∷ put_sorted before x ys)
    ∙ if_same (before x y) (list_all q (x ∷ y ∷ ys)) (list_all q (y ∷ put_sorted before x ys)) (q x && list_all q (y ∷ ys)) refl
    (ap (λ (b : Bool). q y && b) (all_put q before x ys) ∙ swap_and (q x) (q y) (list_all q ys))

pub all_sorted : {A : Type 0} (q : A → Bool) (before : A → A → Bool) (xs : List A) → list_all q (sorted before xs) ≡ list_all q xs
all_sorted q before [] = refl
all_sorted q before (x ∷ xs) = all_put q before x (sorted before xs) ∙ ap (λ (b : Bool). q x && b) (all_sorted q before xs)

if_length : {A : Type 0} (b : Bool) (x y : List A) (n : ℕ) → length x ≡ n → length y ≡ n → length (if b then x else y) ≡ n
if_length true x y n e f = e
if_length false x y n e f = f

pub length_put : {A : Type 0} (before : A → A → Bool) (x : A) (ys : List A) → length (put_sorted before x ys) ≡ suc (length ys)
length_put before x [] = refl
length_put before x (y ∷ ys) = if_length (before x y) (x ∷ y ∷ ys) (y ∷ put_sorted before x ys) (suc (suc (length ys))) refl (ap suc (length_put before x ys))

pub length_sorted : {A : Type 0} (before : A → A → Bool) (xs : List A) → length (sorted before xs) ≡ length xs
length_sorted before [] = refl
length_sorted before (x ∷ xs) = length_put before x (sorted before xs) ∙ ap suc (length_sorted before xs)

-- what passes one test of each element passes a weaker one
pub all_weaker : {A : Type 0} (p q : A → Bool) → ((x : A) → p x ≡ true → q x ≡ true) → (xs : List A) → list_all p xs ≡ true → list_all q xs ≡ true
all_weaker p q weaker [] e = refl
all_weaker p q weaker (x ∷ xs) e =
    let parts = and_parts (p x) (list_all p xs) e in
    and_from (q x) (list_all q xs) (weaker x parts.0) (all_weaker p q weaker xs parts.1)

all_filter_step : {A : Type 0} (q : A → Bool) (b : Bool) (x : A) (xs : List A) → q x ≡ true → list_all q xs ≡ true → list_all q (cond b (x ∷ xs) xs) ≡ true
all_filter_step q true x xs e f = and_from (q x) (list_all q xs) e f
all_filter_step q false x xs e f = f

pub all_filter : {A : Type 0} (q p : A → Bool) (xs : List A) → list_all q xs ≡ true → list_all q (filter p xs) ≡ true
all_filter q p [] e = refl
all_filter q p (x ∷ xs) e =
    let parts = and_parts (q x) (list_all q xs) e in
    all_filter_step q (p x) x (filter p xs) parts.0 (all_filter q p xs parts.1)

-- ---- rising lists

pub rising_map : {A B : Type 0} (f : A → B) (before : A → A → Bool) (after : B → B → Bool) → ((x y : A) → after (f x) (f y) ≡ before x y)
    → (xs : List A) → IsRising before xs → IsRising after (map f xs)
rising_map f before after same [] r = tt
rising_map f before after same (x ∷ xs) r = (all_map f before after same x xs r.0, rising_map f before after same xs r.1)
  where
    all_map : {A B : Type 0} (f : A → B) (before : A → A → Bool) (after : B → B → Bool) → ((x y : A) → after (f x) (f y) ≡ before x y)
        → (x : A) (xs : List A) → list_all (before x) xs ≡ true → list_all (after (f x)) (map f xs) ≡ true
    all_map f before after same x [] e = refl
    all_map f before after same x (y ∷ ys) e =
        let parts = and_parts (before x y) (list_all (before x) ys) e in
        and_from _ _ (same x y ∙ parts.0) (all_map f before after same x ys parts.1)

rising_step : {A : Type 0} (before : A → A → Bool) (b : Bool) (x : A) (xs : List A) → list_all (before x) xs ≡ true → IsRising before xs → IsRising before (cond b (x ∷ xs) xs)
rising_step before true x xs e r = (e, r)
rising_step before false x xs e r = r

pub rising_filter : {A : Type 0} (before : A → A → Bool) (p : A → Bool) (xs : List A) → IsRising before xs → IsRising before (filter p xs)
rising_filter before p [] r = tt
rising_filter before p (x ∷ xs) r = rising_step before (p x) x (filter p xs) (all_filter (before x) p xs r.0) (rising_filter before p xs r.1)

-- an element that is before or behind each other one
abbrev pub is_apart : {A : Type 0} → (A → A → Bool) → A → A → Bool
is_apart before x y = before x y || before y x

rising_put_at : {A : Type 0} (before : A → A → Bool) → IsOrder before → (b : Bool) (x y : A) (ys : List A) → b ≡ before x y → is_apart before x y ≡ true
    → IsRising before (y ∷ ys) → IsRising before (put_sorted before x ys) → IsRising before (if b then x ∷ y ∷ ys else y ∷ put_sorted before x ys)
rising_put_at before order true x y ys e apart r ih =
    (and_from _ _ (sym e) (all_weaker (before y) (before x) (λ z h. order.trans x y z (sym e) h) ys r.0), r)
rising_put_at before order false x y ys e apart r ih =
    let behind : before y x ≡ true = subst (λ (c : Bool). (c || before y x) ≡ true) (sym e) apart in
    (all_put (before y) before x ys ∙ and_from _ _ behind r.0, ih)

pub rising_put : {A : Type 0} (before : A → A → Bool) → IsOrder before → (x : A) (ys : List A) → list_all (is_apart before x) ys ≡ true → IsRising before ys
    → IsRising before (put_sorted before x ys)
rising_put before order x [] apart r = (refl, tt)
rising_put before order x (y ∷ ys) apart r =
    let parts = and_parts (is_apart before x y) (list_all (is_apart before x) ys) apart in
    rising_put_at before order (before x y) x y ys refl parts.0 r (rising_put before order x ys parts.1 r.1)

rising_less_at : {A : Type 0} (before : A → A → Bool) (b : Bool) (x y : A) (ys : List A)
    → (IsRising before (put_sorted before x ys) → IsRising before ys) → IsRising before (if b then x ∷ y ∷ ys else y ∷ put_sorted before x ys) → IsRising before (y ∷ ys)
rising_less_at before true x y ys ih r = r.1
rising_less_at before false x y ys ih r =
    let parts = and_parts (before y x) (list_all (before y) ys) (sym (all_put (before y) before x ys) ∙ r.0) in
    (parts.1, ih r.1)

-- a list that rises with one more element rises without it
pub rising_less : {A : Type 0} (before : A → A → Bool) (x : A) (ys : List A) → IsRising before (put_sorted before x ys) → IsRising before ys
rising_less before x [] r = tt
rising_less before x (y ∷ ys) r = rising_less_at before (before x y) x y ys (rising_less before x ys) r

-- ---- filters

-- an element that comes before all others is put first
pub put_first : {A : Type 0} (before : A → A → Bool) (x : A) (ys : List A) → list_all (before x) ys ≡ true → put_sorted before x ys ≡ x ∷ ys
put_first before x [] e = refl
put_first before x (y ∷ ys) e = if_true (before x y) _ _ (and_parts (before x y) (list_all (before x) ys) e).0

-- a filter of a list with one more element in its place
abbrev with_kept : {A : Type 0} → (A → A → Bool) → Bool → A → List A → List A
with_kept before kept x ys = if kept then put_sorted before x ys else ys

kept_behind : {A : Type 0} (before : A → A → Bool) (kept first : Bool) (x y : A) (ys : List A) → before x y ≡ false
    → cond first (y ∷ with_kept before kept x ys) (with_kept before kept x ys) ≡ with_kept before kept x (cond first (y ∷ ys) ys)
kept_behind before true true x y ys e = sym (if_false (before x y) _ _ e)
kept_behind before false true x y ys e = refl
kept_behind before kept false x y ys e = refl

kept_first : {A : Type 0} (before : A → A → Bool) (kept : Bool) (x : A) (ys : List A) → list_all (before x) ys ≡ true → cond kept (x ∷ ys) ys ≡ with_kept before kept x ys
kept_first before true x ys e = sym (put_first before x ys e)
kept_first before false x ys e = refl

filter_put_at : {A : Type 0} (before : A → A → Bool) → IsOrder before → (p : A → Bool) (b : Bool) (x y : A) (ys : List A) → b ≡ before x y → IsRising before (y ∷ ys)
    → filter p (put_sorted before x ys) ≡ with_kept before (p x) x (filter p ys)
    → filter p (if b then x ∷ y ∷ ys else y ∷ put_sorted before x ys) ≡ with_kept before (p x) x (filter p (y ∷ ys))
filter_put_at before order p true x y ys e r ih =
    kept_first before (p x) x (filter p (y ∷ ys))
    (all_filter (before x) p (y ∷ ys) (and_from _ _ (sym e) (all_weaker (before y) (before x) (λ z h. order.trans x y z (sym e) h) ys r.0)))
filter_put_at before order p false x y ys e r ih =
    ap (λ (zs : List _). cond (p y) (y ∷ zs) zs) ih ∙ kept_behind before (p x) (p y) x y (filter p ys) (sym e)

pub filter_put : {A : Type 0} (before : A → A → Bool) → IsOrder before → (p : A → Bool) (x : A) (ys : List A) → IsRising before ys
    → filter p (put_sorted before x ys) ≡ with_kept before (p x) x (filter p ys)
filter_put before order p x [] r = refl
filter_put before order p x (y ∷ ys) r = filter_put_at before order p (before x y) x y ys refl r (filter_put before order p x ys r.1)

sorted_kept : {A : Type 0} (before : A → A → Bool) (kept : Bool) (x : A) (xs : List A) → with_kept before kept x (sorted before xs) ≡ sorted before (cond kept (x ∷ xs) xs)
sorted_kept before true x xs = refl
sorted_kept before false x xs = refl

-- a filter of a sorted list is the filtered list, sorted
pub filter_sorted : {A : Type 0} (before : A → A → Bool) → IsOrder before → (p : A → Bool) (xs : List A) → IsRising before (sorted before xs)
    → filter p (sorted before xs) ≡ sorted before (filter p xs)
filter_sorted before order p [] r = refl
filter_sorted before order p (x ∷ xs) r =
    let rest = rising_less before x (sorted before xs) r in
    filter_put before order p x (sorted before xs) rest
    ∙ ap (with_kept before (p x) x) (filter_sorted before order p xs rest)
    ∙ sorted_kept before (p x) x (filter p xs)

-- ---- one more element at the end

put_both_at : {A : Type 0} (before : A → A → Bool) → IsOrder before → (b c : Bool) (x z y : A) (ys : List A) → b ≡ before x y → c ≡ before z y → before x z ≡ true
    → put_sorted before x (put_sorted before z ys) ≡ put_sorted before z (put_sorted before x ys)
    → put_sorted before x (if c then z ∷ y ∷ ys else y ∷ put_sorted before z ys) ≡ put_sorted before z (if b then x ∷ y ∷ ys else y ∷ put_sorted before x ys)
put_both_at before order true true x z y ys e f lt ih =
    if_true (before x z) _ _ lt ∙ sym (if_false (before z x) _ _ (order.asym x z lt) ∙ ap (λ (ws : List _). x ∷ ws) (if_true (before z y) _ _ (sym f)))
put_both_at before order true false x z y ys e f lt ih =
    if_true (before x y) _ _ (sym e) ∙ sym (if_false (before z x) _ _ (order.asym x z lt) ∙ ap (λ (ws : List _). x ∷ ws) (if_false (before z y) _ _ (sym f)))
put_both_at before order false true x z y ys e f lt ih =
    absurd (both_ways (before x y) (sym e) (order.trans x z y lt (sym f)))
put_both_at before order false false x z y ys e f lt ih =
    if_false (before x y) _ _ (sym e) ∙ ap (λ (ws : List _). y ∷ ws) ih ∙ sym (if_false (before z y) _ _ (sym f))

-- two elements, the first before the second, may be put in either order
put_both : {A : Type 0} (before : A → A → Bool) → IsOrder before → (x z : A) (ys : List A) → before x z ≡ true
    → put_sorted before x (put_sorted before z ys) ≡ put_sorted before z (put_sorted before x ys)
put_both before order x z [] lt =
    if_true (before x z) _ _ lt ∙ sym (if_false (before z x) _ _ (order.asym x z lt))
put_both before order x z (y ∷ ys) lt =
    put_both_at before order (before x y) (before z y) x z y ys refl refl lt (put_both before order x z ys lt)

put_apart : {A : Type 0} (before : A → A → Bool) → IsOrder before → (b : Bool) (x z : A) (ys : List A) → b ≡ before z x → is_apart before z x ≡ true
    → put_sorted before x (put_sorted before z ys) ≡ put_sorted before z (put_sorted before x ys)
put_apart before order true x z ys e apart = sym (put_both before order z x ys (sym e))
put_apart before order false x z ys e apart = put_both before order x z ys (subst (λ (c : Bool). (c || before x z) ≡ true) (sym e) apart)

-- the list with one more at its end, sorted, is the sorted list with that element put in its place
pub sorted_push : {A : Type 0} (before : A → A → Bool) → IsOrder before → (z : A) (xs : List A) → list_all (is_apart before z) xs ≡ true
    → sorted before (xs ++ z ∷ []) ≡ put_sorted before z (sorted before xs)
sorted_push before order z [] apart = refl
sorted_push before order z (x ∷ xs) apart =
    let parts = and_parts (is_apart before z x) (list_all (is_apart before z) xs) apart in
    ap (put_sorted before x) (sorted_push before order z xs parts.1) ∙ put_apart before order (before z x) x z (sorted before xs) refl parts.0

-- ---- places

-- it comes before the first element, if there is one
abbrev pub before_first : {A : Type 0} → (A → A → Bool) → A → List A → Bool
before_first before z [] = true
before_first before z (y ∷ ys) = before z y

-- what is put is inserted before the first element that it comes before
pub insert_put : {A : Type 0} (before : A → A → Bool) (z : A) (at : ℕ) (ys : List A) → list_all (λ y. not (before z y)) (take at ys) ≡ true
    → before_first before z (drop at ys) ≡ true → insert ys at z ≡ put_sorted before z ys
insert_put before z zero [] front rest = refl
insert_put before z zero (y ∷ ys) front rest = sym (if_true (before z y) _ _ rest)
insert_put before z (suc at) [] front rest = refl
insert_put before z (suc at) (y ∷ ys) front rest =
    let parts = and_parts (not (before z y)) (list_all (λ y. not (before z y)) (take at ys)) front in
    ap (λ (ws : List _). y ∷ ws) (insert_put before z at ys parts.1 rest) ∙ sym (if_false (before z y) _ _ (not_true (before z y) parts.0))
  where
    not_true : (b : Bool) → not b ≡ true → b ≡ false
    not_true true e = cc e
    not_true false e = refl
