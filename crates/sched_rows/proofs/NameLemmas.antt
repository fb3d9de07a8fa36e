-- Texts and names of two parts are ordered by their bytes.
use Rattle.std.proofs.Common.{◌≡◌, ℕ, Bool, true, false, ◌&&◌, ◌||◌, List, [], ◌∷◌, refl, sym, ap, ◌∙◌, subst, arith, inl, inr}
use Rattle.std.specs.Prelude.{◌⊎◌, ◌==◌, nat_eq, nat_lt, ◌<◌, Some}
use Rattle.std.specs.List.{starts_with}
use Rattle.std.specs.declared.cmp.Ordering.{Ordering}
use Rattle.std.specs.declared.cmp.Ordering.TheVariants.{Less, Equal, Greater}
use Rattle.std.specs.Ordering.{nat_cmp, is_lt, is_some_and, ordering_reverse}
use Rattle.std.specs.Cmp.Lexicographic.{slice_cmp, slice_partial_cmp}
use Rattle.std.proofs.lemmas.Cmp.{nat_list_cmp_total, same_from_slice_cmp, same_from_slice_cmp_tested, tied_itself}
use Rattle.std.proofs.lemmas.Map.Lookups.{exact_bytes}
use Rattle.std.proofs.lemmas.Bool.{and_parts, and_from, or_cases, eqb-true, eq-eqb, ltb-true, false_from_ne_true, both_ways, or_parts}
use Rattle.std.proofs.lemmas.Bool.Decides.{nat_tests}
use Rattle.plain_words.specs.Lists.{same_text}
use Rattle.sched_calls.specs.Replies.{text_before, name_before}

-- ---- texts

text_is : (a b : List ℕ) → is_lt (slice_cmp nat_cmp a b) ≡ text_before a b
text_is a b =
    same_from_slice_cmp nat_cmp is_lt text_before refl (λ _ _. refl) (λ _ _. refl) (λ x y xs ys o h. grind (arith, nat_tests)) a b (slice_cmp nat_cmp a b) refl

is_less : (o : Ordering) → is_lt o ≡ true → o ≡ Less
is_less Less e = refl
is_less Equal e = cc
is_less Greater e = cc

text_less : (a b : List ℕ) → text_before a b ≡ true → slice_cmp nat_cmp a b ≡ Less
text_less a b e = is_less (slice_cmp nat_cmp a b) (text_is a b ∙ e)

pub text_asym : (a b : List ℕ) → text_before a b ≡ true → text_before b a ≡ false
text_asym a b e =
    sym (text_is b a) ∙ ap is_lt (nat_list_cmp_total.antisymm b a ∙ ap ordering_reverse (text_less a b e))

pub text_trans : (a b c : List ℕ) → text_before a b ≡ true → text_before b c ≡ true → text_before a c ≡ true
text_trans a b c e f =
    sym (text_is a c) ∙ ap is_lt (nat_list_cmp_total.trans a b c (text_less a b e) (text_less b c f))

tied : (o r : Ordering) → r ≡ ordering_reverse o → is_lt o ≡ false → is_lt r ≡ false → o ≡ Equal
tied Less r same e f = cc
tied Equal r same e f = refl
tied Greater r same e f = let g : is_lt r ≡ true = ap is_lt same in absurd (both_ways (is_lt r) f g)

pub text_total : (a b : List ℕ) → text_before a b ≡ false → text_before b a ≡ false → a ≡ b
text_total a b e f =
    exact_bytes a b (tied (slice_cmp nat_cmp a b) (slice_cmp nat_cmp b a) (nat_list_cmp_total.antisymm b a) (text_is a b ∙ e) (text_is b a ∙ f))

pub text_itself : (a : List ℕ) → text_before a a ≡ false
text_itself a = sym (text_is a a) ∙ ap is_lt (tied_itself nat_list_cmp_total a)

pub same_text_self : (a : List ℕ) → same_text a a ≡ true
same_text_self [] = refl
same_text_self (x ∷ xs) = and_from (nat_eq x x) (same_text xs xs) (eq-eqb x x refl) (same_text_self xs)

pub same_text_same : (a b : List ℕ) → same_text a b ≡ true → a ≡ b
same_text_same [] [] e = refl
same_text_same [] (y ∷ ys) e = cc
same_text_same (x ∷ xs) [] e = cc
same_text_same (x ∷ xs) (y ∷ ys) e =
    let parts = and_parts (nat_eq x y) (same_text xs ys) e in
    let first : x ≡ y = eqb-true x y parts.0 in
    let rest : xs ≡ ys = same_text_same xs ys parts.1 in
    rw (first, rest) refl

pub same_text_is : (a b : List ℕ) → a ≡ b → same_text a b ≡ true
same_text_is a b e = subst (λ (c : List ℕ). same_text a c ≡ true) e (same_text_self a)

-- ---- names of two parts

-- how one name comes before another
abbrev pub Before : List ℕ → List ℕ → List ℕ → List ℕ → Type 0
Before group name group' name' = (text_before group group' ≡ true) ⊎ ((group ≡ group') × (text_before name name' ≡ true))

pub before_is : (g n g' n' : List ℕ) → name_before g n g' n' ≡ true → Before g n g' n'
before_is g n g' n' e = elim (or_cases (text_before g g') (same_text g g' && text_before n n') e) [
  | inl first ↦ inl first
  | inr second ↦ let parts = and_parts (same_text g g') (text_before n n') second in inr (same_text_same g g' parts.0, parts.1)
]

pub or_right_of : (x y : Bool) → y ≡ true → (x || y) ≡ true
or_right_of true y e = refl
or_right_of false y e = e

pub or_left_of : (x y : Bool) → x ≡ true → (x || y) ≡ true
or_left_of true y e = refl
or_left_of false y e = cc

pub before_from : (g n g' n' : List ℕ) → Before g n g' n' → name_before g n g' n' ≡ true
before_from g n g' n' (inl first) = or_left_of (text_before g g') _ first
before_from g n g' n' (inr second) = or_right_of (text_before g g') _ (and_from (same_text g g') _ (same_text_is g g' second.0) second.1)

not_both : (g n g' n' : List ℕ) → Before g n g' n' → Before g' n' g n → ⊥
not_both g n g' n' (inl e) (inl f) = both_ways (text_before g' g) (text_asym g g' e) f
not_both g n g' n' (inl e) (inr f) = both_ways (text_before g g') (subst (λ (x : List ℕ). text_before g x ≡ false) (sym f.0) (text_itself g)) e
not_both g n g' n' (inr e) (inl f) = both_ways (text_before g' g) (subst (λ (x : List ℕ). text_before g' x ≡ false) (sym e.0) (text_itself g')) f
not_both g n g' n' (inr e) (inr f) = both_ways (text_before n' n) (text_asym n n' e.1) f.1

pub name_asym : (g n g' n' : List ℕ) → name_before g n g' n' ≡ true → name_before g' n' g n ≡ false
name_asym g n g' n' e = false_from_ne_true _ (λ f. not_both g n g' n' (before_is g n g' n' e) (before_is g' n' g n f))

both_before : (g n g' n' g'' n'' : List ℕ) → Before g n g' n' → Before g' n' g'' n'' → Before g n g'' n''
both_before g n g' n' g'' n'' (inl e) (inl f) = inl (text_trans g g' g'' e f)
both_before g n g' n' g'' n'' (inl e) (inr f) = inl (subst (λ (x : List ℕ). text_before g x ≡ true) f.0 e)
both_before g n g' n' g'' n'' (inr e) (inl f) = inl (subst (λ (x : List ℕ). text_before x g'' ≡ true) (sym e.0) f)
both_before g n g' n' g'' n'' (inr e) (inr f) = inr (e.0 ∙ f.0, text_trans n n' n'' e.1 f.1)

pub name_trans : (g n g' n' g'' n'' : List ℕ) → name_before g n g' n' ≡ true → name_before g' n' g'' n'' ≡ true → name_before g n g'' n'' ≡ true
name_trans g n g' n' g'' n'' e f = before_from g n g'' n'' (both_before g n g' n' g'' n'' (before_is g n g' n' e) (before_is g' n' g'' n'' f))

-- where neither name comes before the other they are the same
pub name_total : (g n g' n' : List ℕ) → name_before g n g' n' ≡ false → name_before g' n' g n ≡ false → (g ≡ g') × (n ≡ n')
name_total g n g' n' e f =
    let ep = or_parts (text_before g g') _ e in
    let fp = or_parts (text_before g' g) _ f in
    let groups : g ≡ g' = text_total g g' ep.0 fp.0 in
    let there : (same_text g g' ≡ false) → ⊥ = λ h. both_ways (same_text g g') h (same_text_is g g' groups) in
    let back : (same_text g' g ≡ false) → ⊥ = λ h. both_ways (same_text g' g) h (same_text_is g' g (sym groups)) in
    let names : n ≡ n' = text_total n n' (second (same_text g g') _ there ep.1) (second (same_text g' g) _ back fp.1) in
    (groups, names)
  where
    second : (b c : Bool) → (b ≡ false → ⊥) → (b && c) ≡ false → c ≡ false
    second true c h e = e
    second false c h e = absurd (h refl)

pub name_itself : (g n : List ℕ) → name_before g n g n ≡ false
name_itself g n = false_from_ne_true _ (λ e. both_ways (name_before g n g n) (name_asym g n g n e) e)

-- ---- texts that begin with a text

-- a text before one that begins with a text comes before that text, or begins with it too
pub text_between : (n a b : List ℕ) → text_before a b ≡ true → starts_with nat_eq b n ≡ true → (text_before a n || starts_with nat_eq a n) ≡ true
text_between [] [] b e f = refl
text_between [] (x ∷ xs) b e f = refl
text_between (p ∷ ps) a [] e f = cc f
text_between (p ∷ ps) [] (y ∷ ys) e f = refl
text_between (p ∷ ps) (x ∷ xs) (y ∷ ys) e f =
    let parts = and_parts (nat_eq p y) (starts_with nat_eq ys ps) f in
    let same : p ≡ y = eqb-true p y parts.0 in
    elim (or_cases (nat_lt x y) (x == y && text_before xs ys) e) [
      | inl less ↦ let lower : nat_lt x p ≡ true = subst (λ (z : ℕ). nat_lt x z ≡ true) (sym same) less in first lower
      | inr rest ↦
          let both = and_parts (x == y) (text_before xs ys) rest in
          let here : x ≡ p = eqb-true x y both.0 ∙ sym same in
          elim (or_cases (text_before xs ps) (starts_with nat_eq xs ps) (text_between ps xs ys both.1 parts.1)) [
            | inl less ↦ later here less
            | inr begins ↦ with_it here begins
          ]
    ]
  where
    first : nat_lt x p ≡ true → (text_before (x ∷ xs) (p ∷ ps) || starts_with nat_eq (x ∷ xs) (p ∷ ps)) ≡ true
    first lower = or_left_of (text_before (x ∷ xs) (p ∷ ps)) _ (or_left_of (nat_lt x p) _ lower)

    later : x ≡ p → text_before xs ps ≡ true → (text_before (x ∷ xs) (p ∷ ps) || starts_with nat_eq (x ∷ xs) (p ∷ ps)) ≡ true
    later here less = or_left_of (text_before (x ∷ xs) (p ∷ ps)) _ (or_right_of (nat_lt x p) _ (and_from (x == p) _ (eq-eqb x p here) less))

    with_it : x ≡ p → starts_with nat_eq xs ps ≡ true → (text_before (x ∷ xs) (p ∷ ps) || starts_with nat_eq (x ∷ xs) (p ∷ ps)) ≡ true
    with_it here begins = or_right_of (text_before (x ∷ xs) (p ∷ ps)) _ (and_from (nat_eq p x) _ (eq-eqb p x (sym here)) begins)

-- what begins with a text does not come before it
pub begins_not_before : (n a : List ℕ) → starts_with nat_eq a n ≡ true → text_before a n ≡ true → ⊥
begins_not_before [] [] f e = cc e
begins_not_before [] (x ∷ xs) f e = cc e
begins_not_before (p ∷ ps) [] f e = cc f
begins_not_before (p ∷ ps) (x ∷ xs) f e =
    let parts = and_parts (nat_eq p x) (starts_with nat_eq xs ps) f in
    let same : p ≡ x = eqb-true p x parts.0 in
    elim (or_cases (nat_lt x p) (x == p && text_before xs ps) e) [
      | inl less ↦ let lower : x < p = ltb-true x p less in omega (arith, lower, same)
      | inr rest ↦ begins_not_before ps xs parts.1 (and_parts (x == p) (text_before xs ps) rest).1
    ]

-- what `<` answers of two texts
pub text_tested : (a b : List ℕ) (r : Bool) → r ≡ is_some_and is_lt (slice_partial_cmp (λ (x y : ℕ). Some (nat_cmp x y)) a b) → r ≡ text_before a b
text_tested = same_from_slice_cmp_tested nat_cmp is_lt text_before refl (λ _ _. refl) (λ _ _. refl) (λ x y xs ys o h. grind (arith, nat_tests))
