-- Lists whose places count from 1, rules that are not broken, and how long a list of numbers is.
use Rattle.std.proofs.Common.{◌≡◌, ℕ, zero, suc, ◌+◌, ◌-◌, ◌<◌, ◌==◌, Bool, true, false, cond, Option, Some, None, List, [], ◌∷◌, ◌++◌, map, length, option_map, refl, sym, ap, ◌∙◌, inl, inr, arith}
use Rattle.std.specs.Prelude.{if◌then◌else◌}
use Rattle.std.specs.List.{filter}
use Rattle.std.proofs.lemmas.Bool.Decides.{nat_tests}
use Rattle.std.proofs.lemmas.Bool.{cases_eq, eq-eqb, ne_eqb}
use Rattle.plain_words.specs.Lists.{nth, numbers, first_some, when, some_pass}

-- a rule that is not broken has its test fail
pub when_none : {A : Type 0} (b : Bool) (why : A) → when b why ≡ None → b ≡ false
when_none true why e = cc
when_none false why e = refl

-- nothing is in any of these
abbrev pub AllNone : {A : Type 0} → List (Option A) → Type 0
AllNone [] = Unit {0}
AllNone (x ∷ xs) = (x ≡ None) × AllNone xs

pub all_none : {A : Type 0} (xs : List (Option A)) → first_some xs ≡ None → AllNone xs
all_none [] e = tt
all_none (None ∷ xs) e = (refl, all_none xs e)
all_none (Some x ∷ xs) e = cc

pub nth_first : {A : Type 0} (x : A) (xs : List A) (place : ℕ) → place ≡ 1 → nth (x ∷ xs) place ≡ Some x
nth_first x xs place first = rw (eq-eqb place 1 first) refl

pub nth_rest : {A : Type 0} (x : A) (xs : List A) (place : ℕ) → (place ≡ 1 → ⊥) → nth (x ∷ xs) place ≡ nth xs (place - 1)
nth_rest x xs place apart = rw (ne_eqb place 1 apart) refl

-- past the end there is nothing
pub nth_past : {A : Type 0} (xs : List A) (place : ℕ) → length xs < place → nth xs place ≡ None
nth_past [] place lt = refl
nth_past (x ∷ xs) place lt =
    let apart : place ≡ 1 → ⊥ = λ e. omega arith in
    nth_rest x xs place apart ∙ nth_past xs (place - 1) (omega arith)

-- what stands at a place stands there when more is behind it
pub nth_more : {A : Type 0} (xs ys : List A) (place : ℕ) (x : A) → nth xs place ≡ Some x → nth (xs ++ ys) place ≡ Some x
nth_more [] ys place x e = let clash : ⊥ = cc in absurd clash
nth_more (y ∷ xs) ys place x e =
    elim (cases_eq place 1) [
      | inl first ↦ nth_first y (xs ++ ys) place first ∙ sym (nth_first y xs place first) ∙ e
      | inr apart ↦
          nth_rest y (xs ++ ys) place apart ∙ nth_more xs ys (place - 1) x (sym (nth_rest y xs place apart) ∙ e)
    ]

map_chosen : {A B : Type 0} (f : A → B) (b : Bool) (x : A) (o : Option A) → cond b (Some (f x)) (option_map f o) ≡ option_map f (cond b (Some x) o)
map_chosen f true x o = refl
map_chosen f false x o = refl

-- the element at a place of a mapped list
pub nth_map : {A B : Type 0} (f : A → B) (xs : List A) (place : ℕ) → nth (map f xs) place ≡ option_map f (nth xs place)
nth_map f [] place = refl
nth_map f (x ∷ xs) place =
    ap (λ o. cond (place == 1) (Some (f x)) o) (nth_map f xs (place - 1)) ∙ map_chosen f (place == 1) x (nth xs (place - 1))

pub length_numbers : (from n : ℕ) → length (numbers from n) ≡ n
length_numbers from zero = refl
length_numbers from (suc n) = ap suc (length_numbers (from + 1) n)

-- a list with each element left as it is
pub map_same : {A : Type 0} (xs : List A) → map (λ (x : A). x) xs ≡ xs
map_same [] = refl
map_same (x ∷ xs) = ap (λ ys. x ∷ ys) (map_same xs)

-- the element at a place of a list with one more at its end
snoc_step : {A : Type 0} (x y : A) (xs : List A) (n : ℕ) (b : Bool) → (n == 1) ≡ b
    → nth (xs ++ y ∷ []) (n - 1) ≡ (if (n - 1) == length xs + 1 then Some y else nth xs (n - 1))
    → (if b then Some x else nth (xs ++ y ∷ []) (n - 1)) ≡ (if n == suc (length xs) + 1 then Some y else (if b then Some x else nth xs (n - 1)))
snoc_step x y xs n true e ih = let f : (n == suc (length xs) + 1) ≡ false = grind (arith, nat_tests) in rw f refl
snoc_step x y xs n false e ih =
    let t : ((n - 1) == length xs + 1) ≡ (n == suc (length xs) + 1) = grind (arith, nat_tests) in
    ih ∙ ap (λ (b : Bool). if b then Some y else nth xs (n - 1)) t

pub nth_snoc : {A : Type 0} (xs : List A) (y : A) (n : ℕ) → nth (xs ++ y ∷ []) n ≡ (if n == length xs + 1 then Some y else nth xs n)
nth_snoc [] y n = refl
nth_snoc (x ∷ xs) y n = snoc_step x y xs n (n == 1) refl (nth_snoc xs y (n - 1))

-- nothing passes where the test never holds
pub filter_none : {A : Type 0} (test : A → Bool) (xs : List A) → ((x : A) → test x ≡ false) → filter test xs ≡ []
filter_none test [] h = refl
filter_none test (x ∷ xs) h = rw (h x) (filter_none test xs h)

-- a test that holds of nothing holds of no option
pub some_pass_none : {A : Type 0} (o : Option A) → some_pass (λ (x : A). false) o ≡ false
some_pass_none None = refl
some_pass_none (Some x) = refl

-- a filter by what holds of each keeps all
pub filter_every : {A : Type 0} (p : A → Bool) (xs : List A) → ((x : A) → p x ≡ true) → filter p xs ≡ xs
filter_every p [] holds = refl
filter_every p (x ∷ xs) holds = let here : p x ≡ true = holds x in rw here (ap (λ ys. x ∷ ys) (filter_every p xs holds))
