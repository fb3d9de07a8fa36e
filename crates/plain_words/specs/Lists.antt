-- Words on lists, texts and options that the definitions share.
use Rattle.std.specs.Prelude.{ℕ, nat_eq, zero, suc, ◌+◌, ◌-◌, ◌==◌, Bool, true, false, ◌||◌, if◌then◌else◌, Option, Some, None, List, [], ◌∷◌, ◌++◌}
use Rattle.std.specs.Cmp.Lexicographic.{pointwise}

-- two texts are the same
abbrev pub same_text : List ℕ → List ℕ → Bool
same_text = pointwise nat_eq

-- the element at a place, from 1
abbrev pub nth : {A : Type 0} → List A → ℕ → Option A
nth [] place = None
nth (x ∷ xs) place = if place == 1 then Some x else nth xs (place - 1)

-- the list with its element at a place, from 1, changed
abbrev pub change_nth : {A : Type 0} → (A → A) → List A → ℕ → List A
change_nth change [] place = []
change_nth change (x ∷ xs) place = if place == 1 then change x ∷ xs else x ∷ change_nth change xs (place - 1)

-- so many numbers from one on
abbrev pub numbers : ℕ → ℕ → List ℕ
numbers from zero = []
numbers from (suc n) = from ∷ numbers (from + 1) n

-- the first element, if there is one
abbrev pub head : {A : Type 0} → List A → Option A
head [] = None
head (x ∷ xs) = Some x

-- the last element of a list that begins with this one
abbrev pub last_from : {A : Type 0} → A → List A → Option A
last_from x [] = Some x
last_from x (y ∷ ys) = last_from y ys

-- the last element, if there is one
abbrev pub last : {A : Type 0} → List A → Option A
last [] = None
last (x ∷ xs) = last_from x xs

-- the first that is there
abbrev pub first_some : {A : Type 0} → List (Option A) → Option A
first_some [] = None
first_some (None ∷ more) = first_some more
first_some (Some x ∷ more) = Some x

-- the first of two answers that is there
abbrev pub or_else : {A : Type 0} → Option A → Option A → Option A
or_else None second = second
or_else (Some x) second = Some x

-- the first answer to a question that is asked of each element in turn
abbrev pub first_answer : {A B : Type 0} → (A → Option B) → List A → Option B
first_answer question [] = None
first_answer question (x ∷ xs) = or_else (question x) (first_answer question xs)

-- the element alone, where the test holds
abbrev pub only_if : {A : Type 0} → Bool → A → List A
only_if true x = x ∷ []
only_if false x = []

-- the element at the end of the list, where the test holds
abbrev pub put_if : {A : Type 0} → Bool → A → List A → List A
put_if true x xs = xs ++ x ∷ []
put_if false x xs = xs

-- why a rule is broken, where it is
abbrev pub when : {A : Type 0} → Bool → A → Option A
when true why = Some why
when false why = None

-- whether an option has a value that passes
abbrev pub some_pass : {A : Type 0} → (A → Bool) → Option A → Bool
some_pass test None = false
some_pass test (Some x) = test x

-- the numbers below a bound that pass a test, rising
abbrev pub passing : (ℕ → Bool) → ℕ → List ℕ
passing test zero = []
passing test (suc n) = put_if (test n) n (passing test n)

-- one of the numbers below a bound passes a test
abbrev pub any_passing : (ℕ → Bool) → ℕ → Bool
any_passing test zero = false
any_passing test (suc n) = any_passing test n || test n
