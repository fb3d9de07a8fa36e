-- A search over what a write touches, one incarnation after another.
use Rattle.std.proofs.Common.{subst, ◌≡◌, ℕ, zero, suc, ◌+◌, ◌≤◌, ◌<◌, Bool, true, false, cond, Option, Some, None, List, [], ◌∷◌, refl, ap, sym, ◌∙◌, arith}
use Rattle.std.specs.Prelude.{nat_lt, if◌then◌else◌, length}
use Rattle.std.specs.List.{filter, find}
use Rattle.std.proofs.lemmas.Bool.Decides.{nat_tests}
use Rattle.plain_words.specs.Lists.{numbers, first_answer, or_else, nth, some_pass}
use Rattle.plain_words.proofs.Booleans.{by_bool}
use Rattle.plain_words.proofs.Options.{some_same}
use Rattle.sched_plain.specs.declared.row.Row.{Row}
use Rattle.sched_plain.specs.declared.write.Write.{Write}
use Rattle.sched_plain.specs.Rows.{incs_where, touched_by, touches, deed_of}
use Rattle.sched_plain.specs.Work.{Occurrence}
use Rattle.sched_rows.specs.Answers.{next_touched}
use Rattle.book_parts.specs.Touching.{come_at}

-- the numbers rise, from one on
abbrev RisesFrom : ℕ → List ℕ → Type 0
RisesFrom from [] = Unit {0}
RisesFrom from (x ∷ xs) = (from ≤ x) × RisesFrom (x + 1) xs

lower : (xs : List ℕ) (from less : ℕ) → less ≤ from → RisesFrom from xs → RisesFrom less xs
lower [] from less le rises = tt
lower (x ∷ xs) from less le rises = (omega (arith, rises.0), rises.1)

rises_if : (b : Bool) (x : ℕ) (xs : List ℕ) → RisesFrom (x + 1) xs → RisesFrom x (if b then x ∷ xs else xs)
rises_if true x xs rises = (omega arith, rises)
rises_if false x xs rises = lower xs (x + 1) x (omega arith) rises

numbers_rise : (test : ℕ → Bool) (from n : ℕ) → RisesFrom from (filter test (numbers from n))
numbers_rise test from zero = tt
numbers_rise test from (suc n) = rises_if (test from) from (filter test (numbers (from + 1) n)) (numbers_rise test (from + 1) n)

-- all of a list that rises from a number are above one below it
all_above : (xs : List ℕ) (after from : ℕ) → after < from → RisesFrom from xs → filter (nat_lt after) xs ≡ xs
all_above [] after from lt rises = refl
all_above (x ∷ xs) after from lt rises =
    let above : nat_lt after x ≡ true = grind (arith, nat_tests, rises.0) in
    let rest = all_above xs after (x + 1) (omega (arith, rises.0)) rises.1 in
    rw above (ap (λ (l : List ℕ). x ∷ l) rest)

found_or : (b : Bool) (x found : ℕ) (rest : Option ℕ) (P : ℕ → Type 0) → (b ≡ true → P x) → (b ≡ false → rest ≡ Some found → P found)
    → (if b then Some x else rest) ≡ Some found → P found
found_or true x found rest P one more e = subst P (some_same x found e) (one refl)
found_or false x found rest P one more e = more refl e

none_or : {A : Type 0} (b : Bool) (x : A) (rest : Option A) → (if b then Some x else rest) ≡ None → (b ≡ false) × (rest ≡ None)
none_or true x rest e = cc e
none_or false x rest e = (refl, e)

-- where none is above, none is left
pub none_above : (xs : List ℕ) (after : ℕ) → find (nat_lt after) xs ≡ None → filter (nat_lt after) xs ≡ []
none_above [] after e = refl
none_above (x ∷ xs) after e = let parts = none_or (nat_lt after x) x (find (nat_lt after) xs) e in rw parts.0 (none_above xs after parts.1)

-- what is found is above
found_above : (xs : List ℕ) (after found : ℕ) → find (nat_lt after) xs ≡ Some found → after < found
found_above [] after found e = cc e
found_above (x ∷ xs) after found e =
    found_or (nat_lt after x) x found (find (nat_lt after) xs) (λ n. after < n) (λ yes-above. grind (arith, nat_tests, yes-above))
    (λ below there. found_above xs after found there) e

first_above : (x found after : ℕ) (xs : List ℕ) → after < x → RisesFrom (x + 1) xs → x ≡ found
    → filter (nat_lt after) (x ∷ xs) ≡ found ∷ filter (nat_lt found) (x ∷ xs)
first_above x found after xs lt rises same =
    let above : nat_lt after x ≡ true = grind (arith, nat_tests) in
    let itself : nat_lt found x ≡ false = grind (arith, nat_tests) in
    let all : filter (nat_lt after) xs ≡ xs = all_above xs after (x + 1) (omega arith) rises in
    let rest : filter (nat_lt found) xs ≡ xs = all_above xs found (x + 1) (omega arith) rises in
    rw (above, itself, all, rest) (ap (λ (n : ℕ). n ∷ xs) same)

later_above : (x found after : ℕ) (xs : List ℕ) → x ≤ after → after < found → filter (nat_lt after) xs ≡ found ∷ filter (nat_lt found) xs
    → filter (nat_lt after) (x ∷ xs) ≡ found ∷ filter (nat_lt found) (x ∷ xs)
later_above x found after xs le lt rest =
    let below : nat_lt after x ≡ false = grind (arith, nat_tests) in
    let under : nat_lt found x ≡ false = grind (arith, nat_tests) in
    rw (below, under) rest

-- what is above a number begins with the least, and goes on with what is above that
above_least : (xs : List ℕ) (from after found : ℕ) → RisesFrom from xs → find (nat_lt after) xs ≡ Some found
    → filter (nat_lt after) xs ≡ found ∷ filter (nat_lt found) xs
above_least [] from after found rises e = cc e
above_least (x ∷ xs) from after found rises e =
    found_or (nat_lt after x) x found (find (nat_lt after) xs) (λ n. n ≡ found → filter (nat_lt after) (x ∷ xs) ≡ found ∷ filter (nat_lt found) (x ∷ xs))
    (λ above same. first_above x found after xs (grind (arith, nat_tests, above)) rises.1 same)
    (λ below there same. later_above x found after xs (grind (arith, nat_tests, below)) (found_above xs after found there) (above_least xs (x + 1) after found rises.1 there))
    e refl

-- a search goes on behind the least
pub asks_least : {A : Type 0} (question : ℕ → Option A) (test : Row → Bool) (rows : List Row) (after found : ℕ)
    → find (nat_lt after) (incs_where test rows) ≡ Some found
    → first_answer question (filter (nat_lt after) (incs_where test rows)) ≡ or_else (question found) (first_answer question (filter (nat_lt found) (incs_where test rows)))
asks_least {A} question test rows after found e =
    ap (first_answer {A = ℕ} {B = A} question) (above_least (incs_where test rows) 1 after found (numbers_rise (λ inc. some_pass test (nth rows inc)) 1 (length rows)) e)

-- and begins with all of them
pub asks_all : (test : Row → Bool) (rows : List Row) → filter (nat_lt 0) (incs_where test rows) ≡ incs_where test rows
asks_all test rows = all_above (incs_where test rows) 0 1 (omega arith) (numbers_rise (λ inc. some_pass test (nth rows inc)) 1 (length rows))

-- a search over what a write touches that has come so far: those above a number have its answer
abbrev IsSoFar : List (Option ℕ) → ℕ → List Row → Write → ℕ → Type 0
IsSoFar dates t rows write after =
    first_answer (come_at dates t) (filter (nat_lt after) (touched_by rows write)) ≡ first_answer (come_at dates t) (touched_by rows write)

goes_on : (dates : List (Option ℕ)) (t : ℕ) (rows : List Row) (write : Write) (after inc : ℕ) (answer : Option Occurrence)
    → next_touched rows write after ≡ Some inc → come_at dates t inc ≡ answer → IsSoFar dates t rows write after
    → or_else answer (first_answer (come_at dates t) (filter (nat_lt inc) (touched_by rows write))) ≡ first_answer (come_at dates t) (touched_by rows write)
goes_on dates t rows write after inc answer there asked so_far =
    let least = asks_least (come_at dates t) (λ row. touches (deed_of write row)) rows after inc there in
    let rest = first_answer (come_at dates t) (filter (nat_lt inc) (touched_by rows write)) in
    sym (ap (λ o. or_else o rest) asked) ∙ sym least ∙ so_far

-- it begins with all, and its answer is that of the first that has one
pub search_begins : (dates : List (Option ℕ)) (t : ℕ) (rows : List Row) (write : Write) → IsSoFar dates t rows write 0
search_begins dates t rows write = ap (first_answer (come_at dates t)) (asks_all (λ row. touches (deed_of write row)) rows)

pub search_finds : (dates : List (Option ℕ)) (t : ℕ) (rows : List Row) (write : Write) (after inc : ℕ) (found : Occurrence)
    → next_touched rows write after ≡ Some inc → come_at dates t inc ≡ Some found → IsSoFar dates t rows write after
    → Some found ≡ first_answer (come_at dates t) (touched_by rows write)
search_finds dates t rows write after inc found there asked so_far = goes_on dates t rows write after inc (Some found) there asked so_far

pub search_passes : (dates : List (Option ℕ)) (t : ℕ) (rows : List Row) (write : Write) (after inc : ℕ)
    → next_touched rows write after ≡ Some inc → come_at dates t inc ≡ None → IsSoFar dates t rows write after
    → IsSoFar dates t rows write inc
search_passes dates t rows write after inc there asked so_far = goes_on dates t rows write after inc None there asked so_far

pub search_ends : (dates : List (Option ℕ)) (t : ℕ) (rows : List Row) (write : Write) (after : ℕ)
    → next_touched rows write after ≡ None → IsSoFar dates t rows write after
    → None ≡ first_answer (come_at dates t) (touched_by rows write)
search_ends dates t rows write after none so_far =
    sym (ap (first_answer (come_at dates t)) (none_above (touched_by rows write) after none)) ∙ so_far

pub search_rises : (rows : List Row) (write : Write) (after inc : ℕ) → next_touched rows write after ≡ Some inc → after < inc
search_rises rows write after inc there = found_above (touched_by rows write) after inc there
