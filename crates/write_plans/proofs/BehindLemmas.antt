-- The first incarnation that is behind: by dates, and as the least number that passes.
use Rattle.std.proofs.Common.{◌≡◌, ℕ, zero, suc, ◌+◌, ◌≤◌, ◌<◌, Bool, true, false, not, ◌&&◌, ◌==◌, Option, Some, None, List, [], ◌∷◌, refl, ap, sym, ◌∙◌, subst, arith, length}
use Rattle.std.specs.Prelude.{if◌then◌else◌}
use Rattle.std.specs.List.{filter, find}
use Rattle.std.specs.Option.{option_map}
use Rattle.std.proofs.lemmas.Bool.Decides.{nat_tests}
use Rattle.plain_words.specs.Lists.{numbers, head, first_answer, or_else, nth, some_pass}
use Rattle.plain_words.proofs.Booleans.{by_bool}
use Rattle.plain_words.proofs.Options.{some_same, map_none}
use Rattle.expressions.specs.Calendar.{Calendar}
use Rattle.sched_plain.specs.declared.row.Row.{Row}
use Rattle.sched_plain.specs.declared.write.Write.{Write}
use Rattle.sched_plain.specs.History.{History}
use Rattle.sched_plain.specs.Changes.{changes_of}
use Rattle.sched_plain.specs.Rows.{rows_of, touches, deed_of}
use Rattle.sched_plain.specs.Marks.{unentered}
use Rattle.sched_plain.specs.Seen.{seen}
use Rattle.sched_plain.specs.Work.{Occurrence, first_open, is_empty}
use Rattle.next_dates.specs.Dates.{come_by, IsLeast}
use Rattle.work_order.specs.DateLaws.{FirstOpenByDates}
use Rattle.book_parts.specs.Told.{Told}
use Rattle.book_parts.specs.Stands.{Stands, calendar}
use Rattle.write_plans.specs.Planning.{is_behind, touched, is_touched, first_behind}
use Rattle.write_plans.specs.Looking.{first_come}

-- what is open at an incarnation, or else behind it, is the first that is behind
open_or : (x : ℕ) (open_here : List ℕ) (rest : Option Occurrence) (found : Option ℕ) → option_map {T = Occurrence} (λ o. o.inc) rest ≡ found
    → option_map {T = Occurrence} (λ o. o.inc) (or_else (option_map {T = ℕ} (λ n. record { inc = x; instant = n }) (head open_here)) rest)
    ≡ (if not (is_empty open_here) then Some x else found)
open_or x [] rest found e = e
open_or x (i ∷ is) rest found e = refl

-- the incarnation of the first open occurrence is the first that is behind
pub open_is_behind : (c : Calendar) (h : History) (t : ℕ) (incs : List ℕ)
    → option_map {T = Occurrence} (λ o. o.inc) (first_open (seen c h).times t incs) ≡ find (is_behind c h t) incs
open_is_behind c h t [] = refl
open_is_behind c h t (x ∷ xs) =
    open_or x (unentered c h x t) (first_open (seen c h).times t xs) (find (is_behind c h t) xs) (open_is_behind c h t xs)

-- it is the first whose next instant has come
pub come_is_behind : FirstOpenByDates → (b : Told) (h : History) (t : ℕ) (write : Write) → Stands b h
    → first_come b.next.dates t (touched h write) ≡ first_behind calendar h t write
come_is_behind opens b h t write st =
    (λ i. option_map {T = Occurrence} (λ o. o.inc) (first_answer (λ inc. option_map {T = ℕ} (λ n. record { inc = inc; instant = n }) (come_by t (st.next inc i))) (touched h write)))
    ∙ ap (option_map {T = Occurrence} (λ o. o.inc)) (sym (opens calendar h st.legal t (touched h write)))
    ∙ open_is_behind calendar h t (touched h write)

-- where no incarnation is behind nothing is open
pub none_open : (c : Calendar) (h : History) (t : ℕ) (incs : List ℕ) → find (is_behind c h t) incs ≡ None → first_open (seen c h).times t incs ≡ None
none_open c h t incs e = map_none (λ (o : Occurrence). o.inc) (first_open (seen c h).times t incs) (open_is_behind c h t incs ∙ e)

-- and where nothing is open none is behind
pub none_behind : (c : Calendar) (h : History) (t : ℕ) (incs : List ℕ) → first_open (seen c h).times t incs ≡ None → find (is_behind c h t) incs ≡ None
none_behind c h t incs e = sym (open_is_behind c h t incs) ∙ ap (option_map {T = Occurrence} (λ o. o.inc)) e

-- ---- the first of the numbers that pass one test and another is the least that passes both

fuse_at : (first second : Bool) (p : ℕ → Bool) (x : ℕ) (kept rest : List ℕ) (found : Option ℕ) → second ≡ p x → find p rest ≡ found
    → find p (if first then x ∷ rest else rest) ≡ (if first && second then Some x else found)
fuse_at true second p x kept rest found is e = (λ i. if sym is i then Some x else e i)
fuse_at false second p x kept rest found is e = e

fuse : (p q : ℕ → Bool) (xs : List ℕ) → find p (filter q xs) ≡ find (λ i. q i && p i) xs
fuse p q [] = refl
fuse p q (x ∷ xs) = fuse_at (q x) (p x) p x xs (filter q xs) (find (λ i. q i && p i) xs) refl (fuse p q xs)

-- a number from one on is that one or from the next one on
next_or_here : (P : ℕ → Type 0) (from o : ℕ) → from ≤ o → P from → (from + 1 ≤ o → P o) → P o
next_or_here P from o le here more =
    by_bool (λ b. P o) (from == o) (λ same. subst P (grind (arith, nat_tests, same)) here) (λ apart. more (grind (arith, nat_tests, apart)))

-- where the first number from one on that passes is this one, it passes and none before it does
first_number : (test : ℕ → Bool) (from n inc : ℕ) → find test (numbers from n) ≡ Some inc
    → (test inc ≡ true) × ((o : ℕ) → from ≤ o → o < inc → test o ≡ false)
first_number test from zero inc e = cc e
first_number test from (suc n) inc e =
    by_bool (λ b. (test from ≡ b) → (if b then Some from else find test (numbers (from + 1) n)) ≡ Some inc → (test inc ≡ true) × ((o : ℕ) → from ≤ o → o < inc → test o ≡ false))
    (test from)
    (λ yes-here here there. let same : from ≡ inc = some_same from inc there in
    (subst (λ k. test k ≡ true) same here, λ o le lt. absurd (omega (arith, same, le, lt))))
    (λ no-here here there. let rest = first_number test (from + 1) n inc there in
    (rest.0, λ o le lt. next_or_here (λ k. k < inc → test k ≡ false) from o le (λ under. here) (λ more under. rest.1 o more under) lt))
    refl e

nth_zero : (rows : List Row) → nth rows 0 ≡ None
nth_zero [] = refl
nth_zero (row ∷ rows) = nth_zero rows

-- a number below one is none that passes
from_one : (test : ℕ → Bool) (inc : ℕ) → test 0 ≡ false → ((o : ℕ) → 1 ≤ o → o < inc → test o ≡ false) → (o : ℕ) → o < inc → test o ≡ false
from_one test inc none above zero lt = none
from_one test inc none above (suc o) lt = above (suc o) (omega arith) lt

-- the first that is behind is the least that the write touches and that is behind
pub least_behind : (c : Calendar) (h : History) (t : ℕ) (write : Write) (inc : ℕ) → first_behind c h t write ≡ Some inc
    → IsLeast (λ i. is_touched h write i && is_behind c h t i) (Some inc)
least_behind c h t write inc e =
    let rows = rows_of (changes_of h) in
    let test : ℕ → Bool = λ i. is_touched h write i && is_behind c h t i in
    let found = first_number test 1 (length rows) inc (sym (fuse (is_behind c h t) (is_touched h write) (numbers 1 (length rows))) ∙ e) in
    let none : test 0 ≡ false = ap (λ (o : Option Row). some_pass (λ row. touches (deed_of write row)) o && is_behind c h t 0) (nth_zero rows) in
    (found.0, from_one test inc none found.1)
