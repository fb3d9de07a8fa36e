-- A shard of a legal history has little work: less than a loop over all numbers of 64 bits does.
use Rattle.std.proofs.Common.{◌≡◌, ℕ, zero, suc, ◌+◌, ◌*◌, ◌-◌, ◌≤◌, Bool, true, false, cond, Option, Some, None, List, [], ◌∷◌, length, length-append, refl, ap, ◌∙◌, arith, inl, inr}
use Rattle.std.specs.Prelude.{◌==◌, ◌&&◌, ◌%◌, nat_le}
use Rattle.std.specs.List.{filter}
use Rattle.std.proofs.lemmas.Bool.{cases_lt, lt-leb, eqb-true}
use Rattle.std.proofs.lemmas.List.{length-map}
use Rattle.sched_plain.specs.declared.schedule.Schedule.{Schedule}
use Rattle.sched_plain.specs.declared.step.Pair.{Pair}
use Rattle.expressions.specs.Calendar.{Calendar}
use Rattle.plain_words.specs.Ids.{shard_of}
use Rattle.plain_words.specs.Lists.{numbers, passing, put_if}
use Rattle.sched_plain.specs.History.{History}
use Rattle.sched_plain.specs.Moments.{moment, last_moment}
use Rattle.sched_plain.specs.Changes.{changes_of}
use Rattle.sched_plain.specs.Rows.{rows_of, current}
use Rattle.sched_plain.specs.Ledger.{ledger_of}
use Rattle.sched_plain.specs.Entries.{entries, filed}
use Rattle.sched_plain.specs.Items.{items}
use Rattle.sched_plain.specs.Occurrences.{occurs_in}
use Rattle.sched_plain.specs.Marks.{cover}
use Rattle.sched_plain.specs.Work.{of_shard}
use Rattle.sched_plain.specs.Legal.{IsLegal}
use Rattle.next_dates.specs.Dates.{from_on}
use Rattle.next_dates.proofs.NextComing.{unentered_is}
use Rattle.book_laws.proofs.EntriesExact.{caught}
use Rattle.sweep_laws.specs.LoadLaws.{sum_over, living_weight, weight, LoadsAreSmall}
use Rattle.sweep_laws.proofs.Entering.{few_passing, light_in}
use Rattle.sweep_laws.proofs.Limits.{few_rows}

-- ---- how many numbers pass

put_long : (b : Bool) (n : ℕ) (xs : List ℕ) → length (put_if b n xs) ≤ length xs + 1
put_long true n xs = let long = length-append xs (n ∷ []) in omega (arith, long)
put_long false n xs = omega arith

pub passing_few : (p : ℕ → Bool) (n : ℕ) → length (passing p n) ≤ n
passing_few p zero = omega arith
passing_few p (suc n) =
    let more = put_long (p n) n (passing p n) in
    let old = passing_few p n in
    omega (arith, more, old)

put_none : (b : Bool) (n : ℕ) (xs : List ℕ) → b ≡ false → put_if b n xs ≡ xs
put_none true n xs e = absurd cc
put_none false n xs e = refl

-- none below the number from which on they pass
none_before : (p : ℕ → Bool) (m n : ℕ) → n ≤ m → length (passing (from_on m p) n) ≡ 0
none_before p m zero le = refl
none_before p m (suc n) le =
    let fails : (nat_le m n && p n) ≡ false = ap (λ (b : Bool). b && p n) (lt-leb m n (omega (arith, le))) in
    ap (λ (l : List ℕ). length l) (put_none (nat_le m n && p n) n (passing (from_on m p) n) fails) ∙ none_before p m n (omega (arith, le))

from_few : (p : ℕ → Bool) (m n : ℕ) → m ≤ n → length (passing (from_on m p) n) + m ≤ n
from_few p m zero le = omega (arith, le)
from_few p m (suc n) le =
    elim (cases_lt n m) [
      | inl lt ↦ let none = none_before p m (suc n) (omega (arith, lt)) in omega (arith, none, le)
      | inr up ↦
          let more = put_long (nat_le m n && p n) n (passing (from_on m p) n) in
          let old = from_few p m n up in
          omega (arith, more, old)
    ]

-- ---- what an incarnation weighs

light_living : (o : Option Schedule) → living_weight o ≤ 1
light_living None = omega arith
light_living (Some content) = omega arith

weighs_little : (c : Calendar) (h : History) (t inc : ℕ) → IsLegal c h → moment h ≤ t → t ≤ last_moment → weight c h t inc ≤ 21774355201
weighs_little c h t inc legal early late =
    let old = caught c h legal inc in
    let p = occurs_in c (items h inc) in
    let m = cover h inc in
    let bound : m ≤ moment h + 1 = old.bound in
    let exact = ap (λ (l : List ℕ). length l) old.reaches.exact in
    let kept = few_passing old.reaches.kept (passing p m) in
    let below = passing_few p m in
    let pairs = length-map {B = ℕ} (entries (ledger_of h) inc) (λ (pair : Pair). pair.instant) in
    let open_ = ap (λ (l : List ℕ). length l) (unentered_is c h legal inc t) in
    let rest = from_few p m (t + 1) (omega (arith, bound, early)) in
    let entered = light_in t inc (filed (ledger_of h) inc) (entries (ledger_of h) inc) in
    let living = light_living (current (rows_of (changes_of h)) inc) in
    omega (arith, exact, kept, below, pairs, open_, rest, entered, living, late)

-- ---- how many incarnations a shard has

eighth_case : (b : Bool) (shard from n : ℕ) (rest : List ℕ) → (shard == from % 8) ≡ b → shard ≤ 7 → 8 * length rest ≤ n + (from + 1 + 7 - shard) % 8
    → 8 * length (cond b (from ∷ rest) rest) ≤ suc n + (from + 7 - shard) % 8
eighth_case true shard from n rest e low le = let same : shard ≡ from % 8 = eqb-true shard (from % 8) e in omega (arith, same, low, le)
eighth_case false shard from n rest e low le = omega (arith, low, le)

an_eighth : (shard from n : ℕ) → shard ≤ 7 → 8 * length (filter (λ inc. shard == shard_of inc) (numbers from n)) ≤ n + (from + 7 - shard) % 8
an_eighth shard from zero low = omega arith
an_eighth shard from (suc n) low =
    eighth_case (shard == shard_of from) shard from n (filter (λ inc. shard == shard_of inc) (numbers (from + 1) n)) refl low (an_eighth shard (from + 1) n low)

sum_little : (f : ℕ → ℕ) (xs : List ℕ) → ((x : ℕ) → f x ≤ 21774355201) → sum_over f xs ≤ 21774355201 * length xs
sum_little f [] le = omega arith
sum_little f (x ∷ xs) le = let here = le x in let more = sum_little f xs le in omega (arith, here, more)

pub small_load : LoadsAreSmall
small_load c h shard t legal early late low =
    let created = length (rows_of (changes_of h)) in
    let sums = sum_little (weight c h t) (of_shard shard created) (λ inc. weighs_little c h t inc legal early late) in
    let few = an_eighth shard 1 created low in
    let all = few_rows c h legal in
    omega (arith, sums, few, all)
