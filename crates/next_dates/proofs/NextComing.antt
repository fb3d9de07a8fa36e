-- The next instant is the least occurrence that the entries do not reach, and tells what has no entry.
use Rattle.std.proofs.Common.{◌≡◌, ℕ, ◌+◌, ◌<◌, ◌≤◌, nat_le, Bool, false, ◌&&◌, Option, Some, None, sym, ap, ◌∙◌, subst, inl, inr, arith}
use Rattle.std.proofs.Math.Bool.{and_comm}
use Rattle.std.proofs.lemmas.Bool.{cases_lt, true≢false}
use Rattle.plain_words.specs.Lists.{head, last, passing}
use Rattle.plain_words.specs.Moments.{last_moment}
use Rattle.plain_words.proofs.Booleans.{and_false, and_second}
use Rattle.expressions.specs.Calendar.{Calendar}
use Rattle.sched_plain.specs.History.{History}
use Rattle.sched_plain.specs.Items.{Item, items}
use Rattle.sched_plain.specs.Occurrences.{occurs, occurs_in, occ_below}
use Rattle.sched_plain.specs.Marks.{unentered, cover}
use Rattle.sched_plain.specs.Legal.{IsLegal}
use Rattle.book_laws.proofs.EntriesExact.{unentered_are_the_rest}
use Rattle.next_dates.specs.Dates.{IsLeast, from_on}
use Rattle.next_dates.specs.NextInstants.{next_instant}
use Rattle.next_dates.specs.NextLaws.{NextComes, NextIsLeast, NextInTime, UnenteredOfLast, UnenteredFromNext, NothingToCome}
use Rattle.next_dates.proofs.Firsts.{passing_same, passing_none, filter_passing, head_least, least_whole, least_same, least_agrees, head_upto, from_least}
use Rattle.next_dates.proofs.LastItems.{EndBy, past_ends, only_last}
use Rattle.next_dates.proofs.ItemSteps.{items_end, others_end}

-- the test of an occurrence that the entries do not reach
abbrev pub is_rest : Calendar → History → ℕ → ℕ → Bool
is_rest c h inc = from_on (cover h inc) (occurs_in c (items h inc))

-- what is unentered is what occurs from the cover on
pub unentered_is : (c : Calendar) (h : History) → IsLegal c h → (inc t : ℕ) → unentered c h inc t ≡ passing (is_rest c h inc) (t + 1)
unfolding occ_below
unentered_is c h legal inc t =
    unentered_are_the_rest c h legal inc t
    ∙ filter_passing (λ i. nat_le (cover h inc) i) (occurs_in c (items h inc)) (t + 1)
    ∙ passing_same _ _ (t + 1) (λ i. and_comm (occurs_in c (items h inc) i) (nat_le (cover h inc) i))

-- past a moment by which all items end nothing is left
none_past : (c : Calendar) (h : History) (inc t : ℕ) → EndBy t (items h inc) → (i : ℕ) → t + 1 ≤ i → is_rest c h inc i ≡ false
none_past c h inc t end i le =
    let over : t < i = omega arith in
    ap (λ b. nat_le (cover h inc) i && b) (past_ends c t (items h inc) i end over) ∙ and_false (nat_le (cover h inc) i)

least_by : (c : Calendar) (h : History) → IsLegal c h → (inc t : ℕ) → EndBy t (items h inc) → IsLeast (is_rest c h inc) (head (unentered c h inc t))
least_by c h legal inc t end =
    subst (λ xs. IsLeast (is_rest c h inc) (head xs)) (sym (unentered_is c h legal inc t))
    (least_whole (is_rest c h inc) (t + 1) (head (passing (is_rest c h inc) (t + 1))) (none_past c h inc t end) (head_least (is_rest c h inc) (t + 1)))

pub next_least : NextIsLeast
next_least c h legal inc = least_by c h legal inc last_moment (items_end h inc)

-- so that what is the least is the next instant
pub next_found : (c : Calendar) (h : History) → IsLegal c h → (inc : ℕ) (o : Option ℕ) → IsLeast (is_rest c h inc) o → next_instant c h inc ≡ o
next_found c h legal inc o least = least_same (is_rest c h inc) (next_instant c h inc) o (next_least c h legal inc) least

pub next_comes : NextComes
next_comes c h legal inc t =
    ap head (unentered_is c h legal inc t) ∙ head_upto (is_rest c h inc) (next_instant c h inc) t (next_least c h legal inc)

pub next_in_time : NextInTime
next_in_time c h legal inc n is =
    let least : IsLeast (is_rest c h inc) (Some n) = subst (λ o. IsLeast (is_rest c h inc) o) is (next_least c h legal inc) in
    elim (cases_lt last_moment n) [
      | inl over ↦
          let fails : occurs_in c (items h inc) n ≡ false = past_ends c last_moment (items h inc) n (items_end h inc) over in
          absurd (true≢false (sym (and_second (nat_le (cover h inc) n) (occurs_in c (items h inc) n) least.0) ∙ fails))
      | inr within ↦ within
    ]

-- the last item alone
rest_of_last : (c : Calendar) (h : History) → IsLegal c h → (inc : ℕ) (item : Item) → last (items h inc) ≡ Some item
    → (i : ℕ) → is_rest c h inc i ≡ from_on (cover h inc) (occurs c item) i
rest_of_last c h legal inc item is i = only_last c (cover h inc) (items h inc) item (others_end c h legal inc) is i

pub unentered_of_last : UnenteredOfLast
unentered_of_last c h legal inc t item is = unentered_is c h legal inc t ∙ passing_same _ _ (t + 1) (rest_of_last c h legal inc item is)

pub unentered_from_next : UnenteredFromNext
unentered_from_next c h legal inc t n item last_is is =
    let least : IsLeast (from_on (cover h inc) (occurs c item)) (Some n) =
    least_agrees (is_rest c h inc) (from_on (cover h inc) (occurs c item)) (Some n) (rest_of_last c h legal inc item last_is)
    (subst (λ o. IsLeast (is_rest c h inc) o) is (next_least c h legal inc)) in
    unentered_of_last c h legal inc t item last_is ∙ passing_same _ _ (t + 1) (from_least (occurs c item) (cover h inc) n least)

pub nothing_to_come : NothingToCome
nothing_to_come c h legal inc t is =
    let none : IsLeast (is_rest c h inc) None = subst (λ o. IsLeast (is_rest c h inc) o) is (next_least c h legal inc) in
    unentered_is c h legal inc t ∙ passing_none (is_rest c h inc) (t + 1) none
