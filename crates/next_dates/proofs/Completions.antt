-- Before a Complete nothing of the schedule is to come.
use Rattle.std.proofs.Common.{◌≡◌, ℕ, zero, suc, ◌+◌, ◌<◌, ◌≤◌, nat_le, nat_lt, Bool, true, false, not, ◌&&◌, ◌||◌, Option, Some, None, List, [], ◌∷◌, refl, sym, ap, ◌∙◌, inl, inr, arith}
use Rattle.std.proofs.lemmas.Bool.{cases_lt, lt-ltb, not-false, not-true}
use Rattle.plain_words.specs.declared.moment.Moment.{Moment}
use Rattle.sched_plain.specs.declared.schedule.Schedule.{Schedule}
use Rattle.sched_plain.specs.declared.step.Step.TheVariants as steps
use Rattle.plain_words.specs.Lists.{passing, any_passing, put_if, some_pass}
use Rattle.plain_words.specs.Moments.{last_moment}
use Rattle.plain_words.proofs.Booleans.{and_first, and_second, and_false}
use Rattle.plain_words.proofs.ListLemmas.{when_none}
use Rattle.expressions.specs.Calendar.{Calendar}
use Rattle.sched_plain.specs.History.{History}
use Rattle.sched_plain.specs.Items.{Item, items}
use Rattle.sched_plain.specs.Occurrences.{occurs_in, has_later}
use Rattle.sched_plain.specs.Marks.{cover}
use Rattle.sched_plain.specs.Seen.{Seen, seen}
use Rattle.sched_plain.specs.Work.{is_empty, has_open, is_finished, completable}
use Rattle.sched_plain.specs.Legal.{IsLegal, MayFollow}
use Rattle.next_dates.proofs.LastItems.{past_ends}
use Rattle.next_dates.proofs.Tables.{kind_holds}
use Rattle.next_dates.proofs.ItemSteps.{items_end}
use Rattle.next_dates.proofs.NextComing.{is_rest, unentered_is}

is_none_left : (xs : List ℕ) → is_empty xs ≡ true → xs ≡ []
is_none_left [] e = refl
is_none_left (x ∷ xs) e = cc

put_none : (b : Bool) (n : ℕ) (xs : List ℕ) → put_if b n xs ≡ [] → (b ≡ false) × (xs ≡ [])
put_none true n [] e = let clash : ⊥ = cc in absurd clash
put_none true n (x ∷ xs) e = let clash : ⊥ = cc in absurd clash
put_none false n xs e = (refl, e)

-- where nothing passes below a bound each number there fails
passing_fails : (p : ℕ → Bool) (n : ℕ) → passing p n ≡ [] → (i : ℕ) → i < n → p i ≡ false
passing_fails p zero e i lt = absurd (omega arith)
passing_fails p (suc n) e i lt =
    let parts = put_none (p n) n (passing p n) e in
    elim (cases_lt i n) [
      | inl low ↦ passing_fails p n parts.1 i low
      | inr ge ↦ let same : i ≡ n = omega arith in ap p same ∙ parts.0
    ]

or_parts : (a b : Bool) → (a || b) ≡ false → (a ≡ false) × (b ≡ false)
or_parts true b e = let clash : ⊥ = cc in absurd clash
or_parts false b e = (refl, e)

any_fails : (p : ℕ → Bool) (n : ℕ) → any_passing p n ≡ false → (i : ℕ) → i < n → p i ≡ false
any_fails p zero e i lt = absurd (omega arith)
any_fails p (suc n) e i lt =
    let parts = or_parts (any_passing p n) (p n) e in
    elim (cases_lt i n) [
      | inl low ↦ any_fails p n parts.0 i low
      | inr ge ↦ let same : i ≡ n = omega arith in ap p same ∙ parts.1
    ]

-- where there is nothing later, no later number up to the last moment has an occurrence
later_fails : (c : Calendar) (all : List Item) (t : ℕ) → has_later c all t ≡ false → (i : ℕ) → t < i → i ≤ last_moment → occurs_in c all i ≡ false
unfolding has_later
later_fails c all t none i later upto = below (last_moment + 1) none (omega arith)
  where
    below : (n : ℕ) → any_passing (λ instant. nat_lt t instant && occurs_in c all instant) n ≡ false → i < n → occurs_in c all i ≡ false
    below n e lt =
        let is : nat_lt t i ≡ true = lt-ltb t i later in
        sym (ap (λ b. b && occurs_in c all i) is) ∙ any_fails (λ instant. nat_lt t instant && occurs_in c all instant) n e i lt

-- what a finished schedule has: nothing later, and nothing unentered
finished_parts : (v : Seen) (inc t : ℕ) (content : Option Schedule) → some_pass (is_finished v inc t) content ≡ true
    → (v.times.later inc t ≡ false) × (v.times.unentered inc t ≡ [])
finished_parts v inc t None e = let clash : ⊥ = cc in absurd clash
finished_parts v inc t (Some content) e =
    let open_last = not (has_open v.ledger inc (v.ledger.pairs inc)) in
    let four = and_first (content.enabled && content.delete_after && not (v.times.later inc t) && is_empty (v.times.unentered inc t)) open_last e in
    let three = and_first (content.enabled && content.delete_after && not (v.times.later inc t)) (is_empty (v.times.unentered inc t)) four in (
      not-true (v.times.later inc t) (and_second (content.enabled && content.delete_after) (not (v.times.later inc t)) three),
      is_none_left (v.times.unentered inc t)
          (and_second (content.enabled && content.delete_after && not (v.times.later inc t)) (is_empty (v.times.unentered inc t)) four),
    )

-- so nothing occurs that the entries do not reach
pub nothing_left : (c : Calendar) (h : History) (at : Moment) (inc : ℕ) → IsLegal c h → MayFollow c h (steps.Complete at inc)
    → (i : ℕ) → is_rest c h inc i ≡ false
nothing_left c h at inc legal may i =
    let is : completable (seen c h) inc at.0 ≡ true =
    not-false (completable (seen c h) inc at.0) (when_none (not (completable (seen c h) inc at.0)) _ (kind_holds c h (steps.Complete at inc) may).0) in
    let parts = finished_parts (seen c h) inc at.0 ((seen c h).rows.current inc) is in
    elim (cases_lt at.0 i) [
      | inr upto ↦ passing_fails (is_rest c h inc) (at.0 + 1) (sym (unentered_is c h legal inc at.0) ∙ parts.1) i (omega arith)
      | inl later ↦
          let fails : occurs_in c (items h inc) i ≡ false = elim (cases_lt last_moment i) [
            | inl past ↦ past_ends c last_moment (items h inc) i (items_end h inc) past
            | inr within ↦ later_fails c (items h inc) at.0 parts.0 i later within
          ] in
          ap (λ b. nat_le (cover h inc) i && b) fails ∙ and_false (nat_le (cover h inc) i)
    ]
