-- What an Enter that may follow says of its incarnation and of its pairs.
use Rattle.std.proofs.Common.{◌≡◌, ℕ, ◌≤◌, ◌==◌, nat_le, nat_lt, Bool, true, false, cond, Option, Some, None, List, [], ◌∷◌, refl, sym, ap, ◌∙◌, subst, filter, eqb-true}
use Rattle.std.specs.Option.{option_and_then}
use Rattle.std.proofs.lemmas.Bool.{leb-true, ltb-false}
use Rattle.plain_words.specs.declared.moment.Moment.{Moment}
use Rattle.plain_words.specs.Lists.{last, nth}
use Rattle.plain_words.proofs.Booleans.{by_bool}
use Rattle.plain_words.proofs.ListLemmas.{all_none, when_none}
use Rattle.plain_words.proofs.Options.{map_none, some_same}
use Rattle.sched_plain.specs.declared.row.Row.{Row}
use Rattle.sched_plain.specs.declared.schedule.Schedule.{Schedule}
use Rattle.sched_plain.specs.declared.step.Pair.{Pair}
use Rattle.sched_plain.specs.declared.step.Step.TheVariants as steps
use Rattle.sched_plain.specs.Changes.{changes_of}
use Rattle.sched_plain.specs.History.{History}
use Rattle.sched_plain.specs.Legal.{IsLegal, MayFollow}
use Rattle.sched_plain.specs.Marks.{cover, unentered}
use Rattle.sched_plain.specs.Moments.{moment}
use Rattle.sched_plain.specs.Occurrences.{occ}
use Rattle.sched_plain.specs.Rows.{current, current_of, rows_of}
use Rattle.sched_plain.specs.Rules.{first_astray, kind_table, moment_rule}
use Rattle.sched_plain.specs.Seen.{seen}
use Rattle.book_laws.proofs.EntriesExact.{unentered_are_the_rest}
use Rattle.next_dates.specs.NextLaws.{NothingToCome}
use Rattle.next_dates.proofs.Tables.{kind_holds}
use Rattle.work_order.specs.LivingLaws.{OnlyLivingAct}
use Rattle.book_parts.specs.Stands.{calendar}

-- its moment does not fall
pub enter_moment : (h : History) (at : Moment) (inc : ℕ) (pairs : List Pair) → MayFollow calendar h (steps.Enter at inc pairs) → moment h ≤ at.0
enter_moment h at inc pairs may =
    let s = steps.Enter at inc pairs in
    ltb-false at.0 (moment h) (when_none (nat_lt at.0 (moment h)) _ (all_none (moment_rule (moment h) s ∷ kind_table (seen calendar h) s) may).0)

-- none of its pairs is astray
pub none_strays : (h : History) (at : Moment) (inc : ℕ) (pairs : List Pair) → MayFollow calendar h (steps.Enter at inc pairs)
    → first_astray pairs (unentered calendar h inc at.0) ≡ None
none_strays h at inc pairs may =
    map_none _ (first_astray pairs (unentered calendar h inc at.0)) (kind_holds calendar h (steps.Enter at inc pairs) may).0

-- ---- its incarnation lives

pub record Lives (h : History) (inc : ℕ) : Type 0 where
  pub row : Row
  pub content : Schedule
  pub there : nth (rows_of (changes_of h)) inc ≡ Some row
  pub now : current_of row ≡ Some content

lives_by : (h : History) (inc : ℕ) → (current (rows_of (changes_of h)) inc ≡ None → ⊥) → (row : Option Row) → nth (rows_of (changes_of h)) inc ≡ row → Lives h inc
lives_by h inc some None there = absurd (some (ap (option_and_then current_of) there))
lives_by h inc some (Some row) there = by_content (current_of row) refl
  where
    by_content : (content : Option Schedule) → current_of row ≡ content → Lives h inc
    by_content None now = absurd (some (ap (option_and_then current_of) there ∙ now))
    by_content (Some content) now = record { row = row; content = content; there = there; now = now }

strays_of_none : (pairs : List Pair) (pair : Pair) → last pairs ≡ Some pair → first_astray pairs [] ≡ None → ⊥
strays_of_none [] pair is e = cc is
strays_of_none (one ∷ pairs) pair is e = cc e

pub enter_lives : OnlyLivingAct → NothingToCome → (h : History) (at : Moment) (inc : ℕ) (pairs : List Pair) (pair : Pair) → IsLegal calendar h
    → MayFollow calendar h (steps.Enter at inc pairs) → last pairs ≡ Some pair → Lives h inc
enter_lives living nothing h at inc pairs pair legal may is =
    lives_by h inc
    (λ gone.
    let none : unentered calendar h inc at.0 ≡ [] = nothing calendar h legal inc at.0 (living calendar h legal inc gone) in
    strays_of_none pairs pair is (sym (ap (first_astray pairs) none) ∙ none_strays h at inc pairs may))
    (nth (rows_of (changes_of h)) inc) refl

-- ---- its last pair is behind what was entered

abbrev AllFrom : ℕ → List ℕ → Type 0
AllFrom m [] = Unit {0}
AllFrom m (x ∷ xs) = (m ≤ x) × AllFrom m xs

filter_from : (m : ℕ) (xs : List ℕ) → AllFrom m (filter (λ i. nat_le m i) xs)
filter_from m [] = tt
filter_from m (x ∷ xs) =
    by_bool (λ b. AllFrom m (cond b (x ∷ filter (λ i. nat_le m i) xs) (filter (λ i. nat_le m i) xs))) (nat_le m x)
    (λ le. (leb-true m x le, filter_from m xs)) (λ gt. filter_from m xs)

goes_on : (b : Bool) (i : ℕ) (rest : Option ℕ) → cond b rest (Some i) ≡ None → (b ≡ true) × (rest ≡ None)
goes_on true i rest e = (refl, e)
goes_on false i rest e = cc e

last_from_on : (m : ℕ) (pairs : List Pair) (wanted : List ℕ) (pair : Pair) → AllFrom m wanted → first_astray pairs wanted ≡ None → last pairs ≡ Some pair → m ≤ pair.instant
last_from_on m [] wanted pair all e is = cc is
last_from_on m (one ∷ pairs) [] pair all e is = cc e
last_from_on m (one ∷ []) (x ∷ wanted) pair all e is =
    let same = eqb-true one.instant x (goes_on (one.instant == x) one.instant (first_astray [] wanted) e).0 in
    subst (λ (p : Pair). m ≤ p.instant) (some_same one pair is) (subst (λ (i : ℕ). m ≤ i) (sym same) all.0)
last_from_on m (one ∷ next ∷ pairs) (x ∷ wanted) pair all e is =
    last_from_on m (next ∷ pairs) wanted pair all.1 (goes_on (one.instant == x) one.instant (first_astray (next ∷ pairs) wanted) e).1 is

pub last_reaches : (h : History) (at : Moment) (inc : ℕ) (pairs : List Pair) (pair : Pair) → IsLegal calendar h
    → MayFollow calendar h (steps.Enter at inc pairs) → last pairs ≡ Some pair → cover h inc ≤ pair.instant
last_reaches h at inc pairs pair legal may is =
    last_from_on (cover h inc) pairs (unentered calendar h inc at.0) pair
    (subst (AllFrom (cover h inc)) (sym (unentered_are_the_rest calendar h legal inc at.0)) (filter_from (cover h inc) (occ calendar h inc at.0)))
    (none_strays h at inc pairs may) is
