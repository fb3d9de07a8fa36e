-- A walk over what a write touches: each incarnation is the least one above that before it.
use Rattle.std.proofs.Common.{subst, ◌≡◌, ℕ, zero, suc, ◌+◌, ◌-◌, ◌≤◌, ◌<◌, Bool, true, false, ◌&&◌, ◌||◌, Option, Some, None, List, [], ◌∷◌, refl, ap, sym, ◌∙◌, arith, inl, inr, true≢false, length}
use Rattle.std.specs.Prelude.{nat_lt, nat_le, if◌then◌else◌, ◌⊎◌}
use Rattle.std.specs.List.{filter, find}
use Rattle.std.specs.Option.{option_and_then, option_map}
use Rattle.std.proofs.lemmas.Bool.{cases_eq, eq-eqb, ne_eqb}
use Rattle.std.proofs.lemmas.Bool.Decides.{nat_tests}
use Rattle.plain_words.specs.Lists.{numbers, nth, some_pass, change_nth}
use Rattle.plain_words.proofs.Booleans.{by_bool, and_true}
use Rattle.plain_words.proofs.ListLemmas.{nth_past, nth_first, nth_rest}
use Rattle.plain_words.proofs.Options.{some_same}
use Rattle.date_table.specs.Dates.{date_at}
use Rattle.date_table.proofs.NumberLists.{nth_zero}
use Rattle.sched_plain.specs.declared.row.Row.{Row}
use Rattle.sched_plain.specs.declared.write.Write.{Write}
use Rattle.sched_plain.specs.Ledger.{LedgerCall, Cancelled}
use Rattle.sched_rows.specs.Answers.{next_touched}
use Rattle.sched_rows.proofs.ChangeLemmas.{length_change}
use Rattle.ledger_rows.specs.State.{State, Stands}
use Rattle.next_dates.proofs.Contents.{changed_here, changed_elsewhere}
use Rattle.book_writes.specs.Touching.{is_touched, is_touched_to, SetIf, SetsWhere}
use Rattle.book_writes.specs.Cancelling.{is_among, Cancels}

-- ---- a search over the numbers that pass a test

-- the first of them that passes another test
record IsFirstOn (q p : ℕ → Bool) (from found : ℕ) : Type 0 where
  pub is : q found ≡ true
  pub passes : p found ≡ true
  pub low : from ≤ found
  pub before : (i : ℕ) → from ≤ i → i < found → p i ≡ true → q i ≡ false

tested : (c : Bool) (x found : ℕ) (more : Option ℕ) → (if c then Some x else more) ≡ Some found
    → ((c ≡ true) × (x ≡ found)) ⊎ ((c ≡ false) × (more ≡ Some found))
tested true x found more e = inl (refl, some_same x found e)
tested false x found more e = inr (refl, e)

untested : (c : Bool) (x : ℕ) (more : Option ℕ) → (if c then Some x else more) ≡ None → (c ≡ false) × (more ≡ None)
untested true x more e = cc e
untested false x more e = (refl, e)

here : (q p : ℕ → Bool) (from found : ℕ) → q from ≡ true → p from ≡ true → from ≡ found → IsFirstOn q p from found
here q p from found is passes same = record {
  is = ap q (sym same) ∙ is;
  passes = ap p (sym same) ∙ passes;
  low = omega arith;
  before = λ i low lt pass. absurd (omega arith);
}

later : (q p : ℕ → Bool) (from found : ℕ) → (p from ≡ true → q from ≡ false) → IsFirstOn q p (from + 1) found → IsFirstOn q p from found
later q p from found fails rest = record {
  is = rest.is;
  passes = rest.passes;
  low = let low = rest.low in omega arith;
  before = λ i low lt pass.
      elim (cases_eq i from) [
        | inl same ↦ ap q same ∙ fails (ap p (sym same) ∙ pass)
        | inr apart ↦ rest.before i (omega arith) lt pass
      ];
}

first_on : (q p : ℕ → Bool) (from n found : ℕ) → find p (filter q (numbers from n)) ≡ Some found → IsFirstOn q p from found
first_on q p from zero found e = cc e
first_on q p from (suc n) found e =
    let rest = filter q (numbers (from + 1) n) in
    by_bool (λ b. find p (if b then from ∷ rest else rest) ≡ Some found → IsFirstOn q p from found) (q from)
    (λ is found_here.
    elim (tested (p from) from found (find p rest) found_here) [
      | inl hit ↦ here q p from found is hit.0 hit.1
      | inr miss ↦ later q p from found (λ passes. absurd (true≢false (sym passes ∙ miss.0))) (first_on q p (from + 1) n found miss.1)
    ])
    (λ fails found_later. later q p from found (λ passes. fails) (first_on q p (from + 1) n found found_later)) e

none_on : (q p : ℕ → Bool) (from n : ℕ) → find p (filter q (numbers from n)) ≡ None
    → (i : ℕ) → from ≤ i → i < from + n → p i ≡ true → q i ≡ false
none_on q p from zero e i low up pass = absurd (omega arith)
none_on q p from (suc n) e i low up pass =
    let rest = filter q (numbers (from + 1) n) in
    by_bool (λ b. find p (if b then from ∷ rest else rest) ≡ None → q i ≡ false) (q from)
    (λ is none.
    let parts = untested (p from) from (find p rest) none in
    elim (cases_eq i from) [
      | inl same ↦ absurd (true≢false (sym pass ∙ ap p same ∙ parts.0))
      | inr apart ↦ none_on q p (from + 1) n parts.1 i (omega arith) (omega arith) pass
    ])
    (λ fails none.
    elim (cases_eq i from) [
      | inl same ↦ ap q same ∙ fails
      | inr apart ↦ none_on q p (from + 1) n none i (omega arith) (omega arith) pass
    ]) e

-- ---- the least above one that a write touches

pub record IsNext (rows : List Row) (write : Write) (after found : ℕ) : Type 0 where
  pub touched : is_touched rows write found ≡ true
  pub above : after < found
  pub between : (i : ℕ) → after < i → i < found → is_touched rows write i ≡ false

pub next_is : (rows : List Row) (write : Write) (after found : ℕ) → next_touched rows write after ≡ Some found → IsNext rows write after found
next_is rows write after found e =
    let first = first_on (is_touched rows write) (nat_lt after) 1 (length rows) found e in
    let passes = first.passes in
    record {
      touched = first.is;
      above = grind (arith, nat_tests, passes);
      between = λ i low lt. first.before i (omega arith) lt (grind (arith, nat_tests));
    }

pub none_next : (rows : List Row) (write : Write) (after : ℕ) → next_touched rows write after ≡ None
    → (i : ℕ) → after < i → is_touched rows write i ≡ false
none_next rows write after e i low =
    by_bool (λ b. b ≡ nat_lt (length rows) i → is_touched rows write i ≡ false) (nat_lt (length rows) i)
    (λ past same. ap (some_pass _) (nth_past rows i (grind (arith, nat_tests, past))))
    (λ within same. none_on (is_touched rows write) (nat_lt after) 1 (length rows) e i (omega arith) (grind (arith, nat_tests, within)) (grind (arith, nat_tests))) refl

-- a touched incarnation is there
pub touched_within : (rows : List Row) (write : Write) (inc : ℕ) → is_touched rows write inc ≡ true → (1 ≤ inc) × (inc ≤ length rows)
touched_within rows write inc touched = (low, high)
  where
    none : nth rows inc ≡ None → ⊥
    none e = true≢false (sym touched ∙ ap (some_pass _) e)

    low : 1 ≤ inc
    low =
        elim (cases_eq inc 0) [
          | inl same ↦ absurd (none (ap (nth rows) same ∙ nth_zero rows))
          | inr apart ↦ omega arith
        ]

    high : inc ≤ length rows
    high =
        by_bool (λ b. b ≡ nat_lt (length rows) inc → inc ≤ length rows) (nat_lt (length rows) inc)
        (λ past same. absurd (none (nth_past rows inc (grind (arith, nat_tests, past)))))
        (λ within same. grind (arith, nat_tests, within)) refl

-- ---- which are touched so far

both_fail : (t b : Bool) → t ≡ false → (t && b) ≡ false
both_fail true b e = cc e
both_fail false b e = refl

-- at the beginning none is
pub none_so_far : (rows : List Row) (write : Write) (inc : ℕ) → is_touched_to rows write 0 inc ≡ false
none_so_far rows write inc =
    by_bool (λ b. b ≡ is_touched rows write inc → is_touched_to rows write 0 inc ≡ false) (is_touched rows write inc)
    (λ touched same.
    let low = (touched_within rows write inc touched).0 in
    let above : nat_le inc 0 ≡ false = grind (arith, nat_tests, low) in
    ap (λ b. is_touched rows write inc && b) above ∙ fails_second (is_touched rows write inc))
    (λ apart same. both_fail (is_touched rows write inc) (nat_le inc 0) apart) refl
  where
    fails_second : (t : Bool) → (t && false) ≡ false
    fails_second true = refl
    fails_second false = refl

-- with the next one it is that one, or one of those before
pub one_more : (rows : List Row) (write : Write) (after found : ℕ) → IsNext rows write after found → (inc : ℕ)
    → ((inc ≡ found) × (is_touched_to rows write found inc ≡ true)) ⊎ ((inc ≡ found → ⊥) × (is_touched_to rows write found inc ≡ is_touched_to rows write after inc))
one_more rows write after found next inc =
    let above = next.above in
    elim (cases_eq inc found) [
      | inl same ↦
          let reached : nat_le inc found ≡ true = grind (arith, nat_tests, same) in
          inl (same, ap (λ b. is_touched rows write inc && b) reached ∙ and_true (is_touched rows write inc) ∙ ap (is_touched rows write) same ∙ next.touched)
      | inr apart ↦
          inr (
            apart,
            by_bool (λ b. b ≡ nat_le inc after → is_touched_to rows write found inc ≡ is_touched_to rows write after inc) (nat_le inc after)
                (λ low e. let reached : nat_le inc found ≡ nat_le inc after = grind (arith, nat_tests, low, above) in ap (λ b. is_touched rows write inc && b) reached)
                (λ high e.
                by_bool (λ b. b ≡ nat_le inc found → is_touched_to rows write found inc ≡ is_touched_to rows write after inc) (nat_le inc found)
                (λ low same.
                let fails = next.between inc (grind (arith, nat_tests, high)) (let le : inc ≤ found = grind (arith, nat_tests, low) in omega arith) in
                both_fail (is_touched rows write inc) (nat_le inc found) fails ∙ sym (both_fail (is_touched rows write inc) (nat_le inc after) fails))
                (λ past same. ap (λ b. is_touched rows write inc && b) (past ∙ sym high)) refl) refl,
          )
    ]

-- where none is above, all are
pub all_so_far : (rows : List Row) (write : Write) (after : ℕ) → next_touched rows write after ≡ None → (inc : ℕ)
    → is_touched_to rows write after inc ≡ is_touched rows write inc
all_so_far rows write after none inc =
    by_bool (λ b. b ≡ nat_le inc after → is_touched_to rows write after inc ≡ is_touched rows write inc) (nat_le inc after)
    (λ low e. ap (λ b. is_touched rows write inc && b) low ∙ and_true (is_touched rows write inc))
    (λ high e.
    let fails = none_next rows write after none inc (grind (arith, nat_tests, high)) in
    both_fail (is_touched rows write inc) (nat_le inc after) fails ∙ sym fails) refl

-- ---- dates that are set anew

kept_if : (b : Bool) (Is : Option ℕ → Type 0) (date : Option ℕ) → b ≡ false → SetIf b Is date date
kept_if true Is date e = cc e
kept_if false Is date e = refl

set_if : (b : Bool) (Is : Option ℕ → Type 0) (old new : Option ℕ) → b ≡ true → Is new → SetIf b Is old new
set_if true Is old new e is = is
set_if false Is old new e is = cc e

pub dates_begin : (rows : List Row) (write : Write) (Is : ℕ → Option ℕ → Type 0) (dates : List (Option ℕ))
    → SetsWhere (is_touched_to rows write 0) Is dates dates
dates_begin rows write Is dates = record {
  long = refl;
  each = λ inc. kept_if (is_touched_to rows write 0 inc) (Is inc) (date_at dates inc) (none_so_far rows write inc);
}

there : (dates : List (Option ℕ)) (date : Option ℕ) (place : ℕ) → 1 ≤ place → place ≤ length dates
    → option_and_then (λ (d : Option ℕ). d) (option_map (λ (old : Option ℕ). date) (nth dates place)) ≡ date
there [] date place low high = absurd (omega arith)
there (first ∷ dates) date place low high =
    elim (cases_eq place 1) [
      | inl same ↦ ap (λ o. option_and_then (λ (d : Option ℕ). d) (option_map (λ (old : Option ℕ). date) o)) (nth_first first dates place same)
      | inr apart ↦
          ap (λ o. option_and_then (λ (d : Option ℕ). d) (option_map (λ (old : Option ℕ). date) o)) (nth_rest first dates place apart)
          ∙ there dates date (place - 1) (omega arith) (omega arith)
    ]

-- the date at a place that is changed, and at others
pub date_here : (dates : List (Option ℕ)) (date : Option ℕ) (place : ℕ) → 1 ≤ place → place ≤ length dates
    → date_at (change_nth (λ old. date) dates place) place ≡ date
date_here dates date place low high =
    ap (option_and_then (λ (d : Option ℕ). d)) (changed_here (λ (old : Option ℕ). date) dates place) ∙ there dates date place low high

pub date_elsewhere : (dates : List (Option ℕ)) (date : Option ℕ) (at place : ℕ) → (place ≡ at → ⊥)
    → date_at (change_nth (λ old. date) dates at) place ≡ date_at dates place
date_elsewhere dates date at place apart = ap (option_and_then (λ (d : Option ℕ). d)) (changed_elsewhere (λ (old : Option ℕ). date) dates at place apart)

pub dates_go_on : (rows : List Row) (write : Write) (Is : ℕ → Option ℕ → Type 0) (old now new : List (Option ℕ)) (after found : ℕ) (date : Option ℕ)
    → length rows ≤ length old → next_touched rows write after ≡ Some found → SetsWhere (is_touched_to rows write after) Is old now
    → Is found date → new ≡ change_nth (λ d. date) now found → SetsWhere (is_touched_to rows write found) Is old new
dates_go_on rows write Is old now new after found date enough there so_far is changed = record {
  long = ap length changed ∙ length_change (λ (d : Option ℕ). date) now found ∙ so_far.long;
  each = λ inc. subst (λ (o : Option ℕ). SetIf (is_touched_to rows write found inc) (Is inc) (date_at old inc) o) (ap (λ (ds : List (Option ℕ)). date_at ds inc) (sym changed)) (at_inc inc);
}
  where
    next : IsNext rows write after found
    next = next_is rows write after found there

    within : (1 ≤ found) × (found ≤ length rows)
    within = touched_within rows write found next.touched

    high : found ≤ length now
    high = let long = so_far.long in let up = within.1 in omega arith

    at_inc : (inc : ℕ) → SetIf (is_touched_to rows write found inc) (Is inc) (date_at old inc) (date_at (change_nth (λ d. date) now found) inc)
    at_inc inc =
        elim (one_more rows write after found next inc) [
          | inl hit ↦
              set_if (is_touched_to rows write found inc) (Is inc) (date_at old inc) (date_at (change_nth (λ d. date) now found) inc) hit.1
              (subst (λ (i : ℕ). Is i (date_at (change_nth (λ d. date) now found) i)) (sym hit.0)
              (subst (Is found) (sym (date_here now date found within.0 high)) is))
          | inr miss ↦
              subst (λ (b : Bool). SetIf b (Is inc) (date_at old inc) (date_at (change_nth (λ d. date) now found) inc)) (sym miss.1)
              (subst (SetIf (is_touched_to rows write after inc) (Is inc) (date_at old inc)) (sym (date_elsewhere now date found inc miss.0)) (so_far.each inc))
        ]

pub dates_end : (rows : List Row) (write : Write) (Is : ℕ → Option ℕ → Type 0) (old now : List (Option ℕ)) (after : ℕ)
    → next_touched rows write after ≡ None → SetsWhere (is_touched_to rows write after) Is old now → SetsWhere (is_touched rows write) Is old now
dates_end rows write Is old now after none so_far = record {
  long = so_far.long;
  each = λ inc. subst (λ (b : Bool). SetIf b (Is inc) (date_at old inc) (date_at now inc)) (all_so_far rows write after none inc) (so_far.each inc);
}

-- ---- entries that are cancelled

pub cancels_begin : (rows : List Row) (write : Write) (s : State) (calls : List LedgerCall) → Stands s calls → Cancels (is_touched_to rows write 0) s calls
cancels_begin rows write s calls stands = record { incs = []; each = λ inc. sym (none_so_far rows write inc); stands = stands }

pub cancels_go_on : (rows : List Row) (write : Write) (now new : State) (calls : List LedgerCall) (after found : ℕ)
    → next_touched rows write after ≡ Some found → ((more : List LedgerCall) → Stands now more → Stands new (Cancelled found ∷ more))
    → Cancels (is_touched_to rows write after) now calls → Cancels (is_touched_to rows write found) new calls
cancels_go_on rows write now new calls after found there cancels so_far = record {
  incs = found ∷ so_far.incs;
  each = λ inc.
      elim (one_more rows write after found (next_is rows write after found there) inc) [
        | inl hit ↦ ap (λ b. b || is_among inc so_far.incs) (eq-eqb inc found hit.0) ∙ sym hit.1
        | inr miss ↦ ap (λ b. b || is_among inc so_far.incs) (ne_eqb inc found miss.0) ∙ so_far.each inc ∙ sym miss.1
      ];
  stands = cancels _ so_far.stands;
}

pub cancels_end : (rows : List Row) (write : Write) (s : State) (calls : List LedgerCall) (after : ℕ)
    → next_touched rows write after ≡ None → Cancels (is_touched_to rows write after) s calls → Cancels (is_touched rows write) s calls
cancels_end rows write s calls after none so_far = record {
  incs = so_far.incs;
  each = λ inc. so_far.each inc ∙ all_so_far rows write after none inc;
  stands = so_far.stands;
}
