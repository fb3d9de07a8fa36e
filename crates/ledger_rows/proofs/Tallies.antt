-- Entries counted one by one are those that the definitions count.
use Rattle.std.proofs.Common.{◌≡◌, ℕ, zero, suc, ◌+◌, ◌≤◌, ◌<◌, Bool, true, false, cond, Option, Some, List, [], ◌∷◌, ◌++◌, length, take, get_or, option_map, refl, sym, ap, ap₂, ◌∙◌, arith}
use Rattle.std.specs.List.{filter, flat_map}
use Rattle.std.specs.Option.{option_to_list}
use Rattle.std.proofs.lemmas.List.{map-append, take_more}
use Rattle.sched_plain.specs.declared.standing.Standing.{Standing}
use Rattle.sched_plain.specs.declared.step.Pair.{Pair}
use Rattle.sched_plain.specs.Standing.{standing_of}
use Rattle.sched_plain.specs.Entries.{instants_of, is_open}
use Rattle.sched_plain.specs.Report.{number_of, one_more_if}
use Rattle.entry_lines.specs.Rows.{Row, LaneRows}
use Rattle.ledger_rows.specs.Rows.{row_at, filed_in_row, filed_at, pairs_of, is_open_row, open_in, standings_in, standings_looked, IsRising}
use Rattle.std.proofs.lemmas.Grind.{flat_map-append}
use Rattle.std.proofs.lemmas.List.{get_or_past}
use Rattle.plain_words.specs.Lists.{numbers}
use Rattle.sched_plain.specs.declared.entry.Filed.{Filed}
use Rattle.sched_plain.specs.Ledger.{LedgerCall}
use Rattle.sched_plain.specs.Entries.{entries, filed}
use Rattle.sched_plain.specs.Attempts.{attempts}
use Rattle.sched_plain.specs.Report.{all_standings, standings_of}
use Rattle.ledger_rows.specs.Counting.{IsWithin}
use Rattle.ledger_rows.specs.State.{Tells, no_lane, lane_standings}
use Rattle.ledger_rows.proofs.Lookups.{found_here}

-- each of these entries is the one that is looked up at its instant
abbrev pub AllFound : List Row → List Row → Type 0
AllFound whole tail = (j : ℕ) (d : Row) → j < length tail → row_at whole (get_or tail j d).instant ≡ Some (get_or tail j d)

opened : (b : Bool) (k : ℕ) (row : Row) (ks : List ℕ) (rows : List Row) → length ks ≡ length rows → length (cond b (k ∷ ks) ks) ≡ length (cond b (row ∷ rows) rows)
opened true k row ks rows e = ap suc e
opened false k row ks rows e = e

tail_open : (whole tail : List Row) → AllFound whole tail
    → length (filter (λ k. is_open (filed_at whole k)) (instants_of (pairs_of tail))) ≡ length (filter is_open_row tail)
tail_open whole [] found = refl
tail_open whole (row ∷ tail) found =
    let here : is_open (filed_at whole row.instant) ≡ is_open_row row = ap (λ (o : Option Row). is_open (filed_in_row o)) (found 0 row (omega arith)) in
    ap (λ (b : Bool). length (cond b (row.instant ∷ filter (λ k. is_open (filed_at whole k)) (instants_of (pairs_of tail))) (filter (λ k. is_open (filed_at whole k)) (instants_of (pairs_of tail))))) here
    ∙ opened (is_open_row row) row.instant row (filter (λ k. is_open (filed_at whole k)) (instants_of (pairs_of tail))) (filter is_open_row tail)
    (tail_open whole tail (λ j d lt. found (suc j) d (omega arith)))

all_found : (rows : List Row) → IsRising rows → AllFound rows rows
all_found rows rising j d lt = found_here rows j (get_or rows j d) rising lt (same rows j d lt)
  where
    same : (rows : List Row) (j : ℕ) (d : Row) → j < length rows → get_or rows j d ≡ get_or rows j (get_or rows j d)
    same [] j d lt = absurd (omega arith)
    same (row ∷ rows) zero d lt = refl
    same (row ∷ rows) (suc j) d lt = same rows j d (omega arith)

pub open_is : (rows : List Row) → IsRising rows → open_in rows ≡ length (filter is_open_row rows)
open_is rows rising = tail_open rows rows (all_found rows rising)

tail_standings : (now : ℕ) (whole tail : List Row) → AllFound whole tail
    → flat_map {X = Pair} (λ pair. option_to_list (option_map (λ f. standing_of f now) (filed_at whole pair.instant))) (pairs_of tail) ≡ standings_in now tail
tail_standings now whole [] found = refl
tail_standings now whole (row ∷ tail) found =
    ap₂ (λ (o : Option Row) (l : List Standing). option_to_list (option_map (λ f. standing_of f now) (filed_in_row o)) ++ l)
    (found 0 row (omega arith)) (tail_standings now whole tail (λ j d lt. found (suc j) d (omega arith)))

pub standings_are : (now : ℕ) (rows : List Row) → IsRising rows → standings_looked now rows ≡ standings_in now rows
standings_are now rows rising = tail_standings now rows rows (all_found rows rising)

one_more_push : (test : Standing → Bool) (b : Bool) (n : ℕ) (c : Bool) → one_more_if b (one_more_if c n) ≡ one_more_if c (one_more_if b n)
one_more_push test true n true = refl
one_more_push test true n false = refl
one_more_push test false n true = refl
one_more_push test false n false = refl

-- one more at the end
pub number_push : (test : Standing → Bool) (all : List Standing) (s : Standing) → number_of test (all ++ s ∷ []) ≡ one_more_if (test s) (number_of test all)
number_push test [] s = refl
number_push test (x ∷ all) s = ap (one_more_if (test x)) (number_push test all s) ∙ one_more_push test (test x) (number_of test all) (test s)

-- the standings of one entry more
pub standings_more : (now : ℕ) (rows : List Row) (i : ℕ) (row : Row) → i < length rows → row ≡ get_or rows i row
    → standings_in now (take (i + 1) rows) ≡ standings_in now (take i rows) ++ standing_of row.filed now ∷ []
standings_more now rows i row lt there =
    ap (standings_in now) (take_more rows i row lt) ∙ map-append {A = Row} (λ r. standing_of r.filed now) (take i rows) (get_or rows i row ∷ [])
    ∙ ap (λ (r : Row). standings_in now (take i rows) ++ standing_of r.filed now ∷ []) (sym there)

pub all_taken : {A : Type 0} (xs : List A) (i : ℕ) → length xs ≤ i → take i xs ≡ xs
all_taken [] zero le = refl
all_taken [] (suc i) le = refl
all_taken (x ∷ xs) zero le = absurd (omega (arith, le))
all_taken (x ∷ xs) (suc i) le = ap (λ l. x ∷ l) (all_taken xs i (omega (arith, le)))

pub append_nil : {A : Type 0} (xs : List A) → xs ++ [] ≡ xs
append_nil [] = refl
append_nil (x ∷ xs) = ap (λ l. x ∷ l) (append_nil xs)

pub number_append : (test : Standing → Bool) (xs ys : List Standing) → number_of test (xs ++ ys) ≡ number_of test xs + number_of test ys
number_append test [] ys = omega arith
number_append test (x ∷ xs) ys = ap (one_more_if (test x)) (number_append test xs ys) ∙ one_more_sum (test x) (number_of test xs) (number_of test ys)
  where
    one_more_sum : (b : Bool) (m n : ℕ) → one_more_if b (m + n) ≡ one_more_if b m + n
    one_more_sum true m n = omega arith
    one_more_sum false m n = refl

pub numbers_append : (a n m : ℕ) → numbers a (n + m) ≡ numbers a n ++ numbers (a + n) m
numbers_append a zero m =
    let e : a ≡ a + 0 = omega arith in let f : 0 + m ≡ m = omega arith in ap₂ numbers e f
numbers_append a (suc n) m =
    let more : suc n + m ≡ suc (n + m) = omega arith in
    let there : a + 1 + n ≡ a + suc n = omega arith in
    ap (numbers a) more ∙ ap (λ l. a ∷ l) (numbers_append (a + 1) n m ∙ ap (λ (b : ℕ). numbers (a + 1) n ++ numbers b m) there)

empties : {A : Type 0} (h : ℕ → List A) (a m : ℕ) → ((i : ℕ) → a ≤ i → h i ≡ []) → flat_map h (numbers a m) ≡ []
empties h a zero none_here = refl
empties h a (suc m) none_here =
    ap₂ (λ x y. x ++ y) (none_here a (omega arith)) (empties h (a + 1) m (λ i le. none_here i (omega (arith, le))))

-- a list of lists that is empty behind a place ends there
shorter : {A : Type 0} (h : ℕ → List A) (a n m : ℕ) → ((i : ℕ) → a + n ≤ i → h i ≡ []) → flat_map h (numbers a (n + m)) ≡ flat_map h (numbers a n)
shorter h a n m none_behind =
    ap (flat_map h) (numbers_append a n m) ∙ flat_map-append h (numbers a n) (numbers (a + n) m)
    ∙ ap (λ l. flat_map h (numbers a n) ++ l) (empties h (a + n) m none_behind) ∙ append_nil (flat_map h (numbers a n))

pub all_are : (lanes : List LaneRows) (calls : List LedgerCall) (created now : ℕ) → Tells lanes (filed calls) (entries calls) (attempts calls) → IsWithin calls created
    → flat_map (lane_standings lanes now) (numbers 0 (length lanes)) ≡ all_standings calls created now
all_are lanes calls created now told within =
    let g = lane_standings lanes now in
    let h = standings_of calls now in
    let same : (i : ℕ) → g i ≡ h i = λ i.
    ap₂ (λ (f : ℕ → Option Filed) (ps : List Pair). flat_map {X = Pair} (λ pair. option_to_list (option_map (λ f. standing_of f now) (f pair.instant))) ps)
    (λ t k. told.filed i k t) (told.pairs i) in
    let beyond : (i : ℕ) → 0 + length lanes ≤ i → h i ≡ [] = λ i le.
    sym (same i) ∙ ap (λ (l : LaneRows). standings_looked now l.rows) (get_or_past lanes i no_lane (omega (arith, le))) in
    let behind : (i : ℕ) → 0 + suc created ≤ i → h i ≡ [] = λ i le.
    ap (flat_map {X = Pair} (λ pair. option_to_list (option_map (λ f. standing_of f now) (filed calls i pair.instant)))) (within.none_behind i (omega (arith, le))) in
    let first : h 0 ≡ [] =
    ap (flat_map {X = Pair} (λ pair. option_to_list (option_map (λ f. standing_of f now) (filed calls 0 pair.instant)))) within.none_before in
    let swapped : suc created + length lanes ≡ length lanes + suc created = omega arith in
    ap (λ (f : ℕ → List Standing). flat_map f (numbers 0 (length lanes))) (λ t i. same i t)
    ∙ sym (shorter h 0 (length lanes) (suc created) beyond)
    ∙ ap (λ (n : ℕ). flat_map h (numbers 0 n)) (sym swapped)
    ∙ shorter h 0 (suc created) (length lanes) behind
    ∙ ap (λ l. l ++ flat_map h (numbers 1 created)) first
