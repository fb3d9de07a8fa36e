-- A valid Enter that may follow finds what it wants of the parts.
use Rattle.std.proofs.Common.{◌≡◌, ℕ, ◌+◌, ◌<◌, ◌≤◌, All, AllPairs, cond, Some, List, [], ◌∷◌, ◌++◌, refl, ap, sym, subst, ◌∙◌, arith, length}
use Rattle.std.specs.Prelude.{nat_lt, slice_index}
use Rattle.std.proofs.lemmas.Bool.Decides.{nat_tests}
use Rattle.std.proofs.lemmas.List.{get_or_append_left, get_or-append-add, length-append, length-map, map-append}
use Rattle.plain_words.specs.declared.moment.Moment.{Moment}
use Rattle.plain_words.specs.Lists.{last, last_from, nth}
use Rattle.plain_words.proofs.Booleans.{by_bool, itself}
use Rattle.plain_words.proofs.ListLemmas.{nth_past}
use Rattle.sched_plain.specs.declared.row.Row.{Row}
use Rattle.sched_plain.specs.declared.step.Pair.{Pair}
use Rattle.sched_plain.specs.declared.step.Step.TheVariants as steps
use Rattle.sched_plain.specs.Changes.{changes_of}
use Rattle.sched_plain.specs.Entries.{entries, instants_of}
use Rattle.sched_plain.specs.History.{History, ◌upon◌}
use Rattle.sched_plain.specs.Ledger.{ledger_of}
use Rattle.sched_plain.specs.Legal.{IsLegal, MayFollow}
use Rattle.sched_plain.specs.Rows.{rows_of}
use Rattle.sched_plain.specs.Validity.{IsPair}
use Rattle.ledger_rows.specs.Rows.{IsEntrance}
use Rattle.book_laws.proofs.EntriesExact.{entries_rise}
use Rattle.next_dates.proofs.NextComing.{nothing_to_come}
use Rattle.work_order.proofs.LivingAct.{only_living_act}
use Rattle.book_parts.specs.Stands.{calendar}
use Rattle.book_enters.specs.Finding.{EntersFind}
use Rattle.book_enters.proofs.FollowLemmas.{Lives, enter_lives, enter_moment}

-- a list with an element has a last one
some_last : (pairs : List Pair) → 1 ≤ length pairs → (pair : Pair) × (last pairs ≡ Some pair)
some_last [] some = absurd (omega arith)
some_last (pair ∷ pairs) some = from pair pairs
  where
    from : (one : Pair) (more : List Pair) → (pair : Pair) × (last_from one more ≡ Some pair)
    from one [] = (one, refl)
    from one (next ∷ more) = from next more

-- a row is one of the rows
within : (rows : List Row) (inc : ℕ) (row : Row) → nth rows inc ≡ Some row → inc ≤ length rows
within rows inc row there =
    by_bool (λ b. b ≡ nat_lt (length rows) inc → inc ≤ length rows) (nat_lt (length rows) inc)
    (λ past same. let none = sym there ∙ nth_past rows inc (grind (arith, nat_tests, past)) in cc none)
    (λ low same. grind (arith, nat_tests, low)) refl

-- the pairs of the incarnation with the new ones rise
all_rise : (h : History) (at : Moment) (inc : ℕ) (pairs : List Pair) → IsLegal calendar h → MayFollow calendar h (steps.Enter at inc pairs)
    → AllPairs (λ earlier later. earlier < later) (instants_of (entries (ledger_of h) inc) ++ instants_of pairs)
all_rise h at inc pairs legal may =
    let old = entries (ledger_of h) inc in
    subst (λ (xs : List ℕ). AllPairs (λ earlier later. earlier < later) xs)
    (ap (λ b. instants_of (cond b (old ++ pairs) old)) (itself inc) ∙ map-append (λ (pair : Pair). pair.instant) old pairs)
    (entries_rise calendar (steps.Enter at inc pairs upon h) (legal, may) inc)

-- so they may be entered
entrance_of : (old new : List Pair) → AllPairs (λ earlier later. earlier < later) (instants_of old ++ instants_of new) → All IsPair new → IsEntrance old new
entrance_of old new rise each =
    let xs = instants_of old in
    let ys = instants_of new in
    let short : length xs ≡ length old = length-map old (λ (pair : Pair). pair.instant) in
    let long : length ys ≡ length new = length-map new (λ (pair : Pair). pair.instant) in
    let whole : length (xs ++ ys) ≡ length xs + length ys = length-append xs ys in
    record {
      above = λ i j low high.
          subst (λ (n : ℕ). n < slice_index ys j) (get_or_append_left xs ys 0 i (omega arith))
          (subst (λ (n : ℕ). slice_index (xs ++ ys) i < n) (get_or-append-add xs ys j 0) (rise i (length xs + j) 0 (omega arith) (omega arith)));
      rising = λ i j lt high.
          subst (λ (n : ℕ). n < slice_index ys j) (get_or-append-add xs ys i 0)
          (subst (λ (n : ℕ). slice_index (xs ++ ys) (length xs + i) < n) (get_or-append-add xs ys j 0) (rise (length xs + i) (length xs + j) 0 (omega arith) (omega arith)));
      small = λ k d lt. let is = each k d lt in let instant = is.instant in let late = is.late in omega (arith, instant, late);
    }

pub enters_find : EntersFind
enters_find b h at inc pairs st valid may =
    let one = some_last pairs valid.2 in
    let lives : Lives h inc = enter_lives only_living_act nothing_to_come h at inc pairs one.0 st.legal may one.1 in
    let forward = enter_moment h at inc pairs may in
    let is = st.moment in
    let up = within (rows_of (changes_of h)) inc lives.row lives.there in
    let long : length b.rows.rows ≡ length (rows_of (changes_of h)) = ap (λ (rows : List Row). length rows) st.rows.rows in
    record {
      forward = omega (arith, forward, is);
      last = valid.0;
      low = valid.1.0;
      there = omega (arith, up, long);
      each = valid.4;
      entrance =
          subst (λ (old : List Pair). IsEntrance old pairs) (sym (st.ledger.told.pairs inc))
          (entrance_of (entries (ledger_of h) inc) pairs (all_rise h at inc pairs st.legal may) valid.4);
    }
