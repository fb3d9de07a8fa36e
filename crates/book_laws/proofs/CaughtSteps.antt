-- Each kind of step keeps what is caught.
use Rattle.std.proofs.Common.{◌≡◌, ℕ, ◌+◌, ◌≤◌, ◌==◌, max, Bool, true, false, cond, Option, Some, None, is_some, List, [], ◌++◌, map, length, take, filter, refl, sym, ap, ap₂, ◌∙◌, subst, inl, inr, arith, le_refl}
use Rattle.std.proofs.lemmas.Bool.{cases_eq, eq-eqb, ne_eqb, eqb-true}
use Rattle.std.proofs.lemmas.List.{length-map}
use Rattle.plain_words.specs.declared.moment.Moment.{Moment}
use Rattle.sched_plain.specs.declared.row.Row.{Row}
use Rattle.sched_plain.specs.declared.step.Pair.{Pair}
use Rattle.sched_plain.specs.declared.step.Step.{Step}
use Rattle.sched_plain.specs.declared.step.Step.TheVariants as steps
use Rattle.sched_plain.specs.declared.write.Write.{Write}
use Rattle.sched_plain.specs.History.{History, ◌upon◌}
use Rattle.plain_words.specs.Ids.{shard_of}
use Rattle.sched_plain.specs.Moments.{at_of, moment}
use Rattle.plain_words.specs.Lists.{nth, last}
use Rattle.sched_plain.specs.Changes.{changes_of}
use Rattle.sched_plain.specs.Rows.{deed_of, touches, done_to, removed_at, rows_of}
use Rattle.sched_plain.specs.Zones.{bytes_of}
use Rattle.sched_plain.specs.Items.{cut_item, items_written, items_born, items_zoned, items}
use Rattle.expressions.specs.Calendar.{Calendar}
use Rattle.sched_plain.specs.Occurrences.{occurs_in}
use Rattle.plain_words.specs.Lists.{passing}
use Rattle.sched_plain.specs.Leases.{holder, is_taking}
use Rattle.sched_plain.specs.Ledger.{ended_by, ledger_of}
use Rattle.sched_plain.specs.Entries.{entries, instants_of}
use Rattle.sched_plain.specs.Marks.{above_floor, unentered, cover_written, cover_born, cover_entered, cover}
use Rattle.sched_plain.specs.Seen.{seen}
use Rattle.sched_plain.specs.Work.{open_at, first_open}
use Rattle.sched_plain.specs.Rules.{first_astray}
use Rattle.sched_plain.specs.Legal.{MayFollow}
use Rattle.plain_words.proofs.Options.{map_none}
use Rattle.plain_words.proofs.ListLemmas.{nth_past}
use Rattle.sched_plain.proofs.LedgerLemmas.{entries_cancelled, entries_lost}
use Rattle.book_laws.proofs.Tables.{kind_holds, moment_holds}
use Rattle.book_laws.proofs.Passing.{from_on}
use Rattle.book_laws.proofs.Floors.{Reaches, reaches_on}
use Rattle.book_laws.proofs.Fronts.{reach}
use Rattle.book_laws.proofs.Spans.{zoned_stays, cut_if_stays}
use Rattle.book_laws.proofs.Searches.{nth_within, none_before, none_unchanged, none_among, none_open}
use Rattle.book_laws.proofs.Settled.{swept_open}
use Rattle.book_laws.proofs.Pairs.{none_astray, grown_by}
use Rattle.book_laws.proofs.Covers.{Caught, no_items, none_from_on, same_below, unentered_is, written_exact, written_bound, written_grows, chosen_grows, born_exact, born_bound, deed_bound, born_row}

-- the bound of the step before is one of the step behind
moved : (m old at : ℕ) → m ≤ old + 1 → old ≤ at → m ≤ at + 1
moved m old at bound le = omega arith

pub boot_caught : (c : Calendar) (h : History) (inc : ℕ) (at : Moment) → MayFollow c h (steps.Boot at) → Caught c h inc → Caught c (steps.Boot at upon h) inc
boot_caught c h inc at may old =
    record { bound = moved (cover h inc) (moment h) at.0 old.bound (moment_holds c h (steps.Boot at) may); reaches = old.reaches; unborn = old.unborn; unfloored = old.unfloored }

pub zone_caught : (c : Calendar) (h : History) (inc : ℕ) (at : Moment) (name bytes : List ℕ) → MayFollow c h (steps.Zone at name bytes)
    → Caught c h inc → Caught c (steps.Zone at name bytes upon h) inc
zone_caught c h inc at name bytes may old =
    let known = is_some (bytes_of h name) in
    let row = nth (rows_of (changes_of h)) inc in
    let up : cover h inc ≤ at.0 + 1 = moved (cover h inc) (moment h) at.0 old.bound (moment_holds c h (steps.Zone at name bytes) may) in
    record {
      bound = up;
      reaches =
          reaches_on _ _ (above_floor h inc) (cover h inc) (cover h inc) _ _ refl
          (same_below c (items_zoned known at.0 name bytes row (items h inc)) (items h inc) (cover h inc) at.0 up
          (zoned_stays c known at.0 name bytes row (items h inc)))
          (le_refl (cover h inc)) old.reaches;
      unborn = λ none. ap₂ (λ r all. items_zoned known at.0 name bytes r all) none (old.unborn none);
      unfloored = old.unfloored;
    }

cut_none : (b : Bool) (at : ℕ) → cond b (map (cut_item at) []) [] ≡ []
cut_none true at = refl
cut_none false at = refl

pub complete_caught : (c : Calendar) (h : History) (inc : ℕ) (at : Moment) (removed : ℕ) → MayFollow c h (steps.Complete at removed)
    → Caught c h inc → Caught c (steps.Complete at removed upon h) inc
complete_caught c h inc at removed may old =
    let up : cover h inc ≤ at.0 + 1 = moved (cover h inc) (moment h) at.0 old.bound (moment_holds c h (steps.Complete at removed) may) in
    record {
      bound = up;
      reaches =
          reaches_on _ _ (above_floor h inc) (cover h inc) (cover h inc) _ _ refl
          (same_below c (cond (inc == removed) (map (cut_item at.0) (items h inc)) (items h inc)) (items h inc) (cover h inc) at.0 up
          (cut_if_stays c (inc == removed) at.0 (items h inc)))
          (le_refl (cover h inc)) old.reaches;
      unborn = λ none.
          ap (λ all. cond (inc == removed) (map (cut_item at.0) all) all)
          (old.unborn (none_unchanged (removed_at at.0) (rows_of (changes_of h)) removed inc none))
          ∙ cut_none (inc == removed) at.0;
      unfloored = λ none. old.unfloored (none_unchanged (removed_at at.0) (rows_of (changes_of h)) removed inc none);
    }

pub lease_caught : (c : Calendar) (h : History) (inc : ℕ) (at : Moment) (shard worker epoch until : ℕ) → MayFollow c h (steps.Lease at shard worker epoch until)
    → Caught c h inc → Caught c (steps.Lease at shard worker epoch until upon h) inc
lease_caught c h inc at shard worker epoch until may old =
    record {
      bound = moved (cover h inc) (moment h) at.0 old.bound (moment_holds c h (steps.Lease at shard worker epoch until) may);
      reaches =
          reaches_on _ _ (above_floor h inc) (cover h inc) (cover h inc) _ _
          (ap instants_of (entries_lost (is_taking (holder h shard) epoch) (Some shard) at.0 (ledger_of h) inc)) refl
          (le_refl (cover h inc)) old.reaches;
      unborn = old.unborn;
      unfloored = old.unfloored;
    }

-- an Enter, by whether it is of this incarnation
enter_reaches : (p : ℕ → Bool) (least : ℕ) (b : Bool) (before pairs : List Pair) (m n : ℕ) → Reaches p least m (instants_of before)
    → (b ≡ true → instants_of pairs ≡ take (length pairs) (passing (from_on m p) n))
    → Reaches p least (cond b (cover_entered (last pairs) m) m) (instants_of (cond b (before ++ pairs) before))
enter_reaches p least true before pairs m n old front = (grown_by p least before pairs m n old (front refl)).reaches
enter_reaches p least false before pairs m n old front = old

enter_bound : (p : ℕ → Bool) (least : ℕ) (b : Bool) (before pairs : List Pair) (m at : ℕ) → m ≤ at + 1 → Reaches p least m (instants_of before)
    → (b ≡ true → instants_of pairs ≡ take (length pairs) (passing (from_on m p) (at + 1)))
    → cond b (cover_entered (last pairs) m) m ≤ at + 1
enter_bound p least true before pairs m at le old front =
    let grown : cover_entered (last pairs) m ≤ max m (at + 1) = (grown_by p least before pairs m (at + 1) old (front refl)).bound in
    omega arith
enter_bound p least false before pairs m at le old front = le

pub enter_caught : (c : Calendar) (h : History) (inc : ℕ) (at : Moment) (of : ℕ) (pairs : List Pair) → MayFollow c h (steps.Enter at of pairs)
    → Caught c h inc → Caught c (steps.Enter at of pairs upon h) inc
enter_caught c h inc at of pairs may old =
    let p = occurs_in c (items h inc) in
    let up : cover h inc ≤ at.0 + 1 = moved (cover h inc) (moment h) at.0 old.bound (moment_holds c h (steps.Enter at of pairs) may) in
    let found : first_astray pairs (unentered c h of at.0) ≡ None =
    map_none _ (first_astray pairs (unentered c h of at.0)) (kind_holds c h (steps.Enter at of pairs) may).0 in
    let front : (inc == of) ≡ true → instants_of pairs ≡ take (length pairs) (passing (from_on (cover h inc) p) (at.0 + 1)) =
    λ same.
    none_astray pairs (unentered c h of at.0) found
    ∙ ap (λ k. take (length pairs) (unentered c h k at.0)) (sym (eqb-true inc of same))
    ∙ ap (take (length pairs)) (unentered_is c h inc at.0 old) in
    record {
      bound = enter_bound p (above_floor h inc) (inc == of) (entries (ledger_of h) inc) pairs (cover h inc) at.0 up old.reaches front;
      reaches = enter_reaches p (above_floor h inc) (inc == of) (entries (ledger_of h) inc) pairs (cover h inc) (at.0 + 1) old.reaches front;
      unborn = old.unborn;
      unfloored = old.unfloored;
    }

-- a Swept, by whether it is of this incarnation's shard
swept_exact : (p : ℕ → Bool) (b : Bool) (m n : ℕ) → (b ≡ true → passing (from_on m p) n ≡ []) → passing p m ≡ passing p (cond b (max m n) m)
swept_exact p true m n closed = reach p m n (closed refl)
swept_exact p false m n closed = refl

swept_closed : (c : Calendar) (h : History) (inc : ℕ) (at : Moment) (shard : ℕ) → MayFollow c h (steps.Swept at shard) → Caught c h inc
    → (row : Option Row) → nth (rows_of (changes_of h)) inc ≡ row → (shard == shard_of inc) ≡ true
    → passing (from_on (cover h inc) (occurs_in c (items h inc))) (at.0 + 1) ≡ []
swept_closed c h inc at shard may old None none mine = none_from_on c (items h inc) (cover h inc) (at.0 + 1) (old.unborn none)
swept_closed c h inc at shard may old (Some row) there mine =
    sym (unentered_is c h inc at.0 old) ∙ swept_open c h at shard may inc mine (nth_within (rows_of (changes_of h)) inc row there)

pub swept_caught : (c : Calendar) (h : History) (inc : ℕ) (at : Moment) (shard : ℕ) → MayFollow c h (steps.Swept at shard)
    → Caught c h inc → Caught c (steps.Swept at shard upon h) inc
swept_caught c h inc at shard may old =
    record {
      bound = deed_bound (shard == shard_of inc) (cover h inc) at.0 (moved (cover h inc) (moment h) at.0 old.bound (moment_holds c h (steps.Swept at shard) may));
      reaches =
          reaches_on _ _ (above_floor h inc) (cover h inc) (cover (steps.Swept at shard upon h) inc) _ _ refl
          (swept_exact (occurs_in c (items h inc)) (shard == shard_of inc) (cover h inc) (at.0 + 1)
          (swept_closed c h inc at shard may old (nth (rows_of (changes_of h)) inc) refl))
          (chosen_grows (shard == shard_of inc) (cover h inc) (at.0 + 1)) old.reaches;
      unborn = old.unborn;
      unfloored = old.unfloored;
    }

-- a Change, seen from the next incarnation
born_caught : (c : Calendar) (h : History) (inc : ℕ) (at : Moment) (write : Write) → MayFollow c h (steps.Change at write)
    → Caught c h inc → inc ≡ length (rows_of (changes_of h)) + 1 → Caught c (steps.Change at write upon h) inc
born_caught c h inc at write may old new =
    let rows = rows_of (changes_of h) in
    let here : (inc == length rows + 1) ≡ true = eq-eqb inc (length rows + 1) new in
    let all : items (steps.Change at write upon h) inc ≡ items_born h at.0 write =
    ap (λ b. cond b (items_born h at.0 write) (items_written h at.0 write (nth rows inc) (items h inc))) here in
    let top : cover (steps.Change at write upon h) inc ≡ cover_born at.0 write (cover h inc) =
    ap (λ b. cond b (cover_born at.0 write (cover h inc)) (cover_written at.0 write (nth rows inc) (cover h inc))) here in
    let up : cover h inc ≤ at.0 + 1 = moved (cover h inc) (moment h) at.0 old.bound (moment_holds c h (steps.Change at write) may) in
    let past : nth rows inc ≡ None = nth_past rows inc (omega arith) in
    let none : instants_of (entries (ledger_of h) inc) ≡ [] =
    old.reaches.exact ∙ ap (filter old.reaches.kept) (no_items c (items h inc) (cover h inc) (old.unborn past)) in
    let free : above_floor h inc ≡ 0 = old.unfloored past in
    let reaches : Reaches (occurs_in c (items (steps.Change at write upon h) inc)) (above_floor h inc) (cover (steps.Change at write upon h) inc)
    (instants_of (entries (ledger_of (steps.Change at write upon h)) inc)) =
    record {
      kept = old.reaches.kept;
      all = old.reaches.all;
      exact =
          ap instants_of (entries_cancelled (ended_by rows write) (ledger_of h) inc)
          ∙ none
          ∙ ap (filter old.reaches.kept) (born_exact c h at.0 write (cover h inc) ∙ ap₂ (λ xs m. passing (occurs_in c xs) m) (sym all) (sym top));
      under = omega arith;
    } in
    record {
      bound = subst (λ m. m ≤ at.0 + 1) (sym top) (born_bound at.0 write (cover h inc) up);
      reaches = reaches;
      unborn = λ unborn.
          all ∙ born_row h at.0 write (map (λ row. done_to at.0 (deed_of write row) row) rows) inc
          (new ∙ ap (λ n. n + 1) (sym (length-map rows (λ row. done_to at.0 (deed_of write row) row)))) unborn;
      unfloored = λ unborn. free;
    }

-- before a Change nothing that it touches is unentered
touched_closed : (c : Calendar) (h : History) (inc : ℕ) (at : Moment) (write : Write) → MayFollow c h (steps.Change at write) → Caught c h inc
    → (row : Row) → nth (rows_of (changes_of h)) inc ≡ Some row → touches (deed_of write row) ≡ true
    → passing (from_on (cover h inc) (occurs_in c (items h inc))) (at.0 + 1) ≡ []
touched_closed c h inc at write may old row there touched =
    let found : first_open (seen c h).times at.0 ((seen c h).rows.touched write) ≡ None =
    map_none _ (first_open (seen c h).times at.0 ((seen c h).rows.touched write)) (kind_holds c h (steps.Change at write) may).1.1.1.0 in
    sym (unentered_is c h inc at.0 old)
    ∙ none_open (seen c h).times at.0 inc
    (none_among (open_at (seen c h).times at.0) (λ r. touches (deed_of write r)) (rows_of (changes_of h)) inc row found there touched)

-- a Change, seen from any other
written_caught : (c : Calendar) (h : History) (inc : ℕ) (at : Moment) (write : Write) → MayFollow c h (steps.Change at write)
    → Caught c h inc → (inc ≡ length (rows_of (changes_of h)) + 1 → ⊥) → Caught c (steps.Change at write upon h) inc
written_caught c h inc at write may old other =
    let rows = rows_of (changes_of h) in
    let here : (inc == length rows + 1) ≡ false = ne_eqb inc (length rows + 1) other in
    let all : items (steps.Change at write upon h) inc ≡ items_written h at.0 write (nth rows inc) (items h inc) =
    ap (λ b. cond b (items_born h at.0 write) (items_written h at.0 write (nth rows inc) (items h inc))) here in
    let top : cover (steps.Change at write upon h) inc ≡ cover_written at.0 write (nth rows inc) (cover h inc) =
    ap (λ b. cond b (cover_born at.0 write (cover h inc)) (cover_written at.0 write (nth rows inc) (cover h inc))) here in
    let up : cover h inc ≤ at.0 + 1 = moved (cover h inc) (moment h) at.0 old.bound (moment_holds c h (steps.Change at write) may) in
    record {
      bound = subst (λ m. m ≤ at.0 + 1) (sym top) (written_bound at.0 write (nth rows inc) (cover h inc) up);
      reaches =
          reaches_on _ _ (above_floor h inc) (cover h inc) (cover (steps.Change at write upon h) inc) _ _
          (ap instants_of (entries_cancelled (ended_by rows write) (ledger_of h) inc))
          (written_exact c h at.0 write (nth rows inc) (items h inc) (cover h inc) up (touched_closed c h inc at write may old)
          ∙ ap₂ (λ xs m. passing (occurs_in c xs) m) (sym all) (sym top))
          (subst (λ m. cover h inc ≤ m) (sym top) (written_grows at.0 write (nth rows inc) (cover h inc))) old.reaches;
      unborn = λ unborn.
          let before : nth rows inc ≡ None = none_before (λ row. done_to at.0 (deed_of write row) row) rows _ inc unborn in
          all ∙ ap₂ (λ row xs. items_written h at.0 write row xs) before (old.unborn before);
      unfloored = λ unborn. old.unfloored (none_before (λ row. done_to at.0 (deed_of write row) row) rows _ inc unborn);
    }

pub change_caught : (c : Calendar) (h : History) (inc : ℕ) (at : Moment) (write : Write) → MayFollow c h (steps.Change at write)
    → Caught c h inc → Caught c (steps.Change at write upon h) inc
change_caught c h inc at write may old =
    elim (cases_eq inc (length (rows_of (changes_of h)) + 1)) [
      | inl new ↦ born_caught c h inc at write may old new
      | inr other ↦ written_caught c h inc at write may old other
    ]

-- the bound after a step that changes nothing else
pub plain_bound : (c : Calendar) (h : History) (s : Step) → MayFollow c h s → (inc : ℕ) → Caught c h inc → cover h inc ≤ at_of s + 1
plain_bound c h s may inc old = moved (cover h inc) (moment h) (at_of s) old.bound (moment_holds c h s may)
