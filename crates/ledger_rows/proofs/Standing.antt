-- For which calls a ledger stands after a change of the entries of whole incarnations.
use Rattle.std.proofs.Common.{◌≡◌, ℕ, ◌==◌, Bool, true, false, cond, Option, Some, None, List, [], ◌∷◌, ◌++◌, map, find, option_map, refl, sym, ap, ◌∙◌}
use Rattle.std.specs.Prelude.{if◌then◌else◌}
use Rattle.std.proofs.lemmas.List.{map-append}
use Rattle.plain_words.specs.Lists.{or_else}
use Rattle.sched_plain.specs.declared.entry.Attempt.{Attempt}
use Rattle.sched_plain.specs.declared.entry.Filed.{Filed}
use Rattle.sched_plain.specs.declared.outcome.Outcome.TheVariants as outcomes
use Rattle.sched_plain.specs.declared.schedule.Policy.{Policy}
use Rattle.sched_plain.specs.declared.step.Pair.{Pair}
use Rattle.sched_plain.specs.Ledger.{LedgerCall, Entered, Cancelled, Lost}
use Rattle.sched_plain.specs.Entries.{entries, filed, filed_by, changed_if, on_entry, decided_as, with_loss, is_lost_in}
use Rattle.sched_plain.specs.Attempts.{attempts, lose_attempt}
use Rattle.entry_lines.specs.Rows.{Row, LaneRows, new_row}
use Rattle.ledger_rows.specs.Rows.{row_at, filed_in_row, filed_at, attempts_in_row, attempts_at, pair_of, pairs_of, cancelled_row}
use Rattle.ledger_rows.specs.State.{Tells, RowsAre, lane_of, rows_entered, rows_cancelled, Loses}
use Rattle.ledger_rows.proofs.Lookups.{IsEven, found_mapped, mapped_pairs, cancelled_even}

cancelled_filed : (o : Option Row) → filed_in_row (option_map cancelled_row o) ≡ option_map (on_entry (decided_as outcomes.Cancelled)) (filed_in_row o)
cancelled_filed None = refl
cancelled_filed (Some row) = refl

cancelled_attempts : (o : Option Row) → attempts_in_row (option_map cancelled_row o) ≡ attempts_in_row o
cancelled_attempts None = refl
cancelled_attempts (Some row) = refl

pub filed_if_cancelled : (b : Bool) (rows : List Row) (k : ℕ)
    → filed_at (if b then map cancelled_row rows else rows) k ≡ changed_if b (decided_as outcomes.Cancelled) (filed_at rows k)
filed_if_cancelled true rows k = ap filed_in_row (found_mapped cancelled_row cancelled_even rows k) ∙ cancelled_filed (row_at rows k)
filed_if_cancelled false rows k = refl

pub attempts_if_cancelled : (b : Bool) (rows : List Row) (k : ℕ) → attempts_at (if b then map cancelled_row rows else rows) k ≡ attempts_at rows k
attempts_if_cancelled true rows k = ap attempts_in_row (found_mapped cancelled_row cancelled_even rows k) ∙ cancelled_attempts (row_at rows k)
attempts_if_cancelled false rows k = refl

pairs_if : (b : Bool) (f : Row → Row) → IsEven f → (rows : List Row) → pairs_of (if b then map f rows else rows) ≡ pairs_of rows
pairs_if true f even rows = mapped_pairs f even rows
pairs_if false f even rows = refl

pub cancel_told : (old new : List LaneRows) (inc : ℕ) (calls : List LedgerCall) → RowsAre old new (rows_cancelled inc)
    → Tells old (filed calls) (entries calls) (attempts calls)
    → Tells new (filed (Cancelled inc ∷ calls)) (entries (Cancelled inc ∷ calls)) (attempts (Cancelled inc ∷ calls))
cancel_told old new inc calls are told = record {
  filed = λ i k.
      ap (λ rows. filed_at rows k) (are i) ∙ filed_if_cancelled (i == inc) (lane_of old i).rows k
      ∙ ap (changed_if (i == inc) (decided_as outcomes.Cancelled)) (told.filed i k);
  pairs = λ i. ap pairs_of (are i) ∙ pairs_if (i == inc) cancelled_row cancelled_even (lane_of old i).rows ∙ told.pairs i;
  attempts = λ i k. ap (λ rows. attempts_at rows k) (are i) ∙ attempts_if_cancelled (i == inc) (lane_of old i).rows k ∙ told.attempts i k;
}

pub lose_told : (old new : List LaneRows) (shard : Option ℕ) (at : ℕ) (calls : List LedgerCall) → Loses old new (λ i k. is_lost_in shard i) at
    → Tells old (filed calls) (entries calls) (attempts calls)
    → Tells new (filed (Lost shard at ∷ calls)) (entries (Lost shard at ∷ calls)) (attempts (Lost shard at ∷ calls))
lose_told old new shard at calls loses told = record {
  filed = λ i k. loses.filed i k ∙ ap (changed_if (is_lost_in shard i) (with_loss at)) (told.filed i k);
  pairs = λ i. loses.pairs i ∙ told.pairs i;
  attempts = λ i k. loses.attempts i k ∙ ap (λ (l : List Attempt). cond (is_lost_in shard i) (map lose_attempt l) l) (told.attempts i k);
}

or_else_found : (b : Bool) (row : Row) (o more : Option Row) → cond b (Some row) (or_else o more) ≡ or_else (cond b (Some row) o) more
or_else_found true row o more = refl
or_else_found false row o more = refl

found_append : (rows more : List Row) (k : ℕ) → row_at (rows ++ more) k ≡ or_else (row_at rows k) (row_at more k)
found_append [] more k = refl
found_append (row ∷ rows) more k =
    ap (λ o. cond (k == row.instant) (Some row) o) (found_append rows more k) ∙ or_else_found (k == row.instant) row (row_at rows k) (row_at more k)

mapped_choice : (policy : Policy) (b : Bool) (pair : Pair) (o : Option Pair)
    → cond b (Some (new_row policy pair)) (option_map (new_row policy) o) ≡ option_map (new_row policy) (cond b (Some pair) o)
mapped_choice policy true pair o = refl
mapped_choice policy false pair o = refl

found_new : (policy : Policy) (pairs : List Pair) (k : ℕ) → row_at (map (new_row policy) pairs) k ≡ option_map (new_row policy) (find {X = Pair} (λ pair. k == pair.instant) pairs)
found_new policy [] k = refl
found_new policy (pair ∷ pairs) k =
    ap (λ o. cond (k == pair.instant) (Some (new_row policy pair)) o) (found_new policy pairs k)
    ∙ mapped_choice policy (k == pair.instant) pair (find {X = Pair} (λ p. k == p.instant) pairs)

filed_else : (policy : Policy) (o : Option Row) (new : Option Pair)
    → filed_in_row (or_else o (option_map (new_row policy) new)) ≡ or_else (filed_in_row o) (filed_in_row (option_map (new_row policy) new))
filed_else policy None new = refl
filed_else policy (Some row) new = refl

filed_new : (policy : Policy) (pairs : List Pair) (k : ℕ) (o : Option Pair) → o ≡ find {X = Pair} (λ pair. k == pair.instant) pairs
    → filed_in_row (option_map (new_row policy) o) ≡ filed_by policy pairs k
filed_new policy pairs k None e = rw (sym e) refl
filed_new policy pairs k (Some pair) e = rw (sym e) refl

attempts_else : (policy : Policy) (o : Option Row) (new : Option Pair) → attempts_in_row (or_else o (option_map (new_row policy) new)) ≡ attempts_in_row o
attempts_else policy None None = refl
attempts_else policy None (Some pair) = refl
attempts_else policy (Some row) new = refl

pub filed_if_entered : (b : Bool) (policy : Policy) (pairs : List Pair) (rows : List Row) (k : ℕ)
    → filed_at (if b then rows ++ map (new_row policy) pairs else rows) k ≡ (if b then or_else (filed_at rows k) (filed_by policy pairs k) else filed_at rows k)
filed_if_entered true policy pairs rows k =
    let new = find {X = Pair} (λ pair. k == pair.instant) pairs in
    ap filed_in_row (found_append rows (map (new_row policy) pairs) k ∙ ap (or_else (row_at rows k)) (found_new policy pairs k))
    ∙ filed_else policy (row_at rows k) new
    ∙ ap (or_else (filed_at rows k)) (filed_new policy pairs k new refl)
filed_if_entered false policy pairs rows k = refl

pub attempts_if_entered : (b : Bool) (policy : Policy) (pairs : List Pair) (rows : List Row) (k : ℕ)
    → attempts_at (if b then rows ++ map (new_row policy) pairs else rows) k ≡ attempts_at rows k
attempts_if_entered true policy pairs rows k =
    ap attempts_in_row (found_append rows (map (new_row policy) pairs) k ∙ ap (or_else (row_at rows k)) (found_new policy pairs k))
    ∙ attempts_else policy (row_at rows k) (find {X = Pair} (λ pair. k == pair.instant) pairs)
attempts_if_entered false policy pairs rows k = refl

new_pairs : (policy : Policy) (pairs : List Pair) → pairs_of (map (new_row policy) pairs) ≡ pairs
new_pairs policy [] = refl
new_pairs policy (pair ∷ pairs) = ap (λ l. pair ∷ l) (new_pairs policy pairs)

pairs_if_entered : (b : Bool) (policy : Policy) (pairs : List Pair) (rows : List Row)
    → pairs_of (if b then rows ++ map (new_row policy) pairs else rows) ≡ (if b then pairs_of rows ++ pairs else pairs_of rows)
pairs_if_entered true policy pairs rows = map-append pair_of rows (map (new_row policy) pairs) ∙ ap (λ l. pairs_of rows ++ l) (new_pairs policy pairs)
pairs_if_entered false policy pairs rows = refl

pub enter_told : (old new : List LaneRows) (inc : ℕ) (policy : Policy) (pairs : List Pair) (calls : List LedgerCall) → RowsAre old new (rows_entered inc policy pairs)
    → Tells old (filed calls) (entries calls) (attempts calls)
    → Tells new (filed (Entered inc policy pairs ∷ calls)) (entries (Entered inc policy pairs ∷ calls)) (attempts (Entered inc policy pairs ∷ calls))
enter_told old new inc policy pairs calls are told = record {
  filed = λ i k.
      ap (λ rows. filed_at rows k) (are i) ∙ filed_if_entered (i == inc) policy pairs (lane_of old i).rows k
      ∙ ap (λ (o : Option Filed). cond (i == inc) (or_else o (filed_by policy pairs k)) o) (told.filed i k);
  pairs = λ i. ap pairs_of (are i) ∙ pairs_if_entered (i == inc) policy pairs (lane_of old i).rows ∙ ap (λ (l : List Pair). cond (i == inc) (l ++ pairs) l) (told.pairs i);
  attempts = λ i k. ap (λ rows. attempts_at rows k) (are i) ∙ attempts_if_entered (i == inc) policy pairs (lane_of old i).rows k ∙ told.attempts i k;
}
