-- What each step makes of the date since when an incarnation is finished.
use Rattle.std.proofs.Common.{◌≡◌, ℕ, ◌==◌, nat_lt, Bool, true, false, cond, ◌&&◌, Option, Some, None, is_some, is_none, List, [], ◌∷◌, ◌++◌, map, length, filter, option_map, refl, sym, ap, ap₂, ◌∙◌}
use Rattle.std.specs.Option.{option_and_then}
use Rattle.std.proofs.lemmas.Bool.{eqb-false, ne_eqb, or_parts, true≢false}
use Rattle.plain_words.specs.declared.moment.Moment.{Moment}
use Rattle.sched_plain.specs.declared.entry.Entry.{Entry}
use Rattle.sched_plain.specs.declared.entry.Filed.{Filed}
use Rattle.sched_plain.specs.declared.outcome.Outcome.TheVariants as outcomes
use Rattle.sched_plain.specs.declared.row.Row.{Row}
use Rattle.sched_plain.specs.declared.schedule.Schedule.{Schedule}
use Rattle.sched_plain.specs.declared.step.Pair.{Pair}
use Rattle.sched_plain.specs.declared.step.Step.{Step}
use Rattle.sched_plain.specs.declared.step.Step.TheVariants as steps
use Rattle.sched_plain.specs.declared.write.Write.{Write}
use Rattle.plain_words.specs.Lists.{last, nth, numbers, only_if, or_else, some_pass}
use Rattle.plain_words.proofs.Booleans.{by_bool}
use Rattle.expressions.specs.Calendar.{Calendar}
use Rattle.sched_plain.specs.History.{History, ◌upon◌}
use Rattle.sched_plain.specs.Changes.{changes_of}
use Rattle.sched_plain.specs.Rows.{Deed, Nothing, Renews, Ends, touches, deed_of, removed_at, rows_of, current_of, current}
use Rattle.sched_plain.specs.Leases.{holder, is_taking}
use Rattle.sched_plain.specs.Ledger.{LedgerCall, Cancelled, Lost, is_end, ended_by, ledger_of, policy_of}
use Rattle.sched_plain.specs.Entries.{entries, instants_of, decided_as, with_begin, with_end, outcome_of, with_loss, changed_if, is_lost_in, filed_by, filed, is_open, undecided}
use Rattle.sched_plain.specs.Legal.{IsLegal, MayFollow}
use Rattle.sched_plain.proofs.LedgerLemmas.{entries_cancelled, entries_lost}
use Rattle.next_dates.specs.NextInstants.{next_instant, is_next, creates, is_touched, changes_next}
use Rattle.next_dates.proofs.Contents.{changed_here, changed_elsewhere}
use Rattle.next_dates.proofs.NextSteps.{next_stays}
use Rattle.work_order.specs.Finished.{finished_with, finished_from}
use Rattle.work_order.specs.FinishedLaws.{changes_finished, FinishedStays, CompletedIsNotFinished}
use Rattle.work_order.proofs.RowSteps.{row_after, untouched_current}

filter_alike : (p q : ℕ → Bool) (xs : List ℕ) → ((i : ℕ) → p i ≡ q i) → filter p xs ≡ filter q xs
filter_alike p q [] same = refl
filter_alike p q (x ∷ xs) same = ap₂ (λ b ys. cond b (x ∷ ys) ys) (same x) (filter_alike p q xs same)

-- as many entries are undecided where the pairs are the same, and those are open that were
pub undecided_same : (old new : List LedgerCall) (inc : ℕ) → entries new inc ≡ entries old inc
    → ((i : ℕ) → is_open (filed new inc i) ≡ is_open (filed old inc i)) → undecided new inc ≡ undecided old inc
undecided_same old new inc pairs same =
    ap length
    (ap (λ all. filter (λ i. is_open (filed new inc i)) (instants_of all)) pairs
    ∙ filter_alike (λ i. is_open (filed new inc i)) (λ i. is_open (filed old inc i)) (instants_of (entries old inc)) same)

-- all that the date is read off stays
record Stays (c : Calendar) (h new : History) (inc : ℕ) : Type 0 where
  pub content : current (rows_of (changes_of new)) inc ≡ current (rows_of (changes_of h)) inc
  pub next : next_instant c new inc ≡ next_instant c h inc
  pub pairs : entries (ledger_of new) inc ≡ entries (ledger_of h) inc
  pub waiting : (i : ℕ) → is_open (filed (ledger_of new) inc i) ≡ is_open (filed (ledger_of h) inc i)

date_same : (content other : Option Schedule) (next later : Option ℕ) (waits still : Bool) (entered known : Option ℕ)
    → content ≡ other → next ≡ later → waits ≡ still → entered ≡ known
    → finished_with content next waits entered ≡ finished_with other later still known
date_same content other next later waits still entered known one two three four =
    ap₂ (λ k n. finished_with k n waits entered) one two ∙ ap₂ (finished_with other later) three four

so_date : (c : Calendar) (h new : History) (inc : ℕ) → Stays c h new inc → finished_from c new inc ≡ finished_from c h inc
so_date c h new inc is =
    date_same (current (rows_of (changes_of new)) inc) (current (rows_of (changes_of h)) inc)
    (next_instant c new inc) (next_instant c h inc)
    (nat_lt 0 (undecided (ledger_of new) inc)) (nat_lt 0 (undecided (ledger_of h) inc))
    (last (instants_of (entries (ledger_of new) inc))) (last (instants_of (entries (ledger_of h) inc)))
    is.content is.next (ap (nat_lt 0) (undecided_same (ledger_of h) (ledger_of new) inc is.pairs is.waiting))
    (ap (λ pairs. last (instants_of pairs)) is.pairs)

-- an edit that leaves the outcome
open_kept : (b : Bool) (change : Entry → Entry) → ((e : Entry) → (change e).outcome ≡ e.outcome) → (f : Option Filed)
    → is_open (changed_if b change f) ≡ is_open f
open_kept true change keeps None = refl
open_kept true change keeps (Some f) = ap is_none (keeps f.entry)
open_kept false change keeps f = refl

-- a write cancels no entry of what it does not end
open_cancelled : (q : ℕ → Bool) (xs : List ℕ) (before : List LedgerCall) (inc i : ℕ) → q inc ≡ false
    → filed (map Cancelled (filter q xs) ++ before) inc i ≡ filed before inc i
open_cancelled q [] before inc i fails = refl
open_cancelled q (x ∷ xs) before inc i fails =
    by_bool (λ b. filed (map Cancelled (cond b (x ∷ filter q xs) (filter q xs)) ++ before) inc i ≡ filed before inc i) (q x)
    (λ passes.
    let apart : inc ≡ x → ⊥ = λ same. true≢false (sym passes ∙ ap q (sym same) ∙ fails) in
    ap (λ b. changed_if b (decided_as outcomes.Cancelled) (filed (map Cancelled (filter q xs) ++ before) inc i)) (ne_eqb inc x apart)
    ∙ open_cancelled q xs before inc i fails)
    (λ other. open_cancelled q xs before inc i fails)

open_lost : (b : Bool) (shard : Option ℕ) (at : ℕ) (before : List LedgerCall) (inc i : ℕ)
    → is_open (filed (only_if b (Lost shard at) ++ before) inc i) ≡ is_open (filed before inc i)
open_lost true shard at before inc i = open_kept (is_lost_in shard inc) (with_loss at) (λ e. refl) (filed before inc i)
open_lost false shard at before inc i = refl

no_end : (deed : Deed) → touches deed ≡ false → is_end deed ≡ false
no_end Nothing e = refl
no_end (Renews content) e = refl
no_end Ends e = cc

not_ended : (write : Write) (row : Option Row) → some_pass (λ r. touches (deed_of write r)) row ≡ false → some_pass (λ r. is_end (deed_of write r)) row ≡ false
not_ended write None e = refl
not_ended write (Some row) e = no_end (deed_of write row) e

change_leaves : (c : Calendar) (h : History) (at : Moment) (write : Write) → IsLegal c h → MayFollow c h (steps.Change at write) → (inc : ℕ)
    → changes_next h (steps.Change at write) inc ≡ false → Stays c h (steps.Change at write upon h) inc
change_leaves c h at write legal may inc e =
    let rows = rows_of (changes_of h) in
    let parts = or_parts (is_next h inc && creates write) (is_touched h write inc) e in
    record {
      content = ap (option_and_then current_of) (row_after at.0 write rows inc parts.0) ∙ untouched_current at.0 write (nth rows inc) parts.1;
      next = next_stays c h (steps.Change at write) legal may inc e;
      pairs = entries_cancelled (ended_by rows write) (ledger_of h) inc;
      waiting = λ i. ap is_open (open_cancelled (λ k. some_pass (λ row. is_end (deed_of write row)) (nth rows k)) (numbers 1 (length rows)) (ledger_of h) inc i
          (not_ended write (nth rows inc) parts.1));
    }

-- one that changes no rows
same_rows : (c : Calendar) (h : History) (s : Step) → IsLegal c h → MayFollow c h s → (inc : ℕ) → changes_next h s inc ≡ false
    → changes_of (s upon h) ≡ changes_of h → entries (ledger_of (s upon h)) inc ≡ entries (ledger_of h) inc
    → ((i : ℕ) → is_open (filed (ledger_of (s upon h)) inc i) ≡ is_open (filed (ledger_of h) inc i)) → Stays c h (s upon h) inc
same_rows c h s legal may inc e changes pairs waiting =
    record { content = ap (λ all. current (rows_of all) inc) changes; next = next_stays c h s legal may inc e; pairs = pairs; waiting = waiting }

complete_leaves : (c : Calendar) (h : History) (at : Moment) (removed : ℕ) → IsLegal c h → MayFollow c h (steps.Complete at removed) → (inc : ℕ)
    → (inc == removed) ≡ false → Stays c h (steps.Complete at removed upon h) inc
complete_leaves c h at removed legal may inc e =
    record {
      content = ap (option_and_then current_of) (changed_elsewhere (removed_at at.0) (rows_of (changes_of h)) removed inc (eqb-false inc removed e));
      next = next_stays c h (steps.Complete at removed) legal may inc refl;
      pairs = refl;
      waiting = λ i. refl;
    }

-- an edit of an entry of another incarnation
open_apart : (mine here : Bool) (change : Entry → Entry) (f : Option Filed) → mine ≡ false → is_open (changed_if (mine && here) change f) ≡ is_open f
open_apart mine here change f e = ap (λ b. is_open (changed_if (b && here) change f)) e

step_leaves : (c : Calendar) (h : History) (s : Step) → IsLegal c h → MayFollow c h s → (inc : ℕ) → changes_finished h s inc ≡ false
    → Stays c h (s upon h) inc
step_leaves c h (steps.Boot at) legal may inc e =
    same_rows c h (steps.Boot at) legal may inc refl refl refl
    (λ i. open_kept true (with_loss at.0) (λ entry. refl) (filed (ledger_of h) inc i))
step_leaves c h (steps.Zone at name bytes) legal may inc e = same_rows c h (steps.Zone at name bytes) legal may inc refl refl refl (λ i. refl)
step_leaves c h (steps.Change at write) legal may inc e = change_leaves c h at write legal may inc e
step_leaves c h (steps.Enter at of pairs) legal may inc e =
    let calls = ledger_of h in
    same_rows c h (steps.Enter at of pairs) legal may inc (ap (λ b. b && is_some {T = Pair} (last pairs)) e) refl
    (ap (λ b. cond b (entries calls inc ++ pairs) (entries calls inc)) e)
    (λ i. ap (λ b. is_open (cond b (or_else (filed calls inc i) (filed_by (policy_of (rows_of (changes_of h)) of pairs) pairs i)) (filed calls inc i))) e)
step_leaves c h (steps.Lease at shard worker epoch until) legal may inc e =
    same_rows c h (steps.Lease at shard worker epoch until) legal may inc refl refl
    (entries_lost (is_taking (holder h shard) epoch) (Some shard) at.0 (ledger_of h) inc)
    (λ i. open_lost (is_taking (holder h shard) epoch) (Some shard) at.0 (ledger_of h) inc i)
step_leaves c h (steps.Release at shard worker epoch) legal may inc e =
    same_rows c h (steps.Release at shard worker epoch) legal may inc refl refl refl (λ i. refl)
step_leaves c h (steps.Begin at of instant number epoch) legal may inc e =
    same_rows c h (steps.Begin at of instant number epoch) legal may inc refl refl refl
    (λ i. open_kept (inc == of && i == instant) (with_begin at.0) (λ entry. refl) (filed (ledger_of h) inc i))
step_leaves c h (steps.End at of instant number verdict status) legal may inc e =
    same_rows c h (steps.End at of instant number verdict status) legal may inc refl refl refl
    (λ i. open_apart (inc == of) (i == instant) (with_end verdict at.0) (filed (ledger_of h) inc i) e)
step_leaves c h (steps.Close at of instant reason) legal may inc e =
    same_rows c h (steps.Close at of instant reason) legal may inc refl refl refl
    (λ i. open_apart (inc == of) (i == instant) (decided_as (outcome_of reason)) (filed (ledger_of h) inc i) e)
step_leaves c h (steps.Complete at removed) legal may inc e = complete_leaves c h at removed legal may inc e
step_leaves c h (steps.Swept at shard) legal may inc e = same_rows c h (steps.Swept at shard) legal may inc refl refl refl (λ i. refl)

pub finished_stays : FinishedStays
finished_stays c h s legal may inc e = so_date c h (s upon h) inc (step_leaves c h s legal may inc e)

-- a schedule that is removed has no current content
removed_none : (at : ℕ) (row : Option Row) → option_and_then current_of (option_map (removed_at at) row) ≡ None
removed_none at None = refl
removed_none at (Some row) = refl

pub completed_is_not_finished : CompletedIsNotFinished
completed_is_not_finished c h at inc =
    let new : History = steps.Complete at inc upon h in
    let gone : current (rows_of (changes_of new)) inc ≡ None =
    ap (option_and_then current_of) (changed_here (removed_at at.0) (rows_of (changes_of h)) inc) ∙ removed_none at.0 (nth (rows_of (changes_of h)) inc) in
    ap (λ k. finished_with k (next_instant c new inc) (nat_lt 0 (undecided (ledger_of new) inc)) (last (instants_of (entries (ledger_of new) inc)))) gone
