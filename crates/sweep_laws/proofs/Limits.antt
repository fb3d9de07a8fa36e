-- What is within limits in a legal history of valid steps: the number of incarnations, contents, policies, pairs, epochs.
use Rattle.std.proofs.Common.{◌≡◌, ℕ, ◌+◌, ◌-◌, ◌^◌, ◌<◌, ◌≤◌, Bool, true, false, cond, Option, Some, None, List, [], ◌∷◌, ◌++◌, map, length, length-append, sym, subst, arith}
use Rattle.std.specs.Prelude.{◌==◌, ◌&&◌, nat_le, not, is_some, if◌then◌else◌}
use Rattle.std.specs.List.{All, find}
use Rattle.std.specs.Option.{option_map, option_and_then}
use Rattle.std.proofs.lemmas.Bool.{leb-false}
use Rattle.std.proofs.lemmas.List.{length-map}
use Rattle.std.proofs.lemmas.List.Elements.{All-nil, All-append}
use Rattle.sched_plain.specs.declared.entry.Entry.{Entry}
use Rattle.sched_plain.specs.declared.entry.Filed.{Filed}
use Rattle.sched_plain.specs.declared.holder.Holder.{Holder}
use Rattle.sched_plain.specs.declared.row.Row.{Row}
use Rattle.sched_plain.specs.declared.row.Revision.{Revision}
use Rattle.sched_plain.specs.declared.schedule.Policy.{Policy}
use Rattle.sched_plain.specs.declared.schedule.Schedule.{Schedule}
use Rattle.sched_plain.specs.declared.why.RowFault.TheVariants as faults
use Rattle.sched_plain.specs.declared.step.Pair.{Pair}
use Rattle.sched_plain.specs.declared.step.Step.TheVariants as steps
use Rattle.plain_words.specs.declared.moment.Moment.{Moment}
use Rattle.sched_plain.specs.declared.write.Write.{Write}
use Rattle.sched_plain.specs.declared.write.Write.TheVariants as writes
use Rattle.plain_words.specs.declared.limits.TheConstants.{MOST_INCARNATIONS, MOST_SCHEDULES, MOST_RETRIES, LONGEST_WINDOW}
use Rattle.expressions.specs.Calendar.{Calendar}
use Rattle.plain_words.specs.Lists.{nth, change_nth, first_some, when, or_else, only_if}
use Rattle.sched_plain.specs.History.{History, beginning, based, ◌upon◌}
use Rattle.sched_plain.specs.Changes.{changes_of, Written}
use Rattle.sched_plain.specs.Rows.{Deed, Nothing, Renews, Ends, deed_of, renews_if, ends_if, done_to, removed_at, cut_at, revision_from, born, rows_of, rows_after, living, is_at, is_in, content_at, covers}
use Rattle.sched_plain.specs.Groups.{groups_of, row_fault, has_group, living_count}
use Rattle.sched_plain.specs.Leases.{holder, is_taking, freed, leased}
use Rattle.sched_plain.specs.Ledger.{LedgerCall, Entered, Begun, Finished, Closed, Cancelled, Lost, Missed, ledger_of, policy_of, policy_or_none, ended_by}
use Rattle.sched_plain.specs.Entries.{entries, filed, filed_by, new_entry, changed_if, with_begin, with_end, with_loss, with_missed, decided_as, outcome_of, is_lost_in}
use Rattle.sched_plain.specs.declared.outcome.Outcome.TheVariants as outcomes
use Rattle.sched_plain.specs.Rules.{window_of}
use Rattle.sched_plain.specs.Legal.{IsLegal, MayFollow}
use Rattle.sched_plain.specs.Validity.{IsContent, IsWrite, IsPair, IfThere, AllValid}
use Rattle.plain_words.proofs.Options.{map_none}
use Rattle.plain_words.proofs.ListLemmas.{all_none, when_none}
use Rattle.sched_plain.proofs.LedgerLemmas.{entries_cancelled, entries_lost}
use Rattle.next_dates.proofs.Tables.{kind_holds}
use Rattle.sweep_laws.proofs.Completing.{length_changed}

-- ---- how many incarnations

fourth_none : {A : Type 0} (a b c : Option A) (past : Bool) (why : A) → first_some (a ∷ b ∷ c ∷ when past why ∷ []) ≡ None → past ≡ false
fourth_none None None None past why e = when_none past why (all_none (when past why ∷ []) e).0
fourth_none (Some x) b c past why e = absurd cc
fourth_none None (Some x) c past why e = absurd cc
fourth_none None None (Some x) past why e = absurd cc

created_fits : (c : Calendar) (h : History) (at : Moment) (group name : List ℕ) (token : Option (List ℕ)) (content : Schedule)
    → MayFollow c h (steps.Change at (writes.CreateSchedule group name token content)) → length (rows_of (changes_of h)) < MOST_INCARNATIONS
created_fits c h at group name token content may =
    let rows = rows_of (changes_of h) in
    let write = writes.CreateSchedule group name token content in
    let allowed : row_fault rows (groups_of (changes_of h)) write ≡ None =
    map_none _ (row_fault rows (groups_of (changes_of h)) write) (kind_holds c h (steps.Change at write) may).1.0 in
    leb-false MOST_INCARNATIONS (length rows)
    (fourth_none (when (not (has_group (groups_of (changes_of h)) group)) faults.NoGroup) (when (is_some (living rows group name)) faults.Exists)
    (when (nat_le MOST_SCHEDULES (living_count rows)) (faults.TooMany (living_count rows))) (nat_le MOST_INCARNATIONS (length rows)) (faults.TooMany (length rows)) allowed)

written_long : (at : ℕ) (write : Write) (rows : List Row)
    → length (rows_after (Written at write) rows) ≡ length rows + length (born at write)
written_long at write rows =
    let one = length-append (map (λ (row : Row). done_to at (deed_of write row) row) rows) (born at write) in
    let two = length-map {B = Row} rows (λ (row : Row). done_to at (deed_of write row) row) in
    omega (arith, one, two)

pub few_rows : (c : Calendar) (h : History) → IsLegal c h → length (rows_of (changes_of h)) ≤ MOST_INCARNATIONS
few_rows c beginning legal = omega arith
few_rows c (based b kept) legal = absurd legal
few_rows c (steps.Boot at upon h) legal = few_rows c h legal.0
few_rows c (steps.Zone at name bytes upon h) legal = few_rows c h legal.0
few_rows c (steps.Change at (writes.CreateSchedule group name token content) upon h) legal =
    let fits = created_fits c h at group name token content legal.1 in
    let long = written_long at.0 (writes.CreateSchedule group name token content) (rows_of (changes_of h)) in
    omega (arith, fits, long)
few_rows c (steps.Change at (writes.UpdateSchedule group name token content) upon h) legal =
    let old = few_rows c h legal.0 in let long = written_long at.0 (writes.UpdateSchedule group name token content) (rows_of (changes_of h)) in omega (arith, old, long)
few_rows c (steps.Change at (writes.DeleteSchedule group name token) upon h) legal =
    let old = few_rows c h legal.0 in let long = written_long at.0 (writes.DeleteSchedule group name token) (rows_of (changes_of h)) in omega (arith, old, long)
few_rows c (steps.Change at (writes.CreateGroup name token) upon h) legal =
    let old = few_rows c h legal.0 in let long = written_long at.0 (writes.CreateGroup name token) (rows_of (changes_of h)) in omega (arith, old, long)
few_rows c (steps.Change at (writes.DeleteGroup name token) upon h) legal =
    let old = few_rows c h legal.0 in let long = written_long at.0 (writes.DeleteGroup name token) (rows_of (changes_of h)) in omega (arith, old, long)
few_rows c (steps.Enter at inc pairs upon h) legal = few_rows c h legal.0
few_rows c (steps.Lease at shard worker epoch until upon h) legal = few_rows c h legal.0
few_rows c (steps.Release at shard worker epoch upon h) legal = few_rows c h legal.0
few_rows c (steps.Begin at inc instant number epoch upon h) legal = few_rows c h legal.0
few_rows c (steps.End at inc instant number verdict status upon h) legal = few_rows c h legal.0
few_rows c (steps.Close at inc instant reason upon h) legal = few_rows c h legal.0
few_rows c (steps.Complete at inc upon h) legal =
    let old = few_rows c h legal.0 in
    let same = length_changed (removed_at at.0) (rows_of (changes_of h)) inc in
    omega (arith, old, same)
few_rows c (steps.Swept at shard upon h) legal = few_rows c h legal.0

-- ---- contents

abbrev AreContents : List Revision → Type 0
AreContents [] = Unit {0}
AreContents (revision ∷ more) = IsContent revision.content × AreContents more

abbrev HaveContents : List Row → Type 0
HaveContents [] = Unit {0}
HaveContents (row ∷ rows) = AreContents row.revisions × HaveContents rows

cut_contents : (at : ℕ) (revisions : List Revision) → AreContents revisions → AreContents (cut_at at revisions)
cut_contents at [] all = all
cut_contents at (revision ∷ more) all = (all.0, cut_contents at more all.1)

one_more : (revisions : List Revision) (revision : Revision) → AreContents revisions → IsContent revision.content → AreContents (revisions ++ revision ∷ [])
one_more [] revision all new = (new, tt)
one_more (first ∷ more) revision all new = (all.0, one_more more revision all.1 new)

rows_more : (rows more : List Row) → HaveContents rows → HaveContents more → HaveContents (rows ++ more)
rows_more [] more all new = new
rows_more (row ∷ rows) more all new = (all.0, rows_more rows more all.1 new)

abbrev IsDeed : Deed → Type 0
IsDeed Nothing = Unit {0}
IsDeed (Renews content) = IsContent content
IsDeed Ends = Unit {0}

renewing : (b : Bool) (content : Schedule) → IsContent content → IsDeed (renews_if b content)
renewing true content is = is
renewing false content is = tt

ending : (b : Bool) → IsDeed (ends_if b)
ending true = tt
ending false = tt

deed_is : (write : Write) (row : Row) → IsWrite write → IsDeed (deed_of write row)
deed_is (writes.CreateSchedule group name token content) row valid = tt
deed_is (writes.UpdateSchedule group name token content) row valid = renewing (is_at group name row) content valid.3
deed_is (writes.DeleteSchedule group name token) row valid = ending (is_at group name row)
deed_is (writes.CreateGroup name token) row valid = tt
deed_is (writes.DeleteGroup name token) row valid = ending (is_in name row)

done_contents : (at : ℕ) (deed : Deed) (row : Row) → IsDeed deed → AreContents row.revisions → AreContents (done_to at deed row).revisions
done_contents at Nothing row is all = all
done_contents at (Renews content) row is all =
    one_more (cut_at at row.revisions) (revision_from (at + 1) content) (cut_contents at row.revisions all) is
done_contents at Ends row is all = cut_contents at row.revisions all

written_contents : (at : ℕ) (write : Write) (rows : List Row) → IsWrite write → HaveContents rows
    → HaveContents (map (λ row. done_to at (deed_of write row) row) rows)
written_contents at write [] valid all = tt
written_contents at write (row ∷ rows) valid all =
    (done_contents at (deed_of write row) row (deed_is write row valid) all.0, written_contents at write rows valid all.1)

born_contents : (at : ℕ) (write : Write) → IsWrite write → HaveContents (born at write)
born_contents at (writes.CreateSchedule group name token content) valid = ((valid.3, tt), tt)
born_contents at (writes.UpdateSchedule group name token content) valid = tt
born_contents at (writes.DeleteSchedule group name token) valid = tt
born_contents at (writes.CreateGroup name token) valid = tt
born_contents at (writes.DeleteGroup name token) valid = tt

removed_if : (b : Bool) (at : ℕ) (row : Row) (rows changed : List Row) → AreContents row.revisions → HaveContents rows → HaveContents changed
    → HaveContents (if b then removed_at at row ∷ rows else row ∷ changed)
removed_if true at row rows changed one all new = (cut_contents at row.revisions one, all)
removed_if false at row rows changed one all new = (one, new)

contents_removed : (at inc : ℕ) (rows : List Row) → HaveContents rows → HaveContents (change_nth (removed_at at) rows inc)
contents_removed at inc [] all = tt
contents_removed at inc (row ∷ rows) all =
    removed_if (inc == 1) at row rows (change_nth (removed_at at) rows (inc - 1)) all.0 all.1 (contents_removed at (inc - 1) rows all.1)

have_contents : (c : Calendar) (h : History) → IsLegal c h → AllValid h → HaveContents (rows_of (changes_of h))
have_contents c beginning legal valid = tt
have_contents c (based b kept) legal valid = absurd legal
have_contents c (steps.Boot at upon h) legal valid = have_contents c h legal.0 valid.0
have_contents c (steps.Zone at name bytes upon h) legal valid = have_contents c h legal.0 valid.0
have_contents c (steps.Change at write upon h) legal valid =
    let rows = rows_of (changes_of h) in
    rows_more (map (λ row. done_to at.0 (deed_of write row) row) rows) (born at.0 write)
    (written_contents at.0 write rows valid.1.1 (have_contents c h legal.0 valid.0)) (born_contents at.0 write valid.1.1)
have_contents c (steps.Enter at inc pairs upon h) legal valid = have_contents c h legal.0 valid.0
have_contents c (steps.Lease at shard worker epoch until upon h) legal valid = have_contents c h legal.0 valid.0
have_contents c (steps.Release at shard worker epoch upon h) legal valid = have_contents c h legal.0 valid.0
have_contents c (steps.Begin at inc instant number epoch upon h) legal valid = have_contents c h legal.0 valid.0
have_contents c (steps.End at inc instant number verdict status upon h) legal valid = have_contents c h legal.0 valid.0
have_contents c (steps.Close at inc instant reason upon h) legal valid = have_contents c h legal.0 valid.0
have_contents c (steps.Complete at inc upon h) legal valid = contents_removed at.0 inc (rows_of (changes_of h)) (have_contents c h legal.0 valid.0)
have_contents c (steps.Swept at shard upon h) legal valid = have_contents c h legal.0 valid.0

first_content : (b : Bool) (revision : Revision) (rest : Option Revision) → IsContent revision.content
    → IfThere IsContent (option_map {T = Revision} (λ r. r.content) rest)
    → IfThere IsContent (option_map {T = Revision} (λ r. r.content) (cond b (Some revision) rest))
first_content true revision rest here more = here
first_content false revision rest here more = more

in_revisions : (instant : ℕ) (revisions : List Revision) → AreContents revisions
    → IfThere IsContent (option_map {T = Revision} (λ revision. revision.content) (find (covers instant) revisions))
in_revisions instant [] all = tt
in_revisions instant (revision ∷ more) all =
    first_content (covers instant revision) revision (find (covers instant) more) all.0 (in_revisions instant more all.1)

-- what a row has at an instant
abbrev content_in : ℕ → Option Row → Option Schedule
content_in instant found = option_and_then (λ row. option_map {T = Revision} (λ revision. revision.content) (find (covers instant) row.revisions)) found

first_row : (b : Bool) (instant : ℕ) (row : Row) (rest : Option Row) → AreContents row.revisions → IfThere IsContent (content_in instant rest)
    → IfThere IsContent (content_in instant (if b then Some row else rest))
first_row true instant row rest here more = in_revisions instant row.revisions here
first_row false instant row rest here more = more

in_rows : (rows : List Row) (inc instant : ℕ) → HaveContents rows → IfThere IsContent (content_at rows inc instant)
in_rows [] inc instant all = tt
in_rows (row ∷ rows) inc instant all = first_row (inc == 1) instant row (nth rows (inc - 1)) all.0 (in_rows rows (inc - 1) instant all.1)

-- the content of an occurrence is within its limits
pub content_fits : (c : Calendar) (h : History) → IsLegal c h → AllValid h → (inc instant : ℕ) → IfThere IsContent (content_at (rows_of (changes_of h)) inc instant)
content_fits c h legal valid inc instant = in_rows (rows_of (changes_of h)) inc instant (have_contents c h legal valid)

-- so is its window
window_fits : (content : Option Schedule) → IfThere IsContent content → window_of content ≤ LONGEST_WINDOW
window_fits None is = omega arith
window_fits (Some content) is = is.window

pub windows_fit : (c : Calendar) (h : History) → IsLegal c h → AllValid h → (inc instant : ℕ)
    → window_of (content_at (rows_of (changes_of h)) inc instant) ≤ LONGEST_WINDOW
windows_fit c h legal valid inc instant = window_fits (content_at (rows_of (changes_of h)) inc instant) (content_fits c h legal valid inc instant)

-- ---- policies

policy_fits : (content : Option Schedule) → IfThere IsContent content → (policy_or_none (option_map (λ (s : Schedule). s.policy) content)).retries ≤ MOST_RETRIES
policy_fits None is = omega arith
policy_fits (Some content) is = is.retries

entered_fits : (rows : List Row) (inc : ℕ) (pairs : List Pair) → HaveContents rows → (policy_of rows inc pairs).retries ≤ MOST_RETRIES
entered_fits rows inc [] all = omega arith
entered_fits rows inc (pair ∷ pairs) all = policy_fits (content_at rows inc pair.instant) (in_rows rows inc pair.instant all)

-- each policy under which is entered is within its limits
abbrev AreSmall : List LedgerCall → Type 0
AreSmall [] = Unit {0}
AreSmall (Entered of policy pairs ∷ before) = (policy.retries ≤ MOST_RETRIES) × AreSmall before
AreSmall (call ∷ before) = AreSmall before

cancelled_small : (incs : List ℕ) (before : List LedgerCall) → AreSmall before → AreSmall (map Cancelled incs ++ before)
cancelled_small [] before small = small
cancelled_small (inc ∷ incs) before small = cancelled_small incs before small

lost_small : (b : Bool) (shard : Option ℕ) (at : ℕ) (before : List LedgerCall) → AreSmall before → AreSmall (only_if b (Lost shard at) ++ before)
lost_small true shard at before small = small
lost_small false shard at before small = small

are_small : (c : Calendar) (h : History) → IsLegal c h → AllValid h → AreSmall (ledger_of h)
are_small c beginning legal valid = tt
are_small c (based b kept) legal valid = absurd legal
are_small c (steps.Boot at upon h) legal valid = are_small c h legal.0 valid.0
are_small c (steps.Zone at name bytes upon h) legal valid = are_small c h legal.0 valid.0
are_small c (steps.Change at write upon h) legal valid =
    cancelled_small (ended_by (rows_of (changes_of h)) write) (ledger_of h) (are_small c h legal.0 valid.0)
are_small c (steps.Enter at inc pairs upon h) legal valid =
    (entered_fits (rows_of (changes_of h)) inc pairs (have_contents c h legal.0 valid.0), are_small c h legal.0 valid.0)
are_small c (steps.Lease at shard worker epoch until upon h) legal valid =
    lost_small (is_taking (holder h shard) epoch) (Some shard) at.0 (ledger_of h) (are_small c h legal.0 valid.0)
are_small c (steps.Release at shard worker epoch upon h) legal valid = are_small c h legal.0 valid.0
are_small c (steps.Begin at inc instant number epoch upon h) legal valid = are_small c h legal.0 valid.0
are_small c (steps.End at inc instant number verdict status upon h) legal valid = are_small c h legal.0 valid.0
are_small c (steps.Close at inc instant reason upon h) legal valid = are_small c h legal.0 valid.0
are_small c (steps.Complete at inc upon h) legal valid = are_small c h legal.0 valid.0
are_small c (steps.Swept at shard upon h) legal valid = are_small c h legal.0 valid.0

-- what is filed has so few retries
abbrev pub HasFew : Option Filed → Type 0
HasFew o = IfThere (λ f. f.policy.retries ≤ MOST_RETRIES) o

few_changed : (b : Bool) (change : Entry → Entry) (o : Option Filed) → HasFew o → HasFew (changed_if b change o)
few_changed true change None few = tt
few_changed true change (Some f) few = few
few_changed false change o few = few

few_new : (policy : Policy) (o : Option Pair) → policy.retries ≤ MOST_RETRIES
    → HasFew (option_map {T = Pair} (λ pair. record { entry = new_entry pair.chosen; policy = policy }) o)
few_new policy None small = tt
few_new policy (Some pair) small = small

few_entered : (b : Bool) (old new : Option Filed) → HasFew old → HasFew new → HasFew (if b then or_else old new else old)
few_entered true None new few also = also
few_entered true (Some f) new few also = few
few_entered false old new few also = few

few_filed : (calls : List LedgerCall) (inc instant : ℕ) → AreSmall calls → HasFew (filed calls inc instant)
few_filed [] inc instant small = tt
few_filed (Entered of policy pairs ∷ before) inc instant small =
    few_entered (inc == of) (filed before inc instant) (filed_by policy pairs instant) (few_filed before inc instant small.1)
    (few_new policy (find (λ (pair : Pair). instant == pair.instant) pairs) small.0)
few_filed (Begun of at number epoch moment ∷ before) inc instant small =
    few_changed (inc == of && instant == at) (with_begin moment) (filed before inc instant) (few_filed before inc instant small)
few_filed (Finished of at number verdict status moment ∷ before) inc instant small =
    few_changed (inc == of && instant == at) (with_end verdict moment) (filed before inc instant) (few_filed before inc instant small)
few_filed (Closed of at reason ∷ before) inc instant small =
    few_changed (inc == of && instant == at) (decided_as (outcome_of reason)) (filed before inc instant) (few_filed before inc instant small)
few_filed (Cancelled of ∷ before) inc instant small =
    few_changed (inc == of) (decided_as outcomes.Cancelled) (filed before inc instant) (few_filed before inc instant small)
few_filed (Lost shard moment ∷ before) inc instant small =
    few_changed (is_lost_in shard inc) (with_loss moment) (filed before inc instant) (few_filed before inc instant small)
few_filed (Missed of at number moment ∷ before) inc instant small =
    few_changed (inc == of && instant == at) (with_missed number moment) (filed before inc instant) (few_filed before inc instant small)

pub few_retries : (c : Calendar) (h : History) → IsLegal c h → AllValid h → (inc instant : ℕ) → HasFew (filed (ledger_of h) inc instant)
few_retries c h legal valid inc instant = few_filed (ledger_of h) inc instant (are_small c h legal valid)

-- ---- pairs

more_pairs : (b : Bool) (old pairs : List Pair) → All IsPair old → All IsPair pairs → All IsPair (if b then old ++ pairs else old)
more_pairs true old pairs all new = All-append IsPair old pairs all new
more_pairs false old pairs all new = all

pub pairs_fit : (c : Calendar) (h : History) → IsLegal c h → AllValid h → (inc : ℕ) → All IsPair (entries (ledger_of h) inc)
pairs_fit c beginning legal valid inc = All-nil IsPair
pairs_fit c (based b kept) legal valid inc = absurd legal
pairs_fit c (steps.Boot at upon h) legal valid inc = pairs_fit c h legal.0 valid.0 inc
pairs_fit c (steps.Zone at name bytes upon h) legal valid inc = pairs_fit c h legal.0 valid.0 inc
pairs_fit c (steps.Change at write upon h) legal valid inc =
    subst (All IsPair) (sym (entries_cancelled (ended_by (rows_of (changes_of h)) write) (ledger_of h) inc)) (pairs_fit c h legal.0 valid.0 inc)
pairs_fit c (steps.Enter at of pairs upon h) legal valid inc =
    more_pairs (inc == of) (entries (ledger_of h) inc) pairs (pairs_fit c h legal.0 valid.0 inc) valid.1.4
pairs_fit c (steps.Lease at shard worker epoch until upon h) legal valid inc =
    subst (All IsPair) (sym (entries_lost (is_taking (holder h shard) epoch) (Some shard) at.0 (ledger_of h) inc)) (pairs_fit c h legal.0 valid.0 inc)
pairs_fit c (steps.Release at shard worker epoch upon h) legal valid inc = pairs_fit c h legal.0 valid.0 inc
pairs_fit c (steps.Begin at of instant number epoch upon h) legal valid inc = pairs_fit c h legal.0 valid.0 inc
pairs_fit c (steps.End at of instant number verdict status upon h) legal valid inc = pairs_fit c h legal.0 valid.0 inc
pairs_fit c (steps.Close at of instant reason upon h) legal valid inc = pairs_fit c h legal.0 valid.0 inc
pairs_fit c (steps.Complete at of upon h) legal valid inc = pairs_fit c h legal.0 valid.0 inc
pairs_fit c (steps.Swept at shard upon h) legal valid inc = pairs_fit c h legal.0 valid.0 inc

-- ---- epochs

leased_fits : (b : Bool) (held : Holder) (worker epoch until : ℕ) → held.epoch < 2 ^ 64 → epoch < 2 ^ 64
    → (if b then leased held worker epoch until else held).epoch < 2 ^ 64
leased_fits true held worker epoch until fits new = new
leased_fits false held worker epoch until fits new = fits

freed_fits : (b : Bool) (held : Holder) → held.epoch < 2 ^ 64 → (if b then freed held else held).epoch < 2 ^ 64
freed_fits true held fits = fits
freed_fits false held fits = fits

pub epochs_fit : (c : Calendar) (h : History) → IsLegal c h → AllValid h → (shard : ℕ) → (holder h shard).epoch < 2 ^ 64
epochs_fit c beginning legal valid shard = omega arith
epochs_fit c (based b kept) legal valid shard = absurd legal
epochs_fit c (steps.Boot at upon h) legal valid shard = epochs_fit c h legal.0 valid.0 shard
epochs_fit c (steps.Zone at name bytes upon h) legal valid shard = epochs_fit c h legal.0 valid.0 shard
epochs_fit c (steps.Change at write upon h) legal valid shard = epochs_fit c h legal.0 valid.0 shard
epochs_fit c (steps.Enter at inc pairs upon h) legal valid shard = epochs_fit c h legal.0 valid.0 shard
epochs_fit c (steps.Lease at of worker epoch until upon h) legal valid shard =
    leased_fits (shard == of) (holder h shard) worker epoch until (epochs_fit c h legal.0 valid.0 shard) valid.1.3
epochs_fit c (steps.Release at of worker epoch upon h) legal valid shard = freed_fits (shard == of) (holder h shard) (epochs_fit c h legal.0 valid.0 shard)
epochs_fit c (steps.Begin at inc instant number epoch upon h) legal valid shard = epochs_fit c h legal.0 valid.0 shard
epochs_fit c (steps.End at inc instant number verdict status upon h) legal valid shard = epochs_fit c h legal.0 valid.0 shard
epochs_fit c (steps.Close at inc instant reason upon h) legal valid shard = epochs_fit c h legal.0 valid.0 shard
epochs_fit c (steps.Complete at inc upon h) legal valid shard = epochs_fit c h legal.0 valid.0 shard
epochs_fit c (steps.Swept at of upon h) legal valid shard = epochs_fit c h legal.0 valid.0 shard
