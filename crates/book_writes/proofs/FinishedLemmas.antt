-- What a Change makes of the next instant of an incarnation, and of the date since when it is finished.
use Rattle.std.proofs.Common.{◌≡◌, ℕ, ◌+◌, Bool, true, false, ◌&&◌, ◌||◌, Option, Some, None, List, [], ◌∷◌, ◌++◌, map, length, refl, ap, ap₂, sym, ◌∙◌, append-nil}
use Rattle.std.specs.Prelude.{if◌then◌else◌, nat_lt}
use Rattle.std.specs.List.{filter}
use Rattle.std.specs.Option.{option_map, option_and_then}
use Rattle.plain_words.specs.declared.moment.Moment.{Moment}
use Rattle.plain_words.specs.Lists.{nth, some_pass, last}
use Rattle.plain_words.proofs.Booleans.{by_bool, and_first}
use Rattle.plain_words.proofs.ListLemmas.{nth_map}
use Rattle.expressions.specs.Calendar.{Calendar}
use Rattle.sched_plain.specs.declared.outcome.Outcome.TheVariants as outcomes
use Rattle.sched_plain.specs.declared.row.Revision.{Revision}
use Rattle.sched_plain.specs.declared.row.Row.{Row}
use Rattle.sched_plain.specs.declared.schedule.Schedule.{Schedule}
use Rattle.sched_plain.specs.declared.step.Step.TheVariants as steps
use Rattle.sched_plain.specs.declared.write.Write.{Write}
use Rattle.sched_plain.specs.declared.write.Write.TheVariants as writes
use Rattle.sched_plain.specs.Changes.{changes_of, Written}
use Rattle.sched_plain.specs.Entries.{changed_if, decided_as, entries, filed, instants_of, is_open, undecided}
use Rattle.sched_plain.specs.History.{History, ◌upon◌}
use Rattle.sched_plain.specs.Ledger.{LedgerCall, Cancelled, is_end, ended_by, ledger_of}
use Rattle.sched_plain.specs.Legal.{IsLegal, MayFollow}
use Rattle.sched_plain.specs.Rows.{Deed, Nothing, Renews, Ends, born, cut_at, current, current_of, deed_of, done_to, is_at, renews_if, revision_from, rows_after, rows_of, same_text, touches}
use Rattle.sched_plain.proofs.LedgerLemmas.{entries_cancelled}
use Rattle.next_dates.specs.NextInstants.{next_instant, is_next, creates}
use Rattle.next_dates.specs.StepLaws.{NextStays, NextEnded}
use Rattle.next_dates.proofs.Contents.{edit}
use Rattle.next_dates.proofs.LastItems.{last_push}
use Rattle.work_order.specs.Finished.{finished_with, finished_from}
use Rattle.book_writes.specs.Touching.{is_touched, SetIf}
use Rattle.book_writes.proofs.CancelLemmas.{OnlyEnds, filed_cancelled, among_where}
use Rattle.book_writes.specs.Cancelling.{is_among}

-- ---- rows behind a write

-- a write that creates nothing
abbrev pub CreatesNone : Write → Type 0
CreatesNone write = (creates write ≡ false) × ((at : ℕ) → born at write ≡ [])

pub rows_edited : (rows : List Row) (at : ℕ) (write : Write) (inc : ℕ) → CreatesNone write
    → nth (rows_after (Written at write) rows) inc ≡ option_map (edit at write) (nth rows inc)
rows_edited rows at write inc none =
    ap (λ (more : List Row). nth (map (edit at write) rows ++ more) inc) (none.1 at)
    ∙ ap (λ (all : List Row). nth all inc) (append-nil (map (edit at write) rows)) ∙ nth_map (edit at write) rows inc

nothing_done : (at : ℕ) (deed : Deed) (row : Row) → touches deed ≡ false → done_to at deed row ≡ row
nothing_done at Nothing row e = refl
nothing_done at (Renews content) row e = cc e
nothing_done at Ends row e = cc e

pub row_stays : (at : ℕ) (write : Write) (row : Option Row) → some_pass (λ (r : Row). touches (deed_of write r)) row ≡ false
    → option_map (edit at write) row ≡ row
row_stays at write None e = refl
row_stays at write (Some row) e = ap (λ (r : Row). Some r) (nothing_done at (deed_of write row) row e)

-- the current content of an incarnation that is not touched
pub current_stays : (rows : List Row) (at : ℕ) (write : Write) (inc : ℕ) → CreatesNone write → is_touched rows write inc ≡ false
    → current (rows_after (Written at write) rows) inc ≡ current rows inc
current_stays rows at write inc none apart =
    ap (option_and_then current_of) (rows_edited rows at write inc none ∙ row_stays at write (nth rows inc) apart)

-- an incarnation that is touched has a row
pub touched_row : (test : Row → Bool) (row : Option Row) → some_pass test row ≡ true → (r : Row) × (row ≡ Some r) × (test r ≡ true)
touched_row test None e = cc e
touched_row test (Some row) e = (row, refl, e)

pub deed_ends : (deed : Deed) → is_end deed ≡ true → deed ≡ Ends
deed_ends Nothing e = cc e
deed_ends (Renews content) e = cc e
deed_ends Ends e = refl

-- an ended schedule has no content
pub current_ends : (rows : List Row) (at : ℕ) (write : Write) (inc : ℕ) (row : Row) → CreatesNone write → nth rows inc ≡ Some row → deed_of write row ≡ Ends
    → current (rows_after (Written at write) rows) inc ≡ None
current_ends rows at write inc row none there ends =
    ap (option_and_then current_of)
    (rows_edited rows at write inc none ∙ ap (option_map (edit at write)) there ∙ ap (λ (d : Deed). Some (done_to at d row)) ends)

renews_where : (b : Bool) (some content : Schedule) → renews_if b some ≡ Renews content → b ≡ true
renews_where true some content e = refl
renews_where false some content e = cc e

-- one that is given a content lives, and has that content
renews_living : (write : Write) (row : Row) (content : Schedule) → deed_of write row ≡ Renews content → row.lives ≡ true
renews_living (writes.CreateSchedule group name token new) row content e = cc e
renews_living (writes.UpdateSchedule group name token new) row content e =
    let at = renews_where (is_at group name row) new content e in
    and_first row.lives (same_text group row.group) (and_first (row.lives && same_text group row.group) (same_text name row.name) at)
renews_living (writes.DeleteSchedule group name token) row content e = ends_not (is_at group name row) content e
  where
    ends_not : (b : Bool) (c : Schedule) → Rattle.sched_plain.specs.Rows.ends_if b ≡ Renews c → row.lives ≡ true
    ends_not true c e = cc e
    ends_not false c e = cc e
renews_living (writes.CreateGroup name token) row content e = cc e
renews_living (writes.DeleteGroup name token) row content e = ends_not (Rattle.sched_plain.specs.Rows.is_in name row) content e
  where
    ends_not : (b : Bool) (c : Schedule) → Rattle.sched_plain.specs.Rows.ends_if b ≡ Renews c → row.lives ≡ true
    ends_not true c e = cc e
    ends_not false c e = cc e

pub current_renewed : (rows : List Row) (at : ℕ) (write : Write) (inc : ℕ) (row : Row) (content : Schedule) → CreatesNone write → nth rows inc ≡ Some row
    → deed_of write row ≡ Renews content → current (rows_after (Written at write) rows) inc ≡ Some content
current_renewed rows at write inc row content none there renews =
    ap (option_and_then current_of)
    (rows_edited rows at write inc none ∙ ap (option_map (edit at write)) there ∙ ap (λ (d : Deed). Some (done_to at d row)) renews)
    ∙ ap (λ b. if b then option_map {T = Revision} (λ r. r.content) (last (cut_at at row.revisions ++ revision_from (at + 1) content ∷ [])) else None)
    (renews_living write row content renews)
    ∙ ap (option_map {T = Revision} (λ r. r.content)) (last_push (cut_at at row.revisions) (revision_from (at + 1) content))

-- ---- entries behind a write

end_touches : (deed : Deed) → touches deed ≡ false → is_end deed ≡ false
end_touches Nothing e = refl
end_touches (Renews content) e = cc e
end_touches Ends e = cc e

none_ends : (write : Write) (row : Option Row) → some_pass (λ (r : Row). touches (deed_of write r)) row ≡ false
    → some_pass (λ (r : Row). is_end (deed_of write r)) row ≡ false
none_ends write None e = refl
none_ends write (Some row) e = end_touches (deed_of write row) e

-- who is not ended has as many entries that are not decided
pub undecided_stays : (incs : List ℕ) (calls : List LedgerCall) (inc : ℕ) → is_among inc incs ≡ false
    → undecided (map Cancelled incs ++ calls) inc ≡ undecided calls inc
undecided_stays incs calls inc apart =
    let same : (k : ℕ) → filed (map Cancelled incs ++ calls) inc k ≡ filed calls inc k =
    λ k. filed_cancelled incs calls inc k ∙ ap (λ b. changed_if b (decided_as outcomes.Cancelled) (filed calls inc k)) apart in
    let pairs = entries_cancelled incs calls inc in
    λ i. length (filter (λ k. is_open (same k i)) (instants_of (pairs i)))

not_ended : (rows : List Row) (write : Write) (inc : ℕ) → is_touched rows write inc ≡ false → is_among inc (ended_by rows write) ≡ false
not_ended rows write inc apart =
    among_where (λ row. is_end (deed_of write row)) rows inc ∙ none_ends write (nth rows inc) apart

-- ---- what stays, and what is ended

pub next_kept : NextStays → (c : Calendar) (h : History) (at : Moment) (write : Write) → IsLegal c h → MayFollow c h (steps.Change at write) → (inc : ℕ)
    → (is_next h inc && creates write) ≡ false → is_touched (rows_of (changes_of h)) write inc ≡ false
    → next_instant c (steps.Change at write upon h) inc ≡ next_instant c h inc
next_kept stays c h at write legal may inc old apart = stays c h (steps.Change at write) legal may inc (ap₂ (λ a b. a || b) old apart)

pub finished_kept : NextStays → (c : Calendar) (h : History) (at : Moment) (write : Write) → IsLegal c h → MayFollow c h (steps.Change at write) → (inc : ℕ)
    → (is_next h inc && creates write) ≡ false → is_touched (rows_of (changes_of h)) write inc ≡ false
    → current (rows_after (Written at.0 write) (rows_of (changes_of h))) inc ≡ current (rows_of (changes_of h)) inc
    → finished_from c (steps.Change at write upon h) inc ≡ finished_from c h inc
finished_kept stays c h at write legal may inc old apart same =
    let rows = rows_of (changes_of h) in
    let next = next_kept stays c h at write legal may inc old apart in
    let waits = undecided_stays (ended_by rows write) (ledger_of h) inc (not_ended rows write inc apart) in
    let pairs = entries_cancelled (ended_by rows write) (ledger_of h) inc in
    λ i. finished_with (same i) (next i) (nat_lt 0 (waits i)) (last (instants_of (pairs i)))

none_created : (b : Bool) (write : Write) → CreatesNone write → (b && creates write) ≡ false
none_created true write none = none.0
none_created false write none = refl

-- the next instant behind a write that only ends
pub next_where_ended : NextStays → NextEnded → (c : Calendar) (h : History) (at : Moment) (write : Write) → IsLegal c h → MayFollow c h (steps.Change at write)
    → OnlyEnds write → CreatesNone write → (inc : ℕ) (old new : Option ℕ)
    → SetIf (is_touched (rows_of (changes_of h)) write inc) (λ date. date ≡ None) old new → old ≡ next_instant c h inc
    → new ≡ next_instant c (steps.Change at write upon h) inc
next_where_ended stays ends c h at write legal may only none inc old new set is =
    let rows = rows_of (changes_of h) in
    by_bool (λ b. SetIf b (λ date. date ≡ None) old new → new ≡ next_instant c (steps.Change at write upon h) inc) (is_touched rows write inc)
    (λ touched gone.
    let row = touched_row (λ r. touches (deed_of write r)) (nth rows inc) touched in
    gone ∙ sym (ends c h at write legal may inc row.0 row.1 (deed_ends (deed_of write row.0) (only row.0 ∙ row.2))))
    (λ apart same. same ∙ is ∙ sym (next_kept stays c h at write legal may inc (none_created (is_next h inc) write none) apart)) set

-- and the date since when it is finished
pub finished_where_ended : NextStays → (c : Calendar) (h : History) (at : Moment) (write : Write) → IsLegal c h → MayFollow c h (steps.Change at write)
    → OnlyEnds write → CreatesNone write → (inc : ℕ) (old new : Option ℕ)
    → SetIf (is_touched (rows_of (changes_of h)) write inc) (λ date. date ≡ None) old new → old ≡ finished_from c h inc
    → new ≡ finished_from c (steps.Change at write upon h) inc
finished_where_ended stays c h at write legal may only none inc old new set is =
    let rows = rows_of (changes_of h) in
    let s = steps.Change at write in
    by_bool (λ b. SetIf b (λ date. date ≡ None) old new → new ≡ finished_from c (s upon h) inc) (is_touched rows write inc)
    (λ touched gone.
    let row = touched_row (λ r. touches (deed_of write r)) (nth rows inc) touched in
    let no = current_ends rows at.0 write inc row.0 none row.1 (deed_ends (deed_of write row.0) (only row.0 ∙ row.2)) in
    gone ∙ sym (ap (λ o. finished_with o (next_instant c (s upon h) inc) (nat_lt 0 (undecided (ledger_of (s upon h)) inc)) (last (instants_of (entries (ledger_of (s upon h)) inc)))) no))
    (λ apart same. same ∙ is ∙ sym (finished_kept stays c h at write legal may inc (none_created (is_next h inc) write none) apart
    (current_stays rows at.0 write inc none apart))) set
