-- The ledger and the dates behind a Change stand for the history with the Change upon it.
use Rattle.std.proofs.Common.{◌≡◌, ℕ, ◌+◌, ◌≤◌, le_refl, Bool, true, false, ◌&&◌, ◌||◌, Option, Some, None, List, [], ◌∷◌, ◌++◌, map, length, refl, ap, sym, subst, ◌∙◌, arith, inl, inr}
use Rattle.std.specs.Prelude.{if◌then◌else◌, nat_lt}
use Rattle.std.specs.List.{filter}
use Rattle.std.specs.Option.{option_and_then}
use Rattle.std.proofs.lemmas.Bool.{cases_eq, eq-eqb, ne_eqb}
use Rattle.std.proofs.lemmas.Bool.Decides.{nat_tests}
use Rattle.std.proofs.lemmas.List.{length-map}
use Rattle.plain_words.specs.declared.moment.Moment.{Moment}
use Rattle.plain_words.specs.Moments.{last_moment}
use Rattle.plain_words.specs.Lists.{nth, last, when}
use Rattle.plain_words.proofs.Booleans.{by_bool, itself}
use Rattle.plain_words.proofs.ListLemmas.{nth_map, nth_snoc, some_pass_none}
use Rattle.sched_plain.specs.declared.row.Row.{Row}
use Rattle.sched_plain.specs.declared.schedule.Schedule.{Schedule}
use Rattle.sched_plain.specs.declared.step.Pair.{Pair}
use Rattle.sched_plain.specs.declared.step.Step.{Step}
use Rattle.sched_plain.specs.declared.step.Step.TheVariants as steps
use Rattle.sched_plain.specs.declared.write.Write.{Write}
use Rattle.sched_plain.specs.declared.write.Write.TheVariants as writes
use Rattle.sched_plain.specs.Changes.{changes_of, Written}
use Rattle.sched_plain.specs.Entries.{entries, filed, instants_of, is_open, is_paired, undecided}
use Rattle.sched_plain.specs.History.{History, ◌upon◌}
use Rattle.sched_plain.specs.Items.{opened}
use Rattle.sched_plain.specs.Occurrences.{occurs}
use Rattle.sched_plain.specs.Ledger.{LedgerCall, Cancelled, is_end, ended_by, ledger_of}
use Rattle.sched_plain.specs.Legal.{IsLegal, MayFollow}
use Rattle.sched_plain.specs.Rows.{Renews, current, current_of, deed_of, ends_if, is_at, is_in, renews_if, rows_after, rows_of, touches}
use Rattle.sched_plain.specs.Zones.{is_utc, bytes_of, read_under}
use Rattle.sched_plain.proofs.LedgerLemmas.{entries_cancelled}
use Rattle.ledger_rows.specs.State.{State, Stands}
use Rattle.zone_shelf.specs.Places.{Places, bytes_in}
use Rattle.date_table.specs.Dates.{date_at, never}
use Rattle.next_dates.specs.Dates.{IsLeast, from_on}
use Rattle.next_dates.specs.NextInstants.{next_instant, is_next, creates}
use Rattle.next_dates.specs.StepLaws.{NextStays, NextCreated, NextRenewed, NextEnded}
use Rattle.next_dates.proofs.Contents.{edit, row_made}
use Rattle.work_order.specs.DateLaws.{FinishedInTime}
use Rattle.work_order.specs.Finished.{finished_with, finished_from}
use Rattle.work_order.proofs.FirstEntries.{paired_within}
use Rattle.book_parts.specs.Stands.{calendar}
use Rattle.book_writes.specs.Touching.{is_touched, SetIf}
use Rattle.book_writes.specs.Dating.{read_in, IsFirst, IsRenewed, finished_now, kept_date}
use Rattle.book_writes.specs.Redating.{Dated, IsCreated, IsUpdated, IsDeleted, IsRedated}
use Rattle.book_writes.proofs.CancelLemmas.{OnlyEnds, ended_stands, none_ended}
use Rattle.book_writes.proofs.FinishedLemmas.{CreatesNone, current_stays, current_renewed, touched_row, next_kept, finished_kept, next_where_ended, finished_where_ended, row_stays}

-- they stand for a history
pub record Follows (h : History) (d : Dated) : Type 0 where
  pub ledger : Stands d.ledger (ledger_of h)
  pub next : (inc : ℕ) → date_at d.next inc ≡ next_instant calendar h inc
  pub finished : (inc : ℕ) → date_at d.finished inc ≡ finished_from calendar h inc

-- the zones of a history are those that are kept
abbrev pub Reads : Places → History → Type 0
Reads zones h = (name : List ℕ) → bytes_in zones name ≡ bytes_of h name

read_is : (zones : Places) (h : History) → Reads zones h → (zone : List ℕ) → read_in zones zone ≡ read_under h zone
read_is zones h reads zone = ap (λ (b : Option (List ℕ)). if is_utc zone then None else b) (reads zone)

first_is : (zones : Places) (h : History) → Reads zones h → (content : Schedule) (created first : ℕ) (next : Option ℕ) → IsFirst zones content created first next
    → IsLeast (from_on first (occurs calendar (opened (read_under h content.zone) created first content))) next
first_is zones h reads content created first next is =
    subst (λ (b : Option (List ℕ)). IsLeast (from_on first (occurs calendar (opened b created first content))) next) (read_is zones h reads content.zone) (is first (le_refl first))

-- ---- one more date

pushed_here : (dates : List (Option ℕ)) (date : Option ℕ) (inc n : ℕ) → length dates ≡ n → inc ≡ n + 1 → date_at (dates ++ date ∷ []) inc ≡ date
pushed_here dates date inc n long e =
    ap (option_and_then (λ (d : Option ℕ). d))
    (nth_snoc dates date inc ∙ ap (λ b. if b then Some date else nth dates inc) (eq-eqb inc (length dates + 1) (e ∙ ap (λ k. k + 1) (sym long))))

pushed_there : (dates : List (Option ℕ)) (date : Option ℕ) (inc n : ℕ) → length dates ≡ n → (inc ≡ n + 1 → ⊥) → date_at (dates ++ date ∷ []) inc ≡ date_at dates inc
pushed_there dates date inc n long apart =
    ap (option_and_then (λ (d : Option ℕ). d))
    (nth_snoc dates date inc ∙ ap (λ b. if b then Some date else nth dates inc) (ne_eqb inc (length dates + 1) (λ e. apart (e ∙ ap (λ k. k + 1) long))))

-- ---- a creation

no_entries : (h : History) → IsLegal calendar h → (inc : ℕ) → inc ≡ length (rows_of (changes_of h)) + 1 → entries (ledger_of h) inc ≡ []
no_entries h legal inc new = none (entries (ledger_of h) inc) refl
  where
    none : (pairs : List Pair) → entries (ledger_of h) inc ≡ pairs → pairs ≡ []
    none [] e = refl
    none (pair ∷ pairs) e =
        let paired : is_paired (entries (ledger_of h) inc) pair.instant ≡ true =
        ap (λ (l : List Pair). is_paired l pair.instant) e ∙ ap (λ b. b || is_paired pairs pair.instant) (itself pair.instant) in
        let within = paired_within calendar h legal inc pair.instant paired (nth (rows_of (changes_of h)) inc) refl in
        let up = within.up in
        absurd (omega arith)

bare : (incs : List ℕ) (calls : List LedgerCall) (inc : ℕ) → entries calls inc ≡ [] → entries (map Cancelled incs ++ calls) inc ≡ []
bare incs calls inc none = entries_cancelled incs calls inc ∙ none

none_waits : (calls : List LedgerCall) (inc : ℕ) → entries calls inc ≡ [] → nat_lt 0 (undecided calls inc) ≡ false
none_waits calls inc none = ap (λ (ps : List Pair). nat_lt 0 (length (filter (λ k. is_open (filed calls inc k)) (instants_of ps)))) none

module _ (stays : NextStays) (begins : NextCreated) (zones : Places) (h : History) (at : Moment) (group name : List ℕ) (token : Option (List ℕ)) (content : Schedule) where
  abbrev pub write : Write
  write = writes.CreateSchedule group name token content

  abbrev pub s : Step
  s = steps.Change at write

  abbrev pub rows : List Row
  rows = rows_of (changes_of h)

  untouched : (inc : ℕ) → is_touched rows write inc ≡ false
  untouched inc = some_pass_none (nth rows inc)

  not_new : (inc : ℕ) → (inc ≡ length rows + 1 → ⊥) → (is_next h inc && creates write) ≡ false
  not_new inc apart = ap (λ b. b && true) (ne_eqb inc (length rows + 1) apart)

  current_new : (inc : ℕ) → inc ≡ length rows + 1 → current (rows_after (Written at.0 write) rows) inc ≡ Some content
  current_new inc e =
      let long : length (map (edit at.0 write) rows) ≡ length rows = length-map rows (edit at.0 write) in
      ap (option_and_then current_of)
      (nth_snoc (map (edit at.0 write) rows) (row_made at.0 group name content) inc
      ∙ ap (λ b. if b then Some (row_made at.0 group name content) else nth (map (edit at.0 write) rows) inc)
      (eq-eqb inc (length (map (edit at.0 write) rows) + 1) (e ∙ ap (λ k. k + 1) (sym long))))

  current_old : (inc : ℕ) → (inc ≡ length rows + 1 → ⊥) → current (rows_after (Written at.0 write) rows) inc ≡ current rows inc
  current_old inc apart =
      let long : length (map (edit at.0 write) rows) ≡ length rows = length-map rows (edit at.0 write) in
      ap (option_and_then current_of)
      (nth_snoc (map (edit at.0 write) rows) (row_made at.0 group name content) inc
      ∙ ap (λ b. if b then Some (row_made at.0 group name content) else nth (map (edit at.0 write) rows) inc)
      (ne_eqb inc (length (map (edit at.0 write) rows) + 1) (λ e. apart (e ∙ ap (λ k. k + 1) long)))
      ∙ nth_map (edit at.0 write) rows inc ∙ row_stays at.0 write (nth rows inc) (untouched inc))

  pub created_follows : (old new : Dated) → IsLegal calendar h → MayFollow calendar h s → Reads zones h → length old.next ≡ length rows → length old.finished ≡ length rows
      → Follows h old → IsCreated zones at.0 content old new → Follows (s upon h) new
  created_follows old new legal may reads long many follows is = record {
    ledger =
        subst (λ (l : State). Stands l (ledger_of (s upon h))) (sym is.ledger)
        (subst (λ (incs : List ℕ). Stands old.ledger (map Cancelled incs ++ ledger_of h)) (sym (none_ended rows write (λ row. refl))) follows.ledger);
    next = λ inc.
        ap (λ (ds : List (Option ℕ)). date_at ds inc) is.dates.coming
        ∙ elim (cases_eq inc (length rows + 1)) [
          | inl e ↦ pushed_here old.next is.dates.first inc (length rows) long e ∙ sym (next_new inc e)
          | inr apart ↦
              pushed_there old.next is.dates.first inc (length rows) long apart ∙ follows.next inc
              ∙ sym (next_kept stays calendar h at write legal may inc (not_new inc apart) (untouched inc))
        ];
    finished = λ inc.
        ap (λ (ds : List (Option ℕ)). date_at ds inc) is.dates.ending
        ∙ elim (cases_eq inc (length rows + 1)) [
          | inl e ↦
              let empty = bare (ended_by rows write) (ledger_of h) inc (no_entries h legal inc e) in
              let cur = current_new inc e in
              let nxt = next_new inc e in
              let waits = none_waits (ledger_of (s upon h)) inc empty in
              pushed_here old.finished (finished_with (Some content) is.dates.first false None) inc (length rows) many e
              ∙ sym (λ i. finished_with (cur i) (nxt i) (waits i) (last (instants_of (empty i))))
          | inr apart ↦
              pushed_there old.finished (finished_with (Some content) is.dates.first false None) inc (length rows) many apart ∙ follows.finished inc
              ∙ sym (finished_kept stays calendar h at write legal may inc (not_new inc apart) (untouched inc) (current_old inc apart))
        ];
  }
    where
      next_new : (inc : ℕ) → inc ≡ length rows + 1 → next_instant calendar (s upon h) inc ≡ is.dates.first
      next_new inc e =
          begins calendar h at group name token content legal may inc is.dates.first e
          (first_is zones h reads content at.0 at.0 is.dates.first is.dates.is)

-- ---- an update

renews_touched : (b : Bool) (content : Schedule) → touches (renews_if b content) ≡ true → renews_if b content ≡ Renews content
renews_touched true content e = refl
renews_touched false content e = cc e

renews_no_end : (b : Bool) (content : Schedule) → is_end (renews_if b content) ≡ false
renews_no_end true content = refl
renews_no_end false content = refl

kept_is : (o : Option ℕ) → ((date : ℕ) → o ≡ Some date → date ≤ last_moment) → kept_date o ≡ o
kept_is None bound = refl
kept_is (Some date) bound =
    let low = bound date refl in
    let small : nat_lt date never ≡ true = grind (arith, nat_tests, low) in
    ap (λ b. when b date) small

module _ (stays : NextStays) (renews : NextRenewed) (in_time : FinishedInTime) (zones : Places) (h : History) (at : Moment) (group name : List ℕ)
    (token : Option (List ℕ)) (content : Schedule) where
  abbrev pub update : Write
  update = writes.UpdateSchedule group name token content

  abbrev pub u : Step
  u = steps.Change at update

  abbrev pub kept_rows : List Row
  kept_rows = rows_of (changes_of h)

  deed_is : (row : Row) → touches (deed_of update row) ≡ true → deed_of update row ≡ Renews content
  deed_is row e = renews_touched (is_at group name row) content e

  none : CreatesNone update
  none = (refl, λ m. refl)

  no_end : ended_by kept_rows update ≡ []
  no_end = none_ended kept_rows update (λ row. renews_no_end (is_at group name row) content)

  old_one : (inc : ℕ) → (is_next h inc && creates update) ≡ false
  old_one inc = fails (is_next h inc)
    where
      fails : (b : Bool) → (b && false) ≡ false
      fails true = refl
      fails false = refl

  pub updated_follows : (old new : Dated) → IsLegal calendar h → MayFollow calendar h u → Reads zones h → Follows h old
      → IsUpdated zones kept_rows at.0 update content old new → Follows (u upon h) new
  updated_follows old new legal may reads follows is = record {
    ledger =
        subst (λ (l : State). Stands l (ledger_of (u upon h))) (sym is.ledger)
        (subst (λ (incs : List ℕ). Stands old.ledger (map Cancelled incs ++ ledger_of h)) (sym no_end) follows.ledger);
    next = next_is;
    finished = λ inc.
        by_bool (λ b. SetIf b (λ date. date ≡ kept_date (finished_now (ledger_of h) content inc (date_at new.next inc))) (date_at old.finished inc) (date_at new.finished inc)
        → date_at new.finished inc ≡ finished_from calendar (u upon h) inc) (is_touched kept_rows update inc)
        (λ touched set.
        let row = touched_row (λ r. touches (deed_of update r)) (nth kept_rows inc) touched in
        let same : finished_from calendar (u upon h) inc ≡ finished_now (ledger_of h) content inc (date_at new.next inc) =
        let cur = current_renewed kept_rows at.0 update inc row.0 content none row.1 (deed_is row.0 row.2) in
        let nxt = sym (next_is inc) in
        λ i. finished_with (cur i) (nxt i) (nat_lt 0 (undecided (map Cancelled (no_end i) ++ ledger_of h) inc)) (last (instants_of (entries (map Cancelled (no_end i) ++ ledger_of h) inc))) in
        set ∙ kept_is (finished_now (ledger_of h) content inc (date_at new.next inc))
        (λ date e. in_time calendar (u upon h) (legal, may) inc date (same ∙ e)) ∙ sym same)
        (λ apart set.
        set ∙ follows.finished inc
        ∙ sym (finished_kept stays calendar h at update legal may inc (old_one inc) apart (current_stays kept_rows at.0 update inc none apart)))
        ((is.finished (ledger_of h) follows.ledger).each inc);
  }
    where
      next_is : (inc : ℕ) → date_at new.next inc ≡ next_instant calendar (u upon h) inc
      next_is inc =
          by_bool (λ b. SetIf b (IsRenewed zones kept_rows content at.0 inc) (date_at old.next inc) (date_at new.next inc)
          → date_at new.next inc ≡ next_instant calendar (u upon h) inc) (is_touched kept_rows update inc)
          (λ touched set.
          let row = touched_row (λ r. touches (deed_of update r)) (nth kept_rows inc) touched in
          sym (renews calendar h at update legal may inc row.0 content (date_at new.next inc) row.1 (deed_is row.0 row.2)
          (first_is zones h reads content row.0.created.0 (at.0 + 1) (date_at new.next inc) (set row.0 row.1))))
          (λ apart set. set ∙ follows.next inc ∙ sym (next_kept stays calendar h at update legal may inc (old_one inc) apart))
          (is.next.each inc)

-- ---- a deletion

deleted_follows : NextStays → NextEnded → (h : History) (at : Moment) (write : Write) → OnlyEnds write → CreatesNone write → (old new : Dated)
    → IsLegal calendar h → MayFollow calendar h (steps.Change at write) → Follows h old → IsDeleted (rows_of (changes_of h)) write old new
    → Follows (steps.Change at write upon h) new
deleted_follows stays ends h at write only none old new legal may follows is = record {
  ledger = ended_stands (rows_of (changes_of h)) write new.ledger (ledger_of h) only (is.calls (ledger_of h) follows.ledger);
  next = λ inc.
      next_where_ended stays ends calendar h at write legal may only none inc (date_at old.next inc) (date_at new.next inc) (is.next.each inc) (follows.next inc);
  finished = λ inc.
      finished_where_ended stays calendar h at write legal may only none inc (date_at old.finished inc) (date_at new.finished inc) (is.finished.each inc) (follows.finished inc);
}

ends_touched : (b : Bool) → is_end (ends_if b) ≡ touches (ends_if b)
ends_touched true = refl
ends_touched false = refl

-- ---- every write

pub redated_follows : NextStays → NextCreated → NextRenewed → NextEnded → FinishedInTime → (zones : Places) (h : History) (at : Moment) (write : Write) (old new : Dated)
    → IsLegal calendar h → MayFollow calendar h (steps.Change at write) → Reads zones h
    → length old.next ≡ length (rows_of (changes_of h)) → length old.finished ≡ length (rows_of (changes_of h))
    → Follows h old → IsRedated zones (rows_of (changes_of h)) at.0 write old new → Follows (steps.Change at write upon h) new
redated_follows stays begins renews ends in_time zones h at (writes.CreateSchedule group name token content) old new legal may reads long many follows is =
    created_follows stays begins zones h at group name token content old new legal may reads long many follows is
redated_follows stays begins renews ends in_time zones h at (writes.UpdateSchedule group name token content) old new legal may reads long many follows is =
    updated_follows stays renews in_time zones h at group name token content old new legal may reads follows is
redated_follows stays begins renews ends in_time zones h at (writes.DeleteSchedule group name token) old new legal may reads long many follows is =
    deleted_follows stays ends h at (writes.DeleteSchedule group name token) (λ row. ends_touched (is_at group name row)) (refl, λ m. refl) old new legal may follows is
redated_follows stays begins renews ends in_time zones h at (writes.CreateGroup name token) old new legal may reads long many follows is =
    deleted_follows stays ends h at (writes.CreateGroup name token) (λ row. refl) (refl, λ m. refl) old new legal may follows is
redated_follows stays begins renews ends in_time zones h at (writes.DeleteGroup name token) old new legal may reads long many follows is =
    deleted_follows stays ends h at (writes.DeleteGroup name token) (λ row. ends_touched (is_in name row)) (refl, λ m. refl) old new legal may follows is
