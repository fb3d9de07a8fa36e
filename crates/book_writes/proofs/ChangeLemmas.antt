-- The parts behind a Change are sound, and stand for the history with the Change upon it.
use Rattle.std.proofs.Common.{◌≡◌, ℕ, ◌+◌, ◌≤◌, Option, Some, None, List, [], ◌∷◌, ◌++◌, map, length, refl, ap, sym, subst, ◌∙◌, arith}
use Rattle.std.specs.List.{Contains}
use Rattle.std.specs.Option.{option_map}
use Rattle.std.proofs.lemmas.List.{length-append, length-map}
use Rattle.plain_words.specs.declared.moment.Moment.{Moment}
use Rattle.plain_words.specs.declared.limits.TheConstants.{MOST_INCARNATIONS}
use Rattle.plain_words.specs.Moments.{last_moment}
use Rattle.sched_plain.specs.declared.row.Row.{Row}
use Rattle.sched_plain.specs.declared.step.Step.TheVariants as steps
use Rattle.sched_plain.specs.declared.write.Write.{Write}
use Rattle.sched_plain.specs.declared.write.Write.TheVariants as writes
use Rattle.sched_plain.specs.Changes.{changes_of, Written}
use Rattle.sched_plain.specs.History.{History, ◌upon◌}
use Rattle.sched_plain.specs.Legal.{MayFollow}
use Rattle.sched_plain.specs.Rows.{born, deed_of, done_to, rows_after}
use Rattle.sched_plain.specs.Tokens.{Kept, kept_by, kept_of, token_of}
use Rattle.sched_plain.specs.Validity.{IsWrite}
use Rattle.sched_rows.specs.State.{State as RowsState, Stands as RowsStand}
use Rattle.ledger_rows.specs.declared.row.Flight.{Flight}
use Rattle.ledger_rows.specs.State.{State as LedgerState}
use Rattle.token_shelf.specs.Shelves.{Shelved, Keeps}
use Rattle.date_table.specs.Tables.{Dated as Table}
use Rattle.next_dates.specs.StepLaws.{NextStays, NextCreated, NextRenewed, NextEnded}
use Rattle.work_order.specs.DateLaws.{FinishedInTime}
use Rattle.work_order.proofs.RevisionEdits.{written_stays}
use Rattle.book_parts.specs.Contents.{HaveContents}
use Rattle.book_parts.specs.Told.{Told}
use Rattle.book_parts.specs.Sound.{IsSound, owed}
use Rattle.book_parts.specs.Stands.{Stands, calendar}
use Rattle.book_parts.proofs.ContentLemmas.{contents_written}
use Rattle.book_parts.proofs.PostLemmas.{owed_same}
use Rattle.book_writes.specs.Keeping.{Keeper, keeper_of, kept_of_keeper}
use Rattle.book_writes.specs.Redating.{Dated, IsRedated, HasDateRoom}
use Rattle.book_writes.proofs.RedateLemmas.{Follows, redated_follows}

-- the ledger and the dates among the parts
abbrev pub dated : Told → Dated
dated b = record { ledger = b.ledger; next = b.next.dates; finished = b.finished.dates }

-- the parts behind a Change at a moment
abbrev pub changed : Told → ℕ → RowsState → LedgerState → Shelved → Table → Table → Told
changed b at rows ledger shelf next finished =
    record b { moment = at; steps = b.steps + 1; rows = rows; ledger = ledger; shelf = shelf; next = next; finished = finished }

-- ---- the history

keeper_keeps : (write : Write) (token : Option (List ℕ)) (place : ℕ) → token_of write ≡ token
    → kept_of_keeper (option_map {U = Keeper} (λ t. (t, write)) token) place ≡ kept_by token write place
keeper_keeps write None place e = refl
keeper_keeps write (Some token) place e = refl

pub change_stands : NextStays → NextCreated → NextRenewed → NextEnded → FinishedInTime → (b : Told) (h : History) (at : Moment) (write : Write) (keeper : Option Keeper)
    (rows : RowsState) (ledger : LedgerState) (shelf : Shelved) (next finished : Table)
    → IsSound b → Stands b h → MayFollow calendar h (steps.Change at write) → keeper ≡ keeper_of write
    → IsRedated b.zones b.rows.rows at.0 write (dated b) (record { ledger = ledger; next = next.dates; finished = finished.dates })
    → ((kept : List Kept) → Keeps b.shelf kept → Keeps shelf (kept ++ kept_of_keeper keeper (b.steps + 1)))
    → RowsStand rows (Written at.0 write ∷ changes_of h)
    → Stands (changed b at.0 rows ledger shelf next finished) (steps.Change at write upon h)
change_stands stays begins renews ends in_time b h at write keeper rows ledger shelf next finished sound st may keeps_it redated keeps rows_stand =
    let new : Dated = record { ledger = ledger; next = next.dates; finished = finished.dates } in
    let follows : Follows (steps.Change at write upon h) new =
    redated_follows stays begins renews ends in_time b.zones h at write (dated b) new st.legal may st.zones
    (sound.scheduled ∙ ap length st.rows.rows) (sound.completed ∙ ap length st.rows.rows)
    (record { ledger = st.ledger; next = st.next; finished = st.finished })
    (subst (λ (all : List Row). IsRedated b.zones all at.0 write (dated b) new) st.rows.rows redated) in
    record {
      legal = (st.legal, may);
      moment = refl;
      steps = ap (λ n. n + 1) st.steps;
      swept = st.swept;
      holders = st.holders;
      zones = st.zones;
      rows = rows_stand;
      ledger = follows.ledger;
      shelf =
          subst (λ (more : List Kept). Keeps shelf (kept_of h ++ more))
          (ap (λ (k : Option Keeper). kept_of_keeper k (b.steps + 1)) keeps_it ∙ keeper_keeps write (token_of write) (b.steps + 1) refl
          ∙ ap (λ n. kept_by (token_of write) write (n + 1)) st.steps)
          (keeps (kept_of h) st.shelf);
      letters = st.letters;
      next = follows.next;
      finished = follows.finished;
    }

-- ---- soundness

length_written : (at : ℕ) (write : Write) (rows : List Row) → length (rows_after (Written at write) rows) ≡ length rows + length (born at write)
length_written at write rows =
    let edit : Row → Row = λ row. done_to at (deed_of write row) row in
    length-append (map edit rows) (born at write) ∙ ap (λ n. n + length (born at write)) (length-map rows edit)

-- what holds of the sizes behind a write
record IsSized (b : Told) (at : ℕ) (write : Write) (new : Dated) : Type 0 where
  pub next : length new.next ≡ length (rows_after (Written at write) b.rows.rows)
  pub finished : length new.finished ≡ length (rows_after (Written at write) b.rows.rows)
  pub few : length (rows_after (Written at write) b.rows.rows) ≤ MOST_INCARNATIONS
  pub more : length b.rows.rows ≤ length (rows_after (Written at write) b.rows.rows)
  pub flights : new.ledger.flights ≡ b.ledger.flights

one_longer : (dates more : List (Option ℕ)) (date : Option ℕ) (n : ℕ) → more ≡ dates ++ date ∷ [] → length dates ≡ n → length more ≡ n + 1
one_longer dates more date n is long = ap length is ∙ length-append dates (date ∷ []) ∙ ap (λ k. k + 1) long

same_long : (b : Told) (at : ℕ) (write : Write) (new : Dated) → IsSound b → born at write ≡ [] → length new.next ≡ length b.next.dates
    → length new.finished ≡ length b.finished.dates → new.ledger.flights ≡ b.ledger.flights → IsSized b at write new
same_long b at write new sound none next finished flights =
    let long : length (rows_after (Written at write) b.rows.rows) ≡ length b.rows.rows + 0 =
    length_written at write b.rows.rows ∙ ap (λ (l : List Row). length b.rows.rows + length l) none in
    let scheduled = sound.scheduled in
    let completed = sound.completed in
    let few = sound.few in
    record {
      next = omega (arith, next, scheduled, long);
      finished = omega (arith, finished, completed, long);
      few = omega (arith, few, long);
      more = omega (arith, long);
      flights = flights;
    }

sized : (b : Told) (at : ℕ) (write : Write) (new : Dated) → IsSound b → IsRedated b.zones b.rows.rows at write (dated b) new
    → HasDateRoom write (length b.rows.rows) b.next.room b.finished.room → IsSized b at write new
sized b at (writes.CreateSchedule group name token content) new sound is room =
    let long = length_written at (writes.CreateSchedule group name token content) b.rows.rows in
    let next = one_longer b.next.dates new.next is.dates.first (length b.rows.rows) is.dates.coming sound.scheduled in
    let finished = one_longer b.finished.dates new.finished _ (length b.rows.rows) is.dates.ending sound.completed in
    let few = room.0 in
    record {
      next = next ∙ sym long;
      finished = finished ∙ sym long;
      few = omega (arith, few, long);
      more = omega (arith, long);
      flights = ap (λ (l : LedgerState). l.flights) is.ledger;
    }
sized b at (writes.UpdateSchedule group name token content) new sound is room =
    same_long b at (writes.UpdateSchedule group name token content) new sound refl is.next.long is.long (ap (λ (l : LedgerState). l.flights) is.ledger)
sized b at (writes.DeleteSchedule group name token) new sound is room =
    same_long b at (writes.DeleteSchedule group name token) new sound refl is.next.long is.finished.long is.flights
sized b at (writes.CreateGroup name token) new sound is room =
    same_long b at (writes.CreateGroup name token) new sound refl is.next.long is.finished.long is.flights
sized b at (writes.DeleteGroup name token) new sound is room =
    same_long b at (writes.DeleteGroup name token) new sound refl is.next.long is.finished.long is.flights

pub change_sound : (b : Told) (at : ℕ) (write : Write) (rows : RowsState) (ledger : LedgerState) (shelf : Shelved) (next finished : Table)
    → IsSound b → IsWrite write → b.moment ≤ at → at ≤ last_moment
    → IsRedated b.zones b.rows.rows at write (dated b) (record { ledger = ledger; next = next.dates; finished = finished.dates })
    → HasDateRoom write (length b.rows.rows) b.next.room b.finished.room
    → rows.rows ≡ rows_after (Written at write) b.rows.rows → rows.latest ≡ at
    → IsSound (changed b at rows ledger shelf next finished)
change_sound b at write rows ledger shelf next finished sound valid later last is room rows_are latest =
    let new : Dated = record { ledger = ledger; next = next.dates; finished = finished.dates } in
    let sizes = sized b at write new sound is room in
    let longs : length rows.rows ≡ length (rows_after (Written at write) b.rows.rows) = ap length rows_are in
    let few = sizes.few in
    let more = sizes.more in
    let next_long = sizes.next in
    let finished_long = sizes.finished in
    record {
      contents = subst HaveContents (sym rows_are) (contents_written at write b.rows.rows valid sound.contents);
      few = omega (arith, few, longs);
      scheduled = next_long ∙ sym longs;
      completed = finished_long ∙ sym longs;
      shards = sound.shards;
      latest = omega (arith, latest);
      early = last;
      aloft = λ f there.
          let was = sound.aloft f (subst (λ (fs : List Flight). Contains fs f) sizes.flights there) in
          let low = was.0 in
          let early = was.1 in
          (omega (arith, low, more, longs), omega (arith, early, later));
      letters = λ queue.
          let enough = sound.letters queue in
          let same : owed rows.rows ledger.flights queue ≡ owed b.rows.rows b.ledger.flights queue =
          ap (λ (fs : List Flight). owed rows.rows fs queue) sizes.flights
          ∙ ap (λ (rs : List Row). owed rs b.ledger.flights queue) rows_are
          ∙ owed_same b.rows.rows (rows_after (Written at write) b.rows.rows) queue b.ledger.flights
          (λ f there.
          let was = sound.aloft f there in
          let early = was.1 in
          written_stays at write b.rows.rows f.inc f.instant (omega (arith, early, later)) was.0) in
          omega (arith, enough, same);
    }
