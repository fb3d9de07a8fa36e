-- The parts behind a Complete are sound, and stand for the history with the Complete upon it.
use Rattle.std.proofs.Common.{◌≡◌, ℕ, ◌+◌, ◌≤◌, Option, Some, None, List, ◌∷◌, length, refl, ap, sym, subst, ◌∙◌, inl, inr, arith}
use Rattle.std.specs.Option.{option_and_then, option_map}
use Rattle.std.proofs.lemmas.Bool.{cases_eq, ne_eqb}
use Rattle.plain_words.specs.Lists.{nth, change_nth}
use Rattle.plain_words.specs.Moments.{last_moment}
use Rattle.plain_words.specs.declared.moment.Moment.{Moment}
use Rattle.sched_plain.specs.declared.row.Row.{Row}
use Rattle.sched_plain.specs.declared.step.Step.TheVariants as steps
use Rattle.sched_plain.specs.Changes.{changes_of, Removed}
use Rattle.sched_plain.specs.History.{History, ◌upon◌}
use Rattle.sched_plain.specs.Legal.{MayFollow}
use Rattle.sched_plain.specs.Rows.{removed_at, rows_after}
use Rattle.sched_rows.specs.State.{State as RowsState, Stands as RowsStand}
use Rattle.sched_rows.proofs.ChangeLemmas.{length_change}
use Rattle.date_table.specs.Dates.{date_at}
use Rattle.date_table.specs.Tables.{Dated}
use Rattle.next_dates.specs.StepLaws.{NextStays}
use Rattle.next_dates.proofs.Contents.{changed_here, changed_elsewhere}
use Rattle.work_order.specs.Finished.{finished_from}
use Rattle.work_order.specs.FinishedLaws.{CompletedIsNotFinished, FinishedStays}
use Rattle.work_order.proofs.RevisionEdits.{removed_stays}
use Rattle.book_parts.specs.Contents.{HaveContents}
use Rattle.book_parts.specs.Told.{Told}
use Rattle.book_parts.specs.Sound.{IsSound, owed}
use Rattle.book_parts.specs.Stands.{Stands, calendar}
use Rattle.book_parts.proofs.ContentLemmas.{contents_removed}
use Rattle.book_parts.proofs.PostLemmas.{owed_same}

pub complete_sound : (b : Told) (at steps inc : ℕ) (rows : RowsState) (finished : Dated) → IsSound b → b.moment ≤ at → at ≤ last_moment
    → rows.rows ≡ rows_after (Removed at inc) b.rows.rows → rows.latest ≡ at → length finished.dates ≡ length b.finished.dates
    → IsSound (record b { moment = at; steps = steps; rows = rows; finished = finished })
complete_sound b at steps inc rows finished sound forward last rows_are latest dates_long =
    let long : length rows.rows ≡ length b.rows.rows = ap length rows_are ∙ length_change (removed_at at) b.rows.rows inc in
    let few = sound.few in
    record {
      contents = subst HaveContents (sym rows_are) (contents_removed at inc b.rows.rows sound.contents);
      few = omega (arith, few, long);
      scheduled = sound.scheduled ∙ sym long;
      completed = dates_long ∙ sound.completed ∙ sym long;
      shards = sound.shards;
      latest = omega (arith, latest);
      early = last;
      aloft = λ f there.
          let was = sound.aloft f there in
          let low = was.0 in
          let early = was.1 in
          (omega (arith, low, long), omega (arith, early, forward));
      letters = λ queue.
          let enough = sound.letters queue in
          let same : owed rows.rows b.ledger.flights queue ≡ owed b.rows.rows b.ledger.flights queue =
          ap (λ (all : List Row). owed all b.ledger.flights queue) rows_are
          ∙ owed_same b.rows.rows (rows_after (Removed at inc) b.rows.rows) queue b.ledger.flights
          (λ f there.
          let early = (sound.aloft f there).1 in
          removed_stays at inc b.rows.rows f.inc f.instant (omega (arith, early, forward))) in
          omega (arith, enough, same);
    }

-- a date that is taken is there no more
taken_date : (o : Option (Option ℕ)) → option_and_then (λ (date : Option ℕ). date) (option_map (λ (old : Option ℕ). None) o) ≡ None
taken_date None = refl
taken_date (Some date) = refl

-- that of the removed schedule is taken, the others stay
finished_dates : FinishedStays → CompletedIsNotFinished → (b : Told) (h : History) (at : Moment) (inc : ℕ) (dates : List (Option ℕ))
    → Stands b h → MayFollow calendar h (steps.Complete at inc) → dates ≡ change_nth (λ (old : Option ℕ). None) b.finished.dates inc
    → (i : ℕ) → date_at dates i ≡ finished_from calendar (steps.Complete at inc upon h) i
finished_dates stays gone b h at inc dates st may are i =
    let old = b.finished.dates in
    let set : date_at dates i ≡ date_at (change_nth (λ (o : Option ℕ). None) old inc) i = ap (λ (all : List (Option ℕ)). date_at all i) are in
    elim (cases_eq i inc) [
      | inl same ↦
          set ∙ ap (date_at (change_nth (λ (o : Option ℕ). None) old inc)) same
          ∙ ap (option_and_then (λ (date : Option ℕ). date)) (changed_here (λ (o : Option ℕ). None) old inc)
          ∙ taken_date (nth old inc) ∙ sym (gone calendar h at inc) ∙ ap (finished_from calendar (steps.Complete at inc upon h)) (sym same)
      | inr apart ↦
          set ∙ ap (option_and_then (λ (date : Option ℕ). date)) (changed_elsewhere (λ (o : Option ℕ). None) old inc i apart)
          ∙ st.finished i ∙ sym (stays calendar h (steps.Complete at inc) st.legal may i (ne_eqb i inc apart))
    ]

pub complete_stands : NextStays → FinishedStays → CompletedIsNotFinished → (b : Told) (h : History) (at : Moment) (inc : ℕ)
    (rows : RowsState) (finished : Dated) → Stands b h → MayFollow calendar h (steps.Complete at inc)
    → RowsStand rows (Removed at.0 inc ∷ changes_of h)
    → finished.dates ≡ change_nth (λ (old : Option ℕ). None) b.finished.dates inc
    → Stands (record b { moment = at.0; steps = b.steps + 1; rows = rows; finished = finished }) (steps.Complete at inc upon h)
complete_stands next_stays stays gone b h at inc rows finished st may rows_stand dates = record {
  legal = (st.legal, may);
  moment = refl;
  steps = ap (λ n. n + 1) st.steps;
  swept = st.swept;
  holders = st.holders;
  zones = st.zones;
  rows = rows_stand;
  ledger = st.ledger;
  shelf = st.shelf;
  letters = st.letters;
  next = λ i. st.next i ∙ sym (next_stays calendar h (steps.Complete at inc) st.legal may i refl);
  finished = finished_dates stays gone b h at inc finished.dates st may dates;
}
