-- What a Close makes of the parts: they stay sound, and stand for the history with it.
use Rattle.std.proofs.Common.{◌≡◌, ℕ, ◌+◌, ◌≤◌, Bool, true, false, Option, Some, None, List, ◌∷◌, ◌++◌, refl, ap, sym, subst, ◌∙◌, arith, length}
use Rattle.std.specs.Prelude.{if◌then◌else◌}
use Rattle.plain_words.specs.declared.moment.Moment.{Moment}
use Rattle.plain_words.specs.Lists.{same_text, some_pass, change_nth}
use Rattle.plain_words.specs.Moments.{last_moment}
use Rattle.sched_plain.specs.declared.outcome.Outcome.{Outcome}
use Rattle.sched_plain.specs.declared.outcome.Reason.{Reason}
use Rattle.sched_plain.specs.declared.row.Row.{Row}
use Rattle.sched_plain.specs.declared.step.Step.TheVariants as steps
use Rattle.sched_plain.specs.Entries.{outcome_of}
use Rattle.sched_plain.specs.History.{◌upon◌}
use Rattle.sched_plain.specs.Ledger.{LedgerCall, Closed, ledger_of}
use Rattle.sched_plain.specs.Queues.{Posted, letter_in, posted, queue_of}
use Rattle.sched_plain.specs.Rows.{content_at}
use Rattle.sched_rows.proofs.NameLemmas.{same_text_same}
use Rattle.ledger_rows.specs.declared.row.Flight.{Flight}
use Rattle.ledger_rows.specs.State.{State as LedgerState, Stands as LedgerStands}
use Rattle.dead_letters.specs.Piles.{Piles, room_in}
use Rattle.dead_letters.specs.Posts.{Holds}
use Rattle.date_table.specs.Tables.{Dated}
use Rattle.next_dates.specs.StepLaws.{NextStays}
use Rattle.work_order.specs.DateLaws.{FinishedInTime}
use Rattle.work_order.specs.FinishedLaws.{FinishedStays}
use Rattle.book_parts.specs.Told.{Told}
use Rattle.book_parts.specs.Sound.{IsSound, AreAloft, owed}
use Rattle.book_parts.specs.Stands.{Takes, calendar}
use Rattle.book_entries.specs.Finishing.{finished_of, kept_date}
use Rattle.book_entries.specs.LetterRoom.{HasLetterRoom, queue_at}
use Rattle.book_entries.proofs.DateLemmas.{refinished}

-- the queue that a letter went to is the one named
pub named_by : (queue : List ℕ) (named : Option (List ℕ)) → some_pass (λ name. same_text name queue) named ≡ true → named ≡ Some queue
named_by queue None e = cc e
named_by queue (Some name) e = ap (λ (q : List ℕ). Some q) (same_text_same name queue e)

pub room_left : (b : Bool) (owes had left : ℕ) → had ≤ left + (if b then 1 else 0) → owes ≤ had → (b ≡ true → owes + 1 ≤ had) → owes ≤ left
room_left true owes had left less fits more = let l : had ≤ left + 1 = less in let m = more refl in omega (arith, l, m)
room_left false owes had left less fits more = let l : had ≤ left + 0 = less in omega (arith, l, fits)

abbrev pub LeavesRoom : Told → ℕ → ℕ → Piles → Type 0
LeavesRoom b inc instant letters =
    (q : List ℕ) → room_in b.letters q ≤ room_in letters q + (if some_pass (λ name. same_text name q) (queue_at b inc instant) then 1 else 0)

-- there is room for the letter itself
pub letter_fits : (b : Told) (inc instant : ℕ) → HasLetterRoom b inc instant
    → (queue : List ℕ) → queue_at b inc instant ≡ Some queue → 1 ≤ room_in b.letters queue
letter_fits b inc instant room queue names = let r = room queue names in omega (arith, r)

pub sound_closed : (b : Told) (t steps inc instant : ℕ) (ledger : LedgerState) (letters : Piles) (finished : Dated)
    → IsSound b → b.moment ≤ t → t ≤ last_moment → ledger.flights ≡ b.ledger.flights → HasLetterRoom b inc instant
    → LeavesRoom b inc instant letters → length finished.dates ≡ length b.finished.dates
    → IsSound (record {
      moment = t;
      steps = steps;
      swept = b.swept;
      holders = b.holders;
      zones = b.zones;
      rows = b.rows;
      ledger = ledger;
      shelf = b.shelf;
      letters = letters;
      next = b.next;
      finished = finished;
    })
sound_closed b t steps inc instant ledger letters finished sound forward early air letter less long =
    let rows = b.rows.rows in
    record {
      contents = sound.contents;
      few = sound.few;
      scheduled = sound.scheduled;
      completed = long ∙ sound.completed;
      shards = sound.shards;
      latest = let l = sound.latest in omega (arith, l, forward);
      early = early;
      aloft = subst (λ (all : List Flight). AreAloft (length rows) t all) (sym air)
          (λ f has. let a = sound.aloft f has in (a.0, (let i = a.1 in omega (arith, i, forward))));
      letters = λ q. subst (λ (all : List Flight). owed rows all q ≤ room_in letters q) (sym air)
          (room_left (some_pass (λ name. same_text name q) (queue_at b inc instant)) (owed rows b.ledger.flights q) (room_in b.letters q) (room_in letters q)
          (less q) (sound.letters q) (λ went. letter q (named_by q (queue_at b inc instant) went)));
    }

pub closed_taken : NextStays → FinishedStays → FinishedInTime → (b : Told) (at : Moment) (inc instant : ℕ) (reason : Reason) (ledger : LedgerState)
    (letters : Piles) (finished : Dated) (outcome : Outcome) → outcome ≡ outcome_of reason → 1 ≤ inc → inc ≤ length b.finished.dates
    → ((calls : List LedgerCall) → LedgerStands b.ledger calls → LedgerStands ledger (Closed inc instant reason ∷ calls))
    → ((all : List Posted) → Holds b.letters all → Holds letters (all ++ letter_in (queue_at b inc instant) inc instant outcome))
    → ((calls : List LedgerCall) → LedgerStands ledger calls
    → finished.dates ≡ change_nth (λ (x : Option ℕ). kept_date (finished_of b.rows.rows calls b.next.dates inc)) b.finished.dates inc)
    → Takes b (record {
      moment = at.0;
      steps = b.steps + 1;
      swept = b.swept;
      holders = b.holders;
      zones = b.zones;
      rows = b.rows;
      ledger = ledger;
      shelf = b.shelf;
      letters = letters;
      next = b.next;
      finished = finished;
    }) (steps.Close at inc instant reason)
closed_taken next_stays finished_stays in_time b at inc instant reason ledger letters finished outcome is low within closes posts dates h st may =
    let s = steps.Close at inc instant reason in
    let after = closes (ledger_of h) st.ledger in
    let coming = λ (i : ℕ). st.next i ∙ sym (next_stays calendar h s st.legal may i refl) in
    record {
      legal = (st.legal, may);
      moment = refl;
      steps = ap (λ n. n + 1) st.steps;
      swept = st.swept;
      holders = st.holders;
      zones = st.zones;
      rows = st.rows;
      ledger = after;
      shelf = st.shelf;
      letters = subst (λ (rows : List Row). Holds letters (posted h ++ letter_in (queue_of (content_at rows inc instant)) inc instant (outcome_of reason)))
          st.rows.rows (subst (λ (o : Outcome). Holds letters (posted h ++ letter_in (queue_at b inc instant) inc instant o)) is (posts (posted h) st.letters));
      next = coming;
      finished = refinished in_time (s upon h) inc b.rows.rows b.next.dates b.finished.dates finished.dates (st.legal, may) st.rows.rows (coming inc) low within
          (dates (Closed inc instant reason ∷ ledger_of h) after)
          (λ i apart. st.finished i ∙ sym (finished_stays calendar h s st.legal may i apart));
    }
