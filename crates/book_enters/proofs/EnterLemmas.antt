-- What an Enter makes of the parts: they stay sound, and stand for the history with it.
use Rattle.std.proofs.Common.{◌≡◌, ℕ, ◌+◌, ◌≤◌, ◌==◌, ◌&&◌, ◌||◌, Option, Some, None, is_some, List, ◌∷◌, refl, ap, sym, subst, ◌∙◌, arith, length, inl, inr}
use Rattle.std.specs.Prelude.{if◌then◌else◌}
use Rattle.std.specs.Option.{option_and_then}
use Rattle.std.proofs.lemmas.Bool.{cases_eq, ne_eqb}
use Rattle.plain_words.specs.declared.moment.Moment.{Moment}
use Rattle.plain_words.specs.Lists.{last, nth, change_nth}
use Rattle.plain_words.specs.Moments.{last_moment}
use Rattle.plain_words.proofs.Booleans.{and_false}
use Rattle.sched_plain.specs.declared.row.Row.{Row}
use Rattle.sched_plain.specs.declared.schedule.Policy.{Policy}
use Rattle.sched_plain.specs.declared.step.Pair.{Pair}
use Rattle.sched_plain.specs.declared.step.Step.TheVariants as steps
use Rattle.sched_plain.specs.Changes.{changes_of}
use Rattle.sched_plain.specs.History.{History, ◌upon◌}
use Rattle.sched_plain.specs.Items.{opened}
use Rattle.sched_plain.specs.Ledger.{LedgerCall, Entered, ledger_of, policy_of}
use Rattle.sched_plain.specs.Legal.{MayFollow}
use Rattle.sched_plain.specs.Occurrences.{occurs}
use Rattle.sched_plain.specs.Rows.{current_of, rows_of}
use Rattle.sched_plain.specs.Zones.{is_utc, read_under}
use Rattle.ledger_rows.specs.declared.row.Flight.{Flight}
use Rattle.ledger_rows.specs.State.{State as LedgerState, Stands as LedgerStands}
use Rattle.dead_letters.specs.Piles.{room_in}
use Rattle.date_table.specs.Dates.{date_at}
use Rattle.date_table.specs.Tables.{Dated}
use Rattle.next_dates.specs.Dates.{IsLeast, from_on}
use Rattle.next_dates.specs.NextInstants.{next_instant}
use Rattle.next_dates.specs.NextLaws.{CurrentIsLast, IsOfContent, NothingToCome}
use Rattle.next_dates.specs.StepLaws.{NextEntered, NextStays}
use Rattle.work_order.specs.DateLaws.{FinishedInTime}
use Rattle.work_order.specs.FinishedLaws.{FinishedStays}
use Rattle.work_order.specs.LivingLaws.{OnlyLivingAct, ZonesAreKnown}
use Rattle.book_parts.specs.Told.{Told}
use Rattle.book_parts.specs.Sound.{IsSound, AreAloft, owed}
use Rattle.book_parts.specs.Stands.{Stands, Takes, calendar}
use Rattle.book_writes.specs.Dating.{read_in, IsKnown}
use Rattle.book_writes.proofs.TouchLemmas.{date_here, date_elsewhere}
use Rattle.book_entries.specs.Finishing.{finished_of, kept_date}
use Rattle.book_entries.proofs.DateLemmas.{refinished}
use Rattle.book_enters.specs.Behind.{IsBehind, GoOn}
use Rattle.book_enters.proofs.FollowLemmas.{Lives, enter_lives, last_reaches}

-- the laws of legal histories that an Enter rests on
pub record Laws : Type 0 where
  pub living : OnlyLivingAct
  pub known : ZonesAreKnown
  pub nothing : NothingToCome
  pub current : CurrentIsLast
  pub stays : NextStays
  pub entered : NextEntered
  pub finished_stays : FinishedStays
  pub in_time : FinishedInTime

-- ---- the next instants

-- that of the incarnation
next_is : Laws → (b : Told) (h : History) (at : Moment) (inc : ℕ) (pairs : List Pair) (pair : Pair) (date : Option ℕ) → Stands b h
    → MayFollow calendar h (steps.Enter at inc pairs) → last pairs ≡ Some pair → IsBehind b.zones b.rows.rows inc pair.instant date
    → next_instant calendar (steps.Enter at inc pairs upon h) inc ≡ date
next_is laws b h at inc pairs pair date st may is behind =
    let lives : Lives h inc = enter_lives laws.living laws.nothing h at inc pairs pair st.legal may is in
    let zone = lives.content.zone in
    let of : IsOfContent h inc lives.row lives.content = laws.current calendar h st.legal inc lives.row lives.content lives.there lives.now in
    let reached = of.reached in
    let reaches = last_reaches h at inc pairs pair st.legal may is in
    let knows : IsKnown b.zones lives.content =
    ap (λ (bytes : Option (List ℕ)). is_utc zone || is_some bytes) (st.zones zone)
    ∙ laws.known calendar h st.legal inc lives.content (ap (option_and_then current_of) lives.there ∙ lives.now) in
    let read : read_in b.zones zone ≡ read_under h zone = ap (λ (bytes : Option (List ℕ)). if is_utc zone then None else bytes) (st.zones zone) in
    let there : nth b.rows.rows inc ≡ Some lives.row = ap (λ (rows : List Row). nth rows inc) st.rows.rows ∙ lives.there in
    laws.entered calendar h at inc pairs st.legal may pair (opened (read_under h zone) lives.row.created.0 of.first lives.content) date is of.item
    (subst (λ (bytes : Option (List ℕ)). IsLeast (from_on (pair.instant + 1) (occurs calendar (opened bytes lives.row.created.0 of.first lives.content))) date) read
    (behind lives.row there lives.content lives.now knows of.first (omega (arith, reached, reaches))))

-- those of all
pub next_are : Laws → (b : Told) (h : History) (at : Moment) (inc : ℕ) (pairs : List Pair) (next : List (Option ℕ)) → Stands b h
    → MayFollow calendar h (steps.Enter at inc pairs) → 1 ≤ inc → inc ≤ length b.next.dates → (o : Option Pair) → last pairs ≡ o
    → GoOn b.zones b.rows.rows inc o b.next.dates next → (i : ℕ) → date_at next i ≡ next_instant calendar (steps.Enter at inc pairs upon h) i
next_are laws b h at inc pairs next st may low within None none goes i =
    ap (λ (dates : List (Option ℕ)). date_at dates i) goes ∙ st.next i
    ∙ sym (laws.stays calendar h (steps.Enter at inc pairs) st.legal may i (ap (λ (o : Option Pair). i == inc && is_some {T = Pair} o) none ∙ and_false (i == inc)))
next_are laws b h at inc pairs next st may low within (Some pair) is goes i =
    let s = steps.Enter at inc pairs in
    ap (λ (dates : List (Option ℕ)). date_at dates i) goes.dates
    ∙ elim (cases_eq i inc) [
      | inl same ↦
          ap (date_at (change_nth (λ (before : Option ℕ). goes.date) b.next.dates inc)) same
          ∙ date_here b.next.dates goes.date inc low within
          ∙ sym (next_is laws b h at inc pairs pair goes.date st may is goes.is)
          ∙ ap (next_instant calendar (s upon h)) (sym same)
      | inr apart ↦
          date_elsewhere b.next.dates goes.date inc i apart ∙ st.next i
          ∙ sym (laws.stays calendar h s st.legal may i (ap (λ b. b && is_some {T = Pair} (last pairs)) (ne_eqb i inc apart)))
    ]

-- ---- the parts

pub sound_entered : (b : Told) (t steps : ℕ) (ledger : LedgerState) (next finished : Dated) → IsSound b → b.moment ≤ t → t ≤ last_moment
    → ledger.flights ≡ b.ledger.flights → length next.dates ≡ length b.next.dates → length finished.dates ≡ length b.finished.dates
    → IsSound (record {
      moment = t;
      steps = steps;
      swept = b.swept;
      holders = b.holders;
      zones = b.zones;
      rows = b.rows;
      ledger = ledger;
      shelf = b.shelf;
      letters = b.letters;
      next = next;
      finished = finished;
    })
sound_entered b t steps ledger next finished sound forward early air coming ending =
    let rows = b.rows.rows in
    record {
      contents = sound.contents;
      few = sound.few;
      scheduled = coming ∙ sound.scheduled;
      completed = ending ∙ sound.completed;
      shards = sound.shards;
      latest = let l = sound.latest in omega (arith, l, forward);
      early = early;
      aloft = subst (λ (all : List Flight). AreAloft (length rows) t all) (sym air)
          (λ f has. let a = sound.aloft f has in (a.0, (let i = a.1 in omega (arith, i, forward))));
      letters = λ queue. subst (λ (all : List Flight). owed rows all queue ≤ room_in b.letters queue) (sym air) (sound.letters queue);
    }

pub entered_taken : Laws → (b : Told) (at : Moment) (inc : ℕ) (pairs : List Pair) (policy : Policy) (ledger : LedgerState) (next finished : Dated)
    → 1 ≤ inc → inc ≤ length b.next.dates → inc ≤ length b.finished.dates → policy ≡ policy_of b.rows.rows inc pairs
    → ((calls : List LedgerCall) → LedgerStands b.ledger calls → LedgerStands ledger (Entered inc policy pairs ∷ calls))
    → GoOn b.zones b.rows.rows inc (last pairs) b.next.dates next.dates
    → ((calls : List LedgerCall) → LedgerStands ledger calls
    → finished.dates ≡ change_nth (λ (x : Option ℕ). kept_date (finished_of b.rows.rows calls next.dates inc)) b.finished.dates inc)
    → Takes b (record {
      moment = at.0;
      steps = b.steps + 1;
      swept = b.swept;
      holders = b.holders;
      zones = b.zones;
      rows = b.rows;
      ledger = ledger;
      shelf = b.shelf;
      letters = b.letters;
      next = next;
      finished = finished;
    }) (steps.Enter at inc pairs)
entered_taken laws b at inc pairs policy ledger next finished low coming ending is enters goes dates h st may =
    let s = steps.Enter at inc pairs in
    let under : policy ≡ policy_of (rows_of (changes_of h)) inc pairs = is ∙ ap (λ (rows : List Row). policy_of rows inc pairs) st.rows.rows in
    let after : LedgerStands ledger (ledger_of (s upon h)) =
    subst (λ (p : Policy). LedgerStands ledger (Entered inc p pairs ∷ ledger_of h)) under (enters (ledger_of h) st.ledger) in
    let nexts = next_are laws b h at inc pairs next.dates st may low coming (last pairs) refl goes in
    record {
      legal = (st.legal, may);
      moment = refl;
      steps = ap (λ n. n + 1) st.steps;
      swept = st.swept;
      holders = st.holders;
      zones = st.zones;
      rows = st.rows;
      ledger = after;
      shelf = st.shelf;
      letters = st.letters;
      next = nexts;
      finished = refinished laws.in_time (s upon h) inc b.rows.rows next.dates b.finished.dates finished.dates (st.legal, may) st.rows.rows (nexts inc) low ending
          (dates (ledger_of (s upon h)) after)
          (λ i apart. st.finished i ∙ sym (laws.finished_stays calendar h s st.legal may i apart));
    }
