-- What an End makes of the parts: they stay sound, and stand for the history with it.
use Rattle.std.proofs.Common.{◌≡◌, ℕ, ◌+◌, ◌≤◌, ◌==◌, ◌||◌, not, Bool, true, false, Option, Some, List, [], ◌∷◌, ◌++◌, refl, ap, sym, subst, ◌∙◌, arith, length}
use Rattle.std.specs.Prelude.{if◌then◌else◌}
use Rattle.std.specs.List.{filter, Contains, list_any}
use Rattle.std.proofs.lemmas.Bool.{and_parts, eqb-true}
use Rattle.std.proofs.lemmas.List.Elements.{All-contains, All-contains_itself, All-filter}
use Rattle.plain_words.specs.declared.moment.Moment.{Moment}
use Rattle.plain_words.specs.declared.verdict.Verdict.{Verdict}
use Rattle.plain_words.specs.declared.verdict.Verdict.TheVariants as verdicts
use Rattle.plain_words.specs.Lists.{same_text, some_pass, change_nth}
use Rattle.plain_words.specs.Moments.{last_moment}
use Rattle.plain_words.proofs.Booleans.{by_bool}
use Rattle.sched_plain.specs.declared.entry.Filed.{Filed}
use Rattle.sched_plain.specs.declared.outcome.Outcome.TheVariants as outcomes
use Rattle.sched_plain.specs.declared.row.Row.{Row}
use Rattle.sched_plain.specs.declared.step.Step.TheVariants as steps
use Rattle.sched_plain.specs.Entries.{filed, is_open}
use Rattle.sched_plain.specs.History.{◌upon◌}
use Rattle.sched_plain.specs.Ledger.{LedgerCall, Finished, ledger_of}
use Rattle.sched_plain.specs.Queues.{Posted, final_letter, letter_in, posted, queue_of}
use Rattle.sched_plain.specs.Changes.{changes_of}
use Rattle.sched_plain.specs.Rows.{content_at, rows_of}
use Rattle.sched_rows.proofs.NameLemmas.{same_text_self}
use Rattle.ledger_rows.specs.declared.row.Flight.{Flight}
use Rattle.ledger_rows.specs.Air.{but_for, is_of}
use Rattle.ledger_rows.specs.State.{State as LedgerState, Stands as LedgerStands, filed_in}
use Rattle.dead_letters.specs.Piles.{Piles, room_in}
use Rattle.dead_letters.specs.Posts.{Holds}
use Rattle.date_table.specs.Tables.{Dated}
use Rattle.next_dates.specs.StepLaws.{NextStays}
use Rattle.work_order.specs.DateLaws.{FinishedInTime}
use Rattle.work_order.specs.FinishedLaws.{FinishedStays}
use Rattle.book_parts.specs.Told.{Told}
use Rattle.book_parts.specs.Sound.{IsSound, AreAloft, may_post, owed}
use Rattle.book_parts.specs.Stands.{Takes, calendar}
use Rattle.book_entries.specs.Ending.{fails, is_aloft}
use Rattle.book_entries.specs.Finishing.{finished_of, kept_date}
use Rattle.book_entries.specs.LetterRoom.{queue_at}
use Rattle.book_entries.proofs.CloseLemmas.{LeavesRoom, named_by, room_left}
use Rattle.book_entries.proofs.DateLemmas.{refinished}

grown : (t : Bool) (x : Flight) (n : ℕ) (ys : List Flight) → n ≤ length ys → n ≤ length (if t then x ∷ ys else ys)
grown true x n ys le = omega (arith, le)
grown false x n ys le = le

both : (t : Bool) (x : Flight) (xs ys : List Flight) → length xs ≤ length ys → length (if t then x ∷ xs else xs) ≤ length (if t then x ∷ ys else ys)
both true x xs ys le = omega (arith, le)
both false x xs ys le = le

one_more : (t : Bool) (x : Flight) (n : ℕ) (ys : List Flight) → t ≡ true → n ≤ length ys → n + 1 ≤ length (if t then x ∷ ys else ys)
one_more true x n ys e le = omega (arith, le)
one_more false x n ys e le = cc e

both_less : (t : Bool) (x : Flight) (xs ys : List Flight) → length xs + 1 ≤ length ys → length (if t then x ∷ xs else xs) + 1 ≤ length (if t then x ∷ ys else ys)
both_less true x xs ys le = omega (arith, le)
both_less false x xs ys le = le

-- what a filter keeps passes a test no more often
fewer : (test off : Flight → Bool) (xs : List Flight) → length (filter test (filter (λ f. not (off f)) xs)) ≤ length (filter test xs)
fewer test off [] = omega arith
fewer test off (x ∷ xs) =
    let kept = filter (λ f. not (off f)) xs in
    by_bool (λ o. length (filter test (if not o then x ∷ kept else kept)) ≤ length (filter test (x ∷ xs))) (off x)
    (λ out. grown (test x) x (length (filter test kept)) (filter test xs) (fewer test off xs))
    (λ left. both (test x) x (filter test kept) (filter test xs) (fewer test off xs))

-- and less often, where one that passes is taken out
less : (test off : Flight → Bool) (xs : List Flight) → ((f : Flight) → off f ≡ true → test f ≡ true) → list_any off xs ≡ true
    → length (filter test (filter (λ f. not (off f)) xs)) + 1 ≤ length (filter test xs)
less test off [] passes any = cc any
less test off (x ∷ xs) passes any =
    let kept = filter (λ f. not (off f)) xs in
    by_bool (λ o. (o || list_any off xs) ≡ true → length (filter test (if not o then x ∷ kept else kept)) + 1 ≤ length (filter test (x ∷ xs))) (off x)
    (λ out there. one_more (test x) x (length (filter test kept)) (filter test xs) (passes x out) (fewer test off xs))
    (λ left there. both_less (test x) x (filter test kept) (filter test xs) (less test off xs passes there)) any

-- an attempt of an occurrence may post to the queue that the occurrence's content names
posts : (rows : List Row) (inc instant : ℕ) (queue : List ℕ) → queue_of (content_at rows inc instant) ≡ Some queue
    → (f : Flight) → is_of inc instant f ≡ true → may_post rows queue f ≡ true
posts rows inc instant queue names f of =
    let parts = and_parts (inc == f.inc) (instant == f.instant) of in
    let one : inc ≡ f.inc = eqb-true inc f.inc parts.0 in
    let two : instant ≡ f.instant = eqb-true instant f.instant parts.1 in
    let same : queue_of (content_at rows f.inc f.instant) ≡ Some queue = sym (λ k. queue_of (content_at rows (one k) (two k))) ∙ names in
    ap (some_pass (same_text queue)) same ∙ same_text_self queue

-- where it ends, there is room for its letter
pub end_room : (b : Told) (inc instant : ℕ) → IsSound b → is_aloft b.ledger.flights inc instant ≡ true
    → (queue : List ℕ) → queue_at b inc instant ≡ Some queue → owed b.rows.rows (but_for inc instant b.ledger.flights) queue + 1 ≤ room_in b.letters queue
end_room b inc instant sound aloft queue names =
    let fits = sound.letters queue in
    let one = less (may_post b.rows.rows queue) (is_of inc instant) b.ledger.flights (posts b.rows.rows inc instant queue names) aloft in
    omega (arith, fits, one)

pub end_fits : (b : Told) (inc instant : ℕ) → IsSound b → is_aloft b.ledger.flights inc instant ≡ true
    → (queue : List ℕ) → queue_at b inc instant ≡ Some queue → 1 ≤ room_in b.letters queue
end_fits b inc instant sound aloft queue names = let r = end_room b inc instant sound aloft queue names in omega (arith, r)

still_aloft : (flights : List Flight) (inc instant : ℕ) (f : Flight) → Contains (but_for inc instant flights) f → Contains flights f
still_aloft flights inc instant f left =
    All-contains (Contains flights) (but_for inc instant flights) f
    (All-filter {X = Flight} (λ flight. not (is_of inc instant flight)) (Contains flights) flights (All-contains_itself flights)) left

pub sound_ended : (b : Told) (t steps inc instant : ℕ) (ledger : LedgerState) (letters : Piles) (finished : Dated)
    → IsSound b → b.moment ≤ t → t ≤ last_moment → ledger.flights ≡ but_for inc instant b.ledger.flights
    → is_aloft b.ledger.flights inc instant ≡ true → LeavesRoom b inc instant letters → length finished.dates ≡ length b.finished.dates
    → IsSound (record {
      moment = t;
      steps = steps;
      swept = b.swept;
      holders = b.holders;
      zones = b.zones;
      rows = b.rows;
      ledger = ledger;
      shelf = b.shelf;
      letters = letters;
      next = b.next;
      finished = finished;
    })
sound_ended b t steps inc instant ledger letters finished sound forward early air aloft leaves long =
    let rows = b.rows.rows in
    let flights = b.ledger.flights in
    record {
      contents = sound.contents;
      few = sound.few;
      scheduled = sound.scheduled;
      completed = long ∙ sound.completed;
      shards = sound.shards;
      latest = let l = sound.latest in omega (arith, l, forward);
      early = early;
      aloft = subst (λ (all : List Flight). AreAloft (length rows) t all) (sym air)
          (λ f has. let a = sound.aloft f (still_aloft flights inc instant f has) in (a.0, (let i = a.1 in omega (arith, i, forward))));
      letters = λ q. subst (λ (all : List Flight). owed rows all q ≤ room_in letters q) (sym air)
          (room_left (some_pass (λ name. same_text name q) (queue_at b inc instant)) (owed rows (but_for inc instant flights) q) (room_in b.letters q) (room_in letters q)
          (leaves q) (let l = sound.letters q in let m = fewer (may_post rows q) (is_of inc instant) flights in omega (arith, l, m))
          (λ went. end_room b inc instant sound aloft q (named_by q (queue_at b inc instant) went)));
    }

either_way : (b : Bool) (all : List Posted) → all ≡ (if b then all else all)
either_way true all = refl
either_way false all = refl

-- the letter of an End
letter_is : (verdict : Verdict) (f : Option Filed) (queue : Option (List ℕ)) (inc instant : ℕ)
    → (if fails verdict f then letter_in queue inc instant outcomes.Final else []) ≡ (if is_open f then final_letter verdict queue inc instant else [])
letter_is verdicts.Done f queue inc instant = either_way (is_open f) []
letter_is verdicts.Retry f queue inc instant = either_way (is_open f) []
letter_is verdicts.Final f queue inc instant = refl

pub ended_taken : NextStays → FinishedStays → FinishedInTime → (b : Told) (at : Moment) (inc instant number : ℕ) (verdict : Verdict) (status : ℕ)
    (ledger : LedgerState) (letters : Piles) (finished : Dated) → 1 ≤ inc → inc ≤ length b.finished.dates
    → ((calls : List LedgerCall) → LedgerStands b.ledger calls → LedgerStands ledger (Finished inc instant number verdict status at.0 ∷ calls))
    → ((all : List Posted) → Holds b.letters all
    → Holds letters (all ++ (if fails verdict (filed_in b.ledger.lanes inc instant) then letter_in (queue_at b inc instant) inc instant outcomes.Final else [])))
    → ((calls : List LedgerCall) → LedgerStands ledger calls
    → finished.dates ≡ change_nth (λ (x : Option ℕ). kept_date (finished_of b.rows.rows calls b.next.dates inc)) b.finished.dates inc)
    → Takes b (record {
      moment = at.0;
      steps = b.steps + 1;
      swept = b.swept;
      holders = b.holders;
      zones = b.zones;
      rows = b.rows;
      ledger = ledger;
      shelf = b.shelf;
      letters = letters;
      next = b.next;
      finished = finished;
    }) (steps.End at inc instant number verdict status)
ended_taken next_stays finished_stays in_time b at inc instant number verdict status ledger letters finished low within ends adds dates h st may =
    let s = steps.End at inc instant number verdict status in
    let after = ends (ledger_of h) st.ledger in
    let coming = λ (i : ℕ). st.next i ∙ sym (next_stays calendar h s st.legal may i refl) in
    let filed_is = st.ledger.told.filed inc instant in
    let letter : (if fails verdict (filed_in b.ledger.lanes inc instant) then letter_in (queue_at b inc instant) inc instant outcomes.Final else [])
    ≡ (if is_open (filed (ledger_of h) inc instant) then final_letter verdict (queue_of (content_at (rows_of (changes_of h)) inc instant)) inc instant else []) =
    letter_is verdict (filed_in b.ledger.lanes inc instant) (queue_at b inc instant) inc instant
    ∙ (λ k. if is_open (filed_is k) then final_letter verdict (queue_of (content_at (st.rows.rows k) inc instant)) inc instant else []) in
    record {
      legal = (st.legal, may);
      moment = refl;
      steps = ap (λ n. n + 1) st.steps;
      swept = st.swept;
      holders = st.holders;
      zones = st.zones;
      rows = st.rows;
      ledger = after;
      shelf = st.shelf;
      letters = subst (λ (more : List Posted). Holds letters (posted h ++ more)) letter (adds (posted h) st.letters);
      next = coming;
      finished = refinished in_time (s upon h) inc b.rows.rows b.next.dates b.finished.dates finished.dates (st.legal, may) st.rows.rows (coming inc) low within
          (dates (Finished inc instant number verdict status at.0 ∷ ledger_of h) after)
          (λ i apart. st.finished i ∙ sym (finished_stays calendar h s st.legal may i apart));
    }
