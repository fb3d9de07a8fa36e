-- The next work of a shard, as the parts of a book find it.
use Rattle.std.proofs.Common.{◌≡◌, ℕ, ◌∷◌, [], Option, refl, ap, sym, ◌∙◌, length}
use Rattle.std.specs.List.{find}
use Rattle.std.specs.Option.{option_map}
use Rattle.plain_words.specs.Lists.{first_some}
use Rattle.sched_plain.specs.declared.work.Work.{Work}
use Rattle.sched_plain.specs.declared.work.Work.TheVariants as works
use Rattle.sched_plain.specs.History.{History}
use Rattle.sched_plain.specs.Seen.{seen}
use Rattle.sched_plain.specs.Ledger.{ledger_of}
use Rattle.sched_plain.specs.Work.{completable, work, act_of, live_of, of_shard, or_settled}
use Rattle.ledger_rows.specs.declared.question.Question.TheVariants as questions
use Rattle.date_table.specs.Dates.{date_at, has_come}
use Rattle.next_dates.specs.NextInstants.{next_instant}
use Rattle.work_order.specs.Finished.{finished_from}
use Rattle.work_order.specs.DateLaws.{Completes, WorksByDates, shard_incs, dated_table}
use Rattle.work_order.specs.EntryOrder.{DueIsFirst, LiveIsFirst}
use Rattle.sched_plain.specs.Changes.{changes_of}
use Rattle.sched_plain.specs.Rows.{rows_of}
use Rattle.book_parts.specs.Told.{Told}
use Rattle.book_parts.specs.Sound.{IsSound}
use Rattle.book_parts.specs.Stands.{Stands, calendar}
use Rattle.book_parts.specs.Answers.{IsFirstWork, first_of}

-- the dates of the parts find what those of the history find
found_next : (b : Told) (h : History) (shard t : ℕ) → IsSound b → Stands b h
    → find (λ inc. has_come t (date_at b.next.dates inc)) (of_shard shard (length b.next.dates))
    ≡ find (λ inc. has_come t (next_instant calendar h inc)) (shard_incs h shard)
found_next b h shard t sound st = let scheduled : length b.next.dates ≡ length (rows_of (changes_of h)) = sound.scheduled ∙ ap length st.rows.rows in λ i. find (λ inc. has_come t (st.next inc i)) (of_shard shard (scheduled i))

found_finished : (b : Told) (h : History) (shard t : ℕ) → IsSound b → Stands b h
    → find (λ inc. has_come t (date_at b.finished.dates inc)) (of_shard shard (length b.finished.dates))
    ≡ find (λ inc. has_come t (finished_from calendar h inc)) (shard_incs h shard)
found_finished b h shard t sound st = let completed : length b.finished.dates ≡ length (rows_of (changes_of h)) = sound.completed ∙ ap length st.rows.rows in λ i. find (λ inc. has_come t (st.finished inc i)) (of_shard shard (completed i))

-- the first of the four is the next work
pub work_found : WorksByDates → DueIsFirst → LiveIsFirst → (b : Told) (h : History) (shard t : ℕ) (entering completing : Option ℕ) (acting waiting : Option Work)
    → IsSound b → Stands b h
    → entering ≡ find (λ inc. has_come t (date_at b.next.dates inc)) (of_shard shard (length b.next.dates))
    → completing ≡ find (λ inc. has_come t (date_at b.finished.dates inc)) (of_shard shard (length b.finished.dates))
    → IsFirstWork (ledger_of h) (questions.ToAct t) shard (act_of t) acting
    → IsFirstWork (ledger_of h) questions.ToWait shard (live_of t) waiting
    → first_of entering acting completing waiting ≡ work (seen calendar h) shard t
work_found dated due live b h shard t entering completing acting waiting sound st enters completes acts waits =
    let e1 = enters ∙ found_next b h shard t sound st in
    let e2 = acts.gives ∙ sym (due calendar h st.legal shard t acts.found acts.first) in
    let e3 = completes ∙ found_finished b h shard t sound st in
    let e4 = waits.gives ∙ sym (live calendar h st.legal shard t waits.found waits.first) in
    (λ i. first_of (e1 i) (e2 i) (e3 i) (e4 i)) ∙ sym (dated calendar h st.legal shard t)

-- an incarnation is completable where the date since when it is finished has come
pub finished_by : Completes → (b : Told) (h : History) (inc t : ℕ) (date : Option ℕ) → Stands b h → date_at b.finished.dates inc ≡ date
    → has_come t date ≡ completable (seen calendar h) inc t
finished_by completes b h inc t date st is =
    ap (has_come t) (sym is ∙ st.finished inc) ∙ sym (completes calendar h st.legal inc t)
