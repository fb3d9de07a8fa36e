-- The work of a legal history by dates: the next instant of each incarnation, and since when it is finished.
use Rattle.std.specs.Prelude.{◌≡◌, ℕ, ◌≤◌, Option, Some, List, [], ◌∷◌, length}
use Rattle.std.specs.List.{find}
use Rattle.std.specs.Option.{option_map}
use Rattle.sched_plain.specs.declared.work.Work.{Work}
use Rattle.sched_plain.specs.declared.work.Work.TheVariants as works
use Rattle.sched_plain.specs.History.{History}
use Rattle.plain_words.specs.Moments.{last_moment}
use Rattle.plain_words.specs.Lists.{first_some, first_answer}
use Rattle.sched_plain.specs.Changes.{changes_of}
use Rattle.sched_plain.specs.Rows.{rows_of}
use Rattle.expressions.specs.Calendar.{Calendar}
use Rattle.sched_plain.specs.Seen.{seen}
use Rattle.sched_plain.specs.Work.{Occurrence, first_open, of_shard, completable, act_of, live_of, first_entry, or_settled, work}
use Rattle.sched_plain.specs.Legal.{IsLegal}
use Rattle.next_dates.specs.Dates.{has_come, come_by}
use Rattle.next_dates.specs.NextInstants.{next_instant}
use Rattle.work_order.specs.Finished.{finished_from}

-- an incarnation is completable from the date on since when it is finished
abbrev pub Completes : Type 0
Completes =
    (c : Calendar) (h : History) → IsLegal c h → (inc t : ℕ) → completable (seen c h) inc t ≡ has_come t (finished_from c h inc)

-- that date is no later than the last moment
abbrev pub FinishedInTime : Type 0
FinishedInTime =
    (c : Calendar) (h : History) → IsLegal c h → (inc date : ℕ) → finished_from c h inc ≡ Some date → date ≤ last_moment

-- the next instant of an incarnation as an occurrence, where it has come
abbrev pub next_come : Calendar → History → ℕ → ℕ → Option Occurrence
next_come c h t inc = option_map {T = ℕ} (λ n. record { inc = inc; instant = n }) (come_by t (next_instant c h inc))

-- the first of these incarnations with an unentered occurrence is the first whose next instant has come
abbrev pub FirstOpenByDates : Type 0
FirstOpenByDates =
    (c : Calendar) (h : History) → IsLegal c h → (t : ℕ) (incs : List ℕ)
    → first_open (seen c h).times t incs ≡ first_answer (next_come c h t) incs

-- the incarnations of a shard that a history has, rising
abbrev pub shard_incs : History → ℕ → List ℕ
shard_incs h shard = of_shard shard (length (rows_of (changes_of h)))

-- the work at a list of incarnations by their dates: the first whose next instant has come is entered, the first that is
-- finished is completed
abbrev pub dated_table : Calendar → History → List ℕ → ℕ → List (Option Work)
dated_table c h incs t =
    option_map works.Enter (find (λ inc. has_come t (next_instant c h inc)) incs)
    ∷ first_entry (seen c h).ledger (act_of t) incs
    ∷ option_map works.Complete (find (λ inc. has_come t (finished_from c h inc)) incs)
    ∷ first_entry (seen c h).ledger (live_of t) incs
    ∷ []

-- the next work of a shard, by dates
abbrev pub WorksByDates : Type 0
WorksByDates =
    (c : Calendar) (h : History) → IsLegal c h → (shard t : ℕ)
    → work (seen c h) shard t ≡ or_settled (first_some (dated_table c h (shard_incs h shard) t))
