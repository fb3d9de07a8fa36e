-- What contracts see of a ledger, and for which calls it stands.
use Rattle.std.specs.Prelude.{◌≡◌, ℕ, ◌≤◌, ◌<◌, ◌==◌, ◌&&◌, Bool, true, false, if◌then◌else◌, Option, IsSome, is_none, not, map, List, [], ◌++◌, length, slice_index_or}
use Rattle.std.specs.List.{All}
use Rattle.sched_plain.specs.declared.entry.Attempt.{Attempt}
use Rattle.sched_plain.specs.declared.entry.Fate.{Fate}
use Rattle.sched_plain.specs.declared.entry.Fate.TheVariants as fates
use Rattle.sched_plain.specs.declared.entry.Entry.{Entry}
use Rattle.sched_plain.specs.declared.entry.Filed.{Filed}
use Rattle.sched_plain.specs.declared.step.Pair.{Pair}
use Rattle.sched_plain.specs.Ledger.{LedgerCall}
use Rattle.sched_plain.specs.Entries.{changed_if, entries, filed, with_loss}
use Rattle.sched_plain.specs.declared.schedule.Policy.{Policy}
use Rattle.sched_plain.specs.Attempts.{attempts, is_live_attempt, is_live_last, lose_attempt}
use Rattle.ledger_rows.specs.declared.row.Flight.{Flight}
use Rattle.entry_lines.specs.Rows.{Row, LaneRows, new_row}
use Rattle.ledger_rows.specs.Rows.{filed_at, attempts_at, pairs_of, cancelled_row, standings_looked}
use Rattle.sched_plain.specs.declared.standing.Standing.{Standing}
use Rattle.ledger_rows.specs.Air.{airborne, is_flown}
use Rattle.plain_words.specs.Lists.{some_pass}

-- the entries by the number of their incarnation, the attempts in the air, and room for more of these
pub record State : Type 0 where
  pub lanes : List LaneRows
  pub flights : List Flight
  pub room : ℕ

abbrev pub no_lane : LaneRows
no_lane = record { rows = []; room = 0; begins = 0 }

-- the entries of an incarnation, none where it has no lane
abbrev pub lane_of : List LaneRows → ℕ → LaneRows
lane_of lanes inc = slice_index_or lanes inc no_lane

-- what is told of an occurrence, and of an incarnation
abbrev pub filed_in : List LaneRows → ℕ → ℕ → Option Filed
filed_in lanes inc instant = filed_at (lane_of lanes inc).rows instant

abbrev pub attempts_in : List LaneRows → ℕ → ℕ → List Attempt
attempts_in lanes inc instant = attempts_at (lane_of lanes inc).rows instant

abbrev pub pairs_in : List LaneRows → ℕ → List Pair
pairs_in lanes inc = pairs_of (lane_of lanes inc).rows

-- a ledger tells these entries, pairs and attempts
pub record Tells (lanes : List LaneRows) (f : ℕ → ℕ → Option Filed) (p : ℕ → List Pair) (a : ℕ → ℕ → List Attempt) : Type 0 where
  pub filed : (inc instant : ℕ) → filed_in lanes inc instant ≡ f inc instant
  pub pairs : (inc : ℕ) → pairs_in lanes inc ≡ p inc
  pub attempts : (inc instant : ℕ) → attempts_in lanes inc instant ≡ a inc instant

-- it stands for these calls, the newest first: it tells what they make
pub record Stands (s : State) (calls : List LedgerCall) : Type 0 where
  pub told : Tells s.lanes (filed calls) (entries calls) (attempts calls)
  pub air : s.flights ≡ airborne calls

-- it tells what another one told
pub record IsSame (old new : State) : Type 0 where
  pub told : Tells new.lanes (filed_in old.lanes) (pairs_in old.lanes) (attempts_in old.lanes)
  pub air : new.flights ≡ old.flights

-- room for so many more entries of an incarnation
abbrev pub HasEnterRoom : State → ℕ → ℕ → Type 0
HasEnterRoom s inc count = (inc < length s.lanes) × (count ≤ (lane_of s.lanes inc).room)

-- room for one more attempt of an occurrence, if it has an entry
abbrev pub HasBeginRoom : State → ℕ → ℕ → Type 0
HasBeginRoom s inc instant = (IsSome (filed_in s.lanes inc instant) → 1 ≤ (lane_of s.lanes inc).begins) × (1 ≤ s.room)

-- the entry of one occurrence is changed, and nothing else
abbrev pub ChangesIn : List LaneRows → List LaneRows → ℕ → ℕ → (Entry → Entry) → (List Attempt → List Attempt) → Type 0
ChangesIn old new inc instant change grow =
    Tells new
    (λ i k. changed_if (i == inc && k == instant) change (filed_in old i k))
    (pairs_in old)
    (λ i k. if i == inc && k == instant then grow (attempts_in old i k) else attempts_in old i k)

-- the attempts of the occurrences that pass a test are lost, where they are live, and nothing else is changed
abbrev pub Loses : List LaneRows → List LaneRows → (ℕ → ℕ → Bool) → ℕ → Type 0
Loses old new test at =
    Tells new
    (λ i k. changed_if (test i k) (with_loss at) (filed_in old i k))
    (pairs_in old)
    (λ i k. if test i k then map lose_attempt (attempts_in old i k) else attempts_in old i k)

-- an entry that may be given up: not decided, and with no attempt in the air
abbrev pub is_closable : Filed → Bool
is_closable filed = is_none filed.entry.outcome && not (is_live_last filed.entry.last)

-- the entries of each incarnation are a function of what they were
abbrev pub RowsAre : List LaneRows → List LaneRows → (ℕ → List Row → List Row) → Type 0
RowsAre old new f = (i : ℕ) → (lane_of new i).rows ≡ f i (lane_of old i).rows

-- what entering and cancelling make of the entries of an incarnation
abbrev pub rows_entered : ℕ → Policy → List Pair → ℕ → List Row → List Row
rows_entered inc policy pairs i rows = if i == inc then rows ++ map (new_row policy) pairs else rows

abbrev pub rows_cancelled : ℕ → ℕ → List Row → List Row
rows_cancelled inc i rows = if i == inc then map cancelled_row rows else rows

abbrev pub same_rows : ℕ → List Row → List Row
same_rows i rows = rows

-- the standings of an incarnation, as its lane has them
abbrev pub lane_standings : List LaneRows → ℕ → ℕ → List Standing
lane_standings lanes now inc = standings_looked now (lane_of lanes inc).rows

-- what is filed has an attempt that is live, and each such attempt is in the air
abbrev pub is_live_filed : Filed → Bool
is_live_filed filed = is_live_last filed.entry.last

abbrev pub AreFlown : List LaneRows → List Flight → Type 0
AreFlown lanes flights = (inc instant : ℕ) → some_pass is_live_filed (filed_in lanes inc instant) ≡ true → is_flown flights inc instant ≡ true

-- an attempt that is live is the last one of its occurrence, as the entry has it
abbrev pub is_live_fate : Fate → Bool
is_live_fate fates.Live = true
is_live_fate fate = false

abbrev pub IsLastLive : Option Filed → List Attempt → Type 0
IsLastLive filed attempts =
    All {X = Attempt} (λ attempt. is_live_fate attempt.fate ≡ true → is_live_attempt filed attempt.number ≡ true) attempts

abbrev pub AreLast : List LaneRows → Type 0
AreLast lanes = (inc instant : ℕ) → IsLastLive (filed_in lanes inc instant) (attempts_in lanes inc instant)
