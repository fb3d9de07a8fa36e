-- The parts stand for a history: each for what it reads of it.
use Rattle.std.specs.Prelude.{◌≡◌, ℕ, ◌<◌, Option, List, None}
use Rattle.plain_words.specs.declared.limits.TheConstants.{SHARDS}
use Rattle.expressions.specs.Calendar.{Calendar}
use Rattle.zone_occ.specs.ZoneCalendar.{zone_calendar}
use Rattle.sched_plain.specs.declared.step.Step.{Step}
use Rattle.sched_plain.specs.declared.why.Why.{Why}
use Rattle.sched_plain.specs.Seen.{seen}
use Rattle.sched_plain.specs.Rules.{kind_table}
use Rattle.plain_words.specs.Lists.{first_some}
use Rattle.sched_plain.specs.History.{History, ◌upon◌, count}
use Rattle.sched_plain.specs.Moments.{moment}
use Rattle.sched_plain.specs.Legal.{IsLegal, MayFollow}
use Rattle.sched_plain.specs.Changes.{changes_of}
use Rattle.sched_plain.specs.Zones.{bytes_of}
use Rattle.sched_plain.specs.Ledger.{ledger_of}
use Rattle.sched_plain.specs.Tokens.{kept_of}
use Rattle.sched_plain.specs.Queues.{posted}
use Rattle.sched_plain.specs.Report.{last_swept}
use Rattle.sched_rows.specs.State.{Stands as RowsStand}
use Rattle.ledger_rows.specs.State.{Stands as LedgerStands}
use Rattle.token_shelf.specs.Shelves.{Keeps}
use Rattle.dead_letters.specs.Posts.{Holds}
use Rattle.policy_rules.specs.Shards.{AreOf}
use Rattle.zone_shelf.specs.Places.{bytes_in}
use Rattle.date_table.specs.Dates.{date_at}
use Rattle.next_dates.specs.NextInstants.{next_instant}
use Rattle.work_order.specs.Finished.{finished_from}
use Rattle.book_parts.specs.Told.{Told}
use Rattle.std.specs.Prelude.{get_or}

-- the calendar in use: that of real time zones
abbrev pub calendar : Calendar
calendar = zone_calendar

-- the parts stand for a legal history
pub record Stands (b : Told) (h : History) : Type 0 where
  pub legal : IsLegal calendar h
  pub moment : b.moment ≡ moment h
  pub steps : b.steps ≡ count h
  pub swept : (shard : ℕ) → shard < SHARDS → get_or b.swept shard None ≡ last_swept h shard
  pub holders : AreOf h b.holders
  pub zones : (name : List ℕ) → bytes_in b.zones name ≡ bytes_of h name
  pub rows : RowsStand b.rows (changes_of h)
  pub ledger : LedgerStands b.ledger (ledger_of h)
  pub shelf : Keeps b.shelf (kept_of h)
  pub letters : Holds b.letters (posted h)
  pub next : (inc : ℕ) → date_at b.next.dates inc ≡ next_instant calendar h inc
  pub finished : (inc : ℕ) → date_at b.finished.dates inc ≡ finished_from calendar h inc

-- what a step makes of the parts: where they stood for a history that it may follow, they stand for that history with the
-- step upon it
abbrev pub Takes : Told → Told → Step → Type 0
Takes old new s = (h : History) → Stands old h → MayFollow calendar h s → Stands new (s upon h)

-- the first rule of its kind that a step breaks, whatever legal history the parts stand for
abbrev pub Judged : Told → Step → Option Why → Type 0
Judged b s broken = (h : History) → Stands b h → broken ≡ first_some (kind_table (seen calendar h) s)
