-- What a start, a lease, its end, a sweep and a zone that may follow find in the parts of a book: all that is asked of the
-- parts where one of them is taken, but for the count of steps and the room for a zone's bytes.
use Rattle.std.specs.Prelude.{◌≡◌, ℕ, ◌+◌, ◌≤◌, ◌<◌, List}
use Rattle.plain_words.specs.declared.moment.Moment.{Moment}
use Rattle.plain_words.specs.declared.limits.TheConstants.{LAST_MOMENT, LEASE_SECONDS, SHARDS}
use Rattle.sched_plain.specs.declared.step.Step.TheVariants as steps
use Rattle.sched_plain.specs.History.{History}
use Rattle.sched_plain.specs.Legal.{MayFollow}
use Rattle.sched_plain.specs.Validity.{IsValid}
use Rattle.book_parts.specs.Told.{Told}
use Rattle.book_parts.specs.Stands.{Stands, calendar}

-- a start: its moment is none before that of the last step, and none past the last there is
pub record BootFinds (b : Told) (at : Moment) : Type 0 where
  pub forward : b.moment ≤ at.0
  pub last : at.0 ≤ LAST_MOMENT

-- a zone: the same
pub record ZoneFinds (b : Told) (at : Moment) : Type 0 where
  pub forward : b.moment ≤ at.0
  pub last : at.0 ≤ LAST_MOMENT

-- a lease: the same, of one of the eight shards, and for a minute
pub record LeaseFinds (b : Told) (at : Moment) (of end : ℕ) : Type 0 where
  pub shard : of < SHARDS
  pub until : end ≡ at.0 + LEASE_SECONDS
  pub forward : b.moment ≤ at.0
  pub last : at.0 ≤ LAST_MOMENT

-- a release: the same, of one of the eight shards
pub record ReleaseFinds (b : Told) (at : Moment) (of : ℕ) : Type 0 where
  pub shard : of < SHARDS
  pub forward : b.moment ≤ at.0
  pub last : at.0 ≤ LAST_MOMENT

-- a sweep: so too
pub record SweptFinds (b : Told) (at : Moment) (of : ℕ) : Type 0 where
  pub shard : of < SHARDS
  pub forward : b.moment ≤ at.0
  pub last : at.0 ≤ LAST_MOMENT

-- where the parts stand for a history that a valid step may follow, it finds this
abbrev pub BootsFind : Type 0
BootsFind =
    (b : Told) (h : History) (at : Moment) → Stands b h → IsValid (steps.Boot at) → MayFollow calendar h (steps.Boot at)
    → BootFinds b at

abbrev pub ZonesFind : Type 0
ZonesFind =
    (b : Told) (h : History) (at : Moment) (name bytes : List ℕ) → Stands b h → IsValid (steps.Zone at name bytes)
    → MayFollow calendar h (steps.Zone at name bytes) → ZoneFinds b at

abbrev pub LeasesFind : Type 0
LeasesFind =
    (b : Told) (h : History) (at : Moment) (shard worker epoch until : ℕ) → Stands b h
    → IsValid (steps.Lease at shard worker epoch until) → MayFollow calendar h (steps.Lease at shard worker epoch until)
    → LeaseFinds b at shard until

abbrev pub ReleasesFind : Type 0
ReleasesFind =
    (b : Told) (h : History) (at : Moment) (shard worker epoch : ℕ) → Stands b h
    → IsValid (steps.Release at shard worker epoch) → MayFollow calendar h (steps.Release at shard worker epoch)
    → ReleaseFinds b at shard

abbrev pub SweptsFind : Type 0
SweptsFind =
    (b : Told) (h : History) (at : Moment) (shard : ℕ) → Stands b h → IsValid (steps.Swept at shard)
    → MayFollow calendar h (steps.Swept at shard) → SweptFinds b at shard
