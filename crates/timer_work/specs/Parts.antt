-- What a part of a sweep does, over each history for which the keeper stood before it. `Old` is what the keeper stood for, `New`
-- what it stands for behind the part; `old` is what the picker and the link told before, `new` what they tell now.
use Rattle.std.specs.Prelude.{◌≡◌, ℕ, List, Result, Ok, Err}
use Rattle.sched_plain.specs.declared.step.Step.{Step}
use Rattle.sched_plain.specs.declared.work.Work.{Work}
use Rattle.sched_plain.specs.declared.work.Work.TheVariants as works
use Rattle.plain_words.specs.Ids.{shard_of}
use Rattle.sched_plain.specs.History.{History, ◌upon◌}
use Rattle.sched_plain.specs.Leases.{holder}
use Rattle.sched_plain.specs.Seen.{seen}
use Rattle.sched_plain.specs.Work.{work}
use Rattle.sched_calls.specs.Serves.{begin_of, next_number}
use Rattle.sweep_laws.specs.ValidLaws.{IsGood}
use Rattle.book_parts.specs.Stands.{calendar}
use Rattle.step_keeper.specs.Carrying.{Start, LivesWhere}
use Rattle.durable_book.specs.declared.grow_fault.GrowFault.{GrowFault}
use Rattle.durable_book.specs.declared.ticket.Ticket.{Ticket}
use Rattle.durable_book.specs.Steps.{ticket_of}
use Rattle.timer_work.specs.Going.{Outside, Went, Stopped, Lessened}
use Rattle.timer_work.specs.Places.{Place, AtWork, Unreleased, Fit}

-- the sweep goes on from a place to a place
abbrev pub Goes : {K : Type 0} (Old New : Start K → History → Type 0) (t : ℕ) (p : Place) (old : Outside) (q : Place) (new : Outside) → Type 0
Goes {K} Old New t p old q new = (since : Start K) (h : History) → Old since h → Fit t p h → Went (New since) t p h old q new

-- the sweep stops at a place or behind it
abbrev pub Stops : {K : Type 0} (Old New : Start K → History → Type 0) (full : Step → ℕ → ℕ → Type 0) (fault : GrowFault) (t : ℕ) (p : Place) (old new : Outside) → Type 0
Stops {K} Old New full fault t p old new =
    (since : Start K) (h : History) → Old since h → Fit t p h → Stopped (New since) full fault t p h old new

-- the sweep goes on from a place to a place, or stops on the way
abbrev pub Moves : {K T : Type 0} (Old New Held : Start K → History → Type 0) (full : Step → ℕ → ℕ → Type 0) (t : ℕ) (p : Place) (old : Outside) (q : Place) (new : Outside) → Result T GrowFault → Type 0
Moves Old New Held full t p old q new (Ok done) = Goes Old New t p old q new
Moves Old New Held full t p old q new (Err fault) = Stops Old Held full fault t p old new

-- this is the next work of a shard, over a history that is legal
pub record Asks (t shard : ℕ) (next : Work) (h : History) : Type 0 where
  pub asked : work (seen calendar h) shard t ≡ next
  pub good : IsGood calendar h t

-- a sweep may stand at the work of a shard, and this is the next one
abbrev pub IsOffered : ℕ → ℕ → List ℕ → Work → History → Type 0
IsOffered t shard shards next h = Fit t (AtWork shard shards) h × Asks t shard next h

-- the keeper stands for a history over which a sweep stands at the work of a shard, and this is the next one
abbrev pub Wants : {K : Type 0} (Old : Start K → History → Type 0) (t shard : ℕ) (next : Work) → Type 0
Wants Old t shard next = (shards : List ℕ) × LivesWhere (IsOffered t shard shards next) Old

-- the next work of a shard is done: the sweep goes on, and the shard has less work
abbrev pub Does : {K : Type 0} (Old New : Start K → History → Type 0) (t : ℕ) (next : Work) (old new : Outside) → Type 0
Does {K} Old New t next old new =
    (since : Start K) (h : History) (shard : ℕ) (shards : List ℕ) → Old since h → IsOffered t shard shards next h → Lessened (New since) t shard shards h old new

-- the sweep stops at the next work of a shard, or on the way
abbrev pub StopsAtWork : {K : Type 0} (Old New : Start K → History → Type 0) (full : Step → ℕ → ℕ → Type 0) (fault : GrowFault) (t : ℕ) (next : Work) (old new : Outside) → Type 0
StopsAtWork {K} Old New full fault t next old new =
    (since : Start K) (h : History) (shard : ℕ) (shards : List ℕ) → Old since h → IsOffered t shard shards next h
    → Stopped (New since) full fault t (AtWork shard shards) h old new

-- the next work of a shard is done, or the sweep stops at it or on the way
abbrev pub Handles : {K T : Type 0} (Old New Held : Start K → History → Type 0) (full : Step → ℕ → ℕ → Type 0) (t : ℕ) (next : Work) (old new : Outside) → Result T GrowFault → Type 0
Handles Old New Held full t next old new (Ok done) = Does Old New t next old new
Handles Old New Held full t next old new (Err fault) = StopsAtWork Old Held full fault t next old new

-- a sweep went on at the work of a shard until that is settled
pub record Settled (Stands : History → Type 0) (t shard : ℕ) (shards : List ℕ) (h : History) (old new : Outside) : Type 0 where
  pub went : Went Stands t (AtWork shard shards) h old (AtWork shard shards) new
  pub asks : Asks t shard works.Settled went.after

-- the sweep goes on at the work of a shard until that is settled, or stops there
abbrev pub Settles : {K T : Type 0} (Old New Held : Start K → History → Type 0) (full : Step → ℕ → ℕ → Type 0) (t shard : ℕ) (shards : List ℕ) (old new : Outside) → Result T GrowFault → Type 0
Settles {K} Old New Held full t shard shards old new (Ok done) =
    (since : Start K) (h : History) → Old since h → Fit t (AtWork shard shards) h → Settled (New since) t shard shards h old new
Settles Old New Held full t shard shards old new (Err fault) = Stops Old Held full fault t (AtWork shard shards) old new

-- where the work of a shard is settled, the sweep goes on to give it back, or stops there
abbrev pub Marks : {K T : Type 0} (Old New Held : Start K → History → Type 0) (full : Step → ℕ → ℕ → Type 0) (t shard : ℕ) (shards : List ℕ) (o : Outside) → Result T GrowFault → Type 0
Marks {K} Old New Held full t shard shards o (Ok done) =
    (since : Start K) (h : History) → Old since h → IsOffered t shard shards works.Settled h
    → Went (New since) t (AtWork shard shards) h o (Unreleased shard shards) o
Marks Old New Held full t shard shards o (Err fault) = Stops Old Held full fault t (AtWork shard shards) o o

-- the keeper stands for a history over which a sweep stands at a place before some shards
abbrev pub LivesAt : {K : Type 0} (Old : Start K → History → Type 0) (t : ℕ) (place : List ℕ → Place) → Type 0
LivesAt Old t place = (shards : List ℕ) × LivesWhere (Fit t (place shards)) Old

-- the next attempt of an occurrence is begun, and this is its ticket
abbrev pub Begins : {K : Type 0} (Old New : Start K → History → Type 0) (t inc instant : ℕ) (ticket : Ticket) → Type 0
Begins {K} Old New t inc instant ticket =
    (since : Start K) (h : History) → Old since h
    → New since (begin_of h t inc instant upon h) × (ticket ≡ ticket_of h inc instant (holder h (shard_of inc)).epoch)

-- the attempt of a ticket that a shard asked for was begun upon a history that is legal
pub record IsBegun (t : ℕ) (ticket : Ticket) (h : History) : Type 0 where
  pub shard : ℕ
  pub before : History
  pub asks : Asks t shard (works.Begin ticket.inc ticket.instant) before
  pub number : ticket.number ≡ next_number before ticket.inc ticket.instant
  pub begun : h ≡ begin_of before t ticket.inc ticket.instant upon before
