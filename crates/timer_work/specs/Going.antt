-- A part of a sweep: from a place to a place, with what the picker and the link told meanwhile; and where it is cut.
use Rattle.std.specs.Prelude.{◌≡◌, ℕ, ◌+◌, ◌<◌, ◌≤◌, Option, List, ◌++◌, length}
use Rattle.plain_words.specs.declared.limits.TheConstants.{MOST_PAIRS}
use Rattle.policy_rules.specs.Given.{Gives}
use Rattle.sched_plain.specs.declared.step.Step.{Step}
use Rattle.sched_plain.specs.History.{History, Extends}
use Rattle.sched_calls.specs.Serves.{End, words_in, ends_in}
use Rattle.sweep_laws.specs.LoadLaws.{load}
use Rattle.book_parts.specs.Stands.{calendar}
use Rattle.durable_book.specs.declared.grow_fault.GrowFault.{GrowFault}
use Rattle.target_link.specs.declared.link.Sent.{Sent}
use Rattle.timer_work.specs.Swept.{Sends, IsCauseOfStop}
use Rattle.timer_work.specs.Places.{Place, AtWork, Rest, Fit, IsUnfinished}

-- what the picker and the link tell
pub record Outside : Type 0 where
  pub words : Option (List ℕ)
  pub sent : Option (List Sent)

abbrev pub outside : Option (List ℕ) → Option (List Sent) → Outside
outside words sent = record { words = words; sent = sent }

-- a part of a sweep, from a place to a place: with these words and ends before, whatever is the rest of the sweep behind it is
-- the rest of the sweep in front of it
pub record Leads (t : ℕ) (p : Place) (h : History) (q : Place) (after : History) : Type 0 where
  pub words : List ℕ
  pub ends : List End
  pub onward : (more_words : List ℕ) (more_ends : List End) (last : History) → Rest t q after more_words more_ends last
      → Rest t p h (words ++ more_words) (ends ++ more_ends) last
  pub from : Extends h after
  pub drawn : words_in after ≡ words_in h + length words
  pub taken : ends_in after ≡ ends_in h + length ends

-- a sweep went on from a place to a place: what stood for the history before stands for the one behind
pub record Went (Stands : History → Type 0) (t : ℕ) (p : Place) (h : History) (old : Outside) (q : Place) (new : Outside) : Type 0 where
  pub after : History
  pub stands : Stands after
  pub leads : Leads t p h q after
  pub gives : Gives old.words leads.words new.words
  pub sends : Sends h after old.sent new.sent
  pub fit : Fit t q after

-- a sweep went on from a place to one where something is left to be done, and stopped there for this fault; the words that were
-- drawn last are dropped
pub record Stopped (Stands : History → Type 0) (full : Step → ℕ → ℕ → Type 0) (fault : GrowFault) (t : ℕ) (p : Place) (h : History) (old new : Outside) : Type 0 where
  pub place : Place
  pub after : History
  pub stands : Stands after
  pub leads : Leads t p h place after
  pub dropped : List ℕ
  pub few : length dropped ≤ MOST_PAIRS
  pub gives : Gives old.words (leads.words ++ dropped) new.words
  pub sends : Sends h after old.sent new.sent
  pub fit : Fit t place after
  pub unfinished : IsUnfinished place
  pub cause : IsCauseOfStop full fault after

-- a sweep went on at the work of a shard, and left it less of that
pub record Lessened (Stands : History → Type 0) (t shard : ℕ) (shards : List ℕ) (h : History) (old new : Outside) : Type 0 where
  pub went : Went Stands t (AtWork shard shards) h old (AtWork shard shards) new
  pub less : load calendar went.after shard t < load calendar h shard t
