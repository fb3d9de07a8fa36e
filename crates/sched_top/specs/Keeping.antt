-- What a run keeps: its history is legal, and what holds of every legal history holds of it; and its link was handed the
-- requests of its attempts.
use Rattle.std.specs.Prelude.{◌≡◌, ℕ, ◌<◌, ◌≤◌, List, ◌++◌, length, Option}
use Rattle.std.specs.Option.{option_map}
use Rattle.std.specs.List.{AllPairs, filter}
use Rattle.plain_words.specs.declared.moment.Moment.{Moment}
use Rattle.plain_words.specs.Ids.{shard_of}
use Rattle.plain_words.specs.Lists.{numbers}
use Rattle.sched_plain.specs.declared.step.Step.TheVariants.{Swept}
use Rattle.sched_plain.specs.History.{History, ◌upon◌, Extends}
use Rattle.sched_plain.specs.Validity.{AllValid}
use Rattle.sched_plain.specs.Legal.{IsLegal}
use Rattle.sched_plain.specs.Ledger.{ledger_of}
use Rattle.sched_plain.specs.Entries.{entries, filed, instants_of}
use Rattle.sched_plain.specs.Attempts.{used}
use Rattle.sched_plain.specs.Marks.{mark}
use Rattle.sched_plain.specs.Queues.{letters}
use Rattle.sched_plain.specs.Report.{counts}
use Rattle.book_parts.specs.Stands.{calendar}
use Rattle.book_laws.specs.EntryLaws.{occ_upto}
use Rattle.book_laws.specs.AttemptLaws.{numbers_of, allowed, counted}
use Rattle.book_laws.specs.CountLaws.{sum_of_nine, all_pairs}
use Rattle.book_laws.specs.LetterLaws.{is_about, letters_owed, is_that_queue, queue_named}
use Rattle.book_laws.specs.OutcomeLaws.{decision}
use Rattle.book_laws.specs.SweepLaws.{NothingLeft}
use Rattle.book_laws.specs.TokenLaws.{HasToken}
use Rattle.target_link.specs.declared.link.Sent.{Sent}
use Rattle.timer_work.specs.Sendings.{Reported}

-- the entries of an incarnation: there is one for each of its occurrences up to its mark and for nothing else, and the attempts
-- of each count from 1 and are no more than its retries allow
pub record AreKept (h : History) (inc : ℕ) : Type 0 where
  pub exact : instants_of (entries (ledger_of h) inc) ≡ occ_upto calendar h inc (mark h inc)
  pub once : AllPairs (λ earlier later. earlier < later) (instants_of (entries (ledger_of h) inc))
  pub numbered : (instant : ℕ) → numbers_of h inc instant ≡ numbers 1 (used (ledger_of h) inc instant)
  pub counted : (instant : ℕ) → used (ledger_of h) inc instant ≡ counted (filed (ledger_of h) inc instant)
  pub limited : (instant : ℕ) → used (ledger_of h) inc instant ≤ allowed (filed (ledger_of h) inc instant)

-- each Swept of the history left nothing to do at its moment in its shard: no occurrence without an entry, no entry that is
-- due, exhausted or live, and no schedule that is to be removed
abbrev pub IsSettled : History → Type 0
IsSettled h =
    (earlier : History) (at : Moment) (shard inc : ℕ) → Extends (Swept at shard upon earlier) h → shard ≡ shard_of inc
    → NothingLeft calendar (Swept at shard upon earlier) inc at.0

-- the counts at a moment: the number of entries is that of the pairs of all incarnations, and the sum of the nine numbers
pub record AddsUp (h : History) (t : ℕ) : Type 0 where
  pub entered : (counts h t).entries ≡ length (all_pairs h)
  pub sum : (counts h t).entries ≡ sum_of_nine (counts h t)

-- the letters of a queue about an occurrence are those that the outcome of its entry owes the queue: one, or none
abbrev pub AreOwed : History → Type 0
AreOwed h =
    (queue : List ℕ) (inc instant : ℕ)
    → filter (is_about inc instant) (letters h queue) ≡ letters_owed (decision h inc instant) (is_that_queue (queue_named h inc instant) queue) inc instant

-- a client token stands in at most one Change
abbrev pub StandOnce : History → Type 0
StandOnce h = (token : List ℕ) (one other : ℕ) → HasToken h one token → HasToken h other token → one ≡ other

-- the link was handed the requests of the history's attempts, behind what it had told before
pub record IsHanded (h : History) (told told' : Option (List Sent)) : Type 0 where
  pub sent : List Sent
  pub more : told' ≡ option_map (λ earlier. earlier ++ sent) told
  pub reported : Reported h sent

-- what holds of every legal history: each occurrence up to its schedule's mark has one entry and no other is there; what was swept
-- is settled; the counts add up, letters stand where they are owed, and a token stands once
pub record HoldsOf (h : History) : Type 0 where
  pub kept : (inc : ℕ) → AreKept h inc
  pub settled : IsSettled h
  pub adds_up : (t : ℕ) → AddsUp h t
  pub owed : AreOwed h
  pub tokens : StandOnce h

-- so it is of each of them
abbrev pub HoldsOfEach : Type 0
HoldsOfEach = (h : History) → IsLegal calendar h → HoldsOf h

-- the history is the one at the start and further steps, each valid, each of which may follow the steps before it; so what holds
-- of every legal history holds of it; and the link was handed the requests of its attempts
pub record Keeps (start h : History) (told told' : Option (List Sent)) : Type 0 where
  pub grows : Extends start h
  pub legal : IsLegal calendar h
  pub valid : AllValid h
  pub holds : HoldsOf h
  pub handed : IsHanded h told told'
