-- Working a shard, catching up, a sweep and an accepted write come to an end.
use Rattle.std.specs.Prelude.{◌≡◌, ℕ, zero, suc, ◌+◌, ◌≤◌, false, None, Ok, List, [], ◌∷◌, ◌++◌}
use Rattle.sched_plain.specs.declared.step.Step.TheVariants as steps
use Rattle.sched_plain.specs.declared.write.Write.{Write}
use Rattle.expressions.specs.Calendar.{Calendar}
use Rattle.sched_plain.specs.History.{History, ◌upon◌, Extends}
use Rattle.sched_plain.specs.Moments.{moment_of}
use Rattle.sched_calls.specs.Replies.{reply_to}
use Rattle.sched_calls.specs.Serves.{End, ZoneSource, CatchUp, Works, Sweeps, Accepts, release_of, kept_for, fault_of, needed_zone, lacks_zone, words_in, ends_in}
use Rattle.sweep_laws.specs.RestLaws.{NoneLive}
use Rattle.sweep_laws.specs.LoadLaws.{load}

-- the first so many of an endless row
abbrev pub firsts : {A : Type 0} → ℕ → (ℕ → A) → List A
firsts zero row = []
firsts (suc n) row = row 0 ∷ firsts n (λ k. row (k + 1))

-- from one history to another with this many words and ends: none other stand in what was added
pub record Took (h after : History) (drew many : ℕ) : Type 0 where
  pub from : Extends h after
  pub words : words_in after ≡ words_in h + drew
  pub ends : ends_in after ≡ ends_in h + many

-- the work of a shard, to its end: whatever stands behind the words and ends that it takes is left
pub record WorkedOut (c : Calendar) (t shard : ℕ) (h : History) (words : ℕ → ℕ) (ends : ℕ → End) : Type 0 where
  pub drew : ℕ
  pub many : ℕ
  pub after : History
  pub done : (more_words : List ℕ) (more : List End) → Works c t shard h (firsts drew words ++ more_words) (firsts many ends ++ more) after more_words more
  pub took : Took h after drew many
  pub few : many ≤ load c h shard t

-- the same of catching up
pub record CaughtUpOut (c : Calendar) (t : ℕ) (incs : List ℕ) (h : History) (words : ℕ → ℕ) : Type 0 where
  pub drew : ℕ
  pub after : History
  pub done : (more_words : List ℕ) → CatchUp c t incs h (firsts drew words ++ more_words) after more_words
  pub took : Took h after drew 0

-- of a sweep
pub record SweptOut (c : Calendar) (t : ℕ) (shards : List ℕ) (h : History) (words : ℕ → ℕ) (ends : ℕ → End) : Type 0 where
  pub drew : ℕ
  pub many : ℕ
  pub after : History
  pub done : (more_words : List ℕ) (more : List End) → Sweeps c t shards h (firsts drew words ++ more_words) (firsts many ends ++ more) after more_words more
  pub took : Took h after drew many

-- what is left of a sweep at the work of a shard: the work until it is settled, then the shard swept and given back, then
-- the shards behind it
pub record SweepRest (c : Calendar) (t shard : ℕ) (shards : List ℕ) (h : History) (words : List ℕ) (ends : List End) (after : History) (left : List ℕ) (ends_left : List End) : Type 0 where
  pub mid : History
  pub some_left : List ℕ
  pub some_ends : List End
  pub worked : Works c t shard h words ends mid some_left some_ends
  pub swept : Sweeps c t shards (release_of mid t shard upon steps.Swept (moment_of t) shard upon mid) some_left some_ends after left ends_left

-- the rest of a sweep, to its end
pub record RestOut (c : Calendar) (t shard : ℕ) (shards : List ℕ) (h : History) (words : ℕ → ℕ) (ends : ℕ → End) : Type 0 where
  pub drew : ℕ
  pub many : ℕ
  pub after : History
  pub done : (more_words : List ℕ) (more : List End) → SweepRest c t shard shards h (firsts drew words ++ more_words) (firsts many ends ++ more) after more_words more
  pub took : Took h after drew many

-- of a write that is accepted
pub record AcceptedOut (c : Calendar) (source : ZoneSource) (t : ℕ) (h : History) (write : Write) (words : ℕ → ℕ) : Type 0 where
  pub drew : ℕ
  pub after : History
  pub done : (more_words : List ℕ) → Accepts c source t h write (firsts drew words ++ more_words) after more_words (Ok (reply_to write))
  pub took : Took h after drew 0

-- the work of a shard ends where no attempt of it is in the air
abbrev pub WorkEnds : Type 0
WorkEnds =
    (c : Calendar) (t shard : ℕ) (h : History) (words : ℕ → ℕ) (ends : ℕ → End) → NoneLive h shard → WorkedOut c t shard h words ends

-- catching up ends
abbrev pub CatchUpsEnd : Type 0
CatchUpsEnd = (c : Calendar) (t : ℕ) (incs : List ℕ) (h : History) (words : ℕ → ℕ) → CaughtUpOut c t incs h words

-- a sweep ends
abbrev pub SweepsEnd : Type 0
SweepsEnd = (c : Calendar) (t : ℕ) (shards : List ℕ) (h : History) (words : ℕ → ℕ) (ends : ℕ → End) → SweptOut c t shards h words ends

-- so does what is left of it, at the work of a shard where no attempt is in the air
abbrev pub RestsEnd : Type 0
RestsEnd =
    (c : Calendar) (t shard : ℕ) (shards : List ℕ) (h : History) (words : ℕ → ℕ) (ends : ℕ → End) → NoneLive h shard
    → RestOut c t shard shards h words ends

-- a write with a new token, no fault and a zone that is there is accepted
abbrev pub WritesAreAccepted : Type 0
WritesAreAccepted =
    (c : Calendar) (source : ZoneSource) (t : ℕ) (h : History) (write : Write) (words : ℕ → ℕ)
    → kept_for h write ≡ None → fault_of h write ≡ None → lacks_zone c source (needed_zone h write) ≡ false
    → AcceptedOut c source t h write words
