-- The steps that a sweep offers are valid.
use Rattle.std.specs.Prelude.{◌≡◌, ℕ, ◌+◌, ◌≤◌, ◌<◌, ◌^◌, Some, List}
use Rattle.sched_plain.specs.declared.outcome.Reason.{Reason}
use Rattle.sched_plain.specs.declared.step.Step.TheVariants as steps
use Rattle.sched_plain.specs.declared.work.Work.TheVariants as works
use Rattle.expressions.specs.Calendar.{Calendar}
use Rattle.plain_words.specs.Lists.{head}
use Rattle.sched_plain.specs.History.{History}
use Rattle.sched_plain.specs.Moments.{moment, moment_of, last_moment}
use Rattle.sched_plain.specs.Leases.{holder}
use Rattle.sched_plain.specs.Marks.{unentered}
use Rattle.sched_plain.specs.Seen.{seen}
use Rattle.sched_plain.specs.Work.{work}
use Rattle.sched_plain.specs.Legal.{IsLegal}
use Rattle.sched_plain.specs.Validity.{IsValid, IsShard, IsStatus, AllValid}
use Rattle.sched_calls.specs.Serves.{End, wanted_enter, begin_of, end_of, taking_of, release_of}

-- a legal history of valid steps, at a moment no earlier than its own and no later than the last
pub record IsGood (c : Calendar) (h : History) (t : ℕ) : Type 0 where
  pub legal : IsLegal c h
  pub valid : AllValid h
  pub early : moment h ≤ t
  pub late : t ≤ last_moment

-- the wanted Enter of an incarnation that has an occurrence without an entry is valid, whatever words are drawn for it
abbrev pub EntersValid : Type 0
EntersValid =
    (c : Calendar) (h : History) (t inc instant : ℕ) (words : List ℕ) → IsGood c h t
    → head (unentered c h inc t) ≡ Some instant → IsValid (wanted_enter c h inc t words)

-- so is the Enter that a shard asks for
abbrev pub EnterWorkValid : Type 0
EnterWorkValid =
    (c : Calendar) (h : History) (shard t inc : ℕ) (words : List ℕ) → IsGood c h t
    → work (seen c h) shard t ≡ works.Enter inc → IsValid (wanted_enter c h inc t words)

-- the Close
abbrev pub ClosesValid : Type 0
ClosesValid =
    (c : Calendar) (h : History) (shard t inc instant : ℕ) (reason : Reason) → IsGood c h t
    → work (seen c h) shard t ≡ works.Close inc instant reason → IsValid (steps.Close (moment_of t) inc instant reason)

-- the Begin, and the End with any status that there is
abbrev pub AttemptsValid : Type 0
AttemptsValid =
    (c : Calendar) (h : History) (shard t inc instant : ℕ) (end : End) → IsGood c h t → IsStatus end.1
    → work (seen c h) shard t ≡ works.Begin inc instant → IsValid (begin_of h t inc instant) × IsValid (end_of h t inc instant end)

-- the Complete
abbrev pub CompletesValid : Type 0
CompletesValid =
    (c : Calendar) (h : History) (shard t inc : ℕ) → IsGood c h t
    → work (seen c h) shard t ≡ works.Complete inc → IsValid (steps.Complete (moment_of t) inc)

-- the Swept of any shard
abbrev pub SweptsValid : Type 0
SweptsValid = (shard t : ℕ) → t ≤ last_moment → IsShard shard → IsValid (steps.Swept (moment_of t) shard)

-- the taking, where there is a next epoch
abbrev pub TakingsValid : Type 0
TakingsValid =
    (h : History) (shard t : ℕ) → t ≤ last_moment → IsShard shard → (holder h shard).epoch + 1 < 2 ^ 64 → IsValid (taking_of h t shard)

-- the giving back
abbrev pub ReleasesValid : Type 0
ReleasesValid = (c : Calendar) (h : History) (shard t : ℕ) → IsGood c h t → IsShard shard → IsValid (release_of h t shard)
