-- How much work a shard has at a moment, and that each step of it leaves less.
use Rattle.std.specs.Prelude.{◌≡◌, ℕ, ◌+◌, ◌*◌, ◌<◌, ◌≤◌, Option, Some, None, List, [], ◌∷◌, length}
use Rattle.std.specs.Option.{option_and_then}
use Rattle.sched_plain.specs.declared.entry.Filed.{Filed}
use Rattle.sched_plain.specs.declared.outcome.Reason.{Reason}
use Rattle.sched_plain.specs.declared.schedule.Schedule.{Schedule}
use Rattle.sched_plain.specs.declared.step.Pair.{Pair}
use Rattle.sched_plain.specs.declared.step.Step.TheVariants as steps
use Rattle.sched_plain.specs.declared.work.Work.{Work}
use Rattle.sched_plain.specs.declared.work.Work.TheVariants as works
use Rattle.expressions.specs.Calendar.{Calendar}
use Rattle.plain_words.specs.Lists.{head}
use Rattle.sched_plain.specs.History.{History, ◌upon◌}
use Rattle.sched_plain.specs.Moments.{moment, moment_of, last_moment}
use Rattle.sched_plain.specs.Changes.{changes_of}
use Rattle.sched_plain.specs.Rows.{rows_of, current}
use Rattle.sched_plain.specs.Ledger.{ledger_of}
use Rattle.sched_plain.specs.Entries.{entries, filed}
use Rattle.sched_plain.specs.Marks.{unentered}
use Rattle.sched_plain.specs.Seen.{seen}
use Rattle.sched_plain.specs.Work.{act_of, of_shard, work}
use Rattle.sched_plain.specs.Legal.{IsLegal}
use Rattle.sched_calls.specs.Serves.{End, wanted_enter, begin_of, end_of}

-- the sum of a number of each element
abbrev pub sum_over : {A : Type 0} → (A → ℕ) → List A → ℕ
sum_over f [] = 0
sum_over f (x ∷ xs) = f x + sum_over f xs

-- what a work that an entry gives weighs: an attempt may leave a close
abbrev pub act_weight : Option Work → ℕ
act_weight None = 0
act_weight (Some (works.Begin inc instant)) = 2
act_weight (Some work) = 1

-- what an entry weighs
abbrev pub weight_of : ℕ → ℕ → ℕ → Option Filed → ℕ
weight_of t inc instant filed = act_weight (option_and_then (act_of t inc instant) filed)

-- what the entries of these pairs weigh together
abbrev pub weight_in : ℕ → ℕ → (ℕ → Option Filed) → List Pair → ℕ
weight_in t inc filed pairs = sum_over {A = Pair} (λ pair. weight_of t inc pair.instant (filed pair.instant)) pairs

-- what a schedule weighs that may be completed
abbrev pub living_weight : Option Schedule → ℕ
living_weight None = 0
living_weight (Some content) = 1

-- what an incarnation weighs: three for each occurrence without an entry, since its entry may want an attempt and a close
abbrev pub weight : Calendar → History → ℕ → ℕ → ℕ
weight c h t inc =
    3 * length (unentered c h inc t)
    + (weight_in t inc (filed (ledger_of h) inc) (entries (ledger_of h) inc) + living_weight (current (rows_of (changes_of h)) inc))

-- the work of a shard: what its incarnations weigh together
abbrev pub load : Calendar → History → ℕ → ℕ → ℕ
load c h shard t = sum_over (weight c h t) (of_shard shard (length (rows_of (changes_of h))))

-- the wanted Enter leaves less, whatever words are drawn for it
abbrev pub EntersLessen : Type 0
EntersLessen =
    (c : Calendar) (h : History) (shard t inc : ℕ) (words : List ℕ) → work (seen c h) shard t ≡ works.Enter inc
    → load c (wanted_enter c h inc t words upon h) shard t < load c h shard t

-- so does the Close
abbrev pub ClosesLessen : Type 0
ClosesLessen =
    (c : Calendar) (h : History) (shard t inc instant : ℕ) (reason : Reason) → work (seen c h) shard t ≡ works.Close inc instant reason
    → load c (steps.Close (moment_of t) inc instant reason upon h) shard t < load c h shard t

-- the attempt, begun and ended, whatever came of it
abbrev pub AttemptsLessen : Type 0
AttemptsLessen =
    (c : Calendar) (h : History) (shard t inc instant : ℕ) (end : End) → work (seen c h) shard t ≡ works.Begin inc instant
    → load c (end_of h t inc instant end upon begin_of h t inc instant upon h) shard t < load c h shard t

-- and the Complete
abbrev pub CompletesLessen : Type 0
CompletesLessen =
    (c : Calendar) (h : History) (shard t inc : ℕ) → work (seen c h) shard t ≡ works.Complete inc
    → load c (steps.Complete (moment_of t) inc upon h) shard t < load c h shard t

-- a shard of a legal history has less work than 2 ^ 64 - 1
abbrev pub LoadsAreSmall : Type 0
LoadsAreSmall =
    (c : Calendar) (h : History) (shard t : ℕ) → IsLegal c h → moment h ≤ t → t ≤ last_moment → shard ≤ 7
    → load c h shard t < 18446744073709551615

-- what is left to be entered for these incarnations
abbrev pub open_load : Calendar → History → List ℕ → ℕ → ℕ
open_load c h incs t = sum_over {A = ℕ} (λ inc. length (unentered c h inc t)) incs

-- while the first of them has an occurrence without an entry, its wanted Enter leaves less, whatever words are drawn for it
abbrev pub CatchUpsLessen : Type 0
CatchUpsLessen =
    (c : Calendar) (h : History) (t inc instant : ℕ) (incs words : List ℕ) → head (unentered c h inc t) ≡ Some instant
    → open_load c (wanted_enter c h inc t words upon h) (inc ∷ incs) t < open_load c h (inc ∷ incs) t

-- for each of them no more is left than there are moments
abbrev pub UnenteredAreFew : Type 0
UnenteredAreFew = (c : Calendar) (h : History) (inc t : ℕ) → length (unentered c h inc t) ≤ t + 1
