-- When a schedule is complete, and the next work of a shard.
use Rattle.std.specs.Prelude.{ℕ, ◌==◌, nat_le, Bool, true, false, not, ◌&&◌, Option, Some, None, List, [], ◌∷◌, if◌then◌else◌}
use Rattle.std.specs.List.{filter, list_any}
use Rattle.std.specs.Option.{option_map, option_and_then}
use Rattle.sched_plain.specs.declared.entry.Filed.{Filed}
use Rattle.sched_plain.specs.declared.schedule.Schedule.{Schedule}
use Rattle.sched_plain.specs.declared.standing.Standing.{Standing}
use Rattle.sched_plain.specs.declared.standing.Standing.TheVariants as standings
use Rattle.sched_plain.specs.declared.step.Pair.{Pair}
use Rattle.sched_plain.specs.declared.work.Work.{Work}
use Rattle.sched_plain.specs.declared.work.Work.TheVariants as works
use Rattle.plain_words.specs.Ids.{shard_of}
use Rattle.plain_words.specs.Lists.{numbers, head, first_some, first_answer, when, some_pass}
use Rattle.sched_plain.specs.Entries.{is_open}
use Rattle.sched_plain.specs.Standing.{standing_of}
use Rattle.sched_plain.specs.Seen.{Seen, TimesSeen, LedgerSeen}

-- an occurrence: an incarnation and an instant
pub record Occurrence : Type 0 where
  pub inc : ℕ
  pub instant : ℕ

-- the first unentered occurrence of an incarnation up to a moment
abbrev pub open_at : TimesSeen → ℕ → ℕ → Option Occurrence
open_at times t inc = option_map (λ instant. record { inc = inc; instant = instant }) (head (times.unentered inc t))

-- the first of these incarnations with an unentered occurrence up to a moment, and the first such occurrence
abbrev pub first_open : TimesSeen → ℕ → List ℕ → Option Occurrence
first_open times t incs = first_answer (open_at times t) incs

-- the incarnations of a shard, rising
abbrev pub of_shard : ℕ → ℕ → List ℕ
of_shard shard created = filter (λ inc. shard == shard_of inc) (numbers 1 created)

-- one of these occurrences of an incarnation has an entry that is not decided
abbrev pub has_open : LedgerSeen → ℕ → List Pair → Bool
has_open ledger inc pairs = list_any {X = Pair} (λ pair. is_open (ledger.filed inc pair.instant)) pairs

-- nothing is in the list
abbrev pub is_empty : {A : Type 0} → List A → Bool
is_empty [] = true
is_empty (x ∷ xs) = false

-- a schedule with this current content is to be removed at a moment: it is enabled, ends by its deletion, and has
-- no occurrence to come, none unentered, and no entry that is not decided
abbrev pub is_finished : Seen → ℕ → ℕ → Schedule → Bool
is_finished v inc t content =
    content.enabled && content.delete_after && not (v.times.later inc t) && is_empty (v.times.unentered inc t)
    && not (has_open v.ledger inc (v.ledger.pairs inc))

-- the incarnation is completable at a moment
abbrev pub completable : Seen → ℕ → ℕ → Bool
completable v inc t = some_pass (is_finished v inc t) (v.rows.current inc)

-- what an entry in this standing wants to have done
abbrev pub wanted_by : ℕ → ℕ → Standing → Option Work
wanted_by inc instant (standings.Exhausted reason) = Some (works.Close inc instant reason)
wanted_by inc instant standings.Due = Some (works.Begin inc instant)
wanted_by inc instant standing = None

-- an entry whose chosen moment has come is closed where it is exhausted, and its attempt begun where it is due
abbrev pub act_of : ℕ → ℕ → ℕ → Filed → Option Work
act_of t inc instant filed = if nat_le filed.entry.chosen t then wanted_by inc instant (standing_of filed t) else None

-- an entry in this standing has its attempt in the air
abbrev pub waited_for : ℕ → ℕ → Standing → Option Work
waited_for inc instant standings.Live = Some (works.Live inc instant)
waited_for inc instant standing = None

-- the entry's attempt is in the air at a moment
abbrev pub live_of : ℕ → ℕ → ℕ → Filed → Option Work
live_of t inc instant filed = waited_for inc instant (standing_of filed t)

-- the first work that an entry of these incarnations gives, asked in the order of incarnation and instant
abbrev pub first_entry : LedgerSeen → (ℕ → ℕ → Filed → Option Work) → List ℕ → Option Work
first_entry ledger question incs =
    first_answer (λ inc. first_answer {A = Pair} (λ pair. option_and_then (question inc pair.instant) (ledger.filed inc pair.instant)) (ledger.pairs inc)) incs

-- the work at a list of incarnations: the first of entering, closing or beginning, completing, waiting for an attempt
abbrev pub work_table : Seen → List ℕ → ℕ → List (Option Work)
work_table v incs t =
    option_map (λ o. works.Enter o.inc) (first_open v.times t incs)
    ∷ first_entry v.ledger (act_of t) incs
    ∷ first_answer (λ inc. when (completable v inc t) (works.Complete inc)) incs
    ∷ first_entry v.ledger (live_of t) incs
    ∷ []

abbrev pub or_settled : Option Work → Work
or_settled None = works.Settled
or_settled (Some work) = work

-- the next work of a shard at a moment
abbrev pub work : Seen → ℕ → ℕ → Work
work v shard t = or_settled (first_some (work_table v (of_shard shard v.rows.created) t))
