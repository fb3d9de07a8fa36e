-- Which entry is the first of a shard that something is to be done for, or whose attempt is waited for.
use Rattle.std.specs.Prelude.{◌≡◌, ℕ, ◌<◌, nat_le, Bool, true, false, ◌&&◌, ◌⊎◌, Option, Some, None}
use Rattle.sched_plain.specs.declared.entry.Filed.{Filed}
use Rattle.sched_plain.specs.declared.standing.Standing.{Standing}
use Rattle.sched_plain.specs.declared.standing.Standing.TheVariants as standings
use Rattle.plain_words.specs.Ids.{shard_of}
use Rattle.plain_words.specs.Lists.{some_pass}
use Rattle.sched_plain.specs.Standing.{standing_of}
use Rattle.ledger_rows.specs.declared.question.Question.{Question}
use Rattle.ledger_rows.specs.declared.question.Question.TheVariants as questions

-- an entry in this standing is to be closed, or its attempt begun
abbrev pub is_to_do : Standing → Bool
is_to_do (standings.Exhausted reason) = true
is_to_do standings.Due = true
is_to_do standing = false

abbrev pub is_in_air : Standing → Bool
is_in_air standings.Live = true
is_in_air standing = false

-- what is asked of an entry: whether its chosen moment has come and it is exhausted or due, or whether it is live
abbrev pub asks : Question → Filed → Bool
asks (questions.ToAct now) filed = nat_le filed.entry.chosen now && is_to_do (standing_of filed now)
asks questions.ToWait filed = is_in_air (standing_of filed 0)

-- the same of what is filed for an occurrence, if anything is
abbrev pub answers : Question → Option Filed → Bool
answers question filed = some_pass (asks question) filed

-- an occurrence comes before another: by its incarnation, then by its instant
abbrev pub IsBefore : ℕ → ℕ → ℕ → ℕ → Type 0
IsBefore inc instant other at = (inc < other) ⊎ ((inc ≡ other) × (instant < at))

-- an occurrence is the first of its shard that passes a test
pub record IsFirst (passes : ℕ → ℕ → Bool) (shard inc instant : ℕ) : Type 0 where
  pub in_shard : shard_of inc ≡ shard
  pub passing : passes inc instant ≡ true
  pub first : (i k : ℕ) → shard_of i ≡ shard → IsBefore i k inc instant → passes i k ≡ false

-- the first occurrence of a shard that passes a test, or none where none passes
abbrev pub IsFirstOf : (ℕ → ℕ → Bool) → ℕ → Option (ℕ × ℕ) → Type 0
IsFirstOf passes shard None = (i k : ℕ) → shard_of i ≡ shard → passes i k ≡ false
IsFirstOf passes shard (Some found) = IsFirst passes shard found.0 found.1

-- the first instant of an incarnation that passes a test, or none where none passes
abbrev pub IsFirstIn : (ℕ → Bool) → Option ℕ → Type 0
IsFirstIn passes None = (k : ℕ) → passes k ≡ false
IsFirstIn passes (Some instant) = (passes instant ≡ true) × ((k : ℕ) → k < instant → passes k ≡ false)
