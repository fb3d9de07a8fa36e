-- What is known of a write's token, by the first write that kept it.
use Rattle.std.specs.Prelude.{◌≡◌, ◌≢◌, ℕ, Option, Some, None}
use Rattle.sched_plain.specs.declared.write.Write.{Write}
use Rattle.sched_plain.specs.Tokens.{Kept}
use Rattle.token_shelf.specs.declared.answer.TokenAnswer.{TokenAnswer}
use Rattle.token_shelf.specs.declared.answer.TokenAnswer.TheVariants as answers

-- the token is new: no write kept it
abbrev pub IsNew : Option Kept → Type 0
IsNew found = found ≡ None

-- the same write kept it
abbrev pub IsSame : Option Kept → Write → Type 0
IsSame found write = (kept : Kept) × (found ≡ Some kept) × (kept.write ≡ write)

-- another write kept it, by the step at a place
abbrev pub IsOther : Option Kept → Write → ℕ → Type 0
IsOther found write step = (kept : Kept) × (found ≡ Some kept) × (kept.place ≡ step) × (kept.write ≢ write)

-- what is answered of the token of a write
abbrev pub IsAnswer : TokenAnswer → Option Kept → Write → Type 0
IsAnswer answers.New found write = IsNew found
IsAnswer answers.Same found write = IsSame found write
IsAnswer (answers.Other step) found write = IsOther found write step
