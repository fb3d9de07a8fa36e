-- The client tokens that accepted writes kept, the first of them first.
use Rattle.std.specs.Prelude.{ℕ, ◌+◌, Option, Some, None, List, [], ◌∷◌, ◌++◌, map}
use Rattle.std.specs.List.{find}
use Rattle.std.specs.Option.{option_map}
use Rattle.sched_plain.specs.declared.write.Write.{Write}
use Rattle.sched_plain.specs.declared.write.Write.TheVariants as writes
use Rattle.sched_plain.specs.declared.step.Step.TheVariants as steps
use Rattle.sched_plain.specs.Base.{place_of}
use Rattle.sched_plain.specs.History.{History, beginning, based, ◌upon◌, count}
use Rattle.sched_plain.specs.Rows.{same_text}

-- a token, the write that kept it, and the place of its step
pub record Kept : Type 0 where
  pub token : List ℕ
  pub write : Write
  pub place : ℕ

-- the token of a write
abbrev pub token_of : Write → Option (List ℕ)
token_of (writes.CreateSchedule group name token content) = token
token_of (writes.UpdateSchedule group name token content) = token
token_of (writes.DeleteSchedule group name token) = token
token_of (writes.CreateGroup name token) = token
token_of (writes.DeleteGroup name token) = token

-- what a write at a place keeps
abbrev pub kept_by : Option (List ℕ) → Write → ℕ → List Kept
kept_by None write place = []
kept_by (Some token) write place = record { token = token; write = write; place = place } ∷ []

-- the same with the place that the step of a base had
abbrev pub placed_at : List ℕ → Kept → Kept
placed_at places kept = record kept { place = place_of places kept.place }

-- what the writes of a history kept
abbrev pub kept_of : History → List Kept
kept_of beginning = []
kept_of (based b kept) = map (placed_at b.places) (kept_of kept)
kept_of (steps.Change at write upon h) = kept_of h ++ kept_by (token_of write) write (count h + 1)
kept_of (s upon h) = kept_of h

-- the first write that kept a token
abbrev pub kept_under : List Kept → List ℕ → Option Kept
kept_under kept token = find (λ k. same_text token k.token) kept

-- the place of the step that kept a token
abbrev pub kept_place : History → List ℕ → Option ℕ
kept_place h token = option_map (λ k. k.place) (kept_under (kept_of h) token)
