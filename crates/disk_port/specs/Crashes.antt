-- What a crash may leave of a file: its images, now and since an earlier moment.
use Rattle.std.specs.Prelude.{◌≡◌, ◌⊎◌, ℕ, ◌≤◌, List, Option, Some}

-- each image is an earlier one after this step
abbrev pub Follows : (List ℕ → List ℕ → Type 0) → (List ℕ → Type 0) → (List ℕ → Type 0) → Type 0
Follows step old new = (file : List ℕ) → new file → (before : List ℕ) × old before × step before file

-- there is no image that was not one before
abbrev pub NoMore : (List ℕ → Type 0) → (List ℕ → Type 0) → Type 0
NoMore old new = (file : List ℕ) → new file → old file

-- a crash leaves what a read gives
abbrev pub LeavesSeen : Option (List ℕ) → (List ℕ → Type 0) → Type 0
LeavesSeen seen image = (file : List ℕ) → image file → seen ≡ Some file

-- Time goes on: what was an image since an earlier moment was one before, or is one now, and none is forgotten.
pub record Elapses (before now : ℕ) (past since : ℕ → List ℕ → Type 0) (image : List ℕ → Type 0) : Type 0 where
  pub later : before ≤ now
  pub nothing_else : (moment : ℕ) (file : List ℕ) → moment ≤ before → since moment file → past moment file ⊎ image file
  pub keeps : (moment : ℕ) (file : List ℕ) → moment ≤ before → past moment file → since moment file

-- Each file that was an image at some moment since the old disk passes; of one that has been watched for longer, each
-- image since then was one before or passes.
pub record LeavesOnly {D : Type 0} (moment : D → ℕ) (since : D → ℕ → List ℕ → Type 0) (old new : D) (passes : List ℕ → Type 0) : Type 0 where
  pub later : moment old ≤ moment new
  pub each : (file : List ℕ) → since new (moment old) file → passes file
  pub before : (from : ℕ) (file : List ℕ) → from ≤ moment old → since new from file → since old from file ⊎ passes file
