-- What the devices that bytes come from and go to tell to a clause. A device in memory tells what it
-- holds, a real one tells nothing: `None`.
use Rattle.std.specs.Prelude.{◌≡◌, ℕ, ◌≤◌, List, ◌++◌, length, take, Option, option_map}

-- these bytes were taken from a source that told what was left before, and tells what is left after
abbrev pub Gives : Option (List ℕ) → List ℕ → Option (List ℕ) → Type 0
Gives before taken after = before ≡ option_map (λ rest. taken ++ rest) after

-- these bytes were added to a sink that told what it got before, and tells what it got after
abbrev pub Gets : Option (List ℕ) → List ℕ → Option (List ℕ) → Type 0
Gets before added after = after ≡ option_map (λ got. got ++ added) before

-- a front of these bytes was added
pub record GetsPart (before : Option (List ℕ)) (bytes : List ℕ) (after : Option (List ℕ)) : Type 0 where
  pub count : ℕ
  pub fits : count ≤ length bytes
  pub added : Gets before (take count bytes) after
