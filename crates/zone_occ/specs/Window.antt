-- The first moments that were found so far, rising: what one more does to them.
use Rattle.std.specs.Prelude.{◌≡◌, ◌⊎◌, ℕ, ◌<◌, ◌≤◌, Option, Some, IfSome, List, length, slice_index}
use Rattle.std.specs.List.{All, Contains}
use Rattle.std.specs.List.Sorted.{IsStrictlyIncreasing}
use Rattle.zone_occ.specs.FirstInstants.{complete_to}

-- a moment belongs at this place among others
pub record IsPlace (moments : List ℕ) (moment place : ℕ) : Type 0 where
  pub within : place ≤ length moments
  pub below : (k : ℕ) → k < place → slice_index moments k < moment
  pub above : (k : ℕ) → place ≤ k → k < length moments → moment < slice_index moments k

-- The first `max` of some moments and of one more, if there is one: nothing else is added, what comes no later than
-- the last stays, and they are complete no farther than before.
pub record IsOffered (max : ℕ) (before : List ℕ) (offer : Option ℕ) (now : List ℕ) : Type 0 where
  pub rising : IsStrictlyIncreasing now
  pub few : length now ≤ max
  pub from : (moment : ℕ) → Contains now moment → Contains before moment ⊎ (offer ≡ Some moment)
  pub keeps : (to moment : ℕ) → Contains before moment ⊎ (offer ≡ Some moment) → moment ≤ complete_to max to now → Contains now moment
  pub sooner : (to : ℕ) → All (λ moment. moment ≤ to) before → IfSome offer (λ moment. moment ≤ to)
      → complete_to max to now ≤ complete_to max to before
