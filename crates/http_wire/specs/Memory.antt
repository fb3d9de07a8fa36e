-- What the devices are to a clause: those in memory tell all that they hold, real ones their counts.
use Rattle.std.specs.Prelude.{◌≡◌, ℕ, ◌+◌, ◌-◌, ◌^◌, min, List, Result, OnOk, OnErr}
use Rattle.outside.specs.Failing.{Failing}

-- a device in memory: the bytes that it holds, the most that one call moves, and its calls that fail
pub record MemoryBytes : Type 0 where
  pub bytes : List ℕ
  pub most : ℕ
  pub failing : Failing

-- one more call was made, which calls are to fail stays as it is, and the count of faults rose by one where it failed;
-- both counts stay at the greatest u64
pub record CountsCall {A E : Type 0} (old new : Failing) (result : Result A E) : Type 0 where
  pub numbers : new.numbers ≡ old.numbers
  pub calls : new.calls ≡ min (old.calls + 1) (2 ^ 64 - 1)
  pub quiet : OnOk result (new.faults ≡ old.faults)
  pub failed : OnErr result (new.faults ≡ min (old.faults + 1) (2 ^ 64 - 1))

-- the counts of a real source: how many bytes it may still give, and how many calls failed
pub record StreamCounts : Type 0 where
  pub supply : ℕ
  pub faults : ℕ
