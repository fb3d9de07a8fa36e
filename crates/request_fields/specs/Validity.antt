-- A content that may become part of a history.
use Rattle.std.specs.Prelude.{IsSome}
use Rattle.sched_plain.specs.declared.schedule.Schedule.{Schedule}
use Rattle.sched_plain.specs.Validity.{IsContent}
use Rattle.target_link.specs.Address.{target_spot}

-- a content within its limits, whose target is an address
pub record IsSound (content : Schedule) : Type 0 where
  pub valid : IsContent content
  pub address : IsSome (target_spot content.target)
