-- One request answered over what a keeper stands for: which history was found, what came from outside meanwhile, and the
-- response.
use Rattle.std.specs.Prelude.{◌≡◌, ◌⊎◌, ℕ, Option, None, List, ◌++◌}
use Rattle.outside.specs.Faults.{Rose}
use Rattle.zone_occ.specs.declared.zone_files.NamedZone.{NamedZone}
use Rattle.target_link.specs.declared.link.Sent.{Sent}
use Rattle.policy_rules.specs.Given.{Gives}
use Rattle.sched_plain.specs.declared.step.Step.{Step}
use Rattle.sched_plain.specs.History.{History}
use Rattle.sched_calls.specs.Serves.{Finds}
use Rattle.sweep_laws.specs.KeptLaws.{NoOtherHolds}
use Rattle.durable_book.specs.Doubts.{IsOwnDoubt}
use Rattle.timer_work.specs.Swept.{Sends}
use Rattle.http_wire.specs.declared.request.HttpRequest.{HttpRequest}
use Rattle.http_wire.specs.Response.{memory_text}
use Rattle.sched_top.specs.declared.service.response.Response.{Response}
use Rattle.sched_top.specs.declared.service.response.Response.TheVariants as responses
use Rattle.sched_top.specs.Serving.{Kind, Served, ShortOfMemory, ZonesFailed, JournalFull, DiskFailed, Taken, Answers}

-- how a request was answered, by its response
abbrev pub kind_of : Response → Kind
kind_of (responses.Served text) = Served
kind_of responses.ShortOfMemory = ShortOfMemory
kind_of (responses.ZonesFailed text) = ZonesFailed
kind_of (responses.JournalFull text) = JournalFull
kind_of (responses.DiskFailed text) = DiskFailed

-- the bytes of a response
abbrev pub bytes_of : Response → List ℕ
bytes_of (responses.Served text) = text.items
bytes_of responses.ShortOfMemory = memory_text
bytes_of (responses.ZonesFailed text) = text.items
bytes_of (responses.JournalFull text) = text.items
bytes_of (responses.DiskFailed text) = text.items

-- what lies outside and tells what it did: the words that a picker gave, and what a link was handed
pub record Outside : Type 0 where
  pub words : Option (List ℕ)
  pub sent : Option (List Sent)

-- one request answered: over the history that was found, with the words that the picker gave and the requests that the link was
-- handed meanwhile. No worker but worker 0 holds a shard past the moment
pub record Turn (full : Step → ℕ → ℕ → Type 0) (failed : Type 0) (zones : Option (List NamedZone)) (doubt : Option Step) (now : ℕ) (request : HttpRequest) (at : ℕ) (old new : Outside) (response : Response) (h after : History) : Type 0 where
  pub found : History
  pub finds : Finds h doubt found
  pub taken : Taken
  pub answers : Answers full failed zones (kind_of response) found now request taken after at (bytes_of response)
  pub gives : Gives old.words (taken.words ++ taken.dropped) new.words
  pub sends : Sends found after old.sent new.sent
  pub free : NoOtherHolds after at

-- zones are said to have failed only where the count of their faults has risen
abbrev pub ZonesRose : ℕ → ℕ → Response → Type 0
ZonesRose before now (responses.ZonesFailed text) = Rose before now
ZonesRose before now response = Unit {0}

-- what a request leaves in doubt, by how it was answered and what was in doubt before. Where a call of the disk failed a step may
-- be in doubt that was not before; this is told, unless memory was wanted for that
abbrev pub LeavesDoubt : Option Step → Kind → Option Step → Type 0
LeavesDoubt doubt Served left = (left ≡ None) ⊎ (left ≡ doubt)
LeavesDoubt doubt ShortOfMemory left = IsOwnDoubt left
LeavesDoubt doubt ZonesFailed left = (left ≡ None) ⊎ (left ≡ doubt)
LeavesDoubt doubt JournalFull left = (left ≡ None) ⊎ (left ≡ doubt)
LeavesDoubt doubt DiskFailed left = IsOwnDoubt left
