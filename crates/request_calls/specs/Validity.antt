-- A call that may be served.
use Rattle.sched_plain.specs.declared.write.Write.{Write}
use Rattle.sched_plain.specs.declared.write.Write.TheVariants as writes
use Rattle.sched_plain.specs.Validity.{IsName, IsToken, IsWrite}
use Rattle.sched_calls.specs.declared.call.Call.{Call}
use Rattle.sched_calls.specs.declared.call.Call.TheVariants as calls
use Rattle.request_fields.specs.Validity.{IsSound}
use Rattle.request_calls.specs.declared.put.Put.{Put}

-- the content that is written, where there is one, is valid, and its target is an address
abbrev pub HasSoundContent : Write → Type 0
HasSoundContent (writes.CreateSchedule group name token content) = IsSound content
HasSoundContent (writes.UpdateSchedule group name token content) = IsSound content
HasSoundContent (writes.DeleteSchedule group name token) = Unit {0}
HasSoundContent (writes.CreateGroup name token) = Unit {0}
HasSoundContent (writes.DeleteGroup name token) = Unit {0}

-- a call whose write, where it has one, is valid, and whose target is an address
abbrev pub IsSoundCall : Call → Type 0
IsSoundCall (calls.Write write) = IsWrite write × HasSoundContent write
IsSoundCall (calls.Read read) = Unit {0}
IsSoundCall calls.Sweep = Unit {0}

-- what is put is valid, and its target is an address
pub record IsSoundPut (put : Put) : Type 0 where
  pub group : IsName put.group
  pub name : IsName put.name
  pub token : IsToken put.token
  pub content : IsSound put.content
