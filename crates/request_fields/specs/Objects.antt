-- What a reader of an object that is lent answers.
use Rattle.std.specs.Prelude.{◌≡◌, Result, Ok, Err}
use Rattle.std.specs.Borrow.{Bor}
use Rattle.serde_json.specs.Data.{Data}
use Rattle.serde_json.specs.View.{view}
use Rattle.serde_json.specs.declared.value.Value.{Value}
use Rattle.sched_calls.specs.declared.reply.Refusal.{Refusal}
use Rattle.request_fields.specs.declared.fault.DecodeFault.{DecodeFault}
use Rattle.request_fields.specs.declared.fault.DecodeFault.TheVariants.{Refused, OutOfMemory}

-- what is answered is what is said: an object that is seen as this data, or the refusal. Want of memory says nothing
abbrev pub ReadsObject : Result (Bor Value) DecodeFault → Result Data Refusal → Type 0
ReadsObject (Ok object) said = said ≡ Ok (view object.now)
ReadsObject (Err (Refused refusal)) said = said ≡ Err refusal
ReadsObject (Err OutOfMemory) said = Unit {0}

-- the same of an object that is given away
abbrev pub ReadsOwned : Result Value DecodeFault → Result Data Refusal → Type 0
ReadsOwned (Ok object) said = said ≡ Ok (view object)
ReadsOwned (Err (Refused refusal)) said = said ≡ Err refusal
ReadsOwned (Err OutOfMemory) said = Unit {0}
