-- A payload read whole: the cells of its step, or its first fault; and what a reader answers.
use Rattle.std.specs.Prelude.{◌≡◌, ◌⊎◌, ℕ, ◌-◌, if◌then◌else◌, List, [], ◌∷◌, length, Option, Some, None, Result, Ok, Err}
use Rattle.sched_plain.specs.declared.step.Step.{Step}
use Rattle.step_codec.specs.declared.fault.FieldFault.{FieldFault}
use Rattle.step_codec.specs.declared.fault.FieldFault.TheVariants as field_faults
use Rattle.step_codec.specs.declared.fault.StepFault.{StepFault}
use Rattle.step_codec.specs.declared.fault.StepFault.TheVariants as faults
use Rattle.step_codec.specs.Cells.{Cell}
use Rattle.step_codec.specs.Payload.{code}
use Rattle.step_codec.specs.Rules.{is_code, is_empty}
use Rattle.step_codec.specs.Tables.{in_front, walk}
use Rattle.step_codec.specs.Format.{fields}

-- the fault of a field, told by its place in a payload of so many bytes
abbrev pub placed : ℕ → FieldFault → StepFault
placed whole field_faults.Cut = faults.Short
placed whole (field_faults.Broken left) = faults.BadField (whole - left)
placed whole field_faults.NoMemory = faults.OutOfMemory

-- a payload of so many bytes, by how its fields were read: bytes behind the last of them are a fault, too
abbrev pub whole_of : ℕ → Result (List Cell × List ℕ) FieldFault → Result (List Cell) StepFault
whole_of whole (Err fault) = Err (placed whole fault)
whole_of whole (Ok read) = if is_empty read.1 then Ok read.0 else Err (faults.Long (whole - length read.1))

-- the cells of the step that a payload spells, or the first fault of it
unfoldable pub reading : List ℕ → Result (List Cell) StepFault
reading [] = Err faults.Short
reading (tag ∷ more) =
    if is_code 11 tag then whole_of (length (tag ∷ more)) (in_front (code tag) (walk (fields tag) more))
    else Err (faults.BadTag 0)

-- the fault that reading ended with
abbrev pub fault_in : Result (List Cell) StepFault → Option StepFault
fault_in (Ok cells) = None
fault_in (Err fault) = Some fault

-- the first fault of a payload
abbrev pub first_fault : List ℕ → Option StepFault
first_fault payload = fault_in (reading payload)

-- what was answered is what reading gives, seen so, unless memory was wanted
abbrev pub Reads : {X Y : Type 0} → (X → Y) → Result X FieldFault → Result Y FieldFault → Type 0
Reads view (Ok x) read = read ≡ Ok (view x)
Reads view (Err field_faults.NoMemory) read = Unit {0}
Reads view (Err field_faults.Cut) read = read ≡ Err field_faults.Cut
Reads view (Err (field_faults.Broken left)) read = read ≡ Err (field_faults.Broken left)

-- the same of a whole payload
abbrev pub ReadsWhole : {X Y : Type 0} → (X → Y) → Result X StepFault → Result Y StepFault → Type 0
ReadsWhole view (Ok x) read = read ≡ Ok (view x)
ReadsWhole view (Err faults.OutOfMemory) read = Unit {0}
ReadsWhole view (Err faults.Short) read = read ≡ Err faults.Short
ReadsWhole view (Err (faults.BadTag at)) read = read ≡ Err (faults.BadTag at)
ReadsWhole view (Err (faults.BadField at)) read = read ≡ Err (faults.BadField at)
ReadsWhole view (Err (faults.Long at)) read = read ≡ Err (faults.Long at)

-- this was answered, or memory was wanted
abbrev pub Answers : Result Step StepFault → Result Step StepFault → Type 0
Answers result wanted = (result ≡ wanted) ⊎ (result ≡ Err faults.OutOfMemory)

-- the fault is the payload's first, or memory was wanted
abbrev pub Tells : StepFault → List ℕ → Type 0
Tells fault payload = (first_fault payload ≡ Some fault) ⊎ (fault ≡ faults.OutOfMemory)
