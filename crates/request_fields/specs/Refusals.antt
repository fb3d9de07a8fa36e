-- Refusals, and how what is asked for is read field by field: the first that is refused decides.
use Rattle.std.specs.Prelude.{◌≡◌, ℕ, Option, Some, None, Result, Ok, Err, List}
use Rattle.sched_calls.specs.declared.reply.Refusal.{Refusal}
use Rattle.sched_calls.specs.Replies.{refusal}
use Rattle.request_fields.specs.declared.fault.DecodeFault.{DecodeFault}
use Rattle.request_fields.specs.declared.fault.DecodeFault.TheVariants.{Refused, OutOfMemory}

-- a field, called by its path, breaks its rule
abbrev pub field_refusal : List ℕ → Refusal
field_refusal path = refusal 7 400 path

-- what comes next, where nothing was refused before
infixr 20 ◌giving◌
abbrev pub ◌giving◌ : {A B : Type 0} → Result A Refusal → (A → Result B Refusal) → Result B Refusal
(Ok x) giving next = next x
(Err refusal) giving next = Err refusal

-- the value, or the refusal where there is none
abbrev pub or_else_refused : {A : Type 0} → Refusal → Option A → Result A Refusal
or_else_refused refusal None = Err refusal
or_else_refused refusal (Some x) = Ok x

-- the value of a field, or that the field breaks its rule
abbrev pub or_refused : {A : Type 0} → List ℕ → Option A → Result A Refusal
or_refused path value = or_else_refused (field_refusal path) value

-- what a reader answers is what is said: the value, or the refusal. Want of memory says nothing
abbrev pub Reads : {A : Type 0} → Result A DecodeFault → Result A Refusal → Type 0
Reads (Ok x) said = said ≡ Ok x
Reads (Err (Refused refusal)) said = said ≡ Err refusal
Reads (Err OutOfMemory) said = Unit {0}
