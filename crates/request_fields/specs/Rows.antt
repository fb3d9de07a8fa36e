-- The rows of a table of fields: a member of a JSON object (RFC 8259), its rule, and its default. A field is called by the
-- path of its object and its name; a null is a field that is left out.
use Rattle.std.specs.Prelude.{ℕ, nat_le, ◌&&◌, is_some, Option, Some, None, Result, List, ◌++◌}
use Rattle.std.specs.Option.{option_map, option_and_then}
use Rattle.serde_json.specs.Data.{Data, null, boolean, number, string, array, object}
use Rattle.serde_json.specs.Find.{get, as_str, as_number, as_u64, as_object}
use Rattle.sched_calls.specs.declared.reply.Refusal.{Refusal}
use Rattle.request_fields.specs.Refusals.{or_refused}
use Rattle.request_fields.specs.Words.{kept}

-- a string, of which a rule holds
abbrev pub in_text : {A : Type 0} → (List ℕ → Option A) → Data → Option A
in_text rule d = option_and_then rule (as_str d)

-- a number from one to another, without fraction and exponent
abbrev pub whole : ℕ → ℕ → Data → Option ℕ
whole least most d = kept (λ n. nat_le least n && nat_le n most) (option_and_then as_u64 (as_number d))

-- an object
abbrev pub an_object : Data → Option Data
an_object d = kept (λ value. is_some (as_object value)) (Some d)

-- a value that is no null
abbrev pub unless_null : Data → Option Data
unless_null null = None
unless_null (boolean b) = Some (boolean b)
unless_null (number n) = Some (number n)
unless_null (string s) = Some (string s)
unless_null (array ds) = Some (array ds)
unless_null (object ms) = Some (object ms)

-- the value of a member that is given
abbrev pub given : List ℕ → Data → Option Data
given name d = option_and_then unless_null (get name d)

-- what a rule says of a member: none where it is left out, and else its value, where it keeps the rule
abbrev pub member_by : {A : Type 0} → (Data → Option A) → List ℕ → Data → Option (Option A)
member_by rule name d = option_map rule (given name d)

-- what may not be left out
abbrev pub needed : {A : Type 0} → Option (Option A) → Option A
needed None = None
needed (Some value) = value

-- what has a default
abbrev pub or_default : {A : Type 0} → A → Option (Option A) → Option A
or_default default None = Some default
or_default default (Some value) = value

-- what may be left out
abbrev pub or_none : {A : Type 0} → Option (Option A) → Option (Option A)
or_none None = Some None
or_none (Some None) = None
or_none (Some (Some x)) = Some (Some x)

-- a member that is refused where it is left out
abbrev pub required : {A : Type 0} → List ℕ → List ℕ → (Data → Option A) → Data → Result A Refusal
required prefix name rule d = or_refused (prefix ++ name) (needed (member_by rule name d))

-- a member with a default
abbrev pub defaulted : {A : Type 0} → List ℕ → List ℕ → (Data → Option A) → A → Data → Result A Refusal
defaulted prefix name rule default d = or_refused (prefix ++ name) (or_default default (member_by rule name d))

-- a member that may be left out
abbrev pub optional : {A : Type 0} → List ℕ → List ℕ → (Data → Option A) → Data → Result (Option A) Refusal
optional prefix name rule d = or_refused (prefix ++ name) (or_none (member_by rule name d))
