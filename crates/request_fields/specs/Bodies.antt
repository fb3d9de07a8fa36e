-- The body of a request: a JSON object (RFC 8259) as `serde_json` reads it, which keeps the last of a member that is
-- repeated and has the members in the order of their bytes.
use Rattle.std.specs.Prelude.{ℕ, ◌==◌, if◌then◌else◌, Option, Some, None, Result, List, length, codes}
use Rattle.std.specs.Str.{is_utf8}
use Rattle.serde_json.specs.Data.{Data, object, no_members}
use Rattle.serde_json.specs.Read.{read}
use Rattle.sched_calls.specs.declared.reply.Refusal.{Refusal}
use Rattle.sched_calls.specs.Replies.{refusal}
use Rattle.request_fields.specs.Refusals.{or_else_refused}
use Rattle.request_fields.specs.Rows.{an_object}
use Rattle.std.specs.Option.{option_and_then}

-- the JSON value of a body, which is UTF-8
abbrev pub value_of : List ℕ → Option Data
value_of body = if is_utf8 body then read body else None

-- the object of a body; that of an empty body has no member
abbrev pub object_in : List ℕ → Option Data
object_in body = if length body == 0 then Some (object no_members) else option_and_then an_object (value_of body)

-- the object, or the refusal of a body that is none
abbrev pub object_of : List ℕ → Result Data Refusal
object_of body = or_else_refused (refusal 5 400 (codes "body")) (object_in body)
