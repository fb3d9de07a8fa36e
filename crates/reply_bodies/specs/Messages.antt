-- The body of an error.
use Rattle.std.specs.Prelude.{ℕ, List, [], ◌∷◌, ◌++◌, codes, decimal}
use Rattle.json.specs.Print.{print}
use Rattle.sched_calls.specs.declared.reply.Refusal.{Refusal}
use Rattle.reply_bodies.specs.Members.{object_of, text_member}

-- a message, as a body shows it
abbrev pub message_body : List ℕ → List ℕ
message_body message = print (object_of (text_member (codes "Message") message ∷ []))

-- the message of a refusal: the number of the rule that is broken, and what breaks it
abbrev pub refusal_message : Refusal → List ℕ
refusal_message refusal = codes "rule " ++ decimal refusal.rule ++ codes ": " ++ refusal.subject
