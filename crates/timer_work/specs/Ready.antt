-- What is ready to be sent.
use Rattle.std.specs.Prelude.{◌≡◌, ℕ, ◌<◌, ◌≤◌, length, Option, IfSome}
use Rattle.std.specs.Option.{option_map}
use Rattle.timer_work.specs.declared.sweep.request.ReadyRequest.{ReadyRequest}
use Rattle.sched_plain.specs.History.{History}
use Rattle.sched_calls.specs.Serves.{next_number}
use Rattle.timer_work.specs.Sendings.{Request, request_for}

-- the request that is ready, with the room that there is for its reply
abbrev pub request_in : ReadyRequest → Request
request_in ready = record { to = ready.to; text = ready.text.items; room = length ready.reply.items }

-- the same where there is one
abbrev pub request_within : Option ReadyRequest → Option Request
request_within ready = option_map request_in ready

-- it is the request of the next attempt of an occurrence
abbrev pub IsRequestOf : ℕ → ℕ → Option ReadyRequest → History → Type 0
IsRequestOf inc instant ready h = request_within ready ≡ request_for h inc instant (next_number h inc instant)

-- a link has room for it: for so many requests, of so many bytes each
abbrev pub HasRoom : ℕ → ℕ → Option ReadyRequest → Type 0
HasRoom sends bytes ready = IfSome ready (λ request. (0 < sends) × (length request.text.items ≤ bytes))
