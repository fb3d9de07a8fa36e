-- What a link tells: the requests that it was handed, in order, each with the room for its reply and what came back.
use Rattle.std.specs.Prelude.{ℕ, Option, Result, Ok, Err, List, [], ◌∷◌, ◌++◌, take}
use Rattle.std.specs.Option.{option_map}
use Rattle.target_link.specs.declared.address.Address.{Address}
use Rattle.target_link.specs.declared.link.Lost.{Lost}
use Rattle.target_link.specs.declared.link.Sent.{Sent}
use Rattle.target_link.specs.declared.link.Heard.{Heard}
use Rattle.target_link.specs.declared.link.Heard.TheVariants.{Reply, Loss}

-- what a call of a link brought back, of what it answered and of the bytes that it left in the reply
abbrev pub heard_by : Result ℕ Lost → List ℕ → Heard
heard_by (Ok n) bytes = Reply (take n bytes)
heard_by (Err _) bytes = Loss

-- what a link tells after one more request, handed with room for so many bytes of a reply, where it tells
abbrev pub with_sent : Address → List ℕ → ℕ → Heard → Option (List Sent) → Option (List Sent)
with_sent to request room answer told =
    option_map (λ sent. sent ++ record { to = to; request = request; room = room; heard = answer } ∷ []) told
