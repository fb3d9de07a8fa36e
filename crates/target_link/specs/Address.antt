-- The address of a target: what a URL says of it. URLs are read by `url` (WHATWG URL Standard).
use Rattle.std.specs.Prelude.{ℕ, Bool, not, ◌&&◌, if◌then◌else◌, Option, Some, None, Ok, Err, List, [], ◌++◌, codes, is_some, unwrap_or, option_and_then}
use Rattle.std.specs.Option.{option_map}
use Rattle.std.specs.Str.{bytes_eq}
use Rattle.url.specs.Host.{host_text}
use Rattle.url.specs.Parser.{Parsed, parse_url}
use Rattle.url.specs.Parts.{Parts, nonempty_host}
use Rattle.target_link.specs.declared.address.LoopHost.{LoopHost}
use Rattle.target_link.specs.declared.address.LoopHost.TheVariants.{V4, Name, V6}
use Rattle.target_link.specs.declared.address.Address.{Address}
use Rattle.target_link.specs.declared.address.Spot.{Spot}

-- the three hosts of a target, as a URL spells them
abbrev pub loop_host : List ℕ → Option LoopHost
loop_host host =
    if bytes_eq host (codes "127.0.0.1") then Some V4
    else (if bytes_eq host (codes "localhost") then Some Name
    else (if bytes_eq host (codes "[::1]") then Some V6 else None))

-- an http URL without a user, a password and a fragment
abbrev pub is_plain : Parts → Bool
is_plain url =
    bytes_eq url.scheme (codes "http") && bytes_eq url.username [] && bytes_eq url.password []
    && not (is_some url.fragment)

-- the host of a URL, where it is one of a target
abbrev pub target_host : Parts → Option LoopHost
target_host url = option_and_then loop_host (option_map host_text (nonempty_host url))

-- the port of a URL, 80 where it names none
abbrev pub target_port : Parts → ℕ
target_port url = unwrap_or url.port 80

-- the path of a URL and, where it has one, a question mark and the query
abbrev pub target_path : Parts → List ℕ
target_path url = url.path ++ unwrap_or (option_map (λ query. codes "?" ++ query) url.query) []

-- where a URL's target listens, where it is a target's
abbrev pub target_address : Parts → Option Address
target_address url =
    if is_plain url then option_map (λ host. record { host = host; port = target_port url }) (target_host url)
    else None

-- the spot of a URL, where it is a target's
abbrev pub spot_of : Parts → Option Spot
spot_of url = option_map (λ address. record { address = address; path = target_path url }) (target_address url)

-- the spot of what was read as a URL
abbrev pub spot_of_parse : Parsed Parts → Option Spot
spot_of_parse (Ok url) = spot_of url
spot_of_parse (Err fault) = None

-- the spot of a target's arn, where it is a target address
abbrev pub target_spot : List ℕ → Option Spot
target_spot arn = spot_of_parse (parse_url None arn)
