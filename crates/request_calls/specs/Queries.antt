-- The query of a request target, as a web form (WHATWG URL Standard): the names that a route knows, each at most once.
use Rattle.std.specs.Prelude.{ℕ, Bool, is_some, if◌then◌else◌, Option, Result, Ok, Err, List, [], ◌∷◌, ◌++◌}
use Rattle.std.specs.List.{find}
use Rattle.std.specs.Option.{option_map}
use Rattle.std.specs.Str.{bytes_eq}
use Rattle.std.specs.Str.Lossy.{utf8_lossy}
use Rattle.form_urlencoded.specs.Form.{decode, raw_pairs}
use Rattle.sched_calls.specs.declared.reply.Refusal.{Refusal}
use Rattle.sched_calls.specs.Replies.{refusal}
use Rattle.request_fields.specs.Members.{is_among}
use Rattle.request_fields.specs.Refusals.{◌giving◌, or_refused}
use Rattle.request_fields.specs.Rows.{needed, or_default, or_none}
use Rattle.request_calls.specs.declared.query.Pair.{Pair}
use Rattle.request_calls.specs.declared.route.Route.{Route}
use Rattle.request_calls.specs.Routes.{names_of}

-- a name and its value, decoded; what is not UTF-8 is replaced
abbrev pub pair_of : List ℕ × List ℕ → Pair
pair_of raw = record { name = utf8_lossy (decode raw.0); value = utf8_lossy (decode raw.1) }

-- the pairs, decoded
abbrev pub decoded : List (List ℕ × List ℕ) → List Pair
decoded [] = []
decoded (raw ∷ more) = pair_of raw ∷ decoded more

-- a pair of this name
abbrev pub is_named : List ℕ → Pair → Bool
is_named name pair = bytes_eq pair.name name

-- the value of a name, where it is given
abbrev pub value_of : List ℕ → List Pair → Option (List ℕ)
value_of name pairs = option_map (λ pair. pair.value) (find (is_named name) pairs)

-- what was found, with one more pair: an unknown name is passed over, a known one that was found before is refused
abbrev pub with_pair : Route → List Pair → Pair → Result (List Pair) Refusal
with_pair route found pair =
    if is_among pair.name (names_of route)
    then (if is_some (value_of pair.name found) then Err (refusal 4 400 pair.name) else Ok (found ++ pair ∷ []))
    else Ok found

-- what was found, with these pairs
abbrev pub gathered : Route → List Pair → List Pair → Result (List Pair) Refusal
gathered route found [] = Ok found
gathered route found (pair ∷ more) = with_pair route found pair giving λ now. gathered route now more

-- the pairs of a query that its route knows, or the name that comes twice
abbrev pub query_of : Route → List ℕ → Result (List Pair) Refusal
query_of route query = gathered route [] (decoded (raw_pairs query))

-- what a rule says of a name: none where it is left out, and else its value, where it keeps the rule
abbrev pub asked_by : {A : Type 0} → (List ℕ → Option A) → List ℕ → List Pair → Option (Option A)
asked_by rule name pairs = option_map rule (value_of name pairs)

-- a name that may not be left out
abbrev pub asked_required : {A : Type 0} → List ℕ → (List ℕ → Option A) → List Pair → Result A Refusal
asked_required name rule pairs = or_refused name (needed (asked_by rule name pairs))

-- a name with a default
abbrev pub asked_or : {A : Type 0} → List ℕ → (List ℕ → Option A) → A → List Pair → Result A Refusal
asked_or name rule default pairs = or_refused name (or_default default (asked_by rule name pairs))

-- a name that may be left out
abbrev pub asked_optional : {A : Type 0} → List ℕ → (List ℕ → Option A) → List Pair → Result (Option A) Refusal
asked_optional name rule pairs = or_refused name (or_none (asked_by rule name pairs))
