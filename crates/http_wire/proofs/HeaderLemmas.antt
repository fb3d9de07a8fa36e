-- Facts on the values of a head's headers.
use Rattle.std.proofs.Common.{◌≡◌, ℕ, ◌+◌, true, false, List, [], ◌∷◌, ◌++◌, length, map, refl, ap, ◌∙◌, if◌then◌else◌, take, get_or, ◌<◌}
use Rattle.std.proofs.lemmas.List.{map-append, take_more}
use Rattle.std.specs.Str.{str_eq_ignore_ascii_case}
use Rattle.httparse.specs.declared.spans.HeaderSpan.{HeaderSpan}
use Rattle.httparse.specs.Spans.{header_bytes, span_bytes}
use Rattle.http_wire.specs.Framing.{values_in}

-- one header more
pub values_in-push : (name : List ℕ) (pairs : List (List ℕ × List ℕ)) (other value : List ℕ)
    → values_in name (pairs ++ (other, value) ∷ []) ≡ values_in name pairs ++ (if str_eq_ignore_ascii_case other name then value ∷ [] else [])
values_in-push name [] other value = refl
values_in-push name ((first, found) ∷ pairs) other value =
    let inner = values_in-push name pairs other value in
    let last : List (List ℕ) = if str_eq_ignore_ascii_case other name then value ∷ [] else [] in
    elim (str_eq_ignore_ascii_case first name)
    as (λ b. (if b then found ∷ values_in name (pairs ++ (other, value) ∷ []) else values_in name (pairs ++ (other, value) ∷ []))
    ≡ (if b then found ∷ values_in name pairs else values_in name pairs) ++ last)
    [ true ↦ ap (λ vs. found ∷ vs) inner | false ↦ inner ]

-- what stands where there is no header
abbrev pub no_header : HeaderSpan
no_header = record { name = record { start = 0; end = 0 }; value = record { start = 0; end = 0 } }

-- the same of the headers up to a place
pub values_in-next : (head name : List ℕ) (headers : List HeaderSpan) (i : ℕ) → i < length headers
    → values_in name (map (header_bytes head) (take (i + 1) headers))
    ≡ values_in name (map (header_bytes head) (take i headers))
    ++ (if str_eq_ignore_ascii_case (span_bytes head (get_or headers i no_header).name) name
    then span_bytes head (get_or headers i no_header).value ∷ [] else [])
values_in-next head name headers i within =
    ap (λ l. values_in name (map (header_bytes head) l)) (take_more headers i no_header within)
    ∙ ap (values_in name) (map-append (header_bytes head) (take i headers) (get_or headers i no_header ∷ []))
    ∙ values_in-push name (map (header_bytes head) (take i headers)) (span_bytes head (get_or headers i no_header).name) (span_bytes head (get_or headers i no_header).value)
