-- What the files of an append hold.
use Rattle.std.proofs.Common.{◌≡◌, ◌≢◌, inl, inr, ℕ, ◌+◌, List, [], ◌∷◌, ◌++◌, length, get_or, drop, refl, sym, ◌∙◌, ap, subst, arith, append_assoc, append-nil, length-append, rules}
use Rattle.std.specs.List.{flat_map, All}
use Rattle.std.proofs.lemmas.Bool.{cases_eq}
use Rattle.std.proofs.lemmas.Grind.{flat_map-append}
use Rattle.std.proofs.lemmas.List.Elements.{All-append}
use Rattle.disk_port.specs.Writes.{written, Torn}
use Rattle.journal_file.specs.declared.format.TheConstants.{HEADER, OPEN, CLOSED}
use Rattle.journal_file.specs.Format.{IsPayload, length_bytes, gated, frame_of, front, Holds, HoldsEither}
use Rattle.journal_file.proofs.TearLemmas.{torn_behind, written_behind, torn_gate, written_gate}

-- a length takes four bytes
pub length-length_bytes : (payload : List ℕ) → length (length_bytes payload) ≡ 4
length-length_bytes payload = refl

-- one payload more
pub front_more : (payloads : List (List ℕ)) (payload : List ℕ) → front (payloads ++ payload ∷ []) ≡ front payloads ++ gated payload
front_more payloads payload =
    ap (λ records. HEADER ++ records) (flat_map-append gated payloads (payload ∷ []) ∙ ap (λ last. flat_map gated payloads ++ last) (append-nil (gated payload)))
    ∙ sym (append_assoc HEADER (flat_map gated payloads) (gated payload))

pub length-front_more : (payloads : List (List ℕ)) (payload : List ℕ) → length (front (payloads ++ payload ∷ [])) ≡ length (front payloads) + 5 + length payload
length-front_more payloads payload =
    let record_long : length (gated payload) ≡ 5 + length payload = omega (arith, length-append (length_bytes payload) payload, length-length_bytes payload) in
    ap length (front_more payloads payload)
    ∙ length-append (front payloads) (gated payload)
    ∙ ap (λ n. length (front payloads) + n) record_long
    ∙ omega arith

-- an open gate before a frame is a record and a closed gate
pub opened : (payloads : List (List ℕ)) (payload rest : List ℕ) → front payloads ++ OPEN ∷ (frame_of payload ++ rest) ≡ front (payloads ++ payload ∷ []) ++ CLOSED ∷ rest
opened payloads payload rest =
    ap (λ back. front payloads ++ OPEN ∷ back) (append_assoc (length_bytes payload ++ payload) (CLOSED ∷ []) rest)
    ∙ sym (append_assoc (front payloads) (gated payload) (CLOSED ∷ rest))
    ∙ ap (λ known. known ++ CLOSED ∷ rest) (sym (front_more payloads payload))

-- a journal of these payloads, with the frame of one more behind its closed gate
pub record Staged (payloads : List (List ℕ)) (payload : List ℕ) (file : List ℕ) : Type 0 where
  pub sized : All IsPayload payloads
  pub gate : ℕ
  pub rest : List ℕ
  pub closed : gate ≢ OPEN
  pub is : file ≡ front payloads ++ gate ∷ (frame_of payload ++ rest)

pub staged_holds : (payloads : List (List ℕ)) (payload file : List ℕ) → Staged payloads payload file → Holds payloads file
staged_holds payloads payload file s = record { sized = s.sized; gate = s.gate; rest = frame_of payload ++ s.rest; closed = s.closed; is = s.is }

-- what a write of a frame that was cut short leaves
pub stage_torn : (payloads : List (List ℕ)) (n : ℕ) (before file : List ℕ) → Holds payloads before → Torn (length (front payloads) + 1) n before file → Holds payloads file
stage_torn payloads n before file h torn = record {
  sized = h.sized;
  gate = h.gate;
  rest = drop (length (front payloads) + 1) file;
  closed = h.closed;
  is = torn_behind (front payloads) h.gate h.rest n file (subst (λ was. Torn (length (front payloads) + 1) n was file) h.is torn);
}

-- what a write of a frame makes
pub stage_written : (payloads : List (List ℕ)) (payload before : List ℕ) → Holds payloads before → Staged payloads payload (written before (length (front payloads) + 1) (frame_of payload))
stage_written payloads payload before h = record {
  sized = h.sized;
  gate = h.gate;
  rest = drop (length (frame_of payload)) h.rest;
  closed = h.closed;
  is =
      ap (λ was. written was (length (front payloads) + 1) (frame_of payload)) h.is
      ∙ written_behind (front payloads) h.gate h.rest (frame_of payload);
}

-- the payloads and one more
pub one_more : (payloads : List (List ℕ)) (payload : List ℕ) → All IsPayload payloads → IsPayload payload → All IsPayload (payloads ++ payload ∷ [])
one_more payloads payload each last = All-append IsPayload payloads (payload ∷ []) each (search (rules, last))

-- a whole frame behind any gate is one of both
either : (payloads : List (List ℕ)) (payload : List ℕ) (gate : ℕ) (rest file : List ℕ) → All IsPayload payloads → IsPayload payload
    → file ≡ front payloads ++ gate ∷ (frame_of payload ++ rest) → HoldsEither payloads payload file
either payloads payload gate rest file each last is = elim (cases_eq gate OPEN) [
  | inl open_gate ↦ inr (record {
    sized = one_more payloads payload each last;
    gate = CLOSED;
    rest = rest;
    closed = λ clash. absurd (omega arith);
    is = is ∙ ap (λ g. front payloads ++ g ∷ (frame_of payload ++ rest)) open_gate ∙ opened payloads payload rest;
  })
  | inr shut ↦ inl (record { sized = each; gate = gate; rest = frame_of payload ++ rest; closed = shut; is = is })
]

-- what a write of the gate that was cut short leaves
pub gate_torn : (payloads : List (List ℕ)) (payload before file : List ℕ) → IsPayload payload → Staged payloads payload before → Torn (length (front payloads)) 1 before file → HoldsEither payloads payload file
gate_torn payloads payload before file last s torn =
    let behind = drop (length (frame_of payload ++ s.rest)) (drop (length (front payloads) + 1) file) in
    either payloads payload (get_or file (length (front payloads)) 0) (s.rest ++ behind) file s.sized last (
    torn_gate (front payloads) s.gate (frame_of payload ++ s.rest) file (subst (λ was. Torn (length (front payloads)) 1 was file) s.is torn)
    ∙ ap (λ back. front payloads ++ get_or file (length (front payloads)) 0 ∷ back) (append_assoc (frame_of payload) s.rest behind)
    )

-- what a write of the gate makes
pub gate_written : (payloads : List (List ℕ)) (payload before : List ℕ) → IsPayload payload → Staged payloads payload before
    → Holds (payloads ++ payload ∷ []) (written before (length (front payloads)) (OPEN ∷ []))
gate_written payloads payload before last s = record {
  sized = one_more payloads payload s.sized last;
  gate = CLOSED;
  rest = s.rest;
  closed = λ clash. absurd (omega arith);
  is =
      ap (λ was. written was (length (front payloads)) (OPEN ∷ [])) s.is
      ∙ written_gate (front payloads) s.gate (frame_of payload ++ s.rest) OPEN
      ∙ opened payloads payload s.rest;
}
