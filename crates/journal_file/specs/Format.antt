-- The file of a journal: a header, then records behind open gates, then a closed gate. What stands behind the closed gate
-- has no meaning.
use Rattle.std.specs.Prelude.{◌≡◌, ◌≢◌, ℕ, ◌+◌, ◌-◌, ◌<◌, ◌≤◌, ◌⊎◌, List, [], ◌∷◌, ◌++◌, length, take, drop, All}
use Rattle.std.specs.List.{flat_map}
use Rattle.std.specs.Int.{w32, to_be_bytes, from_be_bytes}
use Rattle.journal_file.specs.declared.format.TheConstants.{HEADER, OPEN, CLOSED, LONGEST_PAYLOAD}

-- a payload has a length that a record may have
pub record IsPayload (payload : List ℕ) : Type 0 where
  pub some : 1 ≤ length payload
  pub fits : length payload ≤ LONGEST_PAYLOAD

-- the length of a payload, in four bytes, the highest first
abbrev pub length_bytes : List ℕ → List ℕ
length_bytes payload = to_be_bytes w32 (length payload)

-- a record with its open gate
abbrev pub gated : List ℕ → List ℕ
gated payload = OPEN ∷ (length_bytes payload ++ payload)

-- the frame of a payload, which is written behind a gate before it is opened: its last byte is the next gate, closed
abbrev pub frame_of : List ℕ → List ℕ
frame_of payload = length_bytes payload ++ payload ++ CLOSED ∷ []

-- what stands between the length and the next gate in a frame
abbrev pub payload_of : List ℕ → List ℕ
payload_of frame = take (length frame - 5) (drop 4 frame)

-- a frame of a payload of a length that a record may have
pub record IsFrame (frame : List ℕ) : Type 0 where
  pub sized : IsPayload (payload_of frame)
  pub is : frame ≡ frame_of (payload_of frame)

-- a journal up to the gate behind these payloads
abbrev pub front : List (List ℕ) → List ℕ
front payloads = HEADER ++ flat_map gated payloads

-- a file is a journal up to the gate behind these payloads, and something
pub record Begins (payloads : List (List ℕ)) (file : List ℕ) : Type 0 where
  pub sized : All IsPayload payloads
  pub rest : List ℕ
  pub is : file ≡ front payloads ++ rest

-- a file is a journal of these payloads: the gate behind them is there, and is closed
pub record Holds (payloads : List (List ℕ)) (file : List ℕ) : Type 0 where
  pub sized : All IsPayload payloads
  pub gate : ℕ
  pub rest : List ℕ
  pub closed : gate ≢ OPEN
  pub is : file ≡ front payloads ++ gate ∷ rest

-- a file is a journal of these payloads, or of these and one more
abbrev pub HoldsEither : List (List ℕ) → List ℕ → List ℕ → Type 0
HoldsEither payloads payload file = Holds payloads file ⊎ Holds (payloads ++ payload ∷ []) file

-- no record of these bytes: their length is not all there, is none that a record may have, or is more than there is
abbrev pub IsCut : List ℕ → Type 0
IsCut bytes = (length bytes < 4)
    ⊎ ((from_be_bytes w32 (take 4 bytes) ≡ 0)
    ⊎ ((LONGEST_PAYLOAD < from_be_bytes w32 (take 4 bytes))
    ⊎ (length bytes < 4 + from_be_bytes w32 (take 4 bytes))))

-- where a file goes on so at a gate it is damaged there: the gate is missing, or is open and no record is behind it
abbrev pub IsBad : List ℕ → Type 0
IsBad [] = Unit {0}
IsBad (gate ∷ rest) = (gate ≡ OPEN) × IsCut rest

-- the first byte that is not that of the header, or is missing, is this one
pub record DiffersAt (at : ℕ) (file : List ℕ) : Type 0 where
  pub within : at < length HEADER
  pub same : take at file ≡ take at HEADER
  pub differs : take (at + 1) file ≢ take (at + 1) HEADER

-- a journal without a record
abbrev pub empty_journal : List ℕ
empty_journal = HEADER ++ CLOSED ∷ []

-- how the bytes at a gate begin: with a closed gate
abbrev pub ClosedHead : List ℕ → Type 0
ClosedHead [] = ⊥
ClosedHead (gate ∷ rest) = gate ≢ OPEN

-- with nothing, or an open gate and no length that a record may have
abbrev pub BadHead : List ℕ → Type 0
BadHead [] = Unit {0}
BadHead (gate ∷ rest) = (gate ≡ OPEN)
    × ((length rest < 4) ⊎ ((from_be_bytes w32 (take 4 rest) ≡ 0) ⊎ (LONGEST_PAYLOAD < from_be_bytes w32 (take 4 rest))))

-- with an open gate and the length of a record
abbrev pub RecordHead : ℕ → List ℕ → Type 0
RecordHead len [] = ⊥
RecordHead len (gate ∷ rest) = (gate ≡ OPEN) × (4 ≤ length rest) × (to_be_bytes w32 len ≡ take 4 rest)
    × (from_be_bytes w32 (take 4 rest) ≡ len) × (1 ≤ len) × (len ≤ LONGEST_PAYLOAD)
