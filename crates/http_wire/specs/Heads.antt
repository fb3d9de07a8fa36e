-- What the reader knows of the bytes of a head while they come.
use Rattle.std.specs.Prelude.{◌≡◌, ℕ, ◌<◌, ◌≤◌, List, [], ◌∷◌, ◌++◌, length, Option}
use Rattle.http_wire.specs.Devices.{Gives}
use Rattle.httparse.specs.Grammar.{RequestHead, ReadsRequest, print_request}
use Rattle.http_wire.specs.declared.limits.TheConstants.{HEAD_LIMIT, HEADER_LIMIT}
use Rattle.http_wire.specs.declared.framing.header_values.Held.{Held}
use Rattle.http_wire.specs.declared.framing.header_values.Held.TheVariants.{Absent, Once, Repeated}

-- a head with at most 64 headers stands at the front of these bytes
pub record BeginsWithHead (bytes : List ℕ) (h : RequestHead) (rest : List ℕ) : Type 0 where
  pub reads : ReadsRequest bytes h rest
  pub fields : length h.fields ≤ HEADER_LIMIT

-- no such head stands at the front
abbrev pub HasNoHead : List ℕ → Type 0
HasNoHead bytes = (h : RequestHead) (rest : List ℕ) → ¬ (BeginsWithHead bytes h rest)

-- no such head will, whatever bytes follow
abbrev pub NeverHasHead : List ℕ → Type 0
NeverHasHead bytes = (more : List ℕ) → HasNoHead (bytes ++ more)

-- these bytes are a head with at most 64 headers, and at most 16,384 of them
pub record IsHead (bytes : List ℕ) : Type 0 where
  pub head : RequestHead
  pub begins : BeginsWithHead bytes head []
  pub short : length bytes ≤ HEAD_LIMIT

-- no head with at most 64 headers in at most 16,384 bytes stands at the front
abbrev pub HasNoShortHead : List ℕ → Type 0
HasNoShortHead bytes =
    (h : RequestHead) (rest : List ℕ) → BeginsWithHead bytes h rest → length (print_request h) ≤ HEAD_LIMIT → ⊥

-- something stands here, and no such head at its front
pub record IsNoShortHead (bytes : List ℕ) : Type 0 where
  pub something : 0 < length bytes
  pub none : HasNoShortHead bytes

-- these are the values of a header, as far as more than one of them matters
abbrev pub HoldsValues : Held → List (List ℕ) → Type 0
HoldsValues Absent values = values ≡ []
HoldsValues (Once value) values = values ≡ value.now ∷ []
HoldsValues Repeated values =
    (first : List ℕ) × (second : List ℕ) × (more : List (List ℕ)) × (values ≡ first ∷ second ∷ more)

-- at least one and at most so many bytes were taken, and added to those of a body
pub record AddsPiece (before : Option (List ℕ)) (body : List ℕ) (most : ℕ) (body' : List ℕ) (after : Option (List ℕ)) : Type 0 where
  pub piece : List ℕ
  pub some : 0 < length piece
  pub within : length piece ≤ most
  pub added : body' ≡ body ++ piece
  pub taken : Gives before piece after

-- no head and something behind it stand at the front of these bytes
abbrev pub HasNothingBehindHead : List ℕ → Type 0
HasNothingBehindHead bytes = (h : RequestHead) (rest : List ℕ) → BeginsWithHead bytes h rest → rest ≡ []

-- bytes were taken at whose front there is no head
pub record TakesNoHead (before after : Option (List ℕ)) : Type 0 where
  pub taken : List ℕ
  pub none : HasNoHead taken
  pub gives : Gives before taken after

-- bytes were taken, and nothing past a head
pub record TakesAtMostHead (before after : Option (List ℕ)) : Type 0 where
  pub taken : List ℕ
  pub within : HasNothingBehindHead taken
  pub gives : Gives before taken after

-- fewer bytes than so many were taken
pub record TakesFewer (bytes : ℕ) (before after : Option (List ℕ)) : Type 0 where
  pub taken : List ℕ
  pub fewer : length taken < bytes
  pub gives : Gives before taken after

-- at most so many bytes were taken
pub record TakesUpTo (bytes : ℕ) (before after : Option (List ℕ)) : Type 0 where
  pub taken : List ℕ
  pub within : length taken ≤ bytes
  pub gives : Gives before taken after
