-- What a shelf of time zones holds: under each name the bytes that are kept, and those that can be kept without memory.
use Rattle.std.specs.Prelude.{◌≡◌, ℕ, ◌<◌, Bool, true, false, Option, Some, None, List, length, slice_index_or}
use Rattle.std.specs.List.{list_any}
use Rattle.std.specs.Map.{lookup}
use Rattle.plain_words.specs.Lists.{same_text}

-- under one name: the bytes that are kept, if any are, and those that lie ready to be kept
pub record Placed : Type 0 where
  pub kept : Option (List ℕ)
  pub ready : List (List ℕ)

-- names with what stands under them
abbrev pub Places : Type 0
Places = List (List ℕ × Placed)

-- what stands under a name, if anything does
abbrev pub place_under : Places → List ℕ → Option Placed
place_under places name = lookup (same_text name) places

-- the bytes that are kept in what may be a place
abbrev pub kept_on : Option Placed → Option (List ℕ)
kept_on None = None
kept_on (Some place) = place.kept

-- the bytes are among some
abbrev pub is_among : List ℕ → List (List ℕ) → Bool
is_among bytes all = list_any (same_text bytes) all

-- some bytes stand at a place, from 0
pub record IsPlaceOf (all : List (List ℕ)) (bytes : List ℕ) (at : ℕ) : Type 0 where
  pub within : at < length all
  pub is : (d : List ℕ) → slice_index_or all at d ≡ bytes

-- the bytes lie ready in what may be a place
abbrev pub is_ready_on : List ℕ → Option Placed → Bool
is_ready_on bytes None = false
is_ready_on bytes (Some place) = is_among bytes place.ready

-- the bytes that are kept under a name
abbrev pub bytes_in : Places → List ℕ → Option (List ℕ)
bytes_in places name = kept_on (place_under places name)

-- the bytes can be kept under a name without memory
abbrev pub HasRoom : Places → List ℕ → List ℕ → Type 0
HasRoom places name bytes = is_ready_on bytes (place_under places name) ≡ true
