-- What was read ahead of a file.
use Rattle.std.specs.Prelude.{◌≡◌, ◌⊎◌, ℕ, ◌-◌, ◌≤◌, nat_lt, if◌then◌else◌, List, [], length, drop}
use Rattle.journal_file.specs.declared.head.TheConstants.{HEAD}
use Rattle.journal_file.specs.Journals.{Piece}

-- the bytes of it from an offset on
abbrev pub part_of : Piece → ℕ → List ℕ
part_of ahead at = if nat_lt at ahead.start then [] else drop (at - ahead.start) ahead.bytes

-- they are as many as a gate and a length have, or all that the file has there
abbrev pub Reaches : Piece → ℕ → List ℕ → Type 0
Reaches ahead at file = (HEAD ≤ length (part_of ahead at)) ⊎ (part_of ahead at ≡ drop at file)
