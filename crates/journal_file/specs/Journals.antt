-- What a journal is to the disk that it is on.
use Rattle.std.specs.Prelude.{◌≡◌, ◌⊎◌, ℕ, ◌+◌, Bool, Option, Some, None, IfSome, List, length}
use Rattle.disk_port.specs.Writes.{written, piece, Torn}
use Rattle.disk_port.specs.Crashes.{NoMore, LeavesSeen, LeavesOnly}
use Rattle.journal_file.specs.Format.{front, Begins, Holds, HoldsEither}

-- what contracts see of a journal: the offset of its closed gate, how long the file may be, and where one record is in
-- doubt the offset of the gate behind it
pub record JournalText : Type 0 where
  pub end : ℕ
  pub limit : ℕ
  pub doubt : Option ℕ

-- some bytes of a file that were read, and their offset
pub record Piece : Type 0 where
  pub start : ℕ
  pub bytes : List ℕ

-- what contracts see of a journal that is being read: the offset of the next gate, how long the file may be, whether that
-- gate was found closed, and what was read ahead
pub record OpeningText : Type 0 where
  pub at : ℕ
  pub limit : ℕ
  pub is_closed : Bool
  pub ahead : Piece

-- the journal that an opening ends with
abbrev pub journal_of : OpeningText → JournalText
journal_of opening = record { end = opening.at; limit = opening.limit; doubt = None }

-- the file has these bytes there
abbrev pub IsPiece : Piece → List ℕ → Type 0
IsPiece ahead file = ahead.bytes ≡ piece file ahead.start (length ahead.bytes)

module _ {D : Type 0} (seen : D → Option (List ℕ)) (image : D → List ℕ → Type 0) where
  -- what a read gives, where the disk tells it, and each file that a crash now may leave pass
  pub record Shows (disk : D) (passes : List ℕ → Type 0) : Type 0 where
    pub read : IfSome (seen disk) passes
    pub images : (file : List ℕ) → image disk file → passes file

  -- a read gave it, or a crash might have left it
  abbrev pub Was : D → List ℕ → Type 0
  Was disk file = (seen disk ≡ Some file) ⊎ image disk file

  -- such a file, as a write of n bytes may have left it
  abbrev pub WasTorn : D → ℕ → ℕ → List ℕ → Type 0
  WasTorn disk at n file = (before : List ℕ) × Was disk before × Torn at n before file

  -- what a read gave, with these bytes written
  abbrev pub WasWritten : D → ℕ → List ℕ → List ℕ → Type 0
  WasWritten disk at bytes file = (before : List ℕ) × (seen disk ≡ Some before) × (file ≡ written before at bytes)

  -- The journal on this disk holds these payloads, whatever happens: it is sound, and its end is theirs.
  pub record Keeps (journal : JournalText) (disk : D) (payloads : List (List ℕ)) : Type 0 where
    pub sound : journal.doubt ≡ None
    pub end : journal.end ≡ length (front payloads)
    pub shows : Shows disk (Holds payloads)

  -- It holds these, or these and one more that is in doubt.
  pub record Doubts (journal : JournalText) (disk : D) (payloads : List (List ℕ)) (payload : List ℕ) : Type 0 where
    pub torn : journal.doubt ≡ Some (journal.end + 5 + length payload)
    pub end : journal.end ≡ length (front payloads)
    pub shows : Shows disk (HoldsEither payloads payload)

  -- The opening has come past these payloads of a file that is at rest.
  pub record Passed (opening : OpeningText) (disk : D) (payloads : List (List ℕ)) : Type 0 where
    pub at : opening.at ≡ length (front payloads)
    pub begins : IfSome (seen disk) (Begins payloads)
    pub ahead : IfSome (seen disk) (IsPiece opening.ahead)
    pub rests : LeavesSeen (seen disk) (image disk)

module _ {D : Type 0} (seen : D → Option (List ℕ)) (image : D → List ℕ → Type 0) (moment : D → ℕ) (since : D → ℕ → List ℕ → Type 0) where
  -- the disk was only read and synced: what a read gives stays, and no image joined those that there were
  pub record OnlyRead (old new : D) : Type 0 where
    pub gives : seen new ≡ seen old
    pub leaves : NoMore (image old) (image new)
    pub left : LeavesOnly moment since old new (image old)
