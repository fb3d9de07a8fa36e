-- What a file in memory has gone through, the newest first, and what it makes of the file.
use Rattle.std.specs.Prelude.{◌≡◌, ◌⊎◌, ℕ, ◌+◌, ◌≤◌, Bool, nat_lt, if◌then◌else◌, List, [], ◌∷◌, length, replicate}
use mathlib.Core.Logic.{inl, inr}
use Rattle.std.proofs.Math.Nat.{lt_irrefl}
use Rattle.disk_port.specs.Writes.{written, Torn}
use Rattle.disk_port.specs.declared.event.Event.{Event}
use Rattle.disk_port.specs.declared.event.Event.TheVariants.{Written, Synced}

-- what a read gives of a file that held this at first
abbrev pub seen_of : List ℕ → List Event → List ℕ
seen_of first [] = first
seen_of first (Written at bytes ∷ past) = written (seen_of first past) at bytes
seen_of first (Synced ∷ past) = seen_of first past

-- a crash may leave this: what was there at the last sync, with each write since then whole or in any part
abbrev pub IsImage : List ℕ → List Event → List ℕ → Type 0
IsImage first [] file = file ≡ first
IsImage first (Written at bytes ∷ past) file =
    (before : List ℕ) × IsImage first past before × Torn at (length bytes) before file
IsImage first (Synced ∷ past) file = file ≡ seen_of first past

-- how many writes there were since the last sync
abbrev pub unsynced : List Event → ℕ
unsynced [] = 0
unsynced (Written at bytes ∷ past) = unsynced past + 1
unsynced (Synced ∷ past) = 0

-- these bytes, or as many of one value in their place
abbrev pub whole_or : Bool → ℕ → List ℕ → List ℕ
whole_or is_whole fill bytes = if is_whole then bytes else replicate (length bytes) fill

-- the image with so many of the writes since the last sync whole, and one value in the ranges of the later ones
abbrev pub image_of : ℕ → ℕ → List ℕ → List Event → List ℕ
image_of keep fill first [] = first
image_of keep fill first (Written at bytes ∷ past) =
    written (image_of keep fill first past) at (whole_or (nat_lt (unsynced past) keep) fill bytes)
image_of keep fill first (Synced ∷ past) = seen_of first past

-- at some moment since that one, counted by what the file has gone through, this passed
abbrev pub Since : (List Event → List ℕ → Type 0) → List Event → ℕ → List ℕ → Type 0
Since passes [] moment file = passes [] file
Since passes (event ∷ past) moment file =
    passes (event ∷ past) file ⊎ ((moment ≤ length past) × Since passes past moment file)

-- what passes now passed at some moment since an earlier one
pub since_now : (passes : List Event → List ℕ → Type 0) (past : List Event) (moment : ℕ) (file : List ℕ) → passes past file → Since passes past moment file
since_now passes [] moment file now = now
since_now passes (event ∷ past) moment file now = inl now

-- what passed at some moment since now passes now
pub only_since : (passes : List Event → List ℕ → Type 0) (past : List Event) (file : List ℕ) → Since passes past (length past) file → passes past file
only_since passes [] file since = since
only_since passes (event ∷ past) file (inl now) = now
only_since passes (event ∷ past) file (inr before) = absurd (lt_irrefl (length past) before.0)

-- a read gives this
abbrev pub IsSeen : List ℕ → List Event → List ℕ → Type 0
IsSeen first past file = file ≡ seen_of first past
