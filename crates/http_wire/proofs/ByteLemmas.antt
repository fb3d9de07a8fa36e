-- Facts on pieces of a list of bytes.
use Rattle.std.proofs.Common.{◌≡◌, ℕ, ◌+◌, ◌≤◌, List, ◌++◌, length, take, drop, arith, sym}
use Rattle.std.proofs.lemmas.List.{take-append-drop, drop-drop}
use Rattle.std.proofs.lemmas.Grind.{common_steps}

-- a piece that was copied to the front of a buffer, and what stands after it, are what stood from its start on
pub front-copied : (bytes piece tail : List ℕ) (start count : ℕ) → start + count ≤ length bytes
    → piece ≡ take count (drop start bytes)
    → drop start bytes ≡ take count (piece ++ tail) ++ drop (start + count) bytes
front-copied bytes piece tail start count fits is_piece =
    let long : length piece ≡ count = grind (arith, common_steps) in
    let front : take count (piece ++ tail) ≡ piece = grind (arith, common_steps) in
    rw (front, is_piece, ← (drop-drop count start bytes)) (sym (take-append-drop count (drop start bytes)))
