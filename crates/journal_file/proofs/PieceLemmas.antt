-- Pieces of a file that were read ahead.
use Rattle.std.proofs.Common.{◌≡◌, ◌⊎◌, inl, inr, ℕ, ◌+◌, ◌-◌, ◌<◌, ◌≤◌, true, false, nat_lt, List, [], length, take, drop, refl, sym, ◌∙◌, ap, subst, arith, length-take, length-drop}
use Rattle.std.proofs.lemmas.List.{length-take-le, take_min, take_all, drop_all, drop-take, drop-drop}
use Rattle.std.proofs.lemmas.Bool.{cases_lt}
use Rattle.std.proofs.lemmas.Bool.Decides.{nat_tests}
use Rattle.disk_port.specs.Writes.{piece}
use Rattle.journal_file.specs.declared.ahead.TheConstants.{BLOCK}
use Rattle.journal_file.specs.declared.head.TheConstants.{HEAD}
use Rattle.journal_file.specs.Ahead.{part_of, Reaches}
use Rattle.journal_file.specs.Journals.{Piece, IsPiece}

-- a part of what the file has there is what the file has there
pub part_piece : (bytes file : List ℕ) (start skip n : ℕ) → skip + n ≤ length bytes → take (skip + n) bytes ≡ piece file start (length (take (skip + n) bytes))
    → take n (drop skip bytes) ≡ piece file (start + skip) n
part_piece bytes file start skip n fits is =
    sym (drop-take skip n bytes)
    ∙ ap (drop skip) (is ∙ ap (piece file start) (length-take-le (skip + n) bytes fits))
    ∙ drop-take skip n (drop start file)
    ∙ ap (take n) (drop-drop skip start file)

-- the same from one offset to another
pub part_at : (bytes file : List ℕ) (start at count : ℕ) → start ≤ at → at - start < count → count ≤ length bytes → take count bytes ≡ piece file start (length (take count bytes))
    → take (count - (at - start)) (drop (at - start) bytes) ≡ piece file at (length (take (count - (at - start)) (drop (at - start) bytes)))
part_at bytes file start at count le lt fits is =
    let skip = at - start in
    let n = count - (at - start) in
    let whole : skip + n ≡ count = omega arith in
    let there : start + skip ≡ at = omega arith in
    let long : length (take n (drop skip bytes)) ≡ n = length-take-le n (drop skip bytes) (omega (arith, length-drop skip bytes)) in
    let same : take (skip + n) bytes ≡ piece file start (length (take (skip + n) bytes)) = rw whole is in
    part_piece bytes file start skip n (omega arith) same
    ∙ ap (λ k. piece file k n) there
    ∙ ap (piece file at) (sym long)

-- what a read ahead gave is a piece of the file
pub filled_piece : (bytes file : List ℕ) (start most : ℕ) → bytes ≡ piece file start most → bytes ≡ piece file start (length bytes)
filled_piece bytes file start most is =
    let X = drop start file in
    is ∙ sym (take_min most X) ∙ ap (λ n. take n X) (sym (length-take most X)) ∙ ap (λ n. take n X) (sym (ap length is))

-- and it reaches as far as it has to
pub filled_reaches : (bytes file : List ℕ) (start most least : ℕ) → least ≤ most → bytes ≡ piece file start most → (least ≤ length bytes) ⊎ (bytes ≡ drop start file)
filled_reaches bytes file start most least le is =
    let X = drop start file in
    elim (cases_lt (length X) most) [
      | inl short ↦ inr (is ∙ take_all most X (omega arith))
      | inr there ↦ inl (omega (arith, ap length is, length-take-le most X there))
    ]

-- the part from its start on is all of it
start_part : (bytes : List ℕ) (start at : ℕ) → start ≡ at → part_of (record { start = start; bytes = bytes }) at ≡ bytes
start_part bytes start at is =
    let none : at - start ≡ 0 = omega arith in
    let not_below : nat_lt at start ≡ false = grind (arith, nat_tests) in
    rw (not_below, none) refl

pub filled_look : (ahead : Piece) (at : ℕ) (file : List ℕ) → ahead.start ≡ at → ahead.bytes ≡ piece file at BLOCK → Reaches ahead at file
filled_look ahead at file starts is =
    subst (λ (part : List ℕ). (HEAD ≤ length part) ⊎ (part ≡ drop at file)) (sym (start_part ahead.bytes ahead.start at starts))
    (filled_reaches ahead.bytes file at BLOCK HEAD (omega arith) is)

part_within : (bytes file : List ℕ) (start skip : ℕ) → skip ≤ length bytes → bytes ≡ piece file start (length bytes) → drop skip bytes ≡ piece file (start + skip) (length (drop skip bytes))
part_within bytes file start skip le is =
    let n = length bytes - skip in
    let all : take (skip + n) bytes ≡ bytes = take_all (skip + n) bytes (omega arith) in
    let long : length (drop skip bytes) ≡ n = length-drop skip bytes in
    let same : take (skip + n) bytes ≡ piece file start (length (take (skip + n) bytes)) = rw all is in
    sym (take_all n (drop skip bytes) (omega arith))
    ∙ part_piece bytes file start skip n (omega arith) same
    ∙ ap (piece file (start + skip)) (sym long)

-- each part of what was read ahead is a piece of the file
pub part_is_piece : (ahead : Piece) (at : ℕ) (file : List ℕ) → IsPiece ahead file → part_of ahead at ≡ piece file at (length (part_of ahead at))
part_is_piece ahead at file is = elim (cases_lt at ahead.start) [
  | inl below ↦
      let test : nat_lt at ahead.start ≡ true = grind (arith, nat_tests) in
      rw test refl
  | inr le ↦
      let test : nat_lt at ahead.start ≡ false = grind (arith, nat_tests) in
      let there : ahead.start + (at - ahead.start) ≡ at = omega arith in
      rw test (elim (cases_lt (length ahead.bytes) (at - ahead.start)) [
        | inl past ↦
            let none : drop (at - ahead.start) ahead.bytes ≡ [] = drop_all (at - ahead.start) ahead.bytes (omega arith) in
            rw none refl
        | inr within ↦
            part_within ahead.bytes file ahead.start (at - ahead.start) within is
            ∙ ap (λ place. piece file place (length (drop (at - ahead.start) ahead.bytes))) there
      ])
]
