-- What stands between an opening and the closing bracket.
use Rattle.std.proofs.Common.{◌≡◌, ℕ, ◌+◌, ◌-◌, ◌<◌, ◌≤◌, Bool, true, false, List, ◌++◌, length, take, drop, refl, sym, ap, ◌∙◌, append_assoc, arith, Some, length-append}
use Rattle.std.specs.Prelude.{codes, nat_eq, nat_lt}
use Rattle.std.specs.List.{starts_with, ends_with}
use Rattle.std.proofs.Math.Seq.{take-append_seam, drop-append_seam}
use Rattle.std.proofs.lemmas.List.{take-append-drop, take_all, drop-drop}
use Rattle.std.proofs.lemmas.Bool.{ltb-true, ltb-false, false≢true}
use Rattle.expressions.specs.Pieces.{inside}
use Rattle.expr_grammar.specs.Answers.{enclosed}
use Rattle.expr_grammar.proofs.Texts.{same_is, is_same}

-- what is enclosed is found inside
pub inside-enclosed : (opening inner : List ℕ) → inside opening (enclosed opening inner) ≡ Some inner
inside-enclosed opening inner =
    let tail : List ℕ = codes ")" in
    let regroup : enclosed opening inner ≡ opening ++ (inner ++ tail) = append_assoc opening inner tail in
    let starts : starts_with nat_eq (enclosed opening inner) opening ≡ true =
    is_same opening _ (sym (ap (take (length opening)) regroup ∙ take-append_seam opening (inner ++ tail))) in
    let front : length (enclosed opening inner) - 1 ≡ length (opening ++ inner) = omega (arith, length-append (opening ++ inner) tail) in
    let ends : ends_with nat_eq (enclosed opening inner) tail ≡ true =
    is_same tail _ (sym (ap (λ n. drop n (enclosed opening inner)) front ∙ drop-append_seam (opening ++ inner) tail)) in
    let count : length (enclosed opening inner) - length opening - 1 ≡ length inner =
    omega (arith, length-append (opening ++ inner) tail, length-append opening inner) in
    let found : take (length (enclosed opening inner) - length opening - 1) (drop (length opening) (enclosed opening inner)) ≡ inner =
    ap (λ n. take n (drop (length opening) (enclosed opening inner))) count
    ∙ ap (take (length inner)) (ap (drop (length opening)) regroup ∙ drop-append_seam opening (inner ++ tail))
    ∙ take-append_seam inner tail in
    rw (starts, ends) (ap (λ x. Some x) found)

-- a text longer than its opening
pub longer : (opening text : List ℕ) → starts_with nat_eq text opening ≡ true → ends_with nat_eq text (codes ")") ≡ true →
    ends_with nat_eq opening (codes ")") ≡ false → length opening < length text
longer opening text starts ends bracket = by_case (nat_lt (length opening) (length text)) refl where
  by_case : (test : Bool) → nat_lt (length opening) (length text) ≡ test → length opening < length text
  by_case true is = ltb-true _ _ is
  by_case false is =
      let short : length text ≤ length opening = ltb-false _ _ is in
      let equal : opening ≡ text = same_is opening _ starts ∙ take_all (length opening) text short in
      absurd (false≢true (sym bracket ∙ ap (λ x. ends_with nat_eq x (codes ")")) equal ∙ ends))

pub whole : (opening text : List ℕ) → starts_with nat_eq text opening ≡ true → ends_with nat_eq text (codes ")") ≡ true →
    length opening < length text → text ≡ enclosed opening (take (length text - length opening - 1) (drop (length opening) text))
whole opening text starts ends long =
    let front : opening ≡ take (length opening) text = same_is opening _ starts in
    let back : codes ")" ≡ drop (length text - 1) text = same_is (codes ")") _ ends in
    let count : ℕ = length text - length opening - 1 in
    let sum : length opening + count ≡ length text - 1 = omega arith in
    let rest : drop (length opening) text ≡ take count (drop (length opening) text) ++ codes ")" =
    sym (take-append-drop count (drop (length opening) text))
    ∙ ap (λ x. take count (drop (length opening) text) ++ x)
    (drop-drop count (length opening) text ∙ ap (λ n. drop n text) sum ∙ sym back) in
    sym (take-append-drop (length opening) text)
    ∙ ap (λ x. x ++ drop (length opening) text) (sym front)
    ∙ ap (λ x. opening ++ x) rest
    ∙ sym (append_assoc opening (take count (drop (length opening) text)) (codes ")"))
