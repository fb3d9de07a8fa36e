-- Lemmas on cut texts: a text begins with its first part, and with its first word behind its spaces.
use Rattle.std.proofs.Common.{◌≡◌, ◌≢◌, ℕ, suc, ◌+◌, ◌<◌, ◌≤◌, Bool, true, false, List, [], ◌∷◌, length, take, drop, get_or, Option, Some, None, eq-eqb, refl, sym, ap, ◌∙◌, add-zero, add_assoc, arith}
use Rattle.std.proofs.lemmas.List.Folds.{length-prefix_len}
use Rattle.std.specs.Prelude.{◌==◌, nat_lt, not, position, unwrap_or}
use Rattle.std.proofs.lemmas.Bool.{ltb-false, ltb-true, eqb-true}
use Rattle.std.proofs.lemmas.List.{take_all, drop_all}
use Rattle.std.proofs.lemmas.List.Sums.{passes_at_first}
use Rattle.std.proofs.Math.Seq.{drop-cons}
use Rattle.std.proofs.lemmas.List.Sums.{prefix_len-le-length}
use Rattle.std.specs.List.{position_or_len}
use Rattle.expressions.specs.Pieces.{Piece, cut, placed_words, placed_words_among}

-- where the first byte c stands, or the length
abbrev pub first_place : ℕ → List ℕ → ℕ
first_place c text = position_or_len (λ b. b == c) text

-- how many spaces are in front
abbrev pub space_count : List ℕ → ℕ
space_count text = position_or_len (λ b. not (b == 32)) text

-- a text begins with its first part; behind it is nothing, or the byte at which it is cut
pub record Parts (c : ℕ) (text : List ℕ) : Type 0 where
  pub more : List (List ℕ)
  pub all : cut c text ≡ take (first_place c text) text ∷ more
  pub rest : cut c (drop (first_place c text) text) ≡ [] ∷ more

one_more : (n : ℕ) → 1 + n ≡ suc n
one_more n = omega arith

parts_at : (c b : ℕ) (bs : List ℕ) (here : Bool) → (b == c) ≡ here → Parts c bs → Parts c (b ∷ bs)
parts_at c b bs true is p = record { more = cut c bs; all = rw is refl; rest = rw (is, is) refl }
parts_at c b bs false is p = record {
  more = p.more;
  all = rw (is, one_more, p.all) refl;
  rest = rw (is, one_more) p.rest;
}

pub parts_of : (c : ℕ) (text : List ℕ) → Parts c text
parts_of c [] = record { more = []; all = refl; rest = refl }
parts_of c (b ∷ bs) = parts_at c b bs (b == c) refl (parts_of c bs)

-- the piece of a text's first bytes
abbrev pub front_piece : ℕ → ℕ → List ℕ → Piece
front_piece place n text = record { place = place; text = take n text }

-- a word of words
words_of_parts : (place : ℕ) (word : List ℕ) (more : List (List ℕ)) → 0 < length word →
    placed_words_among place (word ∷ more) ≡ record { place = place; text = word } ∷ placed_words_among (place + length word + 1) more
words_of_parts place [] more some = absurd (omega (arith, some))
words_of_parts place (b ∷ bs) more some = refl

-- a text that does not begin with a space begins with a word
pub first_word : (place : ℕ) (text : List ℕ) → 0 < first_place 32 text →
    placed_words place text
    ≡ front_piece place (first_place 32 text) text ∷ placed_words (place + first_place 32 text) (drop (first_place 32 text) text)
first_word place text some =
    let p = parts_of 32 text in
    let long : length (take (first_place 32 text) text) ≡ first_place 32 text = length-prefix_len _ text in
    let filled : 0 < length (take (first_place 32 text) text) = omega arith in
    ap (placed_words_among place) p.all
    ∙ words_of_parts place _ p.more filled
    ∙ ap (λ n. front_piece place (first_place 32 text) text ∷ placed_words_among (place + n + 1) p.more) long
    ∙ ap (λ parts. front_piece place (first_place 32 text) text ∷ placed_words_among (place + first_place 32 text) parts) (sym p.rest)

no_word_at : (place b : ℕ) (bs : List ℕ) (here : Bool) → (b == 32) ≡ here →
    (first_place 32 (drop (space_count bs) bs) ≡ 0 → placed_words (place + 1) bs ≡ []) →
    first_place 32 (drop (space_count (b ∷ bs)) (b ∷ bs)) ≡ 0 → placed_words place (b ∷ bs) ≡ []
no_word_at place b bs true is later none =
    rw is (later (rw (is, one_more) at none))
no_word_at place b bs false is later none = absurd (let some : 1 + first_place 32 bs ≡ 0 = rw (is, is) at none in omega arith)

-- a text of spaces alone has no word
pub no_word : (place : ℕ) (text : List ℕ) → first_place 32 (drop (space_count text) text) ≡ 0 → placed_words place text ≡ []
no_word place [] none = refl
no_word place (b ∷ bs) none = no_word_at place b bs (b == 32) refl (no_word (place + 1) bs) none

skip_at : (place b : ℕ) (bs : List ℕ) (here : Bool) → (b == 32) ≡ here →
    ((from : ℕ) → placed_words from bs ≡ placed_words (from + space_count bs) (drop (space_count bs) bs)) →
    placed_words place (b ∷ bs) ≡ placed_words (place + space_count (b ∷ bs)) (drop (space_count (b ∷ bs)) (b ∷ bs))
skip_at place b bs true is later =
    rw (is, one_more) (later (place + 1) ∙ ap (λ n. placed_words n (drop (space_count bs) bs)) (add_assoc place 1 (space_count bs) ∙ ap (λ n. place + n) (one_more (space_count bs))))
skip_at place b bs false is later = rw (is, is, add-zero) refl

-- spaces in front belong to no word
pub skip_spaces : (place : ℕ) (text : List ℕ) → placed_words place text ≡ placed_words (place + space_count text) (drop (space_count text) text)
skip_spaces place [] = refl
skip_spaces place (b ∷ bs) = skip_at place b bs (b == 32) refl (λ from. skip_spaces from bs)

-- the first place or the length, by the first place
pub place_or_length : (p : ℕ → Bool) (xs : List ℕ) → unwrap_or (position p xs) (length xs) ≡ position_or_len p xs
place_or_length p xs = by_test (nat_lt (position_or_len p xs) (length xs)) refl where
  by_test : (within : Bool) → nat_lt (position_or_len p xs) (length xs) ≡ within → unwrap_or (position p xs) (length xs) ≡ position_or_len p xs
  by_test true is = rw is refl
  by_test false is = rw is (let past : length xs ≤ position_or_len p xs = ltb-false _ _ is in omega (arith, prefix_len-le-length (λ x. not (p x)) xs))

pub place_within : (p : ℕ → Bool) (xs : List ℕ) → position_or_len p xs ≤ length xs
place_within p xs = prefix_len-le-length (λ x. not (p x)) xs

-- the words of a text by its front: spaces, a word, the rest
pub word_behind : (place spaces count : ℕ) (text front word rest : List ℕ) → spaces ≡ space_count text → front ≡ drop spaces text →
    count ≡ first_place 32 front → count ≢ 0 → word ≡ take count front → rest ≡ drop count front →
    placed_words place text ≡ record { place = place + spaces; text = word } ∷ placed_words (place + spaces + count) rest
word_behind place spaces count text front word rest s f n some w r =
    let filled : 0 < first_place 32 front = omega arith in
    skip_spaces place text
    ∙ ap (λ k. placed_words (place + k) (drop k text)) (sym s)
    ∙ ap (placed_words (place + spaces)) (sym f)
    ∙ first_word (place + spaces) front filled
    ∙ ap (λ k. front_piece (place + spaces) k front ∷ placed_words (place + spaces + k) (drop k front)) (sym n)
    ∙ ap (λ t. record { place = place + spaces; text = t } ∷ placed_words (place + spaces + count) (drop count front)) (sym w)
    ∙ ap (λ t. record { place = place + spaces; text = word } ∷ placed_words (place + spaces + count) t) (sym r)

pub no_word_behind : (place spaces count : ℕ) (text front : List ℕ) → spaces ≡ space_count text → front ≡ drop spaces text →
    count ≡ first_place 32 front → count ≡ 0 → placed_words place text ≡ []
no_word_behind place spaces count text front s f n none =
    no_word place text (ap (λ k. first_place 32 (drop k text)) (sym s) ∙ ap (first_place 32) (sym f) ∙ sym n ∙ none)

past_of_none : (p : ℕ → Bool) (xs : List ℕ) → position p xs ≡ None → length xs ≤ position_or_len p xs
past_of_none p xs none = by_test (nat_lt (position_or_len p xs) (length xs)) refl where
  by_test : (within : Bool) → nat_lt (position_or_len p xs) (length xs) ≡ within → length xs ≤ position_or_len p xs
  by_test true is = let e : Some (position_or_len p xs) ≡ None = (rw is at none) in cc
  by_test false is = ltb-false _ _ is

place_of_some : (p : ℕ → Bool) (xs : List ℕ) (at : ℕ) → position p xs ≡ Some at → (position_or_len p xs ≡ at) × (at < length xs)
place_of_some p xs at some = by_test (nat_lt (position_or_len p xs) (length xs)) refl where
  by_test : (within : Bool) → nat_lt (position_or_len p xs) (length xs) ≡ within → (position_or_len p xs ≡ at) × (at < length xs)
  by_test true is =
      let e : Some (position_or_len p xs) ≡ Some at = (rw is at some) in
      let same : position_or_len p xs ≡ at = cc in
      let low : position_or_len p xs < length xs = ltb-true _ _ is in
      (same, omega arith)
  by_test false is = let e : ◌≡◌ {A = Option ℕ} None (Some at) = (rw is at some) in cc

passes_at : (text : List ℕ) (c at : ℕ) → first_place c text ≡ at → at < length text → (get_or text at 0 == c) ≡ true
passes_at text c at is within =
    let low : first_place c text < length text = omega arith in
    ap (λ n. get_or text n 0 == c) (sym is) ∙ passes_at_first (λ b. b == c) text 0 low

-- a text without the byte is one part
pub one_part : (c : ℕ) (text : List ℕ) → position (λ b. b == c) text ≡ None → cut c text ≡ text ∷ []
one_part c text none =
    let p = parts_of c text in
    let past : length text ≤ first_place c text = past_of_none _ _ none in
    let whole : take (first_place c text) text ≡ text = take_all _ text past in
    let nothing : drop (first_place c text) text ≡ [] = drop_all _ text past in
    let more : p.more ≡ [] = let e : [] ∷ [] ≡ [] ∷ p.more = ap (cut c) (sym nothing) ∙ p.rest in cc in
    p.all ∙ (rw (whole, more) refl)

pub same_byte : (c : ℕ) → (c == c) ≡ true
same_byte c = eq-eqb c c refl

-- a text goes on behind its first byte at which it is cut
pub first_part : (c at : ℕ) (text front back rest : List ℕ) → position (λ b. b == c) text ≡ Some at →
    front ≡ take at text → back ≡ drop at text → rest ≡ drop 1 back → cut c text ≡ front ∷ cut c rest
first_part c at text front back rest some f b r =
    let is : (first_place c text ≡ at) × (at < length text) = place_of_some _ text at some in
    let p = parts_of c text in
    let here : get_or text at 0 ≡ c = eqb-true _ _ (passes_at text c at is.0 is.1) in
    let cons : drop at text ≡ c ∷ drop (suc at) text = drop-cons text at 0 is.1 ∙ ap (λ x. x ∷ drop (suc at) text) here in
    let tail : rest ≡ drop (suc at) text = r ∙ ap (drop 1) (b ∙ cons) in
    let more : p.more ≡ cut c rest =
    let e : [] ∷ p.more ≡ [] ∷ cut c (drop (suc at) text) =
    sym p.rest ∙ ap (λ n. cut c (drop n text)) is.0 ∙ ap (cut c) cons ∙ (rw (same_byte c) refl) in
    let e2 : p.more ≡ cut c (drop (suc at) text) = cc in e2 ∙ ap (cut c) (sym tail) in
    p.all ∙ ap (λ x. take x text ∷ p.more) is.0 ∙ ap (λ x. x ∷ p.more) (sym f) ∙ ap (λ x. front ∷ x) more

pub three_parts : (c : ℕ) (text front rest second third : List ℕ) → cut c text ≡ front ∷ cut c rest → cut c rest ≡ second ∷ cut c third →
    (x : List ℕ) × (y : List ℕ) × (z : List ℕ) × (more : List (List ℕ)) × (cut c text ≡ x ∷ y ∷ z ∷ more)
three_parts c text front rest second third one two =
    let p = parts_of c third in
    (front, second, take (first_place c third) third, p.more, one ∙ ap (λ x. front ∷ x) two ∙ ap (λ x. front ∷ second ∷ x) p.all)
