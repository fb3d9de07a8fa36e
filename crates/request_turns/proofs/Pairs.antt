-- A query has no more pairs than bytes.
use Rattle.std.proofs.Common.{◌≡◌, ℕ, suc, ◌≤◌, ◌==◌, Bool, true, false, if◌then◌else◌, List, [], ◌∷◌, length, map, filter, refl, ap, arith}
use Rattle.std.proofs.lemmas.Bool.Decides.{nat_tests}
use Rattle.std.proofs.lemmas.List.{length-map}
use Rattle.form_urlencoded.specs.Form.{ampersand, onto_first, split, split_pair, is_nonempty, raw_pairs}
use Rattle.request_calls.specs.Queries.{decoded}

-- how many pieces are not empty
abbrev pieces : List (List ℕ) → ℕ
pieces all = length (filter is_nonempty all)

-- a piece with a byte counts
filled : (b : ℕ) (piece : List ℕ) → is_nonempty (b ∷ piece) ≡ true
filled b piece = grind (arith, nat_tests)

one_more : (b : ℕ) (piece : List ℕ) (all : List (List ℕ)) → pieces ((b ∷ piece) ∷ all) ≡ suc (pieces all)
one_more b piece all = rw (filled b piece) refl

-- a byte more makes at most one such piece more
onto_pieces : (b : ℕ) (all : List (List ℕ)) → pieces (onto_first b all) ≤ suc (pieces all)
onto_pieces b [] = omega (arith, one_more b [] [])
onto_pieces b ([] ∷ all) = omega (arith, one_more b [] all)
onto_pieces b ((x ∷ piece) ∷ all) = omega (arith, one_more b (x ∷ piece) all, one_more x piece all)

split_step : (b mark : ℕ) (is_mark : Bool) (more : List (List ℕ)) (n : ℕ) → pieces more ≤ n
    → pieces (if is_mark then [] ∷ more else onto_first b more) ≤ suc n
split_step b mark true more n few = omega arith
split_step b mark false more n few = omega (arith, onto_pieces b more)

few_pieces : (mark : ℕ) (bytes : List ℕ) → pieces (split mark bytes) ≤ length bytes
unfolding split
few_pieces mark [] = omega arith
few_pieces mark (b ∷ bytes) = split_step b mark (b == mark) (split mark bytes) (length bytes) (few_pieces mark bytes)

decoded_length : (raw : List (List ℕ × List ℕ)) → length (decoded raw) ≡ length raw
decoded_length [] = refl
decoded_length (pair ∷ raw) = ap (λ n. suc n) (decoded_length raw)

pub few_pairs : (query : List ℕ) → length (decoded (raw_pairs query)) ≤ length query
unfolding raw_pairs
few_pairs query =
    let pairs = filter is_nonempty (split ampersand query) in
    omega (arith, decoded_length (map split_pair pairs), length-map pairs split_pair, few_pieces ampersand query)
