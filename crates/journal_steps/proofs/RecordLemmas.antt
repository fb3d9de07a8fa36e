-- The record at the front of bytes is one.
use Rattle.std.proofs.Common.{◌≡◌, inl, inr, ℕ, ◌+◌, ◌<◌, ◌^◌, List, ◌++◌, length, take, drop, refl, sym, ◌∙◌, ap, arith, append_assoc, length-append}
use Rattle.std.specs.Int.{w32, to_be_bytes, from_be_bytes}
use Rattle.std.proofs.lemmas.List.{take_at, append_cancel_left}
use Rattle.std.proofs.lemmas.Nat.{from_be_bytes-to_be_bytes_4}
use Rattle.journal_file.specs.Format.{IsPayload, length_bytes, gated, IsBad, IsCut}

-- the length that stands in front of a payload
size_of : (p r : List ℕ) → IsPayload p → from_be_bytes w32 (take 4 ((length_bytes p ++ p) ++ r)) ≡ length p
size_of p r sized =
    let small : length p < 2 ^ 32 = omega (arith, sized.fits) in
    ap (λ x. from_be_bytes w32 (take 4 x)) (append_assoc (length_bytes p) p r)
    ∙ ap (from_be_bytes w32) (take_at (length_bytes p) (p ++ r) 4 refl)
    ∙ from_be_bytes-to_be_bytes_4 (length p) small

-- two records at the front of the same bytes are one, and what is behind it is the same
pub one_record : (p q r s : List ℕ) → IsPayload p → IsPayload q → gated p ++ r ≡ gated q ++ s → (p ≡ q) × (r ≡ s)
one_record p q r s sized_p sized_q same =
    let bodies : (length_bytes p ++ p) ++ r ≡ (length_bytes q ++ q) ++ s = ap (drop 1) same in
    let long : length p ≡ length q = sym (size_of p r sized_p) ∙ ap (λ x. from_be_bytes w32 (take 4 x)) bodies ∙ size_of q s sized_q in
    let heads : length_bytes p ≡ length_bytes q = ap (to_be_bytes w32) long in
    let tails : p ++ r ≡ q ++ s =
    append_cancel_left (length_bytes q) (p ++ r) (q ++ s)
    (ap (λ x. x ++ (p ++ r)) (sym heads) ∙ sym (append_assoc (length_bytes p) p r) ∙ bodies ∙ append_assoc (length_bytes q) q s) in
    let payload : p ≡ q = sym (take_at p r (length p) refl) ∙ ap (take (length p)) tails ∙ take_at q s (length p) (sym long) in
    (payload, append_cancel_left q r s (ap (λ x. x ++ r) (sym payload) ∙ tails))

-- where there is a record there is no damage of the file
pub record_is_whole : (p r : List ℕ) → IsPayload p → IsBad (gated p ++ r) → ⊥
record_is_whole p r sized (is_open, why) = none why
  where
    long : length ((length_bytes p ++ p) ++ r) ≡ 4 + length p + length r
    long = length-append (length_bytes p ++ p) r ∙ ap (λ n. n + length r) (length-append (length_bytes p) p)

    none : IsCut ((length_bytes p ++ p) ++ r) → ⊥
    none (inl short) = omega (arith, long)
    none (inr (inl zero_)) = omega (arith, size_of p r sized, zero_, sized.some)
    none (inr (inr (inl great))) = omega (arith, size_of p r sized, great, sized.fits)
    none (inr (inr (inr few))) = omega (arith, size_of p r sized, few, long)
