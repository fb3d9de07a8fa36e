-- A pair that is put into its block, and a full block that is parted.
use Rattle.std.proofs.Common.{◌≡◌, ◌≢◌, ℕ, zero, suc, ◌+◌, ◌-◌, ◌<◌, ◌≤◌, true, false, Some, None, List, [], ◌∷◌, ◌++◌, length, get_or, set, take, drop, refl, sym, ap, ◌∙◌, subst, arith, if◌then◌else◌, inl, inr, append_assoc, length-append, length-drop, add-one, Bool, ◌==◌}
use Rattle.std.specs.List.{insert}
use Rattle.std.proofs.lemmas.List.{take-append-drop, length-take-le, take-append-le, drop-append-le, length-set, get_or-set_same, get_or-set_other, get_or_default}
use Rattle.std.proofs.Math.Seq.{drop-append-add, take-append-add}
use Rattle.std.proofs.lemmas.List.Edits.{length-insert, insert-append_left}
use Rattle.std.proofs.lemmas.Bool.{cases_eq, eqb-true}
use Rattle.std.proofs.lemmas.Bool.Decides.{nat_tests}
use Rattle.std.proofs.lemmas.Cmp.{nat_list_eq_equiv}
use Rattle.std.proofs.lemmas.Map.{lookup-insert, none_passes_from_lookup}
use Rattle.plain_words.specs.Lists.{same_text}
use Rattle.sorted_blocks.specs.Pairs.{Pairs, value_under}
use Rattle.sorted_blocks.specs.Order.{AllBefore, AllBehind, IsRising, IsGap}
use Rattle.sorted_blocks.specs.Blocks.{joined, block_at, AreFilled, AreBlocks, Fit, IsPlaceFor, IsPut}
use Rattle.sorted_blocks.specs.declared.block.TheConstants.{PER_BLOCK, HALF}
use Rattle.sorted_blocks.proofs.Places.{all_first, all_second, all_both, before_both, all_before, behind_next, to_next, rising_second, filled_rest, place_rest}

-- ---- a gap in a block is one in all pairs

gap_first : {V : Type 0} (one other : Pairs V) (token : List ℕ) (i : ℕ) → IsGap one token i → AllBehind token other → IsGap (one ++ other) token i
gap_first {V} one other token i gap behind = record {
  in_range = simp length-append (omega (arith, gap.in_range));
  before = subst (λ (l : Pairs V). AllBefore l token) (sym (take-append-le i one other gap.in_range)) gap.before;
  behind = subst (λ (l : Pairs V). AllBehind token l) (sym (drop-append-le i one other gap.in_range)) (all_both token (drop i one) other gap.behind behind);
}

gap_second : {V : Type 0} (one other : Pairs V) (token : List ℕ) (i : ℕ) → AllBefore one token → IsGap other token i → IsGap (one ++ other) token (length one + i)
gap_second {V} one other token i before gap = record {
  in_range = simp length-append (omega (arith, gap.in_range));
  before = subst (λ (l : Pairs V). AllBefore l token) (sym (take-append-add one other i)) (before_both token one (take i other) before gap.before);
  behind = subst (λ (l : Pairs V). AllBehind token l) (sym (drop-append-add one other i)) gap.behind;
}

insert_second : {V : Type 0} (one other : Pairs V) (i : ℕ) (pair : List ℕ × V) → one ++ insert other i pair ≡ insert (one ++ other) (length one + i) pair
insert_second one other i pair =
    rw (take-append-add one other i, drop-append-add one other i) (sym (append_assoc one (take i other) (pair ∷ drop i other)))

pub put : {V : Type 0} (blocks : List (Pairs V)) (token : List ℕ) (value : V) (at i : ℕ) → IsRising (joined blocks) → AreFilled blocks → IsPlaceFor blocks token at
    → IsGap (block_at blocks at) token i → IsPut (joined blocks) token value (joined (set blocks at (insert (block_at blocks at) i (token, value))))
put [] token value at i rising filled place gap = absurd (omega (arith, place.within))
put (block ∷ blocks) token value zero i rising filled place gap = record {
  place = i;
  gap = gap_first block (joined blocks) token i gap (behind_next token blocks (rising_second block (joined blocks) rising) (to_next block blocks token place));
  is = sym (insert-append_left block (joined blocks) i (token, value) gap.in_range);
}
put (block ∷ blocks) token value (suc at) i rising filled place gap =
    let rest = put blocks token value at i (rising_second block (joined blocks) rising) (filled_rest block blocks filled) (place_rest block blocks token at place) gap in
    record {
      place = length block + rest.place;
      gap = gap_second block (joined blocks) token rest.place (all_before block blocks token at rising filled place) rest.gap;
      is = ap (λ (l : Pairs _). block ++ l) rest.is ∙ insert_second block (joined blocks) rest.place (token, value);
    }

-- ---- what it leaves

rising_between : {V : Type 0} (one other : Pairs V) (token : List ℕ) (value : V) → IsRising (one ++ other) → AllBefore one token → AllBehind token other
    → IsRising (one ++ (token, value) ∷ other)
rising_between [] other token value rising before behind = (behind, rising)
rising_between (pair ∷ one) other token value rising before behind = (
  all_both pair.0 one ((token, value) ∷ other) (all_first pair.0 one other rising.0) (before.0, all_second pair.0 one other rising.0),
  rising_between one other token value rising.1 before.1 behind,
)

-- the pairs still rise
pub put_rising : {V : Type 0} (pairs after : Pairs V) (token : List ℕ) (value : V) → IsRising pairs → IsPut pairs token value after → IsRising after
put_rising {V} pairs after token value rising is_put =
    let whole = subst (λ (l : Pairs V). IsRising l) (sym (take-append-drop is_put.place pairs)) rising in
    subst (λ (l : Pairs V). IsRising l) (sym is_put.is)
    (rising_between (take is_put.place pairs) (drop is_put.place pairs) token value whole is_put.gap.before is_put.gap.behind)

-- the new token has its value, and every other what it had
pub put_found : {V : Type 0} (pairs after : Pairs V) (token : List ℕ) (value : V) → value_under pairs token ≡ None → IsPut pairs token value after
    → (q : List ℕ) → value_under after q ≡ (if same_text token q then Some value else value_under pairs q)
put_found {V} pairs after token value fresh is_put q =
    ap (λ (l : Pairs V). value_under l q) is_put.is
    ∙ lookup-insert nat_list_eq_equiv token value q pairs is_put.place (none_passes_from_lookup (same_text token) pairs fresh)

-- ---- the sizes of the blocks

fits_but : {V : Type 0} (blocks : List (Pairs V)) (at : ℕ) (block : Pairs V) → Fit blocks None → (i : ℕ) → i ≢ at → length (block_at (set blocks at block) i) < PER_BLOCK
fits_but {V} blocks at block fit i apart = subst (λ (b : Pairs V). length b < PER_BLOCK) (sym (get_or-set_other blocks at i block [] apart)) (fit i)

-- a block that became full is the one that is
pub fit_full : {V : Type 0} (blocks : List (Pairs V)) (at : ℕ) (block : Pairs V) → Fit blocks None → at < length blocks → length block ≡ PER_BLOCK → Fit (set blocks at block) (Some at)
fit_full {V} blocks at block fit within full = (
  subst (λ n. at < n) (sym (length-set blocks at block)) within,
  subst (λ (b : Pairs V). length b ≡ PER_BLOCK) (sym (get_or-set_same blocks at block [] within)) full,
  fits_but blocks at block fit,
)

pub fit_short : {V : Type 0} (blocks : List (Pairs V)) (at : ℕ) (block : Pairs V) → Fit blocks None → at < length blocks → length block < PER_BLOCK → Fit (set blocks at block) None
fit_short {V} blocks at block fit within short i = elim (cases_eq i at) [
  | inl same ↦
      subst (λ (b : Pairs V). length b < PER_BLOCK) (sym (ap (λ k. block_at (set blocks at block) k) same ∙ get_or-set_same blocks at block [] within)) short
  | inr apart ↦ fits_but blocks at block fit i apart
]

pub filled_put : {V : Type 0} (blocks : List (Pairs V)) (at : ℕ) (block : Pairs V) → AreFilled blocks → at < length blocks → 0 < length block → AreFilled (set blocks at block)
filled_put {V} blocks at block filled within some i one lt = elim (cases_eq i at) [
  | inl same ↦
      subst (λ (b : Pairs V). 0 < length b) (sym (ap (λ k. block_at (set blocks at block) k) same ∙ get_or-set_same blocks at block [] within)) some
  | inr apart ↦
      subst (λ (b : Pairs V). 0 < length b) (sym (get_or-set_other blocks at i block [] apart)) (filled i one (subst (λ n. i < n) (length-set blocks at block) lt))
]

-- ---- a full block in two parts

-- the blocks after one was parted
abbrev parted : {V : Type 0} → List (Pairs V) → ℕ → Pairs V → Pairs V → List (Pairs V)
parted blocks at lower upper = insert (set blocks at lower) (suc at) upper

pub joined_parted : {V : Type 0} (blocks : List (Pairs V)) (at : ℕ) (lower upper : Pairs V) → at < length blocks → lower ++ upper ≡ block_at blocks at
    → joined (parted blocks at lower upper) ≡ joined blocks
joined_parted [] at lower upper within whole = absurd (omega arith)
joined_parted (block ∷ blocks) zero lower upper within whole =
    sym (append_assoc lower upper (joined blocks)) ∙ ap (λ (l : Pairs _). l ++ joined blocks) whole
joined_parted (block ∷ blocks) (suc at) lower upper within whole =
    ap (λ (l : Pairs _). block ++ l) (joined_parted blocks at lower upper (omega arith) whole)

-- what holds of each block after one was parted
by_part : {V : Type 0} (P : Pairs V → Type 0) (blocks : List (Pairs V)) (at : ℕ) (lower upper : Pairs V) (k : ℕ) → at < length blocks
    → P lower → P upper → (k < at → P (block_at blocks k)) → (suc at < k → P (block_at blocks (k - 1))) → P (block_at (parted blocks at lower upper) k)
by_part P [] at lower upper k within low up below above = absurd (omega arith)
by_part P (block ∷ blocks) zero lower upper zero within low up below above = low
by_part P (block ∷ blocks) zero lower upper (suc zero) within low up below above = up
by_part P (block ∷ blocks) zero lower upper (suc (suc k)) within low up below above =
    let e : suc (suc k) - 1 ≡ suc k = omega arith in
    subst (λ j. P (block_at (block ∷ blocks) j)) e (above (omega arith))
by_part P (block ∷ blocks) (suc at) lower upper zero within low up below above = below (omega arith)
by_part P (block ∷ blocks) (suc at) lower upper (suc k) within low up below above =
    by_part P blocks at lower upper k (omega arith) low up (λ lt. below (omega arith)) (λ lt. later k lt (above (omega arith)))
  where
    later : (k : ℕ) → suc at < k → P (block_at (block ∷ blocks) (suc k - 1)) → P (block_at blocks (k - 1))
    later k lt holds =
        let e : suc k - 1 ≡ suc (k - 1) = omega arith in
        subst (λ j. P (block_at (block ∷ blocks) j)) e holds

length_parted : {V : Type 0} (blocks : List (Pairs V)) (at : ℕ) (lower upper : Pairs V) → at < length blocks → length (parted blocks at lower upper) ≡ length blocks + 1
length_parted blocks at lower upper within =
    let same = length-set blocks at lower in
    length-insert (set blocks at lower) (suc at) upper (omega (arith, same)) ∙ ap (λ n. n + 1) same

pub fit_parted : {V : Type 0} (blocks : List (Pairs V)) (at : ℕ) (lower upper : Pairs V) → Fit blocks (Some at) → length lower < PER_BLOCK → length upper < PER_BLOCK
    → Fit (parted blocks at lower upper) None
fit_parted {V} blocks at lower upper fit low up k =
    by_part (λ (b : Pairs V). length b < PER_BLOCK) blocks at lower upper k fit.0 low up (λ lt. fit.2 k (λ same. omega arith)) (λ lt. fit.2 (k - 1) (λ same. omega arith))

pub filled_parted : {V : Type 0} (blocks : List (Pairs V)) (at : ℕ) (lower upper : Pairs V) → AreFilled blocks → at < length blocks → 0 < length lower → 0 < length upper
    → AreFilled (parted blocks at lower upper)
filled_parted {V} blocks at lower upper filled within low up k one lt =
    let total = length_parted blocks at lower upper within in
    by_part (λ (b : Pairs V). 0 < length b) blocks at lower upper k within low up (λ below. filled k one (omega arith)) (λ above. filled (k - 1) (omega arith) (omega (arith, total)))

-- ---- the same, as the code comes to it

put_read : {V : Type 0} (blocks : List (Pairs V)) (token : List ℕ) (value : V) (at : ℕ) (block new : Pairs V) → AreBlocks blocks None → IsPlaceFor blocks token at
    → block ≡ get_or blocks at block → (i : ℕ) × IsGap block token i × (new ≡ insert block i (token, value))
    → (i : ℕ) × IsGap (block_at blocks at) token i × (new ≡ insert (block_at blocks at) i (token, value))
put_read {V} blocks token value at block new are place read added =
    subst (λ (b : Pairs V). (i : ℕ) × IsGap b token i × (new ≡ insert b i (token, value))) (read ∙ get_or_default blocks at block [] place.within) added

pub put_done : {V : Type 0} (blocks : List (Pairs V)) (token : List ℕ) (value : V) (at : ℕ) (block new : Pairs V) → AreBlocks blocks None → IsPlaceFor blocks token at
    → block ≡ get_or blocks at block → (i : ℕ) × IsGap block token i × (new ≡ insert block i (token, value))
    → IsPut (joined blocks) token value (joined (set blocks at new))
put_done {V} blocks token value at block new are place read added =
    let here = put_read blocks token value at block new are place read added in
    subst (λ (b : Pairs V). IsPut (joined blocks) token value (joined (set blocks at b))) (sym here.2)
    (put blocks token value at here.0 are.rising are.filled place here.1)

fit_by : {V : Type 0} (blocks : List (Pairs V)) (at : ℕ) (block : Pairs V) (full : Bool) → (length block == PER_BLOCK) ≡ full → Fit blocks None → at < length blocks
    → length block ≤ PER_BLOCK → Fit (set blocks at block) (if full then Some at else None)
fit_by blocks at block true test fit within most = fit_full blocks at block fit within (eqb-true (length block) PER_BLOCK test)
fit_by blocks at block false test fit within most =
    fit_short blocks at block fit within (grind (arith, nat_tests, test, most))

pub put_blocks : {V : Type 0} (blocks : List (Pairs V)) (token : List ℕ) (value : V) (at : ℕ) (block new : Pairs V) → AreBlocks blocks None → IsPlaceFor blocks token at
    → block ≡ get_or blocks at block → (i : ℕ) × IsGap block token i × (new ≡ insert block i (token, value))
    → AreBlocks (set blocks at new) (if length new == PER_BLOCK then Some at else None)
put_blocks {V} blocks token value at block new are place read added =
    let here = put_read blocks token value at block new are place read added in
    let grown : length new ≡ length (block_at blocks at) + 1 = ap length here.2 ∙ length-insert (block_at blocks at) here.0 (token, value) here.1.in_range in
    let short : length (block_at blocks at) < PER_BLOCK = are.fit at in
    record {
      rising = put_rising (joined blocks) (joined (set blocks at new)) token value are.rising (put_done blocks token value at block new are place read added);
      filled = filled_put blocks at new are.filled place.within (omega arith);
      fit = fit_by blocks at new (length new == PER_BLOCK) refl are.fit place.within (omega arith);
    }

-- the blocks after one was parted, as the code leaves them
pub part_blocks : {V : Type 0} (blocks : List (Pairs V)) (at : ℕ) (block lower upper : Pairs V) → AreBlocks blocks (Some at) → block ≡ get_or blocks at block
    → lower ≡ take HALF block → upper ≡ drop HALF block → AreBlocks (insert (set blocks at lower) (at + 1) upper) None × (joined (insert (set blocks at lower) (at + 1) upper) ≡ joined blocks)
part_blocks {V} blocks at block lower upper are read low up =
    let is : block ≡ block_at blocks at = read ∙ get_or_default blocks at block [] are.fit.0 in
    let size : length block ≡ PER_BLOCK = ap length is ∙ are.fit.1 in
    let low_size : length lower ≡ HALF = ap length low ∙ length-take-le HALF block (omega (arith, size)) in
    let up_size : length upper ≡ PER_BLOCK - HALF = ap length up ∙ length-drop HALF block ∙ ap (λ n. n - HALF) size in
    let whole : lower ++ upper ≡ block_at blocks at = rw (low, up) (take-append-drop HALF block) ∙ is in
    let same = joined_parted blocks at lower upper are.fit.0 whole in
    let done : AreBlocks (parted blocks at lower upper) None = record {
      rising = subst (λ (l : Pairs V). IsRising l) (sym same) are.rising;
      filled = filled_parted blocks at lower upper are.filled are.fit.0 (omega (arith, low_size)) (omega (arith, up_size));
      fit = fit_parted blocks at lower upper are.fit (omega (arith, low_size)) (omega (arith, up_size));
    } in
    rw (add-one at) (done, same)
