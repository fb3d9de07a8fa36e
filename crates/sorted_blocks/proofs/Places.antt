-- The search for a token's block.
use Rattle.std.proofs.Common.{◌≡◌, ℕ, zero, suc, ◌+◌, ◌<◌, ◌≤◌, true, false, Option, Some, None, IfSome, IfNone, List, [], ◌∷◌, ◌++◌, length, get_or, refl, sym, ap, ◌∙◌, subst, arith}
use Rattle.std.proofs.lemmas.List.{get_or_default}
use Rattle.std.specs.Ordering.{nat_cmp, is_lt}
use Rattle.std.specs.Cmp.Lexicographic.{slice_cmp}
use Rattle.sorted_blocks.specs.Pairs.{Pairs, value_under}
use Rattle.sorted_blocks.specs.Order.{Precedes, AllBefore, AllBehind, IsRising, starts_behind}
use Rattle.sorted_blocks.specs.Blocks.{joined, block_at, AreFilled, AreBlocks, IsPlaceFor}
use Rattle.sorted_blocks.proofs.Tokens.{reaches, tested}
use Rattle.sorted_blocks.proofs.Order.{behind_earlier, none_before, none_behind, found_first, found_second}

-- where the search has come: block `low` starts no further behind, block `high` does
pub record IsAround {V : Type 0} (blocks : List (Pairs V)) (token : List ℕ) (low high : ℕ) : Type 0 where
  pub order : low < high
  pub within : high ≤ length blocks
  pub from : 1 ≤ low → starts_behind token (block_at blocks low) ≡ false
  pub to : high < length blocks → starts_behind token (block_at blocks high) ≡ true

-- ---- parts of rising pairs

pub all_first : {V : Type 0} (token : List ℕ) (one other : Pairs V) → AllBehind token (one ++ other) → AllBehind token one
all_first token [] other behind = tt
all_first token (pair ∷ one) other behind = (behind.0, all_first token one other behind.1)

pub all_second : {V : Type 0} (token : List ℕ) (one other : Pairs V) → AllBehind token (one ++ other) → AllBehind token other
all_second token [] other behind = behind
all_second token (pair ∷ one) other behind = all_second token one other behind.1

pub all_both : {V : Type 0} (token : List ℕ) (one other : Pairs V) → AllBehind token one → AllBehind token other → AllBehind token (one ++ other)
all_both token [] other first second = second
all_both token (pair ∷ one) other first second = (first.0, all_both token one other first.1 second)

pub before_both : {V : Type 0} (token : List ℕ) (one other : Pairs V) → AllBefore one token → AllBefore other token → AllBefore (one ++ other) token
before_both token [] other first second = second
before_both token (pair ∷ one) other first second = (first.0, before_both token one other first.1 second)

pub rising_first : {V : Type 0} (one other : Pairs V) → IsRising (one ++ other) → IsRising one
rising_first [] other rising = tt
rising_first (pair ∷ one) other rising = (all_first pair.0 one other rising.0, rising_first one other rising.1)

pub rising_second : {V : Type 0} (one other : Pairs V) → IsRising (one ++ other) → IsRising other
rising_second [] other rising = rising
rising_second (pair ∷ one) other rising = rising_second one other rising.1

-- without a part in the middle
rising_without : {V : Type 0} (one middle other : Pairs V) → IsRising (one ++ (middle ++ other)) → IsRising (one ++ other)
rising_without [] middle other rising = rising_second middle other rising
rising_without (pair ∷ one) middle other rising = (
  all_both pair.0 one other (all_first pair.0 one (middle ++ other) rising.0) (all_second pair.0 middle other (all_second pair.0 one (middle ++ other) rising.0)),
  rising_without one middle other rising.1,
)

-- what stands before a pair comes before its token
before_pair : {V : Type 0} (one : Pairs V) (pair : List ℕ × V) (other : Pairs V) → IsRising (one ++ pair ∷ other) → AllBefore one pair.0
before_pair [] pair other rising = tt
before_pair (p ∷ one) pair other rising = ((all_second p.0 one (pair ∷ other) rising.0).0, before_pair one pair other rising.1)

-- ---- blocks

pub rising_at : {V : Type 0} (blocks : List (Pairs V)) (at : ℕ) → IsRising (joined blocks) → IsRising (block_at blocks at)
rising_at [] at rising = tt
rising_at (block ∷ blocks) zero rising = rising_first block (joined blocks) rising
rising_at (block ∷ blocks) (suc at) rising = rising_at blocks at (rising_second block (joined blocks) rising)

-- what stands in later blocks comes behind a token that the next block starts behind
pub behind_next : {V : Type 0} (token : List ℕ) (blocks : List (Pairs V)) → IsRising (joined blocks)
    → (0 < length blocks → starts_behind token (block_at blocks 0) ≡ true) → AllBehind token (joined blocks)
behind_next token [] rising to = tt
behind_next token ([] ∷ blocks) rising to = let clash : false ≡ true = to (omega arith) in cc clash
behind_next token ((pair ∷ block) ∷ blocks) rising to =
    let first : Precedes token pair.0 = tested token pair.0 (to (omega arith)) in
    (first, behind_earlier token pair.0 (block ++ joined blocks) first rising.0)

-- what stands before the first pair of a later block comes before it
before_first : {V : Type 0} (one : Pairs V) (blocks : List (Pairs V)) (at : ℕ) (pair : List ℕ × V) (block : Pairs V) → at < length blocks
    → block_at blocks at ≡ pair ∷ block → IsRising (one ++ joined blocks) → AllBefore one pair.0
before_first one [] at pair block within is rising = absurd (omega arith)
before_first one (b ∷ blocks) zero pair block within is rising =
    before_pair one pair (block ++ joined blocks) (subst (λ (p : Pairs _). IsRising (one ++ (p ++ joined blocks))) is rising)
before_first one (b ∷ blocks) (suc at) pair block within is rising =
    before_first one blocks at pair block (omega arith) is (rising_without one b (joined blocks) rising)

reach_all : {V : Type 0} (one : Pairs V) (p token : List ℕ) → is_lt (slice_cmp nat_cmp token p) ≡ false → AllBefore one p → AllBefore one token
reach_all [] p token test before = tt
reach_all (pair ∷ one) p token test before = (reaches pair.0 p token test before.0, reach_all one p token test before.1)

before_block : {V : Type 0} (one : Pairs V) (blocks : List (Pairs V)) (at : ℕ) (token : List ℕ) (block : Pairs V) → at < length blocks
    → block_at blocks at ≡ block → 0 < length block → starts_behind token block ≡ false → IsRising (one ++ joined blocks) → AllBefore one token
before_block one blocks at token [] within is filled test rising = absurd (omega arith)
before_block one blocks at token (pair ∷ block) within is filled test rising =
    reach_all one pair.0 token test (before_first one blocks at pair block within is rising)

pub filled_rest : {V : Type 0} (block : Pairs V) (blocks : List (Pairs V)) → AreFilled (block ∷ blocks) → AreFilled blocks
filled_rest block blocks filled i one within = filled (suc i) (omega arith) (omega arith)

pub place_rest : {V : Type 0} (block : Pairs V) (blocks : List (Pairs V)) (token : List ℕ) (at : ℕ) → IsPlaceFor (block ∷ blocks) token (suc at) → IsPlaceFor blocks token at
place_rest block blocks token at place = record {
  within = omega (arith, place.within);
  from = λ one. place.from (omega arith);
  to = λ lt.
      let e : suc at + 1 ≡ suc (at + 1) = omega arith in
      subst (λ (k : ℕ). starts_behind token (block_at (block ∷ blocks) k) ≡ true) e (place.to (omega arith));
}

-- the parts of a place in a list of blocks that begins with this one
pub to_next : {V : Type 0} (block : Pairs V) (blocks : List (Pairs V)) (token : List ℕ) → IsPlaceFor (block ∷ blocks) token 0
    → 0 < length blocks → starts_behind token (block_at blocks 0) ≡ true
to_next block blocks token place lt = place.to (omega arith)

pub all_before : {V : Type 0} (block : Pairs V) (blocks : List (Pairs V)) (token : List ℕ) (at : ℕ) → IsRising (block ++ joined blocks) → AreFilled (block ∷ blocks)
    → IsPlaceFor (block ∷ blocks) token (suc at) → AllBefore block token
all_before block blocks token at rising filled place =
    before_block block blocks at token (block_at blocks at) (omega (arith, place.within)) refl (filled (suc at) (omega arith) place.within) (place.from (omega arith)) rising

-- a token is found where its block has it
pub look : {V : Type 0} (blocks : List (Pairs V)) (token : List ℕ) (at : ℕ) → IsRising (joined blocks) → AreFilled blocks → IsPlaceFor blocks token at
    → value_under (joined blocks) token ≡ value_under (block_at blocks at) token
look [] token at rising filled place = absurd (omega (arith, place.within))
look (block ∷ blocks) token zero rising filled place =
    found_first token block (joined blocks)
    (none_behind token (joined blocks) (behind_next token blocks (rising_second block (joined blocks) rising) (to_next block blocks token place)))
look (block ∷ blocks) token (suc at) rising filled place =
    found_second token block (joined blocks) (none_before token block (all_before block blocks token at rising filled place))
    ∙ look blocks token at (rising_second block (joined blocks) rising) (filled_rest block blocks filled) (place_rest block blocks token at place)

-- what is known of a token's block
pub record IsChosen {V : Type 0} (blocks : List (Pairs V)) (token : List ℕ) (block : Pairs V) : Type 0 where
  pub rising : IsRising block
  pub same : value_under (joined blocks) token ≡ value_under block token

-- a block that was read at a token's place
pub chosen : {V : Type 0} (blocks shown : List (Pairs V)) (full : Option ℕ) (token : List ℕ) (at : ℕ) (block : Pairs V) → AreBlocks blocks full
    → shown ≡ blocks → IsPlaceFor shown token at → block ≡ get_or blocks at block → IsChosen blocks token block
chosen {V} blocks shown full token at block are shown_is place read =
    let place' : IsPlaceFor blocks token at = subst (λ (b : List (Pairs V)). IsPlaceFor b token at) shown_is place in
    let is : block ≡ block_at blocks at = read ∙ get_or_default blocks at block [] place'.within in
    record {
      rising = subst (λ (b : Pairs V). IsRising b) (sym is) (rising_at blocks at are.rising);
      same = look blocks token at are.rising are.filled place' ∙ ap (λ (b : Pairs V). value_under b token) (sym is);
    }

pub some_moved : {V R : Type 0} (r : Option R) (shows : R → V) (o p : Option V) → o ≡ p → IfSome r (λ v. p ≡ Some (shows v)) → IfSome r (λ v. o ≡ Some (shows v))
some_moved None shows o p e h = h
some_moved (Some v) shows o p e h = e ∙ h

pub none_moved : {V R : Type 0} (r : Option R) (o p : Option V) → o ≡ p → IfNone r (p ≡ None) → IfNone r (o ≡ None)
none_moved None o p e h = e ∙ h
none_moved (Some v) o p e h = h
