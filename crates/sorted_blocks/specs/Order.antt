-- The order of pairs by their tokens' bytes, and where a token stands in it.
use Rattle.std.specs.Prelude.{◌≡◌, ℕ, ◌<◌, ◌≤◌, Bool, false, List, [], ◌∷◌, length, take, drop, slice_index_or}
use Rattle.std.specs.declared.cmp.Ordering.TheVariants.{Less}
use Rattle.std.specs.Ordering.{is_lt, nat_cmp}
use Rattle.std.specs.Cmp.Lexicographic.{slice_cmp}
use Rattle.sorted_blocks.specs.Pairs.{Pairs}

-- a token comes before another by their bytes
abbrev pub Precedes : List ℕ → List ℕ → Type 0
Precedes a b = slice_cmp nat_cmp a b ≡ Less

-- every token comes before this one
abbrev pub AllBefore : {V : Type 0} → Pairs V → List ℕ → Type 0
AllBefore [] token = Unit {0}
AllBefore (pair ∷ pairs) token = Precedes pair.0 token × AllBefore pairs token

-- every token comes behind this one
abbrev pub AllBehind : {V : Type 0} → List ℕ → Pairs V → Type 0
AllBehind token [] = Unit {0}
AllBehind token (pair ∷ pairs) = Precedes token pair.0 × AllBehind token pairs

-- the tokens rise, so that none comes twice
abbrev pub IsRising : {V : Type 0} → Pairs V → Type 0
IsRising [] = Unit {0}
IsRising (pair ∷ pairs) = AllBehind pair.0 pairs × IsRising pairs

-- the token stands at place i
pub record IsAt {V : Type 0} (pairs : Pairs V) (token : List ℕ) (i : ℕ) : Type 0 where
  pub in_range : i < length pairs
  pub same : (d : List ℕ × V) → (slice_index_or pairs i d).0 ≡ token

-- the token would stand at place i: those before it come before, those from it on behind
pub record IsGap {V : Type 0} (pairs : Pairs V) (token : List ℕ) (i : ℕ) : Type 0 where
  pub in_range : i ≤ length pairs
  pub before : AllBefore (take i pairs) token
  pub behind : AllBehind token (drop i pairs)

-- the first token comes behind this one
abbrev pub starts_behind : {V : Type 0} → List ℕ → Pairs V → Bool
starts_behind token [] = false
starts_behind token (pair ∷ pairs) = is_lt (slice_cmp nat_cmp token pair.0)
