-- Rising pairs: what a search in them finds, and what an insertion leaves.
use Rattle.std.proofs.Common.{◌≡◌, ℕ, zero, suc, ◌+◌, ◌<◌, ◌≤◌, Bool, true, false, Option, Some, None, List, [], ◌∷◌, ◌++◌, length, take, drop, get_or, refl, sym, ap, ◌∙◌, arith, add-one, if◌then◌else◌}
use Rattle.std.specs.declared.cmp.Ordering.TheVariants.{Less, Equal, Greater}
use Rattle.std.specs.Ordering.{nat_cmp}
use Rattle.std.specs.Cmp.Lexicographic.{slice_cmp}
use Rattle.std.proofs.lemmas.List.{get_or_default, take-append-drop}
use Rattle.plain_words.specs.Lists.{same_text}
use Rattle.sorted_blocks.specs.Pairs.{Pairs, value_under}
use Rattle.sorted_blocks.specs.Order.{Precedes, AllBefore, AllBehind, IsRising, IsAt, IsGap}
use Rattle.sorted_blocks.proofs.Tokens.{chained, turned, exact, apart, apart_back, itself}

-- what comes behind a later token comes behind an earlier one
pub behind_earlier : {V : Type 0} (a b : List ℕ) (pairs : Pairs V) → Precedes a b → AllBehind b pairs → AllBehind a pairs
behind_earlier a b [] ab behind = tt
behind_earlier a b (pair ∷ pairs) ab behind = (chained a b pair.0 ab behind.0, behind_earlier a b pairs ab behind.1)

-- nothing is found where all come before, or all behind
pub none_before : {V : Type 0} (token : List ℕ) (pairs : Pairs V) → AllBefore pairs token → value_under pairs token ≡ None
none_before token [] before = refl
none_before token (pair ∷ pairs) before = rw (apart_back pair.0 token before.0) (none_before token pairs before.1)

pub none_behind : {V : Type 0} (token : List ℕ) (pairs : Pairs V) → AllBehind token pairs → value_under pairs token ≡ None
none_behind token [] behind = refl
none_behind token (pair ∷ pairs) behind = rw (apart token pair.0 behind.0) (none_behind token pairs behind.1)

second_by : {V : Type 0} (b : Bool) (v : V) (one whole other : Option V) → (one ≡ None → whole ≡ other)
    → (if b then Some v else one) ≡ None → (if b then Some v else whole) ≡ other
second_by true v one whole other h none = cc none
second_by false v one whole other h none = h none

-- where nothing is found in the first part, the second decides
pub found_second : {V : Type 0} (token : List ℕ) (one other : Pairs V) → value_under one token ≡ None → value_under (one ++ other) token ≡ value_under other token
found_second token [] other none = refl
found_second token (pair ∷ one) other none =
    second_by (same_text token pair.0) pair.1 (value_under one token) (value_under (one ++ other) token) (value_under other token) (found_second token one other) none

first_by : {V : Type 0} (b : Bool) (v : V) (one whole : Option V) → whole ≡ one → (if b then Some v else whole) ≡ (if b then Some v else one)
first_by true v one whole h = refl
first_by false v one whole h = h

-- where nothing is found in the second part, the first decides
pub found_first : {V : Type 0} (token : List ℕ) (one other : Pairs V) → value_under other token ≡ None → value_under (one ++ other) token ≡ value_under one token
found_first token [] other none = none
found_first token (pair ∷ one) other none =
    first_by (same_text token pair.0) pair.1 (value_under one token) (value_under (one ++ other) token) (found_first token one other none)

-- what is behind a token is so at each place
pub behind_here : {V : Type 0} (token : List ℕ) (pairs : Pairs V) (i : ℕ) (d : List ℕ × V) → AllBehind token pairs → i < length pairs → Precedes token (get_or pairs i d).0
behind_here token [] i d behind within = absurd (omega arith)
behind_here token (pair ∷ pairs) zero d behind within = behind.0
behind_here token (pair ∷ pairs) (suc i) d behind within = behind_here token pairs i d behind.1 (omega arith)

-- in rising pairs all up to one that comes before a token come before it
pub before_up_to : {V : Type 0} (token : List ℕ) (pairs : Pairs V) (i : ℕ) (d : List ℕ × V) → IsRising pairs → i < length pairs → Precedes (get_or pairs i d).0 token → AllBefore (take (suc i) pairs) token
before_up_to token [] i d rising within before = absurd (omega arith)
before_up_to token (pair ∷ pairs) zero d rising within before = (before, tt)
before_up_to token (pair ∷ pairs) (suc i) d rising within before =
    (chained pair.0 (get_or pairs i d).0 token (behind_here pair.0 pairs i d rising.0 (omega arith)) before, before_up_to token pairs i d rising.1 (omega arith) before)

-- and all from one on that comes behind it come behind it
pub behind_from : {V : Type 0} (token : List ℕ) (pairs : Pairs V) (i : ℕ) (d : List ℕ × V) → IsRising pairs → i < length pairs → Precedes token (get_or pairs i d).0 → AllBehind token (drop i pairs)
behind_from token [] i d rising within behind = absurd (omega arith)
behind_from token (pair ∷ pairs) zero d rising within behind = (behind, behind_earlier token pair.0 pairs behind rising.0)
behind_from token (pair ∷ pairs) (suc i) d rising within behind = behind_from token pairs i d rising.1 (omega arith) behind

-- where a search of pairs has come: all before `low` come before the token, all from `high` on behind it
pub record Narrowed {V : Type 0} (pairs : Pairs V) (token : List ℕ) (low high : ℕ) : Type 0 where
  pub order : low ≤ high
  pub within : high ≤ length pairs
  pub before : AllBefore (take low pairs) token
  pub behind : AllBehind token (drop high pairs)

behind_end : {V : Type 0} (token : List ℕ) (pairs : Pairs V) → AllBehind token (drop (length pairs) pairs)
behind_end token [] = tt
behind_end token (pair ∷ pairs) = behind_end token pairs

pub narrow_begins : {V : Type 0} (pairs : Pairs V) (token : List ℕ) → Narrowed pairs token 0 (length pairs)
narrow_begins pairs token = record { order = omega arith; within = omega arith; before = tt; behind = behind_end token pairs }

pub narrow_up : {V : Type 0} (pairs : Pairs V) (token : List ℕ) (low high middle : ℕ) (d : List ℕ × V) → IsRising pairs → Narrowed pairs token low high
    → middle < high → slice_cmp nat_cmp (get_or pairs middle d).0 token ≡ Less → Narrowed pairs token (middle + 1) high
narrow_up pairs token low high middle d rising so_far below less = record {
  order = omega arith;
  within = so_far.within;
  before = rw (add-one middle) (before_up_to token pairs middle d rising (omega (arith, so_far.within)) less);
  behind = so_far.behind;
}

pub narrow_down : {V : Type 0} (pairs : Pairs V) (token : List ℕ) (low high middle : ℕ) (d : List ℕ × V) → IsRising pairs → Narrowed pairs token low high
    → low ≤ middle → middle < high → slice_cmp nat_cmp (get_or pairs middle d).0 token ≡ Greater → Narrowed pairs token low middle
narrow_down pairs token low high middle d rising so_far from below greater = record {
  order = from;
  within = omega (arith, so_far.within);
  before = so_far.before;
  behind = behind_from token pairs middle d rising (omega (arith, so_far.within)) (turned (get_or pairs middle d).0 token greater);
}

pub narrow_ends : {V : Type 0} (pairs : Pairs V) (token : List ℕ) (low high : ℕ) → Narrowed pairs token low high → high ≤ low → IsGap pairs token low
narrow_ends pairs token low high so_far met =
    let same : high ≡ low = omega (arith, so_far.order) in
    record {
      in_range = omega (arith, so_far.order, so_far.within);
      before = so_far.before;
      behind = rw (sym same) so_far.behind;
    }

pub stands_at : {V : Type 0} (pairs : Pairs V) (token : List ℕ) (i : ℕ) (pair : List ℕ × V) → i < length pairs
    → slice_cmp nat_cmp (get_or pairs i pair).0 token ≡ Equal → IsAt pairs token i
stands_at pairs token i pair within equal = record {
  in_range = within;
  same = λ d. ap (λ (p : List ℕ × _). p.0) (get_or_default pairs i d pair within) ∙ exact (get_or pairs i pair).0 token equal;
}

-- a token that stands in rising pairs is found, with the value beside it
pub found_at : {V : Type 0} (pairs : Pairs V) (token : List ℕ) (i : ℕ) (pair : List ℕ × V) → IsRising pairs → IsAt pairs token i
    → pair ≡ get_or pairs i pair → value_under pairs token ≡ Some pair.1
found_at [] token i pair rising at read = absurd (omega (arith, at.in_range))
found_at (p ∷ pairs) token zero pair rising at read =
    rw (at.same p, itself token) (ap (λ (q : List ℕ × _). Some q.1) (sym read))
found_at (p ∷ pairs) token (suc i) pair rising at read =
    let within : i < length pairs = omega (arith, at.in_range) in
    let before : Precedes p.0 token = rw (← at.same pair) (behind_here p.0 pairs i pair rising.0 within) in
    rw (apart_back p.0 token before) (found_at pairs token i pair rising.1 (record { in_range = within; same = at.same }) read)

-- in a gap for it no token is found
pub none_in_gap : {V : Type 0} (pairs : Pairs V) (token : List ℕ) (i : ℕ) → IsGap pairs token i → value_under pairs token ≡ None
none_in_gap pairs token i gap =
    ap (λ l. value_under l token) (sym (take-append-drop i pairs))
    ∙ found_second token (take i pairs) (drop i pairs) (none_before token (take i pairs) gap.before)
    ∙ none_behind token (drop i pairs) gap.behind

not_both : {V : Type 0} (b : Bool) (v : V) (found : Option V) → (found ≡ None → ⊥) → (if b then Some v else found) ≡ None → ⊥
not_both true v found h none = cc none
not_both false v found h none = h none

-- a token that stands there is found
pub found_there : {V : Type 0} (pairs : Pairs V) (token : List ℕ) (i : ℕ) → IsAt pairs token i → value_under pairs token ≡ None → ⊥
found_there [] token i at none = omega (arith, at.in_range)
found_there (p ∷ pairs) token zero at none = let clash : Some p.1 ≡ None = rw (at.same p, itself token) at none in cc clash
found_there (p ∷ pairs) token (suc i) at none =
    not_both (same_text token p.0) p.1 (value_under pairs token) (found_there pairs token i (record { in_range = omega (arith, at.in_range); same = at.same })) none
