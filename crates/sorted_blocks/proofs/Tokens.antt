-- Laws of the order of tokens by their bytes.
use Rattle.std.proofs.Common.{◌≡◌, ℕ, true, false, List, refl, sym, ap, ◌∙◌}
use Rattle.std.specs.declared.cmp.Ordering.{Ordering}
use Rattle.std.specs.declared.cmp.Ordering.TheVariants.{Less, Equal, Greater}
use Rattle.std.specs.Ordering.{nat_cmp, is_lt, is_eq, ordering_reverse}
use Rattle.std.specs.Cmp.Lexicographic.{slice_cmp}
use Rattle.std.proofs.lemmas.Cmp.{nat_list_cmp_total, nat_list_eq_equiv}
use Rattle.std.proofs.lemmas.Map.Text.{is_eq-slice_cmp}
use Rattle.std.proofs.lemmas.Map.Lookups.{exact_bytes}
use Rattle.plain_words.specs.Lists.{same_text}
use Rattle.sorted_blocks.specs.Order.{Precedes}

pub chained : (a b c : List ℕ) → Precedes a b → Precedes b c → Precedes a c
chained a b c ab bc = nat_list_cmp_total.trans a b c ab bc

-- what comes behind has this one before it
pub turned : (a b : List ℕ) → slice_cmp nat_cmp a b ≡ Greater → Precedes b a
turned a b e = nat_list_cmp_total.antisymm b a ∙ ap ordering_reverse e

-- a token that comes before another is not the same
pub apart : (a b : List ℕ) → Precedes a b → same_text a b ≡ false
apart a b e = sym (is_eq-slice_cmp a b) ∙ ap is_eq e

pub apart_back : (a b : List ℕ) → Precedes a b → same_text b a ≡ false
apart_back a b e = nat_list_eq_equiv.symm b a ∙ apart a b e

pub itself : (a : List ℕ) → same_text a a ≡ true
itself a = nat_list_eq_equiv.refl a

-- two tokens of one order are one
pub exact : (a b : List ℕ) → slice_cmp nat_cmp a b ≡ Equal → a ≡ b
exact a b e = exact_bytes a b e

-- what comes before one that a token does not come before, comes before that token
by_order : (a p token : List ℕ) (o : Ordering) → slice_cmp nat_cmp token p ≡ o → is_lt o ≡ false → Precedes a p → Precedes a token
by_order a p token Less e test before = let clash : true ≡ false = test in cc clash
by_order a p token Equal e test before = rw (exact token p e) before
by_order a p token Greater e test before = chained a p token before (turned token p e)

pub reaches : (a p token : List ℕ) → is_lt (slice_cmp nat_cmp token p) ≡ false → Precedes a p → Precedes a token
reaches a p token test before = by_order a p token (slice_cmp nat_cmp token p) refl test before

by_test : (o : Ordering) → is_lt o ≡ true → o ≡ Less
by_test Less e = refl
by_test Equal e = cc e
by_test Greater e = cc e

pub tested : (a b : List ℕ) → is_lt (slice_cmp nat_cmp a b) ≡ true → Precedes a b
tested a b e = by_test (slice_cmp nat_cmp a b) e
