-- A rate: what spells it has no fault, and spells no other.
use Rattle.std.proofs.Common.{◌≡◌, ℕ, ◌+◌, ◌≤◌, true, false, List, [], ◌∷◌, length, refl, sym, ap, ◌∙◌, arith, ne_eqb, Some, None}
use Rattle.std.specs.Prelude.{codes, ◌==◌}
use Rattle.expressions.specs.declared.expression.Unit.{Unit as RateUnit}
use Rattle.expressions.specs.declared.expression.Expr.TheVariants as exprs
use Rattle.expressions.specs.Pieces.{Piece, cut, words, words_among, placed_words, placed_words_among, has_bare_ends}
use Rattle.expressions.specs.Spelling.{AreRateWords, Spells}
use Rattle.expressions.specs.ExpressionFaults.{rate_fault, words_fault}
use Rattle.expr_grammar.specs.Answers.{enclosed}
use Rattle.expr_grammar.specs.WordsLeft.{texts}

-- the texts of placed words are the words
pub texts-placed : (place : ℕ) (parts : List (List ℕ)) → texts (placed_words_among place parts) ≡ words_among parts
texts-placed place [] = refl
texts-placed place ([] ∷ parts) = texts-placed (place + 1) parts
texts-placed place ((b ∷ bs) ∷ parts) = ap (λ more. (b ∷ bs) ∷ more) (texts-placed (place + length (b ∷ bs) + 1) parts)

-- words that spell a rate have no fault
pub rate_words_sound : (pieces : List Piece) (count : ℕ) (unit : RateUnit) → AreRateWords (texts pieces) count unit → rate_fault pieces ≡ None
rate_words_sound [] count unit are = absurd are
rate_words_sound (value ∷ []) count unit are = absurd are
rate_words_sound (value ∷ name ∷ []) count unit are =
    let some : (count == 0) ≡ false = ne_eqb count 0 (λ e. let low : 1 ≤ count = are.1 in omega arith) in
    rw (are.0, are.2, some) refl
rate_words_sound (value ∷ name ∷ other ∷ more) count unit are = absurd are

-- they spell one rate
pub rate_words_once : (pieces : List (List ℕ)) (a b : ℕ) (u v : RateUnit) → AreRateWords pieces a u → AreRateWords pieces b v → (a ≡ b) × (u ≡ v)
rate_words_once [] a b u v one other = absurd one
rate_words_once (value ∷ []) a b u v one other = absurd one
rate_words_once (value ∷ name ∷ []) a b u v one other =
    let counts : Some a ≡ Some b = sym one.0 ∙ other.0 in
    let units : Some u ≡ Some v = sym one.2 ∙ other.2 in
    (cc, cc)
rate_words_once (value ∷ name ∷ third ∷ more) a b u v one other = absurd one

pub rate_no_fault : (inner : List ℕ) (count : ℕ) (unit : RateUnit) → has_bare_ends inner ≡ true → AreRateWords (words inner) count unit →
    words_fault rate_fault 5 inner ≡ None
rate_no_fault inner count unit bare are =
    let placed : AreRateWords (texts (placed_words 5 inner)) count unit = rw (texts-placed 5 (cut 32 inner)) are in
    rw bare (rate_words_sound (placed_words 5 inner) count unit placed)

-- the two words spell the rate that they enclose
pub rate_spelled : (inner : List ℕ) (count : ℕ) (unit : RateUnit) → has_bare_ends inner ≡ true → AreRateWords (texts (placed_words 5 inner)) count unit →
    Spells (enclosed (codes "rate(") inner) (exprs.Rate count unit)
rate_spelled inner count unit bare are = record {
  inner = inner;
  encloses = record { whole = refl; bare = bare };
  spelled = rw texts-placed at are;
}
