-- An input read place by place.
use Rattle.std.proofs.Common.{◌≡◌, ℕ, zero, suc, ◌-◌, ◌≤◌, Option, Some, None, List, [], ◌∷◌, ◌++◌, length, drop, refl, arith}
use Rattle.target_link.specs.declared.keyword.Keyword.{Keyword}
use Rattle.target_link.specs.declared.keyword.Keyword.TheVariants.{ScheduleArn, ScheduledTime, ExecutionId, AttemptNumber}
use Rattle.target_link.specs.Keywords.{Known, keyword_at, keyword_text, value_of, written, skipped, replaced_behind, replaced}

-- what belongs to a keyword is passed over
replaced_behind-skip : (known : Known) (skip : ℕ) (text : List ℕ) → replaced_behind known skip text ≡ replaced known (drop skip text)
replaced_behind-skip known zero text = refl
replaced_behind-skip known (suc skip) [] = refl
replaced_behind-skip known (suc skip) (byte ∷ rest) = replaced_behind-skip known skip rest

-- a keyword takes up more than its first byte
behind_keyword : (keyword : Keyword) (byte : ℕ) (rest : List ℕ) → drop (length (keyword_text keyword) - 1) rest ≡ drop (length (keyword_text keyword)) (byte ∷ rest)
behind_keyword ScheduleArn byte rest = refl
behind_keyword ScheduledTime byte rest = refl
behind_keyword ExecutionId byte rest = refl
behind_keyword AttemptNumber byte rest = refl

at_keyword : (known : Known) (byte : ℕ) (rest : List ℕ) (found : Option Keyword) (keyword : Keyword) → found ≡ Some keyword
    → written known found byte ++ replaced_behind known (skipped found) rest
    ≡ value_of known keyword ++ replaced known (drop (length (keyword_text keyword)) (byte ∷ rest))
at_keyword known byte rest found keyword e =
    rw (e, replaced_behind-skip known (length (keyword_text keyword) - 1) rest, behind_keyword keyword byte rest) refl

at_byte : (known : Known) (byte : ℕ) (rest : List ℕ) (found : Option Keyword) → found ≡ None
    → written known found byte ++ replaced_behind known (skipped found) rest ≡ byte ∷ replaced known rest
at_byte known byte rest found e = rw e refl

-- where a text begins with a keyword, its value stands before the rest
pub replaced-keyword : (known : Known) (text : List ℕ) (keyword : Keyword) → 1 ≤ length text → keyword_at text ≡ Some keyword
    → replaced known text ≡ value_of known keyword ++ replaced known (drop (length (keyword_text keyword)) text)
replaced-keyword known [] keyword h e = absurd (omega arith)
replaced-keyword known (byte ∷ rest) keyword h e = at_keyword known byte rest (keyword_at (byte ∷ rest)) keyword e

-- where it begins with none, its first byte stays
pub replaced-byte : (known : Known) (byte : ℕ) (rest : List ℕ) → keyword_at (byte ∷ rest) ≡ None
    → replaced known (byte ∷ rest) ≡ byte ∷ replaced known rest
replaced-byte known byte rest e = at_byte known byte rest (keyword_at (byte ∷ rest)) e
