-- The commands as `clap` knows them, and the words that it takes for values.
use Rattle.std.specs.Prelude.{◌≡◌, ◌==◌, ℕ, List, [], ◌∷◌, codes, slice_index, true, false, ⊤}
use Rattle.clap.specs.Walk.{Rule}
use Rattle.clap.specs.Simple.{App, new_app, new_rule, on_top, with_rule}

-- the byte that begins a flag
abbrev pub dash : ℕ
dash = 45

-- a word that is no flag; the empty word is none
abbrev pub IsPlainWord : List ℕ → Type 0
IsPlainWord word = (slice_index word 0 == dash) ≡ false

-- what holds of the first word, and what of the others
pub record BothHold (P Q : Type 0) : Type 0 where
  pub first : P
  pub others : Q

-- each word is plain
abbrev pub AllPlain : List (List ℕ) → Type 0
AllPlain [] = ⊤
AllPlain (word ∷ words) = BothHold (IsPlainWord word) (AllPlain words)

-- no words, no flags for help or the version
abbrev pub bare_app : App
bare_app =
    on_top (λ s. record s { no_binary_name = true; disable_help_flag = true; disable_version_flag = true })
    (new_app (codes "schedulerd"))

-- a word that has to be given
abbrev pub required_word : List ℕ → Rule
required_word id = record (new_rule id) { required = true }

abbrev pub one_app : App
one_app = with_rule bare_app (required_word (codes "first"))

abbrev pub four_app : App
four_app =
    with_rule (with_rule (with_rule one_app (required_word (codes "second"))) (required_word (codes "third")))
    (required_word (codes "fourth"))
