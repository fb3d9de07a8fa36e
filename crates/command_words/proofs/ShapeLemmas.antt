-- How many plain words each command takes.
use Rattle.std.proofs.Common.{◌≡◌, ◌↔◌, ℕ, List, [], ◌∷◌, map, length, None, Bool, true, false, refl, arith, sym, subst, codes, IfOk, IsTrue, Bor}
use Rattle.std.specs.Prelude.{Result, Ok, Err}
use Rattle.std.specs.Str.{bytes_eq}
use Rattle.clap.specs.declared.error.kind.ErrorKind.TheVariants as kind
use Rattle.clap.specs.Faults.{fault_of, is_simple_and_free}
use Rattle.clap.specs.Simple.{App}
use Rattle.clap.specs.Lexer.{strip_byte, short_of}
use Rattle.clap.proofs.OnLiterals.{clap_on_literals}
use Rattle.command_words.specs.Shapes.{AllPlain, IsPlainWord, bare_app, one_app, four_app}

strip_plain : (w : List ℕ) → IsPlainWord w → strip_byte 45 w ≡ None
strip_plain [] e = refl
strip_plain (x ∷ xs) e = rw e refl

short_plain : (w : List ℕ) → IsPlainWord w → short_of w ≡ None
short_plain [] e = refl
short_plain (x ∷ xs) e = rw e refl

not_dashes : (w : List ℕ) → IsPlainWord w → bytes_eq w (codes "--") ≡ false
not_dashes [] e = refl
not_dashes (x ∷ xs) e = rw e refl

pub bare_simple : is_simple_and_free bare_app ≡ true
unfolding clap_on_literals
bare_simple = refl

pub one_simple : is_simple_and_free one_app ≡ true
unfolding clap_on_literals
one_simple = refl

pub four_simple : is_simple_and_free four_app ≡ true
unfolding clap_on_literals
four_simple = refl

bare_nothing : fault_of bare_app [] ≡ []
unfolding clap_on_literals
bare_nothing = refl

bare_more : (w : List ℕ) (rest : List (List ℕ)) → IsPlainWord w → fault_of bare_app (w ∷ rest) ≡ kind.UnknownArgument ∷ []
unfolding clap_on_literals
bare_more w rest p = rw (not_dashes w p, strip_plain w p, short_plain w p) refl

one_nothing : fault_of one_app [] ≡ kind.MissingRequiredArgument ∷ []
unfolding clap_on_literals
one_nothing = refl

one_given : (w : List ℕ) → IsPlainWord w → fault_of one_app (w ∷ []) ≡ []
unfolding clap_on_literals
one_given w p = rw (not_dashes w p, strip_plain w p, short_plain w p) refl

one_more : (w v : List ℕ) (rest : List (List ℕ)) → IsPlainWord w → IsPlainWord v → fault_of one_app (w ∷ v ∷ rest) ≡ kind.UnknownArgument ∷ []
unfolding clap_on_literals
one_more w v rest p q = rw (not_dashes w p, strip_plain w p, short_plain w p, not_dashes v q, strip_plain v q, short_plain v q) refl

four_nothing : fault_of four_app [] ≡ kind.MissingRequiredArgument ∷ []
unfolding clap_on_literals
four_nothing = refl

four_one : (w : List ℕ) → IsPlainWord w → fault_of four_app (w ∷ []) ≡ kind.MissingRequiredArgument ∷ []
unfolding clap_on_literals
four_one w p = rw (not_dashes w p, strip_plain w p, short_plain w p) refl

four_two : (w v : List ℕ) → IsPlainWord w → IsPlainWord v → fault_of four_app (w ∷ v ∷ []) ≡ kind.MissingRequiredArgument ∷ []
unfolding clap_on_literals
four_two w v p q = rw (not_dashes w p, strip_plain w p, short_plain w p, not_dashes v q, strip_plain v q, short_plain v q) refl

four_three : (w v u : List ℕ) → IsPlainWord w → IsPlainWord v → IsPlainWord u → fault_of four_app (w ∷ v ∷ u ∷ []) ≡ kind.MissingRequiredArgument ∷ []
unfolding clap_on_literals
four_three w v u p q r = rw (not_dashes w p, strip_plain w p, short_plain w p, not_dashes v q, strip_plain v q, short_plain v q, not_dashes u r, strip_plain u r, short_plain u r) refl

four_given : (w v u t : List ℕ) → IsPlainWord w → IsPlainWord v → IsPlainWord u → IsPlainWord t → fault_of four_app (w ∷ v ∷ u ∷ t ∷ []) ≡ []
unfolding clap_on_literals
four_given w v u t p q r s = rw (not_dashes w p, strip_plain w p, short_plain w p, not_dashes v q, strip_plain v q, short_plain v q, not_dashes u r, strip_plain u r, short_plain u r, not_dashes t s, strip_plain t s, short_plain t s) refl

four_more : (w v u t y : List ℕ) (rest : List (List ℕ)) → IsPlainWord w → IsPlainWord v → IsPlainWord u → IsPlainWord t → IsPlainWord y → fault_of four_app (w ∷ v ∷ u ∷ t ∷ y ∷ rest) ≡ kind.UnknownArgument ∷ []
unfolding clap_on_literals
four_more w v u t y rest p q r s z = rw (not_dashes w p, strip_plain w p, short_plain w p, not_dashes v q, strip_plain v q, short_plain v q, not_dashes u r, strip_plain u r, short_plain u r, not_dashes t s, strip_plain t s, short_plain t s, not_dashes y z, strip_plain y z, short_plain y z) refl

-- a refusal is no way of taking the words, and another number of them is none
refused : {K : Type 0} (kinds : List K) (k : K) (m n : ℕ) → kinds ≡ k ∷ [] → (m ≡ n → ⊥) → (kinds ≡ []) ↔ (m ≡ n)
refused kinds k m n e other = (λ none. absurd (cc), λ same. absurd (other same))

taken : {K : Type 0} (kinds : List K) (m n : ℕ) → kinds ≡ [] → m ≡ n → (kinds ≡ []) ↔ (m ≡ n)
taken kinds m n e same = (λ none. same, λ equal. e)

pub takes_nothing : (ws : List (Bor (List ℕ))) → AllPlain (map (λ w. w.now) ws) → (fault_of bare_app (map (λ w. w.now) ws) ≡ []) ↔ (length ws ≡ 0)
takes_nothing [] p = taken _ 0 0 bare_nothing refl
takes_nothing (w ∷ ws) p = refused _ _ (length (w ∷ ws)) 0 (bare_more w.now (map (λ v. v.now) ws) p.first) (λ e. omega arith)

pub takes_just_one : (ws : List (Bor (List ℕ))) → AllPlain (map (λ w. w.now) ws) → (fault_of one_app (map (λ w. w.now) ws) ≡ []) ↔ (length ws ≡ 1)
takes_just_one [] p = refused _ _ 0 1 one_nothing (λ e. omega arith)
takes_just_one (w ∷ []) p = taken _ 1 1 (one_given w.now p.first) refl
takes_just_one (w ∷ v ∷ ws) p = refused _ _ (length (w ∷ v ∷ ws)) 1 (one_more w.now v.now (map (λ u. u.now) ws) p.first p.others.first) (λ e. omega arith)

pub takes_just_four : (ws : List (Bor (List ℕ))) → AllPlain (map (λ w. w.now) ws) → (fault_of four_app (map (λ w. w.now) ws) ≡ []) ↔ (length ws ≡ 4)
takes_just_four [] p = refused _ _ 0 4 four_nothing (λ e. omega arith)
takes_just_four (w ∷ []) p = refused _ _ 1 4 (four_one w.now p.first) (λ e. omega arith)
takes_just_four (w ∷ v ∷ []) p = refused _ _ 2 4 (four_two w.now v.now p.first p.others.first) (λ e. omega arith)
takes_just_four (w ∷ v ∷ u ∷ []) p = refused _ _ 3 4 (four_three w.now v.now u.now p.first p.others.first p.others.others.first) (λ e. omega arith)
takes_just_four (w ∷ v ∷ u ∷ t ∷ []) p = taken _ 4 4 (four_given w.now v.now u.now t.now p.first p.others.first p.others.others.first p.others.others.others.first) refl
takes_just_four (w ∷ v ∷ u ∷ t ∷ y ∷ ws) p = refused _ _ (length (w ∷ v ∷ u ∷ t ∷ y ∷ ws)) 4 (four_more w.now v.now u.now t.now y.now (map (λ x. x.now) ws) p.first p.others.first p.others.others.first p.others.others.others.first p.others.others.others.others.first) (λ e. omega arith)

-- an answer that is true just where one fact holds is true just where its equal holds
carried : {E : Type 0} (P Q : Type 0) (r : Result Bool E) → (P ↔ Q) → IfOk r (λ b. IsTrue b ↔ P) → IfOk r (λ b. IsTrue b ↔ Q)
carried P Q (Ok b) both e = (λ yes. both.0 (e.0 yes), λ q. e.1 (both.1 q))
carried P Q (Err f) both e = tt

-- what a command answers, told of the command that it is
pub told : {E : Type 0} (Q : Type 0) (made app : App) (words : List (List ℕ)) (r : Result Bool E) → made ≡ app
    → ((fault_of app words ≡ []) ↔ Q) → IfOk r (λ b. IsTrue b ↔ (fault_of made words ≡ [])) → IfOk r (λ b. IsTrue b ↔ Q)
told Q made app words r same both e = carried (fault_of made words ≡ []) Q r (subst (λ (a : App). (fault_of a words ≡ []) ↔ Q) (sym same) both) e
