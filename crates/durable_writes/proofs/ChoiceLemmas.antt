-- The words that are drawn for the instants of an Enter, one instant after another.
use Rattle.std.proofs.Common.{◌≡◌, ℕ, ◌+◌, ◌≤◌, ◌<◌, Bool, true, false, Option, List, [], ◌∷◌, ◌++◌, length, drop, get_or, refl, ap, sym, ◌∙◌, suc, arith, append_assoc, append-nil, length-append}
use Rattle.std.specs.Prelude.{◌==◌, ◌*◌, ◌%◌, if◌then◌else◌}
use Rattle.std.proofs.lemmas.List.{drop_more}
use Rattle.policy_rules.specs.Given.{Gives}
use Rattle.policy_rules.proofs.GivenLemmas.{gives_none, gives_through}
use Rattle.sched_plain.specs.declared.step.Pair.{Pair}
use Rattle.sched_calls.specs.Serves.{chosen_in, drawn, words_after, words_behind, words_of, next_word}
use Rattle.sweep_laws.proofs.Words.{needs, drawn_count}
use Rattle.durable_writes.specs.Choosing.{words_for, Picks, Chooses, DrewSome}

-- the first so many of these instants were paired, with these words: what comes behind them is drawn for the rest
pub record Paired (window : ℕ → ℕ) (instants : List ℕ) (k : ℕ) (told told' : Option (List ℕ)) (pairs : List Pair) : Type 0 where
  pub words : List ℕ
  pub gives : Gives told words told'
  pub chosen : (more : List ℕ) → drawn window instants (words ++ more) ≡ pairs ++ drawn window (drop k instants) more
  pub left : (more : List ℕ) → words_after window instants (words ++ more) ≡ words_after window (drop k instants) more
  pub many : needs window instants ≡ length words + needs window (drop k instants)
  pub few : length words ≤ k

pub paired_none : (window : ℕ → ℕ) (instants : List ℕ) (told : Option (List ℕ)) → Paired window instants 0 told told []
paired_none window instants told =
    record { words = []; gives = gives_none told; chosen = λ more. refl; left = λ more. refl; many = omega arith; few = omega arith }

-- an instant draws just the words for its window
one_drawn : (b : Bool) (w i word : ℕ) (more : List ℕ)
    → (if b then i else i + next_word ((if b then [] else word ∷ []) ++ more) % (60 * w)) ≡ (if b then i else i + word % (60 * w))
one_drawn true w i word more = refl
one_drawn false w i word more = refl

behind_one : (b : Bool) (word : ℕ) (more : List ℕ) → (if b then (if b then [] else word ∷ []) ++ more else drop 1 ((if b then [] else word ∷ []) ++ more)) ≡ more
behind_one true word more = refl
behind_one false word more = refl

one_needed : (b : Bool) (word n : ℕ) → (if b then n else suc n) ≡ length (if b then [] else word ∷ []) + n
one_needed true word n = omega arith
one_needed false word n = omega arith

few_for : (b : Bool) (word : ℕ) → length (if b then [] else word ∷ []) ≤ 1
few_for true word = omega arith
few_for false word = omega arith

pair_drawn : (window : ℕ → ℕ) (x word : ℕ) (rest more : List ℕ)
    → drawn window (x ∷ rest) (words_for (window x) word ++ more) ≡ record { instant = x; chosen = chosen_in (window x) x word } ∷ drawn window rest more
pair_drawn window x word rest more =
    ap (λ (chosen : ℕ). record { instant = x; chosen = chosen } ∷ drawn window rest (words_behind (window x) (words_for (window x) word ++ more))) (one_drawn (window x == 0) (window x) x word more)
    ∙ ap (λ (left : List ℕ). record { instant = x; chosen = chosen_in (window x) x word } ∷ drawn window rest left) (behind_one (window x == 0) word more)

-- one instant more
pub paired_more : (window : ℕ → ℕ) (instants : List ℕ) (k : ℕ) (told mid after : Option (List ℕ)) (pairs : List Pair) (pair : Pair) → k < length instants
    → Paired window instants k told mid pairs → Picks (window (get_or instants k 0)) (get_or instants k 0) mid after pair
    → Paired window instants (k + 1) told after (pairs ++ pair ∷ [])
paired_more window instants k told mid after pairs pair within old new =
    let x : ℕ = get_or instants k 0 in
    let rest : List ℕ = drop (k + 1) instants in
    let ws : List ℕ = words_for (window x) new.word in
    let here : drop k instants ≡ x ∷ rest = drop_more instants k 0 within in
    let one : (more : List ℕ) → drawn window (drop k instants) (ws ++ more) ≡ pair ∷ drawn window rest more = λ more.
    ap (λ (l : List ℕ). drawn window l (ws ++ more)) here ∙ pair_drawn window x new.word rest more ∙ ap (λ (p : Pair). p ∷ drawn window rest more) (sym new.picked) in
    let needed : needs window (drop k instants) ≡ length ws + needs window rest = ap (needs window) here ∙ one_needed (window x == 0) new.word (needs window rest) in
    let long = length-append old.words ws in
    let many = old.many in
    let small = old.few in
    let most : length ws ≤ 1 = few_for (window x == 0) new.word in
    record {
      words = old.words ++ ws;
      gives = gives_through told mid after old.words ws old.gives new.gives;
      chosen = λ more.
          ap (drawn window instants) (append_assoc old.words ws more) ∙ old.chosen (ws ++ more) ∙ ap (λ (l : List Pair). pairs ++ l) (one more)
          ∙ sym (append_assoc pairs (pair ∷ []) (drawn window rest more));
      left = λ more.
          ap (words_after window instants) (append_assoc old.words ws more) ∙ old.left (ws ++ more)
          ∙ ap (λ (l : List ℕ). words_after window l (ws ++ more)) here ∙ ap (words_after window rest) (behind_one (window x == 0) new.word more);
      many = omega (arith, many, needed, long);
      few = omega (arith, small, most, long);
    }

-- all instants
pub paired_all : (window : ℕ → ℕ) (instants : List ℕ) (k : ℕ) (told told' : Option (List ℕ)) (pairs : List Pair) → drop k instants ≡ [] → k ≤ length instants
    → Paired window instants k told told' pairs → Chooses window instants told told' pairs
paired_all window instants k told told' pairs none within all =
    let chosen : drawn window instants all.words ≡ pairs =
    ap (drawn window instants) (sym (append-nil all.words)) ∙ all.chosen [] ∙ ap (λ (l : List ℕ). pairs ++ drawn window l []) none ∙ append-nil pairs in
    let many = all.many in
    let rest = ap (needs window) none in
    let count = drawn_count window instants all.words in
    let same = ap (words_of window) chosen in
    let few = all.few in
    record {
      words = all.words;
      gives = all.gives;
      chosen = sym chosen;
      left = ap (words_after window instants) (sym (append-nil all.words)) ∙ all.left [] ∙ ap (λ (l : List ℕ). words_after window l []) none;
      drew = omega (arith, many, rest, count, same);
      few = omega (arith, few, within);
    }

-- those that were drawn, where it goes no further
pub drew_some : (window : ℕ → ℕ) (instants : List ℕ) (k most : ℕ) (told told' : Option (List ℕ)) (pairs : List Pair) → k ≤ most
    → Paired window instants k told told' pairs → DrewSome most told told'
drew_some window instants k most told told' pairs le some = let few = some.few in record { words = some.words; gives = some.gives; few = omega (arith, few, le) }
