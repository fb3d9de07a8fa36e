-- A text has at most one token more than bytes: the one that ends what is at fault.
use Rattle.std.proofs.Common.{ℕ, suc, ◌≤◌, Bool, true, false, List, [], ◌∷◌, length, arith}
use Rattle.json.specs.Token.{Token, begin_object, end_object, begin_array, end_array, key, string, number, boolean, null, bad}
use Rattle.json.specs.Lex.{Lexeme, token, comma, colon, Class, quote, backslash, operator, space, other, class, Mode, between, in_word, in_string, in_escape, lex_byte, lex, Place, fresh, after_value, after_comma, after_key, begins_colon, may_begin, may_close, if_allowed, place_token, punctuate, tokens}

-- a byte makes at most one lexeme
one_lexeme : (m : Mode) (c : Class) (x : ℕ) (xs : List ℕ) (k : Mode → List Lexeme) (n : ℕ) → ((next : Mode) → length (k next) ≤ n)
    → length (lex_byte m c x xs k) ≤ suc n
one_lexeme between quote x xs k n few = omega (arith, few in_string)
one_lexeme between backslash x xs k n few = omega (arith, few in_word)
one_lexeme between operator x xs k n few = omega (arith, few between)
one_lexeme between space x xs k n few = omega (arith, few between)
one_lexeme between other x xs k n few = omega (arith, few in_word)
one_lexeme in_word quote x xs k n few = omega (arith, few in_word)
one_lexeme in_word backslash x xs k n few = omega (arith, few in_word)
one_lexeme in_word operator x xs k n few = omega (arith, few between)
one_lexeme in_word space x xs k n few = omega (arith, few between)
one_lexeme in_word other x xs k n few = omega (arith, few in_word)
one_lexeme in_string quote x xs k n few = omega (arith, few between)
one_lexeme in_string backslash x xs k n few = omega (arith, few in_escape)
one_lexeme in_string operator x xs k n few = omega (arith, few in_string)
one_lexeme in_string space x xs k n few = omega (arith, few in_string)
one_lexeme in_string other x xs k n few = omega (arith, few in_string)
one_lexeme in_escape c x xs k n few = omega (arith, few in_string)

few_lexemes : (m : Mode) (xs : List ℕ) → length (lex m xs) ≤ length xs
unfolding lex
few_lexemes m [] = omega arith
few_lexemes m (x ∷ xs) = one_lexeme m (class x) x xs (λ next. lex next xs) (length xs) (λ next. few_lexemes next xs)

one_token : (allowed : Bool) (t : Token) (k : Place → List Token) (next : Place) (n : ℕ) → length (k next) ≤ suc n
    → length (if_allowed allowed t k next) ≤ suc (suc n)
one_token true t k next n few = omega arith
one_token false t k next n few = omega arith

placed : (p : Place) (t : Token) (before : Bool) (k : Place → List Token) (n : ℕ) → ((next : Place) → length (k next) ≤ suc n)
    → length (place_token p t before k) ≤ suc (suc n)
placed p begin_object before k n few = one_token (may_begin p) begin_object k fresh n (few fresh)
placed p end_object before k n few = one_token (may_close p) end_object k after_value n (few after_value)
placed p begin_array before k n few = one_token (may_begin p) begin_array k fresh n (few fresh)
placed p end_array before k n few = one_token (may_close p) end_array k after_value n (few after_value)
placed p (key s) before k n few = omega arith
placed p (string s) true k n few = one_token (may_begin p) (key s) k after_key n (few after_key)
placed p (string s) false k n few = one_token (may_begin p) (string s) k after_value n (few after_value)
placed p (number s) before k n few = one_token (may_begin p) (number s) k after_value n (few after_value)
placed p (boolean b) before k n few = one_token (may_begin p) (boolean b) k after_value n (few after_value)
placed p null before k n few = one_token (may_begin p) null k after_value n (few after_value)
placed p bad before k n few = omega arith

few_punctuated : (p : Place) (ls : List Lexeme) → length (punctuate p ls) ≤ suc (length ls)
unfolding punctuate
few_punctuated fresh [] = omega arith
few_punctuated after_value [] = omega arith
few_punctuated after_comma [] = omega arith
few_punctuated after_key [] = omega arith
few_punctuated fresh (token t ∷ ls) = placed fresh t (begins_colon ls) (λ next. punctuate next ls) (length ls) (λ next. few_punctuated next ls)
few_punctuated after_value (token t ∷ ls) = placed after_value t (begins_colon ls) (λ next. punctuate next ls) (length ls) (λ next. few_punctuated next ls)
few_punctuated after_comma (token t ∷ ls) = placed after_comma t (begins_colon ls) (λ next. punctuate next ls) (length ls) (λ next. few_punctuated next ls)
few_punctuated after_key (token t ∷ ls) = placed after_key t (begins_colon ls) (λ next. punctuate next ls) (length ls) (λ next. few_punctuated next ls)
few_punctuated fresh (comma ∷ ls) = omega arith
few_punctuated after_value (comma ∷ ls) = omega (arith, few_punctuated after_comma ls)
few_punctuated after_comma (comma ∷ ls) = omega arith
few_punctuated after_key (comma ∷ ls) = omega arith
few_punctuated fresh (colon ∷ ls) = omega arith
few_punctuated after_value (colon ∷ ls) = omega arith
few_punctuated after_comma (colon ∷ ls) = omega arith
few_punctuated after_key (colon ∷ ls) = omega (arith, few_punctuated fresh ls)

pub few_tokens : (text : List ℕ) → length (tokens text) ≤ suc (length text)
few_tokens text = omega (arith, few_lexemes between text, few_punctuated fresh (lex between text))
