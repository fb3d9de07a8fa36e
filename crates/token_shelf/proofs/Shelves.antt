-- What a shelf shows of the pairs of its map, and what one more kept write adds.
use Rattle.std.proofs.Common.{◌≡◌, ℕ, Bool, true, false, Option, Some, None, List, [], ◌∷◌, ◌++◌, option_map, refl, sym, ap, ◌∙◌, if◌then◌else◌}
use Rattle.std.proofs.lemmas.Cmp.{nat_list_eq_equiv}
use Rattle.std.proofs.lemmas.Slice.Eq.{bytes_eq-Decides}
use Rattle.plain_words.specs.Lists.{same_text}
use Rattle.plain_words.proofs.Options.{map_none}
use Rattle.sched_plain.specs.Tokens.{Kept, kept_under, kept_by}
use Rattle.sorted_blocks.specs.Pairs.{Pairs, value_under}
use Rattle.token_shelf.specs.declared.shelf.KeptWrite.{KeptWrite}
use Rattle.token_shelf.specs.Shelves.{Shelved, Keeps, shown, kept_in}

-- two texts that are the same are one
one_text : (a b : List ℕ) → same_text a b ≡ true → a ≡ b
one_text a b same = (bytes_eq-Decides a b).0 same

shown_by : (b : Bool) (token : List ℕ) (pair : List ℕ × KeptWrite) (found : Option KeptWrite) (rest : Option Kept) → (b ≡ true → token ≡ pair.0)
    → rest ≡ option_map (λ write. shown (token, write)) found
    → (if b then Some (shown pair) else rest) ≡ option_map (λ write. shown (token, write)) (if b then Some pair.1 else found)
shown_by true token pair found rest same e = ap (λ (t : List ℕ). Some (shown (t, pair.1))) (sym (same refl))
shown_by false token pair found rest same e = e

-- what is kept under a token is what the map has under it
pub shown_under : (pairs : Pairs KeptWrite) (token : List ℕ) → kept_under (kept_in pairs) token ≡ option_map (λ write. shown (token, write)) (value_under pairs token)
shown_under [] token = refl
shown_under (pair ∷ pairs) token =
    shown_by (same_text token pair.0) token pair (value_under pairs token) (kept_under (kept_in pairs) token) (one_text token pair.0) (shown_under pairs token)

end_by : (b : Bool) (k : Kept) (whole rest : Option Kept) → whole ≡ rest → (if b then Some k else whole) ≡ (if b then Some k else rest)
end_by true k whole rest e = refl
end_by false k whole rest e = e

-- a kept write at the end is not found under another token
end_missed : (kept : List Kept) (last : Kept) (q : List ℕ) → same_text q last.token ≡ false → kept_under (kept ++ last ∷ []) q ≡ kept_under kept q
end_missed [] last q other = rw other refl
end_missed (k ∷ kept) last q other =
    end_by (same_text q k.token) k (kept_under (kept ++ last ∷ []) q) (kept_under kept q) (end_missed kept last q other)

end_none : (b : Bool) (k last : Kept) (whole rest : Option Kept) → (rest ≡ None → whole ≡ Some last) → (if b then Some k else rest) ≡ None → (if b then Some k else whole) ≡ Some last
end_none true k last whole rest h none = cc none
end_none false k last whole rest h none = h none

-- and is found under its own, where none was kept before
end_found : (kept : List Kept) (last : Kept) (q : List ℕ) → same_text q last.token ≡ true → kept_under kept q ≡ None → kept_under (kept ++ last ∷ []) q ≡ Some last
end_found [] last q same none = rw same refl
end_found (k ∷ kept) last q same none =
    end_none (same_text q k.token) k last (kept_under (kept ++ last ∷ []) q) (kept_under kept q) (end_found kept last q same) none

-- what a shelf that stands for kept writes finds
pub looked : (pairs : Pairs KeptWrite) (shelf : Shelved) (token : List ℕ) (found : Option KeptWrite) → kept_in pairs ≡ shelf.kept → value_under pairs token ≡ found
    → (kept : List Kept) → Keeps shelf kept → kept_under kept token ≡ option_map (λ write. shown (token, write)) found
looked pairs shelf token found is under kept keeps =
    sym (keeps token) ∙ ap (λ l. kept_under l token) (sym is) ∙ shown_under pairs token ∙ ap (λ o. option_map (λ write. shown (token, write)) o) under

-- a token under which nothing is kept is not in the map
pub not_in_map : (pairs : Pairs KeptWrite) (shelf : Shelved) (token : List ℕ) → kept_in pairs ≡ shelf.kept → kept_under shelf.kept token ≡ None → value_under pairs token ≡ None
not_in_map pairs shelf token is none =
    map_none (λ write. shown (token, write)) (value_under pairs token) (sym (shown_under pairs token) ∙ ap (λ l. kept_under l token) is ∙ none)

added_by : (b : Bool) (old new : Pairs KeptWrite) (kept : List Kept) (token q : List ℕ) (kw : KeptWrite) → same_text token q ≡ b
    → kept_under (kept_in old) q ≡ kept_under kept q → value_under old token ≡ None → value_under new q ≡ (if b then Some kw else value_under old q)
    → kept_under (kept_in new) q ≡ kept_under (kept ++ shown (token, kw) ∷ []) q
added_by true old new kept token q kw same keeps fresh found =
    let one : token ≡ q = one_text token q same in
    let none : kept_under kept q ≡ None =
    sym keeps ∙ shown_under old q ∙ ap (λ o. option_map (λ write. shown (q, write)) o) (ap (λ t. value_under old t) (sym one) ∙ fresh) in
    shown_under new q ∙ ap (λ o. option_map (λ write. shown (q, write)) o) found ∙ ap (λ (t : List ℕ). Some (shown (t, kw))) (sym one)
    ∙ sym (end_found kept (shown (token, kw)) q (nat_list_eq_equiv.symm q token ∙ same) none)
added_by false old new kept token q kw other keeps fresh found =
    shown_under new q ∙ ap (λ o. option_map (λ write. shown (q, write)) o) found ∙ sym (shown_under old q) ∙ keeps
    ∙ sym (end_missed kept (shown (token, kw)) q (nat_list_eq_equiv.symm q token ∙ other))

-- a shelf with one more write stands for what was kept and that write
pub added : (old new : Pairs KeptWrite) (shelf : Shelved) (kept : List Kept) (token : List ℕ) (kw : KeptWrite) → kept_in old ≡ shelf.kept
    → kept_under shelf.kept token ≡ None → ((q : List ℕ) → value_under new q ≡ (if same_text token q then Some kw else value_under old q)) → Keeps shelf kept
    → (q : List ℕ) → kept_under (kept_in new) q ≡ kept_under (kept ++ kept_by (Some token) kw.write kw.step) q
added old new shelf kept token kw is none found keeps q =
    added_by (same_text token q) old new kept token q kw refl (ap (λ l. kept_under l q) is ∙ keeps q) (not_in_map old shelf token is none) (found q)
