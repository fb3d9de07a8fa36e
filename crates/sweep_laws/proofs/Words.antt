-- The words that an Enter draws from an endless row of them.
use Rattle.std.proofs.Common.{◌≡◌, ℕ, zero, suc, ◌+◌, Bool, true, false, List, [], ◌∷◌, ◌++◌, drop, refl, ap, sym, ◌∙◌, arith, add-zero, append_assoc}
use Rattle.std.specs.Prelude.{◌==◌, ◌*◌, ◌%◌, if◌then◌else◌}
use Rattle.sched_plain.specs.declared.step.Pair.{Pair}
use Rattle.sched_calls.specs.Serves.{drawn, words_after, words_of, next_word, words_behind}
use Rattle.sweep_laws.specs.EndLaws.{firsts}

-- ---- rows

-- the row without its first so many
abbrev pub behind : {A : Type 0} → ℕ → (ℕ → A) → ℕ → A
behind n row k = row (k + n)

pub firsts_split : {A : Type 0} (a b : ℕ) (row : ℕ → A) → firsts (a + b) row ≡ firsts a row ++ firsts b (behind a row)
firsts_split zero b row =
    let none : zero + b ≡ b = omega arith in
    ap (λ (n : ℕ). firsts n row) none ∙ (λ i. firsts b (λ k. row (sym (add-zero k) i)))
firsts_split (suc a) b row =
    let one : suc a + b ≡ suc (a + b) = omega arith in
    let shift : (k : ℕ) → k + a + 1 ≡ k + suc a = λ k. omega arith in
    ap (λ (n : ℕ). firsts n row) one
    ∙ ap (λ (l : List _). row 0 ∷ l) (firsts_split a b (λ k. row (k + 1)) ∙ (λ i. firsts a (λ k. row (k + 1)) ++ firsts b (λ k. row (shift k i))))

-- with more behind them
pub firsts_more : {A : Type 0} (a b : ℕ) (row : ℕ → A) (more : List A) → firsts (a + b) row ++ more ≡ firsts a row ++ (firsts b (behind a row) ++ more)
firsts_more a b row more = ap (λ (l : List _). l ++ more) (firsts_split a b row) ∙ append_assoc (firsts a row) (firsts b (behind a row)) more

-- ---- what an Enter draws

-- how many words the instants want: one for each that has a window
abbrev pub needs : (ℕ → ℕ) → List ℕ → ℕ
needs window [] = 0
needs window (x ∷ xs) = if window x == 0 then needs window xs else suc (needs window xs)

same_case : (b : Bool) (w x : ℕ) (window : ℕ → ℕ) (xs : List ℕ) (row : ℕ → ℕ) (more : List ℕ)
    → ((r : ℕ → ℕ) → drawn window xs (firsts (needs window xs) r ++ more) ≡ drawn window xs (firsts (needs window xs) r))
    → let n = if b then needs window xs else suc (needs window xs) in
    record { instant = x; chosen = if b then x else x + next_word (firsts n row ++ more) % (60 * w) } ∷ drawn window xs (if b then firsts n row ++ more else drop 1 (firsts n row ++ more))
    ≡ record { instant = x; chosen = if b then x else x + next_word (firsts n row) % (60 * w) } ∷ drawn window xs (if b then firsts n row else drop 1 (firsts n row))
same_case true w x window xs row more same = ap (λ (ps : List Pair). record { instant = x; chosen = x } ∷ ps) (same row)
same_case false w x window xs row more same = ap (λ (ps : List Pair). record { instant = x; chosen = x + row 0 % (60 * w) } ∷ ps) (same (λ k. row (k + 1)))

-- what stands behind the words that are wanted is not drawn
pub drawn_same : (window : ℕ → ℕ) (xs : List ℕ) (row : ℕ → ℕ) (more : List ℕ) → drawn window xs (firsts (needs window xs) row ++ more) ≡ drawn window xs (firsts (needs window xs) row)
drawn_same window [] row more = refl
drawn_same window (x ∷ xs) row more = same_case (window x == 0) (window x) x window xs row more (λ r. drawn_same window xs r more)

left_case : (b : Bool) (window : ℕ → ℕ) (xs : List ℕ) (row : ℕ → ℕ) (more : List ℕ) → ((r : ℕ → ℕ) → words_after window xs (firsts (needs window xs) r ++ more) ≡ more)
    → let n = if b then needs window xs else suc (needs window xs) in
    words_after window xs (if b then firsts n row ++ more else drop 1 (firsts n row ++ more)) ≡ more
left_case true window xs row more left = left row
left_case false window xs row more left = left (λ k. row (k + 1))

-- and is left
pub words_rest : (window : ℕ → ℕ) (xs : List ℕ) (row : ℕ → ℕ) (more : List ℕ) → words_after window xs (firsts (needs window xs) row ++ more) ≡ more
words_rest window [] row more = refl
words_rest window (x ∷ xs) row more = left_case (window x == 0) window xs row more (λ r. words_rest window xs r more)

count_case : (b : Bool) (words needed : ℕ) → words ≡ needed → (if b then words else words + 1) ≡ (if b then needed else suc needed)
count_case true words needed e = e
count_case false words needed e = omega (arith, e)

-- the pairs tell how many were drawn
pub drawn_count : (window : ℕ → ℕ) (xs words : List ℕ) → words_of window (drawn window xs words) ≡ needs window xs
drawn_count window [] words = refl
drawn_count window (x ∷ xs) words =
    count_case (window x == 0) (words_of window (drawn window xs (words_behind (window x) words))) (needs window xs) (drawn_count window xs (words_behind (window x) words))
