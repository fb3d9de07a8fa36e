-- What a search that found nothing says, and elements by their places.
use Rattle.std.proofs.Common.{◌≡◌, ℕ, zero, suc, ◌+◌, ◌-◌, ◌<◌, ◌≤◌, Bool, true, false, cond, Option, Some, None, List, [], ◌∷◌, ◌++◌, map, length, filter, option_map, refl, sym, ap, ◌∙◌, inl, inr, arith}
use Rattle.std.proofs.lemmas.Bool.{cases_eq, eq-eqb, ne_eqb}
use Rattle.sched_plain.specs.declared.row.Row.{Row}
use Rattle.plain_words.specs.Lists.{nth, change_nth, numbers, head, first_answer, some_pass}
use Rattle.sched_plain.specs.Rows.{incs_where}
use Rattle.sched_plain.specs.Seen.{TimesSeen}
use Rattle.sched_plain.specs.Work.{open_at}
use Rattle.plain_words.proofs.Options.{else_none, map_none}
use Rattle.plain_words.proofs.ListLemmas.{nth_first, nth_map, nth_more, nth_rest}

first_at : {B : Type 0} (question : ℕ → Option B) (b : Bool) (x : ℕ) (rest : List ℕ) → b ≡ true
    → first_answer question (cond b (x ∷ rest) rest) ≡ None → question x ≡ None
first_at question true x rest there e = (else_none (question x) (first_answer question rest) e).0
first_at question false x rest there e = cc

first_after : {B : Type 0} (question : ℕ → Option B) (b : Bool) (x : ℕ) (rest : List ℕ)
    → first_answer question (cond b (x ∷ rest) rest) ≡ None → first_answer question rest ≡ None
first_after question true x rest e = (else_none (question x) (first_answer question rest) e).1
first_after question false x rest e = e

-- a search over numbers that pass a test
pub none_from : {B : Type 0} (question : ℕ → Option B) (test : ℕ → Bool) (from n inc : ℕ)
    → first_answer question (filter test (numbers from n)) ≡ None → from ≤ inc → inc < from + n → test inc ≡ true → question inc ≡ None
none_from question test from zero inc e low up passes = absurd (omega arith)
none_from question test from (suc n) inc e low up passes =
    elim (cases_eq inc from) [
      | inl same ↦
          let here : test from ≡ true = ap test (sym same) ∙ passes in
          ap question same ∙ first_at question (test from) from (filter test (numbers (from + 1) n)) here e
      | inr apart ↦
          none_from question test (from + 1) n inc
          (first_after question (test from) from (filter test (numbers (from + 1) n)) e) (omega arith) (omega arith) passes
    ]

-- where an element is its place is within the list
pub record IsWithin (place long : ℕ) : Type 0 where
  pub low : 1 ≤ place
  pub up : place ≤ long

pub nth_within : {A : Type 0} (xs : List A) (place : ℕ) (x : A) → nth xs place ≡ Some x → IsWithin place (length xs)
nth_within [] place x e = let clash : ⊥ = cc in absurd clash
nth_within (y ∷ xs) place x e =
    elim (cases_eq place 1) [
      | inl first ↦ record { low = omega arith; up = omega arith }
      | inr apart ↦
          let old = nth_within xs (place - 1) x (sym (nth_rest y xs place apart) ∙ e) in
          let low : 1 ≤ place - 1 = old.low in
          let up : place - 1 ≤ length xs = old.up in
          record { low = omega arith; up = omega arith }
    ]

pub nth_last : {A : Type 0} (xs : List A) (x : A) (place : ℕ) → place ≡ length xs + 1 → nth (xs ++ x ∷ []) place ≡ Some x
nth_last [] x place e = nth_first x [] place e
nth_last (y ∷ xs) x place e =
    let apart : place ≡ 1 → ⊥ = λ one. omega arith in
    nth_rest y (xs ++ x ∷ []) place apart ∙ nth_last xs x (place - 1) (omega arith)

pub last_there : {A : Type 0} (xs : List A) (x : A) (place : ℕ) → place ≡ length xs + 1 → nth (xs ++ x ∷ []) place ≡ None → ⊥
last_there xs x place e none = let clash : Some x ≡ None = sym (nth_last xs x place e) ∙ none in cc

-- an element changed at a place: there it is changed, elsewhere it is not
pub changed_here : {A : Type 0} (f : A → A) (xs : List A) (place : ℕ) → nth (change_nth f xs place) place ≡ option_map f (nth xs place)
changed_here f [] place = refl
changed_here {A} f (x ∷ xs) place =
    elim (cases_eq place 1) [
      | inl first ↦
          ap (λ b. nth (cond b (f x ∷ xs) (x ∷ change_nth f xs (place - 1))) place) (eq-eqb place 1 first)
          ∙ nth_first (f x) xs place first ∙ ap (option_map f) (sym (nth_first x xs place first))
      | inr apart ↦
          ap (λ b. nth (cond b (f x ∷ xs) (x ∷ change_nth f xs (place - 1))) place) (ne_eqb place 1 apart)
          ∙ nth_rest x (change_nth f xs (place - 1)) place apart ∙ changed_here f xs (place - 1)
          ∙ ap (option_map f) (sym (nth_rest x xs place apart))
    ]

behind : (at place : ℕ) → (at ≡ 1 → ⊥) → (place ≡ 1 → ⊥) → (place ≡ at → ⊥) → place - 1 ≡ at - 1 → ⊥
behind zero zero later apart ne same = ne refl
behind zero (suc place) later apart ne same = apart (omega arith)
behind (suc at) zero later apart ne same = later (omega arith)
behind (suc at) (suc place) later apart ne same = ne (omega arith)

changed_behind : {A : Type 0} (f : A → A) (x : A) (xs : List A) (at place : ℕ) → (at ≡ 1 → ⊥) → (place ≡ at → ⊥)
    → ((place - 1 ≡ at - 1 → ⊥) → nth (change_nth f xs (at - 1)) (place - 1) ≡ nth xs (place - 1))
    → nth (x ∷ change_nth f xs (at - 1)) place ≡ nth (x ∷ xs) place
changed_behind f x xs at place later ne rest =
    elim (cases_eq place 1) [
      | inl first ↦ nth_first x (change_nth f xs (at - 1)) place first ∙ sym (nth_first x xs place first)
      | inr apart ↦
          nth_rest x (change_nth f xs (at - 1)) place apart
          ∙ rest (λ same. behind at place later apart ne same)
          ∙ sym (nth_rest x xs place apart)
    ]

pub changed_elsewhere : {A : Type 0} (f : A → A) (xs : List A) (at place : ℕ) → (place ≡ at → ⊥) → nth (change_nth f xs at) place ≡ nth xs place
changed_elsewhere f [] at place ne = refl
changed_elsewhere f (x ∷ xs) at place ne =
    elim (cases_eq at 1) [
      | inl first ↦
          let apart : place ≡ 1 → ⊥ = λ e. ne (e ∙ sym first) in
          ap (λ b. nth (cond b (f x ∷ xs) (x ∷ change_nth f xs (at - 1))) place) (eq-eqb at 1 first)
          ∙ nth_rest (f x) xs place apart ∙ sym (nth_rest x xs place apart)
      | inr later ↦
          ap (λ b. nth (cond b (f x ∷ xs) (x ∷ change_nth f xs (at - 1))) place) (ne_eqb at 1 later)
          ∙ changed_behind f x xs at place later ne (λ lower. changed_elsewhere f xs (at - 1) (place - 1) lower)
    ]

-- nothing at a place of rows that were edited: nothing was there before
pub none_before : {A : Type 0} (f : A → A) (xs ys : List A) (place : ℕ) → nth (map f xs ++ ys) place ≡ None → nth xs place ≡ None
none_before {A = A} f xs ys place e = still (nth xs place) refl
  where
    still : (o : Option A) → nth xs place ≡ o → nth xs place ≡ None
    still None is = is
    still (Some x) is =
        let there : nth (map f xs ++ ys) place ≡ Some (f x) = nth_more (map f xs) ys place (f x) (nth_map f xs place ∙ ap (option_map f) is) in
        let clash : ⊥ = cc in absurd clash

pub none_unchanged : {A : Type 0} (f : A → A) (xs : List A) (at place : ℕ) → nth (change_nth f xs at) place ≡ None → nth xs place ≡ None
none_unchanged f xs at place e =
    elim (cases_eq place at) [
      | inl same ↦ map_none f (nth xs place) (sym (changed_here f xs place) ∙ ap (λ k. nth (change_nth f xs k) place) same ∙ e)
      | inr apart ↦ sym (changed_elsewhere f xs at place apart) ∙ e
    ]

-- a search over the incarnations whose rows pass
pub none_among : {B : Type 0} (question : ℕ → Option B) (test : Row → Bool) (rows : List Row) (inc : ℕ) (row : Row)
    → first_answer question (incs_where test rows) ≡ None → nth rows inc ≡ Some row → test row ≡ true → question inc ≡ None
none_among question test rows inc row e there passes =
    let within = nth_within rows inc row there in
    let low : 1 ≤ inc = within.low in
    let up : inc ≤ length rows = within.up in
    none_from question (λ k. some_pass test (nth rows k)) 1 (length rows) inc e low (omega arith) (ap (some_pass test) there ∙ passes)

head_none : {A : Type 0} (xs : List A) → head xs ≡ None → xs ≡ []
head_none [] e = refl
head_none (x ∷ xs) e = let clash : ⊥ = cc in absurd clash

-- an incarnation in which no unentered occurrence is found has none
pub none_open : (times : TimesSeen) (t inc : ℕ) → open_at times t inc ≡ None → times.unentered inc t ≡ []
none_open times t inc e = head_none (times.unentered inc t) (map_none _ (head (times.unentered inc t)) e)
