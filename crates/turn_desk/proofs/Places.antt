-- Beginnings of one list, and entries with their places.
use Rattle.std.proofs.Common.{◌≡◌, ◌≢◌, ℕ, zero, suc, ◌+◌, ◌<◌, ◌≤◌, Bool, true, false, List, [], ◌∷◌, ◌++◌, length, drop, Some, slice_get, ltb, leb, cond, refl, ap, sym, subst, ◌∙◌, arith, append_assoc}
use Rattle.std.specs.List.{All}
use Rattle.std.proofs.lemmas.List.Elements.{All-nil, All-cons, All-head, All-tail, All-weaker}
use Rattle.std.proofs.lemmas.Bool.{ltb-true, ltb-false, leb-true, leb-false}
use mathlib.Core.List.{IsPrefix}
use Rattle.turn_desk.specs.Knowing.{numbered, RisesFrom, put_in, by_place, longer}

module _ {A : Type 0} where
  pub prefix_self : (xs : List A) → IsPrefix xs xs
  prefix_self [] = ([], refl)
  prefix_self (x ∷ xs) = (let r = prefix_self xs in r.0, ap (λ ys. x ∷ ys) (prefix_self xs).1)

  pub prefix_trans : (xs ys zs : List A) → IsPrefix xs ys → IsPrefix ys zs → IsPrefix xs zs
  prefix_trans xs ys zs p q = (p.0 ++ q.0, sym (append_assoc xs p.0 q.0) ∙ (ap (λ w. w ++ q.0) p.1 ∙ q.1))

  -- of two beginnings of one list the shorter begins the longer
  pub prefix_shorter : (xs ys zs : List A) → IsPrefix xs zs → IsPrefix ys zs → length xs ≤ length ys → IsPrefix xs ys
  prefix_shorter [] ys zs p q le = (ys, refl)
  prefix_shorter (x ∷ xs) [] zs p q le = absurd (omega arith)
  prefix_shorter (x ∷ xs) (y ∷ ys) [] p q le = absurd (cc (p.1))
  prefix_shorter (x ∷ xs) (y ∷ ys) (z ∷ zs) p q le =
      let heads : x ≡ y = cc (p.1, q.1) in
      let rest = prefix_shorter xs ys zs (p.0, cc (p.1)) (q.0, cc (q.1)) (omega arith) in
      (rest.0, cc (heads, rest.1))

  -- what stands in a beginning stands in the whole, at the same place
  pub prefix_get : (xs ys : List A) (k : ℕ) (x : A) → IsPrefix xs ys → slice_get xs k ≡ Some x → slice_get ys k ≡ Some x
  prefix_get [] ys k x p h = absurd cc
  prefix_get (y ∷ xs) [] k x p h = absurd (cc (p.1))
  prefix_get (y ∷ xs) (z ∷ ys) zero x p h = cc (p.1, h)
  prefix_get (y ∷ xs) (z ∷ ys) (suc k) x p h = prefix_get xs ys k x (p.0, cc (p.1)) h

  -- of two beginnings of one list both begin the longer, which begins the list
  pub prefix_longer : (xs ys zs : List A) → IsPrefix xs zs → IsPrefix ys zs → IsPrefix xs (longer xs ys) × IsPrefix ys (longer xs ys) × IsPrefix (longer xs ys) zs
  prefix_longer xs ys zs p q = by_case (leb (length xs) (length ys)) refl
    where
      by_case : (b : Bool) → leb (length xs) (length ys) ≡ b → IsPrefix xs (cond b ys xs) × IsPrefix ys (cond b ys xs) × IsPrefix (cond b ys xs) zs
      by_case true e = (prefix_shorter xs ys zs p q (leb-true _ _ e), prefix_self ys, q)
      by_case false e = (prefix_self xs, prefix_shorter ys xs zs q p (let h : length ys < length xs = leb-false _ _ e in omega arith), p)

  pub get_drop : (n : ℕ) (xs : List A) (i : ℕ) (x : A) → slice_get (drop n xs) i ≡ Some x → slice_get xs (n + i) ≡ Some x
  get_drop zero xs i x h = subst (λ (k : ℕ). slice_get xs k ≡ Some x) (omega arith) h
  get_drop (suc n) [] i x h = absurd cc
  get_drop (suc n) (y ∷ xs) i x h = let e : suc (n + i) ≡ suc n + i = omega arith in subst (λ (k : ℕ). slice_get (y ∷ xs) k ≡ Some x) e (get_drop n xs i x h)

  -- what is so of each entry of a list, with its place, is so of the numbered entries
  pub all_numbered : (Q : ℕ × A → Type 0) (n : ℕ) (es : List A) → ((i : ℕ) (e : A) → slice_get es i ≡ Some e → Q (n + i, e)) → All Q (numbered n es)
  all_numbered Q n [] h = All-nil Q
  all_numbered Q n (e ∷ es) h =
      let first : n + 0 ≡ n = omega arith in
      All-cons Q (n, e) (numbered (n + 1) es) (subst (λ (k : ℕ). Q (k, e)) first (h 0 e refl))
      (all_numbered Q (n + 1) es (λ i d x. let same : n + suc i ≡ n + 1 + i = omega arith in subst (λ (k : ℕ). Q (k, d)) same (h (suc i) d x)))

  pub rises_later : (least from : ℕ) (own : List (ℕ × A)) → least ≤ from → RisesFrom from own → RisesFrom least own
  rises_later least from [] le h = tt
  rises_later least from (p ∷ own) le h = (let a : from ≤ p.0 = h.0 in omega arith, h.1)

  numbered_rises : (least n : ℕ) (es : List A) → least ≤ n → RisesFrom least (numbered n es)
  numbered_rises least n [] le = tt
  numbered_rises least n (e ∷ es) le = (le, numbered_rises (n + 1) (n + 1) es (omega arith))

  -- places that rise below n, and those from n on behind them
  pub rises_on : (least n : ℕ) (own : List (ℕ × A)) (es : List A) → RisesFrom least own → All (λ p. p.0 < n) own → least ≤ n → RisesFrom least (own ++ numbered n es)
  rises_on least n [] es h below le = numbered_rises least n es le
  rises_on least n (p ∷ own) es h below le =
      let here : p.0 < n = All-head (λ (q : ℕ × A). q.0 < n) p own below in
      (h.0, rises_on (p.0 + 1) n own es h.1 (All-tail (λ (q : ℕ × A). q.0 < n) p own below) (omega arith))

  put_in_all : (P : ℕ × A → Type 0) (p : ℕ × A) (own : List (ℕ × A)) → P p → All P own → All P (put_in p own)
  put_in_all P p [] here all = All-cons P p [] here (All-nil P)
  put_in_all P p (q ∷ own) here all = by_case (ltb p.0 q.0) (put_in_all P p own here (All-tail P q own all))
    where
      by_case : (b : Bool) → All P (put_in p own) → All P (cond b (p ∷ (q ∷ own)) (q ∷ put_in p own))
      by_case true rest = All-cons P p (q ∷ own) here all
      by_case false rest = All-cons P q (put_in p own) (All-head P q own all) rest

  pub by_place_all : (P : ℕ × A → Type 0) (own rest : List (ℕ × A)) → All P own → All P rest → All P (by_place own rest)
  by_place_all P [] rest a b = b
  by_place_all P (p ∷ own) rest a b = put_in_all P p (by_place own rest) (All-head P p own a) (by_place_all P own rest (All-tail P p own a) b)

  put_in_rises : (least : ℕ) (p : ℕ × A) (own : List (ℕ × A)) → least ≤ p.0 → RisesFrom least own → All (λ q. p.0 ≢ q.0) own → RisesFrom least (put_in p own)
  put_in_rises least p [] le h apart = (le, tt)
  put_in_rises least p (q ∷ own) le h apart =
      by_case (ltb p.0 q.0) refl (λ l. put_in_rises (q.0 + 1) p own l h.1 (All-tail (λ (r : ℕ × A). p.0 ≢ r.0) q own apart))
    where
      by_case : (b : Bool) → ltb p.0 q.0 ≡ b → (q.0 + 1 ≤ p.0 → RisesFrom (q.0 + 1) (put_in p own)) → RisesFrom least (cond b (p ∷ (q ∷ own)) (q ∷ put_in p own))
      by_case true e later = let l : p.0 < q.0 = ltb-true _ _ e in (le, (omega arith, h.1))
      by_case false e later =
          let l : q.0 ≤ p.0 = ltb-false _ _ e in
          let n : p.0 ≢ q.0 = All-head (λ (r : ℕ × A). p.0 ≢ r.0) q own apart in
          (h.0, later (grind arith))

  above : (least : ℕ) (own : List (ℕ × A)) → RisesFrom least own → All (λ q. least ≤ q.0) own
  above least [] h = All-nil (λ (q : ℕ × A). least ≤ q.0)
  above least (p ∷ own) h =
      All-cons (λ (q : ℕ × A). least ≤ q.0) p own h.0
      (All-weaker (λ (q : ℕ × A). p.0 + 1 ≤ q.0) (λ (q : ℕ × A). least ≤ q.0) (λ q l. let a : least ≤ p.0 = h.0 in omega arith) own (above (p.0 + 1) own h.1))

  -- two lists whose places rise, with no place in both, rise together
  pub by_place_rises : (least : ℕ) (own rest : List (ℕ × A)) → RisesFrom least own → RisesFrom least rest → All (λ p. All (λ q. p.0 ≢ q.0) rest) own → RisesFrom least (by_place own rest)
  by_place_rises least [] rest a b apart = b
  by_place_rises least (p ∷ own) rest a b apart =
      let N : ℕ × A → Type 0 = λ q. p.0 ≢ q.0 in
      let Apart : ℕ × A → Type 0 = λ r. All (λ q. r.0 ≢ q.0) rest in
      let le : least ≤ p.0 = a.0 in
      let own_rises = rises_later least (p.0 + 1) own (omega arith) a.1 in
      let behind = All-weaker (λ (q : ℕ × A). p.0 + 1 ≤ q.0) N (λ q l e. omega arith) own (above (p.0 + 1) own a.1) in
      put_in_rises least p (by_place own rest) le (by_place_rises least own rest own_rises b (All-tail Apart p own apart))
      (by_place_all N own rest behind (All-head Apart p own apart))
