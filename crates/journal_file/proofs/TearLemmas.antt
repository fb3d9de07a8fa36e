-- What writes make, and a crash leaves, of a file of which the front is known up to a gate.
use Rattle.std.proofs.Common.{◌≡◌, ℕ, ◌+◌, ◌-◌, min, List, [], ◌∷◌, ◌++◌, length, get_or, take, drop, refl, sym, ◌∙◌, ap, arith, append_assoc, length-append, take-append-drop}
use Rattle.std.proofs.lemmas.List.{take_at, drop_at, drop_more, drop-drop}
use Rattle.disk_port.specs.Writes.{written, Torn}
use Rattle.disk_port.proofs.WriteLemmas.{reaching_there}

module _ (known : List ℕ) (gate : ℕ) (rest : List ℕ) where
  abbrev file : List ℕ
  file = known ++ gate ∷ rest

  length-file : length file ≡ length known + 1 + length rest
  length-file = omega (arith, length-append known (gate ∷ rest))

  split : file ≡ (known ++ gate ∷ []) ++ rest
  split = sym (append_assoc known (gate ∷ []) rest)

  length-gated : length (known ++ gate ∷ []) ≡ length known + 1
  length-gated = length-append known (gate ∷ [])

  take-gated : take (length known + 1) file ≡ known ++ gate ∷ []
  take-gated = ap (take (length known + 1)) split ∙ take_at (known ++ gate ∷ []) rest (length known + 1) length-gated

  drop-gated : drop (length known + 1) file ≡ rest
  drop-gated = ap (drop (length known + 1)) split ∙ drop_at (known ++ gate ∷ []) rest (length known + 1) length-gated

  -- a write behind the gate that was cut short leaves the front and the gate
  pub torn_behind : (n : ℕ) (left : List ℕ) → Torn (length known + 1) n (known ++ gate ∷ rest) left → left ≡ known ++ gate ∷ drop (length known + 1) left
  torn_behind n left torn =
      let whole : min (length known + 1) (length file) ≡ length known + 1 = omega (arith, length-file) in
      let same : take (length known + 1) left ≡ known ++ gate ∷ [] = ap (λ k. take k left) (sym whole) ∙ torn.before ∙ take-gated in
      sym (take-append-drop (length known + 1) left)
      ∙ ap (λ front. front ++ drop (length known + 1) left) same
      ∙ append_assoc known (gate ∷ []) (drop (length known + 1) left)

  -- a write behind the gate
  pub written_behind : (bytes : List ℕ) → written (known ++ gate ∷ rest) (length known + 1) bytes ≡ known ++ gate ∷ (bytes ++ drop (length bytes) rest)
  written_behind bytes =
      let there = reaching_there (length known + 1) file (omega (arith, length-file)) in
      let front : take (length known + 1) file ≡ known ++ gate ∷ [] = take-gated in
      let back : drop (length known + 1 + length bytes) file ≡ drop (length bytes) rest =
      sym (drop-drop (length bytes) (length known + 1) file) ∙ ap (drop (length bytes)) drop-gated in
      ap (λ whole. take (length known + 1) whole ++ bytes ++ drop (length known + 1 + length bytes) file) there
      ∙ ap (λ front. front ++ bytes ++ drop (length known + 1 + length bytes) file) front
      ∙ ap (λ back. (known ++ gate ∷ []) ++ bytes ++ back) back
      ∙ append_assoc (known ++ gate ∷ []) bytes (drop (length bytes) rest)
      ∙ append_assoc known (gate ∷ []) (bytes ++ drop (length bytes) rest)

  -- a write of the gate that was cut short leaves any gate, and what stood around it
  pub torn_gate : (left : List ℕ) → Torn (length known) 1 (known ++ gate ∷ rest) left
      → left ≡ known ++ get_or left (length known) 0 ∷ (rest ++ drop (length rest) (drop (length known + 1) left))
  torn_gate left torn =
      let whole : min (length known) (length file) ≡ length known = omega (arith, length-file) in
      let same : take (length known) left ≡ known =
      ap (λ k. take k left) (sym whole) ∙ torn.before ∙ take_at known (gate ∷ rest) (length known) refl in
      let many : length file - (length known + 1) ≡ length rest = omega (arith, length-file) in
      let behind : take (length rest) (drop (length known + 1) left) ≡ rest =
      ap (λ k. take k (drop (length known + 1) left)) (sym many) ∙ torn.after ∙ drop-gated in
      let rests : drop (length known + 1) left ≡ rest ++ drop (length rest) (drop (length known + 1) left) =
      sym (take-append-drop (length rest) (drop (length known + 1) left))
      ∙ ap (λ front. front ++ drop (length rest) (drop (length known + 1) left)) behind in
      sym (take-append-drop (length known) left)
      ∙ ap (λ front. front ++ drop (length known) left) same
      ∙ ap (λ back. known ++ back) (
      drop_more left (length known) 0 (omega (arith, torn.no_shorter, length-file))
      ∙ ap (λ back. get_or left (length known) 0 ∷ back) rests
      )

  -- a write of the gate
  pub written_gate : (byte : ℕ) → written (known ++ gate ∷ rest) (length known) (byte ∷ []) ≡ known ++ byte ∷ rest
  written_gate byte =
      let there = reaching_there (length known) file (omega (arith, length-file)) in
      ap (λ whole. take (length known) whole ++ (byte ∷ []) ++ drop (length known + 1) file) there
      ∙ ap (λ front. front ++ (byte ∷ []) ++ drop (length known + 1) file) (take_at known (gate ∷ rest) (length known) refl)
      ∙ ap (λ back. known ++ (byte ∷ []) ++ back) drop-gated
      ∙ append_assoc known (byte ∷ []) rest
