-- What writes make of lists of bytes.
use Rattle.std.proofs.Common.{◌≡◌, inl, inr, ℕ, ◌+◌, ◌-◌, ◌≤◌, min, List, ◌++◌, length, take, drop, replicate, sym, ◌∙◌, ap, arith, length-append, length-take, length-drop}
use Rattle.std.proofs.lemmas.List.{take_all, drop_all, take_at, drop_at, take-take, take_min, take_rest, take-append-le, length-replicate, replicate-append-replicate, append-nil, append_assoc}
use Rattle.std.proofs.lemmas.Bool.{cases_lt}
use Rattle.disk_port.specs.Writes.{reaching, written, Torn}

length-reaching : (place : ℕ) (file : List ℕ) → length (reaching place file) ≡ length file + (place - length file)
length-reaching place file =
    length-append file (replicate (place - length file) 0) ∙ ap (λ n. length file + n) (length-replicate (place - length file) 0)

-- a file that is long enough stays as it is
pub reaching_there : (place : ℕ) (file : List ℕ) → place ≤ length file → reaching place file ≡ file
reaching_there place file le =
    let none : place - length file ≡ 0 = omega arith in
    ap (λ n. file ++ replicate n 0) none ∙ append-nil file

-- the front of a file that was made longer than the front is long
take_reaching : (at n : ℕ) (file : List ℕ) → take at (reaching (at + n) file) ≡ take at (reaching at file)
take_reaching at n file = elim (cases_lt (length file) at) [
  | inl short ↦
      let more : at + n - length file ≡ (at - length file) + n = omega arith in
      let long : length (reaching at file) ≡ at = omega (arith, length-reaching at file) in
      let parts : reaching (at + n) file ≡ reaching at file ++ replicate n 0 =
      ap (λ k. file ++ replicate k 0) more
      ∙ ap (λ zeros. file ++ zeros) (sym (replicate-append-replicate (at - length file) n 0))
      ∙ sym (append_assoc file (replicate (at - length file) 0) (replicate n 0)) in
      ap (take at) parts ∙ take_at (reaching at file) (replicate n 0) at long ∙ sym (take_all at (reaching at file) (omega arith))
  | inr there ↦
      take-append-le at file (replicate (at + n - length file) 0) there
      ∙ sym (take-append-le at file (replicate (at - length file) 0) there)
]

-- behind a place to which the file was made to reach there is what was there
drop_reaching : (place : ℕ) (file : List ℕ) → drop place (reaching place file) ≡ drop place file
drop_reaching place file = elim (cases_lt (length file) place) [
  | inl short ↦
      drop_all place (reaching place file) (omega (arith, length-reaching place file))
      ∙ sym (drop_all place file (omega arith))
  | inr there ↦ ap (drop place) (reaching_there place file there)
]

-- bytes put over those of a file that reaches behind them
pub write_over : (file bytes : List ℕ) (at end : ℕ) → end ≡ at + length bytes
    → take at (reaching end file) ++ bytes ++ drop (at + length bytes) (reaching end file) ≡ written file at bytes
write_over file bytes at end is =
    rw is (
    ap (λ front. front ++ bytes ++ drop (at + length bytes) (reaching (at + length bytes) file)) (take_reaching at (length bytes) file)
    ∙ ap (λ back. take at (reaching at file) ++ bytes ++ back) (drop_reaching (at + length bytes) file)
    )

-- a write is one of those that may have been cut short
pub written_torn : (file bytes : List ℕ) (at n : ℕ) → length bytes ≡ n → Torn at n file (written file at bytes)
written_torn file bytes at n counts =
    let front = take at (reaching at file) in
    let reaches : at ≤ length (reaching at file) = omega (arith, length-reaching at file) in
    let front_long : length front ≡ at = omega (arith, length-take at (reaching at file)) in
    let both : length (front ++ bytes) ≡ at + n = omega (arith, length-append front bytes) in
    let low : min at (length file) ≤ at = omega arith in
    record {
      before =
          ap (take (min at (length file))) (append_assoc front bytes (drop (at + length bytes) file))
          ∙ take-append-le (min at (length file)) front (bytes ++ drop (at + length bytes) file) (omega arith)
          ∙ take-take (min at (length file)) at (reaching at file) low
          ∙ take-append-le (min at (length file)) file (replicate (at - length file) 0) (omega arith)
          ∙ take_min at file;
      after =
          ap (take (length file - (at + n))) (drop_at (front ++ bytes) (drop (at + length bytes) file) (at + n) both)
          ∙ ap (λ k. take (length file - (at + n)) (drop (at + k) file)) counts
          ∙ take_rest file (at + n);
      no_shorter = omega (arith, both, length-append (front ++ bytes) (drop (at + length bytes) file), length-drop (at + length bytes) file);
    }
