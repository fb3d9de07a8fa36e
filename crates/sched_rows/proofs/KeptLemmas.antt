-- What is known of the rows from the list in which they are kept.
use Rattle.std.proofs.Common.{◌≡◌, ℕ, zero, suc, ◌+◌, ◌-◌, ◌≤◌, ◌<◌, Bool, false, Some, None, List, [], ◌∷◌, length, get_or, option_map, sym, ap, ◌∙◌, subst, arith}
use Rattle.plain_words.specs.Lists.{nth, some_pass}
use Rattle.plain_words.proofs.ListLemmas.{nth_map, nth_first, nth_rest}
use Rattle.sched_plain.specs.declared.row.Row.{Row}
use Rattle.sched_rows.specs.State.{Kept, rows_in, rooms_in, IsRoomy}
use Rattle.sched_rows.specs.Spans.{FrontEnded, AllSpanned}
use Rattle.sched_rows.proofs.SpanLemmas.{front_at}
use Rattle.sched_rows.proofs.ChangeLemmas.{rows_get, length_rows}

-- a test of the row of a number, from what is kept under it
pub test_some : (t : Row → Bool) (kept : List Kept) (n : ℕ) (k : Kept) → Some k ≡ nth kept n → t k.row ≡ some_pass t (nth (rows_in kept) n)
test_some t kept n k e = sym (ap (some_pass t) (nth_map (λ (k : Kept). k.row) kept n ∙ ap (option_map (λ (k : Kept). k.row)) (sym e)))

pub test_none : (t : Row → Bool) (kept : List Kept) (n : ℕ) → None ≡ nth kept n → false ≡ some_pass t (nth (rows_in kept) n)
test_none t kept n e = sym (ap (some_pass t) (nth_map (λ (k : Kept). k.row) kept n ∙ ap (option_map (λ (k : Kept). k.row)) (sym e)))

-- the spans of a row but the last have ended
pub front_read : (at : ℕ) (kept : List Kept) (i : ℕ) (d : Kept) → AllSpanned at (rows_in kept) → i < length kept → d ≡ get_or kept i d → FrontEnded at d.row.revisions
front_read at kept i d spans within read =
    subst (λ (k : Kept). FrontEnded at k.row.revisions) (sym read)
    (subst (λ (row : Row). FrontEnded at row.revisions) (rows_get kept i d) (front_at at (rows_in kept) i d.row spans (omega (arith, length_rows kept))))

room_at : (kept : List Kept) (i n : ℕ) (d : Kept) → n ≡ i + 1 → i < length kept → IsRoomy (nth (rooms_in kept) n) → 1 ≤ (get_or kept i d).room
room_at [] i n d e within roomy = absurd (omega arith)
room_at (k ∷ kept) zero n d e within roomy = subst IsRoomy (nth_first k.room (rooms_in kept) n (omega arith)) roomy
room_at (k ∷ kept) (suc i) n d e within roomy =
    let apart : n ≡ 1 → ⊥ = λ h. omega arith in
    room_at kept i (n - 1) d (omega arith) (omega arith) (subst IsRoomy (nth_rest k.room (rooms_in kept) n apart) roomy)

-- a row of which room is known has it
pub room_read : (kept : List Kept) (i n : ℕ) (d : Kept) → n ≡ i + 1 → i < length kept → IsRoomy (nth (rooms_in kept) n) → d ≡ get_or kept i d → 1 ≤ d.room
room_read kept i n d e within roomy read = subst (λ (k : Kept). 1 ≤ k.room) (sym read) (room_at kept i n d e within roomy)
