-- The pairs of an Enter, read one after the other as a loop does.
use Rattle.std.proofs.Common.{◌≡◌, ℕ, suc, ◌-◌, ◌+◌, ◌≤◌, ◌<◌, List, [], ◌∷◌, ◌++◌, Result, Ok, Err, refl, sym, ap, ◌∙◌, append_assoc, arith}
use Rattle.std.proofs.lemmas.List.{append-nil}
use Rattle.sched_plain.specs.declared.step.Pair.{Pair}
use Rattle.step_codec.specs.declared.fault.FieldFault.{FieldFault}
use Rattle.step_codec.specs.declared.fault.FieldFault.TheVariants as faults
use Rattle.step_codec.specs.Cells.{Cell, Number, Four, Eight}
use Rattle.step_codec.specs.Faults.{Reads}
use Rattle.step_codec.specs.Format.{pairs_table}
use Rattle.step_codec.specs.Payload.{pair_cells}
use Rattle.step_codec.specs.Tables.{◌giving◌, walk}
use Rattle.step_codec.proofs.Joining.{rows_in_front, walk_and}

pub pair_cells-append : (front back : List Pair) → pair_cells (front ++ back) ≡ pair_cells front ++ pair_cells back
pair_cells-append [] back = refl
pair_cells-append (p ∷ front) back = ap (λ (cells : List Cell). Number Eight p.instant ∷ Number Four (p.chosen - p.instant) ∷ cells) (pair_cells-append front back)

rows_twice : (first second : List Cell) (read : Result (List Cell × List ℕ) FieldFault) → rows_in_front first (rows_in_front second read) ≡ rows_in_front (first ++ second) read
rows_twice first second (Ok r) = ap (λ (cells : List Cell). Ok (cells, r.1)) (sym (append_assoc first second r.0))
rows_twice first second (Err fault) = refl

-- a pair, and those behind it
one_more : (more : ℕ) (bytes : List ℕ) → walk (pairs_table (suc more)) bytes ≡ (walk (pairs_table 1) bytes giving λ r. rows_in_front r.0 (walk (pairs_table more) r.1))
one_more more bytes = walk_and (pairs_table 1) (pairs_table more) bytes

pub pairs_go_on : (front : List Pair) (count i : ℕ) (bytes : List ℕ) (pair : Pair) (after : List ℕ) (total : Result (List Cell × List ℕ) FieldFault) → i < count → walk (pairs_table 1) bytes ≡ Ok (pair_cells (pair ∷ []), after)
    → rows_in_front (pair_cells front) (walk (pairs_table (count - i)) bytes) ≡ total → rows_in_front (pair_cells (front ++ pair ∷ [])) (walk (pairs_table (count - (i + 1))) after) ≡ total
pairs_go_on front count i bytes pair after total lt h so_far =
    let left = count - (i + 1) in
    let k : count - i ≡ suc left = omega arith in
    let read : walk (pairs_table (count - i)) bytes ≡ rows_in_front (pair_cells (pair ∷ [])) (walk (pairs_table left) after) =
    ap (λ (n : ℕ). walk (pairs_table n) bytes) k ∙ one_more left bytes ∙ ap (λ (r : Result (List Cell × List ℕ) FieldFault). r giving λ x. rows_in_front x.0 (walk (pairs_table left) x.1)) h in
    ap (λ (cells : List Cell). rows_in_front cells (walk (pairs_table left) after)) (pair_cells-append front (pair ∷ []))
    ∙ sym (rows_twice (pair_cells front) (pair_cells (pair ∷ [])) (walk (pairs_table left) after))
    ∙ ap (rows_in_front (pair_cells front)) (sym read) ∙ so_far

-- the fault of a pair is that of all
fails : (front : List Pair) (count i : ℕ) (bytes : List ℕ) (fault : FieldFault) (total : Result (List Cell × List ℕ) FieldFault) → i < count → walk (pairs_table 1) bytes ≡ Err fault
    → rows_in_front (pair_cells front) (walk (pairs_table (count - i)) bytes) ≡ total → total ≡ Err fault
fails front count i bytes fault total lt h so_far =
    let left = count - (i + 1) in
    let k : count - i ≡ suc left = omega arith in
    let read : walk (pairs_table (count - i)) bytes ≡ Err fault =
    ap (λ (n : ℕ). walk (pairs_table n) bytes) k ∙ one_more left bytes ∙ ap (λ (r : Result (List Cell × List ℕ) FieldFault). r giving λ x. rows_in_front x.0 (walk (pairs_table left) x.1)) h in
    sym so_far ∙ ap (rows_in_front (pair_cells front)) read

pub pairs_end : {X Y : Type 0} (one : X → List Cell × List ℕ) (all : Y → List Cell × List ℕ) (fault : FieldFault) (front : List Pair) (count i : ℕ) (bytes : List ℕ) (total : Result (List Cell × List ℕ) FieldFault) → i < count
    → Reads one (Err fault) (walk (pairs_table 1) bytes) → rows_in_front (pair_cells front) (walk (pairs_table (count - i)) bytes) ≡ total → Reads all (Err fault) total
pairs_end one all faults.NoMemory front count i bytes total lt h so_far = tt
pairs_end one all faults.Cut front count i bytes total lt h so_far = fails front count i bytes faults.Cut total lt h so_far
pairs_end one all (faults.Broken left) front count i bytes total lt h so_far = fails front count i bytes (faults.Broken left) total lt h so_far

pub pairs_done : (front : List Pair) (count i : ℕ) (bytes : List ℕ) (total : Result (List Cell × List ℕ) FieldFault) → count ≤ i → rows_in_front (pair_cells front) (walk (pairs_table (count - i)) bytes) ≡ total → total ≡ Ok (pair_cells front, bytes)
pairs_done front count i bytes total le so_far =
    let k : count - i ≡ 0 = omega arith in
    let read : walk (pairs_table (count - i)) bytes ≡ Ok ([], bytes) = ap (λ (n : ℕ). walk (pairs_table n) bytes) k in
    sym so_far ∙ ap (rows_in_front (pair_cells front)) read ∙ ap (λ (cells : List Cell). Ok (cells, bytes)) (append-nil (pair_cells front))
