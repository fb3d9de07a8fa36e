-- Tables that are read in parts.
use Rattle.std.proofs.Common.{◌≡◌, ℕ, List, [], ◌∷◌, ◌++◌, Result, Ok, Err, refl, ◌∙◌}
use Rattle.step_codec.specs.declared.fault.FieldFault.{FieldFault}
use Rattle.step_codec.specs.Cells.{Size, Cell, Number}
use Rattle.step_codec.specs.Tables.{Table, nothing, ◌then◌, choosing, ◌and◌, ◌giving◌, cell_at, passing_at, in_front, walk}
use Rattle.step_codec.specs.Format.{content_table, texts_table, timing_table, target_table}

-- cells in front of those that were read behind them
abbrev pub rows_in_front : List Cell → Result (List Cell × List ℕ) FieldFault → Result (List Cell × List ℕ) FieldFault
rows_in_front cells read = read giving λ r. Ok (cells ++ r.0, r.1)

nothing_in_front : (read : Result (List Cell × List ℕ) FieldFault) → read ≡ rows_in_front [] read
nothing_in_front (Ok r) = refl
nothing_in_front (Err fault) = refl

one_in_front : (cell : Cell) (cells : List Cell) (read : Result (List Cell × List ℕ) FieldFault) →
    in_front cell (rows_in_front cells read) ≡ rows_in_front (cell ∷ cells) read
one_in_front cell cells (Ok r) = refl
one_in_front cell cells (Err fault) = refl

-- what stands behind a first part
abbrev behind : Table → Result (List Cell × List ℕ) FieldFault → Result (List Cell × List ℕ) FieldFault
behind second read = read giving λ r. rows_in_front r.0 (walk second r.1)

behind_one : (second : Table) (cell : Cell) (read : Result (List Cell × List ℕ) FieldFault) →
    in_front cell (behind second read) ≡ behind second (in_front cell read)
behind_one second cell (Ok r) = one_in_front cell r.0 (walk second r.1)
behind_one second cell (Err fault) = refl

field_goes : (first second : Table) (c : Result (Cell × List ℕ) FieldFault) → ((rest : List ℕ) → walk (first and second) rest ≡ behind second (walk first rest)) →
    (c giving λ x. in_front x.0 (walk (first and second) x.1)) ≡ behind second (c giving λ x. in_front x.0 (walk first x.1))
field_goes first second (Ok x) later = rw (later x.1) (behind_one second x.0 (walk first x.1))
field_goes first second (Err fault) later = refl

chosen_goes : (size : Size) (more : ℕ → Table) (second : Table) (c : Result (ℕ × List ℕ) FieldFault) → ((n : ℕ) (rest : List ℕ) → walk (more n and second) rest ≡ behind second (walk (more n) rest)) →
    (c giving λ x. in_front (Number size x.0) (walk (more x.0 and second) x.1)) ≡ behind second (c giving λ x. in_front (Number size x.0) (walk (more x.0) x.1))
chosen_goes size more second (Ok x) later = rw (later x.0 x.1) (behind_one second (Number size x.0) (walk (more x.0) x.1))
chosen_goes size more second (Err fault) later = refl

-- two tables read one behind the other
pub walk_and : (first second : Table) (bytes : List ℕ) → walk (first and second) bytes ≡ behind second (walk first bytes)
walk_and nothing second bytes = nothing_in_front (walk second bytes)
walk_and (field then more) second bytes = field_goes more second (cell_at field bytes) (walk_and more second)
walk_and (choosing size passes more) second bytes = chosen_goes size more second (passing_at size passes bytes) (λ n. walk_and (more n) second)

-- a content read in its three parts
pub walk_content : (bytes : List ℕ) → walk content_table bytes ≡
    (walk texts_table bytes giving λ a. rows_in_front a.0 (walk timing_table a.1 giving λ b. rows_in_front b.0 (walk target_table b.1)))
walk_content bytes =
    let later : (rest : List ℕ) → walk (timing_table and target_table) rest ≡ behind target_table (walk timing_table rest) =
    λ rest. walk_and timing_table target_table rest in
    walk_and texts_table (timing_table and target_table) bytes ∙ (λ i. walk texts_table bytes giving λ a. rows_in_front a.0 (later a.1 i))
