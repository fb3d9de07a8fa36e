use Rattle.std.proofs.Common.{◌≡◌, ℕ, ◌+◌, ◌-◌, List, [], ◌∷◌, ◌++◌, length, ap, ◌∙◌, arith}
use Rattle.step_codec.specs.Cells.{Number, Four, big_endian, spell, spelled}
use Rattle.step_codec.specs.Payload.{cells, payload_of}
use Rattle.step_codec.proofs.PayloadLengths.{cells_short, payload_short, payload_some}
use Rattle.step_codec.proofs.writing.write_step.Goals as goal

-- the four bytes for the length, and the cells behind them
behind_length : (empty one two row : List ℕ) → empty ≡ [] → one ≡ empty ++ spell (Number Four 0) → two ≡ one ++ row → two ≡ big_endian Four 0 ++ row
behind_length empty one two row a b c = c ∙ ap (λ (x : List ℕ). x ++ row) (b ∙ ap (λ (x : List ℕ). x ++ spell (Number Four 0)) a)

long : (two row : List ℕ) → two ≡ big_endian Four 0 ++ row → length two ≡ 4 + length row
long two row e = omega (arith, ap length e)

pub overflow_cast-length : goal.overflow_cast-length
overflow_cast-length c =
    let row = spelled (cells c.args.step.now) in
    let all = behind_length c.clear.new.self.bytes c.put_32.new.self.bytes c.put_step.new.into.bytes row c.clear.ensures.bytes c.put_32.ensures.bytes c.put_step.ensures.bytes in
    let short = cells_short c.args.step.now c.requires in
    let whole = long c.put_step.new.into.bytes row all in
    omega (arith, c.len-length.ensures)

pub returns-clause-frame : goal.returns-clause-frame
unfolding payload_of
returns-clause-frame c =
    let row = spelled (cells c.args.step.now) in
    let all = behind_length c.clear.new.self.bytes c.put_32.new.self.bytes c.put_step.new.into.bytes row c.clear.ensures.bytes c.put_32.ensures.bytes c.put_step.ensures.bytes in
    let whole = long c.put_step.new.into.bytes row all in
    let number : c.len-length.result - 4 ≡ length row = omega (arith, c.len-length.ensures) in
    c.set_front.ensures (row ++ 0 ∷ []) (c.put_8.ensures.bytes ∙ ap (λ (x : List ℕ). x ++ 0 ∷ []) all)
    ∙ ap (λ (n : ℕ). big_endian Four n ++ (row ++ 0 ∷ [])) number

pub returns-clause-short : goal.returns-clause-short
returns-clause-short c = payload_short c.args.step.now c.requires

pub returns-clause-some : goal.returns-clause-some
returns-clause-some c = payload_some c.args.step.now
