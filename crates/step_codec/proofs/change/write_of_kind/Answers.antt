use Rattle.std.proofs.Common.{◌≡◌, ℕ, List, Bor, sym, subst, arith}
use Rattle.sched_plain.specs.declared.write.Write.{Write}
use Rattle.step_codec.specs.Faults.{Reads}
use Rattle.step_codec.specs.Format.{named_table}
use Rattle.step_codec.specs.Payload.{code, write_cells}
use Rattle.step_codec.specs.Tables.{in_front, walk}
use Rattle.step_codec.proofs.change.write_of_kind.Goals as goal

pub returns-in-1-clause-read : goal.returns-in-1-clause-read
returns-in-1-clause-read c =
    subst (λ (kind : ℕ). Reads (λ (x : Write × Bor (List ℕ)). (write_cells x.0, x.1.now)) c.creation.result (in_front (code kind) (walk (named_table kind) c.args.bytes.now))) (sym c.in-1.is) c.creation.ensures.read

pub returns-in-2-clause-read : goal.returns-in-2-clause-read
returns-in-2-clause-read c =
    subst (λ (kind : ℕ). Reads (λ (x : Write × Bor (List ℕ)). (write_cells x.0, x.1.now)) c.update.result (in_front (code kind) (walk (named_table kind) c.args.bytes.now))) (sym c.in-2.is) c.update.ensures.read

pub returns-in-3-clause-read : goal.returns-in-3-clause-read
returns-in-3-clause-read c =
    subst (λ (kind : ℕ). Reads (λ (x : Write × Bor (List ℕ)). (write_cells x.0, x.1.now)) c.deletion.result (in_front (code kind) (walk (named_table kind) c.args.bytes.now))) (sym c.in-3.is) c.deletion.ensures.read

pub returns-in-4-clause-read : goal.returns-in-4-clause-read
returns-in-4-clause-read c =
    subst (λ (kind : ℕ). Reads (λ (x : Write × Bor (List ℕ)). (write_cells x.0, x.1.now)) c.group_creation.result (in_front (code kind) (walk (named_table kind) c.args.bytes.now))) (sym c.in-4.is) c.group_creation.ensures.read

pub returns-in_default-clause-read : goal.returns-in_default-clause-read
returns-in_default-clause-read c =
    let last : 5 ≡ c.args.kind = omega arith in
    subst (λ (kind : ℕ). Reads (λ (x : Write × Bor (List ℕ)). (write_cells x.0, x.1.now)) c.group_deletion.result (in_front (code kind) (walk (named_table kind) c.args.bytes.now))) last c.group_deletion.ensures.read
