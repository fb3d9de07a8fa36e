-- A payload that is read is spelled so, and what is spelled so is read.
use Rattle.std.proofs.Common.{◌≡◌, ℕ, suc, ◌-◌, ◌%◌, ◌<◌, ◌≤◌, Bool, true, false, nat_le, cond, List, [], ◌∷◌, length, Some, None, Result, Ok, Err, refl, sym, ap, subst, ◌∙◌, arith, inl, inr}
use Rattle.std.specs.Prelude.{IfOk, IfErr}
use Rattle.std.proofs.lemmas.Bool.{leb-true, eqb-true, and_parts}
use Rattle.std.proofs.lemmas.List.{append-nil, nil_from_length}
use Rattle.sched_plain.specs.declared.step.Step.{Step}
use Rattle.sched_plain.specs.Validity.{IsValid}
use Rattle.step_codec.specs.declared.fault.FieldFault.{FieldFault}
use Rattle.step_codec.specs.declared.fault.StepFault.{StepFault}
use Rattle.step_codec.specs.declared.fault.StepFault.TheVariants as faults
use Rattle.step_codec.specs.Cells.{Size, One, Cell, Number, Words, Date, spelled}
use Rattle.step_codec.specs.Payload.{IsExact, cells, code, payload_of}
use Rattle.step_codec.specs.Rules.{is_code, is_empty}
use Rattle.step_codec.specs.Tables.{in_front, walk}
use Rattle.step_codec.specs.Format.{fields}
use Rattle.step_codec.specs.Faults.{Answers, ReadsWhole, Tells, fault_in, first_fault, reading, whole_of}
use Rattle.step_codec.proofs.Widths.{IsBytes}
use Rattle.step_codec.proofs.Fitting.{FitsTable, table_again, table_takes}
use Rattle.step_codec.proofs.StepLaws.{FitsStep, fits_valid, valid_fits}
use Rattle.step_codec.proofs.Rebuilding.{cells_once}

-- ---- what is spelled is read

again_tag : (tag : ℕ) (more : List Cell) → is_code 11 tag ≡ true → FitsTable (fields tag) more → reading (tag ∷ spelled more) ≡ Ok (code tag ∷ more)
unfolding reading
again_tag tag more coded fits =
    let read : walk (fields tag) (spelled more) ≡ Ok (more, []) =
    ap (walk (fields tag)) (sym (append-nil (spelled more))) ∙ table_again (fields tag) more [] fits in
    rw (coded, read) refl

again_one : (size : Size) (tag : ℕ) (more : List Cell) → size ≡ One → is_code 11 tag ≡ true → FitsTable (fields tag) more → reading (spelled (Number size tag ∷ more)) ≡ Ok (Number size tag ∷ more)
again_one size tag more same coded fits =
    let low : tag ≤ 11 = leb-true tag 11 (and_parts (nat_le 1 tag) (nat_le tag 11) coded).1 in
    let small : tag % 256 ≡ tag = omega arith in
    let one : reading (spelled (Number One tag ∷ more)) ≡ Ok (Number One tag ∷ more) =
    ap (λ (b : ℕ). reading (b ∷ spelled more)) small ∙ again_tag tag more coded fits in
    subst (λ (s : Size). reading (spelled (Number s tag ∷ more)) ≡ Ok (Number s tag ∷ more)) (sym same) one

pub reading_again : (cs : List Cell) → FitsStep cs → reading (spelled cs) ≡ Ok cs
reading_again [] fits = absurd fits
reading_again (Words size text ∷ more) fits = absurd fits
reading_again (Date o ∷ more) fits = absurd fits
reading_again (Number size tag ∷ more) fits = again_one size tag more fits.0 fits.1 fits.2

-- ---- what is read is spelled

ended : (test : Bool) (x y : List Cell) (fault : StepFault) → cond test (Ok x) (Err fault) ≡ Ok y → (test ≡ true) × (x ≡ y)
ended true x y fault e = (refl, cc)
ended false x y fault e = absurd cc

-- how a payload was read whole
record IsRead (tag : ℕ) (read : Result (List Cell × List ℕ) FieldFault) (cs : List Cell) : Type 0 where
  pub more : List Cell
  pub walked : read ≡ Ok (more, [])
  pub is : code tag ∷ more ≡ cs

behind_tag : (whole tag : ℕ) (read : Result (List Cell × List ℕ) FieldFault) (cs : List Cell) → whole_of whole (in_front (code tag) read) ≡ Ok cs → IsRead tag read cs
behind_tag whole tag (Err fault) cs e = absurd cc
behind_tag whole tag (Ok x) cs e =
    let end = ended (is_empty x.1) (code tag ∷ x.0) cs (faults.Long (whole - length x.1)) e in
    let none : x.1 ≡ [] = nil_from_length x.1 (eqb-true (length x.1) 0 end.0) in
    record { more = x.0; walked = ap (λ (rest : List ℕ). Ok (x.0, rest)) none; is = end.1 }

coded_read : (coded : Bool) (whole tag : ℕ) (read : Result (List Cell × List ℕ) FieldFault) (cs : List Cell) → cond coded (whole_of whole (in_front (code tag) read)) (Err (faults.BadTag 0)) ≡ Ok cs
    → (coded ≡ true) × IsRead tag read cs
coded_read true whole tag read cs e = (refl, behind_tag whole tag read cs e)
coded_read false whole tag read cs e = absurd cc

pub reading_takes : (p : List ℕ) (cs : List Cell) → IsBytes p → reading p ≡ Ok cs → (p ≡ spelled cs) × FitsStep cs
unfolding reading
reading_takes [] cs fits e = absurd cc
reading_takes (tag ∷ more) cs fits e =
    let r = coded_read (is_code 11 tag) (length (tag ∷ more)) tag (walk (fields tag) more) cs e in
    let byte : tag < 256 = fits 0 in
    let small : tag % 256 ≡ tag = omega arith in
    let t = table_takes (fields tag) more (r.1.more, []) (λ i. fits (suc i)) r.1.walked in
    let behind : more ≡ spelled r.1.more = t.0.parts ∙ append-nil (spelled r.1.more) in
    let whole : tag ∷ more ≡ spelled (code tag ∷ r.1.more) =
    ap (λ (bytes : List ℕ). tag ∷ bytes) behind ∙ ap (λ (b : ℕ). b ∷ spelled r.1.more) (sym small) in
    subst (λ (x : List Cell). (tag ∷ more ≡ spelled x) × FitsStep x) r.1.is (whole, (refl, r.0, t.1))

-- ---- what a reader answers

-- what is read is valid
pub read_valid : (p : List ℕ) (result : Result Step StepFault) → IsBytes p → ReadsWhole cells result (reading p) → IfOk result IsExact → IfOk result IsValid
read_valid p (Ok s) fits reads exact = fits_valid s (reading_takes p (cells s) fits reads).1 exact
read_valid p (Err fault) fits reads exact = tt

-- its payload is what was read
pub read_payload : (p : List ℕ) (result : Result Step StepFault) → IsBytes p → ReadsWhole cells result (reading p) → IfOk result (λ s. p ≡ payload_of s)
unfolding payload_of
read_payload p (Ok s) fits reads = (reading_takes p (cells s) fits reads).0
read_payload p (Err fault) fits reads = tt

-- the payload of a valid step is read as its cells
pub reading_valid : (s : Step) → IsValid s → reading (payload_of s) ≡ Ok (cells s)
unfolding payload_of
reading_valid s valid = reading_again (cells s) (valid_fits s valid)

-- two valid steps have one payload only where they are the same
pub payload_once : (a b : Step) → IsValid a → IsValid b → payload_of a ≡ payload_of b → a ≡ b
payload_once a b one two e =
    let both : Ok (cells a) ≡ Ok (cells b) = sym (reading_valid a one) ∙ ap reading e ∙ reading_valid b two in
    let same : cells a ≡ cells b = cc in
    cells_once a b one two same

answers_ok : (s : Step) (result : Result Step StepFault) → IsValid s → IfOk result IsValid → ReadsWhole cells result (Ok (cells s)) → Answers result (Ok s)
answers_ok s (Ok t) valid right reads =
    let same : cells t ≡ cells s = cc in inl (ap (λ (x : Step). Ok x) (cells_once t s right valid same))
answers_ok s (Err faults.OutOfMemory) valid right reads = inr refl
answers_ok s (Err faults.Short) valid right reads = absurd cc
answers_ok s (Err (faults.BadTag at)) valid right reads = absurd cc
answers_ok s (Err (faults.BadField at)) valid right reads = absurd cc
answers_ok s (Err (faults.Long at)) valid right reads = absurd cc

-- the payload of a valid step is read as that step
pub reads_back : (p : List ℕ) (s : Step) (result : Result Step StepFault) → IsValid s → p ≡ payload_of s → IfOk result IsValid → ReadsWhole cells result (reading p) → Answers result (Ok s)
reads_back p s result valid e right reads =
    answers_ok s result valid right (subst (λ (r : Result (List Cell) StepFault). ReadsWhole cells result r) (ap reading e ∙ reading_valid s valid) reads)

pub tells_first : (p : List ℕ) (result : Result Step StepFault) → ReadsWhole cells result (reading p) → IfErr result (λ f. Tells f p)
tells_first p (Ok s) reads = tt
tells_first p (Err faults.OutOfMemory) reads = inr refl
tells_first p (Err faults.Short) reads = inl (ap fault_in reads)
tells_first p (Err (faults.BadTag at)) reads = inl (ap fault_in reads)
tells_first p (Err (faults.BadField at)) reads = inl (ap fault_in reads)
tells_first p (Err (faults.Long at)) reads = inl (ap fault_in reads)

pub first_told : (p : List ℕ) (fault : StepFault) (result : Result Step StepFault) → first_fault p ≡ Some fault → ReadsWhole cells result (reading p) → Answers result (Err fault)
first_told p fault (Ok s) first reads = let none : None ≡ Some fault = sym (ap fault_in reads) ∙ first in absurd cc
first_told p fault (Err faults.OutOfMemory) first reads = inr refl
first_told p fault (Err faults.Short) first reads = let same : Some faults.Short ≡ Some fault = sym (ap fault_in reads) ∙ first in inl (ap (λ (f : StepFault). Err f) (cc same))
first_told p fault (Err (faults.BadTag at)) first reads = let same : Some (faults.BadTag at) ≡ Some fault = sym (ap fault_in reads) ∙ first in inl (ap (λ (f : StepFault). Err f) (cc same))
first_told p fault (Err (faults.BadField at)) first reads = let same : Some (faults.BadField at) ≡ Some fault = sym (ap fault_in reads) ∙ first in inl (ap (λ (f : StepFault). Err f) (cc same))
first_told p fault (Err (faults.Long at)) first reads = let same : Some (faults.Long at) ≡ Some fault = sym (ap fault_in reads) ∙ first in inl (ap (λ (f : StepFault). Err f) (cc same))
