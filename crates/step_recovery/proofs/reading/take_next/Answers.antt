use Rattle.std.proofs.Common.{◌≡◌, ℕ, List, ◌∷◌, ◌++◌, [], ◌∙◌, ap, subst, Ok, Err}
use Rattle.book_parts.specs.Stands.{calendar}
use Rattle.journal_file.specs.Format.{Begins}
use Rattle.journal_steps.specs.Journals.{payloads_of}
use Rattle.step_recovery.specs.Recovery.{IsOfNoStep}
use Rattle.step_recovery.specs.declared.fault.LoadFault.TheVariants as faults
use Rattle.step_recovery.proofs.DamageLemmas.{bad_seen, broken_seen}
use Rattle.step_recovery.proofs.ReadingLemmas.{seen_as}
use Rattle.step_recovery.proofs.reading.take_next.Goals as goal

pub returns-in-Err-take_at-clause-damaged : goal.returns-in-Err-take_at-clause-damaged
returns-in-Err-take_at-clause-damaged g c = λ at is.
    let h = c.requires.history in
    let fault : c.in-Err-take_at.fault ≡ faults.Damaged at = cc is in
    let (gate, none) = c.in-Err-take_at.ensures.broken at (ap Err fault) in
    let here = c.in-Ok-true.ensures.passed (ap Ok c.in-Ok-true.field-0-test) (payloads_of h) c.requires.passed in
    let more = seen_as (Begins (payloads_of h ++ c.next_payload.new.payload.items ∷ [])) _ _ c.next_payload.ensures.only_read.gives here.begins in
    broken_seen calendar h at c.next_payload.new.payload.items _
    (g.met.M.Machine.legal_history _ h c.requires.stands) (g.met.M.Machine.valid_history _ h c.requires.stands)
    c.requires.passed.begins (gate ∙ c.at-gate.ensures ∙ c.requires.passed.at)
    (c.in-Ok-true.ensures.sized (ap Ok c.in-Ok-true.field-0-test)) more
    (subst (λ (x : List ℕ). IsOfNoStep calendar h x) c.as_slice.ensures.value (none h c.requires.stands))

pub returns-in-Err-clause-damaged : goal.returns-in-Err-clause-damaged
returns-in-Err-clause-damaged g c = λ at is.
    let h = c.requires.history in
    let (gate, bad) = c.in-Err.ensures.bad at is in
    bad_seen calendar h at _
    (g.met.M.Machine.legal_history _ h c.requires.stands) (g.met.M.Machine.valid_history _ h c.requires.stands)
    c.requires.passed.begins (gate ∙ c.requires.passed.at) (bad (payloads_of h) c.requires.passed)
