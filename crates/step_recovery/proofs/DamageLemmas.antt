-- What the reading finds at a gate, and what that says of the file.
use Rattle.std.proofs.Common.{◌≡◌, ℕ, List, [], ◌∷◌, ◌++◌, length, drop, refl, sym, ◌∙◌, ap, subst, Option, Some, None, IfSome, append_assoc}
use Rattle.std.proofs.lemmas.List.{drop_at}
use Rattle.expressions.specs.Calendar.{Calendar}
use Rattle.sched_plain.specs.History.{History}
use Rattle.sched_plain.specs.Legal.{IsLegal}
use Rattle.sched_plain.specs.Validity.{AllValid}
use Rattle.step_codec.specs.Payload.{payload_of}
use Rattle.journal_file.specs.Format.{IsPayload, gated, front, Begins, IsBad, ClosedHead}
use Rattle.journal_file.proofs.FormatLemmas.{front_more}
use Rattle.journal_steps.specs.Journals.{payloads_of, IsDamage, DamagedAt}
use Rattle.journal_steps.proofs.RecordLemmas.{one_record, record_is_whole}
use Rattle.journal_steps.proofs.ChainLemmas.{step_sized}
use Rattle.step_recovery.specs.Recovery.{IsOfNoStep}

-- a bad gate is not closed
bad_is_open : (bytes : List ℕ) → IsBad bytes → ClosedHead bytes → ⊥
bad_is_open [] bad closed = closed
bad_is_open (gate ∷ rest) bad closed = closed bad.0

-- where no whole record is there is damage
bad_damage : (c : Calendar) (h : History) (bytes : List ℕ) → IsBad bytes → IsDamage c h bytes
bad_damage c h bytes bad = record {
  no_end = bad_is_open bytes bad;
  no_step = λ s more valid may is. record_is_whole (payload_of s) more (step_sized s valid) (subst IsBad is bad);
}

-- where a whole record is that of no step, too
broken_damage : (c : Calendar) (h : History) (payload rest : List ℕ) → IsPayload payload → IsOfNoStep c h payload → IsDamage c h (gated payload ++ rest)
broken_damage c h payload rest sized none = record {
  no_end = λ closed. closed refl;
  no_step = λ s more valid may is. none s valid may (one_record payload (payload_of s) rest more sized (step_sized s valid) is).0;
}

bad_file : (c : Calendar) (h : History) (gate : ℕ) (file : List ℕ) → IsLegal c h → AllValid h → Begins (payloads_of h) file → gate ≡ length (front (payloads_of h)) → IsBad (drop gate file) → DamagedAt c gate file
bad_file c h gate file legal valid begins at bad = record {
  before = h;
  begins = record { legal = legal; valid = valid; begins = begins };
  at = at;
  damage = bad_damage c h (drop gate file) bad;
}

broken_file : (c : Calendar) (h : History) (gate : ℕ) (payload file : List ℕ) → IsLegal c h → AllValid h → Begins (payloads_of h) file → gate ≡ length (front (payloads_of h)) → IsPayload payload
    → Begins (payloads_of h ++ payload ∷ []) file → IsOfNoStep c h payload → DamagedAt c gate file
broken_file c h gate payload file legal valid begins at sized more none =
    let is : file ≡ front (payloads_of h) ++ (gated payload ++ more.rest) =
    more.is ∙ ap (λ x. x ++ more.rest) (front_more (payloads_of h) payload) ∙ append_assoc (front (payloads_of h)) (gated payload) more.rest in
    let rest : drop gate file ≡ gated payload ++ more.rest = ap (drop gate) is ∙ drop_at (front (payloads_of h)) (gated payload ++ more.rest) gate (sym at) in
    record {
      before = h;
      begins = record { legal = legal; valid = valid; begins = begins };
      at = at;
      damage = subst (IsDamage c h) (sym rest) (broken_damage c h payload more.rest sized none);
    }

-- The same of what a disk tells.
pub bad_seen : (c : Calendar) (h : History) (gate : ℕ) (seen : Option (List ℕ)) → IsLegal c h → AllValid h → IfSome seen (Begins (payloads_of h)) → gate ≡ length (front (payloads_of h))
    → IfSome seen (λ file. IsBad (drop gate file)) → IfSome seen (DamagedAt c gate)
bad_seen c h gate None legal valid begins at bad = tt
bad_seen c h gate (Some file) legal valid begins at bad = bad_file c h gate file legal valid begins at bad

pub broken_seen : (c : Calendar) (h : History) (gate : ℕ) (payload : List ℕ) (seen : Option (List ℕ)) → IsLegal c h → AllValid h → IfSome seen (Begins (payloads_of h)) → gate ≡ length (front (payloads_of h))
    → IsPayload payload → IfSome seen (Begins (payloads_of h ++ payload ∷ [])) → IsOfNoStep c h payload → IfSome seen (DamagedAt c gate)
broken_seen c h gate payload None legal valid begins at sized more none = tt
broken_seen c h gate payload (Some file) legal valid begins at sized more none = broken_file c h gate payload file legal valid begins at sized more none
