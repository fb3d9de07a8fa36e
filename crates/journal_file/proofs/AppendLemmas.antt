-- What a disk shows after each of the two writes of an append.
use Rattle.std.proofs.Common.{◌≡◌, ◌⊎◌, inl, inr, ℕ, ◌+◌, List, [], ◌∷◌, ◌++◌, length, Option, sym, ◌∙◌, ap, subst, arith, length-append}
use Rattle.std.proofs.lemmas.Option.{IfSome_then}
use Rattle.disk_port.specs.Writes.{written, Torn}
use Rattle.journal_file.specs.declared.format.TheConstants.{OPEN}
use Rattle.journal_file.specs.Format.{IsPayload, IsFrame, length_bytes, frame_of, payload_of, front, Holds, HoldsEither}
use Rattle.journal_file.specs.Journals.{Shows, Was, WasTorn, WasWritten}
use Rattle.journal_file.proofs.FormatLemmas.{length-length_bytes, Staged, staged_holds, stage_torn, stage_written, gate_torn, gate_written}

-- how long a frame is
pub frame_long : (frame : List ℕ) → IsFrame frame → length frame ≡ 5 + length (payload_of frame)
frame_long frame framed =
    let payload = payload_of frame in
    ap length framed.is
    ∙ length-append (length_bytes payload ++ payload) (0 ∷ [])
    ∙ omega (arith, length-append (length_bytes payload) payload, length-length_bytes payload)

module _ {D : Type 0} (seen : D → Option (List ℕ)) (image : D → List ℕ → Type 0) where
  -- what passes less passes
  pub shows_then : (disk : D) (passes more : List ℕ → Type 0) → Shows seen image disk passes → ((file : List ℕ) → passes file → more file) → Shows seen image disk more
  shows_then disk passes more shows implies = record {
    read = IfSome_then (seen disk) shows.read implies;
    images = λ file left. implies file (shows.images file left);
  }

  -- a file that was read or left passes
  pub was_passes : (disk : D) (passes : List ℕ → Type 0) → Shows seen image disk passes → (file : List ℕ) → Was seen image disk file → passes file
  was_passes disk passes shows file (inl read) = rw read at shows.read
  was_passes disk passes shows file (inr left) = shows.images file left

  module _ (payloads : List (List ℕ)) (payload : List ℕ) (at : ℕ) where
    -- while the frame is written
    pub frame_torn : (old : D) (n : ℕ) → at ≡ length (front payloads) + 1 → Shows seen image old (Holds payloads)
        → (file : List ℕ) → Was seen image old file ⊎ WasTorn seen image old at n file → Holds payloads file
    frame_torn old n is shows file (inl was) = was_passes old (Holds payloads) shows file was
    frame_torn old n is shows file (inr (before, was, torn)) =
        stage_torn payloads n before file (was_passes old (Holds payloads) shows before was) (subst (λ k. Torn k n before file) is torn)

    -- once it is written
    pub frame_written : (old new : D) (frame : List ℕ) → at ≡ length (front payloads) + 1 → frame ≡ frame_of payload → Shows seen image old (Holds payloads)
        → Shows seen image new (WasWritten seen image old at frame) → Shows seen image new (Staged payloads payload)
    frame_written old new frame is framed shows wrote =
        shows_then new (WasWritten seen image old at frame) (Staged payloads payload) wrote (λ file from.
        subst (Staged payloads payload)
        (ap (λ bytes. written from.0 (length (front payloads) + 1) bytes) (sym framed) ∙ ap (λ k. written from.0 k frame) (sym is) ∙ sym from.2)
        (stage_written payloads payload from.0 (was_passes old (Holds payloads) shows from.0 (inl from.1))))

    -- while the gate is written
    pub gate_torn_either : (old : D) → at ≡ length (front payloads) → IsPayload payload → Shows seen image old (Staged payloads payload)
        → (file : List ℕ) → Was seen image old file ⊎ WasTorn seen image old at 1 file → HoldsEither payloads payload file
    gate_torn_either old is last shows file (inl was) =
        inl (staged_holds payloads payload file (was_passes old (Staged payloads payload) shows file was))
    gate_torn_either old is last shows file (inr (before, was, torn)) =
        gate_torn payloads payload before file last (was_passes old (Staged payloads payload) shows before was) (subst (λ k. Torn k 1 before file) is torn)

    -- once it is written
    pub gate_opened : (old new : D) → at ≡ length (front payloads) → IsPayload payload → Shows seen image old (Staged payloads payload)
        → Shows seen image new (WasWritten seen image old at (OPEN ∷ [])) → Shows seen image new (Holds (payloads ++ payload ∷ []))
    gate_opened old new is last shows wrote =
        shows_then new (WasWritten seen image old at (OPEN ∷ [])) (Holds (payloads ++ payload ∷ [])) wrote (λ file from.
        subst (Holds (payloads ++ payload ∷ []))
        (ap (λ k. written from.0 k (OPEN ∷ [])) (sym is) ∙ sym from.2)
        (gate_written payloads payload from.0 last (was_passes old (Staged payloads payload) shows from.0 (inl from.1))))
