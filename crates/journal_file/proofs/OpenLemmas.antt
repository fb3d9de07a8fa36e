-- What was read of a journal, and what that says of its file.
use Rattle.std.proofs.Common.{◌≡◌, ◌⊎◌, inl, inr, ⊎_elim, ℕ, ◌+◌, ◌-◌, ◌≤◌, ◌<◌, List, [], ◌∷◌, ◌++◌, length, take, drop, refl, sym, ◌∙◌, ap, subst, arith, append_assoc, append-nil, length-drop, take-append-drop, Option, Some, None, IfSome, rules}
use Rattle.std.specs.Int.{w32, to_be_bytes, from_be_bytes}
use Rattle.std.proofs.lemmas.List.{drop_at, take-append-le, drop-drop}
use Rattle.disk_port.specs.Writes.{piece}
use Rattle.journal_file.specs.Ahead.{part_of}
use Rattle.journal_file.specs.Journals.{Piece, IsPiece}
use Rattle.journal_file.proofs.PieceLemmas.{part_is_piece}
use Rattle.journal_file.proofs.FormatLemmas.{front_more, one_more}
use Rattle.journal_file.specs.declared.format.TheConstants.{HEADER, OPEN}
use Rattle.journal_file.specs.Format.{length_bytes, gated, front, Begins, Holds, IsBad, ClosedHead, BadHead, RecordHead}

-- a file with the header begins
pub header_begins : (file bytes : List ℕ) → bytes ≡ piece file 0 16 → bytes ≡ HEADER → Begins [] file
header_begins file bytes is header = record {
  sized = search rules;
  rest = drop 16 file;
  is =
      sym (take-append-drop 16 file)
      ∙ ap (λ known. known ++ drop 16 file) (sym is ∙ header)
      ∙ ap (λ known. known ++ drop 16 file) (sym (append-nil HEADER));
}

-- behind what is known of a file stands the rest
behind : (payloads : List (List ℕ)) (file : List ℕ) (at : ℕ) → at ≡ length (front payloads) → (begins : Begins payloads file) → drop at file ≡ begins.rest
behind payloads file at is begins =
    ap (drop at) begins.is ∙ drop_at (front payloads) begins.rest at (sym is)

-- a part that was read ahead is how the file goes on there
goes_on_so : (file part : List ℕ) (at : ℕ) → part ≡ piece file at (length part) → drop at file ≡ part ++ drop (length part) (drop at file)
goes_on_so file part at is =
    sym (take-append-drop (length part) (drop at file)) ∙ ap (λ known. known ++ drop (length part) (drop at file)) (sym is)

-- at a closed gate the journal ends
pub closed_holds : (payloads : List (List ℕ)) (file part : List ℕ) (at : ℕ) → at ≡ length (front payloads) → Begins payloads file → part ≡ piece file at (length part) → ClosedHead part → Holds payloads file
closed_holds payloads file [] at is begins there closed = absurd closed
closed_holds payloads file (gate ∷ rest) at is begins there closed = record {
  sized = begins.sized;
  gate = gate;
  rest = rest ++ drop (length (gate ∷ rest)) (drop at file);
  closed = closed;
  is =
      begins.is
      ∙ ap (λ more. front payloads ++ more) (sym (behind payloads file at is begins) ∙ goes_on_so file (gate ∷ rest) at there);
}

-- the first four bytes are those of a longer list too
first_four : (rest more : List ℕ) → 4 ≤ length rest → take 4 (rest ++ more) ≡ take 4 rest
first_four rest more le = take-append-le 4 rest more le

-- a head that is none of a record is none, however the file goes on
bad_more : (gate : ℕ) (rest more : List ℕ) → BadHead (gate ∷ rest) → (4 ≤ length rest) ⊎ (more ≡ []) → IsBad (gate ∷ (rest ++ more))
bad_more gate rest more (is_open, why) (inr none) = (is_open, rw (none, append-nil rest) (⊎_elim inl (λ size. ⊎_elim (λ zero. inr (inl zero)) (λ long. inr (inr (inl long))) size) why))
bad_more gate rest more (is_open, inl short) (inl le) = absurd (omega arith)
bad_more gate rest more (is_open, inr (inl none)) (inl le) = (is_open, inr (inl (ap (from_be_bytes w32) (first_four rest more le) ∙ none)))
bad_more gate rest more (is_open, inr (inr long)) (inl le) =
    (is_open, inr (inr (inl (rw (first_four rest more le) long))))

pub bad_is_bad : (file part : List ℕ) (at : ℕ) → part ≡ piece file at (length part) → (5 ≤ length part) ⊎ (part ≡ drop at file) → BadHead part → IsBad (drop at file)
bad_is_bad file [] at there (inl le) bad = absurd (omega arith)
bad_is_bad file [] at there (inr all) bad = subst IsBad all tt
bad_is_bad file (gate ∷ rest) at there (inl le) bad =
    subst IsBad (sym (goes_on_so file (gate ∷ rest) at there)) (bad_more gate rest (drop (length (gate ∷ rest)) (drop at file)) bad (inl (omega arith)))
bad_is_bad file (gate ∷ rest) at there (inr all) bad =
    subst IsBad (ap (λ more. gate ∷ more) (append-nil rest) ∙ all) (bad_more gate rest [] bad (inr refl))

-- a record of which the payload is not all there is cut
pub cut_is_bad : (file part : List ℕ) (at len : ℕ) → part ≡ piece file at (length part) → RecordHead len part → length (drop (at + 5) file) < len → IsBad (drop at file)
cut_is_bad file [] at len there head short = absurd head
cut_is_bad file (gate ∷ rest) at len there head short =
    let more = drop (length (gate ∷ rest)) (drop at file) in
    let on = goes_on_so file (gate ∷ rest) at there in
    let size : from_be_bytes w32 (take 4 (rest ++ more)) ≡ len = ap (from_be_bytes w32) (first_four rest more head.1) ∙ head.3 in
    let long : length (gate ∷ (rest ++ more)) ≡ length file - at = sym (ap length on) ∙ length-drop at file in
    let few : length (rest ++ more) < 4 + from_be_bytes w32 (take 4 (rest ++ more)) = omega (arith, long, size, short, length-drop (at + 5) file) in
    subst IsBad (sym on) (head.0, inr (inr (inr few)))

-- a record that is all there
pub record_begins : (payloads : List (List ℕ)) (file part payload : List ℕ) (at len : ℕ) → at ≡ length (front payloads) → Begins payloads file → part ≡ piece file at (length part) → RecordHead len part
    → length payload ≡ len → payload ≡ piece file (at + 5) len → Begins (payloads ++ payload ∷ []) file
record_begins payloads file [] payload at len is begins there head long read = absurd head
record_begins payloads file (gate ∷ rest) payload at len is begins there head long read =
    let more = drop (length (gate ∷ rest)) (drop at file) in
    let all = rest ++ more in
    let on : drop at file ≡ gate ∷ all = goes_on_so file (gate ∷ rest) at there in
    let behind_it : drop (at + 5) file ≡ drop 4 all = sym (drop-drop 5 at file) ∙ ap (drop 5) on in
    let is_payload : payload ≡ take len (drop 4 all) = read ∙ ap (take len) behind_it in
    let size : take 4 all ≡ length_bytes payload = first_four rest more head.1 ∙ sym head.2 ∙ ap (to_be_bytes w32) (sym long) in
    let parts : all ≡ length_bytes payload ++ (payload ++ drop len (drop 4 all)) =
    sym (take-append-drop 4 all)
    ∙ ap (λ known. known ++ drop 4 all) size
    ∙ ap (λ known. length_bytes payload ++ known) (sym (take-append-drop len (drop 4 all)) ∙ ap (λ known. known ++ drop len (drop 4 all)) (sym is_payload)) in
    record {
      sized = one_more payloads payload begins.sized (record { some = omega (arith, long, head.4); fits = omega (arith, long, head.5) });
      rest = drop len (drop 4 all);
      is =
          begins.is
          ∙ ap (λ m. front payloads ++ m) (sym (behind payloads file at is begins) ∙ on)
          ∙ ap (λ g. front payloads ++ g ∷ all) head.0
          ∙ ap (λ m. front payloads ++ OPEN ∷ m) (parts ∙ sym (append_assoc (length_bytes payload) payload (drop len (drop 4 all))))
          ∙ sym (append_assoc (front payloads) (gated payload) (drop len (drop 4 all)))
          ∙ ap (λ known. known ++ drop len (drop 4 all)) (sym (front_more payloads payload));
    }

-- The same of what a disk shows.
module _ (seen : Option (List ℕ)) where
  pub closed_shown : (ahead new : Piece) (payloads : List (List ℕ)) (part : List ℕ) (at : ℕ) → at ≡ length (front payloads) → IfSome seen (Begins payloads) → IfSome seen (IsPiece ahead)
      → IfSome seen (λ file. IsPiece ahead file → IsPiece new file) → ((file : List ℕ) → IsPiece new file → part ≡ piece file at (length part)) → ClosedHead part → IfSome seen (Holds payloads)
  closed_shown ahead new payloads part at is begins there later so closed = shown seen begins there later
    where
      shown : (now : Option (List ℕ)) → IfSome now (Begins payloads) → IfSome now (IsPiece ahead) → IfSome now (λ file. IsPiece ahead file → IsPiece new file) → IfSome now (Holds payloads)
      shown None b t l = tt
      shown (Some file) b t l = closed_holds payloads file part at is b (so file (l t)) closed

  pub cut_shown : (ahead : Piece) (at len : ℕ) → IfSome seen (IsPiece ahead) → IfSome seen (λ file. IsPiece ahead file → length (drop (at + 5) file) < len) → RecordHead len (part_of ahead at)
      → IfSome seen (λ file. IsBad (drop at file))
  cut_shown ahead at len there short head = shown seen there short
    where
      shown : (now : Option (List ℕ)) → IfSome now (IsPiece ahead) → IfSome now (λ file. IsPiece ahead file → length (drop (at + 5) file) < len) → IfSome now (λ file. IsBad (drop at file))
      shown None t s = tt
      shown (Some file) t s = cut_is_bad file (part_of ahead at) at len (part_is_piece ahead at file t) head (s t)

  pub record_shown : (ahead : Piece) (payloads : List (List ℕ)) (payload : List ℕ) (at len : ℕ) → at ≡ length (front payloads) → IfSome seen (Begins payloads) → IfSome seen (IsPiece ahead)
      → IfSome seen (λ file. IsPiece ahead file → payload ≡ piece file (at + 5) len) → RecordHead len (part_of ahead at) → length payload ≡ len → IfSome seen (Begins (payloads ++ payload ∷ []))
  record_shown ahead payloads payload at len is begins there read head long = shown seen begins there read
    where
      shown : (now : Option (List ℕ)) → IfSome now (Begins payloads) → IfSome now (IsPiece ahead) → IfSome now (λ file. IsPiece ahead file → payload ≡ piece file (at + 5) len) → IfSome now (Begins (payloads ++ payload ∷ []))
      shown None b t r = tt
      shown (Some file) b t r = record_begins payloads file (part_of ahead at) payload at len is b (part_is_piece ahead at file t) head long (r t)
