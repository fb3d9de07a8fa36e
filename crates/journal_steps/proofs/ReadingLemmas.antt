-- A file is one thing to a reader.
use Rattle.std.proofs.Common.{◌≡◌, ◌⊎◌, inl, inr, ℕ, ◌+◌, ◌<◌, ◌≤◌, List, ◌∷◌, ◌++◌, length, take, drop, sym, ◌∙◌, ap, subst, arith, append_assoc}
use Rattle.std.proofs.lemmas.Bool.{cases_lt}
use Rattle.std.proofs.lemmas.List.{append_cancel_left, drop_at, take-append-le, take-take}
use Rattle.std.specs.List.{flat_map}
use Rattle.expressions.specs.Calendar.{Calendar}
use Rattle.sched_plain.specs.History.{History}
use Rattle.step_codec.specs.Payload.{payload_of}
use Rattle.journal_file.specs.declared.format.TheConstants.{HEADER, OPEN}
use Rattle.journal_file.specs.Format.{gated, front, Begins, ClosedHead, DiffersAt}
use Rattle.journal_steps.specs.Journals.{payloads_of, IsJournalOf, BeginsLike, DamagedAt, Reading, no_journal, damaged, journal, ReadsAs}
use Rattle.journal_steps.proofs.ChainLemmas.{Stops, one_stop}

-- what stands behind the records
behind : (front_ rest file : List ℕ) (at : ℕ) → at ≡ length front_ → file ≡ front_ ++ rest → drop at file ≡ rest
behind front_ rest file at is same = ap (drop at) same ∙ drop_at front_ rest at (sym is)

-- a journal ends there
pub journal_like : (c : Calendar) (h : History) (file : List ℕ) → IsJournalOf c h file → BeginsLike c h file
journal_like c h file j = record {
  legal = j.legal;
  valid = j.valid;
  begins = record { sized = j.holds.sized; rest = j.holds.gate ∷ j.holds.rest; is = j.holds.is };
}

pub journal_stops : (c : Calendar) (h : History) (file : List ℕ) → IsJournalOf c h file → Stops c h file
journal_stops c h file j = record {
  like = journal_like c h file j;
  last = λ s next.
      let same : j.holds.gate ∷ j.holds.rest ≡ gated (payload_of s) ++ next.more =
      append_cancel_left (front (payloads_of h)) (j.holds.gate ∷ j.holds.rest) (gated (payload_of s) ++ next.more) (sym j.holds.is ∙ next.is) in
      let is_open : j.holds.gate ≡ OPEN = cc same in
      j.holds.closed is_open;
}

pub damage_stops : (c : Calendar) (gate : ℕ) (file : List ℕ) → (d : DamagedAt c gate file) → Stops c d.before file
damage_stops c gate file d = record {
  like = d.begins;
  last = λ s next. d.damage.no_step s next.more next.valid next.follows (behind (front (payloads_of d.before)) (gated (payload_of s) ++ next.more) file gate d.at next.is);
}

-- a journal is not damaged
not_both : (c : Calendar) (h : History) (gate : ℕ) (file : List ℕ) → IsJournalOf c h file → DamagedAt c gate file → ⊥
not_both c h gate file j d =
    let same : h ≡ d.before = one_stop c file h d.before (journal_stops c h file j) (damage_stops c gate file d) in
    let at : gate ≡ length (front (payloads_of h)) = d.at ∙ ap (λ (x : History). length (front (payloads_of x))) (sym same) in
    let ends : drop gate file ≡ j.holds.gate ∷ j.holds.rest = behind (front (payloads_of h)) (j.holds.gate ∷ j.holds.rest) file gate at j.holds.is in
    d.damage.no_end (subst ClosedHead (sym ends) j.holds.closed)

-- what begins like a journal has its header
no_header : (ps : List (List ℕ)) (at : ℕ) (file : List ℕ) → DiffersAt at file → Begins ps file → ⊥
no_header ps at file differs begins =
    let is : file ≡ HEADER ++ (flat_map gated ps ++ begins.rest) = begins.is ∙ append_assoc HEADER (flat_map gated ps) begins.rest in
    let within : at + 1 ≤ length HEADER = omega (arith, differs.within) in
    differs.differs (ap (take (at + 1)) is ∙ take-append-le (at + 1) HEADER (flat_map gated ps ++ begins.rest) within)

-- the header differs first at one place
one_place : (a b : ℕ) (file : List ℕ) → DiffersAt a file → DiffersAt b file → a < b → ⊥
one_place a b file one other less =
    let le : a + 1 ≤ b = omega (arith, less) in
    one.differs (sym (take-take (a + 1) b file le) ∙ ap (take (a + 1)) other.same ∙ take-take (a + 1) b HEADER le)

same_place : (a b : ℕ) (file : List ℕ) → DiffersAt a file → DiffersAt b file → a ≡ b
same_place a b file one other = decide (cases_lt a b) (cases_lt b a)
  where
    decide : (a < b) ⊎ (b ≤ a) → (b < a) ⊎ (a ≤ b) → a ≡ b
    decide (inl less) _ = absurd (one_place a b file one other less)
    decide (inr le) (inl less) = absurd (one_place b a file other one less)
    decide (inr le) (inr ge) = omega (arith, le, ge)

pub one_reading : (c : Calendar) (file : List ℕ) (one other : Reading) → ReadsAs c one file → ReadsAs c other file → one ≡ other
one_reading c file (no_journal a) (no_journal b) one other = ap no_journal (same_place a b file one other)
one_reading c file (no_journal a) (damaged b) one other = absurd (no_header (payloads_of other.before) a file one other.begins.begins)
one_reading c file (no_journal a) (journal k) one other = absurd (no_header (payloads_of k) a file one (journal_like c k file other).begins)
one_reading c file (damaged a) (no_journal b) one other = absurd (no_header (payloads_of one.before) b file other one.begins.begins)
one_reading c file (damaged a) (damaged b) one other =
    let same : one.before ≡ other.before = one_stop c file one.before other.before (damage_stops c a file one) (damage_stops c b file other) in
    ap damaged (one.at ∙ ap (λ (x : History). length (front (payloads_of x))) same ∙ sym other.at)
one_reading c file (damaged a) (journal k) one other = absurd (not_both c k a file other one)
one_reading c file (journal h) (no_journal b) one other = absurd (no_header (payloads_of h) b file other (journal_like c h file one).begins)
one_reading c file (journal h) (damaged b) one other = absurd (not_both c h b file one other)
one_reading c file (journal h) (journal k) one other = ap journal (one_stop c file h k (journal_stops c h file one) (journal_stops c k file other))
