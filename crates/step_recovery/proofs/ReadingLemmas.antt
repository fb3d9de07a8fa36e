-- How a reading goes on, and what it answers.
use Rattle.std.proofs.Common.{◌≡◌, ◌⊎◌, inl, inr, ⊎_elim, ℕ, List, ◌++◌, ◌∷◌, [], refl, ◌∙◌, ap, subst, arith, Option, Some, None, IfSome}
use Rattle.sched_plain.specs.History.{History, ◌upon◌}
use Rattle.sched_plain.specs.Legal.{IsLegal}
use Rattle.sched_plain.specs.Validity.{AllValid}
use Rattle.book_parts.specs.Stands.{calendar}
use Rattle.journal_file.specs.Format.{Holds}
use Rattle.journal_file.specs.Journals.{OnlyRead, OpeningText, Passed}
use Rattle.journal_steps.specs.Journals.{payloads_of, DamagedAt, Reading, no_journal, damaged, journal, ReadsAs}
use Rattle.journal_steps.proofs.ReadingLemmas.{one_reading}
use Rattle.step_recovery.specs.declared.fault.LoadFault.{LoadFault}
use Rattle.step_recovery.specs.declared.fault.LoadFault.TheVariants as faults
use Rattle.step_recovery.specs.Recovery.{Takes, Past}
use Rattle.step_recovery.specs.Faults.{IsElsewhere, Tells, StandsAs, is_told_as}

module _ {D : Type 0} (seen : D → Option (List ℕ)) (image : D → List ℕ → Type 0) (moment : D → ℕ) (since : D → ℕ → List ℕ → Type 0) where
  -- reading behind reading
  pub read_on : (old mid new : D) → OnlyRead seen image moment since old mid → OnlyRead seen image moment since mid new → OnlyRead seen image moment since old new
  read_on old mid new first second = record {
    gives = second.gives ∙ first.gives;
    leaves = λ file now. first.leaves file (second.leaves file now);
    left = record {
      later = omega (arith, first.left.later, second.left.later);
      each = λ file left. ⊎_elim (first.left.each file) (λ now. first.leaves file now) (second.left.before (moment old) file first.left.later left);
      before = λ from file le left. ⊎_elim (first.left.before from file le) (λ now. inr (first.leaves file now)) (second.left.before from file (omega (arith, le, first.left.later)) left);
    };
  }

-- what is told of what a read gives stays where it stays
pub seen_as : (P : List ℕ → Type 0) (old new : Option (List ℕ)) → new ≡ old → IfSome new P → IfSome old P
seen_as P old new same told = subst (λ (x : Option (List ℕ)). IfSome x P) same told

module _ {M D : Type 0} (Stands : M → History → Type 0) (seen : D → Option (List ℕ)) (image : D → List ℕ → Type 0) where
  -- the step of one record more
  pub past_more : (old new : M) (opening opened : OpeningText) (disk after : D) (payload : List ℕ) → (past : Past Stands seen image old opening disk)
      → Passed seen image opened after (payloads_of past.history ++ payload ∷ []) → Takes (Stands old) (Stands new) payload → Past Stands seen image new opened after
  past_more old new opening opened disk after payload past passed takes =
      let (s, is, stands) = takes past.history past.stands in
      record {
        history = s upon past.history;
        stands = stands;
        passed = subst (λ (x : List ℕ). Passed seen image opened after (payloads_of past.history ++ x ∷ [])) is passed;
      }

-- the history of a journal is the one that was recovered
pub opened_as : {M : Type 0} (Stands : M → History → Type 0) → ((m : M) (h : History) → Stands m h → IsLegal calendar h) → ((m : M) (h : History) → Stands m h → AllValid h)
    → (book : M) (h : History) (seen : Option (List ℕ)) → Stands book h → IfSome seen (Holds (payloads_of h))
    → (file : List ℕ) (reading : Reading) → seen ≡ Some file → ReadsAs calendar reading file → StandsAs (Stands book) reading
opened_as Stands legal valid book h seen stands holds file reading is reads =
    let held : Holds (payloads_of h) file = subst (λ (x : Option (List ℕ)). IfSome x (Holds (payloads_of h))) is holds in
    let same : journal h ≡ reading = one_reading calendar file (journal h) reading (record { legal = legal book h stands; valid = valid book h stands; holds = held }) reads in
    subst (StandsAs (Stands book)) same stands

told_as : (fault : LoadFault) (file : List ℕ) (reading : Reading) → Tells fault file → ReadsAs calendar reading file → (is_told_as reading ≡ Some fault) ⊎ IsElsewhere fault
told_as (faults.NotAJournal at) file reading tells reads = inl (ap is_told_as (one_reading calendar file reading (no_journal at) reads tells))
told_as (faults.Damaged at) file reading tells reads = inl (ap is_told_as (one_reading calendar file reading (damaged at) reads tells))
told_as faults.DiskFault file reading tells reads = inr (inl refl)
told_as faults.OutOfMemory file reading tells reads = inr (inr refl)

-- a fault that tells what the file is is told as that
pub refused_as : (fault : LoadFault) (seen : Option (List ℕ)) → IfSome seen (Tells fault) → (file : List ℕ) (reading : Reading) → seen ≡ Some file → ReadsAs calendar reading file
    → (is_told_as reading ≡ Some fault) ⊎ IsElsewhere fault
refused_as fault seen tells file reading is reads =
    told_as fault file reading (subst (λ (x : Option (List ℕ)). IfSome x (Tells fault)) is tells) reads

-- a fault behind the header tells what the file is
pub tells_behind : (fault : LoadFault) (seen : Option (List ℕ)) → ((at : ℕ) → fault ≡ faults.NotAJournal at → ⊥) → ((at : ℕ) → fault ≡ faults.Damaged at → IfSome seen (DamagedAt calendar at)) → IfSome seen (Tells fault)
tells_behind (faults.NotAJournal at) seen header damage = absurd (header at refl)
tells_behind (faults.Damaged at) seen header damage = damage at refl
tells_behind faults.DiskFault None header damage = tt
tells_behind faults.DiskFault (Some file) header damage = tt
tells_behind faults.OutOfMemory None header damage = tt
tells_behind faults.OutOfMemory (Some file) header damage = tt
