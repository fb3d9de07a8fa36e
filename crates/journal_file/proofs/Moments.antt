-- How a run of calls of a disk goes on.
use Rattle.std.proofs.Common.{◌≡◌, inl, inr, ⊎_elim, ℕ, List, Option, Some, None, IfSome, Result, Ok, Err, OnErr, option_map, length, refl, arith}
use Rattle.disk_port.specs.Writes.{written, Torn, TearsSeen}
use Rattle.disk_port.specs.Crashes.{Follows, NoMore, Elapses, LeavesOnly}
use Rattle.disk_port.proofs.WriteLemmas.{written_torn}
use Rattle.journal_file.specs.Journals.{Shows, WasTorn}

-- what is so is so of an error
pub on_err : {A E : Type 0} (result : Result A E) (P : Type 0) → P → OnErr result P
on_err (Ok value) P holds = tt
on_err (Err fault) P holds = holds

module _ {D : Type 0} (moment : D → ℕ) (since : D → ℕ → List ℕ → Type 0) where
  -- before the first call
  pub started : (old : D) (passes : List ℕ → Type 0) → ((file : List ℕ) → since old (moment old) file → passes file) → LeavesOnly moment since old old passes
  started old passes here = record { later = omega arith; each = here; before = λ from file le left. inl left }

  -- one call more, after which a crash leaves what passes
  pub goes_on : (old mid new : D) (passes image : List ℕ → Type 0) → LeavesOnly moment since old mid passes → Elapses (moment mid) (moment new) (since mid) (since new) image
      → ((file : List ℕ) → image file → passes file) → LeavesOnly moment since old new passes
  goes_on old mid new passes image so_far time here = record {
    later = omega (arith, so_far.later, time.later);
    each = λ file left. ⊎_elim (so_far.each file) (here file) (time.nothing_else (moment old) file so_far.later left);
    before = λ from file le left. ⊎_elim (so_far.before from file le) (λ now. inr (here file now)) (time.nothing_else from file (omega (arith, le, so_far.later)) left);
  }

  -- a run behind another
  pub and_then : (old mid new : D) (passes : List ℕ → Type 0) → LeavesOnly moment since old mid passes → LeavesOnly moment since mid new passes → LeavesOnly moment since old new passes
  and_then old mid new passes first second = record {
    later = omega (arith, first.later, second.later);
    each = λ file left. ⊎_elim (first.each file) (λ now. now) (second.before (moment old) file first.later left);
    before = λ from file le left. ⊎_elim (first.before from file le) (λ now. inr now) (second.before from file (omega (arith, le, first.later)) left);
  }

  -- a run of which less is said
  pub weaker : (old new : D) (passes more : List ℕ → Type 0) → LeavesOnly moment since old new passes → ((file : List ℕ) → passes file → more file) → LeavesOnly moment since old new more
  weaker old new passes more run implies = record {
    later = run.later;
    each = λ file left. implies file (run.each file left);
    before = λ from file le left. ⊎_elim (λ was. inl was) (λ now. inr (implies file now)) (run.before from file le left);
  }

-- what a read gives after a write that failed
torn_seen : (at n : ℕ) (old new : Option (List ℕ)) → TearsSeen at n old new → IfSome new (λ file. (before : List ℕ) × (old ≡ Some before) × Torn at n before file)
torn_seen at n None None torn = tt
torn_seen at n None (Some file) torn = let clash : ⊥ = cc in absurd clash
torn_seen at n (Some before) None torn = tt
torn_seen at n (Some before) (Some file) (left, is, torn) =
    let same : file ≡ left = cc in
    (before, refl, rw same torn)

module _ {D : Type 0} (seen : D → Option (List ℕ)) (image : D → List ℕ → Type 0) where
  -- a disk after a write that failed
  pub shows_torn : (old new : D) (at n : ℕ) → TearsSeen at n (seen old) (seen new) → Follows (Torn at n) (image old) (image new) → Shows seen image new (WasTorn seen image old at n)
  shows_torn old new at n torn follows = record {
    read = widened (seen new) (torn_seen at n (seen old) (seen new) torn);
    images = λ file left. let from = follows file left in (from.0, inr from.1, from.2);
  }
    where
      widened : (now : Option (List ℕ)) → IfSome now (λ file. (before : List ℕ) × (seen old ≡ Some before) × Torn at n before file) → IfSome now (WasTorn seen image old at n)
      widened None x = tt
      widened (Some file) (before, is, t) = (before, inl is, t)

  -- a disk after a write and a sync that failed
  pub shows_unsynced : (old mid new : D) (at : ℕ) (bytes : List ℕ) → seen mid ≡ option_map (λ file. written file at bytes) (seen old) → Follows (Torn at (length bytes)) (image old) (image mid)
      → seen new ≡ seen mid → NoMore (image mid) (image new) → Shows seen image new (WasTorn seen image old at (length bytes))
  shows_unsynced old mid new at bytes is follows same less = record {
    read = rw (same, is) (torn (seen old) refl);
    images = λ file left. let from = follows file (less file left) in (from.0, inr from.1, from.2);
  }
    where
      torn : (was : Option (List ℕ)) → seen old ≡ was → IfSome (option_map (λ file. written file at bytes) was) (WasTorn seen image old at (length bytes))
      torn None e = tt
      torn (Some file) e = (file, inl e, written_torn file bytes at (length bytes) refl)
