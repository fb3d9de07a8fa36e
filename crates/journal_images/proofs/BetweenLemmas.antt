-- How images stand between two histories from one call to the next.
use Rattle.std.proofs.Common.{inl, inr, ⊎_elim, ℕ, ◌≤◌, List, arith}
use Rattle.outside.specs.Faults.{Rose}
use Rattle.expressions.specs.Calendar.{Calendar}
use Rattle.sched_plain.specs.History.{History, ◌upon◌, Extends, as_it_was, with_step}
use Rattle.journal_images.specs.Images.{Near}
use Rattle.journal_images.specs.Laws.{Begins, Grows, Fails, Rests, StandBetween}

-- one growth behind another
onward : (h mid after : History) → Extends h mid → Extends mid after → Extends h after
onward h mid _ first as_it_was = first
onward h mid _ first (with_step s more) = with_step s (onward h mid _ first more)

-- a count that rose has risen since earlier, and has when it goes on
rose_on : (a b d e : ℕ) → a ≤ b → Rose b d → d ≤ e → Rose a e
rose_on a b d e first rose then = omega (arith, first, rose, then)

rose_later : (a d e : ℕ) → Rose a d → d ≤ e → Rose a e
rose_later a d e rose then = omega (arith, rose, then)

-- what was near stays near while the history grows and counts rise
nearer : (c : Calendar) (failed more : Type 0) (from h after : History) (file : List ℕ) → (failed → more) → Extends h after → Near c failed from h file → Near c more from after file
nearer c failed more from h after file wider grows near = record {
  at = near.at;
  grew = near.grew;
  grows = onward near.at h after near.grows grows;
  is = ⊎_elim (λ holds. inl holds) (λ doubt. inr (wider doubt.0, doubt.1)) near.is;
}

module _ {D : Type 0} (moment : D → ℕ) (image_since : D → ℕ → List ℕ → Type 0) (faults : D → ℕ) where
  pub begins : Begins moment image_since faults
  begins c disk h = record { extends = as_it_was; later = omega arith; counts = omega arith; each = λ since file le left. inl left }

  pub grows : Grows moment image_since faults
  grows c old mid new from h s between leaves counts = record {
    extends = with_step s between.extends;
    later = omega (arith, between.later, leaves.later);
    counts = omega (arith, between.counts, counts);
    each = λ since file le left. ⊎_elim
        (λ was. ⊎_elim (λ before. inl before)
        (λ near. inr (nearer c (Rose (faults old) (faults mid)) (Rose (faults old) (faults new)) from h (s upon h) file
        (λ rose. rose_later (faults old) (faults mid) (faults new) rose counts) (with_step s as_it_was) near))
        (between.each since file le was))
        (λ either. inr (⊎_elim
        (λ holds. record { at = h; grew = between.extends; grows = with_step s as_it_was; is = inl holds })
        (λ more. record { at = s upon h; grew = with_step s between.extends; grows = as_it_was; is = inl more })
        either))
        (leaves.before since file (omega (arith, le, between.later)) left);
  }

  pub fails : Fails moment image_since faults
  fails c old mid new from h s between leaves rose counts valid follows = record {
    extends = between.extends;
    later = omega (arith, between.later, leaves.later);
    counts = omega (arith, between.counts, counts);
    each = λ since file le left. ⊎_elim
        (λ was. ⊎_elim (λ before. inl before)
        (λ near. inr (nearer c (Rose (faults old) (faults mid)) (Rose (faults old) (faults new)) from h h file
        (λ r. rose_later (faults old) (faults mid) (faults new) r counts) as_it_was near))
        (between.each since file le was))
        (λ either. inr (⊎_elim
        (λ holds. record { at = h; grew = between.extends; grows = as_it_was; is = inl holds })
        (λ more. record {
          at = h;
          grew = between.extends;
          grows = as_it_was;
          is = inr (rose_on (faults old) (faults mid) (faults new) (faults new) between.counts rose (omega arith), record { step = s; valid = valid; follows = follows; holds = more });
        })
        either))
        (leaves.before since file (omega (arith, le, between.later)) left);
  }

module _ {D : Type 0} (image : D → List ℕ → Type 0) (moment : D → ℕ) (image_since : D → ℕ → List ℕ → Type 0) (faults : D → ℕ) where
  pub rests : Rests image moment image_since faults
  rests counts_now c old mid new from h after between extends leaves counts = record {
    extends = onward from h after between.extends extends;
    later = omega (arith, between.later, leaves.later);
    counts = omega (arith, between.counts, counts);
    each = λ since file le left.
        let here : since ≤ moment mid = omega (arith, le, between.later) in
        let was : image_since mid since file = ⊎_elim (λ before. before) (λ now. counts_now mid since file here now) (leaves.before since file here left) in
        ⊎_elim (λ before. inl before)
        (λ near. inr (nearer c (Rose (faults old) (faults mid)) (Rose (faults old) (faults new)) from h after file
        (λ rose. rose_later (faults old) (faults mid) (faults new) rose counts) extends near))
        (between.each since file le was);
  }

  pub stand_between : StandBetween image moment image_since faults
  stand_between only_now c old new from to between start file left = ⊎_elim
      (λ before. record { at = from; grew = as_it_was; grows = between.extends; is = inl (start file (only_now old file before)) })
      (λ near. near)
      (between.each (moment old) file (omega arith) left)
