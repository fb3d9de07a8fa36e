-- The first steps of a history, which the history extends, and which are legal where it is.
use Rattle.std.proofs.Common.{◌≡◌, ℕ, ◌+◌, ◌<◌, ◌≤◌, cond, sym, ap, subst, inl, inr, arith}
use Rattle.std.proofs.lemmas.Bool.{cases_lt, lt-ltb, le-ltb}
use Rattle.sched_plain.specs.declared.step.Step.{Step}
use Rattle.sched_plain.specs.History.{History, beginning, based, ◌upon◌, count, first, Extends, as_it_was, with_step}
use Rattle.book_laws.specs.PrefixLaws.{PrefixesAreLegal, FirstsArePrefixes}

first_less : (n : ℕ) (s : Step) (h : History) → n < count h + 1 → first n (s upon h) ≡ first n h
first_less n s h lt = ap (λ b. cond b (first n h) (s upon h)) (lt-ltb n (count h + 1) lt)

first_all : (n : ℕ) (s : Step) (h : History) → count h + 1 ≤ n → first n (s upon h) ≡ s upon h
first_all n s h le = ap (λ b. cond b (first n h) (s upon h)) (le-ltb n (count h + 1) le)

pub first_of : FirstsArePrefixes
first_of n beginning = as_it_was
first_of n (based b kept) = as_it_was
first_of n (s upon h) =
    elim (cases_lt n (count h + 1)) [
      | inl lt ↦ subst (λ x. Extends x (s upon h)) (sym (first_less n s h lt)) (with_step s (first_of n h))
      | inr ge ↦ subst (λ x. Extends x (s upon h)) (sym (first_all n s h ge)) as_it_was
    ]

-- fewer first steps are a beginning of more
pub first_extends : (m n : ℕ) (h : History) → m ≤ n → Extends (first m h) (first n h)
first_extends m n beginning le = as_it_was
first_extends m n (based b kept) le = as_it_was
first_extends m n (s upon h) le =
    elim (cases_lt n (count h + 1)) [
      | inl lt ↦
          let less : m < count h + 1 = omega arith in
          subst (λ x. Extends x (first n (s upon h))) (sym (first_less m s h less))
          (subst (λ x. Extends (first m h) x) (sym (first_less n s h lt)) (first_extends m n h le))
      | inr ge ↦ subst (λ x. Extends (first m (s upon h)) x) (sym (first_all n s h ge)) (first_of m (s upon h))
    ]

pub prefixes_are_legal : PrefixesAreLegal
prefixes_are_legal c h later as_it_was legal = legal
prefixes_are_legal c h later (with_step {later = before} s more) legal = prefixes_are_legal c h before more legal.0
