-- What is counted never falls, so that no number comes twice.
use Rattle.std.proofs.Common.{◌≡◌, ℕ, zero, ◌+◌, ◌<◌, ◌≤◌, ◌==◌, Bool, true, false, cond, ◌&&◌, Option, Some, None, List, ◌∷◌, length, sym, ap, ◌∙◌, subst, inl, inr, arith, le_refl, le_trans, le_of_eq}
use Rattle.std.proofs.lemmas.Bool.{cases_eq, cases_order}
use Rattle.std.proofs.lemmas.List.{length-map}
use Rattle.sched_plain.specs.declared.entry.Entry.{Entry}
use Rattle.sched_plain.specs.declared.entry.Filed.{Filed}
use Rattle.sched_plain.specs.declared.step.Step.{Step}
use Rattle.sched_plain.specs.declared.step.Step.TheVariants as steps
use Rattle.sched_plain.specs.declared.outcome.Outcome.TheVariants as outcomes
use Rattle.sched_plain.specs.History.{History, beginning, based, ◌upon◌, count}
use Rattle.plain_words.specs.Lists.{numbers, or_else}
use Rattle.expressions.specs.Calendar.{Calendar}
use Rattle.sched_plain.specs.Ledger.{LedgerCall, Entered, Begun, Finished, Closed, Cancelled, Lost, ledger_of, Missed}
use Rattle.sched_plain.specs.Entries.{decided_as, with_begin, with_end, outcome_of, with_loss, changed_if, is_lost_in, filed_by, filed, with_missed}
use Rattle.sched_plain.specs.Attempts.{attempts}
use Rattle.sched_plain.specs.Legal.{IsLegal}
use Rattle.plain_words.proofs.Booleans.{both_itself}
use Rattle.plain_words.proofs.ListLemmas.{length_numbers}
use Rattle.book_laws.specs.AttemptLaws.{allowed, counted, NumbersCount, BeginsAt, BeginsDiffer, AttemptsAreAllowed, EntriesCount}
use Rattle.book_laws.proofs.Places.{found_top, found_below, place_bound}
use Rattle.book_laws.proofs.NewCalls.{new_calls, ledger_is, calls_keep}
use Rattle.book_laws.proofs.Numbers.{LeavesCount, counted_edit, decided_leaves, loss_leaves, end_leaves, IsNext, begin_next, counted_in, missed_leaves}

pub entries_count : EntriesCount
entries_count c h legal inc i =
    sym (length-map (attempts (ledger_of h) inc i) (λ attempt. attempt.number))
    ∙ ap length (counted_in c h legal inc i).numbers
    ∙ length_numbers 1 (counted (filed (ledger_of h) inc i))

pub numbers_count : NumbersCount
numbers_count c h legal inc i = (counted_in c h legal inc i).numbers ∙ ap (numbers 1) (sym (entries_count c h legal inc i))

pub attempts_allowed : AttemptsAreAllowed
attempts_allowed c h legal inc i =
    subst (λ n. n ≤ allowed (filed (ledger_of h) inc i)) (sym (entries_count c h legal inc i)) (counted_in c h legal inc i).within

entered_grows : (b : Bool) (old new : Option Filed) → counted old ≤ counted (cond b (or_else old new) old)
entered_grows true None new = omega arith
entered_grows true (Some f) new = le_refl f.entry.used
entered_grows false old new = le_refl (counted old)

begun_grows : (b : Bool) (moment : ℕ) (old : Option Filed) → counted old ≤ counted (changed_if b (with_begin moment) old)
begun_grows true moment None = le_refl zero
begun_grows true moment (Some f) = omega arith
begun_grows false moment old = le_refl (counted old)

edit_grows : (b : Bool) (change : Entry → Entry) → LeavesCount change → (old : Option Filed) → counted old ≤ counted (changed_if b change old)
edit_grows b change leaves old = le_of_eq (sym (counted_edit b change leaves old))

-- no call lowers what is counted
call_grows : (inc i : ℕ) (call : LedgerCall) (before : List LedgerCall) → counted (filed before inc i) ≤ counted (filed (call ∷ before) inc i)
call_grows inc i (Entered of policy pairs) before = entered_grows (inc == of) (filed before inc i) (filed_by policy pairs i)
call_grows inc i (Begun of at number epoch moment) before = begun_grows (inc == of && i == at) moment (filed before inc i)
call_grows inc i (Finished of at number verdict status moment) before =
    edit_grows (inc == of && i == at) (with_end verdict moment) (end_leaves verdict moment) (filed before inc i)
call_grows inc i (Closed of at reason) before =
    edit_grows (inc == of && i == at) (decided_as (outcome_of reason)) (decided_leaves (outcome_of reason)) (filed before inc i)
call_grows inc i (Cancelled of) before =
    edit_grows (inc == of) (decided_as outcomes.Cancelled) (decided_leaves outcomes.Cancelled) (filed before inc i)
call_grows inc i (Lost shard moment) before = edit_grows (is_lost_in shard inc) (with_loss moment) (loss_leaves moment) (filed before inc i)
call_grows inc i (Missed of at number moment) before =
    edit_grows (inc == of && i == at) (with_missed number moment) (missed_leaves number moment) (filed before inc i)

step_grows : (h : History) (s : Step) (inc i : ℕ) → counted (filed (ledger_of h) inc i) ≤ counted (filed (ledger_of (s upon h)) inc i)
step_grows h s inc i =
    subst (λ calls. counted (filed (ledger_of h) inc i) ≤ counted (filed calls inc i)) (sym (ledger_is h s))
    (calls_keep (λ calls. counted (filed (ledger_of h) inc i) ≤ counted (filed calls inc i))
    (λ call before old. le_trans old (call_grows inc i call before))
    (new_calls h s) (ledger_of h) (le_refl (counted (filed (ledger_of h) inc i))))

-- what is counted after a begin is its number
begun_is : (moment number : ℕ) (f : Option Filed) → IsNext f number → counted (changed_if true (with_begin moment) f) ≡ number
begun_is moment number None next = absurd next
begun_is moment number (Some f) next = sym next.0

next_is : (number : ℕ) (f : Option Filed) → IsNext f number → number ≡ counted f + 1
next_is number None next = absurd next
next_is number (Some f) next = next.0

-- the number of a begin is counted from then on
begun_before : (c : Calendar) (h : History) → IsLegal c h → (place inc i number : ℕ) → BeginsAt h place inc i number → number ≤ counted (filed (ledger_of h) inc i)
begun_before c beginning legal place inc i number begins = let never = begins.2 in cc
begun_before c (based b kept) legal place inc i number begins = absurd legal
begun_before c (s upon h) legal place inc i number begins =
    let at = begins.0 in
    let epoch = begins.1 in
    elim (cases_eq place (count h + 1)) [
      | inl top ↦
          let same : s ≡ steps.Begin at inc i number epoch = found_top s (steps.Begin at inc i number epoch) h place top begins.2 in
          let may = (subst (λ t. IsLegal c (t upon h)) same legal).1 in
          let here : (inc == inc && i == i) ≡ true = both_itself inc i in
          let is : counted (filed (ledger_of (steps.Begin at inc i number epoch upon h)) inc i) ≡ number =
          ap (λ b. counted (changed_if b (with_begin at.0) (filed (ledger_of h) inc i))) here
          ∙ begun_is at.0 number (filed (ledger_of h) inc i) (begin_next c h at inc i number epoch may) in
          subst (λ t. number ≤ counted (filed (ledger_of (t upon h)) inc i)) (sym same) (le_of_eq (sym is))
      | inr below ↦
          le_trans (begun_before c h legal.0 place inc i number (at, epoch, found_below s (steps.Begin at inc i number epoch) h place below begins.2))
          (step_grows h s inc i)
    ]

not_again : (c : Calendar) (h : History) → IsLegal c h → (inc i number one later : ℕ) → BeginsAt h one inc i number → BeginsAt h later inc i number
    → one < later → ⊥
not_again c beginning legal inc i number one later first second lt = let never = first.2 in cc
not_again c (based b kept) legal inc i number one later first second lt = absurd legal
not_again c (s upon h) legal inc i number one later first second lt =
    let early = steps.Begin first.0 inc i number first.1 in
    let late = steps.Begin second.0 inc i number second.1 in
    elim (cases_eq later (count h + 1)) [
      | inl top ↦
          let lower : one ≡ count h + 1 → ⊥ = λ same. omega arith in
          let before : BeginsAt h one inc i number = (first.0, first.1, found_below s early h one lower first.2) in
          let same : s ≡ late = found_top s late h later top second.2 in
          let may = (subst (λ t. IsLegal c (t upon h)) same legal).1 in
          let under : number ≤ counted (filed (ledger_of h) inc i) = begun_before c h legal.0 one inc i number before in
          let is : number ≡ counted (filed (ledger_of h) inc i) + 1 =
          next_is number (filed (ledger_of h) inc i) (begin_next c h second.0 inc i number second.1 may) in
          omega arith
      | inr below ↦
          let before = found_below s late h later below second.2 in
          let under : later ≤ count h = place_bound c h legal.0 later late before in
          let lower : one ≡ count h + 1 → ⊥ = λ same. omega arith in
          not_again c h legal.0 inc i number one later (first.0, first.1, found_below s early h one lower first.2) (second.0, second.1, before) lt
    ]

pub begins_differ : BeginsDiffer
begins_differ c h legal inc i number one other first second =
    elim (cases_order one other) [
      | inl same ↦ same
      | inr apart ↦
          elim apart [
            | inl lt ↦ absurd (not_again c h legal inc i number one other first second lt)
            | inr gt ↦ absurd (not_again c h legal inc i number other one second first gt)
          ]
    ]
