-- Each kind of step that makes a letter, or changes contents, keeps the letters and the outcomes together.
use Rattle.std.proofs.Common.{◌≡◌, ℕ, ◌==◌, cond, ◌&&◌, Some, None, List, [], ◌++◌, refl, sym, ap, ap₂, ◌∙◌, inl, inr, le_trans, append-nil}
use Rattle.std.proofs.lemmas.Bool.{cases_Bool}
use Rattle.std.proofs.lemmas.List.Elements.{filter-append}
use Rattle.plain_words.specs.declared.moment.Moment.{Moment}
use Rattle.sched_plain.specs.declared.step.Step.TheVariants as steps
use Rattle.sched_plain.specs.declared.outcome.Reason.{Reason}
use Rattle.plain_words.specs.declared.verdict.Verdict.{Verdict}
use Rattle.sched_plain.specs.declared.write.Write.{Write}
use Rattle.sched_plain.specs.History.{History, beginning, based, ◌upon◌}
use Rattle.sched_plain.specs.Changes.{changes_of}
use Rattle.sched_plain.specs.Rows.{rows_of}
use Rattle.expressions.specs.Calendar.{Calendar}
use Rattle.sched_plain.specs.Leases.{holder, is_taking}
use Rattle.sched_plain.specs.Ledger.{policy_of, ended_by, ledger_of}
use Rattle.sched_plain.specs.Entries.{decided_as, with_begin, with_end, outcome_of, with_loss, changed_if, is_lost_in, filed, is_open}
use Rattle.sched_plain.specs.Queues.{Posted, queue_of, letter_in, final_letter, posted}
use Rattle.sched_plain.specs.Legal.{IsLegal, MayFollow}
use Rattle.plain_words.proofs.Booleans.{both_itself}
use Rattle.book_laws.specs.OutcomeLaws.{decision}
use Rattle.book_laws.specs.LetterLaws.{is_about, queue_named}
use Rattle.book_laws.proofs.Tables.{moment_holds}
use Rattle.book_laws.proofs.Numbers.{at_same}
use Rattle.book_laws.proofs.OutcomesStay.{decided, close_open, open_none, closed_is}
use Rattle.book_laws.proofs.EntriesExact.{caught}
use Rattle.book_laws.proofs.ContentsStay.{filed_there, written_stays, removed_stays}
use Rattle.book_laws.proofs.PostedLetters.{about, letter_for, Lettered, edit_same, entered_same, lost_if_same, same_outcome, cancels_same, queue_matters, about_self, about_other, final_other, end_filed, closed_letter}

change_lettered : (c : Calendar) (h : History) (at : Moment) (write : Write) (inc i : ℕ) → IsLegal c (steps.Change at write upon h) → Lettered h inc i
    → Lettered (steps.Change at write upon h) inc i
change_lettered c h at write inc i legal old =
    let queue = queue_named (steps.Change at write upon h) inc i in
    old
    ∙ queue_matters (filed (ledger_of h) inc i) (queue_named h inc i) queue inc i
    (λ is.
    let at_work = filed_there c h inc i (caught c h legal.0 inc) is in
    ap queue_of (sym (written_stays (rows_of (changes_of h)) at.0 write inc i at_work.row
    (le_trans at_work.come (moment_holds c h (steps.Change at write) legal.1)) at_work.there)))
    ∙ sym (cancels_same (ended_by (rows_of (changes_of h)) write) (ledger_of h) queue inc i)

complete_lettered : (c : Calendar) (h : History) (at : Moment) (removed inc i : ℕ) → IsLegal c (steps.Complete at removed upon h) → Lettered h inc i
    → Lettered (steps.Complete at removed upon h) inc i
complete_lettered c h at removed inc i legal old =
    old
    ∙ queue_matters (filed (ledger_of h) inc i) (queue_named h inc i) (queue_named (steps.Complete at removed upon h) inc i) inc i
    (λ is.
    let at_work = filed_there c h inc i (caught c h legal.0 inc) is in
    ap queue_of (sym (removed_stays (rows_of (changes_of h)) at.0 removed inc i
    (le_trans at_work.come (moment_holds c h (steps.Complete at removed) legal.1)))))

-- the letters with those of a step
with_more : (h : History) (inc i : ℕ) (more : List Posted) → Lettered h inc i
    → about inc i (posted h ++ more) ≡ letter_for (decision h inc i) (queue_named h inc i) inc i ++ about inc i more
with_more h inc i more old = filter-append (λ p. is_about inc i p.letter) (posted h) more ∙ ap (λ all. all ++ about inc i more) old

end_lettered : (h : History) (at : Moment) (of instant number : ℕ) (verdict : Verdict) (status inc i : ℕ)
    → Lettered h of instant → Lettered h inc i → Lettered (steps.End at of instant number verdict status upon h) inc i
end_lettered h at of instant number verdict status inc i here old =
    let s = steps.End at of instant number verdict status in
    let more = cond (is_open (filed (ledger_of h) of instant)) (final_letter verdict (queue_named h of instant) of instant) [] in
    elim (cases_Bool (inc == of && i == instant)) [
      | inl same ↦
          at_same (λ k j. Lettered (s upon h) k j) inc of i instant same
          (with_more h of instant more here
          ∙ end_filed verdict at.0 (filed (ledger_of h) of instant) (queue_named h of instant) of instant
          ∙ ap (λ b. letter_for (decided (changed_if b (with_end verdict at.0) (filed (ledger_of h) of instant))) (queue_named h of instant) of instant)
          (sym (both_itself of instant)))
      | inr other ↦
          with_more h inc i more old
          ∙ ap (λ all. letter_for (decision h inc i) (queue_named h inc i) inc i ++ all)
          (final_other (is_open (filed (ledger_of h) of instant)) verdict (queue_named h of instant) of instant inc i other)
          ∙ append-nil (letter_for (decision h inc i) (queue_named h inc i) inc i)
          ∙ ap (λ b. letter_for (decided (changed_if b (with_end verdict at.0) (filed (ledger_of h) inc i))) (queue_named h inc i) inc i) (sym other)
    ]

close_lettered : (c : Calendar) (h : History) (at : Moment) (of instant : ℕ) (reason : Reason) (inc i : ℕ)
    → MayFollow c h (steps.Close at of instant reason) → Lettered h of instant → Lettered h inc i → Lettered (steps.Close at of instant reason upon h) inc i
close_lettered c h at of instant reason inc i may here old =
    let s = steps.Close at of instant reason in
    let f = filed (ledger_of h) of instant in
    let queue = queue_named h of instant in
    let more = letter_in queue of instant (outcome_of reason) in
    let is = close_open c h at of instant reason may in
    elim (cases_Bool (inc == of && i == instant)) [
      | inl same ↦
          at_same (λ k j. Lettered (s upon h) k j) inc of i instant same
          (with_more h of instant more here
          ∙ ap₂ (λ o all. letter_for o queue of instant ++ all) (open_none f is) (about_self queue of instant (outcome_of reason))
          ∙ closed_letter reason queue of instant
          ∙ ap (λ o. letter_for o queue of instant) (sym (closed_is (outcome_of reason) f is))
          ∙ ap (λ b. letter_for (decided (changed_if b (decided_as (outcome_of reason)) f)) queue of instant) (sym (both_itself of instant)))
      | inr other ↦
          with_more h inc i more old
          ∙ ap (λ all. letter_for (decision h inc i) (queue_named h inc i) inc i ++ all) (about_other queue of instant (outcome_of reason) inc i other)
          ∙ append-nil (letter_for (decision h inc i) (queue_named h inc i) inc i)
          ∙ ap (λ b. letter_for (decided (changed_if b (decided_as (outcome_of reason)) (filed (ledger_of h) inc i))) (queue_named h inc i) inc i) (sym other)
    ]

pub lettered : (c : Calendar) (h : History) → IsLegal c h → (inc i : ℕ) → Lettered h inc i
lettered c beginning legal inc i = refl
lettered c (based b kept) legal inc i = absurd legal
lettered c (steps.Boot at upon h) legal inc i =
    lettered c h legal.0 inc i
    ∙ same_outcome (decision h inc i) _ (queue_named h inc i) inc i (edit_same (is_lost_in None inc) (with_loss at.0) (λ e. refl) (filed (ledger_of h) inc i))
lettered c (steps.Zone at name bytes upon h) legal inc i = lettered c h legal.0 inc i
lettered c (steps.Change at write upon h) legal inc i = change_lettered c h at write inc i legal (lettered c h legal.0 inc i)
lettered c (steps.Enter at of pairs upon h) legal inc i =
    lettered c h legal.0 inc i
    ∙ same_outcome (decision h inc i) _ (queue_named h inc i) inc i
    (entered_same (inc == of) (policy_of (rows_of (changes_of h)) of pairs) pairs i (filed (ledger_of h) inc i))
lettered c (steps.Lease at shard worker epoch until upon h) legal inc i =
    lettered c h legal.0 inc i
    ∙ same_outcome (decision h inc i) _ (queue_named h inc i) inc i
    (lost_if_same (is_taking (holder h shard) epoch) (Some shard) at.0 (ledger_of h) inc i)
lettered c (steps.Release at shard worker epoch upon h) legal inc i = lettered c h legal.0 inc i
lettered c (steps.Begin at of instant number epoch upon h) legal inc i =
    lettered c h legal.0 inc i
    ∙ same_outcome (decision h inc i) _ (queue_named h inc i) inc i
    (edit_same (inc == of && i == instant) (with_begin at.0) (λ e. refl) (filed (ledger_of h) inc i))
lettered c (steps.End at of instant number verdict status upon h) legal inc i =
    end_lettered h at of instant number verdict status inc i (lettered c h legal.0 of instant) (lettered c h legal.0 inc i)
lettered c (steps.Close at of instant reason upon h) legal inc i =
    close_lettered c h at of instant reason inc i legal.1 (lettered c h legal.0 of instant) (lettered c h legal.0 inc i)
lettered c (steps.Complete at removed upon h) legal inc i = complete_lettered c h at removed inc i legal (lettered c h legal.0 inc i)
lettered c (steps.Swept at shard upon h) legal inc i = lettered c h legal.0 inc i
