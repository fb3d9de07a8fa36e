-- What a Begin makes of what the parts stand for.
use Rattle.std.proofs.Common.{◌≡◌, ℕ, ◌+◌, Bool, true, Option, Some, None, List, ◌∷◌, refl, ap, sym, ◌∙◌, subst}
use Rattle.std.specs.Prelude.{IfSome}
use Rattle.plain_words.specs.declared.moment.Moment.{Moment}
use Rattle.plain_words.specs.Lists.{some_pass}
use Rattle.sched_plain.specs.declared.entry.Filed.{Filed}
use Rattle.sched_plain.specs.declared.step.Step.{Step}
use Rattle.sched_plain.specs.declared.step.Step.TheVariants as steps
use Rattle.sched_plain.specs.Ledger.{LedgerCall, Begun, ledger_of}
use Rattle.ledger_rows.specs.State.{State as LedgerState, Stands as LedgerStands}
use Rattle.next_dates.specs.StepLaws.{NextStays}
use Rattle.work_order.specs.FinishedLaws.{FinishedStays}
use Rattle.book_parts.specs.Told.{Told}
use Rattle.book_parts.specs.Stands.{Takes, calendar}

-- a step upon parts that are the same
pub along : {b old : Told} (new : Told) (s : Step) → b ≡ old → Takes b new s → Takes old new s
along new s same taken = subst (λ (o : Told). Takes o new s) same taken

-- the number of what is filed and passes is one
pub number_is : (test : Filed → Bool) (filed : Option Filed) (one other : ℕ) → some_pass test filed ≡ true
    → IfSome filed (λ f. one ≡ f.entry.used + 1) → IfSome filed (λ f. other ≡ f.entry.used + 1) → one ≡ other
number_is test None one other passes a b = cc passes
number_is test (Some f) one other passes a b = a ∙ sym b

pub begun_taken : NextStays → FinishedStays → (b : Told) (at : Moment) (inc instant number begun epoch : ℕ) (ledger : LedgerState) → begun ≡ number
    → ((calls : List LedgerCall) → LedgerStands b.ledger calls → LedgerStands ledger (Begun inc instant begun epoch at.0 ∷ calls))
    → Takes b (record {
      moment = at.0;
      steps = b.steps + 1;
      swept = b.swept;
      holders = b.holders;
      zones = b.zones;
      rows = b.rows;
      ledger = ledger;
      shelf = b.shelf;
      letters = b.letters;
      next = b.next;
      finished = b.finished;
    }) (steps.Begin at inc instant number epoch)
begun_taken next_stays finished_stays b at inc instant number begun epoch ledger same begins h st may =
    let s = steps.Begin at inc instant number epoch in
    record {
      legal = (st.legal, may);
      moment = refl;
      steps = ap (λ n. n + 1) st.steps;
      swept = st.swept;
      holders = st.holders;
      zones = st.zones;
      rows = st.rows;
      ledger = subst (λ (n : ℕ). LedgerStands ledger (Begun inc instant n epoch at.0 ∷ ledger_of h)) same (begins (ledger_of h) st.ledger);
      shelf = st.shelf;
      letters = st.letters;
      next = λ i. st.next i ∙ sym (next_stays calendar h s st.legal may i refl);
      finished = λ i. st.finished i ∙ sym (finished_stays calendar h s st.legal may i refl);
    }
