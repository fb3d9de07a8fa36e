-- Entries that are cancelled, in whatever order; and those of the incarnations that a write ends.
use Rattle.std.proofs.Common.{◌≡◌, ℕ, zero, suc, ◌+◌, ◌≤◌, ◌<◌, ◌==◌, Bool, true, false, ◌||◌, Option, Some, None, List, [], ◌∷◌, ◌++◌, map, length, refl, ap, sym, ◌∙◌, arith, inl, inr}
use Rattle.std.specs.Prelude.{if◌then◌else◌}
use Rattle.std.specs.List.{filter}
use Rattle.std.proofs.lemmas.Bool.{cases_eq, cases_lt, eq-eqb, ne_eqb}
use Rattle.plain_words.specs.Lists.{numbers, nth, some_pass, or_else}
use Rattle.plain_words.proofs.Booleans.{by_bool}
use Rattle.plain_words.proofs.ListLemmas.{nth_past, filter_none, some_pass_none}
use Rattle.date_table.proofs.NumberLists.{nth_zero}
use Rattle.sched_plain.specs.declared.entry.Filed.{Filed}
use Rattle.sched_plain.specs.declared.outcome.Outcome.{Outcome}
use Rattle.sched_plain.specs.declared.outcome.Outcome.TheVariants as outcomes
use Rattle.sched_plain.specs.declared.row.Row.{Row}
use Rattle.sched_plain.specs.declared.write.Write.{Write}
use Rattle.sched_plain.specs.Attempts.{attempts}
use Rattle.sched_plain.specs.Entries.{decided_as, changed_if, filed}
use Rattle.sched_plain.specs.Ledger.{LedgerCall, Cancelled, is_end, ended_by}
use Rattle.sched_plain.specs.Rows.{incs_where, touches, deed_of}
use Rattle.sched_plain.proofs.LedgerLemmas.{entries_cancelled}
use Rattle.ledger_rows.specs.Air.{airborne}
use Rattle.ledger_rows.specs.State.{State, Stands}
use Rattle.book_writes.specs.Touching.{is_touched}
use Rattle.book_writes.specs.Cancelling.{is_among, Cancels}

-- ---- what is told of cancelled entries

else_twice : (o : Option Outcome) (outcome : Outcome) → or_else (or_else o (Some outcome)) (Some outcome) ≡ or_else o (Some outcome)
else_twice None outcome = refl
else_twice (Some old) outcome = refl

twice : (a b : Bool) (f : Option Filed)
    → changed_if a (decided_as outcomes.Cancelled) (changed_if b (decided_as outcomes.Cancelled) f) ≡ changed_if (a || b) (decided_as outcomes.Cancelled) f
twice true true None = refl
twice true true (Some f) = ap (λ (o : Option Outcome). Some (record f { entry = record f.entry { outcome = o } })) (else_twice f.entry.outcome outcomes.Cancelled)
twice true false f = refl
twice false b f = refl

pub filed_cancelled : (incs : List ℕ) (calls : List LedgerCall) (inc i : ℕ)
    → filed (map Cancelled incs ++ calls) inc i ≡ changed_if (is_among inc incs) (decided_as outcomes.Cancelled) (filed calls inc i)
filed_cancelled [] calls inc i = refl
filed_cancelled (one ∷ incs) calls inc i =
    ap (changed_if (inc == one) (decided_as outcomes.Cancelled)) (filed_cancelled incs calls inc i)
    ∙ twice (inc == one) (is_among inc incs) (filed calls inc i)

attempts_cancelled : (incs : List ℕ) (calls : List LedgerCall) (inc i : ℕ) → attempts (map Cancelled incs ++ calls) inc i ≡ attempts calls inc i
attempts_cancelled [] calls inc i = refl
attempts_cancelled (one ∷ incs) calls inc i = attempts_cancelled incs calls inc i

air_cancelled : (incs : List ℕ) (calls : List LedgerCall) → airborne (map Cancelled incs ++ calls) ≡ airborne calls
air_cancelled [] calls = refl
air_cancelled (one ∷ incs) calls = air_cancelled incs calls

-- a ledger stands for what is cancelled in any order
pub same_cancels : (s : State) (calls : List LedgerCall) (some all : List ℕ) → ((inc : ℕ) → is_among inc some ≡ is_among inc all)
    → Stands s (map Cancelled some ++ calls) → Stands s (map Cancelled all ++ calls)
same_cancels s calls some all same stands = record {
  told = record {
    filed = λ inc i.
        stands.told.filed inc i ∙ filed_cancelled some calls inc i
        ∙ ap (λ b. changed_if b (decided_as outcomes.Cancelled) (filed calls inc i)) (same inc) ∙ sym (filed_cancelled all calls inc i);
    pairs = λ inc. stands.told.pairs inc ∙ entries_cancelled some calls inc ∙ sym (entries_cancelled all calls inc);
    attempts = λ inc i. stands.told.attempts inc i ∙ attempts_cancelled some calls inc i ∙ sym (attempts_cancelled all calls inc i);
  };
  air = stands.air ∙ air_cancelled some calls ∙ sym (air_cancelled all calls);
}

-- ---- the numbers whose rows pass

among_out : (q : ℕ → Bool) (from n inc : ℕ) → ((i : ℕ) → from ≤ i → i < from + n → inc ≡ i → ⊥) → is_among inc (filter q (numbers from n)) ≡ false
among_out q from zero inc out = refl
among_out q from (suc n) inc out =
    let rest = filter q (numbers (from + 1) n) in
    let none : is_among inc rest ≡ false = among_out q (from + 1) n inc (λ i low up same. out i (omega arith) (omega arith) same) in
    by_bool (λ b. is_among inc (if b then from ∷ rest else rest) ≡ false) (q from)
    (λ is. ap (λ b. b || is_among inc rest) (ne_eqb inc from (out from (omega arith) (omega arith))) ∙ none)
    (λ fails. none)

among_in : (q : ℕ → Bool) (from n inc : ℕ) → from ≤ inc → inc < from + n → is_among inc (filter q (numbers from n)) ≡ q inc
among_in q from zero inc low up = absurd (omega arith)
among_in q from (suc n) inc low up =
    let rest = filter q (numbers (from + 1) n) in
    elim (cases_eq inc from) [
      | inl same ↦
          let none : is_among inc rest ≡ false = among_out q (from + 1) n inc (λ i higher lower e. omega arith) in
          by_bool (λ b. b ≡ q from → is_among inc (if b then from ∷ rest else rest) ≡ q inc) (q from)
          (λ is e. ap (λ b. b || is_among inc rest) (eq-eqb inc from same) ∙ e ∙ ap q (sym same))
          (λ fails e. none ∙ e ∙ ap q (sym same)) refl
      | inr apart ↦
          by_bool (λ b. is_among inc (if b then from ∷ rest else rest) ≡ q inc) (q from)
          (λ is. ap (λ b. b || is_among inc rest) (ne_eqb inc from apart) ∙ among_in q (from + 1) n inc (omega arith) (omega arith))
          (λ fails. among_in q (from + 1) n inc (omega arith) (omega arith))
    ]

-- who is among them has a row that passes
pub among_where : (test : Row → Bool) (rows : List Row) (inc : ℕ) → is_among inc (incs_where test rows) ≡ some_pass test (nth rows inc)
among_where test rows inc =
    elim (cases_lt inc 1) [
      | inl low ↦ absent inc (λ k up high same. omega arith) (nowhere inc (omega arith))
      | inr above ↦
          elim (cases_lt (length rows) inc) [
            | inl past ↦ absent inc (λ k up high same. omega arith) (nth_past rows inc past)
            | inr within ↦ among_in (λ k. some_pass test (nth rows k)) 1 (length rows) inc (omega arith) (omega arith)
          ]
    ]
  where
    nowhere : (i : ℕ) → i ≡ 0 → nth rows i ≡ None
    nowhere i same = ap (nth rows) same ∙ nth_zero rows

    absent : (i : ℕ) → ((k : ℕ) → 1 ≤ k → k < 1 + length rows → i ≡ k → ⊥) → nth rows i ≡ None → is_among i (incs_where test rows) ≡ some_pass test (nth rows i)
    absent i out none =
        among_out (λ k. some_pass test (nth rows k)) 1 (length rows) i out ∙ sym (ap (some_pass test) none)

-- ---- the incarnations that a write ends

-- a write that touches no incarnation but to end it; and one that ends none
abbrev pub OnlyEnds : Write → Type 0
OnlyEnds write = (row : Row) → is_end (deed_of write row) ≡ touches (deed_of write row)

abbrev pub EndsNone : Write → Type 0
EndsNone write = (row : Row) → is_end (deed_of write row) ≡ false

pub ended_among : (rows : List Row) (write : Write) → OnlyEnds write → (inc : ℕ) → is_among inc (ended_by rows write) ≡ is_touched rows write inc
ended_among rows write only inc =
    among_where (λ row. is_end (deed_of write row)) rows inc ∙ (λ i. some_pass (λ row. only row i) (nth rows inc))

pub ended_stands : (rows : List Row) (write : Write) (s : State) (calls : List LedgerCall) → OnlyEnds write → Cancels (is_touched rows write) s calls
    → Stands s (map Cancelled (ended_by rows write) ++ calls)
ended_stands rows write s calls only cancels =
    same_cancels s calls cancels.incs (ended_by rows write) (λ inc. cancels.each inc ∙ sym (ended_among rows write only inc)) cancels.stands

pub none_ended : (rows : List Row) (write : Write) → EndsNone write → ended_by rows write ≡ []
none_ended rows write none =
    filter_none (λ inc. some_pass (λ row. is_end (deed_of write row)) (nth rows inc)) (numbers 1 (length rows))
    (λ inc. (λ i. some_pass (λ row. none row i) (nth rows inc)) ∙ some_pass_none (nth rows inc))
