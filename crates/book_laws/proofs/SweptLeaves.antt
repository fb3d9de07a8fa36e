-- A Swept leaves nothing to do in its shard.
use Rattle.std.proofs.Common.{◌≡◌, ℕ, ◌+◌, ◌==◌, nat_le, Bool, true, false, cond, Option, Some, None, is_some, List, [], ◌∷◌, length, refl, sym, ap, ◌∙◌, subst, inl, inr}
use Rattle.std.specs.Option.{option_and_then}
use Rattle.std.proofs.lemmas.Bool.{or_cases, eq-eqb, eqb-true, le-leb}
use Rattle.sched_plain.specs.declared.entry.Filed.{Filed}
use Rattle.sched_plain.specs.declared.standing.Standing.{Standing}
use Rattle.sched_plain.specs.declared.standing.Standing.TheVariants as standings
use Rattle.sched_plain.specs.declared.step.Pair.{Pair}
use Rattle.sched_plain.specs.declared.step.Step.TheVariants as steps
use Rattle.sched_plain.specs.declared.work.Work.{Work}
use Rattle.sched_plain.specs.declared.work.Work.TheVariants as works
use Rattle.sched_plain.specs.History.{History, ◌upon◌}
use Rattle.plain_words.specs.Ids.{shard_of}
use Rattle.sched_plain.specs.Moments.{moment}
use Rattle.plain_words.specs.Lists.{first_answer, when, nth, some_pass}
use Rattle.sched_plain.specs.Changes.{changes_of}
use Rattle.sched_plain.specs.declared.row.Row.{Row}
use Rattle.sched_plain.specs.Rows.{rows_of, current_of}
use Rattle.sched_plain.specs.Items.{items}
use Rattle.sched_plain.specs.Marks.{cover}
use Rattle.plain_words.specs.declared.moment.Moment.{Moment}
use Rattle.sched_plain.specs.Legal.{IsLegal}
use Rattle.expressions.specs.Calendar.{Calendar}
use Rattle.sched_plain.specs.Ledger.{ledger_of}
use Rattle.sched_plain.specs.Entries.{entries, is_paired, filed}
use Rattle.sched_plain.specs.Standing.{standing_of}
use Rattle.sched_plain.specs.Seen.{LedgerSeen, seen}
use Rattle.sched_plain.specs.Work.{of_shard, completable, wanted_by, act_of, waited_for, live_of, first_entry, is_finished}
use Rattle.plain_words.proofs.ListLemmas.{when_none}
use Rattle.plain_words.proofs.Options.{else_none}
use Rattle.sched_plain.proofs.LedgerLemmas.{filed_paired}
use Rattle.book_laws.specs.SweepLaws.{IsAtRest, NothingLeft, SweptLeavesNothing}
use Rattle.book_laws.proofs.Tables.{then_none, moment_holds}
use Rattle.book_laws.proofs.Searches.{IsWithin, nth_within}
use Rattle.book_laws.proofs.Settled.{swept_none, none_in_shard, swept_open}
use Rattle.book_laws.proofs.Covers.{unentered_is, none_from_on}
use Rattle.book_laws.proofs.EntriesExact.{caught}
use Rattle.book_laws.proofs.ContentsStay.{filed_there}
use Rattle.book_laws.proofs.ChosenCome.{IsCome, come_later, come_in, due_come, exhausted_come}

-- a search over pairs that found nothing
none_in_pairs : {B : Type 0} (question : ℕ → Option B) (pairs : List Pair) (i : ℕ)
    → first_answer {A = Pair} (λ pair. question pair.instant) pairs ≡ None → is_paired pairs i ≡ true → question i ≡ None
none_in_pairs question [] i e there = cc
none_in_pairs question (pair ∷ pairs) i e there =
    let parts = else_none (question pair.instant) (first_answer {A = Pair} (λ p. question p.instant) pairs) e in
    elim (or_cases (i == pair.instant) (is_paired pairs i) there) [
      | inl here ↦ ap question (eqb-true i pair.instant here) ∙ parts.0
      | inr later ↦ none_in_pairs question pairs i parts.1 later
    ]

-- a search over the entries of a shard that found nothing
none_in_entries : (ledger : LedgerSeen) (question : ℕ → ℕ → Filed → Option Work) (shard created inc i : ℕ) (f : Filed)
    → first_entry ledger question (of_shard shard created) ≡ None → (shard == shard_of inc) ≡ true → IsWithin inc created
    → is_paired (ledger.pairs inc) i ≡ true → ledger.filed inc i ≡ Some f → question inc i f ≡ None
none_in_entries ledger question shard created inc i f e mine within paired there =
    let inside : first_answer {A = Pair} (λ pair. option_and_then (question inc pair.instant) (ledger.filed inc pair.instant)) (ledger.pairs inc) ≡ None =
    none_in_shard _ shard created inc e mine within in
    then_none (question inc i) (ledger.filed inc i) f
    (none_in_pairs (λ k. option_and_then (question inc k) (ledger.filed inc k)) (ledger.pairs inc) i inside paired) there

chosen_none : (b : Bool) (o : Option Work) → b ≡ true → cond b o None ≡ None → o ≡ None
chosen_none true o is e = e
chosen_none false o is e = cc

-- an entry that neither wants anything nor is waited for is at rest
rests : (f : Filed) (t inc i : ℕ) → IsCome t (Some f) → act_of t inc i f ≡ None → live_of t inc i f ≡ None
    → (s : Standing) → standing_of f t ≡ s → IsAtRest s
rests f t inc i come act live (standings.Decided outcome) is = tt
rests f t inc i come act live standings.Live is =
    let clash : waited_for inc i standings.Live ≡ None = ap (waited_for inc i) (sym is) ∙ live in
    let never : Some (works.Live inc i) ≡ None = clash in
    cc
rests f t inc i come act live (standings.Exhausted reason) is =
    let none = chosen_none (nat_le f.entry.chosen t) (wanted_by inc i (standing_of f t)) (le-leb f.entry.chosen t (exhausted_come f t reason come is)) act in
    let never : Some (works.Close inc i reason) ≡ None = ap (wanted_by inc i) (sym is) ∙ none in
    cc
rests f t inc i come act live (standings.Waiting until) is = tt
rests f t inc i come act live standings.Due is =
    let none = chosen_none (nat_le f.entry.chosen t) (wanted_by inc i (standing_of f t)) (le-leb f.entry.chosen t (due_come f t come is)) act in
    let never : Some (works.Begin inc i) ≡ None = ap (wanted_by inc i) (sym is) ∙ none in
    cc

-- nothing is left of an incarnation of the shard that is there
left_there : (c : Calendar) (h : History) (at : Moment) (shard : ℕ) → IsLegal c (steps.Swept at shard upon h) → (inc : ℕ)
    → (shard == shard_of inc) ≡ true → IsWithin inc (length (rows_of (changes_of h))) → NothingLeft c (steps.Swept at shard upon h) inc at.0
left_there c h at shard legal inc here within =
    let may = legal.1 in
    let rows = length (rows_of (changes_of h)) in
    let none = swept_none c h at shard may in
    record {
      entered = swept_open c h at shard may inc here within;
      at_rest = λ i f there.
          let paired : is_paired (entries (ledger_of h) inc) i ≡ true = sym (filed_paired (ledger_of h) inc i) ∙ ap is_some there in
          let come : IsCome at.0 (filed (ledger_of h) inc i) =
          come_later (moment h) at.0 (filed (ledger_of h) inc i) (moment_holds c h (steps.Swept at shard) may) (come_in c h legal.0 inc i) in
          rests f at.0 inc i (subst (IsCome at.0) there come)
          (none_in_entries (seen c h).ledger (act_of at.0) shard rows inc i f none.1.0 here within paired there)
          (none_in_entries (seen c h).ledger (live_of at.0) shard rows inc i f none.1.1.1.0 here within paired there)
          (standing_of f at.0) refl;
      incomplete =
          when_none (completable (seen c h) inc at.0) (works.Complete inc)
          (none_in_shard (λ k. when (completable (seen c h) k at.0) (works.Complete k)) shard rows inc none.1.1.0 here within);
    }

-- of one that is not there nothing is filed
none_filed : (c : Calendar) (h : History) → IsLegal c h → (inc i : ℕ) (f : Filed) → nth (rows_of (changes_of h)) inc ≡ None
    → filed (ledger_of h) inc i ≡ Some f → ⊥
none_filed c h legal inc i f none there =
    let is = filed_there c h inc i (caught c h legal inc) (ap is_some there) in
    let clash : Some is.row ≡ None = sym is.there ∙ none in
    cc

left_none : (c : Calendar) (h : History) (at : Moment) (shard : ℕ) → IsLegal c (steps.Swept at shard upon h) → (inc : ℕ)
    → nth (rows_of (changes_of h)) inc ≡ None → NothingLeft c (steps.Swept at shard upon h) inc at.0
left_none c h at shard legal inc none =
    let old = caught c h legal.0 inc in
    record {
      entered = unentered_is c h inc at.0 old ∙ none_from_on c (items h inc) (cover h inc) (at.0 + 1) (old.unborn none);
      at_rest = λ i f there. absurd (none_filed c h legal.0 inc i f none there);
      incomplete = ap (λ row. some_pass (is_finished (seen c h) inc at.0) (option_and_then current_of row)) none;
    }

left_by_row : (c : Calendar) (h : History) (at : Moment) (shard : ℕ) → IsLegal c (steps.Swept at shard upon h) → (inc : ℕ) → shard ≡ shard_of inc
    → (row : Option Row) → nth (rows_of (changes_of h)) inc ≡ row → NothingLeft c (steps.Swept at shard upon h) inc at.0
left_by_row c h at shard legal inc mine None none = left_none c h at shard legal inc none
left_by_row c h at shard legal inc mine (Some row) there =
    left_there c h at shard legal inc (eq-eqb shard (shard_of inc) mine) (nth_within (rows_of (changes_of h)) inc row there)

pub swept_leaves_nothing : SweptLeavesNothing
swept_leaves_nothing c h at shard legal inc mine = left_by_row c h at shard legal inc mine (nth (rows_of (changes_of h)) inc) refl
