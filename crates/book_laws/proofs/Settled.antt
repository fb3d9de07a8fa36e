-- Where the work of a shard is Settled none of its searches found anything.
use Rattle.std.proofs.Common.{◌≡◌, ◌⊎◌, inl, inr, ℕ, ◌≤◌, ◌==◌, nat_le, Bool, true, false, cond, Option, Some, None, List, [], ◌∷◌, length, refl, ap, arith}
use Rattle.std.specs.Option.{option_map, option_and_then}
use Rattle.sched_plain.specs.declared.entry.Filed.{Filed}
use Rattle.plain_words.specs.declared.moment.Moment.{Moment}
use Rattle.sched_plain.specs.declared.standing.Standing.{Standing}
use Rattle.sched_plain.specs.declared.standing.Standing.TheVariants as standings
use Rattle.sched_plain.specs.declared.step.Pair.{Pair}
use Rattle.sched_plain.specs.declared.step.Step.TheVariants as steps
use Rattle.sched_plain.specs.declared.work.Work.{Work}
use Rattle.sched_plain.specs.declared.work.Work.TheVariants as works
use Rattle.sched_plain.specs.History.{History}
use Rattle.plain_words.specs.Ids.{shard_of}
use Rattle.plain_words.specs.Lists.{first_some, first_answer, or_else, when}
use Rattle.sched_plain.specs.Changes.{changes_of}
use Rattle.sched_plain.specs.Rows.{rows_of}
use Rattle.expressions.specs.Calendar.{Calendar}
use Rattle.sched_plain.specs.Standing.{standing_of}
use Rattle.sched_plain.specs.Marks.{unentered}
use Rattle.sched_plain.specs.Seen.{Seen, LedgerSeen, seen}
use Rattle.sched_plain.specs.Work.{Occurrence, open_at, first_open, of_shard, completable, wanted_by, act_of, waited_for, live_of, first_entry, work_table, or_settled}
use Rattle.sched_plain.specs.Rules.{unless_settled}
use Rattle.sched_plain.specs.Legal.{MayFollow}
use Rattle.plain_words.proofs.Options.{map_none}
use Rattle.plain_words.proofs.ListLemmas.{AllNone}
use Rattle.book_laws.proofs.Tables.{kind_holds}
use Rattle.book_laws.proofs.Searches.{IsWithin, none_from, none_open}

-- none of these is the word that there is nothing to do
abbrev pub AllWork : List (Option Work) → Type 0
AllWork [] = Unit {0}
AllWork (found ∷ more) = (found ≡ Some works.Settled → ⊥) × AllWork more

settled_is : (w : Work) → unless_settled w ≡ None → w ≡ works.Settled
settled_is (works.Enter inc) e = cc
settled_is (works.Close inc instant reason) e = cc
settled_is (works.Begin inc instant) e = cc
settled_is (works.Complete inc) e = cc
settled_is (works.Live inc instant) e = cc
settled_is works.Settled e = refl

settled_table : (table : List (Option Work)) → AllWork table → unless_settled (or_settled (first_some table)) ≡ None → AllNone table
settled_table [] all e = tt
settled_table (None ∷ more) all e = (refl, settled_table more all.1 e)
settled_table (Some w ∷ more) all e = absurd (all.0 (ap (λ x. Some x) (settled_is w e)))

else_cases : {A : Type 0} (a b : Option A) (x : A) → or_else a b ≡ Some x → (a ≡ Some x) ⊎ (b ≡ Some x)
else_cases None b x e = inr e
else_cases (Some y) b x e = inl e

-- a search whose question never has this answer does not find it
never_found : {A B : Type 0} (question : A → Option B) (x : B) → ((y : A) → question y ≡ Some x → ⊥) → (ys : List A) → first_answer question ys ≡ Some x → ⊥
never_found question x never [] e = cc
never_found question x never (y ∷ ys) e =
    elim (else_cases (question y) (first_answer question ys) x e) [
      | inl here ↦ never y here
      | inr later ↦ never_found question x never ys later
    ]

enter_work : (o : Option Occurrence) → option_map (λ found. works.Enter found.inc) o ≡ Some works.Settled → ⊥
enter_work None e = cc
enter_work (Some found) e = cc

wanted_work : (inc instant : ℕ) (s : Standing) → wanted_by inc instant s ≡ Some works.Settled → ⊥
wanted_work inc instant (standings.Decided outcome) e = cc
wanted_work inc instant standings.Live e = cc
wanted_work inc instant (standings.Exhausted reason) e = cc
wanted_work inc instant (standings.Waiting until) e = cc
wanted_work inc instant standings.Due e = cc

chosen_work : (b : Bool) (o : Option Work) → (o ≡ Some works.Settled → ⊥) → cond b o None ≡ Some works.Settled → ⊥
chosen_work true o never e = never e
chosen_work false o never e = cc

act_work : (t inc instant : ℕ) (filed : Option Filed) → option_and_then (act_of t inc instant) filed ≡ Some works.Settled → ⊥
act_work t inc instant None e = cc
act_work t inc instant (Some f) e =
    chosen_work (nat_le f.entry.chosen t) (wanted_by inc instant (standing_of f t)) (wanted_work inc instant (standing_of f t)) e

waited_work : (inc instant : ℕ) (s : Standing) → waited_for inc instant s ≡ Some works.Settled → ⊥
waited_work inc instant (standings.Decided outcome) e = cc
waited_work inc instant standings.Live e = cc
waited_work inc instant (standings.Exhausted reason) e = cc
waited_work inc instant (standings.Waiting until) e = cc
waited_work inc instant standings.Due e = cc

live_work : (t inc instant : ℕ) (filed : Option Filed) → option_and_then (live_of t inc instant) filed ≡ Some works.Settled → ⊥
live_work t inc instant None e = cc
live_work t inc instant (Some f) e = waited_work inc instant (standing_of f t) e

when_work : (b : Bool) (inc : ℕ) → when b (works.Complete inc) ≡ Some works.Settled → ⊥
when_work true inc e = cc
when_work false inc e = cc

entry_work : (ledger : LedgerSeen) (question : ℕ → ℕ → Filed → Option Work)
    → ((inc instant : ℕ) (filed : Option Filed) → option_and_then (question inc instant) filed ≡ Some works.Settled → ⊥)
    → (incs : List ℕ) → first_entry ledger question incs ≡ Some works.Settled → ⊥
entry_work ledger question never incs e =
    never_found _ works.Settled
    (λ inc inside. never_found {A = Pair} _ works.Settled (λ pair found. never inc pair.instant (ledger.filed inc pair.instant) found) (ledger.pairs inc) inside)
    incs e

-- all searches of the work of a shard
pub all_work : (v : Seen) (incs : List ℕ) (t : ℕ) → AllWork (work_table v incs t)
all_work v incs t = (
  enter_work (first_open v.times t incs),
  (
    entry_work v.ledger (act_of t) (act_work t) incs,
    (
      never_found _ works.Settled (λ inc found. when_work (completable v inc t) inc found) incs,
      (entry_work v.ledger (live_of t) (live_work t) incs, tt),
    ),
  ),
)

-- what a Swept that may follow says of the searches
pub swept_none : (c : Calendar) (h : History) (at : Moment) (shard : ℕ) → MayFollow c h (steps.Swept at shard)
    → AllNone (work_table (seen c h) (of_shard shard (length (rows_of (changes_of h)))) at.0)
swept_none c h at shard may =
    let incs = of_shard shard (length (rows_of (changes_of h))) in
    settled_table (work_table (seen c h) incs at.0) (all_work (seen c h) incs at.0) (kind_holds c h (steps.Swept at shard) may).0

-- a search over the incarnations of the shard
pub none_in_shard : {B : Type 0} (question : ℕ → Option B) (shard created inc : ℕ) → first_answer question (of_shard shard created) ≡ None
    → (shard == shard_of inc) ≡ true → IsWithin inc created → question inc ≡ None
none_in_shard question shard created inc e mine within =
    let low : 1 ≤ inc = within.low in
    let up : inc ≤ created = within.up in
    none_from question (λ k. shard == shard_of k) 1 created inc e low (omega arith) mine

-- a Swept that may follow leaves no unentered occurrence
pub swept_open : (c : Calendar) (h : History) (at : Moment) (shard : ℕ) → MayFollow c h (steps.Swept at shard) → (inc : ℕ)
    → (shard == shard_of inc) ≡ true → IsWithin inc (length (rows_of (changes_of h))) → unentered c h inc at.0 ≡ []
swept_open c h at shard may inc mine within =
    let created = length (rows_of (changes_of h)) in
    none_open (seen c h).times at.0 inc
    (none_in_shard (open_at (seen c h).times at.0) shard created inc
    (map_none _ (first_open (seen c h).times at.0 (of_shard shard created)) (swept_none c h at shard may).0) mine within)
