-- An occurrence that has an entry keeps it, whatever step follows; its number of attempts is small; what a shard asks for is of
-- an entry.
use Rattle.std.proofs.Common.{◌≡◌, ℕ, ◌≤◌, Bool, true, false, Option, Some, None, List, [], ◌∷◌, ◌++◌, map, refl, ap, sym, subst, arith, ◌∙◌, inl, inr}
use Rattle.std.specs.Prelude.{◌&&◌, ◌==◌, is_some, if◌then◌else◌}
use Rattle.std.specs.Option.{option_map, option_and_then}
use Rattle.sched_plain.specs.declared.entry.Entry.{Entry}
use Rattle.sched_plain.specs.declared.entry.Filed.{Filed}
use Rattle.sched_plain.specs.declared.step.Step.{Step}
use Rattle.sched_plain.specs.declared.step.Step.TheVariants as steps
use Rattle.sched_plain.specs.declared.work.Work.{Work}
use Rattle.sched_plain.specs.declared.work.Work.TheVariants as works
use Rattle.plain_words.specs.Lists.{or_else, only_if}
use Rattle.sched_plain.specs.Changes.{changes_of}
use Rattle.sched_plain.specs.Rows.{rows_of}
use Rattle.sched_plain.specs.History.{History, ◌upon◌}
use Rattle.sched_plain.specs.Leases.{holder, is_taking}
use Rattle.sched_plain.specs.Ledger.{LedgerCall, Entered, Begun, Finished, Closed, Cancelled, Lost, Missed, ledger_of, policy_of, ended_by}
use Rattle.sched_plain.specs.Entries.{filed, filed_by, with_begin, with_end, with_loss, with_missed, decided_as, outcome_of, is_lost_in}
use Rattle.sched_plain.specs.declared.outcome.Outcome.TheVariants as outcomes
use Rattle.sched_plain.specs.Legal.{IsLegal}
use Rattle.sched_plain.specs.Validity.{AllValid}
use Rattle.sched_plain.specs.Seen.{seen}
use Rattle.sched_plain.specs.Work.{work}
use Rattle.sched_plain.specs.Attempts.{used}
use Rattle.sched_plain.proofs.LedgerLemmas.{filed_changed}
use Rattle.sched_calls.specs.Serves.{Finds}
use Rattle.book_parts.specs.Stands.{calendar}
use Rattle.book_laws.specs.AttemptLaws.{AttemptsAreAllowed, EntriesCount, allowed, counted}
use Rattle.sweep_laws.proofs.Limits.{HasFew, few_retries}
use Rattle.sweep_laws.proofs.Follow.{asks_begin}
use Rattle.step_keeper.specs.Carrying.{Start, Carries, Lives, LivesWhere}
use Rattle.durable_book.specs.Steps.{HasEntry}

-- ---- an entry stays

entered_there : (b : Bool) (old new : Option Filed) → is_some old ≡ true → is_some (if b then or_else old new else old) ≡ true
entered_there true None new there = absurd cc
entered_there true (Some f) new there = there
entered_there false old new there = there

-- an entry stays under any call of the ledger
call_there : (call : LedgerCall) (before : List LedgerCall) (inc instant : ℕ) → is_some (filed before inc instant) ≡ true
    → is_some (filed (call ∷ before) inc instant) ≡ true
call_there (Entered of policy pairs) before inc instant there =
    entered_there (inc == of) (filed before inc instant) (filed_by policy pairs instant) there
call_there (Begun of at number epoch moment) before inc instant there =
    filed_changed (inc == of && instant == at) (with_begin moment) (filed before inc instant) ∙ there
call_there (Finished of at number verdict status moment) before inc instant there =
    filed_changed (inc == of && instant == at) (with_end verdict moment) (filed before inc instant) ∙ there
call_there (Closed of at reason) before inc instant there =
    filed_changed (inc == of && instant == at) (decided_as (outcome_of reason)) (filed before inc instant) ∙ there
call_there (Cancelled of) before inc instant there =
    filed_changed (inc == of) (decided_as outcomes.Cancelled) (filed before inc instant) ∙ there
call_there (Lost shard moment) before inc instant there =
    filed_changed (is_lost_in shard inc) (with_loss moment) (filed before inc instant) ∙ there
call_there (Missed of at number moment) before inc instant there =
    filed_changed (inc == of && instant == at) (with_missed number moment) (filed before inc instant) ∙ there

calls_there : (calls before : List LedgerCall) (inc instant : ℕ) → is_some (filed before inc instant) ≡ true
    → is_some (filed (calls ++ before) inc instant) ≡ true
calls_there [] before inc instant there = there
calls_there (call ∷ calls) before inc instant there = call_there call (calls ++ before) inc instant (calls_there calls before inc instant there)

-- so under any step
entry_stays : (s : Step) (h : History) (inc instant : ℕ) → HasEntry inc instant h → HasEntry inc instant (s upon h)
entry_stays (steps.Boot at) h inc instant there = call_there (Lost None at.0) (ledger_of h) inc instant there
entry_stays (steps.Zone at name bytes) h inc instant there = there
entry_stays (steps.Change at write) h inc instant there =
    calls_there (map Cancelled (ended_by (rows_of (changes_of h)) write)) (ledger_of h) inc instant there
entry_stays (steps.Enter at of pairs) h inc instant there =
    call_there (Entered of (policy_of (rows_of (changes_of h)) of pairs) pairs) (ledger_of h) inc instant there
entry_stays (steps.Lease at shard worker epoch until) h inc instant there =
    calls_there (only_if (is_taking (holder h shard) epoch) (Lost (Some shard) at.0)) (ledger_of h) inc instant there
entry_stays (steps.Release at shard worker epoch) h inc instant there = there
entry_stays (steps.Begin at of on number epoch) h inc instant there = call_there (Begun of on number epoch at.0) (ledger_of h) inc instant there
entry_stays (steps.End at of on number verdict status) h inc instant there =
    call_there (Finished of on number verdict status at.0) (ledger_of h) inc instant there
entry_stays (steps.Close at of on reason) h inc instant there = call_there (Closed of on reason) (ledger_of h) inc instant there
entry_stays (steps.Complete at of) h inc instant there = there
entry_stays (steps.Swept at shard) h inc instant there = there

found_entry : (doubt : Option Step) (h found : History) (inc instant : ℕ) → HasEntry inc instant h → Finds h doubt found → HasEntry inc instant found
found_entry None h found inc instant there is = subst (HasEntry inc instant) (sym is) there
found_entry (Some s) h found inc instant there (inl is) = subst (HasEntry inc instant) (sym is) there
found_entry (Some s) h found inc instant there (inr is) = subst (HasEntry inc instant) (sym is) (entry_stays s h inc instant there)

-- what was found behind a doubt has it still
pub entry_found : {K : Type 0} (H S : Start K → History → Type 0) (doubt : Option Step) (inc instant : ℕ)
    → LivesWhere (HasEntry inc instant) H → Carries H S (λ h. Finds h doubt) → LivesWhere (HasEntry inc instant) S
entry_found H S doubt inc instant lives settled =
    let found = settled lives.0 lives.1 lives.2 in
    (lives.0, found.0, found.1, found_entry doubt lives.1 found.0 inc instant lives.3 found.2)

-- what was found lives
pub found_lives : {K : Type 0} (H S : Start K → History → Type 0) (P : History → History → Type 0) → Lives H → Carries H S P → Lives S
found_lives H S P lives settled = let found = settled lives.0 lives.1 lives.2 in (lives.0, found.0, found.1)

-- ---- how many attempts an entry counts

few_used : (o : Option Filed) (entry : Entry) (n : ℕ) → HasFew o → n ≡ counted o → n ≤ allowed o → Some entry ≡ option_map {T = Filed} (λ f. f.entry) o
    → entry.used ≤ 186
few_used None entry n few count most is = absurd cc
few_used (Some f) entry n few count most is =
    let same : entry ≡ f.entry = cc is in
    let uses : entry.used ≡ f.entry.used = ap (λ (e : Entry). e.used) same in
    omega (arith, few, count, most, uses)

-- in a legal history of valid steps, so few that there is a next number
pub uses_are_few : (h : History) (inc instant : ℕ) (entry : Entry) → IsLegal calendar h → AllValid h → EntriesCount → AttemptsAreAllowed
    → Some entry ≡ option_map {T = Filed} (λ f. f.entry) (filed (ledger_of h) inc instant) → entry.used ≤ 186
uses_are_few h inc instant entry legal valid counts most is =
    few_used (filed (ledger_of h) inc instant) entry (used (ledger_of h) inc instant) (few_retries calendar h legal valid inc instant)
    (counts calendar h legal inc instant) (most calendar h legal inc instant) is

-- ---- what a shard asks for is of an entry

asked_there : (o : Option Filed) (question : Filed → Option Work) (w : Work) → option_and_then question o ≡ Some w → is_some o ≡ true
asked_there None question w e = absurd cc
asked_there (Some f) question w e = refl

pub begin_has_entry : (h : History) (shard t inc instant : ℕ) → work (seen calendar h) shard t ≡ works.Begin inc instant → HasEntry inc instant h
begin_has_entry h shard t inc instant w =
    asked_there (filed (ledger_of h) inc instant) _ (works.Begin inc instant) (asks_begin calendar h shard t inc instant w)
