-- What a step that leaves schedules, dates and letters makes of what the parts stand for.
use Rattle.std.proofs.Common.{◌≡◌, ℕ, zero, suc, ◌+◌, ◌<◌, ◌==◌, Option, Some, None, List, [], ◌∷◌, ◌++◌, Bool, true, refl, ap, sym, ◌∙◌, length, arith, slice_set, subst}
use Rattle.std.specs.Prelude.{if◌then◌else◌, get_or}
use Rattle.std.proofs.lemmas.List.{get_or-set_same, get_or-set_other}
use Rattle.std.proofs.lemmas.Bool.Decides.{nat_tests}
use Rattle.plain_words.proofs.Booleans.{by_bool}
use Rattle.plain_words.specs.Lists.{first_some, only_if, same_text}
use Rattle.plain_words.specs.declared.moment.Moment.{Moment}
use Rattle.plain_words.specs.declared.limits.TheConstants.{SHARDS}
use Rattle.sched_plain.specs.declared.step.Step.{Step}
use Rattle.sched_plain.specs.declared.step.Step.TheVariants as steps
use Rattle.sched_plain.specs.declared.holder.Holder.{Holder}
use Rattle.sched_plain.specs.Leases.{holder, is_taking}
use Rattle.sched_plain.specs.Ledger.{LedgerCall, Lost, ledger_of}
use Rattle.sched_plain.specs.Rules.{lease_table, release_table}
use Rattle.next_dates.specs.StepLaws.{NextStays}
use Rattle.work_order.specs.FinishedLaws.{FinishedStays}
use Rattle.policy_rules.specs.Shards.{holder_at, Follows}
use Rattle.ledger_rows.specs.State.{State as LedgerState, Stands as LedgerStands}
use Rattle.zone_shelf.specs.Places.{Places, bytes_in}
use Rattle.book_tenures.proofs.RuleLemmas.{rest_none}
use Rattle.book_parts.specs.Told.{Told}
use Rattle.book_parts.specs.Stands.{Takes, calendar}

set_at : (xs : List (Option Moment)) (shard of : ℕ) (at : Moment) → shard < length xs
    → get_or (slice_set xs shard (Some at)) of None ≡ (if of == shard then Some at else get_or xs of None)
set_at xs shard of at within =
    by_bool (λ b. get_or (slice_set xs shard (Some at)) of None ≡ (if b then Some at else get_or xs of None)) (of == shard)
    (λ same. let e : of ≡ shard = grind (arith, nat_tests, same) in
    ap (λ (n : ℕ). get_or (slice_set xs shard (Some at)) n None) e ∙ get_or-set_same xs shard (Some at) None within)
    (λ other. get_or-set_other xs shard of (Some at) None (λ e. let t : (of == shard) ≡ true = grind (arith, nat_tests, e) in cc (t, other)))

abbrev nones : ℕ → List (Option Moment)
nones zero = []
nones (suc k) = None ∷ nones k

none_in : (k n : ℕ) → get_or (nones k) n None ≡ None
none_in zero n = refl
none_in (suc k) zero = refl
none_in (suc k) (suc n) = none_in k n

-- no shard of the eight is swept
pub none_swept : (n : ℕ) → get_or {A = Option Moment} (None ∷ None ∷ None ∷ None ∷ None ∷ None ∷ None ∷ None ∷ []) n None ≡ None
none_swept = none_in 8

-- a step upon parts that are the same
pub along : {b old : Told} (new : Told) (s : Step) → b ≡ old → Takes b new s → Takes old new s
along new s same taken = subst (λ (o : Told). Takes o new s) same taken

pub swept_taken : NextStays → FinishedStays → (b : Told) (at : Moment) (shard : ℕ) → shard < length b.swept
    → Takes b (record {
      moment = at.0;
      steps = b.steps + 1;
      swept = slice_set b.swept shard (Some at);
      holders = b.holders;
      zones = b.zones;
      rows = b.rows;
      ledger = b.ledger;
      shelf = b.shelf;
      letters = b.letters;
      next = b.next;
      finished = b.finished;
    }) (steps.Swept at shard)
swept_taken next_stays finished_stays b at shard within h st may = record {
  legal = (st.legal, may);
  moment = refl;
  steps = ap (λ n. n + 1) st.steps;
  swept = λ of of_shards.
      set_at b.swept shard of at within ∙ ap (λ (o : Option Moment). if of == shard then Some at else o) (st.swept of of_shards);
  holders = st.holders;
  zones = st.zones;
  rows = st.rows;
  ledger = st.ledger;
  shelf = st.shelf;
  letters = st.letters;
  next = λ inc. st.next inc ∙ sym (next_stays calendar h (steps.Swept at shard) st.legal may inc refl);
  finished = λ inc. st.finished inc ∙ sym (finished_stays calendar h (steps.Swept at shard) st.legal may inc refl);
}

pub release_taken : NextStays → FinishedStays → (b : Told) (at : Moment) (shard worker epoch : ℕ) (holders : List Holder) → shard < SHARDS
    → (first_some (release_table (holder_at b.holders shard) worker epoch) ≡ None → (t : Moment) → Follows (steps.Release t shard worker epoch) b.holders holders)
    → Takes b (record {
      moment = at.0;
      steps = b.steps + 1;
      swept = b.swept;
      holders = holders;
      zones = b.zones;
      rows = b.rows;
      ledger = b.ledger;
      shelf = b.shelf;
      letters = b.letters;
      next = b.next;
      finished = b.finished;
    }) (steps.Release at shard worker epoch)
release_taken next_stays finished_stays b at shard worker epoch holders of_shards frees h st may = record {
  legal = (st.legal, may);
  moment = refl;
  steps = ap (λ n. n + 1) st.steps;
  swept = st.swept;
  holders =
      frees (ap (λ (held : Holder). first_some (release_table held worker epoch)) (st.holders shard of_shards) ∙ rest_none _ (release_table (holder h shard) worker epoch) may)
      at h st.holders;
  zones = st.zones;
  rows = st.rows;
  ledger = st.ledger;
  shelf = st.shelf;
  letters = st.letters;
  next = λ inc. st.next inc ∙ sym (next_stays calendar h (steps.Release at shard worker epoch) st.legal may inc refl);
  finished = λ inc. st.finished inc ∙ sym (finished_stays calendar h (steps.Release at shard worker epoch) st.legal may inc refl);
}

pub lease_taken : NextStays → FinishedStays → (b : Told) (at : Moment) (shard worker epoch until minute : ℕ) (holders : List Holder) (ledger : LedgerState) (taking : Bool)
    → shard < SHARDS → until ≡ minute → taking ≡ is_taking (holder_at b.holders shard) epoch
    → (first_some (lease_table (holder_at b.holders shard) at.0 worker epoch) ≡ None → Follows (steps.Lease at shard worker epoch minute) b.holders holders)
    → ((calls : List LedgerCall) → LedgerStands b.ledger calls → LedgerStands ledger (only_if taking (Lost (Some shard) at.0) ++ calls))
    → Takes b (record {
      moment = at.0;
      steps = b.steps + 1;
      swept = b.swept;
      holders = holders;
      zones = b.zones;
      rows = b.rows;
      ledger = ledger;
      shelf = b.shelf;
      letters = b.letters;
      next = b.next;
      finished = b.finished;
    }) (steps.Lease at shard worker epoch until)
lease_taken next_stays finished_stays b at shard worker epoch until minute holders ledger taking of_shards lasts takes holds loses h st may = record {
  legal = (st.legal, may);
  moment = refl;
  steps = ap (λ n. n + 1) st.steps;
  swept = st.swept;
  holders = subst (λ (u : ℕ). Follows (steps.Lease at shard worker epoch u) b.holders holders) (sym lasts)
      (holds (ap (λ (held : Holder). first_some (lease_table held at.0 worker epoch)) (st.holders shard of_shards) ∙ rest_none _ (lease_table (holder h shard) at.0 worker epoch) may))
      h st.holders;
  zones = st.zones;
  rows = st.rows;
  ledger =
      let same : taking ≡ is_taking (holder h shard) epoch = takes ∙ ap (λ (held : Holder). is_taking held epoch) (st.holders shard of_shards) in
      subst (λ (b : Bool). LedgerStands ledger (only_if b (Lost (Some shard) at.0) ++ ledger_of h)) same (loses (ledger_of h) st.ledger);
  shelf = st.shelf;
  letters = st.letters;
  next = λ inc. st.next inc ∙ sym (next_stays calendar h (steps.Lease at shard worker epoch until) st.legal may inc refl);
  finished = λ inc. st.finished inc ∙ sym (finished_stays calendar h (steps.Lease at shard worker epoch until) st.legal may inc refl);
}

pub boot_taken : NextStays → FinishedStays → (b : Told) (at : Moment) (swept : List (Option Moment)) (holders : List Holder) (ledger : LedgerState)
    → ((shard : ℕ) → get_or swept shard None ≡ None) → ((t : Moment) → Follows (steps.Boot t) b.holders holders)
    → ((calls : List LedgerCall) → LedgerStands b.ledger calls → LedgerStands ledger (Lost None at.0 ∷ calls))
    → Takes b (record {
      moment = at.0;
      steps = b.steps + 1;
      swept = swept;
      holders = holders;
      zones = b.zones;
      rows = b.rows;
      ledger = ledger;
      shelf = b.shelf;
      letters = b.letters;
      next = b.next;
      finished = b.finished;
    }) (steps.Boot at)
boot_taken next_stays finished_stays b at swept holders ledger unswept frees loses h st may = record {
  legal = (st.legal, may);
  moment = refl;
  steps = ap (λ n. n + 1) st.steps;
  swept = λ shard of_shards. unswept shard;
  holders = frees at h st.holders;
  zones = st.zones;
  rows = st.rows;
  ledger = loses (ledger_of h) st.ledger;
  shelf = st.shelf;
  letters = st.letters;
  next = λ inc. st.next inc ∙ sym (next_stays calendar h (steps.Boot at) st.legal may inc refl);
  finished = λ inc. st.finished inc ∙ sym (finished_stays calendar h (steps.Boot at) st.legal may inc refl);
}

pub zone_taken : NextStays → FinishedStays → (b : Told) (at : Moment) (name bytes : List ℕ) (zones : Places)
    → ((q : List ℕ) → bytes_in zones q ≡ (if same_text q name then Some bytes else bytes_in b.zones q))
    → Takes b (record {
      moment = at.0;
      steps = b.steps + 1;
      swept = b.swept;
      holders = b.holders;
      zones = zones;
      rows = b.rows;
      ledger = b.ledger;
      shelf = b.shelf;
      letters = b.letters;
      next = b.next;
      finished = b.finished;
    }) (steps.Zone at name bytes)
zone_taken next_stays finished_stays b at name bytes zones added h st may = record {
  legal = (st.legal, may);
  moment = refl;
  steps = ap (λ n. n + 1) st.steps;
  swept = st.swept;
  holders = st.holders;
  zones = λ q. added q ∙ ap (λ (o : Option (List ℕ)). if same_text q name then Some bytes else o) (st.zones q);
  rows = st.rows;
  ledger = st.ledger;
  shelf = st.shelf;
  letters = st.letters;
  next = λ inc. st.next inc ∙ sym (next_stays calendar h (steps.Zone at name bytes) st.legal may inc refl);
  finished = λ inc. st.finished inc ∙ sym (finished_stays calendar h (steps.Zone at name bytes) st.legal may inc refl);
}
