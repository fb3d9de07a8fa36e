-- The work of a shard by dates.
use Rattle.std.proofs.Common.{◌≡◌, ℕ, nat_le, Bool, true, false, cond, Option, Some, None, List, [], ◌∷◌, find, option_map, refl, ap, ap₂, ◌∙◌}
use Rattle.sched_plain.specs.declared.work.Work.{Work}
use Rattle.sched_plain.specs.declared.work.Work.TheVariants as works
use Rattle.plain_words.specs.Lists.{first_some, first_answer, or_else, when}
use Rattle.sched_plain.specs.Seen.{seen}
use Rattle.sched_plain.specs.Work.{Occurrence, first_open, completable, act_of, live_of, first_entry, or_settled}
use Rattle.next_dates.specs.Dates.{has_come, come_by}
use Rattle.next_dates.specs.NextInstants.{next_instant}
use Rattle.next_dates.proofs.NextComing.{next_comes}
use Rattle.work_order.specs.Finished.{finished_from}
use Rattle.work_order.specs.DateLaws.{FirstOpenByDates, WorksByDates, shard_incs}
use Rattle.work_order.proofs.Completed.{completes}

pub first_open_dated : FirstOpenByDates
first_open_dated c h legal t incs =
    λ k. first_answer (λ inc. option_map {T = ℕ} (λ n. record { inc = inc; instant = n }) (next_comes c h legal inc t k)) incs

-- the occurrence of a date that has come
abbrev come_at : ℕ → ℕ → Option ℕ → Option Occurrence
come_at t inc date = option_map {T = ℕ} (λ n. record { inc = inc; instant = n }) (come_by t date)

-- one incarnation before the others
one_entered : (b : Bool) (inc n : ℕ) (rest : Option Occurrence) (found : Option ℕ)
    → option_map (λ o. works.Enter o.inc) rest ≡ option_map works.Enter found
    → option_map {T = Occurrence} (λ o. works.Enter o.inc) (or_else (option_map {T = ℕ} (λ m. record { inc = inc; instant = m }) (when b n)) rest)
    ≡ option_map works.Enter (cond b (Some inc) found)
one_entered true inc n rest found same = refl
one_entered false inc n rest found same = same

entered_by : (t inc : ℕ) (date : Option ℕ) (rest : Option Occurrence) (found : Option ℕ)
    → option_map (λ o. works.Enter o.inc) rest ≡ option_map works.Enter found
    → option_map {T = Occurrence} (λ o. works.Enter o.inc) (or_else (come_at t inc date) rest)
    ≡ option_map works.Enter (cond (has_come t date) (Some inc) found)
entered_by t inc None rest found same = same
entered_by t inc (Some n) rest found same = one_entered (nat_le n t) inc n rest found same

-- the first whose date has come is entered
enter_found : (dates : ℕ → Option ℕ) (t : ℕ) (incs : List ℕ)
    → option_map {T = Occurrence} (λ o. works.Enter o.inc) (first_answer (λ inc. come_at t inc (dates inc)) incs)
    ≡ option_map works.Enter (find (λ inc. has_come t (dates inc)) incs)
enter_found dates t [] = refl
enter_found dates t (inc ∷ incs) =
    entered_by t inc (dates inc) (first_answer (λ i. come_at t i (dates i)) incs) (find (λ i. has_come t (dates i)) incs) (enter_found dates t incs)

one_found : (b : Bool) (inc : ℕ) (rest : Option Work) (found : Option ℕ) → rest ≡ option_map works.Complete found
    → or_else (when b (works.Complete inc)) rest ≡ option_map works.Complete (cond b (Some inc) found)
one_found true inc rest found same = refl
one_found false inc rest found same = same

-- the first that passes is completed
complete_found : (test : ℕ → Bool) (incs : List ℕ)
    → first_answer (λ inc. when (test inc) (works.Complete inc)) incs ≡ option_map works.Complete (find test incs)
complete_found test [] = refl
complete_found test (inc ∷ incs) =
    one_found (test inc) inc (first_answer (λ i. when (test i) (works.Complete i)) incs) (find test incs) (complete_found test incs)

pub works_dated : WorksByDates
works_dated c h legal shard t =
    let incs = shard_incs h shard in
    let enter : option_map {T = Occurrence} (λ o. works.Enter o.inc) (first_open (seen c h).times t incs)
    ≡ option_map works.Enter (find (λ inc. has_come t (next_instant c h inc)) incs) =
    ap (option_map {T = Occurrence} (λ o. works.Enter o.inc)) (first_open_dated c h legal t incs) ∙ enter_found (next_instant c h) t incs in
    let complete : first_answer (λ inc. when (completable (seen c h) inc t) (works.Complete inc)) incs
    ≡ option_map works.Complete (find (λ inc. has_come t (finished_from c h inc)) incs) =
    (λ k. first_answer (λ inc. when (completes c h legal inc t k) (works.Complete inc)) incs)
    ∙ complete_found (λ inc. has_come t (finished_from c h inc)) incs in
    ap₂ (λ one two. or_settled (first_some (
    one ∷ first_entry (seen c h).ledger (act_of t) incs ∷ two ∷ first_entry (seen c h).ledger (live_of t) incs ∷ []))) enter complete
