-- What leaves no attempt of a shard in the air, and that none is waited for then.
use Rattle.std.proofs.Common.{◌≡◌, ℕ, ◌+◌, Bool, true, false, Option, Some, None, [], ◌∷◌, ◌++◌, length, refl, ap, sym, ◌∙◌, eq-eqb}
use Rattle.std.specs.Prelude.{◌==◌, ◌&&◌, nat_lt, if◌then◌else◌}
use Rattle.std.specs.List.{find}
use Rattle.std.specs.Option.{option_map, option_and_then}
use Rattle.sched_plain.specs.declared.entry.Filed.{Filed}
use Rattle.sched_plain.specs.declared.entry.Last.{Last}
use Rattle.sched_plain.specs.declared.entry.Last.TheVariants as lasts
use Rattle.sched_plain.specs.declared.schedule.Policy.{Policy}
use Rattle.sched_plain.specs.declared.standing.Standing.TheVariants as standings
use Rattle.sched_plain.specs.declared.step.Pair.{Pair}
use Rattle.sched_plain.specs.declared.outcome.Outcome.{Outcome}
use Rattle.sched_plain.specs.declared.outcome.Reason.TheVariants as reasons
use Rattle.plain_words.specs.declared.verdict.Verdict.{Verdict}
use Rattle.plain_words.specs.declared.verdict.Verdict.TheVariants as verdicts
use Rattle.sched_plain.specs.declared.work.Work.{Work}
use Rattle.sched_plain.specs.declared.work.Work.TheVariants as works
use Rattle.plain_words.specs.Ids.{shard_of}
use Rattle.plain_words.specs.Lists.{some_pass, or_else, only_if, first_some, first_answer, when}
use Rattle.sched_plain.specs.Changes.{changes_of}
use Rattle.sched_plain.specs.Rows.{rows_of}
use Rattle.sched_plain.specs.Leases.{holder, is_taking}
use Rattle.sched_plain.specs.Ledger.{Lost, ledger_of, policy_of}
use Rattle.sched_plain.specs.Entries.{entries, filed, new_entry, changed_if, on_entry, with_begin, with_end, with_loss, lost_last, decided_as, outcome_of}
use Rattle.sched_plain.specs.Attempts.{is_live_last}
use Rattle.sched_plain.specs.Standing.{or_due, is_used_up, is_past_age, earliest}
use Rattle.sched_plain.specs.Seen.{seen}
use Rattle.sched_plain.specs.Work.{live_of, waited_for}
use Rattle.sweep_laws.specs.RestLaws.{TakingsRest, EntersRest, ClosesRest, AttemptsRest, CompletesRest, RestingNeverWaits}
use Rattle.sweep_laws.proofs.Found.{work_found, answer_is, shard_answer}

-- the last attempt of what is filed is in the air
abbrev in_air : Option Filed → Bool
in_air filed = some_pass (λ (f : Filed). is_live_last f.entry.last) filed

-- a loss leaves nothing in the air
lost_last_rests : (at : ℕ) (last : Last) → is_live_last (lost_last at last) ≡ false
lost_last_rests at lasts.NoAttempt = refl
lost_last_rests at (lasts.Live begun) = refl
lost_last_rests at (lasts.Lost lost) = refl
lost_last_rests at (lasts.Ended ended) = refl

lost_rests : (at : ℕ) (o : Option Filed) → in_air (changed_if true (with_loss at) o) ≡ false
lost_rests at None = refl
lost_rests at (Some f) = lost_last_rests at f.entry.last

pub none_taken : TakingsRest
none_taken h t shard = λ inc instant same.
    let taking : is_taking (holder h shard) ((holder h shard).epoch + 1) ≡ true = eq-eqb ((holder h shard).epoch + 1) ((holder h shard).epoch + 1) refl in
    let here : (shard_of inc == shard) ≡ true = eq-eqb (shard_of inc) shard same in
    ap (λ (b : Bool). in_air (filed (only_if b (Lost (Some shard) t) ++ ledger_of h) inc instant)) taking
    ∙ ap (λ (b : Bool). in_air (changed_if b (with_loss t) (filed (ledger_of h) inc instant))) here
    ∙ lost_rests t (filed (ledger_of h) inc instant)

-- new entries rest
new_rests : (policy : Policy) (o : Option Pair) → in_air (option_map {T = Pair} (λ pair. record { entry = new_entry pair.chosen; policy = policy }) o) ≡ false
new_rests policy None = refl
new_rests policy (Some pair) = refl

entered_rests : (same : Bool) (old new : Option Filed) → in_air old ≡ false → in_air new ≡ false → in_air (if same then or_else old new else old) ≡ false
entered_rests true None new e f = f
entered_rests true (Some g) new e f = e
entered_rests false old new e f = e

pub none_entered : EntersRest
none_entered h t of shard pairs none = λ inc instant same.
    entered_rests (inc == of) (filed (ledger_of h) inc instant) _ (none inc instant same)
    (new_rests (policy_of (rows_of (changes_of h)) of pairs) (find (λ (pair : Pair). instant == pair.instant) pairs))

-- a close leaves the attempts
decided_rests : (b : Bool) (outcome : Outcome) (o : Option Filed) → in_air o ≡ false → in_air (changed_if b (decided_as outcome) o) ≡ false
decided_rests true outcome None e = e
decided_rests true outcome (Some f) e = e
decided_rests false outcome o e = e

pub none_closed : ClosesRest
none_closed h t of at shard reason none = λ inc instant same.
    decided_rests (inc == of && instant == at) (outcome_of reason) (filed (ledger_of h) inc instant) (none inc instant same)

-- an attempt that is begun and ended is not in the air
end_rests : (verdict : Verdict) (at : ℕ) (f : Filed) → in_air (Some (on_entry (with_end verdict at) f)) ≡ false
end_rests verdicts.Done at f = refl
end_rests verdicts.Retry at f = refl
end_rests verdicts.Final at f = refl

ended_rests : (b : Bool) (verdict : Verdict) (at : ℕ) (o : Option Filed) → in_air o ≡ false
    → in_air (changed_if b (with_end verdict at) (changed_if b (with_begin at) o)) ≡ false
ended_rests true verdict at None e = e
ended_rests true verdict at (Some f) e = end_rests verdict at (on_entry (with_begin at) f)
ended_rests false verdict at o e = e

pub none_attempted : AttemptsRest
none_attempted h t of at shard end none = λ inc instant same.
    ended_rests (inc == of && instant == at) end.0 t (filed (ledger_of h) inc instant) (none inc instant same)

pub none_completed : CompletesRest
none_completed h t of shard none = none

-- ---- none is waited for

rests : (inc instant : ℕ) (o : Option Outcome) (live used old : Bool) (early : Bool) (until : ℕ) → live ≡ false
    → waited_for inc instant (or_due (first_some (option_map standings.Decided o ∷ when live standings.Live ∷ when used (standings.Exhausted reasons.Attempts) ∷ when old (standings.Exhausted reasons.Age) ∷ when early (standings.Waiting until) ∷ []))) ≡ None
rests inc instant (Some outcome) live used old early until e = refl
rests inc instant None true used old early until e = absurd cc
rests inc instant None false true old early until e = refl
rests inc instant None false false true early until e = refl
rests inc instant None false false false true until e = refl
rests inc instant None false false false false until e = refl

not_waited : (t inc instant : ℕ) (o : Option Filed) → in_air o ≡ false → option_and_then (live_of t inc instant) o ≡ None
not_waited t inc instant None e = refl
not_waited t inc instant (Some f) e =
    rests inc instant f.entry.outcome (is_live_last f.entry.last) (is_used_up f.entry f.policy) (is_past_age f.entry f.policy t) (nat_lt t (earliest f.entry)) (earliest f.entry) e

nothing_there : (o : Option Work) (w : Work) → o ≡ None → o ≡ Some w → ⊥
nothing_there None w e found = absurd cc
nothing_there (Some x) w e found = absurd cc

pub never_waits : RestingNeverWaits
never_waits c h shard t of at none w =
    let calls = ledger_of h in
    shard_answer (λ (x : Work). ⊥) (λ inc. first_answer {A = Pair} (λ pair. option_and_then (live_of t inc pair.instant) (filed calls inc pair.instant)) (entries calls inc))
    shard (length (rows_of (changes_of h))) (works.Live of at)
    (λ inc is. answer_is {A = Pair} (λ (x : Work). ⊥) (λ pair. option_and_then (live_of t inc pair.instant) (filed calls inc pair.instant)) (entries calls inc) (works.Live of at)
    (λ pair. nothing_there (option_and_then (live_of t inc pair.instant) (filed calls inc pair.instant)) (works.Live of at)
    (not_waited t inc pair.instant (filed calls inc pair.instant) (none inc pair.instant (sym is.mine)))))
    (work_found (seen c h) shard t (works.Live of at) w)
