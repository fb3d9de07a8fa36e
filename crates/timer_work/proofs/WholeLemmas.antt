-- What is left of a sweep can be done; whole sweeps, and those that were cut.
use Rattle.std.proofs.Common.{◌≡◌, ℕ, suc, ◌+◌, ◌-◌, ◌<◌, ◌≤◌, Option, None, Some, List, [], ◌∷◌, ◌++◌, Ok, refl, ap, sym, subst, inl, inr, arith}
use Rattle.std.proofs.lemmas.List.{append-nil}
use Rattle.plain_words.specs.declared.limits.TheConstants.{SHARDS}
use Rattle.plain_words.specs.declared.verdict.Verdict.TheVariants as verdicts
use Rattle.plain_words.specs.Lists.{numbers}
use Rattle.plain_words.specs.Moments.{moment_of}
use Rattle.policy_rules.specs.Given.{Gives}
use Rattle.sched_plain.specs.declared.step.Step.{Step}
use Rattle.sched_plain.specs.declared.step.Step.TheVariants as steps
use Rattle.sched_plain.specs.History.{History, ◌upon◌, count, Extends, as_it_was, with_step}
use Rattle.sched_plain.specs.Moments.{moment}
use Rattle.sched_plain.proofs.HistoryLemmas.{extends_through}
use Rattle.sched_calls.specs.declared.reply.Reply.TheVariants as replies
use Rattle.sched_calls.specs.Serves.{End, Finds, Sweeps, swept, next_shard, all_shards, taking_of, release_of}
use Rattle.sweep_laws.specs.EndLaws.{firsts, WorkedOut, SweptOut, SweepRest}
use Rattle.sweep_laws.specs.RestLaws.{NoneLive}
use Rattle.sweep_laws.specs.KeptLaws.{NoOtherHolds}
use Rattle.sweep_laws.proofs.Rest.{none_taken}
use Rattle.sweep_laws.proofs.WorkedOut.{work_ends, sweeps_end}
use Rattle.book_parts.specs.Stands.{calendar}
use Rattle.durable_book.specs.declared.grow_fault.GrowFault.{GrowFault}
use Rattle.durable_book.specs.declared.grow_fault.GrowFault.TheVariants as faults
use Rattle.target_link.specs.declared.link.Sent.{Sent}
use Rattle.timer_work.specs.Swept.{IsFree, SweepsAll, CutsSweep}
use Rattle.timer_work.specs.Going.{Outside, Went, Stopped}
use Rattle.timer_work.specs.Places.{Place, Before, AtWork, InAttempt, Unreleased, Rest, Fit, IsAt, IsUnfinished}
use Rattle.timer_work.proofs.GivenLemmas.{gives_nothing}
use Rattle.timer_work.proofs.SendLemmas.{sends_nothing}

-- the shards that are left
pub next_left : (n : ℕ) → n < SHARDS → numbers n (SHARDS - n) ≡ n ∷ numbers (n + 1) (SHARDS - (n + 1))
next_left n lt = let e : SHARDS - n ≡ suc (SHARDS - (n + 1)) = omega arith in ap (numbers n) e

pub none_left : (n : ℕ) → SHARDS ≤ n → numbers n (SHARDS - n) ≡ []
none_left n le = let e : SHARDS - n ≡ 0 = omega arith in ap (numbers n) e

-- over such a history a sweep may begin
pub fit_first : (t : ℕ) (shards : List ℕ) (h : History) → NoOtherHolds h t → moment h ≤ t → Fit t (Before shards) h
fit_first t shards h free early = record { free = free; early = early; at_place = tt; taken = tt }

counted : {h after : History} → Extends h after → count h ≤ count after
counted as_it_was = omega arith
counted (with_step s more) = let le = counted more in omega (arith, le)

-- what is left at a place, to its end: there is a step of it at least
record Finish (t : ℕ) (p : Place) (h : History) : Type 0 where
  whole : History
  words : List ℕ
  ends : List End
  rest : Rest t p h words ends whole
  part : Extends h whole
  longer : count h < count whole

-- the words and ends of a rest are any
abbrev no_words : ℕ → ℕ
no_words n = 0

abbrev no_ends : ℕ → End
no_ends n = (verdicts.Retry, 0)

-- a sweep behind some steps
behind_steps : (t : ℕ) (p : Place) (shards : List ℕ) (h later : History) → Extends h later → count h < count later
    → ((words : List ℕ) (ends : List End) (last : History) → Sweeps calendar t shards later words ends last [] [] → Rest t p h words ends last)
    → Finish t p h
behind_steps t p shards h later part longer makes =
    let rest : SweptOut calendar t shards later no_words no_ends = sweeps_end calendar t shards later no_words no_ends in
    let more = counted rest.took.from in
    record {
      whole = rest.after;
      words = firsts rest.drew no_words ++ [];
      ends = firsts rest.many no_ends ++ [];
      rest = makes _ _ rest.after (rest.done [] []);
      part = extends_through part rest.took.from;
      longer = omega (arith, longer, more);
    }

-- at the work of a shard
finish_shard : (t shard : ℕ) (shards : List ℕ) (h : History) → NoneLive h shard → Finish t (AtWork shard shards) h
finish_shard t shard shards h none =
    let worked : WorkedOut calendar t shard h no_words no_ends = work_ends calendar t shard h no_words no_ends none in
    let swept_ : Step = steps.Swept (moment_of t) shard in
    let released : Step = release_of worked.after t shard in
    let rest : SweptOut calendar t shards (released upon swept_ upon worked.after) no_words no_ends = sweeps_end calendar t shards (released upon swept_ upon worked.after) no_words no_ends in
    let words = firsts rest.drew no_words ++ [] in
    let ends = firsts rest.many no_ends ++ [] in
    let done : SweepRest calendar t shard shards h (firsts worked.drew no_words ++ words) (firsts worked.many no_ends ++ ends) rest.after [] [] =
    record { mid = worked.after; some_left = words; some_ends = ends; worked = worked.done words ends; swept = rest.done [] [] } in
    let one = counted worked.took.from in
    let two = counted rest.took.from in
    record {
      whole = rest.after;
      words = firsts worked.drew no_words ++ words;
      ends = firsts worked.many no_ends ++ ends;
      rest = done;
      part = extends_through (extends_through worked.took.from (with_step released (with_step swept_ as_it_was))) rest.took.from;
      longer = omega (arith, one, two);
    }

-- before a shard
finish_before : (t shard : ℕ) (shards : List ℕ) (h : History) → Finish t (Before (shard ∷ shards)) h
finish_before t shard shards h =
    let taken = finish_shard t shard shards (taking_of h t shard upon h) (none_taken h t shard) in
    let more = taken.longer in
    record {
      whole = taken.whole;
      words = taken.words;
      ends = taken.ends;
      rest = next_shard taken.rest.worked taken.rest.swept;
      part = extends_through (with_step (taking_of h t shard) as_it_was) taken.part;
      longer = omega (arith, more);
    }

-- in an attempt
finish_attempt : (t inc instant number shard : ℕ) (shards : List ℕ) (h : History) → IsAt t (InAttempt inc instant number shard shards) h
    → Finish t (InAttempt inc instant number shard shards) h
finish_attempt t inc instant number shard shards h at =
    let end : End = (verdicts.Retry, 0) in
    let ended : Step = steps.End (moment_of t) inc instant number end.0 end.1 in
    let left = finish_shard t shard shards (ended upon h) (at end) in
    let more = left.longer in
    record {
      whole = left.whole;
      words = left.words;
      ends = end ∷ left.ends;
      rest = record { end = end; ends_left = left.ends; taken = refl; shard_left = left.rest };
      part = extends_through (with_step ended as_it_was) left.part;
      longer = omega (arith, more);
    }

finish : (t : ℕ) (p : Place) (h : History) → IsAt t p h → IsUnfinished p → Finish t p h
finish t (Before []) h at left = absurd left
finish t (Before (shard ∷ shards)) h at left = finish_before t shard shards h
finish t (AtWork shard shards) h at left = finish_shard t shard shards h at
finish t (InAttempt inc instant number shard shards) h at left = finish_attempt t inc instant number shard shards h at
finish t (Unreleased shard shards) h at left =
    behind_steps t (Unreleased shard shards) shards h (release_of h t shard upon h) (with_step (release_of h t shard) as_it_was) (omega arith) (λ words ends last s. s)

-- a history with fewer steps is another one
fewer_other : (h whole : History) → count h < count whole → h ≡ whole → ⊥
fewer_other h whole less same = let e = ap count same in omega (arith, less, e)

-- a sweep that stopped is cut short: the rest of it could follow
pub cut_off : (Held : History → Type 0) (full : Step → ℕ → ℕ → Type 0) (fault : GrowFault) (doubt : Option Step) (t : ℕ) (h found : History) (old new : Outside)
    → Finds h doubt found → Stopped Held full fault t (Before all_shards) found old new
    → (after : History) × Held after × CutsSweep full doubt t old.words new.words old.sent new.sent fault h after
cut_off Held full fault doubt t h found old new finds s =
    let f : Finish t s.place s.after = finish t s.place s.after s.fit.at_place s.unfinished in
    let sweeps : Sweeps calendar t all_shards found (s.leads.words ++ f.words) (s.leads.ends ++ f.ends) f.whole [] [] = s.leads.onward f.words f.ends f.whole f.rest in (
      s.after,
      s.stands,
      record {
        found = found;
        finds = finds;
        words = s.leads.words;
        dropped = s.dropped;
        ends = s.leads.ends;
        part = inr (record {
          cut = record {
            whole = f.whole;
            more_words = f.words;
            more_ends = f.ends;
            answer = Ok (replies.Settled (moment_of t));
            served = (sweeps, refl);
            from = s.leads.from;
            part = f.part;
            words_drawn = s.leads.drawn;
            ends_taken = s.leads.taken;
          };
          short = inr (fewer_other s.after f.whole f.longer);
        });
        draws = record { gives = s.gives; drew = s.leads.drawn; few = s.few };
        sends = s.sends;
        free = s.fit.free;
        cause = s.cause;
      },
    )

-- a sweep that came behind all shards is whole
pub swept_whole : (Stands : History → Type 0) (doubt : Option Step) (t : ℕ) (h found : History) (old new : Outside)
    → Finds h doubt found → Went Stands t (Before all_shards) found old (Before []) new
    → (after : History) × Stands after × SweepsAll doubt t old.words new.words old.sent new.sent h after
swept_whole Stands doubt t h found old new finds w =
    let rest : Sweeps calendar t all_shards found (w.leads.words ++ []) (w.leads.ends ++ []) w.after [] [] = w.leads.onward [] [] w.after swept in
    let sweeps : Sweeps calendar t all_shards found w.leads.words w.leads.ends w.after [] [] =
    subst (λ (ws : List ℕ). Sweeps calendar t all_shards found ws w.leads.ends w.after [] []) (append-nil w.leads.words)
    (subst (λ (es : List End). Sweeps calendar t all_shards found (w.leads.words ++ []) es w.after [] []) (append-nil w.leads.ends) rest) in (
      w.after,
      w.stands,
      record {
        found = found;
        finds = finds;
        words = w.leads.words;
        ends = w.leads.ends;
        swept = sweeps;
        draws = record {
          gives = subst (λ (ws : List ℕ). Gives old.words ws new.words) (sym (append-nil w.leads.words)) w.gives;
          drew = w.leads.drawn;
          few = omega arith;
        };
        sends = w.sends;
        free = w.fit.free;
      },
    )

-- what was found may be the history as it was
unsettled : (doubt : Option Step) (h : History) → Finds h doubt h
unsettled None h = refl
unsettled (Some s) h = inl refl

-- a sweep that could not begin is cut before its first step
pub cut_first : (Held : History → Type 0) (full : Step → ℕ → ℕ → Type 0) (doubt : Option Step) (t : ℕ) (h : History) (words : Option (List ℕ)) (sent : Option (List Sent))
    → IsFree doubt t h → Held h → (after : History) × Held after × CutsSweep full doubt t words words sent sent faults.DiskFault h after
cut_first Held full doubt t h words sent free held =
    let finds = unsettled doubt h in (
      h,
      held,
      record {
        found = h;
        finds = finds;
        words = [];
        dropped = [];
        ends = [];
        part = inl refl;
        draws = record { gives = gives_nothing words; drew = omega arith; few = omega arith };
        sends = sends_nothing h h sent (λ before r. r);
        free = free h finds;
        cause = tt;
      },
    )
