-- Serving only adds to a history: by induction over what serving is.
use Rattle.std.proofs.Common.{◌≡◌, ℕ, Option, Some, None, Result, Ok, Err, List, [], ◌∷◌, ◌++◌, length-append, refl, ap, sym, subst, ◌∙◌, arith, inl, inr, add-zero, append_assoc}
use Rattle.sched_calls.specs.declared.call.Call.TheVariants as calls
use Rattle.sched_calls.specs.declared.reply.Refusal.{Refusal}
use Rattle.sched_calls.specs.declared.reply.Reply.{Reply}
use Rattle.sched_plain.specs.declared.step.Step.{Step}
use Rattle.sched_plain.specs.declared.step.Step.TheVariants as steps
use Rattle.sched_plain.specs.declared.write.Write.{Write}
use Rattle.expressions.specs.Calendar.{Calendar}
use Rattle.sched_plain.specs.History.{History, ◌upon◌, Extends, as_it_was, with_step}
use Rattle.sched_plain.specs.Moments.{moment_of}
use Rattle.sched_plain.proofs.HistoryLemmas.{extends_through}
use Rattle.sched_calls.specs.Serves.{End, ZoneSource, CatchUp, caught_up, next_incarnation, enters_first, Works, settled, enters, closes, begins, completes, Sweeps, swept, next_shard, ServesWrite, begin_of, end_of, needed_zone, zone_step, with_zone, ends_in}
use Rattle.sweep_laws.specs.AddLaws.{Added, WorksAdd, CatchUpsAdd, SweepsAdd, ServesAdd}

nothing : (h after : History) (ends ends_left : List End) → after ≡ h → ends_left ≡ ends → Added h after ends ends_left
nothing h after ends ends_left same left =
    record {
      from = subst (Extends h) (sym same) as_it_was;
      taken = [];
      in_order = sym left;
      as_many = ap ends_in same ∙ sym (add-zero (ends_in h));
    }

-- a step that ends no attempt
one_step : {h after : History} {ends ends_left : List End} (s : Step) → ends_in (s upon h) ≡ ends_in h → Added (s upon h) after ends ends_left → Added h after ends ends_left
one_step s same more =
    let all = more.as_many in
    record { from = extends_through (with_step s as_it_was) more.from; taken = more.taken; in_order = more.in_order; as_many = omega (arith, all, same) }

one_attempt : {h after : History} {ends ends_left : List End} (end : End) (t inc instant : ℕ) → Added (end_of h t inc instant end upon begin_of h t inc instant upon h) after ends ends_left
    → Added h after (end ∷ ends) ends_left
one_attempt end t inc instant more =
    let all = more.as_many in
    record {
      from = extends_through (with_step _ (with_step _ as_it_was)) more.from;
      taken = end ∷ more.taken;
      in_order = ap (λ (l : List End). end ∷ l) more.in_order;
      as_many = omega (arith, all);
    }

both : {h mid after : History} {ends some_left ends_left : List End} → Added h mid ends some_left → Added mid after some_left ends_left → Added h after ends ends_left
both {ends_left = ends_left} one two =
    let first = one.as_many in
    let second = two.as_many in
    let long = length-append one.taken two.taken in
    record {
      from = extends_through one.from two.from;
      taken = one.taken ++ two.taken;
      in_order = one.in_order ∙ ap (λ (l : List End). one.taken ++ l) two.in_order ∙ sym (append_assoc one.taken two.taken ends_left);
      as_many = omega (arith, first, second, long);
    }

works_add : {c : Calendar} {t shard : ℕ} {h after : History} {words left : List ℕ} {ends ends_left : List End} → Works c t shard h words ends after left ends_left → Added h after ends ends_left
works_add {h = h} {ends = ends} (settled e) = nothing h h ends ends refl refl
works_add (enters e more) = one_step _ refl (works_add more)
works_add (closes e more) = one_step _ refl (works_add more)
works_add {t = t} (begins {inc = inc} {instant = instant} {end = end} e more) = one_attempt end t inc instant (works_add more)
works_add (completes e more) = one_step _ refl (works_add more)

pub worked_adds : WorksAdd
worked_adds c t shard h after words left ends ends_left works = works_add works

catch_adds : {c : Calendar} {t : ℕ} {incs : List ℕ} {h after : History} {words left : List ℕ} (ends : List End) → CatchUp c t incs h words after left → Added h after ends ends
catch_adds {h = h} ends caught_up = nothing h h ends ends refl refl
catch_adds ends (next_incarnation e more) = catch_adds ends more
catch_adds ends (enters_first e more) = one_step _ refl (catch_adds ends more)

pub caught_adds : CatchUpsAdd
caught_adds c t incs h after words left caught = catch_adds [] caught

sweeps_add : {c : Calendar} {t : ℕ} {shards : List ℕ} {h after : History} {words left : List ℕ} {ends ends_left : List End} → Sweeps c t shards h words ends after left ends_left → Added h after ends ends_left
sweeps_add {h = h} {ends = ends} swept = nothing h h ends ends refl refl
sweeps_add (next_shard worked more) = one_step _ refl (both (works_add worked) (one_step _ refl (one_step _ refl (sweeps_add more))))

pub swept_adds : SweepsAdd
swept_adds c t shards h after words left ends ends_left sweeps = sweeps_add sweeps

step_adds : (t : ℕ) (zone : List ℕ) (bytes : Option (List ℕ)) (h after : History) (ends : List End) → Added (zone_step t zone bytes h) after ends ends → Added h after ends ends
step_adds t zone None h after ends more = more
step_adds t zone (Some bytes) h after ends more = one_step (steps.Zone (moment_of t) zone bytes) refl more

zone_adds : (source : ZoneSource) (t : ℕ) (needed : Option (List ℕ)) (h after : History) (ends : List End) → Added (with_zone source t needed h) after ends ends → Added h after ends ends
zone_adds source t None h after ends more = more
zone_adds source t (Some zone) h after ends more = step_adds t zone (source zone) h after ends more

write_adds : (c : Calendar) (source : ZoneSource) (t : ℕ) (h after : History) (write : Write) (words left : List ℕ) (ends : List End) (answer : Result Reply Refusal)
    → ServesWrite c source t h write words after left answer → Added h after ends ends
write_adds c source t h after write words left ends answer (inl (same, inl repeats)) = nothing h after ends ends repeats.unchanged refl
write_adds c source t h after write words left ends answer (inl (same, inr (inl clashes))) = nothing h after ends ends clashes.unchanged refl
write_adds c source t h after write words left ends answer (inl (same, inr (inr (inl faults)))) = nothing h after ends ends faults.unchanged refl
write_adds c source t h after write words left ends answer (inl (same, inr (inr (inr lacks)))) = nothing h after ends ends lacks.unchanged refl
write_adds c source t h after write words left ends answer (inr accepts) =
    zone_adds source t (needed_zone h write) h after ends
    (both (catch_adds ends accepts.caught_up)
    (subst (λ (x : History). Added accepts.entered x ends ends) (sym accepts.added)
    (one_step (steps.Change (moment_of t) write) refl (nothing _ _ ends ends refl refl))))

pub serves_add : ServesAdd
serves_add c source t h after words left ends ends_left (Err refusal) answer serves = nothing h after ends ends_left serves.0 serves.2
serves_add c source t h after words left ends ends_left (Ok (calls.Read read)) answer serves = nothing h after ends ends_left serves.0 serves.2
serves_add c source t h after words left ends ends_left (Ok calls.Sweep) answer serves = sweeps_add serves.0
serves_add c source t h after words left ends ends_left (Ok (calls.Write write)) answer serves =
    subst (Added h after ends) (sym serves.1) (write_adds c source t h after write words left ends answer serves.0)
