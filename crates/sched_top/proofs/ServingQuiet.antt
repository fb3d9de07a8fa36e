-- The steps of a write, a front of them among them: none takes or frees a shard, none begins or ends an attempt, and the bytes
-- of a zone stay.
use Rattle.std.proofs.Common.{◌≡◌, ℕ, ◌+◌, ◌≤◌, Bool, true, false, Option, Some, None, Result, List, refl, inl, inr, ap, sym, subst, ◌∙◌, arith}
use Rattle.std.specs.Prelude.{◌⊎◌, if◌then◌else◌, is_some}
use Rattle.target_link.specs.declared.link.Sent.{Sent}
use Rattle.expressions.specs.Calendar.{Calendar}
use Rattle.sched_plain.specs.declared.step.Step.{Step}
use Rattle.sched_plain.specs.declared.step.Step.TheVariants as steps
use Rattle.sched_plain.specs.declared.holder.Holder.{Holder}
use Rattle.sched_plain.specs.declared.write.Write.{Write}
use Rattle.sched_plain.specs.History.{History, ◌upon◌, Extends, as_it_was, with_step, count}
use Rattle.sched_plain.specs.Leases.{holder, is_held}
use Rattle.sched_plain.specs.Moments.{moment_of}
use Rattle.sched_plain.specs.Zones.{bytes_of}
use Rattle.sched_plain.proofs.HistoryLemmas.{extends_through}
use Rattle.sched_calls.specs.declared.reply.Refusal.{Refusal}
use Rattle.sched_calls.specs.declared.reply.Reply.{Reply}
use Rattle.sched_calls.specs.Serves.{ZoneSource, CatchUp, caught_up, next_incarnation, enters_first, ServesWrite, needed_zone, zone_step, with_zone}
use Rattle.sweep_laws.specs.KeptLaws.{NoOtherHolds}
use Rattle.timer_work.specs.Sendings.{Reported}
use Rattle.sched_top.proofs.ServingStill.{extends_count}

-- ---- histories upon one another

-- two that extend each other are one
pub same_extent : {a b : History} → Extends a b → Extends b a → b ≡ a
same_extent as_it_was back = refl
same_extent (with_step {later = later} s front) back =
    let round : count later + 1 ≤ count later = extends_count (extends_through back front) in
    absurd (omega (arith, round))

-- of two fronts of a history one extends the other
pub one_extends : {a b whole : History} → Extends a whole → Extends b whole → Extends b a ⊎ Extends a b
one_extends as_it_was other = inl other
one_extends (with_step s one) as_it_was = inr (with_step s one)
one_extends (with_step s one) (with_step t other) = one_extends one other

-- ---- quiet steps

abbrev pub IsQuiet : Step → Type 0
IsQuiet (steps.Zone at name bytes) = Unit {0}
IsQuiet (steps.Change at write) = Unit {0}
IsQuiet (steps.Enter at inc pairs) = Unit {0}
IsQuiet (steps.Boot at) = ⊥
IsQuiet (steps.Lease at shard worker epoch until) = ⊥
IsQuiet (steps.Release at shard worker epoch) = ⊥
IsQuiet (steps.Begin at inc instant number epoch) = ⊥
IsQuiet (steps.End at inc instant number verdict status) = ⊥
IsQuiet (steps.Close at inc instant reason) = ⊥
IsQuiet (steps.Complete at inc) = ⊥
IsQuiet (steps.Swept at shard) = ⊥

-- a history with only such steps upon it
pub data Quietly (h : History) : History → Type 0 where
  nothing_said : Quietly h h
  quiet_step : {later : History} (s : Step) → IsQuiet s → Quietly h later → Quietly h (s upon later)

-- a front of quiet steps
pub quiet_front : {h mid whole : History} → Quietly h whole → Extends h mid → Extends mid whole → Quietly h mid
quiet_front {h = h} nothing_said from part = subst (Quietly h) (sym (same_extent from part)) nothing_said
quiet_front (quiet_step s quiet more) from as_it_was = quiet_step s quiet more
quiet_front (quiet_step s quiet more) from (with_step t part) = quiet_front more from part

holder_stays : (s : Step) → IsQuiet s → (h : History) (shard : ℕ) → holder (s upon h) shard ≡ holder h shard
holder_stays (steps.Zone at name bytes) quiet h shard = refl
holder_stays (steps.Change at write) quiet h shard = refl
holder_stays (steps.Enter at inc pairs) quiet h shard = refl
holder_stays (steps.Boot at) quiet h shard = absurd quiet
holder_stays (steps.Lease at of worker epoch until) quiet h shard = absurd quiet
holder_stays (steps.Release at of worker epoch) quiet h shard = absurd quiet
holder_stays (steps.Begin at inc instant number epoch) quiet h shard = absurd quiet
holder_stays (steps.End at inc instant number verdict status) quiet h shard = absurd quiet
holder_stays (steps.Close at inc instant reason) quiet h shard = absurd quiet
holder_stays (steps.Complete at inc) quiet h shard = absurd quiet
holder_stays (steps.Swept at of) quiet h shard = absurd quiet

holders_stay : {h after : History} → Quietly h after → (shard : ℕ) → holder after shard ≡ holder h shard
holders_stay nothing_said shard = refl
holders_stay (quiet_step {later = later} s quiet more) shard = holder_stays s quiet later shard ∙ holders_stay more shard

-- no other worker holds a shard behind quiet steps
pub free_quietly : {h after : History} (t : ℕ) → Quietly h after → NoOtherHolds h t → NoOtherHolds after t
free_quietly t quiet free shard = ap (λ (held : Holder). is_held held t 0) (holders_stay quiet shard) ∙ free shard

reported_step : (s : Step) → IsQuiet s → (h : History) (sent : List Sent) → Reported h sent → Reported (s upon h) sent
reported_step (steps.Zone at name bytes) quiet h sent r = record { requests = r.requests; heard = r.heard }
reported_step (steps.Change at write) quiet h sent r = record { requests = r.requests; heard = r.heard }
reported_step (steps.Enter at inc pairs) quiet h sent r = record { requests = r.requests; heard = r.heard }
reported_step (steps.Boot at) quiet h sent r = absurd quiet
reported_step (steps.Lease at of worker epoch until) quiet h sent r = absurd quiet
reported_step (steps.Release at of worker epoch) quiet h sent r = absurd quiet
reported_step (steps.Begin at inc instant number epoch) quiet h sent r = absurd quiet
reported_step (steps.End at inc instant number verdict status) quiet h sent r = absurd quiet
reported_step (steps.Close at inc instant reason) quiet h sent r = absurd quiet
reported_step (steps.Complete at inc) quiet h sent r = absurd quiet
reported_step (steps.Swept at of) quiet h sent r = absurd quiet

-- what was reported stays so behind quiet steps
pub reported_quietly : {h after : History} → Quietly h after → (sent : List Sent) → Reported h sent → Reported after sent
reported_quietly nothing_said sent r = r
reported_quietly (quiet_step {later = later} s quiet more) sent r = reported_step s quiet later sent (reported_quietly more sent r)

some_either : (b : Bool) (bytes : List ℕ) (before : Option (List ℕ)) → is_some before ≡ true → is_some (if b then Some bytes else before) ≡ true
some_either true bytes before is = refl
some_either false bytes before is = is

bytes_step : (s : Step) → IsQuiet s → (h : History) (name : List ℕ) → is_some (bytes_of h name) ≡ true → is_some (bytes_of (s upon h) name) ≡ true
bytes_step (steps.Zone at known bytes) quiet h name is = some_either _ bytes (bytes_of h name) is
bytes_step (steps.Change at write) quiet h name is = is
bytes_step (steps.Enter at inc pairs) quiet h name is = is
bytes_step (steps.Boot at) quiet h name is = absurd quiet
bytes_step (steps.Lease at of worker epoch until) quiet h name is = absurd quiet
bytes_step (steps.Release at of worker epoch) quiet h name is = absurd quiet
bytes_step (steps.Begin at inc instant number epoch) quiet h name is = absurd quiet
bytes_step (steps.End at inc instant number verdict status) quiet h name is = absurd quiet
bytes_step (steps.Close at inc instant reason) quiet h name is = absurd quiet
bytes_step (steps.Complete at inc) quiet h name is = absurd quiet
bytes_step (steps.Swept at of) quiet h name is = absurd quiet

-- a zone that has bytes keeps some behind quiet steps
pub bytes_quietly : {h after : History} → Quietly h after → (name : List ℕ) → is_some (bytes_of h name) ≡ true → is_some (bytes_of after name) ≡ true
bytes_quietly nothing_said name is = is
bytes_quietly (quiet_step {later = later} s quiet more) name is = bytes_step s quiet later name (bytes_quietly more name is)

-- ---- the steps of a write are quiet

pub catch_quiet : {c : Calendar} {t : ℕ} {incs : List ℕ} {start h after : History} {words left : List ℕ} → CatchUp c t incs h words after left → Quietly start h → Quietly start after
catch_quiet caught_up quiet = quiet
catch_quiet (next_incarnation e more) quiet = catch_quiet more quiet
catch_quiet (enters_first e more) quiet = catch_quiet more (quiet_step _ tt quiet)

zoned_quiet : (t : ℕ) (name : List ℕ) (bytes : Option (List ℕ)) (h : History) → Quietly h (zone_step t name bytes h)
zoned_quiet t name None h = nothing_said
zoned_quiet t name (Some bytes) h = quiet_step (steps.Zone (moment_of t) name bytes) tt nothing_said

pub zone_quiet : (source : ZoneSource) (t : ℕ) (needed : Option (List ℕ)) (h : History) → Quietly h (with_zone source t needed h)
zone_quiet source t None h = nothing_said
zone_quiet source t (Some zone) h = zoned_quiet t zone (source zone) h

pub same_quiet : {h after : History} → after ≡ h → Quietly h after
same_quiet {h = h} same = subst (Quietly h) (sym same) nothing_said

pub write_quiet : (c : Calendar) (source : ZoneSource) (t : ℕ) (h after : History) (write : Write) (words left : List ℕ) (answer : Result Reply Refusal)
    → ServesWrite c source t h write words after left answer → Quietly h after
write_quiet c source t h after write words left answer (inl (same, inl repeats)) = same_quiet repeats.unchanged
write_quiet c source t h after write words left answer (inl (same, inr (inl clashes))) = same_quiet clashes.unchanged
write_quiet c source t h after write words left answer (inl (same, inr (inr (inl faults)))) = same_quiet faults.unchanged
write_quiet c source t h after write words left answer (inl (same, inr (inr (inr lacks)))) = same_quiet lacks.unchanged
write_quiet c source t h after write words left answer (inr accepts) =
    subst (Quietly h) (sym accepts.added) (quiet_step (steps.Change (moment_of t) write) tt (catch_quiet accepts.caught_up (zone_quiet source t (needed_zone h write) h)))

pub extends_quietly : {h after : History} → Quietly h after → Extends h after
extends_quietly nothing_said = as_it_was
extends_quietly (quiet_step s quiet more) = with_step s (extends_quietly more)
