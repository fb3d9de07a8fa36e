-- Serving keeps a history legal, and its steps valid: by induction over what serving is.
use Rattle.std.proofs.Common.{◌≡◌, ℕ, ◌+◌, ◌^◌, ◌<◌, ◌≤◌, Bool, true, false, Option, Some, None, Result, Ok, Err, List, [], ◌∷◌, ◌++◌, length, refl, ap, sym, subst, ◌∙◌, arith, eq-eqb, inl, inr}
use Rattle.std.specs.Prelude.{◌==◌, ◌&&◌, ◌||◌, nat_le, nat_lt, not, is_some, is_none, if◌then◌else◌}
use Rattle.std.specs.List.{filter}
use Rattle.std.specs.Option.{option_map, option_and_then}
use Rattle.std.proofs.lemmas.Bool.{eqb-true, not-false, leb-true}
use Rattle.std.proofs.lemmas.Bool.Decides.{nat_tests}
use Rattle.std.proofs.lemmas.Cmp.{nat_list_eq_equiv}
use Rattle.plain_words.proofs.Booleans.{and_second}
use Rattle.sched_calls.specs.declared.call.Call.TheVariants as calls
use Rattle.sched_calls.specs.declared.reply.Refusal.{Refusal}
use Rattle.sched_calls.specs.declared.reply.Reply.{Reply}
use Rattle.sched_plain.specs.declared.holder.Holder.{Holder}
use Rattle.sched_plain.specs.declared.step.Pair.{Pair}
use Rattle.sched_plain.specs.declared.step.Step.{Step}
use Rattle.sched_plain.specs.declared.step.Step.TheVariants as steps
use Rattle.sched_plain.specs.declared.why.Why.{Why}
use Rattle.sched_plain.specs.declared.why.RowFault.{RowFault}
use Rattle.sched_plain.specs.declared.work.Work.TheVariants as works
use Rattle.sched_plain.specs.declared.write.Write.{Write}
use Rattle.sched_plain.specs.declared.write.Write.TheVariants as writes
use Rattle.plain_words.specs.declared.limits.TheConstants.{LONGEST_ZONE, LEASE_SECONDS}
use Rattle.expressions.specs.Calendar.{Calendar}
use Rattle.plain_words.specs.Lists.{head, first_some, some_pass, when, or_else}
use Rattle.plain_words.specs.Words.{zone_name_fault}
use Rattle.sched_plain.specs.History.{History, ◌upon◌}
use Rattle.sched_plain.specs.Moments.{at_of, moment, moment_of}
use Rattle.sched_plain.specs.Changes.{Accepted, changes_of}
use Rattle.sched_plain.specs.Rows.{rows_of, incs_where, touched_by}
use Rattle.sched_plain.specs.Groups.{groups_of, row_fault}
use Rattle.sched_plain.specs.Zones.{bytes_of, is_utc}
use Rattle.sched_plain.specs.Tokens.{Kept, kept_of, kept_under, kept_place, token_of}
use Rattle.sched_plain.specs.Leases.{holder, is_held, is_taking, freed, leased}
use Rattle.sched_plain.specs.Ledger.{ledger_of}
use Rattle.sched_plain.specs.Entries.{entries}
use Rattle.sched_plain.specs.Items.{items, is_rezoned, rezoned_by}
use Rattle.sched_plain.specs.Occurrences.{occ_below}
use Rattle.sched_plain.specs.Marks.{above_floor, without_pair, unentered}
use Rattle.sched_plain.specs.Seen.{seen}
use Rattle.sched_plain.specs.Work.{Occurrence, open_at, first_open, work}
use Rattle.sched_plain.specs.Rules.{zone_of, is_zone_unknown, why_unentered, change_table}
use Rattle.sched_plain.specs.Legal.{MayFollow}
use Rattle.sched_plain.specs.Validity.{IsValid, IsShard, IsWrite}
use Rattle.sched_calls.specs.Serves.{End, ZoneSource, CatchUp, caught_up, next_incarnation, enters_first, Works, settled, enters, closes, begins, completes, Sweeps, swept, next_shard, ServesWrite, Accepts, wanted_enter, begin_of, end_of, taking_of, release_of, all_shards, kept_for, fault_of, needed_zone, is_zone, lacks_zone, zone_step, with_zone, windows_of, wanted, drawn}
use Rattle.sweep_laws.specs.ValidLaws.{IsGood}
use Rattle.sweep_laws.specs.KeptLaws.{AllStatuses, AllShards, NoOtherHolds, HasEpochs, IsWorked, WorksKeep, CatchUpsKeep, CatchUpsCatchUp, SweepsKeep, ServesKeep}
use Rattle.sweep_laws.proofs.Follow.{on_time, may_enter, may_close, may_begin, may_end, may_complete, may_sweep, may_take, may_release}
use Rattle.sweep_laws.proofs.Entering.{without_more}
use Rattle.sweep_laws.proofs.Valid.{valid_enter, valid_enter_work, valid_close, valid_attempt, valid_complete, valid_swept, valid_taking, valid_release}

-- one more step that may follow and is valid
grown : (c : Calendar) (h : History) (t : ℕ) (s : Step) → IsGood c h t → MayFollow c h s → IsValid s → at_of s ≡ t → IsGood c (s upon h) t
grown c h t s good may valid at = record { legal = (good.legal, may); valid = (good.valid, valid); early = omega (arith, at); late = good.late }

-- ---- the work of a shard

-- what was worked from here on was worked from there on, where the same hold the shards
worked_on : {c : Calendar} {t shard : ℕ} {h mid after : History} {ends_left : List End} → ((s : ℕ) → holder mid s ≡ holder h s)
    → IsWorked c t shard mid after ends_left → IsWorked c t shard h after ends_left
worked_on same was = record { good = was.good; settled = was.settled; holders = λ s. was.holders s ∙ same s; statuses = was.statuses }

good_attempt : (c : Calendar) (h : History) (shard t inc instant : ℕ) (end : End) → IsGood c h t → work (seen c h) shard t ≡ works.Begin inc instant
    → IsValid (begin_of h t inc instant) × IsValid (end_of h t inc instant end) → IsGood c (end_of h t inc instant end upon begin_of h t inc instant upon h) t
good_attempt c h shard t inc instant end good w valid =
    grown c (begin_of h t inc instant upon h) t (end_of h t inc instant end)
    (grown c h t (begin_of h t inc instant) good (may_begin c h shard t inc instant good.early w) valid.0 refl)
    (may_end c h shard t inc instant end w) valid.1 refl

works_keep : {c : Calendar} {t shard : ℕ} {h after : History} {words left : List ℕ} {ends ends_left : List End}
    → Works c t shard h words ends after left ends_left → IsGood c h t → AllStatuses ends → IsWorked c t shard h after ends_left
works_keep (settled e) good statuses = record { good = good; settled = e; holders = λ s. refl; statuses = statuses }
works_keep {c = c} {t = t} {shard = shard} (enters {inc = inc} {h = h} {words = words} e more) good statuses =
    worked_on (λ s. refl)
    (works_keep more (grown c h t (wanted_enter c h inc t words) good (may_enter c h t inc words good.early) (valid_enter_work c h shard t inc words good e) refl) statuses)
works_keep {c = c} {t = t} {shard = shard} (closes {inc = inc} {instant = instant} {reason = reason} {h = h} e more) good statuses =
    worked_on (λ s. refl)
    (works_keep more
    (grown c h t (steps.Close (moment_of t) inc instant reason) good (may_close c h shard t inc instant reason good.early e) (valid_close c h shard t inc instant reason good e) refl)
    statuses)
works_keep {c = c} {t = t} {shard = shard} (begins {inc = inc} {instant = instant} {end = end} {h = h} e more) good statuses =
    worked_on (λ s. refl)
    (works_keep more (good_attempt c h shard t inc instant end good e (valid_attempt c h shard t inc instant end good statuses.0 e)) statuses.1)
works_keep {c = c} {t = t} {shard = shard} (completes {inc = inc} {h = h} e more) good statuses =
    worked_on (λ s. refl)
    (works_keep more
    (grown c h t (steps.Complete (moment_of t) inc) good (may_complete c h shard t inc good.early e) (valid_complete c h shard t inc good e) refl) statuses)

pub worked : WorksKeep
worked c t shard h after words left ends ends_left works_ good statuses = works_keep works_ good statuses

-- ---- catching up

catch_up_keeps : {c : Calendar} {t : ℕ} {incs : List ℕ} {h after : History} {words left : List ℕ} → CatchUp c t incs h words after left → IsGood c h t → IsGood c after t
catch_up_keeps caught_up good = good
catch_up_keeps (next_incarnation e more) good = catch_up_keeps more good
catch_up_keeps {c = c} {t = t} (enters_first {inc = inc} {instant = instant} {h = h} {words = words} e more) good =
    catch_up_keeps more (grown c h t (wanted_enter c h inc t words) good (may_enter c h t inc words good.early) (valid_enter c h t inc instant words good e) refl)

pub caught_up_keeps : CatchUpsKeep
caught_up_keeps c t incs h after words left caught good = catch_up_keeps caught good

-- an incarnation that has nothing to be entered has nothing behind an Enter
more_pairs : (b : Bool) (old new : List Pair) (xs : List ℕ) → without_pair old xs ≡ [] → without_pair (if b then old ++ new else old) xs ≡ []
more_pairs true old new xs none = without_more old new xs ∙ ap (without_pair new) none
more_pairs false old new xs none = none

still_entered : {c : Calendar} {t : ℕ} {incs : List ℕ} {h after : History} {words left : List ℕ} → CatchUp c t incs h words after left
    → (of : ℕ) → unentered c h of t ≡ [] → unentered c after of t ≡ []
still_entered caught_up of none = none
still_entered (next_incarnation e more) of none = still_entered more of none
still_entered {c = c} {t = t} (enters_first {inc = inc} {h = h} {words = words} e more) of none =
    still_entered more of
    (more_pairs (of == inc) (entries (ledger_of h) of) (drawn (windows_of h inc) (wanted c h inc t) words)
    (filter (nat_le (above_floor h of)) (occ_below c (items h of) (t + 1))) none)

none_open : (of : ℕ) (xs : List ℕ) → xs ≡ [] → let none : Option Occurrence = None in option_map {T = ℕ} (λ instant. record { inc = of; instant = instant }) (head xs) ≡ none
none_open of [] e = refl
none_open of (x ∷ xs) e = absurd cc

or_none : {A : Type 0} (a b : Option A) → a ≡ None → b ≡ None → or_else a b ≡ None
or_none None b e f = f
or_none (Some x) b e f = absurd cc

all_entered : {c : Calendar} {t : ℕ} {incs : List ℕ} {h after : History} {words left : List ℕ} → CatchUp c t incs h words after left
    → first_open (seen c after).times t incs ≡ None
all_entered caught_up = refl
all_entered {c = c} {t = t} {after = after} (next_incarnation {inc = inc} {incs = incs} e more) =
    or_none (open_at (seen c after).times t inc) (first_open (seen c after).times t incs)
    (none_open inc (unentered c after inc t) (still_entered more inc e)) (all_entered more)
all_entered (enters_first e more) = all_entered more

pub caught_up_enters : CatchUpsCatchUp
caught_up_enters c t incs h after words left caught = all_entered caught

-- ---- a sweep

good_taking : (c : Calendar) (h : History) (shard t : ℕ) → IsGood c h t → NoOtherHolds h t → (holder h shard).epoch + 1 < 2 ^ 64 → IsShard shard
    → IsGood c (taking_of h t shard upon h) t
good_taking c h shard t good free fits is =
    grown c h t (taking_of h t shard) good (may_take c h shard t good.early (free shard)) (valid_taking h shard t good.late is fits) refl

-- who holds the shard that was taken
taken_here : (h : History) (shard t : ℕ)
    → holder (taking_of h t shard upon h) shard ≡ record { worker = 0; epoch = (holder h shard).epoch + 1; until = t + LEASE_SECONDS }
taken_here h shard t =
    let held = holder h shard in
    let same : (shard == shard) ≡ true = eq-eqb shard shard refl in
    let taking : is_taking held (held.epoch + 1) ≡ true = eq-eqb (held.epoch + 1) (held.epoch + 1) refl in
    ap (λ (b : Bool). if b then leased held 0 (held.epoch + 1) (t + LEASE_SECONDS) else held) same
    ∙ ap (λ (b : Bool). record { worker = if b then 0 else held.worker; epoch = held.epoch + 1; until = t + LEASE_SECONDS }) taking

-- a shard that was given back is free, the others are as they were
pub freed_free : (same : Bool) (old held : Holder) (epoch t : ℕ) → held ≡ (if same then leased old 0 epoch (t + LEASE_SECONDS) else old)
    → is_held old t 0 ≡ false → is_held (if same then freed held else held) t 0 ≡ false
freed_free true old held epoch t is free = let late : nat_lt t 0 ≡ false = grind (arith, nat_tests) in ap (λ (b : Bool). b && not (0 == held.worker)) late
freed_free false old held epoch t is free = ap (λ (x : Holder). is_held x t 0) is ∙ free

pub freed_epoch : (same : Bool) (old held : Holder) (epoch t n : ℕ) → held ≡ (if same then leased old 0 epoch (t + LEASE_SECONDS) else old)
    → (same ≡ true → epoch ≡ old.epoch + 1) → old.epoch + (n + 1) < 2 ^ 64 → (if same then freed held else held).epoch + n < 2 ^ 64
freed_epoch true old held epoch t n is next fits = let e = ap (λ (x : Holder). x.epoch) is in let one = next refl in omega (arith, e, one, fits)
freed_epoch false old held epoch t n is next fits = let e = ap (λ (x : Holder). x.epoch) is in omega (arith, e, fits)

-- behind a shard that was worked, swept and given back
module _ (c : Calendar) (t shard : ℕ) (h mid : History) (ends_left : List End) (is : IsShard shard) (was : IsWorked c t shard (taking_of h t shard upon h) mid ends_left) where
  held_now : holder mid shard ≡ record { worker = 0; epoch = (holder h shard).epoch + 1; until = t + LEASE_SECONDS }
  held_now = was.holders shard ∙ taken_here h shard t

  good_swept : IsGood c (steps.Swept (moment_of t) shard upon mid) t
  good_swept = grown c mid t (steps.Swept (moment_of t) shard) was.good (may_sweep c mid shard t was.good.early was.settled) (valid_swept shard t was.good.late is) refl

  good_release : IsGood c (release_of mid t shard upon steps.Swept (moment_of t) shard upon mid) t
  good_release =
      let epoch = ap (λ (held : Holder). held.epoch) held_now in
      let some : 0 < (holder mid shard).epoch = omega (arith, epoch) in
      grown c (steps.Swept (moment_of t) shard upon mid) t (release_of mid t shard) good_swept
      (may_release c (steps.Swept (moment_of t) shard upon mid) shard t good_swept.early (ap (λ (held : Holder). held.worker) held_now) some)
      (valid_release c (steps.Swept (moment_of t) shard upon mid) shard t good_swept is) refl

-- the holders behind a shard that was taken, worked, swept and given back
pub free_behind : (h mid : History) (t shard : ℕ) → ((s : ℕ) → holder mid s ≡ holder (taking_of h t shard upon h) s) → NoOtherHolds h t
    → NoOtherHolds (release_of mid t shard upon steps.Swept (moment_of t) shard upon mid) t
free_behind h mid t shard holders free s = freed_free (s == shard) (holder h s) (holder mid s) ((holder h shard).epoch + 1) t (holders s) (free s)

pub epochs_behind : (h mid : History) (t shard n : ℕ) → ((s : ℕ) → holder mid s ≡ holder (taking_of h t shard upon h) s) → HasEpochs h (n + 1)
    → HasEpochs (release_of mid t shard upon steps.Swept (moment_of t) shard upon mid) n
epochs_behind h mid t shard n holders fits s =
    freed_epoch (s == shard) (holder h s) (holder mid s) ((holder h shard).epoch + 1) t n (holders s)
    (λ same. ap (λ (k : ℕ). (holder h k).epoch + 1) (sym (eqb-true s shard same))) (fits s)

sweeps_keep : {c : Calendar} {t : ℕ} {shards : List ℕ} {h after : History} {words left : List ℕ} {ends ends_left : List End}
    → Sweeps c t shards h words ends after left ends_left → IsGood c h t → AllStatuses ends → AllShards shards → NoOtherHolds h t → HasEpochs h (length shards)
    → IsGood c after t
sweeps_keep swept good statuses are free fits = good
sweeps_keep {c = c} {t = t} (next_shard {shard = shard} {shards = shards} {h = h} {mid = mid} {some_ends = some_ends} works_ more) good statuses are free fits =
    let room = fits shard in
    let taken = good_taking c h shard t good free (omega (arith, room)) are.0 in
    let was = works_keep works_ taken statuses in
    sweeps_keep more (good_release c t shard h mid some_ends are.0 was) was.statuses are.1 (free_behind h mid t shard was.holders free)
    (epochs_behind h mid t shard (length shards) was.holders (λ s. let all = fits s in omega (arith, all)))

pub swept_keeps : SweepsKeep
swept_keeps c t shards h after words left ends ends_left sweeps good statuses are free fits = sweeps_keep sweeps good statuses are free fits

-- ---- a write

-- catching up leaves the zones, the rows and groups, and the tokens
record LeavesRest (h after : History) : Type 0 where
  pub changes : changes_of after ≡ changes_of h
  pub zones : (name : List ℕ) → bytes_of after name ≡ bytes_of h name
  pub tokens : kept_of after ≡ kept_of h

leaves_rest : {c : Calendar} {t : ℕ} {incs : List ℕ} {h after : History} {words left : List ℕ} → CatchUp c t incs h words after left → LeavesRest h after
leaves_rest caught_up = record { changes = refl; zones = λ name. refl; tokens = refl }
leaves_rest (next_incarnation e more) = leaves_rest more
leaves_rest (enters_first e more) = let rest = leaves_rest more in record { changes = rest.changes; zones = rest.zones; tokens = rest.tokens }

-- whether a zone is needed, by its name
abbrev needs : History → List ℕ → Option (List ℕ)
needs h zone = if is_utc zone then None else (if is_some (bytes_of h zone) then None else Some zone)

-- a needed zone is the one that is named, is not built in, and has no bytes
record IsNeeded (h : History) (named zone : List ℕ) : Type 0 where
  pub same : named ≡ zone
  pub not_utc : is_utc zone ≡ false
  pub unknown : is_some (bytes_of h zone) ≡ false

needed_by : (h : History) (named zone : List ℕ) (utc there : Bool) → is_utc named ≡ utc → is_some (bytes_of h named) ≡ there
    → (if utc then None else (if there then None else Some named)) ≡ Some zone → IsNeeded h named zone
needed_by h named zone true there one two e = absurd cc
needed_by h named zone false true one two e = absurd cc
needed_by h named zone false false one two e =
    let same : named ≡ zone = cc e in
    record { same = same; not_utc = sym (ap is_utc same) ∙ one; unknown = sym (ap (λ (x : List ℕ). is_some (bytes_of h x)) same) ∙ two }

three_none : (known readable : Bool) (found : Option Why) (one two : Why) → known ≡ false → readable ≡ true → found ≡ None
    → first_some (when known one ∷ when (not readable) two ∷ found ∷ []) ≡ None
three_none true readable found one two a b e = absurd cc
three_none false true found one two a b e = ap (λ (o : Option Why). first_some (o ∷ [])) e
three_none false false found one two a b e = absurd cc

neither : (a b : Bool) → a ≡ false → b ≡ false → (a || b) ≡ false
neither a b e f = rw (e, f) refl

may_zone : (c : Calendar) (h : History) (t : ℕ) (zone bytes : List ℕ) → moment h ≤ t → is_utc zone ≡ false → is_some (bytes_of h zone) ≡ false
    → is_zone c bytes ≡ true → MayFollow c h (steps.Zone (moment_of t) zone bytes)
may_zone c h t zone bytes early not_utc unknown readable =
    let untouched : first_open (seen c h).times t (rezoned_by h zone) ≡ None =
    ap (λ (b : Bool). first_open (seen c h).times t (if b then incs_where (is_rezoned zone) (rows_of (changes_of h)) else [])) unknown in
    on_time (moment h) t _ _ early
    (three_none (is_utc zone || is_some (bytes_of h zone)) (is_zone c bytes) (why_unentered (first_open (seen c h).times t (rezoned_by h zone))) _ _
    (neither (is_utc zone) (is_some (bytes_of h zone)) not_utc unknown) readable (ap why_unentered untouched))

zone_named : (write : Write) (zone : List ℕ) → IsWrite write → zone_of write ≡ Some zone → zone_name_fault zone ≡ None
zone_named (writes.CreateSchedule group name token content) zone valid e =
    let same : content.zone ≡ zone = cc e in subst (λ (z : List ℕ). zone_name_fault z ≡ None) same valid.3.zone
zone_named (writes.UpdateSchedule group name token content) zone valid e =
    let same : content.zone ≡ zone = cc e in subst (λ (z : List ℕ). zone_name_fault z ≡ None) same valid.3.zone
zone_named (writes.DeleteSchedule group name token) zone valid e = absurd cc
zone_named (writes.CreateGroup name token) zone valid e = absurd cc
zone_named (writes.DeleteGroup name token) zone valid e = absurd cc

-- the Zone step that a write needs may follow, and is valid
zoned_good : (c : Calendar) (source : ZoneSource) (t : ℕ) (h : History) (write : Write) (named zone : List ℕ) (bytes : Option (List ℕ)) → IsGood c h t → IsWrite write
    → zone_of write ≡ Some named → IsNeeded h named zone → not (some_pass (is_zone c) bytes) ≡ false → IsGood c (zone_step t zone bytes h) t
zoned_good c source t h write named zone None good valid is needed had = absurd cc
zoned_good c source t h write named zone (Some bytes) good valid is needed had =
    let readable : is_zone c bytes ≡ true = not-false (is_zone c bytes) had in
    grown c h t (steps.Zone (moment_of t) zone bytes) good (may_zone c h t zone bytes good.early needed.not_utc needed.unknown readable)
    (good.late, zone_named write zone valid (is ∙ ap (λ (z : List ℕ). Some z) needed.same), leb-true (length bytes) LONGEST_ZONE (and_second (c.readable bytes) (nat_le (length bytes) LONGEST_ZONE) readable))
    refl

pub with_zone_good : (c : Calendar) (source : ZoneSource) (t : ℕ) (h : History) (write : Write) (named : Option (List ℕ)) (needed : Option (List ℕ)) → IsGood c h t → IsWrite write
    → zone_of write ≡ named → option_and_then (needs h) named ≡ needed → lacks_zone c source needed ≡ false → IsGood c (with_zone source t needed h) t
with_zone_good c source t h write named None good valid is e had = good
with_zone_good c source t h write None (Some zone) good valid is e had = absurd cc
with_zone_good c source t h write (Some named) (Some zone) good valid is e had =
    zoned_good c source t h write named zone (source zone) good valid is (needed_by h named zone (is_utc named) (is_some (bytes_of h named)) refl refl e) had

-- the zone of the content is known then
none_not : {A : Type 0} (o : Option A) → is_some o ≡ true → is_none o ≡ false
none_not None e = absurd cc
none_not (Some x) e = refl

step_known : (c : Calendar) (t : ℕ) (h : History) (zone : List ℕ) (bytes : Option (List ℕ)) → not (some_pass (is_zone c) bytes) ≡ false
    → is_none (bytes_of (zone_step t zone bytes h) zone) ≡ false
step_known c t h zone None had = absurd cc
step_known c t h zone (Some bytes) had =
    ap (λ (b : Bool). is_none (if b then Some bytes else bytes_of h zone)) (nat_list_eq_equiv.refl zone)

and_fails : (a b : Bool) → b ≡ false → (a && b) ≡ false
and_fails true b e = e
and_fails false b e = refl

known_by : (c : Calendar) (source : ZoneSource) (t : ℕ) (h : History) (zone : List ℕ) (utc there : Bool) → is_utc zone ≡ utc → is_some (bytes_of h zone) ≡ there
    → let needed = if utc then None else (if there then None else Some zone) in
    lacks_zone c source needed ≡ false → (not (is_utc zone) && is_none (bytes_of (with_zone source t needed h) zone)) ≡ false
known_by c source t h zone true there one two had = ap (λ (b : Bool). not b && is_none (bytes_of h zone)) one
known_by c source t h zone false true one two had = and_fails (not (is_utc zone)) (is_none (bytes_of h zone)) (none_not (bytes_of h zone) two)
known_by c source t h zone false false one two had =
    and_fails (not (is_utc zone)) (is_none (bytes_of (zone_step t zone (source zone) h) zone)) (step_known c t h zone (source zone) had)

zone_known : (c : Calendar) (source : ZoneSource) (t : ℕ) (h : History) (named : Option (List ℕ)) → lacks_zone c source (option_and_then (needs h) named) ≡ false
    → is_zone_unknown (record { readable = c.readable; bytes = bytes_of (with_zone source t (option_and_then (needs h) named) h) }) named ≡ false
zone_known c source t h None had = refl
zone_known c source t h (Some zone) had = known_by c source t h zone (is_utc zone) (is_some (bytes_of h zone)) refl refl had

-- a Zone step leaves the rows and groups, and the tokens
step_changes : (t : ℕ) (zone : List ℕ) (bytes : Option (List ℕ)) (h : History) → changes_of (zone_step t zone bytes h) ≡ changes_of h
step_changes t zone None h = refl
step_changes t zone (Some bytes) h = refl

step_tokens : (t : ℕ) (zone : List ℕ) (bytes : Option (List ℕ)) (h : History) → kept_of (zone_step t zone bytes h) ≡ kept_of h
step_tokens t zone None h = refl
step_tokens t zone (Some bytes) h = refl

zone_changes : (source : ZoneSource) (t : ℕ) (needed : Option (List ℕ)) (h : History) → changes_of (with_zone source t needed h) ≡ changes_of h
zone_changes source t None h = refl
zone_changes source t (Some zone) h = step_changes t zone (source zone) h

zone_tokens : (source : ZoneSource) (t : ℕ) (needed : Option (List ℕ)) (h : History) → kept_of (with_zone source t needed h) ≡ kept_of h
zone_tokens source t None h = refl
zone_tokens source t (Some zone) h = step_tokens t zone (source zone) h

four_none : (unknown : Bool) (fault : Option RowFault) (kept : Option ℕ) (found : Option Occurrence) → unknown ≡ false → fault ≡ None → kept ≡ None → found ≡ None
    → first_some (change_table unknown fault kept found) ≡ None
four_none unknown fault kept found a b d e = rw (a, b, d, e) refl

place_none : (found : Option Kept) → found ≡ None → option_map {T = Kept} (λ k. k.place) found ≡ None
place_none None e = refl
place_none (Some k) e = absurd cc

token_none : (all : List Kept) (token : Option (List ℕ)) → option_and_then (kept_under all) token ≡ None
    → option_and_then (λ (text : List ℕ). option_map {T = Kept} (λ k. k.place) (kept_under all text)) token ≡ None
token_none all None e = refl
token_none all (Some text) e = place_none (kept_under all text) e

-- the Change of an accepted write may follow what was entered for it
may_change : (c : Calendar) (source : ZoneSource) (t : ℕ) (h entered : History) (write : Write) (words left : List ℕ) → moment entered ≤ t
    → kept_for h write ≡ None → fault_of h write ≡ None → lacks_zone c source (needed_zone h write) ≡ false
    → CatchUp c t (touched_by (rows_of (changes_of h)) write) (with_zone source t (needed_zone h write) h) words entered left
    → MayFollow c entered (steps.Change (moment_of t) write)
may_change c source t h entered write words left early new allowed had caught =
    let rest = leaves_rest caught in
    let changes : changes_of entered ≡ changes_of h = rest.changes ∙ zone_changes source t (needed_zone h write) h in
    let tokens : kept_of entered ≡ kept_of h = rest.tokens ∙ zone_tokens source t (needed_zone h write) h in
    let known : is_zone_unknown (seen c entered).zones (zone_of write) ≡ false =
    (λ i. is_zone_unknown (record { readable = c.readable; bytes = λ name. rest.zones name i }) (zone_of write)) ∙ zone_known c source t h (zone_of write) had in
    on_time (moment entered) t _ _ early
    (four_none (is_zone_unknown (seen c entered).zones (zone_of write)) (row_fault (rows_of (changes_of entered)) (groups_of (changes_of entered)) write)
    (option_and_then (kept_place entered) (token_of write)) (first_open (seen c entered).times t (touched_by (rows_of (changes_of entered)) write))
    known (ap (λ (all : List Accepted). row_fault (rows_of all) (groups_of all) write) changes ∙ allowed)
    (ap (λ (all : List Kept). option_and_then (λ (text : List ℕ). option_map {T = Kept} (λ k. k.place) (kept_under all text)) (token_of write)) tokens
    ∙ token_none (kept_of h) (token_of write) new)
    (ap (λ (all : List Accepted). first_open (seen c entered).times t (touched_by (rows_of all) write)) changes ∙ all_entered caught))

accepted_keeps : (c : Calendar) (source : ZoneSource) (t : ℕ) (h after : History) (write : Write) (words left : List ℕ) (answer : Result Reply Refusal)
    → Accepts c source t h write words after left answer → IsGood c h t → IsWrite write → IsGood c after t
accepted_keeps c source t h after write words left answer accepts good valid =
    let zoned = with_zone_good c source t h write (zone_of write) (needed_zone h write) good valid refl refl accepts.zone in
    let entered = catch_up_keeps accepts.caught_up zoned in
    subst (λ (x : History). IsGood c x t) (sym accepts.added)
    (grown c accepts.entered t (steps.Change (moment_of t) write) entered
    (may_change c source t h accepts.entered write words left entered.early accepts.new accepts.allowed accepts.zone accepts.caught_up) (good.late, valid) refl)

unchanged_good : (c : Calendar) (t : ℕ) (h after : History) → after ≡ h → IsGood c h t → IsGood c after t
unchanged_good c t h after same good = subst (λ (x : History). IsGood c x t) (sym same) good

write_keeps : (c : Calendar) (source : ZoneSource) (t : ℕ) (h after : History) (write : Write) (words left : List ℕ) (answer : Result Reply Refusal) → IsGood c h t → IsWrite write
    → ServesWrite c source t h write words after left answer → IsGood c after t
write_keeps c source t h after write words left answer good valid (inl (same, inl repeats)) = unchanged_good c t h after repeats.unchanged good
write_keeps c source t h after write words left answer good valid (inl (same, inr (inl clashes))) = unchanged_good c t h after clashes.unchanged good
write_keeps c source t h after write words left answer good valid (inl (same, inr (inr (inl faults)))) = unchanged_good c t h after faults.unchanged good
write_keeps c source t h after write words left answer good valid (inl (same, inr (inr (inr lacks)))) = unchanged_good c t h after lacks.unchanged good
write_keeps c source t h after write words left answer good valid (inr accepts) =
    accepted_keeps c source t h after write words left answer accepts good valid

-- ---- a request

every_shard : AllShards all_shards
every_shard = (omega arith, (omega arith, (omega arith, (omega arith, (omega arith, (omega arith, (omega arith, (omega arith, tt))))))))

pub serves_keep : ServesKeep
serves_keep c source t h after words left ends ends_left (Err refusal) answer serves good may = subst (λ (x : History). IsGood c x t) (sym serves.0) good
serves_keep c source t h after words left ends ends_left (Ok (calls.Read read)) answer serves good may = subst (λ (x : History). IsGood c x t) (sym serves.0) good
serves_keep c source t h after words left ends ends_left (Ok calls.Sweep) answer serves good may =
    sweeps_keep serves.0 good may.2 every_shard may.0 may.1
serves_keep c source t h after words left ends ends_left (Ok (calls.Write write)) answer serves good may = write_keeps c source t h after write words left answer good may serves.0
