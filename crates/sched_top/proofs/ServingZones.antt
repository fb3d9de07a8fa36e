-- A write that was cut while its zone is still wanted has added nothing.
use Rattle.std.proofs.Common.{◌≡◌, ℕ, Bool, true, false, Option, Some, None, Result, List, [], ◌∷◌, refl, inl, inr, ap, sym, subst, ◌∙◌, eq-eqb}
use Rattle.std.specs.Prelude.{◌⊎◌, not, if◌then◌else◌, is_some}
use Rattle.std.specs.Option.{option_and_then}
use Rattle.expressions.specs.Calendar.{Calendar}
use Rattle.plain_words.specs.Lists.{some_pass}
use Rattle.sched_plain.specs.declared.step.Step.{Step}
use Rattle.sched_plain.specs.declared.step.Step.TheVariants as steps
use Rattle.sched_plain.specs.declared.write.Write.{Write}
use Rattle.sched_plain.specs.History.{History, ◌upon◌, Extends, as_it_was, with_step}
use Rattle.sched_plain.specs.Moments.{moment_of}
use Rattle.sched_plain.specs.Rows.{same_text}
use Rattle.sched_plain.specs.Rules.{zone_of}
use Rattle.sched_plain.specs.Zones.{bytes_of, is_utc}
use Rattle.sched_calls.specs.declared.reply.Refusal.{Refusal}
use Rattle.sched_calls.specs.declared.reply.Reply.{Reply}
use Rattle.sched_calls.specs.Serves.{ZoneSource, ServesWrite, needed_zone, lacks_zone, is_zone, zone_step, with_zone}
use Rattle.sched_top.proofs.ServingQuiet.{same_extent, one_extends, Quietly, quiet_front, quiet_step, bytes_quietly, catch_quiet, extends_quietly, nothing_said}

same_text_self : (text : List ℕ) → same_text text text ≡ true
same_text_self [] = refl
same_text_self (b ∷ text) = rw (eq-eqb b b refl) (same_text_self text)

-- a zone is wanted where it is not built in and has no bytes
abbrev wanted : Bool → Bool → List ℕ → Option (List ℕ)
wanted built_in known zone = if built_in then None else (if known then None else Some zone)

still_wanted : (built_in known known' : Bool) (zone other : List ℕ) → (known ≡ true → known' ≡ true)
    → wanted built_in known' zone ≡ Some other → wanted built_in known zone ≡ Some zone
still_wanted true known known' zone other keeps wants = cc wants
still_wanted false true known' zone other keeps wants =
    let known_then = keeps refl in cc (known_then, wants)
still_wanted false false known' zone other keeps wants = refl

never_known : (built_in known : Bool) (zone other : List ℕ) → known ≡ true → wanted built_in known zone ≡ Some other → ⊥
never_known true known zone other is wants = cc wants
never_known false true zone other is wants = cc wants
never_known false false zone other is wants = cc is

wanted_is : (built_in known : Bool) (zone other : List ℕ) → wanted built_in known zone ≡ Some other → zone ≡ other
wanted_is true known zone other wants = cc wants
wanted_is false true zone other wants = cc wants
wanted_is false false zone other wants = cc wants

-- the zone that a content needs over a history
abbrev needed_by : History → Option (List ℕ) → Option (List ℕ)
needed_by h None = None
needed_by h (Some zone) = wanted (is_utc zone) (is_some (bytes_of h zone)) zone

named : (h : History) (zone : Option (List ℕ)) → option_and_then (λ zone. if is_utc zone then None else (if is_some (bytes_of h zone) then None else Some zone)) zone ≡ needed_by h zone
named h None = refl
named h (Some zone) = refl

needed_is : (h : History) (write : Write) → needed_zone h write ≡ needed_by h (zone_of write)
needed_is h write = named h (zone_of write)

never_new : (h after : History) (zone : Option (List ℕ)) (other : List ℕ) → Quietly h after → needed_by h zone ≡ None → needed_by after zone ≡ Some other → ⊥
never_new h after None other quiet none wants = cc wants
never_new h after (Some zone) other quiet none wants =
    let before = still_wanted (is_utc zone) (is_some (bytes_of h zone)) (is_some (bytes_of after zone)) zone other (bytes_quietly quiet zone) wants in
    cc (none, before)

never_twice : (h after : History) (zone : Option (List ℕ)) (needed other : List ℕ) → is_some (bytes_of after needed) ≡ true → needed_by h zone ≡ Some needed → needed_by after zone ≡ Some other → ⊥
never_twice h after None needed other is wanted_then wants = cc wants
never_twice h after (Some zone) needed other is wanted_then wants =
    let same : zone ≡ needed = wanted_is (is_utc zone) (is_some (bytes_of h zone)) zone needed wanted_then in
    never_known (is_utc zone) (is_some (bytes_of after zone)) zone other (ap (λ (name : List ℕ). is_some (bytes_of after name)) same ∙ is) wants

has_bytes : (t : ℕ) (name bytes : List ℕ) (h : History) → is_some (bytes_of (steps.Zone (moment_of t) name bytes upon h) name) ≡ true
has_bytes t name bytes h = rw (same_text_self name) refl

-- a front of one step: none of it, or all
front_of_step : {h mid : History} {s : Step} → Extends h mid → Extends mid (s upon h) → (mid ≡ h) ⊎ (mid ≡ s upon h)
front_of_step from as_it_was = inr refl
front_of_step from (with_step s part) = inl (same_extent from part)

either_front : (t : ℕ) (h after : History) (write : Write) (name bytes zone : List ℕ) → needed_zone h write ≡ Some name → needed_zone after write ≡ Some zone → Extends h after
    → (Extends (steps.Zone (moment_of t) name bytes upon h) after × Quietly (steps.Zone (moment_of t) name bytes upon h) after) ⊎ Extends after (steps.Zone (moment_of t) name bytes upon h) → after ≡ h
either_front t h after write name bytes zone needs wants from (inl behind) =
    absurd (never_twice h after (zone_of write) name zone (bytes_quietly behind.1 name (has_bytes t name bytes h)) (sym (needed_is h write) ∙ needs) (sym (needed_is after write) ∙ wants))
either_front t h after write name bytes zone needs wants from (inr part) =
    elim (front_of_step from part) [
      | inl same ↦ same
      | inr zoned ↦ absurd (never_twice h after (zone_of write) name zone
          (ap (λ (x : History). is_some (bytes_of x name)) zoned ∙ has_bytes t name bytes h)
          (sym (needed_is h write) ∙ needs) (sym (needed_is after write) ∙ wants))
    ]

zoned_front : (c : Calendar) (t : ℕ) (h after whole : History) (write : Write) (name zone : List ℕ) (bytes : Option (List ℕ)) → needed_zone h write ≡ Some name
    → not (some_pass (is_zone c) bytes) ≡ false → Quietly (zone_step t name bytes h) whole → Extends h after → Extends after whole → needed_zone after write ≡ Some zone → after ≡ h
zoned_front c t h after whole write name zone None needs has quiet from part wants = cc has
zoned_front c t h after whole write name zone (Some bytes) needs has quiet from part wants =
    elim (one_extends part (extends_quietly quiet)) [
      | inl behind ↦ either_front t h after write name bytes zone needs wants from (inl (behind, quiet_front quiet behind part))
      | inr before ↦ either_front t h after write name bytes zone needs wants from (inr before)
    ]

accepted_front : (c : Calendar) (source : ZoneSource) (t : ℕ) (h after whole : History) (write : Write) (zone : List ℕ) (needed : Option (List ℕ)) → needed_zone h write ≡ needed
    → lacks_zone c source needed ≡ false → Quietly (with_zone source t needed h) whole → Extends h after → Extends after whole → needed_zone after write ≡ Some zone → after ≡ h
accepted_front c source t h after whole write zone None needs has quiet from part wants =
    absurd (never_new h after (zone_of write) zone (quiet_front quiet from part) (sym (needed_is h write) ∙ needs) (sym (needed_is after write) ∙ wants))
accepted_front c source t h after whole write zone (Some name) needs has quiet from part wants =
    zoned_front c t h after whole write name zone (source name) needs has quiet from part wants

-- a front of what a write adds, behind which its zone is still wanted, is nothing
pub front_wanting_zone : (c : Calendar) (source : ZoneSource) (t : ℕ) (h after whole : History) (write : Write) (words left zone : List ℕ) (answer : Result Reply Refusal)
    → ServesWrite c source t h write words whole left answer → Extends h after → Extends after whole → needed_zone after write ≡ Some zone → after ≡ h
front_wanting_zone c source t h after whole write words left zone answer (inl (same, inl repeats)) from part wants = same_extent from (subst (Extends after) repeats.unchanged part)
front_wanting_zone c source t h after whole write words left zone answer (inl (same, inr (inl clashes))) from part wants = same_extent from (subst (Extends after) clashes.unchanged part)
front_wanting_zone c source t h after whole write words left zone answer (inl (same, inr (inr (inl faults)))) from part wants = same_extent from (subst (Extends after) faults.unchanged part)
front_wanting_zone c source t h after whole write words left zone answer (inl (same, inr (inr (inr lacks)))) from part wants = same_extent from (subst (Extends after) lacks.unchanged part)
front_wanting_zone c source t h after whole write words left zone answer (inr accepts) from part wants =
    accepted_front c source t h after whole write zone (needed_zone h write) refl accepts.zone
    (subst (Quietly (with_zone source t (needed_zone h write) h)) (sym accepts.added) (quiet_step (steps.Change (moment_of t) write) tt (catch_quiet accepts.caught_up nothing_said)))
    from part wants
