-- The bytes that a source answers, and what it has by that.
use Rattle.std.proofs.Common.{◌≡◌, ℕ, ◌≤◌, Bool, true, false, not, ◌&&◌, Option, Some, None, List, length, take, refl, ap, sym, subst, ◌∙◌, arith, inl, inr}
use Rattle.std.specs.Prelude.{nat_le}
use Rattle.std.specs.Option.{option_map}
use Rattle.std.proofs.lemmas.Bool.{cases_lt, lt-leb, leb-true}
use Rattle.std.proofs.lemmas.List.{take_all, length-take-le}
use Rattle.plain_words.proofs.Booleans.{and_second}
use Rattle.plain_words.specs.Lists.{some_pass}
use Rattle.plain_words.specs.declared.limits.TheConstants.{LONGEST_ZONE}
use Rattle.zone_occ.specs.declared.zone_files.TheConstants.{LONGEST_ANSWER}
use Rattle.zone_occ.specs.declared.zone_files.NamedZone.{NamedZone}
use Rattle.zone_occ.specs.declared.zone_files.ZoneAnswer.TheVariants.{Present, Absent}
use Rattle.zone_occ.specs.Files.{IsTold, answer_of, zone_named}
use Rattle.sched_calls.specs.Serves.{ZoneSource, is_zone, lacks_zone}
use Rattle.book_parts.specs.Stands.{calendar}
use Rattle.durable_writes.specs.declared.write_fault.WriteFault.{WriteFault}
use Rattle.durable_writes.specs.declared.write_fault.WriteFault.TheVariants as faults
use Rattle.durable_writes.specs.Writing.{bytes_under}
use Rattle.durable_writes.specs.Zoning.{IsHad, IsLacked, IsNotHad, TellsLack}

-- an answer of a zone's bytes: there is one, and these are its first ones
pub present_of : (zone : Option NamedZone) (bytes : List ℕ) → Present bytes ≡ answer_of zone → (its : NamedZone) × (zone ≡ Some its) × (bytes ≡ take LONGEST_ANSWER its.bytes)
present_of None bytes e = cc e
present_of (Some its) bytes e = (its, refl, cc e)

absent_of : (zone : Option NamedZone) → Absent ≡ answer_of zone → zone ≡ None
absent_of None e = refl
absent_of (Some its) e = cc e

-- bytes whose first ones are a zone are that zone
whole_zone : (bytes : List ℕ) → is_zone calendar (take LONGEST_ANSWER bytes) ≡ true → take LONGEST_ANSWER bytes ≡ bytes
whole_zone bytes is =
    let short : length (take LONGEST_ANSWER bytes) ≤ LONGEST_ZONE =
    leb-true (length (take LONGEST_ANSWER bytes)) LONGEST_ZONE (and_second (calendar.readable (take LONGEST_ANSWER bytes)) (nat_le (length (take LONGEST_ANSWER bytes)) LONGEST_ZONE) is) in
    elim (cases_lt LONGEST_ANSWER (length bytes)) [
      | inl past ↦ let long = length-take-le LONGEST_ANSWER bytes (omega (arith, past)) in absurd (omega (arith, long, short))
      | inr within ↦ take_all LONGEST_ANSWER bytes within
    ]

and_false : (a b : Bool) → b ≡ false → (a && b) ≡ false
and_false true b e = e
and_false false b e = refl

-- bytes whose first ones are none are none
no_zone : (bytes : List ℕ) → is_zone calendar (take LONGEST_ANSWER bytes) ≡ false → is_zone calendar bytes ≡ false
no_zone bytes is =
    elim (cases_lt LONGEST_ZONE (length bytes)) [
      | inl past ↦ and_false (calendar.readable bytes) (nat_le (length bytes) LONGEST_ZONE) (lt-leb (length bytes) LONGEST_ZONE past)
      | inr within ↦ subst (λ (b : List ℕ). is_zone calendar b ≡ false) (take_all LONGEST_ANSWER bytes (omega (arith, within))) is
    ]

pub is_had : (zones : Option (List NamedZone)) (name bytes : List ℕ) → IsTold zones name (Present bytes) → is_zone calendar bytes ≡ true → IsHad zones name bytes
is_had None name bytes answer is = record { source = λ other. Some bytes; telling = tt; had = refl }
is_had (Some zones) name bytes answer is =
    let there = present_of (zone_named zones name) bytes answer in
    let whole : take LONGEST_ANSWER there.0.bytes ≡ there.0.bytes = whole_zone there.0.bytes (subst (λ (b : List ℕ). is_zone calendar b ≡ true) there.2 is) in
    record {
      source = bytes_under zones;
      telling = λ other. refl;
      had = ap (option_map {T = NamedZone} (λ zone. zone.bytes)) there.1 ∙ ap (λ (b : List ℕ). Some b) (sym (there.2 ∙ whole));
    }

lacks_these : (source : ZoneSource) (name : List ℕ) (bytes : Option (List ℕ)) → source name ≡ bytes → some_pass (is_zone calendar) bytes ≡ false → lacks_zone calendar source (Some name) ≡ true
lacks_these source name bytes is none = (λ i. not (some_pass (is_zone calendar) (is i))) ∙ ap not none

pub is_lacked : (zones : Option (List NamedZone)) (name bytes : List ℕ) → IsTold zones name (Present bytes) → is_zone calendar bytes ≡ false → IsLacked zones name
is_lacked None name bytes answer is =
    record { source = λ other. Some bytes; telling = tt; lacks = lacks_these (λ other. Some bytes) name (Some bytes) refl is }
is_lacked (Some zones) name bytes answer is =
    let there = present_of (zone_named zones name) bytes answer in
    record {
      source = bytes_under zones;
      telling = λ other. refl;
      lacks = lacks_these (bytes_under zones) name (Some there.0.bytes) (ap (option_map {T = NamedZone} (λ zone. zone.bytes)) there.1)
          (no_zone there.0.bytes (subst (λ (b : List ℕ). is_zone calendar b ≡ false) there.2 is));
    }

pub is_absent : (zones : Option (List NamedZone)) (name : List ℕ) → IsTold zones name Absent → IsLacked zones name
is_absent None name answer = record { source = λ other. None; telling = tt; lacks = refl }
is_absent (Some zones) name answer =
    record {
      source = bytes_under zones;
      telling = λ other. refl;
      lacks = lacks_these (bytes_under zones) name None (ap (option_map {T = NamedZone} (λ zone. zone.bytes)) (absent_of (zone_named zones name) answer)) refl;
    }

-- what is told where it is lacked
pub not_had : (zones : Option (List NamedZone)) (name : List ℕ) (Lack : Type 0) (fault : WriteFault) → (Lack → IsLacked zones name) → TellsLack Lack fault → IsNotHad zones name fault
not_had zones name Lack (faults.Refused refusal) lacks tells = (tells.0, lacks tells.1)
not_had zones name Lack (faults.Full end need) lacks tells = absurd tells
not_had zones name Lack faults.DiskFault lacks tells = absurd tells
not_had zones name Lack faults.ZoneFailed lacks tells = absurd tells
not_had zones name Lack faults.OutOfMemory lacks tells = tt
