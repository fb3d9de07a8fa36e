-- What a source's answer says of the zone under a word.
use Rattle.std.proofs.Common.{◌≡◌, ℕ, ◌<◌, ◌≤◌, Bool, true, Option, Some, None, Ok, List, length, take, refl, ap, sym, ◌∙◌, arith, inl, inr, lt-ltb}
use Rattle.std.specs.Prelude.{if◌then◌else◌, codes}
use Rattle.std.specs.Option.{option_map}
use Rattle.std.proofs.lemmas.Bool.{cases_lt}
use Rattle.std.proofs.lemmas.List.{take_all, length-take-le}
use Rattle.plain_words.specs.declared.limits.TheConstants.{LONGEST_ZONE}
use Rattle.plain_words.specs.Lists.{same_text}
use Rattle.zone_occ.specs.declared.zone_files.TheConstants.{LONGEST_ANSWER}
use Rattle.zone_occ.specs.declared.zone_files.NamedZone.{NamedZone}
use Rattle.zone_occ.specs.declared.zone_files.ZoneAnswer.TheVariants.{Present}
use Rattle.zone_occ.specs.Files.{IsTold, answer_of, zone_named}
use Rattle.zone_occ.specs.ZoneBytes.{zone_of, read_zone}
use Rattle.zone_occ.specs.ZoneText.{utc}
use Rattle.next_command.specs.declared.zone_found.ZoneFound.{ZoneFound}
use Rattle.next_command.specs.declared.zone_found.ZoneFound.TheVariants as founds
use Rattle.next_command.specs.Answers.{MayHave, bytes_under, zone_in, zone_read}
use Rattle.next_command.specs.Finding.{IsFound, IsFoundNamed, told_of}

-- too many bytes are no zone
too_long : (bytes : List ℕ) → LONGEST_ZONE < length bytes → zone_of bytes ≡ None
too_long bytes past = ap (λ (b : Bool). if b then None else read_zone bytes) (lt-ltb LONGEST_ZONE (length bytes) past)

-- the first bytes of an answer are a zone where all of them are
same_zone : (bytes : List ℕ) → zone_of (take LONGEST_ANSWER bytes) ≡ zone_of bytes
same_zone bytes =
    elim (cases_lt LONGEST_ZONE (length bytes)) [
      | inl past ↦
          let long = length-take-le LONGEST_ANSWER bytes (omega (arith, past)) in
          too_long (take LONGEST_ANSWER bytes) (omega (arith, long)) ∙ sym (too_long bytes past)
      | inr within ↦ ap zone_of (take_all LONGEST_ANSWER bytes (omega (arith, within)))
    ]

-- an answer of a zone's bytes: there is one, and these are its first ones
present_of : (zone : Option NamedZone) (bytes : List ℕ) → Present bytes ≡ answer_of zone → (its : NamedZone) × (zone ≡ Some its) × (bytes ≡ take LONGEST_ANSWER its.bytes)
present_of None bytes e = cc e
present_of (Some its) bytes e = (its, refl, cc e)

-- the answer of bytes, and what they are
pub present : (zones : Option (List NamedZone)) (name bytes : List ℕ) (found : ZoneFound) → IsTold zones name (Present bytes)
    → zone_in (Some bytes) ≡ told_of found → IsFoundNamed zones name found
present None name bytes found answer is = record { bytes = Some bytes; had = tt; is = is }
present (Some zones) name bytes found answer is =
    let (its, there, first) = present_of (zone_named zones name) bytes answer in
    record {
      bytes = Some its.bytes;
      had = sym (ap (option_map {T = NamedZone} (λ zone. zone.bytes)) there);
      is = ap zone_read (sym (same_zone its.bytes)) ∙ ap (λ (b : List ℕ). zone_read (zone_of b)) (sym first) ∙ is;
    }

-- UTC is built in
had_under : (zones : Option (List NamedZone)) (name : List ℕ) → (bytes : Option (List ℕ)) × MayHave zones name bytes
had_under None name = (None, tt)
had_under (Some zones) name = (bytes_under zones name, refl)

pub built_in : (zones : Option (List NamedZone)) (name : List ℕ) → same_text name (codes "UTC") ≡ true → IsFound zones name (founds.Zone utc)
built_in zones name is =
    let (bytes, had) = had_under zones name in
    record { bytes = bytes; had = had; is = ap (λ (b : Bool). if b then Ok utc else zone_in bytes) is }
