-- What the calendar of real time zones says.
use Rattle.std.proofs.Common.{◌≡◌, ℕ, ◌==◌, pos, ◌-ℤ◌, Bool, true, false, ◌&&◌, Some, refl, sym, ap, ◌∙◌, arith}
use Rattle.std.proofs.lemmas.Bool.{and_parts, and_from}
use Rattle.std.proofs.lemmas.Bool.Decides.{nat_tests}
use Rattle.std.proofs.lemmas.Option.{same_Some}
use Rattle.jiff_core.proofs.SignedLemmas.{signed_arith}
use Rattle.expressions.specs.declared.expression.Civil.{Civil}
use Rattle.expressions.specs.declared.expression.Expr.TheVariants.{At}
use Rattle.expressions.specs.CivilSeconds.{is_civil, civil_second}
use Rattle.plain_words.specs.Lists.{some_pass}
use Rattle.expressions.proofs.RealSeconds.{is_civil-true}
use Rattle.zone_occ.specs.ZoneText.{utc}
use Rattle.zone_occ.specs.Sides.{sides}
use Rattle.zone_occ.specs.Conversion.{conv}
use Rattle.zone_occ.specs.Instants.{is_instant}
use Rattle.zone_occ.specs.ZoneCalendar.{zone_calendar, HasAtsInUtc, HasZones}
use Rattle.civil_time.proofs.CivilSeconds.{civil_second-high}
use Rattle.zone_occ.proofs.InstantLaws.{from_at, at_fact, at_real}

conv_utc : (d : Civil) → conv utc d ≡ Some (pos (civil_second d) -ℤ pos 0)
unfolding sides
conv_utc d = refl

-- two tests that pass alike are one
same_tests : (a b : Bool) → (a ≡ true → b ≡ true) → (b ≡ true → a ≡ true) → a ≡ b
same_tests true true there back = refl
same_tests true false there back = sym (there refl)
same_tests false true there back = back refl
same_tests false false there back = refl

at_second : (d : Civil) (anchor moment : ℕ) → is_instant (At d) utc anchor moment ≡ true → (is_civil d && moment == civil_second d) ≡ true
at_second d anchor moment test =
    let shown = same_Some _ _ (sym (conv_utc d) ∙ (at_fact utc d anchor moment test).shown) in
    let same : moment ≡ civil_second d = omega (arith, signed_arith) in
    and_from (is_civil d) (moment == civil_second d) (at_real utc d anchor moment test) (grind (arith, nat_tests))

second_at : (d : Civil) (anchor moment : ℕ) → (is_civil d && moment == civil_second d) ≡ true → is_instant (At d) utc anchor moment ≡ true
second_at d anchor moment test =
    let parts = and_parts (is_civil d) (moment == civil_second d) test in
    let real = is_civil-true d parts.0 in
    let same : moment ≡ civil_second d = let h = parts.1 in grind (arith, nat_tests) in
    let high = civil_second-high d real in
    let number : pos (civil_second d) -ℤ pos 0 ≡ pos moment = omega (arith, signed_arith) in
    from_at utc d anchor moment real (record { in_time = omega arith; shown = conv_utc d ∙ ap (λ x. Some x) number })

pub ats_in_utc : HasAtsInUtc zone_calendar
ats_in_utc d anchor moment =
    same_tests (is_instant (At d) utc anchor moment) (is_civil d && moment == civil_second d)
    (at_second d anchor moment) (second_at d anchor moment)

pub zones : HasZones zone_calendar
zones expr bytes zone anchor moment is = ap (some_pass (λ z. is_instant expr z anchor moment)) is
