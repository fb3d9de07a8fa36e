-- The sides of a civil second, read from a zone's text, are those that the library gives for the zone.
use Rattle.std.proofs.Common.{◌≡◌, ℕ, zero, suc, ◌+◌, ◌-◌, ◌<◌, ◌≤◌, ◌==◌, ℤ, pos, Bool, true, false, not, cond, int_le, int_lt, if◌then◌else◌, Option, Some, None, List, [], ◌∷◌, length, map, refl, sym, ap, ◌∙◌, arith, vec_len}
use Rattle.std.specs.Prelude.{option_map}
use Rattle.std.specs.List.{prefix_len}
use Rattle.std.proofs.lemmas.Bool.Decides.{nat_tests}
use Rattle.std.proofs.lemmas.Grind.{common_steps}
use Rattle.std.proofs.lemmas.List.{get_or-map}
use Rattle.std.proofs.lemmas.List.Sums.{prefix_len-le-length}
use Rattle.jiff_core.specs.DateTime.{civil_nanos, civil_seconds}
use Rattle.jiff_core.specs.Timestamp.{nanos_of_seconds}
use Rattle.jiff_core.specs.declared.Offset.{Offset}
use Rattle.jiff_core.specs.declared.civil.datetime.DateTime.{DateTime}
use Rattle.jiff_core.proofs.SignedLemmas.{signed_arith}
use Rattle.jiff_tz.specs.PosixRule.{match_some, rule_nanos, in_window, in_span, saturating_add, saturating_sub, shift_between, ambiguous_behind, ambiguous_ahead, ambiguous_by, ambiguous_at_by}
use Rattle.jiff_tz.specs.PosixRule as Posix
use Rattle.jiff_tz.specs.PosixText.{dst_view, tz_view}
use Rattle.jiff_tz.specs.Tzif as Table
use Rattle.jiff_tz.specs.Tzif.{tzif_view, transition_at, no_transition, civil_count_at, is_inside, offsets_in}
use Rattle.jiff_tz.specs.TzifText.{TransitionText, transition_text, no_row, civil_start, civil_end}
use Rattle.jiff_tz.specs.Zone.{utc_offset}
use Rattle.jiff_tz.specs.declared.ambiguous.AmbiguousOffset.{AmbiguousOffset}
use Rattle.jiff_tz.specs.declared.ambiguous.AmbiguousOffset.TheVariants.{Unambiguous, Gap, Fold}
use Rattle.jiff_tz.specs.declared.posix.Dst.{Dst}
use Rattle.jiff_tz.specs.declared.posix.TimeZone.{TimeZone as Rule}
use Rattle.jiff_tz.specs.declared.tzif.Tzif.{Tzif}
use Rattle.jiff_tz.specs.declared.tzif.transition.Transition.{Transition}
use Rattle.zone_occ.specs.Sides.{Sides, once, sides_ahead, sides_behind, sides_between, wall_window, rule_sides, rows_begun, last_row, is_changing, row_sides, offset_after, rule_after, sides_after, table_sides_after, table_sides, sides}
use Rattle.zone_occ.specs.declared.zone.Kind.{Kind}
use Rattle.zone_occ.specs.declared.zone.Kind.TheVariants as kinds
use Rattle.zone_occ.specs.ZoneText.{rule, table}
use Rattle.zone_occ.specs.Kind.{kind_text, sides_of}

-- a choice among four offsets is one among their sides
of_four : (a b c : Bool) (w x y z : AmbiguousOffset) → sides_of (cond a w (cond b x (cond c y z))) ≡ cond a (sides_of w) (cond b (sides_of x) (cond c (sides_of y) (sides_of z)))
of_four true b c w x y z = refl
of_four false true c w x y z = refl
of_four false false true w x y z = refl
of_four false false false w x y z = refl

-- the same among two
of_two : (a : Bool) (x y : AmbiguousOffset) → sides_of (cond a x y) ≡ cond a (sides_of x) (sides_of y)
of_two true x y = refl
of_two false x y = refl

-- the same among three that have these sides
of_three : (a b : Bool) (x y z : AmbiguousOffset) (p q r : Sides) → sides_of x ≡ p → sides_of y ≡ q → sides_of z ≡ r → sides_of (cond a x (cond b y z)) ≡ cond a p (cond b q r)
of_three true b x y z p q r e f g = e
of_three false true x y z p q r e f g = f
of_three false false x y z p q r e f g = g

ahead : (std dst : Offset) (w : ℤ × ℤ) (at : ℤ) → sides_of (ambiguous_ahead std dst w at) ≡ sides_ahead std.seconds dst.seconds w at
ahead std dst w at =
    of_four (not (in_window w at)) (in_span w.0 (saturating_add w.0 (shift_between std dst)) at)
    (in_span (saturating_sub w.1 (shift_between std dst)) w.1 at)
    (Unambiguous std) (Gap std dst) (Fold dst std) (Unambiguous dst)

behind : (std dst : Offset) (w : ℤ × ℤ) (at : ℤ) → sides_of (ambiguous_behind std dst w at) ≡ sides_behind std.seconds dst.seconds w at
behind std dst w at =
    of_four (in_window w at) (in_span (saturating_add w.0 (shift_between std dst)) w.0 at)
    (in_span w.1 (saturating_sub w.1 (shift_between std dst)) at)
    (Unambiguous dst) (Fold std dst) (Gap dst std) (Unambiguous std)

between : (std dst : Offset) (w : ℤ × ℤ) (at : ℤ) → sides_of (ambiguous_by std dst w at) ≡ sides_between std.seconds dst.seconds w at
between std dst w at =
    of_three (int_lt dst.seconds std.seconds) (int_lt std.seconds dst.seconds)
    (ambiguous_behind std dst w at) (ambiguous_ahead std dst w at) (Unambiguous std)
    (sides_behind std.seconds dst.seconds w at) (sides_ahead std.seconds dst.seconds w at) (once std.seconds)
    (behind std dst w at) (ahead std dst w at) refl

-- the offsets that a rule gives a moment of a year
abbrev pub rule_offsets : Offset → Option Dst → ℤ → ℤ → AmbiguousOffset
rule_offsets std None year at = Unambiguous std
rule_offsets std (Some dst) year at =
    ambiguous_by std dst.offset (rule_nanos year dst.rule.start (pos 0), rule_nanos year dst.rule.end (pos 0)) at

dst_sides : (std : Offset) (dst : Option Dst) (year second : ℤ) → sides_of (rule_offsets std dst year (nanos_of_seconds second)) ≡ match_some (option_map dst_view dst) (once std.seconds) (λ dst. sides_between std.seconds dst.seconds (wall_window year dst) (nanos_of_seconds second))
unfolding rule_nanos
dst_sides std None year second = refl
dst_sides std (Some dst) year second =
    between std dst.offset (rule_nanos year dst.rule.start (pos 0), rule_nanos year dst.rule.end (pos 0)) (nanos_of_seconds second)

-- of a rule
rule_same : (tz : Rule) (year second : ℤ) → sides_of (rule_offsets tz.std_offset tz.dst year (nanos_of_seconds second)) ≡ rule_sides (tz_view tz) year second
rule_same tz year second = dst_sides tz.std_offset tz.dst year second

-- counting rows by what they show
prefix_len-map : {A B : Type 0} (f : A → B) (p : B → Bool) (xs : List A) → prefix_len p (map f xs) ≡ prefix_len (λ x. p (f x)) xs
prefix_len-map f p [] = refl
prefix_len-map f p (x ∷ xs) = ap (λ n. cond (p (f x)) (1 + n) 0) (prefix_len-map f p xs)

abbrev items : Tzif → List Transition
items z = z.transitions.items

abbrev rows : Tzif → List TransitionText
rows z = map transition_text (items z)

begun : (z : Tzif) (second : ℤ) → rows_begun (rows z) second ≡ civil_count_at z second
begun z second = prefix_len-map transition_text (λ row. int_le (civil_start row) second) (items z)

-- the offsets that a table gives a second of a year after so many rows
abbrev table_offsets_after : Tzif → ℕ → ℤ → ℤ → AmbiguousOffset
table_offsets_after z count year second = match_some (Table.rule_after z count)
    (Unambiguous (Table.type_after z count).offset)
    (λ tz. rule_offsets tz.std_offset tz.dst year (nanos_of_seconds second))

-- the offsets that a table gives a second of a year
abbrev pub table_offsets : Tzif → ℤ → ℤ → AmbiguousOffset
table_offsets z year second =
    if is_inside z (civil_count_at z second) second
    then offsets_in (transition_at z (civil_count_at z second - 1))
    else table_offsets_after z (civil_count_at z second) year second

row_same : (t : Transition) → sides_of (offsets_in t) ≡ row_sides (transition_text t)
row_same t = of_two (int_lt t.before.seconds t.after.offset.seconds) (Gap t.before t.after.offset) (Fold t.before t.after.offset)

last_same : (z : Tzif) (count : ℕ) → 0 < count → count ≤ length (items z) → transition_text (transition_at z (count - 1)) ≡ last_row (rows z) count
last_same z count some within = sym (get_or-map transition_text (items z) (count - 1) (no_transition z) no_row (omega arith))

-- the offset after so many rows
offset_same : (z : Tzif) (count : ℕ) → count ≤ length (items z) → offset_after (tzif_view z) count ≡ (Table.type_after z count).offset.seconds
offset_same z zero h = refl
offset_same z (suc k) h =
    let some : (suc k == 0) ≡ false = grind (arith, nat_tests) in
    rw some (ap (λ row. row.after.seconds) (sym (last_same z (suc k) (omega arith) h)))

chosen_rule : (b : Bool) (o : Option Rule) → cond b (option_map tz_view o) None ≡ option_map tz_view (cond b o None)
chosen_rule true o = refl
chosen_rule false o = refl

rule_after_same : (z : Tzif) (count : ℕ) → rule_after (tzif_view z) count ≡ option_map tz_view (Table.rule_after z count)
rule_after_same z count =
    let len : length (rows z) ≡ vec_len z.transitions = grind (arith, common_steps) in
    rw len (chosen_rule (count == vec_len z.transitions) z.posix_tz)

by_rule : (offset : Offset) (seconds : ℤ) (o : Option Rule) (year second : ℤ) → offset.seconds ≡ seconds → sides_of (match_some o (Unambiguous offset) (λ tz. rule_offsets tz.std_offset tz.dst year (nanos_of_seconds second))) ≡ match_some (option_map tz_view o) (once seconds) (λ rule_text. rule_sides rule_text year second)
by_rule offset seconds None year second e = ap once e
by_rule offset seconds (Some tz) year second e = rule_same tz year second

after_same : (z : Tzif) (count : ℕ) (year second : ℤ) → count ≤ length (items z) → sides_of (table_offsets_after z count year second) ≡ sides_after (tzif_view z) count year second
after_same z count year second h =
    rw (rule_after_same z count)
    (by_rule (Table.type_after z count).offset (offset_after (tzif_view z) count) (Table.rule_after z count) year second (sym (offset_same z count h)))

-- whether the last row is changing the clock
changing_same : (z : Tzif) (count : ℕ) (second : ℤ) → count ≤ length (items z) → is_changing (rows z) count second ≡ is_inside z count second
changing_same z zero second h = refl
changing_same z (suc k) second h =
    let some : (suc k == 0) ≡ false = grind (arith, nat_tests) in
    rw some (ap (λ row. int_lt second (civil_end row)) (sym (last_same z (suc k) (omega arith) h)))

of_both : (a : Bool) (x y : AmbiguousOffset) (p q : Sides) → sides_of x ≡ p → sides_of y ≡ q → sides_of (cond a x y) ≡ cond a p q
of_both true x y p q e f = e
of_both false x y p q e f = f

count_same : (z : Tzif) (count : ℕ) (year second : ℤ) → count ≤ length (items z) → sides_of (cond (is_inside z count second) (offsets_in (transition_at z (count - 1))) (table_offsets_after z count year second)) ≡ table_sides_after (tzif_view z) count year second
count_same z zero year second h = after_same z zero year second h
count_same z (suc k) year second h =
    rw (changing_same z (suc k) second h)
    (of_both (is_inside z (suc k) second) (offsets_in (transition_at z (suc k - 1))) (table_offsets_after z (suc k) year second)
    (row_sides (last_row (rows z) (suc k))) (sides_after (tzif_view z) (suc k) year second)
    (row_same (transition_at z (suc k - 1)) ∙ ap row_sides (last_same z (suc k) (omega arith) h))
    (after_same z (suc k) year second h))

-- of a table
table_same : (z : Tzif) (year second : ℤ) → sides_of (table_offsets z year second) ≡ table_sides (tzif_view z) year second
table_same z year second =
    rw (begun z second) (count_same z (civil_count_at z second) year second (prefix_len-le-length _ (items z)))

-- the offsets that each kind of zone gives a second of a year
abbrev pub kind_offsets : Kind → ℤ → ℤ → AmbiguousOffset
kind_offsets kinds.Utc year second = Unambiguous utc_offset
kind_offsets (kinds.Rule tz) year second = rule_offsets tz.std_offset tz.dst year (nanos_of_seconds second)
kind_offsets (kinds.Table z) year second = table_offsets z year second

-- have the sides that the zone's text says
pub kind_same : (kind : Kind) (year second : ℤ) → sides_of (kind_offsets kind year second) ≡ sides (kind_text kind) year second
unfolding sides
kind_same kinds.Utc year second = refl
kind_same (kinds.Rule tz) year second = rule_same tz year second
kind_same (kinds.Table z) year second = table_same z year second

-- a datetime that is a whole second
whole_second : (dt : DateTime) → dt.time.subsec_nanosecond ≡ 0 → civil_nanos dt ≡ nanos_of_seconds (civil_seconds dt)
unfolding civil_nanos civil_seconds
whole_second dt whole = omega (arith, signed_arith)

at_dst : (std : Offset) (dst : Option Dst) (dt : DateTime) → civil_nanos dt ≡ nanos_of_seconds (civil_seconds dt) → ambiguous_at_by std dst dt ≡ rule_offsets std dst dt.date.year (nanos_of_seconds (civil_seconds dt))
at_dst std None dt e = refl
at_dst std (Some dst) dt e =
    ap (λ at. ambiguous_by std dst.offset (rule_nanos dt.date.year dst.rule.start (pos 0), rule_nanos dt.date.year dst.rule.end (pos 0)) at) e

-- the library's answer of a rule
pub rule_answer : (tz : Rule) (dt : DateTime) → dt.time.subsec_nanosecond ≡ 0 → sides_of (Posix.ambiguous_at tz dt) ≡ sides (rule (tz_view tz)) dt.date.year (civil_seconds dt)
rule_answer tz dt whole =
    ap sides_of (at_dst tz.std_offset tz.dst dt (whole_second dt whole)) ∙ kind_same (kinds.Rule tz) dt.date.year (civil_seconds dt)

at_rule : (offset : Offset) (o : Option Rule) (dt : DateTime) → civil_nanos dt ≡ nanos_of_seconds (civil_seconds dt) → match_some o (Unambiguous offset) (λ tz. Posix.ambiguous_at tz dt) ≡ match_some o (Unambiguous offset) (λ tz. rule_offsets tz.std_offset tz.dst dt.date.year (nanos_of_seconds (civil_seconds dt)))
at_rule offset None dt e = refl
at_rule offset (Some tz) dt e = at_dst tz.std_offset tz.dst dt e

-- the library's answer of a table
pub table_answer : (z : Tzif) (dt : DateTime) → dt.time.subsec_nanosecond ≡ 0 → sides_of (Table.ambiguous_at z dt) ≡ sides (table (tzif_view z)) dt.date.year (civil_seconds dt)
table_answer z dt whole =
    let count = civil_count_at z (civil_seconds dt) in
    let after = at_rule (Table.type_after z count).offset (Table.rule_after z count) dt (whole_second dt whole) in
    ap (λ o. sides_of (cond (is_inside z count (civil_seconds dt)) (offsets_in (transition_at z (count - 1))) o)) after
    ∙ kind_same (kinds.Table z) dt.date.year (civil_seconds dt)
