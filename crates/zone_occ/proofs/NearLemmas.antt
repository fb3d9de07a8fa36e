-- Each instant lies between the least and the greatest offset of its zone from its civil second.
use Rattle.std.proofs.Common.{◌≡◌, ℕ, zero, suc, ◌-◌, ◌==◌, ◌<◌, ◌≤◌, ℤ, pos, ◌-ℤ◌, Bool, true, false, not, cond, int_lt, Option, Some, None, List, [], ◌∷◌, length, get_or, arith}
use Rattle.std.specs.Int.{int_max}
use Rattle.std.proofs.lemmas.Int.{clamps}
use Rattle.std.proofs.lemmas.Option.{same_Some}
use Rattle.std.proofs.lemmas.List.Sums.{prefix_len-le-length}
use Rattle.jiff_core.proofs.SignedLemmas.{signed_arith}
use Rattle.jiff_core.specs.Timestamp.{nanos_of_seconds}
use Rattle.jiff_tz.specs.PosixRule.{match_some, in_window, in_span, saturating_add, saturating_sub}
use Rattle.jiff_tz.specs.PosixText.{DstText, TzText}
use Rattle.jiff_tz.specs.TzifReader.{TzifText}
use Rattle.jiff_tz.specs.TzifText.{TransitionText, no_row}
use Rattle.expressions.specs.CivilSeconds.{civil_second}
use Rattle.zone_occ.specs.declared.offset_bounds.OffsetBounds.{OffsetBounds}
use Rattle.zone_occ.specs.ZoneText.{ZoneText, utc, rule, table}
use Rattle.zone_occ.specs.Sides.{Sides, once, never, twice, shift, sides_ahead, sides_behind, sides_between, wall_window, rule_sides, rows_begun, last_row, is_changing, row_sides, offset_after, sides_after, table_sides_after, sides}
use Rattle.zone_occ.specs.Offsets.{only, widened, with_dst, with_rule, with_row, with_rows, table_bounds, bounds, IsInBounds}
use Rattle.zone_occ.specs.Conversion.{instant_by, IsNear}

-- ---- sides within bounds

abbrev AreIn : OffsetBounds → Sides → Type 0
AreIn b (once x) = IsInBounds b x
AreIn b never = Unit {0}
AreIn b (twice x y) = IsInBounds b x × IsInBounds b y

either : (b : OffsetBounds) (test : Bool) (x y : Sides) → AreIn b x → AreIn b y → AreIn b (cond test x y)
either b true x y h k = h
either b false x y h k = k

ahead_in : (b : OffsetBounds) (std dst : ℤ) (w : ℤ × ℤ) (at : ℤ) → IsInBounds b std → IsInBounds b dst → AreIn b (sides_ahead std dst w at)
ahead_in b std dst w at s d =
    let skipped : Bool = in_span w.0 (saturating_add w.0 (shift std dst)) at in
    let repeated : Bool = in_span (saturating_sub w.1 (shift std dst)) w.1 at in
    let last : Sides = cond repeated (twice dst std) (once dst) in
    either b (not (in_window w at)) (once std) (cond skipped never last) s
    (either b skipped never last tt (either b repeated (twice dst std) (once dst) (d, s) d))

behind_in : (b : OffsetBounds) (std dst : ℤ) (w : ℤ × ℤ) (at : ℤ) → IsInBounds b std → IsInBounds b dst → AreIn b (sides_behind std dst w at)
behind_in b std dst w at s d =
    let repeated : Bool = in_span (saturating_add w.0 (shift std dst)) w.0 at in
    let skipped : Bool = in_span w.1 (saturating_sub w.1 (shift std dst)) at in
    let last : Sides = cond skipped never (once std) in
    either b (in_window w at) (once dst) (cond repeated (twice std dst) last) d
    (either b repeated (twice std dst) last (s, d) (either b skipped never (once std) tt s))

between_in : (b : OffsetBounds) (std dst : ℤ) (w : ℤ × ℤ) (at : ℤ) → IsInBounds b std → IsInBounds b dst → AreIn b (sides_between std dst w at)
between_in b std dst w at s d =
    either b (int_lt dst std) (sides_behind std dst w at) (cond (int_lt std dst) (sides_ahead std dst w at) (once std)) (behind_in b std dst w at s d)
    (either b (int_lt std dst) (sides_ahead std dst w at) (once std) (ahead_in b std dst w at s d) s)

-- ---- bounds that are widened

keeps : (b : OffsetBounds) (x o : ℤ) → IsInBounds b o → IsInBounds (widened b x) o
keeps b x o h = let low = h.0 in let high = h.1 in (omega (arith, signed_arith, clamps), omega (arith, signed_arith, clamps))

takes : (b : OffsetBounds) (x : ℤ) → IsInBounds (widened b x) x
takes b x = (omega (arith, signed_arith, clamps), omega (arith, signed_arith, clamps))

one_in : (x : ℤ) → IsInBounds (only x) x
one_in x = (omega (arith, signed_arith), omega (arith, signed_arith))

dst_keeps : (b : OffsetBounds) (dst : Option DstText) (o : ℤ) → IsInBounds b o → IsInBounds (with_dst b dst) o
dst_keeps b None o h = h
dst_keeps b (Some dst) o h = keeps b dst.seconds o h

-- the offset of daylight saving time is within bounds
abbrev IsDstIn : OffsetBounds → Option DstText → Type 0
IsDstIn b None = Unit {0}
IsDstIn b (Some dst) = IsInBounds b dst.seconds

dst_takes : (b : OffsetBounds) (dst : Option DstText) → IsDstIn (with_dst b dst) dst
dst_takes b None = tt
dst_takes b (Some dst) = takes b dst.seconds

rule_keeps : (b : OffsetBounds) (text : TzText) (o : ℤ) → IsInBounds b o → IsInBounds (with_rule b text) o
rule_keeps b text o h = dst_keeps (widened b text.std_seconds) text.dst o (keeps b text.std_seconds o h)

row_keeps : (b : OffsetBounds) (row : TransitionText) (o : ℤ) → IsInBounds b o → IsInBounds (with_row b row) o
row_keeps b row o h = keeps (widened b row.before) row.after.seconds o (keeps b row.before o h)

rows_keep : (b : OffsetBounds) (rows : List TransitionText) (o : ℤ) → IsInBounds b o → IsInBounds (with_rows b rows) o
rows_keep b [] o h = h
rows_keep b (row ∷ rows) o h = rows_keep (with_row b row) rows o (row_keeps b row o h)

-- both offsets of a row are within bounds
abbrev IsRowIn : OffsetBounds → TransitionText → Type 0
IsRowIn b row = IsInBounds b row.before × IsInBounds b row.after.seconds

rows_take : (b : OffsetBounds) (rows : List TransitionText) (k : ℕ) → k < length rows → IsRowIn (with_rows b rows) (get_or rows k no_row)
rows_take b [] k within = absurd (omega arith)
rows_take b (row ∷ rows) zero within = (
  rows_keep (with_row b row) rows row.before (keeps (widened b row.before) row.after.seconds row.before (takes b row.before)),
  rows_keep (with_row b row) rows row.after.seconds (takes (widened b row.before) row.after.seconds),
)
rows_take b (row ∷ rows) (suc k) within = rows_take (with_row b row) rows k (omega arith)

-- ---- of a rule

dst_sides_in : (b : OffsetBounds) (std : ℤ) (dst : Option DstText) (year at : ℤ) → IsInBounds b std → IsDstIn b dst → AreIn b (match_some dst (once std) (λ dst. sides_between std dst.seconds (wall_window year dst) at))
dst_sides_in b std None year at s d = s
dst_sides_in b std (Some dst) year at s d = between_in b std dst.seconds (wall_window year dst) at s d

rule_sides_in : (b : OffsetBounds) (text : TzText) (year second : ℤ) → IsInBounds b text.std_seconds → IsDstIn b text.dst → AreIn b (rule_sides text year second)
rule_sides_in b text year second s d = dst_sides_in b text.std_seconds text.dst year (nanos_of_seconds second) s d

-- ---- of a table

-- the bounds of its rows and of the rule that it may have
abbrev rows_and_rule : OffsetBounds → Option TzText → OffsetBounds
rows_and_rule rows text = match_some text rows (with_rule rows)

or_rule_keeps : (rows : OffsetBounds) (r : Option TzText) (o : ℤ) → IsInBounds rows o → IsInBounds (rows_and_rule rows r) o
or_rule_keeps rows None o h = h
or_rule_keeps rows (Some text) o h = rule_keeps rows text o h

-- the sides by the rule, where it speaks, and else the one offset
by_rule_in : (rows : OffsetBounds) (speaks : Bool) (r : Option TzText) (offset year second : ℤ) → IsInBounds (rows_and_rule rows r) offset → AreIn (rows_and_rule rows r) (match_some (cond speaks r None) (once offset) (λ text. rule_sides text year second))
by_rule_in rows false r offset year second h = h
by_rule_in rows true None offset year second h = h
by_rule_in rows true (Some text) offset year second h =
    rule_sides_in (with_rule rows text) text year second
    (dst_keeps (widened rows text.std_seconds) text.dst text.std_seconds (takes rows text.std_seconds))
    (dst_takes (widened rows text.std_seconds) text.dst)

abbrev rows_of : TzifText → OffsetBounds
rows_of text = with_rows (only text.first.seconds) text.transitions

last_in : (text : TzifText) (count : ℕ) → 0 < count → count ≤ length text.transitions → IsRowIn (table_bounds text) (last_row text.transitions count)
last_in text count some within =
    let row : TransitionText = last_row text.transitions count in
    let both = rows_take (only text.first.seconds) text.transitions (count - 1) (omega arith) in
    (or_rule_keeps (rows_of text) text.rule row.before both.0, or_rule_keeps (rows_of text) text.rule row.after.seconds both.1)

chosen : (b : OffsetBounds) (test : Bool) (x y : ℤ) → IsInBounds b x → IsInBounds b y → IsInBounds b (cond test x y)
chosen b true x y h k = h
chosen b false x y h k = k

first_in : (text : TzifText) → IsInBounds (table_bounds text) text.first.seconds
first_in text =
    or_rule_keeps (rows_of text) text.rule text.first.seconds
    (rows_keep (only text.first.seconds) text.transitions text.first.seconds (one_in text.first.seconds))

row_sides_in : (b : OffsetBounds) (row : TransitionText) → IsRowIn b row → AreIn b (row_sides row)
row_sides_in b row h = either b (int_lt row.before row.after.seconds) never (twice row.before row.after.seconds) tt h

after_in : (text : TzifText) (count : ℕ) (year second : ℤ) → IsInBounds (table_bounds text) (offset_after text count) → AreIn (table_bounds text) (sides_after text count year second)
after_in text count year second h = by_rule_in (rows_of text) (count == length text.transitions) text.rule (offset_after text count) year second h

count_in : (text : TzifText) (count : ℕ) (year second : ℤ) → count ≤ length text.transitions → AreIn (table_bounds text) (table_sides_after text count year second)
count_in text zero year second h = after_in text zero year second (first_in text)
count_in text (suc k) year second h =
    let count : ℕ = suc k in
    let row : TransitionText = last_row text.transitions count in
    let last = last_in text count (omega arith) h in
    either (table_bounds text) (is_changing text.transitions count second) (row_sides row) (sides_after text count year second)
    (row_sides_in (table_bounds text) row last)
    (after_in text count year second (chosen (table_bounds text) (count == 0) text.first.seconds row.after.seconds (first_in text) last.1))

-- ---- of each zone

sides_in : (zone : ZoneText) (year second : ℤ) → AreIn (bounds zone) (sides zone year second)
unfolding sides bounds
sides_in utc year second = one_in (pos 0)
sides_in (rule text) year second =
    rule_sides_in (with_dst (only text.std_seconds) text.dst) text year second
    (dst_keeps (only text.std_seconds) text.dst text.std_seconds (one_in text.std_seconds))
    (dst_takes (only text.std_seconds) text.dst)
sides_in (table text) year second =
    count_in text (rows_begun text.transitions second) year second (prefix_len-le-length _ text.transitions)

instant_in : (b : OffsetBounds) (second i : ℤ) (s : Sides) → AreIn b s → instant_by second s ≡ Some i → IsInBounds b (second -ℤ i)
instant_in b second i (once x) h e =
    let same : second -ℤ x ≡ i = same_Some (second -ℤ x) i e in
    let low = h.0 in let high = h.1 in
    (omega (arith, signed_arith), omega (arith, signed_arith))
instant_in b second i never h e = absurd (cc)
instant_in b second i (twice x y) h e =
    let same : second -ℤ int_max x y ≡ i = same_Some (second -ℤ int_max x y) i e in
    let low = h.0.0 in let high = h.0.1 in let low_too = h.1.0 in let high_too = h.1.1 in
    (omega (arith, signed_arith, clamps), omega (arith, signed_arith, clamps))

pub near : (zone : ZoneText) → IsNear zone
near zone d i e =
    let second : ℤ = pos (civil_second d) in
    instant_in (bounds zone) second i (sides zone (pos d.year) second) (sides_in zone (pos d.year) second) e
