-- A rule agrees with the last row of a table, by the text, exactly where the library finds that it does.
use Rattle.std.proofs.Common.{◌≡◌, ◌==◌, ℤ, Bool, true, false, cond, ◌&&◌, int_le, Option, Some, None, List, [], ◌∷◌, length, map, refl, sym, ap, ◌∙◌, arith}
use Rattle.std.specs.Prelude.{option_map, Ok, Err, is_ok, IfSome}
use Rattle.std.proofs.Common.{inl, inr}
use Rattle.std.specs.Option.{option_and_then}
use Rattle.std.specs.Cmp.Lexicographic.{bytes_decides}
use Rattle.std.proofs.lemmas.Bool.{and_parts}
use Rattle.std.proofs.lemmas.Bool.Decides.{nat_tests}
use borrow.Author.Differences.{le-true}
use Rattle.jiff_core.specs.Timestamp.{nanos_of_seconds}
use Rattle.jiff_core.specs.declared.Offset.{Offset}
use Rattle.jiff_core.specs.declared.error.Error.{Error}
use Rattle.jiff_core.specs.declared.error.Error.TheVariants as errors
use Rattle.jiff_core.proofs.SignedLemmas.{signed_arith}
use Rattle.jiff_tz.specs.Abbreviation.{abbreviation_text}
use Rattle.jiff_tz.specs.PosixRule.{match_some, rule_nanos, in_window, int_same, dst_at_by, dst_info, std_info, info_at}
use Rattle.jiff_tz.specs.PosixRule as Posix
use Rattle.jiff_tz.specs.PosixText.{DstText, dst_view, tz_view}
use Rattle.jiff_tz.specs.TzifAgree.{RowAgrees, FooterAgrees}
use Rattle.jiff_tz.specs.Tzif.{tzif_view, RuleAgrees, HasBadRule, IsBodyFailure, IsRefused}
use Rattle.jiff_tz.specs.TzifReader.{TzifText, Parsed}
use Rattle.jiff_tz.specs.TzifText.{TypeText, TransitionText, transition_text}
use Rattle.jiff_tz.specs.Year.{year_of_nanos}
use Rattle.jiff_tz.specs.declared.info.Dst.{Dst as Flag}
use Rattle.jiff_tz.specs.declared.info.Dst.TheVariants.{Yes, No}
use Rattle.jiff_tz.specs.declared.info.OffsetInfo.{OffsetInfo}
use Rattle.jiff_tz.specs.declared.posix.Dst.{Dst}
use Rattle.jiff_tz.specs.declared.posix.TimeZone.{TimeZone as Rule}
use Rattle.jiff_tz.specs.declared.tzif.Tzif.{Tzif}
use Rattle.plain_words.specs.Lists.{same_text}
use Rattle.zone_occ.specs.Sides.{last_row}
use Rattle.zone_occ.specs.Agreement.{utc_window, type_at, same_flag, same_type, agrees_with, agrees_with_rows, agrees}
use Rattle.zone_occ.specs.ZoneText.{table}
use Rattle.zone_occ.specs.ZoneBytes.{of_table}
use Rattle.zone_occ.specs.FileFault.{fault_of, IsFileFault}

window_same : (std : Offset) (dst : Dst) (year : ℤ) → utc_window std.seconds (dst_view dst) year ≡ Posix.utc_window dst year std
unfolding utc_window Posix.utc_window rule_nanos
window_same std dst year = refl

-- what holds at an instant, with no ghost facts
abbrev type_of : OffsetInfo → TypeText
type_of info = record { seconds = info.offset.seconds; dst = info.dst; name = abbreviation_text info.abbreviation }

abbrev dst_type : DstText → TypeText
dst_type dst = record { seconds = dst.seconds; dst = Yes; name = dst.name }

by_force : (b : Bool) (std : OffsetInfo) (dst : Dst) → match_some (cond b (Some (dst_view dst)) None) (type_of std) dst_type ≡ type_of (match_some (cond b (Some dst) None) std dst_info)
by_force true std dst = refl
by_force false std dst = refl

by_dst : (offset : Offset) (std : OffsetInfo) (dst : Option Dst) (n : ℤ) → match_some (option_and_then (λ dst. cond (in_window (utc_window offset.seconds dst (year_of_nanos n)) n) (Some dst) None) (option_map dst_view dst)) (type_of std) dst_type ≡ type_of (match_some (dst_at_by offset dst n) std dst_info)
by_dst offset std None n = refl
by_dst offset std (Some dst) n =
    rw (window_same offset dst (year_of_nanos n)) (by_force (in_window (Posix.utc_window dst (year_of_nanos n) offset) n) std dst)

-- the rule's text gives an instant what the rule does
type_same : (tz : Rule) (n : ℤ) → type_at (tz_view tz) n ≡ type_of (info_at tz n)
type_same tz n = by_dst tz.std_offset (std_info tz) tz.dst n

int_told : (a b : ℤ) → int_same a b ≡ true → a ≡ b
int_told a b e =
    let parts = and_parts (int_le a b) (int_le b a) e in
    let one = le-true a b parts.0 in
    let two = le-true b a parts.1 in
    omega (arith, signed_arith)

int_tells : (a : ℤ) → int_same a a ≡ true
int_tells a = let le : int_le a a ≡ true = grind (arith, signed_arith) in rw le refl

flag_told : (a b : Flag) → same_flag a b ≡ true → a ≡ b
flag_told Yes Yes e = refl
flag_told No No e = refl
flag_told Yes No e = absurd (cc)
flag_told No Yes e = absurd (cc)

flag_tells : (a : Flag) → same_flag a a ≡ true
flag_tells Yes = refl
flag_tells No = refl

type_told : (a b : TypeText) → same_type a b ≡ true → (a.seconds ≡ b.seconds) × (a.dst ≡ b.dst) × (a.name ≡ b.name)
type_told a b e =
    let outer = and_parts (int_same a.seconds b.seconds && same_flag a.dst b.dst) (same_text a.name b.name) e in
    let inner = and_parts (int_same a.seconds b.seconds) (same_flag a.dst b.dst) outer.0 in
    (int_told a.seconds b.seconds inner.0, flag_told a.dst b.dst inner.1, (bytes_decides a.name b.name).0 outer.1)

type_tells : (a b : TypeText) → a.seconds ≡ b.seconds → a.dst ≡ b.dst → a.name ≡ b.name → same_type a b ≡ true
type_tells a b s d n =
    rw (s, d, int_tells b.seconds, flag_tells b.dst, (bytes_decides a.name b.name).1 n) refl

row_told : (tz : Rule) (row : TransitionText) → agrees_with row (tz_view tz) ≡ true → RowAgrees tz row
row_told tz row e =
    let same = type_same tz (nanos_of_seconds row.second) in
    type_told (type_of (info_at tz (nanos_of_seconds row.second))) row.after
    (ap (λ type. same_type type row.after) (sym same) ∙ e)

row_tells : (tz : Rule) (row : TransitionText) → RowAgrees tz row → agrees_with row (tz_view tz) ≡ true
row_tells tz row h =
    ap (λ type. same_type type row.after) (type_same tz (nanos_of_seconds row.second))
    ∙ type_tells (type_of (info_at tz (nanos_of_seconds row.second))) row.after h.0 h.1 h.2

footer_told : (rows : List TransitionText) (tz : Rule) → agrees_with_rows rows (tz_view tz) ≡ true → FooterAgrees rows tz
footer_told [] tz e = λ some. absurd (omega arith)
footer_told (row ∷ rest) tz e = λ h.
    let some : (length (row ∷ rest) == 0) ≡ false = grind (arith, nat_tests) in
    row_told tz (last_row (row ∷ rest) (length (row ∷ rest))) (rw some at e)

footer_tells : (rows : List TransitionText) (tz : Rule) → FooterAgrees rows tz → agrees_with_rows rows (tz_view tz) ≡ true
footer_tells [] tz h = refl
footer_tells (row ∷ rest) tz h =
    let some : (length (row ∷ rest) == 0) ≡ false = grind (arith, nat_tests) in
    rw some (row_tells tz (last_row (row ∷ rest) (length (row ∷ rest))) (h (omega arith)))

rule_tells : (rows : List TransitionText) (o : Option Rule) → IfSome o (λ tz. FooterAgrees rows tz) → match_some (option_map tz_view o) true (agrees_with_rows rows) ≡ true
rule_tells rows None h = refl
rule_tells rows (Some tz) h = footer_tells rows tz h

-- a table that the library reads is a zone
pub read_table : (z : Tzif) → RuleAgrees z → of_table (Ok (tzif_view z)) ≡ Some (table (tzif_view z))
read_table z h = rw (rule_tells (map transition_text z.transitions.items) z.posix_tz h) refl

of_disagreeing : (text : TzifText) → agrees text ≡ false → of_table (Ok text) ≡ None
of_disagreeing text e = rw e refl

disagrees : (text : TzifText) (tz : Rule) → text.rule ≡ Some (tz_view tz) → (FooterAgrees text.transitions tz → ⊥) → agrees text ≡ false
disagrees text tz is no_rule =
    rw is (elim (agrees_with_rows text.transitions (tz_view tz)) as (λ b. agrees_with_rows text.transitions (tz_view tz) ≡ b → b ≡ false) [
      | true ↦ λ e. absurd (no_rule (footer_told text.transitions tz e))
      | false ↦ λ e. refl
    ] refl)

-- and one that it refuses is none
bad_rule : (read : Parsed TzifText) → HasBadRule read → of_table read ≡ None
bad_rule read bad = rw bad.read (of_disagreeing bad.text (disagrees bad.text bad.rule bad.is_rule bad.disagrees))

-- what the library says of data that it refuses is no want of memory
pub read_memory : (A : Type 0) (e : Error) (read : Parsed TzifText) → IsRefused {A = A} read (Err e) → e ≡ errors.OutOfMemory → is_ok read ≡ true
read_memory A e (Ok text) h is = refl
read_memory A e (Err fault) h is = absurd (cc)

pub read_refused : (e : Error) (read : Parsed TzifText) → IsBodyFailure e read → (e ≡ errors.OutOfMemory → is_ok read ≡ true) → IsFileFault (fault_of e) read
read_refused e read (inl (inl memory)) h = rw memory (h memory)
read_refused e read (inl (inr (fault, is, error))) h = rw (error, is) refl
read_refused e read (inr (error, bad)) h = rw error (bad_rule read bad)
