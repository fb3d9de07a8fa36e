-- The rows after a change, by what was read of a line before it.
use Rattle.std.proofs.Common.{◌≡◌, ℕ, ◌+◌, ◌≤◌, ◌<◌, List, [], ◌∷◌, ◌++◌, map, length, length-append, get_or, refl, sym, ap, ap₂, ◌∙◌, arith, subst}
use Rattle.std.specs.Prelude.{slice_set}
use Rattle.std.specs.List.{insert}
use Rattle.std.proofs.lemmas.List.{length-map, get_or_default}
use Rattle.sched_plain.specs.declared.entry.Attempt.{Attempt}
use Rattle.sched_plain.specs.declared.entry.Entry.{Entry}
use Rattle.sched_plain.specs.declared.schedule.Policy.{Policy}
use Rattle.sched_plain.specs.declared.step.Pair.{Pair}
use Rattle.sched_plain.specs.Attempts.{begun_attempt}
use Rattle.sched_plain.specs.Entries.{with_begin}
use Rattle.entry_lines.specs.Rows.{Row, no_row, row_there, changed}
use Rattle.entry_lines.specs.Written.{Written, no_line, line_at, new_line, stop}
use Rattle.entry_lines.specs.Laid.{row_of, rows_of, AreLaid, IsWritten, IsOpened, IsMapped}
use Rattle.entry_lines.specs.declared.entry_lines.TheConstants.{MOST_ENTRIES}
use Rattle.entry_lines.proofs.Laying.{row_is, rows_mapped, rows_written, rows_opened, laid_opened}

-- the line that was read is the one at its place
pub record Read (policies : List Policy) (attempts : List Attempt) (lines : List Written) (seen : List Row) (p : ℕ) : Type 0 where
  pub seen_is : rows_of policies attempts lines ≡ seen
  pub there : p < length seen

pub inside : (policies : List Policy) (attempts : List Attempt) (lines : List Written) (seen : List Row) (p : ℕ) → Read policies attempts lines seen p → p < length lines
inside policies attempts lines seen p r =
    let same : length (rows_of policies attempts lines) ≡ length seen = ap {A = List Row} length r.seen_is in
    let long : length (rows_of policies attempts lines) ≡ length lines = length-map lines (row_of policies attempts) in
    let there = r.there in omega (arith, same, long, there)

pub row_here : (policies : List Policy) (attempts : List Attempt) (lines : List Written) (seen : List Row) (p : ℕ) → Read policies attempts lines seen p
    → row_there seen p ≡ row_of policies attempts (line_at lines p)
row_here policies attempts lines seen p r =
    ap (λ (rows : List Row). row_there rows p) (sym r.seen_is) ∙ row_is (row_of policies attempts) lines p (inside policies attempts lines seen p r)

pub used_here : (policies : List Policy) (attempts : List Attempt) (lines : List Written) (seen : List Row) (p : ℕ) → Read policies attempts lines seen p
    → (row_there seen p).filed.entry.used ≡ (line_at lines p).entry.used
used_here policies attempts lines seen p r = ap {A = Row} (λ row. row.filed.entry.used) (row_here policies attempts lines seen p r)

pub line_is : (lines : List Written) (p : ℕ) (line : Written) → p < length lines → line ≡ get_or lines p line → line ≡ line_at lines p
line_is lines p line within there = there ∙ get_or_default lines p line no_line within

-- an entry is written, and its attempts are changed one by one
pub seen_mapped : (policies : List Policy) (before after : List Attempt) (old new : List Written) (seen : List Row) (p from to : ℕ) (entry : Entry) (line : Written) (f : Attempt → Attempt)
    → Read policies before old seen p → AreLaid old (length policies) (length before) → line ≡ get_or old p line → from ≡ line.start → to ≡ from + line.entry.used
    → IsWritten old new p entry → IsMapped f before after from to → entry.used ≡ (row_there seen p).filed.entry.used
    → rows_of policies after new ≡ slice_set seen p (changed (λ e. entry) (map f) (row_there seen p))
seen_mapped policies before after old new seen p from to entry line f r laid there begins ends is mapped used =
    let within = inside policies before old seen p r in
    let same = line_is old p line within there in
    let from_is : from ≡ (line_at old p).start = begins ∙ ap {A = Written} (λ l. l.start) same in
    let to_is : to ≡ stop (line_at old p) = ends ∙ ap₂ (λ (a b : ℕ). a + b) from_is (ap {A = Written} (λ l. l.entry.used) same) in
    let here : IsMapped f before after (line_at old p).start (stop (line_at old p)) = subst (λ (n : ℕ). IsMapped f before after n (stop (line_at old p))) from_is (subst (IsMapped f before after from) to_is mapped) in
    subst (λ (rows : List Row). rows_of policies after new ≡ slice_set rows p (changed (λ e. entry) (map f) (row_there rows p))) r.seen_is
    (rows_mapped policies before after old new p entry f laid within is here (used ∙ used_here policies before old seen p r))

pub seen_written : (policies : List Policy) (attempts : List Attempt) (old new : List Written) (seen : List Row) (p : ℕ) (entry : Entry)
    → Read policies attempts old seen p → IsWritten old new p entry → entry.used ≡ (row_there seen p).filed.entry.used
    → rows_of policies attempts new ≡ slice_set seen p (changed (λ e. entry) (λ before. before) (row_there seen p))
seen_written policies attempts old new seen p entry r is used =
    subst (λ (rows : List Row). rows_of policies attempts new ≡ slice_set rows p (changed (λ e. entry) (λ before. before) (row_there rows p))) r.seen_is
    (rows_written policies attempts old new p entry (inside policies attempts old seen p r) is (used ∙ used_here policies attempts old seen p r))

-- an attempt is put behind the others of an entry
pub record Begun (policies : List Policy) (before after : List Attempt) (old new : List Written) (seen : List Row) (p number at epoch : ℕ) : Type 0 where
  pub read : Read policies before old seen p
  pub laid : AreLaid old (length policies) (length before)
  pub few : length before ≤ MOST_ENTRIES
  pub number_is : number ≡ (line_at old p).entry.used + 1
  pub put : after ≡ insert before (stop (line_at old p)) (begun_attempt number at epoch)
  pub opened : IsOpened old new p (with_begin at (line_at old p).entry)

pub seen_laid : (policies : List Policy) (before after : List Attempt) (old new : List Written) (seen : List Row) (p number at epoch all : ℕ)
    → Begun policies before after old new seen p number at epoch → all ≡ length before + 1 → AreLaid new (length policies) all
seen_laid policies before after old new seen p number at epoch all b longer =
    laid_opened old new (length policies) (length before) all p (with_begin at (line_at old p).entry) b.laid b.few (inside policies before old seen p b.read) b.opened refl longer

pub seen_begun : (policies : List Policy) (before after : List Attempt) (old new : List Written) (seen : List Row) (p number at epoch : ℕ)
    → Begun policies before after old new seen p number at epoch
    → rows_of policies after new ≡ slice_set seen p (changed (with_begin at) (λ own. own ++ begun_attempt number at epoch ∷ []) (row_there seen p))
seen_begun policies before after old new seen p number at epoch b =
    let within = inside policies before old seen p b.read in
    let entry : with_begin at (line_at old p).entry ≡ with_begin at (row_there seen p).filed.entry =
    ap {A = Row} (λ row. with_begin at row.filed.entry) (sym (row_here policies before old seen p b.read)) in
    ap (λ (l : List Attempt). rows_of policies l new) b.put
    ∙ subst (λ (rows : List Row). rows_of policies (insert before (stop (line_at old p)) (begun_attempt number at epoch)) new
    ≡ slice_set rows p (changed (λ e. with_begin at (line_at old p).entry) (λ own. own ++ begun_attempt number at epoch ∷ []) (row_there rows p))) b.read.seen_is
    (rows_opened policies before (begun_attempt number at epoch) old new p (with_begin at (line_at old p).entry) b.laid b.few within b.opened refl)
    ∙ ap (λ (e : Entry). slice_set seen p (changed (λ _. e) (λ own. own ++ begun_attempt number at epoch ∷ []) (row_there seen p))) entry

-- by what was read of its line
pub read_begun : (policies : List Policy) (before after : List Attempt) (old new : List Written) (seen : List Row) (p at epoch : ℕ) (line : Written) (from : ℕ) (was is : Entry)
    → Read policies before old seen p → AreLaid old (length policies) (length before) → length before ≤ MOST_ENTRIES → line ≡ get_or old p line → from ≡ line.start → was ≡ line.entry
    → is ≡ with_begin at was → after ≡ insert before (from + was.used) (begun_attempt (was.used + 1) at epoch) → IsOpened old new p is
    → Begun policies before after old new seen p (was.used + 1) at epoch
read_begun policies before after old new seen p at epoch line from was is r laid few there begins entry begun put opened =
    let same = line_is old p line (inside policies before old seen p r) there in
    let entry_is : was ≡ (line_at old p).entry = entry ∙ ap {A = Written} (λ l. l.entry) same in
    let place : from + was.used ≡ stop (line_at old p) = ap₂ (λ (a b : ℕ). a + b) (begins ∙ ap {A = Written} (λ l. l.start) same) (ap {A = Entry} (λ e. e.used) entry_is) in
    record {
      read = r;
      laid = laid;
      few = few;
      number_is = ap {A = Entry} (λ e. e.used + 1) entry_is;
      put = put ∙ ap (λ (n : ℕ). insert before n (begun_attempt (was.used + 1) at epoch)) place;
      opened = subst (IsOpened old new p) (begun ∙ ap (with_begin at) entry_is) opened;
    }

-- the lines with those of so many pairs more
pub entered_long : (old : List Written) (pairs : List Pair) (start place : ℕ) → length (old ++ map (λ pair. new_line pair start place) pairs) ≡ length old + length pairs
entered_long old pairs start place =
    length-append old (map {A = Pair} (λ pair. new_line pair start place) pairs) ∙ ap (λ (n : ℕ). length old + n) (length-map {A = Pair} pairs (λ pair. new_line pair start place))
