-- The content of an incarnation at an instant that has come stays.
use Rattle.std.proofs.Common.{◌≡◌, ℕ, ◌+◌, ◌<◌, ◌≤◌, min, nat_le, nat_lt, Bool, true, false, cond, ◌&&◌, Option, Some, None, is_some, List, [], ◌∷◌, ◌++◌, map, find, option_map, refl, sym, ap, ◌∙◌, inl, inr, arith}
use Rattle.std.specs.Option.{option_and_then, option_or}
use Rattle.std.proofs.lemmas.Bool.{cases_eq, lt-leb, and_parts, ltb-true, false≢true}
use Rattle.std.proofs.lemmas.List.Folds.{find-append}
use Rattle.sched_plain.specs.declared.row.Revision.{Revision}
use Rattle.sched_plain.specs.declared.row.Row.{Row}
use Rattle.sched_plain.specs.declared.schedule.Schedule.{Schedule}
use Rattle.sched_plain.specs.declared.write.Write.{Write}
use Rattle.sched_plain.specs.History.{History}
use Rattle.sched_plain.specs.Moments.{moment}
use Rattle.plain_words.specs.Lists.{nth, change_nth}
use Rattle.sched_plain.specs.Changes.{changes_of, Written, Removed}
use Rattle.sched_plain.specs.Rows.{Deed, Nothing, Renews, Ends, deed_of, cut_at, revision_from, done_to, removed_at, born, rows_after, rows_of, covers, content_at}
use Rattle.sched_plain.specs.Items.{items}
use Rattle.expressions.specs.Calendar.{Calendar}
use Rattle.sched_plain.specs.Occurrences.{occurs_in}
use Rattle.plain_words.specs.Lists.{passing}
use Rattle.sched_plain.specs.Ledger.{ledger_of}
use Rattle.sched_plain.specs.Entries.{entries, filed}
use Rattle.sched_plain.specs.Marks.{cover}
use Rattle.plain_words.proofs.ListLemmas.{nth_map, nth_more}
use Rattle.sched_plain.proofs.LedgerLemmas.{filed_paired}
use Rattle.book_laws.specs.EntryLaws.{is_among}
use Rattle.book_laws.proofs.Floors.{among_filter}
use Rattle.book_laws.proofs.Passing.{mem_passing}
use Rattle.book_laws.proofs.Spans.{le_min}
use Rattle.book_laws.proofs.Searches.{changed_here, changed_elsewhere}
use Rattle.book_laws.proofs.Pairs.{paired_in}
use Rattle.book_laws.proofs.Covers.{Caught}

-- the content that these revisions have at an instant
abbrev pub found_at : ℕ → List Revision → Option Schedule
found_at i revisions = option_map {T = Revision} (λ revision. revision.content) (find (covers i) revisions)

one_cut : (b : Bool) (one other : Revision) (rest more : Option Revision) → one.content ≡ other.content
    → option_map (λ r. r.content) rest ≡ option_map (λ r. r.content) more
    → option_map {T = Revision} (λ r. r.content) (cond b (Some one) rest) ≡ option_map (λ r. r.content) (cond b (Some other) more)
one_cut true one other rest more same later = ap (λ x. Some x) same
one_cut false one other rest more same later = later

cut_found : (at i : ℕ) → i ≤ at → (revisions : List Revision) → found_at i (cut_at at revisions) ≡ found_at i revisions
cut_found at i le [] = refl
cut_found at i le (revision ∷ revisions) =
    let cut : Revision = record revision { to = min at revision.to } in
    ap (λ b. option_map {T = Revision} (λ r. r.content) (cond (nat_le revision.from i && b) (Some cut) (find (covers i) (cut_at at revisions)))) (le_min i at revision.to le)
    ∙ one_cut (nat_le revision.from i && nat_le i revision.to) cut revision (find (covers i) (cut_at at revisions)) (find (covers i) revisions) refl
    (cut_found at i le revisions)

or_nothing : (o : Option Revision) → option_or o None ≡ o
or_nothing None = refl
or_nothing (Some r) = refl

-- a revision that begins later is not found
later_found : (i : ℕ) (revisions : List Revision) (from : ℕ) (content : Schedule) → i < from
    → found_at i (revisions ++ revision_from from content ∷ []) ≡ found_at i revisions
later_found i revisions from content lt =
    let new = revision_from from content in
    let none : find (covers i) (new ∷ []) ≡ None = ap (λ b. cond (b && nat_le i new.to) (Some new) None) (lt-leb from i lt) in
    ap (λ o. option_map {T = Revision} (λ r. r.content) o)
    (find-append (covers i) revisions (new ∷ []) ∙ ap (option_or (find (covers i) revisions)) none ∙ or_nothing (find (covers i) revisions))

done_found : (at i : ℕ) → i ≤ at → (deed : Deed) (row : Row) → found_at i (done_to at deed row).revisions ≡ found_at i row.revisions
done_found at i le Nothing row = refl
done_found at i le (Renews content) row =
    later_found i (cut_at at row.revisions) (at + 1) content (omega arith) ∙ cut_found at i le row.revisions
done_found at i le Ends row = cut_found at i le row.revisions

-- a write leaves the contents that have come, of each incarnation that is there
pub written_stays : (rows : List Row) (at : ℕ) (write : Write) (inc i : ℕ) (row : Row) → i ≤ at → nth rows inc ≡ Some row
    → content_at (rows_after (Written at write) rows) inc i ≡ content_at rows inc i
written_stays rows at write inc i row le there =
    let edit : Row → Row = λ r. done_to at (deed_of write r) r in
    let new : nth (map edit rows ++ born at write) inc ≡ Some (edit row) =
    nth_more (map edit rows) (born at write) inc (edit row) (nth_map edit rows inc ∙ ap (option_map edit) there) in
    ap (option_and_then (λ r. found_at i r.revisions)) new
    ∙ done_found at i le (deed_of write row) row
    ∙ ap (option_and_then (λ r. found_at i r.revisions)) (sym there)

removed_found : (at i : ℕ) → i ≤ at → (row : Option Row)
    → option_and_then {T = Row} (λ r. found_at i r.revisions) (option_map (removed_at at) row) ≡ option_and_then (λ r. found_at i r.revisions) row
removed_found at i le None = refl
removed_found at i le (Some row) = cut_found at i le row.revisions

-- so does a removal
pub removed_stays : (rows : List Row) (at removed inc i : ℕ) → i ≤ at → content_at (rows_after (Removed at removed) rows) inc i ≡ content_at rows inc i
removed_stays rows at removed inc i le =
    elim (cases_eq inc removed) [
      | inl same ↦
          ap (option_and_then (λ r. found_at i r.revisions))
          (ap (λ k. nth (change_nth (removed_at at) rows k) inc) (sym same) ∙ changed_here (removed_at at) rows inc)
          ∙ removed_found at i le (nth rows inc)
      | inr apart ↦ ap (option_and_then (λ r. found_at i r.revisions)) (changed_elsewhere (removed_at at) rows removed inc apart)
    ]

-- what is filed is of an incarnation that is there, at an instant that has come
pub record IsThere (h : History) (inc i : ℕ) : Type 0 where
  pub row : Row
  pub there : nth (rows_of (changes_of h)) inc ≡ Some row
  pub come : i ≤ moment h

row_there : (c : Calendar) (h : History) (inc i : ℕ) → Caught c h inc → i < cover h inc → occurs_in c (items h inc) i ≡ true
    → (row : Option Row) → nth (rows_of (changes_of h)) inc ≡ row → IsThere h inc i
row_there c h inc i old under occurs None none =
    absurd (false≢true (sym (ap (λ all. occurs_in c all i) (old.unborn none)) ∙ occurs))
row_there c h inc i old under occurs (Some row) there =
    let up : cover h inc ≤ moment h + 1 = old.bound in
    record { row = row; there = there; come = omega arith }

pub filed_there : (c : Calendar) (h : History) (inc i : ℕ) → Caught c h inc → is_some (filed (ledger_of h) inc i) ≡ true → IsThere h inc i
filed_there c h inc i old is =
    let p = occurs_in c (items h inc) in
    let member : is_among i (passing p (cover h inc)) ≡ true =
    among_filter old.reaches.kept (passing p (cover h inc)) i
    (sym (ap (is_among i) old.reaches.exact) ∙ sym (paired_in (entries (ledger_of h) inc) i) ∙ sym (filed_paired (ledger_of h) inc i) ∙ is) in
    let parts = and_parts (nat_lt i (cover h inc)) (p i) (sym (mem_passing p (cover h inc) i) ∙ member) in
    row_there c h inc i old (ltb-true i (cover h inc) parts.0) parts.1 (nth (rows_of (changes_of h)) inc) refl
