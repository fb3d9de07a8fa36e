-- The revisions of an incarnation: what each accepted change makes of them, and that a content that has come stays.
use Rattle.std.proofs.Common.{◌≡◌, ℕ, ◌+◌, ◌<◌, ◌≤◌, ◌==◌, min, nat_le, Bool, true, false, cond, ◌&&◌, Option, Some, None, List, [], ◌∷◌, ◌++◌, map, length, find, option_map, refl, sym, ap, ap₂, ◌∙◌, inl, inr, arith, append-nil}
use Rattle.std.proofs.lemmas.List.{length-map}
use Rattle.std.specs.Option.{option_and_then, option_or}
use Rattle.std.proofs.lemmas.Bool.{cases_eq, eq-eqb, ne_eqb, eqb-true, lt-leb}
use Rattle.std.proofs.lemmas.List.Folds.{find-append}
use Rattle.sched_plain.specs.declared.row.Revision.{Revision}
use Rattle.sched_plain.specs.declared.row.Row.{Row}
use Rattle.sched_plain.specs.declared.schedule.Schedule.{Schedule}
use Rattle.sched_plain.specs.declared.write.Write.{Write}
use Rattle.sched_plain.specs.declared.write.Write.TheVariants as writes
use Rattle.sched_plain.specs.History.{History}
use Rattle.plain_words.specs.Lists.{nth, change_nth}
use Rattle.sched_plain.specs.Changes.{changes_of, Written, Removed}
use Rattle.sched_plain.specs.Rows.{Deed, Nothing, Renews, Ends, deed_of, cut_at, revision_from, done_to, removed_at, rows_after, rows_of, covers, content_at}
use Rattle.plain_words.proofs.Booleans.{by_bool}
use Rattle.next_dates.proofs.Cuts.{le_min}
use Rattle.next_dates.proofs.Contents.{changed_here, changed_elsewhere}
use Rattle.plain_words.proofs.ListLemmas.{nth_past, nth_map, nth_snoc}

abbrev pub revisions_in : Option Row → List Revision
revisions_in None = []
revisions_in (Some row) = row.revisions

-- the revisions of an incarnation
abbrev pub revisions_of : History → ℕ → List Revision
revisions_of h inc = revisions_in (nth (rows_of (changes_of h)) inc)

-- revisions after a deed, after a write, and of what a write creates
abbrev pub done_revisions : ℕ → Deed → List Revision → List Revision
done_revisions at Nothing revisions = revisions
done_revisions at (Renews content) revisions = cut_at at revisions ++ revision_from (at + 1) content ∷ []
done_revisions at Ends revisions = cut_at at revisions

abbrev pub written_revisions : ℕ → Write → Option Row → List Revision
written_revisions at write None = []
written_revisions at write (Some row) = done_revisions at (deed_of write row) row.revisions

abbrev pub born_revisions : ℕ → Write → List Revision
born_revisions at (writes.CreateSchedule group name token content) = revision_from at content ∷ []
born_revisions at write = []

done_are : (at : ℕ) (deed : Deed) (row : Row) → (done_to at deed row).revisions ≡ done_revisions at deed row.revisions
done_are at Nothing row = refl
done_are at (Renews content) row = refl
done_are at Ends row = refl

edited_in : (at : ℕ) (write : Write) (row : Option Row)
    → revisions_in (option_map (λ r. done_to at (deed_of write r) r) row) ≡ written_revisions at write row
edited_in at write None = refl
edited_in at write (Some row) = done_are at (deed_of write row) row

edited_are : (at : ℕ) (write : Write) (rows : List Row) (inc : ℕ)
    → revisions_in (nth (map (λ r. done_to at (deed_of write r) r) rows) inc) ≡ written_revisions at write (nth rows inc)
edited_are at write rows inc =
    ap revisions_in (nth_map (λ r. done_to at (deed_of write r) r) rows inc) ∙ edited_in at write (nth rows inc)

either_in : (b : Bool) (row : Row) (other : Option Row) → revisions_in (cond b (Some row) other) ≡ cond b row.revisions (revisions_in other)
either_in true row other = refl
either_in false row other = refl

-- what is not there yet has no revisions
not_yet : (at : ℕ) (write : Write) (rows : List Row) (inc : ℕ)
    → written_revisions at write (nth rows inc) ≡ cond (inc == length rows + 1) [] (written_revisions at write (nth rows inc))
not_yet at write rows inc =
    by_bool (λ b. written_revisions at write (nth rows inc) ≡ cond b [] (written_revisions at write (nth rows inc))) (inc == length rows + 1)
    (λ new.
    let past : nth rows inc ≡ None = nth_past rows inc (let same : inc ≡ length rows + 1 = eqb-true inc (length rows + 1) new in omega arith) in
    ap (written_revisions at write) past)
    (λ old. refl)

none_born : (at : ℕ) (write : Write) (rows : List Row) (inc : ℕ)
    → revisions_in (nth (map (λ r. done_to at (deed_of write r) r) rows ++ []) inc)
    ≡ cond (inc == length rows + 1) [] (written_revisions at write (nth rows inc))
none_born at write rows inc =
    ap (λ all. revisions_in (nth all inc)) (append-nil (map (λ r. done_to at (deed_of write r) r) rows))
    ∙ edited_are at write rows inc
    ∙ not_yet at write rows inc

-- the revisions after a write
pub written_after : (at : ℕ) (write : Write) (rows : List Row) (inc : ℕ)
    → revisions_in (nth (rows_after (Written at write) rows) inc)
    ≡ cond (inc == length rows + 1) (born_revisions at write) (written_revisions at write (nth rows inc))
written_after at (writes.CreateSchedule group name token content) rows inc =
    let write = writes.CreateSchedule group name token content in
    let edit : Row → Row = λ r. done_to at (deed_of write r) r in
    let new : Row = record { group = group; name = name; created = record { 0 = at }; changed = record { 0 = at }; lives = true; revisions = revision_from at content ∷ [] } in
    ap revisions_in (nth_snoc (map edit rows) new inc)
    ∙ either_in (inc == length (map edit rows) + 1) new (nth (map edit rows) inc)
    ∙ ap₂ (λ n others. cond (inc == n + 1) (revision_from at content ∷ []) others) (length-map rows edit) (edited_are at write rows inc)
written_after at (writes.UpdateSchedule group name token content) rows inc = none_born at (writes.UpdateSchedule group name token content) rows inc
written_after at (writes.DeleteSchedule group name token) rows inc = none_born at (writes.DeleteSchedule group name token) rows inc
written_after at (writes.CreateGroup name token) rows inc = none_born at (writes.CreateGroup name token) rows inc
written_after at (writes.DeleteGroup name token) rows inc = none_born at (writes.DeleteGroup name token) rows inc

removed_in : (at : ℕ) (row : Option Row) → revisions_in (option_map (removed_at at) row) ≡ cut_at at (revisions_in row)
removed_in at None = refl
removed_in at (Some row) = refl

-- the revisions after a removal
pub removed_after : (at removed : ℕ) (rows : List Row) (inc : ℕ)
    → revisions_in (nth (rows_after (Removed at removed) rows) inc)
    ≡ cond (inc == removed) (cut_at at (revisions_in (nth rows inc))) (revisions_in (nth rows inc))
removed_after at removed rows inc =
    let old = revisions_in (nth rows inc) in
    elim (cases_eq inc removed) [
      | inl same ↦
          ap (λ n. revisions_in (nth (change_nth (removed_at at) rows n) inc)) (sym same)
          ∙ ap revisions_in (changed_here (removed_at at) rows inc)
          ∙ removed_in at (nth rows inc)
          ∙ ap (λ b. cond b (cut_at at old) old) (sym (eq-eqb inc removed same))
      | inr apart ↦
          ap revisions_in (changed_elsewhere (removed_at at) rows removed inc apart)
          ∙ ap (λ b. cond b (cut_at at old) old) (sym (ne_eqb inc removed apart))
    ]

-- the content that these revisions have at an instant
abbrev pub found_at : ℕ → List Revision → Option Schedule
found_at i revisions = option_map {T = Revision} (λ revision. revision.content) (find (covers i) revisions)

pub content_is : (rows : List Row) (inc i : ℕ) → content_at rows inc i ≡ found_at i (revisions_in (nth rows inc))
content_is rows inc i = by_row (nth rows inc)
  where
    by_row : (row : Option Row) → option_and_then (λ r. found_at i r.revisions) row ≡ found_at i (revisions_in row)
    by_row None = refl
    by_row (Some row) = refl

one_cut : (b : Bool) (one other : Revision) (rest more : Option Revision) → one.content ≡ other.content
    → option_map (λ r. r.content) rest ≡ option_map (λ r. r.content) more
    → option_map {T = Revision} (λ r. r.content) (cond b (Some one) rest) ≡ option_map (λ r. r.content) (cond b (Some other) more)
one_cut true one other rest more same later = ap (λ x. Some x) same
one_cut false one other rest more same later = later

cut_found : (at i : ℕ) → i ≤ at → (revisions : List Revision) → found_at i (cut_at at revisions) ≡ found_at i revisions
cut_found at i le [] = refl
cut_found at i le (revision ∷ revisions) =
    let cut : Revision = record revision { to = min at revision.to } in
    ap (λ b. option_map {T = Revision} (λ r. r.content) (cond (nat_le revision.from i && b) (Some cut) (find (covers i) (cut_at at revisions)))) (le_min i at revision.to le)
    ∙ one_cut (nat_le revision.from i && nat_le i revision.to) cut revision (find (covers i) (cut_at at revisions)) (find (covers i) revisions) refl
    (cut_found at i le revisions)

or_nothing : (o : Option Revision) → option_or o None ≡ o
or_nothing None = refl
or_nothing (Some r) = refl

-- a revision that begins later is not found
later_found : (i : ℕ) (revisions : List Revision) (from : ℕ) (content : Schedule) → i < from
    → found_at i (revisions ++ revision_from from content ∷ []) ≡ found_at i revisions
later_found i revisions from content lt =
    let new = revision_from from content in
    let none : find (covers i) (new ∷ []) ≡ None = ap (λ b. cond (b && nat_le i new.to) (Some new) None) (lt-leb from i lt) in
    ap (λ o. option_map {T = Revision} (λ r. r.content) o)
    (find-append (covers i) revisions (new ∷ []) ∙ ap (option_or (find (covers i) revisions)) none ∙ or_nothing (find (covers i) revisions))

done_found : (at i : ℕ) → i ≤ at → (deed : Deed) (revisions : List Revision) → found_at i (done_revisions at deed revisions) ≡ found_at i revisions
done_found at i le Nothing revisions = refl
done_found at i le (Renews content) revisions =
    later_found i (cut_at at revisions) (at + 1) content (omega arith) ∙ cut_found at i le revisions
done_found at i le Ends revisions = cut_found at i le revisions

-- a write leaves the contents that have come, of each incarnation that is there
pub written_stays : (at : ℕ) (write : Write) (rows : List Row) (inc i : ℕ) → i ≤ at → inc ≤ length rows
    → content_at (rows_after (Written at write) rows) inc i ≡ content_at rows inc i
written_stays at write rows inc i le within =
    let old : (inc == length rows + 1) ≡ false = ne_eqb inc (length rows + 1) (λ e. omega arith) in
    content_is (rows_after (Written at write) rows) inc i
    ∙ ap (found_at i) (written_after at write rows inc ∙ ap (λ b. cond b (born_revisions at write) (written_revisions at write (nth rows inc))) old)
    ∙ by_row (nth rows inc)
    ∙ sym (content_is rows inc i)
  where
    by_row : (row : Option Row) → found_at i (written_revisions at write row) ≡ found_at i (revisions_in row)
    by_row None = refl
    by_row (Some row) = done_found at i le (deed_of write row) row.revisions

either_found : (b : Bool) (i : ℕ) (one other : List Revision) → found_at i one ≡ found_at i other → found_at i (cond b one other) ≡ found_at i other
either_found true i one other same = same
either_found false i one other same = refl

-- so does a removal
pub removed_stays : (at removed : ℕ) (rows : List Row) (inc i : ℕ) → i ≤ at
    → content_at (rows_after (Removed at removed) rows) inc i ≡ content_at rows inc i
removed_stays at removed rows inc i le =
    let old = revisions_in (nth rows inc) in
    content_is (rows_after (Removed at removed) rows) inc i
    ∙ ap (found_at i) (removed_after at removed rows inc)
    ∙ either_found (inc == removed) i (cut_at at old) old (cut_found at i le old)
    ∙ sym (content_is rows inc i)
