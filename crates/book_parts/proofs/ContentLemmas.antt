-- An accepted change leaves contents that are within their limits.
use Rattle.std.proofs.Common.{subst, ◌+◌, ◌≡◌, ℕ, Bool, true, false, cond, Option, Some, None, List, [], ◌∷◌, ◌++◌, map, refl, ap, sym}
use Rattle.std.specs.Prelude.{◌==◌, if◌then◌else◌, ◌-◌}
use Rattle.std.specs.Option.{option_map, option_and_then}
use Rattle.plain_words.specs.Lists.{nth, change_nth, last, last_from}
use Rattle.plain_words.proofs.Options.{some_same}
use Rattle.sched_plain.specs.declared.row.Row.{Row}
use Rattle.sched_plain.specs.declared.row.Revision.{Revision}
use Rattle.sched_plain.specs.declared.schedule.Schedule.{Schedule}
use Rattle.sched_plain.specs.declared.write.Write.{Write}
use Rattle.sched_plain.specs.declared.write.Write.TheVariants as writes
use Rattle.sched_plain.specs.Changes.{Accepted, Written, Removed}
use Rattle.sched_plain.specs.Rows.{Deed, Nothing, Renews, Ends, deed_of, renews_if, ends_if, done_to, removed_at, cut_at, revision_from, born, rows_after, is_at, is_in, current_of}
use Rattle.sched_plain.specs.Validity.{IsContent, IsWrite}
use Rattle.book_parts.specs.Contents.{AreContents, HaveContents}

cut_contents : (at : ℕ) (revisions : List Revision) → AreContents revisions → AreContents (cut_at at revisions)
cut_contents at [] all = all
cut_contents at (revision ∷ more) all = (all.0, cut_contents at more all.1)

one_more : (revisions : List Revision) (revision : Revision) → AreContents revisions → IsContent revision.content → AreContents (revisions ++ revision ∷ [])
one_more [] revision all new = (new, tt)
one_more (first ∷ more) revision all new = (all.0, one_more more revision all.1 new)

rows_more : (rows more : List Row) → HaveContents rows → HaveContents more → HaveContents (rows ++ more)
rows_more [] more all new = new
rows_more (row ∷ rows) more all new = (all.0, rows_more rows more all.1 new)

-- a deed gives a row nothing, or a content within its limits
abbrev IsDeed : Deed → Type 0
IsDeed Nothing = Unit {0}
IsDeed (Renews content) = IsContent content
IsDeed Ends = Unit {0}

renewing : (b : Bool) (content : Schedule) → IsContent content → IsDeed (renews_if b content)
renewing true content is = is
renewing false content is = tt

ending : (b : Bool) → IsDeed (ends_if b)
ending true = tt
ending false = tt

deed_is : (write : Write) (row : Row) → IsWrite write → IsDeed (deed_of write row)
deed_is (writes.CreateSchedule group name token content) row valid = tt
deed_is (writes.UpdateSchedule group name token content) row valid = renewing (is_at group name row) content valid.3
deed_is (writes.DeleteSchedule group name token) row valid = ending (is_at group name row)
deed_is (writes.CreateGroup name token) row valid = tt
deed_is (writes.DeleteGroup name token) row valid = ending (is_in name row)

done_contents : (at : ℕ) (deed : Deed) (row : Row) → IsDeed deed → AreContents row.revisions → AreContents (done_to at deed row).revisions
done_contents at Nothing row is all = all
done_contents at (Renews content) row is all = one_more (cut_at at row.revisions) (revision_from (at + 1) content) (cut_contents at row.revisions all) is
done_contents at Ends row is all = cut_contents at row.revisions all

written_contents : (at : ℕ) (write : Write) (rows : List Row) → IsWrite write → HaveContents rows → HaveContents (map (λ row. done_to at (deed_of write row) row) rows)
written_contents at write [] valid all = tt
written_contents at write (row ∷ rows) valid all =
    (done_contents at (deed_of write row) row (deed_is write row valid) all.0, written_contents at write rows valid all.1)

born_contents : (at : ℕ) (write : Write) → IsWrite write → HaveContents (born at write)
born_contents at (writes.CreateSchedule group name token content) valid = ((valid.3, tt), tt)
born_contents at (writes.UpdateSchedule group name token content) valid = tt
born_contents at (writes.DeleteSchedule group name token) valid = tt
born_contents at (writes.CreateGroup name token) valid = tt
born_contents at (writes.DeleteGroup name token) valid = tt

-- a valid write leaves contents within their limits
pub contents_written : (at : ℕ) (write : Write) (rows : List Row) → IsWrite write → HaveContents rows → HaveContents (rows_after (Written at write) rows)
contents_written at write rows valid all =
    rows_more (map (λ row. done_to at (deed_of write row) row) rows) (born at write) (written_contents at write rows valid all) (born_contents at write valid)

removed_if : (b : Bool) (at : ℕ) (row : Row) (rows changed : List Row) → AreContents row.revisions → HaveContents rows → HaveContents changed
    → HaveContents (if b then removed_at at row ∷ rows else row ∷ changed)
removed_if true at row rows changed one all new = (cut_contents at row.revisions one, all)
removed_if false at row rows changed one all new = (one, new)

-- so does a removal
pub contents_removed : (at inc : ℕ) (rows : List Row) → HaveContents rows → HaveContents (rows_after (Removed at inc) rows)
contents_removed at inc [] all = tt
contents_removed at inc (row ∷ rows) all =
    removed_if (inc == 1) at row rows (change_nth (removed_at at) rows (inc - 1)) all.0 all.1 (contents_removed at (inc - 1) rows all.1)

row_there : (b : Bool) (row found : Row) (rest : Option Row) (P : Row → Type 0) → P row → ((r : Row) → rest ≡ Some r → P r)
    → (if b then Some row else rest) ≡ Some found → P found
row_there true row found rest P one more e = subst P (some_same row found e) one
row_there false row found rest P one more e = more found e

-- the contents of a row
pub contents_of_row : (rows : List Row) (inc : ℕ) (row : Row) → HaveContents rows → nth rows inc ≡ Some row → AreContents row.revisions
contents_of_row [] inc row all e = cc e
contents_of_row (first ∷ rows) inc row all e =
    row_there (inc == 1) first row (nth rows (inc - 1)) (λ r. AreContents r.revisions) all.0 (λ r there. contents_of_row rows (inc - 1) r all.1 there) e

last_content : (first : Revision) (more : List Revision) (content : Schedule) → AreContents (first ∷ more)
    → option_map {T = Revision} (λ revision. revision.content) (last_from first more) ≡ Some content → IsContent content
last_content first [] content all e = subst IsContent (some_same first.content content e) all.0
last_content first (next ∷ more) content all e = last_content next more content all.1 e

of_last : (revisions : List Revision) (content : Schedule) → AreContents revisions
    → option_map {T = Revision} (λ revision. revision.content) (last revisions) ≡ Some content → IsContent content
of_last [] content all e = cc e
of_last (first ∷ more) content all e = last_content first more content all e

of_living : (lives : Bool) (found : Option Schedule) (content : Schedule) → (found ≡ Some content → IsContent content)
    → (if lives then found else None) ≡ Some content → IsContent content
of_living true found content is e = is e
of_living false found content is e = cc e

-- the current content of a row is within its limits
pub current_content : (rows : List Row) (inc : ℕ) (row : Row) (content : Schedule) → HaveContents rows → nth rows inc ≡ Some row
    → current_of row ≡ Some content → IsContent content
current_content rows inc row content all there e =
    of_living row.lives (option_map {T = Revision} (λ revision. revision.content) (last row.revisions)) content
    (of_last row.revisions content (contents_of_row rows inc row all there)) e

-- so is that of a row whose contents are
pub current_of_contents : (row : Row) (content : Schedule) → AreContents row.revisions → current_of row ≡ Some content → IsContent content
current_of_contents row content all e =
    of_living row.lives (option_map {T = Revision} (λ revision. revision.content) (last row.revisions)) content (of_last row.revisions content all) e
