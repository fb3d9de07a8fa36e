-- The items of an incarnation have the contents and spans of its revisions; what the entries do not reach lies in the
-- last one.
use Rattle.std.proofs.Common.{◌≡◌, ℕ, ◌+◌, ◌<◌, ◌≤◌, ◌==◌, nat_le, Bool, true, false, cond, ◌&&◌, ◌||◌, Option, Some, None, is_some, List, [], ◌∷◌, ◌++◌, map, length, find, refl, sym, ap, ◌∙◌, subst, inl, inr, arith}
use Rattle.std.specs.List.{list_any}
use Rattle.std.proofs.lemmas.Bool.{or_cases, lt-leb}
use Rattle.std.proofs.lemmas.List.{map-append}
use Rattle.sched_plain.specs.declared.row.Revision.{Revision}
use Rattle.sched_plain.specs.declared.row.Row.{Row}
use Rattle.sched_plain.specs.declared.step.Step.TheVariants as steps
use Rattle.sched_plain.specs.declared.write.Write.{Write}
use Rattle.sched_plain.specs.declared.write.Write.TheVariants as writes
use Rattle.sched_plain.specs.History.{History, beginning, based, ◌upon◌}
use Rattle.plain_words.specs.Lists.{nth, last, last_from}
use Rattle.sched_plain.specs.Changes.{changes_of}
use Rattle.sched_plain.specs.Rows.{Deed, Nothing, Renews, Ends, deed_of, cut_at, revision_from, rows_of, covers}
use Rattle.sched_plain.specs.Items.{Item, cut_item, items_done, items_written, items_born, items}
use Rattle.expressions.specs.Calendar.{Calendar}
use Rattle.sched_plain.specs.Occurrences.{occurs, occurs_in}
use Rattle.sched_plain.specs.Marks.{cover}
use Rattle.sched_plain.specs.Legal.{IsLegal}
use Rattle.plain_words.proofs.Booleans.{and_false, or_second}
use Rattle.next_dates.proofs.LastItems.{OthersEnd}
use Rattle.next_dates.proofs.ItemSteps.{items_of_zone, others_end}
use Rattle.work_order.proofs.RevisionEdits.{revisions_in, revisions_of, done_revisions, written_revisions, born_revisions, written_after, removed_after}

-- the content and the span of an item
abbrev pub span_of : Item → Revision
span_of item = record { content = item.content; from = item.first; to = item.last }

abbrev pub spans_of : List Item → List Revision
spans_of all = map span_of all

cut_spans : (at : ℕ) (all : List Item) → spans_of (map (cut_item at) all) ≡ cut_at at (spans_of all)
cut_spans at [] = refl
cut_spans at (item ∷ all) = ap (λ more. span_of (cut_item at item) ∷ more) (cut_spans at all)

done_spans : (h : History) (at created : ℕ) (deed : Deed) (all : List Item)
    → spans_of (items_done h at created deed all) ≡ done_revisions at deed (spans_of all)
done_spans h at created Nothing all = refl
done_spans h at created (Renews content) all =
    map-append span_of (map (cut_item at) all) (_ ∷ []) ∙ ap (λ front. front ++ revision_from (at + 1) content ∷ []) (cut_spans at all)
done_spans h at created Ends all = cut_spans at all

written_spans : (h : History) (at : ℕ) (write : Write) (row : Option Row) (all : List Item) → spans_of all ≡ revisions_in row
    → spans_of (items_written h at write row all) ≡ written_revisions at write row
written_spans h at write None all same = same
written_spans h at write (Some row) all same =
    done_spans h at row.created.0 (deed_of write row) all ∙ ap (done_revisions at (deed_of write row)) same

born_spans : (h : History) (at : ℕ) (write : Write) → spans_of (items_born h at write) ≡ born_revisions at write
born_spans h at (writes.CreateSchedule group name token content) = refl
born_spans h at (writes.UpdateSchedule group name token content) = refl
born_spans h at (writes.DeleteSchedule group name token) = refl
born_spans h at (writes.CreateGroup name token) = refl
born_spans h at (writes.DeleteGroup name token) = refl

either_spans : (b : Bool) (one other : List Item) (first second : List Revision) → spans_of one ≡ first → spans_of other ≡ second
    → spans_of (cond b one other) ≡ cond b first second
either_spans true one other first second same also = same
either_spans false one other first second same also = also

-- in a legal history the items of an incarnation are its revisions, each with its zone's bytes and its anchor
pub spans_are : (c : Calendar) (h : History) → IsLegal c h → (inc : ℕ) → spans_of (items h inc) ≡ revisions_of h inc
spans_are c beginning legal inc = refl
spans_are c (based b kept) legal inc = absurd legal
spans_are c (steps.Boot at upon h) legal inc = spans_are c h legal.0 inc
spans_are c (steps.Zone at name bytes upon h) legal inc =
    ap spans_of (items_of_zone c h at name bytes legal.1 inc) ∙ spans_are c h legal.0 inc
spans_are c (steps.Change at write upon h) legal inc =
    let rows = rows_of (changes_of h) in
    either_spans (inc == length rows + 1) (items_born h at.0 write) (items_written h at.0 write (nth rows inc) (items h inc)) _ _
    (born_spans h at.0 write) (written_spans h at.0 write (nth rows inc) (items h inc) (spans_are c h legal.0 inc))
    ∙ sym (written_after at.0 write rows inc)
spans_are c (steps.Enter at of pairs upon h) legal inc = spans_are c h legal.0 inc
spans_are c (steps.Lease at shard worker epoch until upon h) legal inc = spans_are c h legal.0 inc
spans_are c (steps.Release at shard worker epoch upon h) legal inc = spans_are c h legal.0 inc
spans_are c (steps.Begin at of instant number epoch upon h) legal inc = spans_are c h legal.0 inc
spans_are c (steps.End at of instant number verdict status upon h) legal inc = spans_are c h legal.0 inc
spans_are c (steps.Close at of instant reason upon h) legal inc = spans_are c h legal.0 inc
spans_are c (steps.Complete at removed upon h) legal inc =
    let old = spans_are c h legal.0 inc in
    either_spans (inc == removed) (map (cut_item at.0) (items h inc)) (items h inc) _ _
    (cut_spans at.0 (items h inc) ∙ ap (cut_at at.0) old) old
    ∙ sym (removed_after at.0 removed (rows_of (changes_of h)) inc)
spans_are c (steps.Swept at shard upon h) legal inc = spans_are c h legal.0 inc

-- of `a && b && c && d && e` the second and the third hold
middle : (a b c d e : Bool) → (a && b && c && d && e) ≡ true → (b && c) ≡ true
middle true true true d e is = refl
middle true true false d e is = cc is
middle true false c d e is = cc is
middle false b c d e is = cc is

covered : (c : Calendar) (all : List Item) (i : ℕ) → occurs_in c all i ≡ true → list_any (covers i) (spans_of all) ≡ true
covered c [] i is = is
covered c (item ∷ all) i is =
    elim (or_cases (occurs c item i) (occurs_in c all i) is) [
      | inl here ↦
          ap (λ b. b || list_any (covers i) (spans_of all)) (middle item.content.enabled (nat_le item.first i) (nat_le i item.last) _ _ here)
      | inr later ↦ or_second (covers i (span_of item)) (list_any (covers i) (spans_of all)) (covered c all i later)
    ]

ended : (item : Item) (i : ℕ) → item.last < i → covers i (span_of item) ≡ false
ended item i lt = ap (λ b. nat_le item.first i && b) (lt-leb i item.last lt) ∙ and_false (nat_le item.first i)

one_found : (b : Bool) (revision : Revision) → (b || false) ≡ true → cond b (Some revision) None ≡ Some revision
one_found true revision is = refl
one_found false revision is = cc is

-- from the moment on that the others do not reach only the last item has instants
last_found : (m i : ℕ) → m ≤ i → (all : List Item) → OthersEnd m all → list_any (covers i) (spans_of all) ≡ true
    → find (covers i) (spans_of all) ≡ last (spans_of all)
last_found m i le [] ends is = refl
last_found m i le (item ∷ []) ends is = one_found (covers i (span_of item)) (span_of item) is
last_found m i le (item ∷ next ∷ all) ends is =
    let under : item.last < m = ends.0 in
    let past : covers i (span_of item) ≡ false = ended item i (omega arith) in
    ap (λ b. cond b (Some (span_of item)) (find (covers i) (spans_of (next ∷ all)))) past
    ∙ last_found m i le (next ∷ all) ends.1 (sym (ap (λ b. b || list_any (covers i) (spans_of (next ∷ all))) past) ∙ is)

there_from : (revision : Revision) (revisions : List Revision) → is_some (last_from revision revisions) ≡ true
there_from revision [] = refl
there_from revision (next ∷ revisions) = there_from next revisions

last_there : (i : ℕ) (revisions : List Revision) → list_any (covers i) revisions ≡ true → is_some (last revisions) ≡ true
last_there i [] is = cc is
last_there i (revision ∷ revisions) is = there_from revision revisions

-- the revision that covers an occurrence which the entries do not reach is the last one
pub covered_by_last : (c : Calendar) (h : History) → IsLegal c h → (inc i : ℕ) → cover h inc ≤ i → occurs_in c (items h inc) i ≡ true
    → (find (covers i) (revisions_of h inc) ≡ last (revisions_of h inc)) × (is_some (last (revisions_of h inc)) ≡ true)
covered_by_last c h legal inc i le is =
    let there = covered c (items h inc) i is in
    subst (λ revisions. (find (covers i) revisions ≡ last revisions) × (is_some (last revisions) ≡ true)) (spans_are c h legal inc)
    (last_found (cover h inc) i le (items h inc) (others_end c h legal inc) there, last_there i (spans_of (items h inc)) there)
