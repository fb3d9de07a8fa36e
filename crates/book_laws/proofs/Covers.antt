-- The entries of an incarnation are its occurrences below its cover: the induction over every legal history.
use Rattle.std.proofs.Common.{◌≡◌, ℕ, ◌+◌, ◌≤◌, max, nat_le, Bool, true, false, cond, Option, Some, None, List, [], ◌++◌, length, refl, sym, ap, ◌∙◌, arith, le_refl}
use Rattle.sched_plain.specs.declared.row.Row.{Row}
use Rattle.sched_plain.specs.declared.write.Write.{Write}
use Rattle.sched_plain.specs.declared.write.Write.TheVariants as writes
use Rattle.sched_plain.specs.History.{History}
use Rattle.sched_plain.specs.Moments.{moment}
use Rattle.plain_words.specs.Lists.{nth}
use Rattle.sched_plain.specs.Changes.{changes_of}
use Rattle.sched_plain.specs.Rows.{Deed, Nothing, Renews, Ends, deed_of, touches, born, rows_of}
use Rattle.sched_plain.specs.Zones.{read_under}
use Rattle.sched_plain.specs.Items.{Item, opened, items_done, items_written, items_born, items}
use Rattle.expressions.specs.Calendar.{Calendar}
use Rattle.sched_plain.specs.Occurrences.{occurs, occurs_in, occ_below}
use Rattle.plain_words.specs.Lists.{passing}
use Rattle.sched_plain.specs.Ledger.{ledger_of}
use Rattle.sched_plain.specs.Entries.{entries, instants_of}
use Rattle.sched_plain.specs.Marks.{above_floor, unentered, cover_written, cover_born, cover}
use Rattle.plain_words.proofs.Booleans.{and_false, or_false}
use Rattle.book_laws.proofs.Passing.{from_on, passing_same, passing_none}
use Rattle.book_laws.proofs.Floors.{Reaches}
use Rattle.book_laws.proofs.Fronts.{reach}
use Rattle.book_laws.proofs.Spans.{done_stays, opened_later}
use Rattle.book_laws.proofs.Searches.{last_there}
use Rattle.book_laws.proofs.Pairs.{open_is}

-- the cover is at most the next moment, the entries are the occurrences below it but for those folded away below the
-- floor, and who is not created has neither items nor a floor
pub record Caught (c : Calendar) (h : History) (inc : ℕ) : Type 0 where
  pub bound : cover h inc ≤ moment h + 1
  pub reaches : Reaches (occurs_in c (items h inc)) (above_floor h inc) (cover h inc) (instants_of (entries (ledger_of h) inc))
  pub unborn : nth (rows_of (changes_of h)) inc ≡ None → items h inc ≡ []
  pub unfloored : nth (rows_of (changes_of h)) inc ≡ None → above_floor h inc ≡ 0

-- no items have no occurrence
pub no_items : (c : Calendar) (all : List Item) (m : ℕ) → all ≡ [] → passing (occurs_in c all) m ≡ []
no_items c all m none = ap (λ xs. passing (occurs_in c xs) m) none ∙ passing_none (occurs_in c []) m (λ i lt. refl)

pub none_from_on : (c : Calendar) (all : List Item) (m n : ℕ) → all ≡ [] → passing (from_on m (occurs_in c all)) n ≡ []
none_from_on c all m n none =
    ap (λ xs. passing (from_on m (occurs_in c xs)) n) none ∙ passing_none (from_on m (occurs_in c [])) n (λ i lt. and_false (nat_le m i))

-- items that agree up to a moment agree below the cover
pub same_below : (c : Calendar) (new old : List Item) (m at : ℕ) → m ≤ at + 1 → ((i : ℕ) → i ≤ at → occurs_in c new i ≡ occurs_in c old i)
    → passing (occurs_in c old) m ≡ passing (occurs_in c new) m
same_below c new old m at le same = passing_same _ _ m (λ i lt. let up : i ≤ at = omega arith in sym (same i up))

-- what is unentered is what occurs from the cover on
pub unentered_is : (c : Calendar) (h : History) (inc t : ℕ) → Caught c h inc
    → unentered c h inc t ≡ passing (from_on (cover h inc) (occurs_in c (items h inc))) (t + 1)
unfolding occ_below
unentered_is c h inc t old =
    open_is (occurs_in c (items h inc)) (entries (ledger_of h) inc) (above_floor h inc) (cover h inc) (t + 1) old.reaches

-- a deed of a Change, before which nothing that it touches is unentered
pub deed_exact : (c : Calendar) (h : History) (at created : ℕ) (deed : Deed) (all : List Item) (m : ℕ) → m ≤ at + 1
    → (touches deed ≡ true → passing (from_on m (occurs_in c all)) (at + 1) ≡ [])
    → passing (occurs_in c all) m ≡ passing (occurs_in c (items_done h at created deed all)) (cond (touches deed) (max m (at + 1)) m)
deed_exact c h at created Nothing all m le closed = refl
deed_exact c h at created (Renews content) all m le closed =
    reach (occurs_in c all) m (at + 1) (closed refl)
    ∙ same_below c (items_done h at created (Renews content) all) all (max m (at + 1)) at (omega arith) (done_stays c h at created (Renews content) all)
deed_exact c h at created Ends all m le closed =
    reach (occurs_in c all) m (at + 1) (closed refl)
    ∙ same_below c (items_done h at created Ends all) all (max m (at + 1)) at (omega arith) (done_stays c h at created Ends all)

pub chosen_grows : (b : Bool) (m n : ℕ) → m ≤ cond b (max m n) m
chosen_grows true m n = omega arith
chosen_grows false m n = le_refl m

pub deed_bound : (touched : Bool) (m at : ℕ) → m ≤ at + 1 → cond touched (max m (at + 1)) m ≤ at + 1
deed_bound true m at le = omega arith
deed_bound false m at le = le

-- a Change, seen from an incarnation that was there, or was not
pub written_exact : (c : Calendar) (h : History) (at : ℕ) (write : Write) (row : Option Row) (all : List Item) (m : ℕ) → m ≤ at + 1
    → ((r : Row) → row ≡ Some r → touches (deed_of write r) ≡ true → passing (from_on m (occurs_in c all)) (at + 1) ≡ [])
    → passing (occurs_in c all) m ≡ passing (occurs_in c (items_written h at write row all)) (cover_written at write row m)
written_exact c h at write None all m le closed = refl
written_exact c h at write (Some row) all m le closed =
    deed_exact c h at row.created.0 (deed_of write row) all m le (closed row refl)

pub written_bound : (at : ℕ) (write : Write) (row : Option Row) (m : ℕ) → m ≤ at + 1 → cover_written at write row m ≤ at + 1
written_bound at write None m le = le
written_bound at write (Some row) m le = deed_bound (touches (deed_of write row)) m at le

pub written_grows : (at : ℕ) (write : Write) (row : Option Row) (m : ℕ) → m ≤ cover_written at write row m
written_grows at write None m = le_refl m
written_grows at write (Some row) m = chosen_grows (touches (deed_of write row)) m (at + 1)

-- a Change, seen from the incarnation that it creates, if it creates one
pub born_exact : (c : Calendar) (h : History) (at : ℕ) (write : Write) (m : ℕ) → [] ≡ passing (occurs_in c (items_born h at write)) (cover_born at write m)
born_exact c h at (writes.CreateSchedule group name token content) m =
    sym (passing_none _ at (λ i lt.
    or_false (occurs c (opened (read_under h content.zone) at at content) i) ∙ opened_later c (read_under h content.zone) at at content i lt))
born_exact c h at (writes.UpdateSchedule group name token content) m = sym (no_items c [] m refl)
born_exact c h at (writes.DeleteSchedule group name token) m = sym (no_items c [] m refl)
born_exact c h at (writes.CreateGroup name token) m = sym (no_items c [] m refl)
born_exact c h at (writes.DeleteGroup name token) m = sym (no_items c [] m refl)

pub born_bound : (at : ℕ) (write : Write) (m : ℕ) → m ≤ at + 1 → cover_born at write m ≤ at + 1
born_bound at (writes.CreateSchedule group name token content) m le = omega arith
born_bound at (writes.UpdateSchedule group name token content) m le = le
born_bound at (writes.DeleteSchedule group name token) m le = le
born_bound at (writes.CreateGroup name token) m le = le
born_bound at (writes.DeleteGroup name token) m le = le

-- the new incarnation has its row; another write gives no items
pub born_row : (h : History) (at : ℕ) (write : Write) (edited : List Row) (inc : ℕ) → inc ≡ length edited + 1
    → nth (edited ++ born at write) inc ≡ None → items_born h at write ≡ []
born_row h at (writes.CreateSchedule group name token content) edited inc new e = absurd (last_there edited _ inc new e)
born_row h at (writes.UpdateSchedule group name token content) edited inc new e = refl
born_row h at (writes.DeleteSchedule group name token) edited inc new e = refl
born_row h at (writes.CreateGroup name token) edited inc new e = refl
born_row h at (writes.DeleteGroup name token) edited inc new e = refl
