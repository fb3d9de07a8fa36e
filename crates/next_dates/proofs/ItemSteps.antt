-- What a step makes of the items and the cover of an incarnation, and how its items end.
use Rattle.std.proofs.Common.{◌≡◌, ℕ, ◌+◌, ◌≤◌, ◌==◌, max, Bool, true, false, cond, ◌&&◌, ◌||◌, Option, Some, None, is_some, List, map, length, refl, sym, ap, ◌∙◌, subst, inl, inr, arith, le_refl}
use Rattle.std.proofs.lemmas.Bool.{cases_eq, eq-eqb, ne_eqb}
use Rattle.plain_words.specs.declared.moment.Moment.{Moment}
use Rattle.sched_plain.specs.declared.row.Row.{Row}
use Rattle.sched_plain.specs.declared.step.Pair.{Pair}
use Rattle.sched_plain.specs.declared.step.Step.TheVariants as steps
use Rattle.sched_plain.specs.declared.write.Write.{Write}
use Rattle.sched_plain.specs.declared.write.Write.TheVariants as writes
use Rattle.plain_words.specs.Ids.{shard_of}
use Rattle.plain_words.specs.Lists.{nth, last}
use Rattle.plain_words.specs.Moments.{last_moment}
use Rattle.plain_words.proofs.ListLemmas.{nth_past, when_none}
use Rattle.expressions.specs.Calendar.{Calendar}
use Rattle.sched_plain.specs.History.{History, beginning, based, ◌upon◌}
use Rattle.sched_plain.specs.Changes.{changes_of}
use Rattle.sched_plain.specs.Rows.{Deed, Nothing, Renews, Ends, deed_of, touches, rows_of, current_of}
use Rattle.sched_plain.specs.Zones.{is_utc, bytes_of}
use Rattle.sched_plain.specs.Items.{Item, cut_item, items_done, items_written, items_born, is_rezoned, items_rezoned, items_zoned, items}
use Rattle.sched_plain.specs.Marks.{cover_written, cover_born, cover_entered, cover}
use Rattle.sched_plain.specs.Legal.{IsLegal, MayFollow}
use Rattle.next_dates.proofs.LastItems.{EndBy, OthersEnd, end_more, end_cut, cut_end, others_more, others_cut, others_behind}
use Rattle.next_dates.proofs.Tables.{kind_holds}

-- who has a row is not the next to be created
pub not_next : (rows : List Row) (inc : ℕ) (row : Row) → nth rows inc ≡ Some row → inc ≡ length rows + 1 → ⊥
not_next rows inc row there e =
    let none : nth rows inc ≡ None = nth_past rows inc (omega arith) in
    let clash : Some row ≡ None = sym there ∙ none in
    let no : ⊥ = cc in no

module _ (h : History) (at : Moment) (write : Write) (inc : ℕ) where
  pub items_of_new : inc ≡ length (rows_of (changes_of h)) + 1 → items (steps.Change at write upon h) inc ≡ items_born h at.0 write
  items_of_new new =
      ap (λ b. cond b (items_born h at.0 write) (items_written h at.0 write (nth (rows_of (changes_of h)) inc) (items h inc)))
      (eq-eqb inc (length (rows_of (changes_of h)) + 1) new)

  pub cover_of_new : inc ≡ length (rows_of (changes_of h)) + 1 → cover (steps.Change at write upon h) inc ≡ cover_born at.0 write (cover h inc)
  cover_of_new new =
      ap (λ b. cond b (cover_born at.0 write (cover h inc)) (cover_written at.0 write (nth (rows_of (changes_of h)) inc) (cover h inc)))
      (eq-eqb inc (length (rows_of (changes_of h)) + 1) new)

  pub items_of_old : (inc ≡ length (rows_of (changes_of h)) + 1 → ⊥)
      → items (steps.Change at write upon h) inc ≡ items_written h at.0 write (nth (rows_of (changes_of h)) inc) (items h inc)
  items_of_old old =
      ap (λ b. cond b (items_born h at.0 write) (items_written h at.0 write (nth (rows_of (changes_of h)) inc) (items h inc)))
      (ne_eqb inc (length (rows_of (changes_of h)) + 1) old)

  pub cover_of_old : (inc ≡ length (rows_of (changes_of h)) + 1 → ⊥)
      → cover (steps.Change at write upon h) inc ≡ cover_written at.0 write (nth (rows_of (changes_of h)) inc) (cover h inc)
  cover_of_old old =
      ap (λ b. cond b (cover_born at.0 write (cover h inc)) (cover_written at.0 write (nth (rows_of (changes_of h)) inc) (cover h inc)))
      (ne_eqb inc (length (rows_of (changes_of h)) + 1) old)

or_fails : (a b : Bool) → (a || b) ≡ false → b ≡ false
or_fails true b e = cc
or_fails false b e = e

-- a Zone that may follow is of a new name
pub zone_new : (c : Calendar) (h : History) (at : Moment) (name bytes : List ℕ) → MayFollow c h (steps.Zone at name bytes) → is_some (bytes_of h name) ≡ false
zone_new c h at name bytes may =
    or_fails (is_utc name) (is_some (bytes_of h name))
    (when_none (is_utc name || is_some (bytes_of h name)) _ (kind_holds c h (steps.Zone at name bytes) may).0)

zoned_same : (known : Bool) (at : ℕ) (name bytes : List ℕ) (row : Option Row) (all : List Item) → known ≡ false → items_zoned known at name bytes row all ≡ all
zoned_same known at name bytes None all new = refl
zoned_same known at name bytes (Some row) all new =
    ap (λ b. cond (b && is_rezoned name row) (items_rezoned at bytes row.created.0 (current_of row) all) all) new

-- and changes no items
pub items_of_zone : (c : Calendar) (h : History) (at : Moment) (name bytes : List ℕ) → MayFollow c h (steps.Zone at name bytes) → (inc : ℕ)
    → items (steps.Zone at name bytes upon h) inc ≡ items h inc
items_of_zone c h at name bytes may inc =
    zoned_same (is_some (bytes_of h name)) at.0 name bytes (nth (rows_of (changes_of h)) inc) (items h inc) (zone_new c h at name bytes may)

-- the cover never falls
pub entered_grows : (b : Bool) (pair : Option Pair) (m : ℕ) → m ≤ cond b (cover_entered pair m) m
entered_grows true None m = le_refl m
entered_grows true (Some pair) m = omega arith
entered_grows false pair m = le_refl m

pub chosen_grows : (b : Bool) (m n : ℕ) → m ≤ cond b (max m n) m
chosen_grows true m n = omega arith
chosen_grows false m n = le_refl m

pub written_grows : (at : ℕ) (write : Write) (row : Option Row) (m : ℕ) → m ≤ cover_written at write row m
written_grows at write None m = le_refl m
written_grows at write (Some row) m = chosen_grows (touches (deed_of write row)) m (at + 1)

-- each item of an incarnation ends at or before the last moment
end_chosen : (b : Bool) (m : ℕ) (one other : List Item) → EndBy m one → EndBy m other → EndBy m (cond b one other)
end_chosen true m one other first second = first
end_chosen false m one other first second = second

done_end : (h : History) (at created : ℕ) (deed : Deed) (all : List Item) → EndBy last_moment all → EndBy last_moment (items_done h at created deed all)
done_end h at created Nothing all old = old
done_end h at created (Renews content) all old = end_more last_moment (map (cut_item at) all) _ (end_cut last_moment at all old) (le_refl last_moment)
done_end h at created Ends all old = end_cut last_moment at all old

written_end : (h : History) (at : ℕ) (write : Write) (row : Option Row) (all : List Item) → EndBy last_moment all → EndBy last_moment (items_written h at write row all)
written_end h at write None all old = old
written_end h at write (Some row) all old = done_end h at row.created.0 (deed_of write row) all old

born_end : (h : History) (at : ℕ) (write : Write) → EndBy last_moment (items_born h at write)
born_end h at (writes.CreateSchedule group name token content) = (le_refl last_moment, tt)
born_end h at (writes.UpdateSchedule group name token content) = tt
born_end h at (writes.DeleteSchedule group name token) = tt
born_end h at (writes.CreateGroup name token) = tt
born_end h at (writes.DeleteGroup name token) = tt

rezoned_end : (at : ℕ) (bytes : List ℕ) (created : ℕ) (content : Option _) (all : List Item) → EndBy last_moment all
    → EndBy last_moment (items_rezoned at bytes created content all)
rezoned_end at bytes created None all old = old
rezoned_end at bytes created (Some content) all old = end_more last_moment (map (cut_item at) all) _ (end_cut last_moment at all old) (le_refl last_moment)

zoned_end : (known : Bool) (at : ℕ) (name bytes : List ℕ) (row : Option Row) (all : List Item) → EndBy last_moment all
    → EndBy last_moment (items_zoned known at name bytes row all)
zoned_end known at name bytes None all old = old
zoned_end known at name bytes (Some row) all old =
    end_chosen (known && is_rezoned name row) last_moment (items_rezoned at bytes row.created.0 (current_of row) all) all
    (rezoned_end at bytes row.created.0 (current_of row) all old) old

pub items_end : (h : History) (inc : ℕ) → EndBy last_moment (items h inc)
items_end beginning inc = tt
items_end (based b kept) inc = items_end kept inc
items_end (steps.Change at write upon h) inc =
    end_chosen (inc == length (rows_of (changes_of h)) + 1) last_moment (items_born h at.0 write) (items_written h at.0 write (nth (rows_of (changes_of h)) inc) (items h inc))
    (born_end h at.0 write) (written_end h at.0 write (nth (rows_of (changes_of h)) inc) (items h inc) (items_end h inc))
items_end (steps.Complete at removed upon h) inc =
    end_chosen (inc == removed) last_moment (map (cut_item at.0) (items h inc)) (items h inc) (end_cut last_moment at.0 (items h inc) (items_end h inc)) (items_end h inc)
items_end (steps.Zone at name bytes upon h) inc =
    zoned_end (is_some (bytes_of h name)) at.0 name bytes (nth (rows_of (changes_of h)) inc) (items h inc) (items_end h inc)
items_end (steps.Boot at upon h) inc = items_end h inc
items_end (steps.Enter at of pairs upon h) inc = items_end h inc
items_end (steps.Lease at shard worker epoch until upon h) inc = items_end h inc
items_end (steps.Release at shard worker epoch upon h) inc = items_end h inc
items_end (steps.Begin at of instant number epoch upon h) inc = items_end h inc
items_end (steps.End at of instant number verdict status upon h) inc = items_end h inc
items_end (steps.Close at of instant reason upon h) inc = items_end h inc
items_end (steps.Swept at shard upon h) inc = items_end h inc

-- each item of an incarnation but the last ends before the cover
done_others : (h : History) (at created : ℕ) (deed : Deed) (all : List Item) (m : ℕ) → OthersEnd m all
    → OthersEnd (cond (touches deed) (max m (at + 1)) m) (items_done h at created deed all)
done_others h at created Nothing all m old = old
done_others h at created (Renews content) all m old = others_behind at (max m (at + 1)) (map (cut_item at) all) _ (omega arith) (cut_end at all)
done_others h at created Ends all m old = others_more m (max m (at + 1)) (map (cut_item at) all) (omega arith) (others_cut m at all old)

written_others : (h : History) (at : ℕ) (write : Write) (row : Option Row) (all : List Item) (m : ℕ) → OthersEnd m all
    → OthersEnd (cover_written at write row m) (items_written h at write row all)
written_others h at write None all m old = old
written_others h at write (Some row) all m old = done_others h at row.created.0 (deed_of write row) all m old

born_others : (h : History) (at : ℕ) (write : Write) (m : ℕ) → OthersEnd m (items_born h at write)
born_others h at (writes.CreateSchedule group name token content) m = tt
born_others h at (writes.UpdateSchedule group name token content) m = tt
born_others h at (writes.DeleteSchedule group name token) m = tt
born_others h at (writes.CreateGroup name token) m = tt
born_others h at (writes.DeleteGroup name token) m = tt

cut_others : (b : Bool) (m at : ℕ) (all : List Item) → OthersEnd m all → OthersEnd m (cond b (map (cut_item at) all) all)
cut_others true m at all old = others_cut m at all old
cut_others false m at all old = old

change_others : (h : History) (at : Moment) (write : Write) (inc : ℕ) → OthersEnd (cover h inc) (items h inc)
    → OthersEnd (cover (steps.Change at write upon h) inc) (items (steps.Change at write upon h) inc)
change_others h at write inc old =
    elim (cases_eq inc (length (rows_of (changes_of h)) + 1)) [
      | inl new ↦
          subst (λ m. OthersEnd m (items (steps.Change at write upon h) inc)) (sym (cover_of_new h at write inc new))
          (subst (λ all. OthersEnd (cover_born at.0 write (cover h inc)) all) (sym (items_of_new h at write inc new)) (born_others h at.0 write (cover_born at.0 write (cover h inc))))
      | inr other ↦
          subst (λ m. OthersEnd m (items (steps.Change at write upon h) inc)) (sym (cover_of_old h at write inc other))
          (subst (λ all. OthersEnd (cover_written at.0 write (nth (rows_of (changes_of h)) inc) (cover h inc)) all) (sym (items_of_old h at write inc other))
          (written_others h at.0 write (nth (rows_of (changes_of h)) inc) (items h inc) (cover h inc) old))
    ]

pub others_end : (c : Calendar) (h : History) → IsLegal c h → (inc : ℕ) → OthersEnd (cover h inc) (items h inc)
others_end c beginning legal inc = tt
others_end c (based b kept) legal inc = absurd legal
others_end c (steps.Change at write upon h) legal inc = change_others h at write inc (others_end c h legal.0 inc)
others_end c (steps.Complete at removed upon h) legal inc = cut_others (inc == removed) (cover h inc) at.0 (items h inc) (others_end c h legal.0 inc)
others_end c (steps.Zone at name bytes upon h) legal inc =
    subst (λ all. OthersEnd (cover h inc) all) (sym (items_of_zone c h at name bytes legal.1 inc)) (others_end c h legal.0 inc)
others_end c (steps.Enter at of pairs upon h) legal inc =
    others_more (cover h inc) (cover (steps.Enter at of pairs upon h) inc) (items h inc) (entered_grows (inc == of) (last {A = Pair} pairs) (cover h inc)) (others_end c h legal.0 inc)
others_end c (steps.Swept at shard upon h) legal inc =
    others_more (cover h inc) (cover (steps.Swept at shard upon h) inc) (items h inc) (chosen_grows (shard == shard_of inc) (cover h inc) (at.0 + 1)) (others_end c h legal.0 inc)
others_end c (steps.Boot at upon h) legal inc = others_end c h legal.0 inc
others_end c (steps.Lease at shard worker epoch until upon h) legal inc = others_end c h legal.0 inc
others_end c (steps.Release at shard worker epoch upon h) legal inc = others_end c h legal.0 inc
others_end c (steps.Begin at of instant number epoch upon h) legal inc = others_end c h legal.0 inc
others_end c (steps.End at of instant number verdict status upon h) legal inc = others_end c h legal.0 inc
others_end c (steps.Close at of instant reason upon h) legal inc = others_end c h legal.0 inc
