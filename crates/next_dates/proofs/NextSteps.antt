-- What each step that may follow makes of the next instant of an incarnation.
use Rattle.std.proofs.Common.{◌≡◌, ℕ, zero, suc, ◌+◌, ◌≤◌, ◌==◌, max, nat_le, Bool, true, false, cond, ◌&&◌, Option, Some, None, is_some, List, [], ◌∷◌, ◌++◌, map, length, filter, refl, sym, ap, ap₂, ◌∙◌, subst, inl, inr, arith, append-nil, leb-true}
use Rattle.std.proofs.lemmas.Bool.{cases_eq, eq-eqb, ne_eqb, or_parts}
use Rattle.plain_words.specs.declared.moment.Moment.{Moment}
use Rattle.sched_plain.specs.declared.row.Row.{Row}
use Rattle.sched_plain.specs.declared.step.Pair.{Pair}
use Rattle.sched_plain.specs.declared.step.Step.{Step}
use Rattle.sched_plain.specs.declared.step.Step.TheVariants as steps
use Rattle.sched_plain.specs.declared.write.Write.{Write}
use Rattle.sched_plain.specs.declared.write.Write.TheVariants as writes
use Rattle.plain_words.specs.Lists.{head, last, last_from, nth, passing, put_if, some_pass}
use Rattle.plain_words.specs.Moments.{last_moment}
use Rattle.plain_words.proofs.Booleans.{or_false, and_first}
use Rattle.plain_words.proofs.ListLemmas.{nth_past}
use Rattle.plain_words.proofs.Options.{map_none}
use Rattle.expressions.specs.Calendar.{Calendar}
use Rattle.sched_plain.specs.History.{History, ◌upon◌}
use Rattle.sched_plain.specs.Moments.{moment}
use Rattle.sched_plain.specs.Changes.{changes_of}
use Rattle.sched_plain.specs.Rows.{Deed, Nothing, Renews, Ends, deed_of, touches, rows_of}
use Rattle.sched_plain.specs.Zones.{read_under}
use Rattle.sched_plain.specs.Items.{Item, cut_item, opened, items_done, items_written, items_born, items}
use Rattle.sched_plain.specs.Occurrences.{occurs, occurs_in, occ_below}
use Rattle.sched_plain.specs.Leases.{holder, is_taking}
use Rattle.sched_plain.specs.Ledger.{ended_by, ledger_of}
use Rattle.sched_plain.specs.Entries.{entries, instants_of}
use Rattle.sched_plain.specs.Marks.{without_pair, above_floor, unentered, cover_written, cover_entered, cover}
use Rattle.sched_plain.specs.Rules.{first_astray}
use Rattle.sched_plain.specs.Legal.{IsLegal, MayFollow}
use Rattle.sched_plain.proofs.LedgerLemmas.{entries_cancelled, entries_lost}
use Rattle.next_dates.specs.Dates.{IsLeast, from_on}
use Rattle.next_dates.specs.NextInstants.{next_instant, is_next, creates, is_touched, changes_next}
use Rattle.next_dates.specs.StepLaws.{NextStays, NextCreated, NextRenewed, NextEnded, NextEntered}
use Rattle.next_dates.proofs.Firsts.{least_agrees}
use Rattle.next_dates.proofs.LastItems.{last_push, only_last}
use Rattle.next_dates.proofs.Tables.{kind_holds, change_moment}
use Rattle.next_dates.proofs.Entered.{cover_bound, unborn}
use Rattle.next_dates.proofs.ItemSteps.{not_next, items_of_new, cover_of_new, items_of_old, cover_of_old, items_of_zone, others_end}
use Rattle.next_dates.proofs.Cuts.{cut_none, cut_past}
use Rattle.next_dates.proofs.Completions.{nothing_left}
use Rattle.next_dates.proofs.NextComing.{is_rest, unentered_is, next_found}

-- where pairs and items stay, the head of what has no entry does
head_stays : (c : Calendar) (least bound : ℕ) (pairs more : List Pair) (all other : List Item) → more ≡ pairs → other ≡ all
    → head (without_pair more (filter (nat_le least) (occ_below c other bound))) ≡ head (without_pair pairs (filter (nat_le least) (occ_below c all bound)))
head_stays c least bound pairs more all other same alike =
    ap₂ (λ (xs : List Pair) (its : List Item). head (without_pair xs (filter (nat_le least) (occ_below c its bound)))) same alike

next_same : (c : Calendar) (h : History) (s : Step) (inc : ℕ) → above_floor (s upon h) inc ≡ above_floor h inc
    → entries (ledger_of (s upon h)) inc ≡ entries (ledger_of h) inc → items (s upon h) inc ≡ items h inc
    → next_instant c (s upon h) inc ≡ next_instant c h inc
next_same c h s inc floor same alike =
    head_stays c (above_floor h inc) (last_moment + 1) (entries (ledger_of h) inc) (entries (ledger_of (s upon h)) inc) (items h inc) (items (s upon h) inc) same alike

-- a Change that does not touch the incarnation, nor create it
done_same : (h : History) (at created : ℕ) (deed : Deed) (all : List Item) → touches deed ≡ false → items_done h at created deed all ≡ all
done_same h at created Nothing all e = refl
done_same h at created (Renews content) all e = cc
done_same h at created Ends all e = cc

written_same : (h : History) (at : ℕ) (write : Write) (row : Option Row) (all : List Item) → some_pass (λ (r : Row). touches (deed_of write r)) row ≡ false
    → items_written h at write row all ≡ all
written_same h at write None all e = refl
written_same h at write (Some row) all e = done_same h at row.created.0 (deed_of write row) all e

born_none : (h : History) (at : ℕ) (write : Write) → creates write ≡ false → items_born h at write ≡ []
born_none h at (writes.CreateSchedule group name token content) e = cc
born_none h at (writes.UpdateSchedule group name token content) e = refl
born_none h at (writes.DeleteSchedule group name token) e = refl
born_none h at (writes.CreateGroup name token) e = refl
born_none h at (writes.DeleteGroup name token) e = refl

change_stays : (c : Calendar) (h : History) (at : Moment) (write : Write) → IsLegal c h → (inc : ℕ) → changes_next h (steps.Change at write) inc ≡ false
    → items (steps.Change at write upon h) inc ≡ items h inc
change_stays c h at write legal inc e =
    let rows = rows_of (changes_of h) in
    let parts = or_parts (is_next h inc && creates write) (is_touched h write inc) e in
    elim (cases_eq inc (length rows + 1)) [
      | inl new ↦
          let here : is_next h inc ≡ true = eq-eqb inc (length rows + 1) new in
          let not_created : creates write ≡ false = sym (ap (λ b. b && creates write) here) ∙ parts.0 in
          let past : nth rows inc ≡ None = nth_past rows inc (omega arith) in
          items_of_new h at write inc new ∙ born_none h at.0 write not_created ∙ sym (unborn c h legal inc past)
      | inr old ↦ items_of_old h at write inc old ∙ written_same h at.0 write (nth rows inc) (items h inc) parts.1
    ]

-- an Enter of another, or of no pairs
some_last : (pair : Pair) (pairs : List Pair) → is_some (last_from pair pairs) ≡ true
some_last pair [] = refl
some_last pair (next ∷ pairs) = some_last next pairs

enter_same : (b : Bool) (before pairs : List Pair) → (b && is_some {T = Pair} (last pairs)) ≡ false → cond b (before ++ pairs) before ≡ before
enter_same false before pairs e = refl
enter_same true before [] e = append-nil before
enter_same true before (pair ∷ pairs) e = let clash : true ≡ false = sym (some_last pair pairs) ∙ e in cc

-- a Complete: of the incarnation, before and after which nothing is to come, or of another
completed_none : (c : Calendar) (h : History) (at : Moment) (inc : ℕ) → IsLegal c h → MayFollow c h (steps.Complete at inc)
    → next_instant c (steps.Complete at inc upon h) inc ≡ None
completed_none c h at inc legal may =
    let cut : items (steps.Complete at inc upon h) inc ≡ map (cut_item at.0) (items h inc) =
    ap (λ b. cond b (map (cut_item at.0) (items h inc)) (items h inc)) (eq-eqb inc inc refl) in
    next_found c (steps.Complete at inc upon h) (legal, may) inc None
    (λ i. ap (λ all. from_on (cover h inc) (occurs_in c all) i) cut ∙ cut_none c (cover h inc) at.0 (items h inc) (nothing_left c h at inc legal may) i)

complete_stays : (c : Calendar) (h : History) (at : Moment) (removed : ℕ) → IsLegal c h → MayFollow c h (steps.Complete at removed) → (inc : ℕ)
    → next_instant c (steps.Complete at removed upon h) inc ≡ next_instant c h inc
complete_stays c h at removed legal may inc =
    elim (cases_eq inc removed) [
      | inl same ↦
          let before : next_instant c h removed ≡ None = next_found c h legal removed None (nothing_left c h at removed legal may) in
          ap (next_instant c (steps.Complete at removed upon h)) same
          ∙ completed_none c h at removed legal may ∙ sym before ∙ ap (next_instant c h) (sym same)
      | inr other ↦
          next_same c h (steps.Complete at removed) inc refl refl
          (ap (λ b. cond b (map (cut_item at.0) (items h inc)) (items h inc)) (ne_eqb inc removed other))
    ]

pub next_stays : NextStays
next_stays c h (steps.Boot at) legal may inc e = refl
next_stays c h (steps.Zone at name bytes) legal may inc e =
    next_same c h (steps.Zone at name bytes) inc refl refl (items_of_zone c h at name bytes may inc)
next_stays c h (steps.Change at write) legal may inc e =
    next_same c h (steps.Change at write) inc refl (entries_cancelled (ended_by (rows_of (changes_of h)) write) (ledger_of h) inc)
    (change_stays c h at write legal inc e)
next_stays c h (steps.Enter at of pairs) legal may inc e =
    next_same c h (steps.Enter at of pairs) inc refl (enter_same (inc == of) (entries (ledger_of h) inc) pairs e) refl
next_stays c h (steps.Lease at shard worker epoch until) legal may inc e =
    next_same c h (steps.Lease at shard worker epoch until) inc refl (entries_lost (is_taking (holder h shard) epoch) (Some shard) at.0 (ledger_of h) inc) refl
next_stays c h (steps.Release at shard worker epoch) legal may inc e = refl
next_stays c h (steps.Begin at of instant number epoch) legal may inc e = refl
next_stays c h (steps.End at of instant number verdict status) legal may inc e = refl
next_stays c h (steps.Close at of instant reason) legal may inc e = refl
next_stays c h (steps.Complete at removed) legal may inc e = complete_stays c h at removed legal may inc
next_stays c h (steps.Swept at shard) legal may inc e = refl

-- a creation
pub next_created : NextCreated
next_created c h at group name token content legal may inc next new least =
    let write : Write = writes.CreateSchedule group name token content in
    let item = opened (read_under h content.zone) at.0 at.0 content in
    next_found c (steps.Change at write upon h) (legal, may) inc next
    (least_agrees (from_on at.0 (occurs c item)) (is_rest c (steps.Change at write upon h) inc) next
    (λ i.
    sym (ap₂ (λ (m : ℕ) (all : List Item). from_on m (occurs_in c all) i) (cover_of_new h at write inc new) (items_of_new h at write inc new)
    ∙ ap (λ b. nat_le at.0 i && b) (or_false (occurs c item i)))) least)

-- the cover behind a Change that touches the incarnation
pub touched_cover : (c : Calendar) (h : History) (at : Moment) (write : Write) → IsLegal c h → MayFollow c h (steps.Change at write)
    → (inc : ℕ) (row : Row) → nth (rows_of (changes_of h)) inc ≡ Some row → touches (deed_of write row) ≡ true
    → cover (steps.Change at write upon h) inc ≡ at.0 + 1
touched_cover c h at write legal may inc row there touched =
    let low : cover h inc ≤ moment h + 1 = cover_bound c h legal inc in
    let later : moment h ≤ at.0 = change_moment c h at write may in
    let top : max (cover h inc) (at.0 + 1) ≡ at.0 + 1 = omega arith in
    cover_of_old h at write inc (not_next (rows_of (changes_of h)) inc row there)
    ∙ ap (λ r. cover_written at.0 write r (cover h inc)) there
    ∙ ap (λ b. cond b (max (cover h inc) (at.0 + 1)) (cover h inc)) touched
    ∙ top

-- its items
pub touched_items : (h : History) (at : Moment) (write : Write) (inc : ℕ) (row : Row) (deed : Deed) → nth (rows_of (changes_of h)) inc ≡ Some row
    → deed_of write row ≡ deed → items (steps.Change at write upon h) inc ≡ items_done h at.0 row.created.0 deed (items h inc)
touched_items h at write inc row deed there is =
    items_of_old h at write inc (not_next (rows_of (changes_of h)) inc row there)
    ∙ ap (λ r. items_written h at.0 write r (items h inc)) there
    ∙ ap (λ d. items_done h at.0 row.created.0 d (items h inc)) is

-- the rest of a history is of its last item
rest_is : (c : Calendar) (h : History) → IsLegal c h → (inc : ℕ) (item : Item) (from : ℕ) (next : Option ℕ)
    → last (items h inc) ≡ Some item → cover h inc ≡ from → IsLeast (from_on from (occurs c item)) next → next_instant c h inc ≡ next
rest_is c h legal inc item from next is top least =
    next_found c h legal inc next
    (least_agrees (from_on from (occurs c item)) (is_rest c h inc) next
    (λ i. ap (λ m. from_on m (occurs c item) i) (sym top) ∙ sym (only_last c (cover h inc) (items h inc) item (others_end c h legal inc) is i)) least)

pub next_renewed : NextRenewed
next_renewed c h at write legal may inc row content next there is least =
    let item = opened (read_under h content.zone) row.created.0 (at.0 + 1) content in
    rest_is c (steps.Change at write upon h) (legal, may) inc item (at.0 + 1) next
    (ap (last {A = Item}) (touched_items h at write inc row (Renews content) there is) ∙ last_push (map (cut_item at.0) (items h inc)) item)
    (touched_cover c h at write legal may inc row there (ap touches is)) least

pub next_ended : NextEnded
next_ended c h at write legal may inc row there is =
    let top = touched_cover c h at write legal may inc row there (ap touches is) in
    next_found c (steps.Change at write upon h) (legal, may) inc None
    (λ i.
    ap₂ (λ (m : ℕ) (all : List Item). from_on m (occurs_in c all) i) top (touched_items h at write inc row Ends there is)
    ∙ cut_past c (at.0 + 1) at.0 (items h inc) (omega arith) i)

-- each number is no less than one
abbrev pub AllFrom : ℕ → List ℕ → Type 0
AllFrom m [] = Unit {0}
AllFrom m (x ∷ xs) = (m ≤ x) × AllFrom m xs

from_push : (m n : ℕ) (xs : List ℕ) → AllFrom m xs → m ≤ n → AllFrom m (xs ++ n ∷ [])
from_push m n [] all le = (le, tt)
from_push m n (x ∷ xs) all le = (all.0, from_push m n xs all.1 le)

from_put : (m n : ℕ) (b : Bool) (xs : List ℕ) → AllFrom m xs → (b ≡ true → m ≤ n) → AllFrom m (put_if b n xs)
from_put m n true xs all le = from_push m n xs all (le refl)
from_put m n false xs all le = all

passing_from : (p : ℕ → Bool) (m n : ℕ) → AllFrom m (passing (from_on m p) n)
passing_from p m zero = tt
passing_from p m (suc n) =
    from_put m n (from_on m p n) (passing (from_on m p) n) (passing_from p m n)
    (λ passes. leb-true m n (and_first (nat_le m n) (p n) passes))

-- where no pair is astray the pairs have some of the numbers wanted
pairs_from : (m : ℕ) (pairs : List Pair) (wanted : List ℕ) → AllFrom m wanted → first_astray pairs wanted ≡ None → AllFrom m (instants_of pairs)
pairs_from m [] wanted all e = tt
pairs_from m (pair ∷ pairs) [] all e = let clash : ⊥ = cc in absurd clash
pairs_from m (pair ∷ pairs) (x ∷ wanted) all e =
    elim (cases_eq pair.instant x) [
      | inl same ↦
          let rest : first_astray pairs wanted ≡ None =
          sym (ap (λ b. cond b (first_astray pairs wanted) (Some pair.instant)) (eq-eqb pair.instant x same)) ∙ e in
          (subst (λ k. m ≤ k) (sym same) all.0, pairs_from m pairs wanted all.1 rest)
      | inr apart ↦
          let astray : Some pair.instant ≡ None =
          sym (ap (λ b. cond b (first_astray pairs wanted) (Some pair.instant)) (ne_eqb pair.instant x apart)) ∙ e in
          let clash : ⊥ = cc in
          absurd clash
    ]

last_from_above : (m : ℕ) (pair : Pair) (pairs : List Pair) (found : Pair) → AllFrom m (instants_of (pair ∷ pairs)) → last_from pair pairs ≡ Some found → m ≤ found.instant
last_from_above m pair [] found all is = let same : pair ≡ found = cc in subst (λ (p : Pair). m ≤ p.instant) same all.0
last_from_above m pair (next ∷ pairs) found all is = last_from_above m next pairs found all.1 is

last_above : (m : ℕ) (pairs : List Pair) (found : Pair) → AllFrom m (instants_of pairs) → last pairs ≡ Some found → m ≤ found.instant
last_above m [] found all is = let clash : ⊥ = cc in absurd clash
last_above m (pair ∷ pairs) found all is = last_from_above m pair pairs found all is

-- an Enter of pairs raises the cover to one more than their last instant
entered_cover : (c : Calendar) (h : History) (at : Moment) (inc : ℕ) (pairs : List Pair) → IsLegal c h → MayFollow c h (steps.Enter at inc pairs)
    → (pair : Pair) → last pairs ≡ Some pair → cover (steps.Enter at inc pairs upon h) inc ≡ pair.instant + 1
entered_cover c h at inc pairs legal may pair is =
    let found : first_astray pairs (unentered c h inc at.0) ≡ None =
    map_none _ (first_astray pairs (unentered c h inc at.0)) (kind_holds c h (steps.Enter at inc pairs) may).0 in
    let wanted : AllFrom (cover h inc) (unentered c h inc at.0) =
    subst (λ xs. AllFrom (cover h inc) xs) (sym (unentered_is c h legal inc at.0)) (passing_from (occurs_in c (items h inc)) (cover h inc) (at.0 + 1)) in
    let low : cover h inc ≤ pair.instant = last_above (cover h inc) pairs pair (pairs_from (cover h inc) pairs (unentered c h inc at.0) wanted found) is in
    let top : max (cover h inc) (pair.instant + 1) ≡ pair.instant + 1 = omega arith in
    ap (λ b. cond b (cover_entered (last {A = Pair} pairs) (cover h inc)) (cover h inc)) (eq-eqb inc inc refl)
    ∙ ap (λ p. cover_entered p (cover h inc)) is ∙ top

pub next_entered : NextEntered
next_entered c h at inc pairs legal may pair item next last_is item_is least =
    rest_is c (steps.Enter at inc pairs upon h) (legal, may) inc item (pair.instant + 1) next item_is
    (entered_cover c h at inc pairs legal may pair last_is) least
