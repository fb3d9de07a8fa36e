-- A Change makes nothing unentered.
use Rattle.std.proofs.Common.{◌≡◌, ℕ, zero, suc, ◌+◌, ◌<◌, ◌≤◌, ◌==◌, nat_le, Bool, true, false, cond, ◌||◌, Option, Some, None, List, [], ◌∷◌, map, length, filter, refl, ap, ap₂, ◌∙◌, arith, le_refl}
use Rattle.std.proofs.lemmas.Bool.{ne_eqb, lt-leb}
use Rattle.std.proofs.lemmas.List.Folds.{list_any-append}
use Rattle.sched_plain.specs.declared.row.Row.{Row}
use Rattle.sched_plain.specs.declared.schedule.Schedule.{Schedule}
use Rattle.sched_plain.specs.declared.step.Step.TheVariants as steps
use Rattle.sched_plain.specs.declared.write.Write.{Write}
use Rattle.plain_words.specs.declared.moment.Moment.{Moment}
use Rattle.sched_plain.specs.History.{History, ◌upon◌}
use Rattle.plain_words.specs.Lists.{nth, head, some_pass, passing, put_if}
use Rattle.sched_plain.specs.Changes.{changes_of}
use Rattle.sched_plain.specs.Rows.{Deed, Nothing, Renews, Ends, touches, deed_of, rows_of, touched_by}
use Rattle.sched_plain.specs.Zones.{read_under}
use Rattle.sched_plain.specs.Items.{Item, cut_item, opened, items_done, items_written, items_born, items}
use Rattle.expressions.specs.Calendar.{Calendar}
use Rattle.sched_plain.specs.Occurrences.{occurs, occurs_in, occ_below}
use Rattle.sched_plain.specs.Marks.{above_floor, without_pair, unentered}
use Rattle.sched_plain.specs.Ledger.{ended_by, ledger_of}
use Rattle.sched_plain.specs.Seen.{seen}
use Rattle.sched_plain.specs.Work.{open_at, first_open}
use Rattle.sched_plain.specs.Legal.{MayFollow}
use Rattle.plain_words.proofs.Booleans.{or_false, second_fails}
use Rattle.plain_words.proofs.Options.{map_none}
use Rattle.sched_plain.proofs.LedgerLemmas.{entries_cancelled}
use Rattle.work_order.specs.RevisionLaws.{ChangesOpenNothing}
use Rattle.next_dates.proofs.Tables.{kind_holds}
use Rattle.next_dates.proofs.Cuts.{cuts_stay}
use Rattle.next_dates.proofs.ItemSteps.{not_next}
use Rattle.work_order.proofs.Searches.{nth_within, none_of_numbers}

-- an item has no occurrence before it begins
opened_later : (c : Calendar) (bytes : Option (List ℕ)) (created first : ℕ) (content : Schedule) (i : ℕ) → i < first
    → occurs c (opened bytes created first content) i ≡ false
opened_later c bytes created first content i lt = second_fails content.enabled (nat_le first i) _ _ _ (lt-leb first i lt)

-- a deed at a moment leaves the occurrences up to it
done_stays : (c : Calendar) (h : History) (at created : ℕ) (deed : Deed) (all : List Item) (i : ℕ) → i ≤ at
    → occurs_in c (items_done h at created deed all) i ≡ occurs_in c all i
done_stays c h at created Nothing all i le = refl
done_stays c h at created (Renews content) all i le =
    let new = opened (read_under h content.zone) created (at + 1) content in
    list_any-append (λ item. occurs c item i) (map (cut_item at) all) (new ∷ [])
    ∙ ap₂ (λ a b. a || (b || false)) (cuts_stay c at all i le) (opened_later c (read_under h content.zone) created (at + 1) content i (omega arith))
    ∙ or_false (occurs_in c all i)
done_stays c h at created Ends all i le = cuts_stay c at all i le

-- items with the same occurrences up to a moment have the same ones below each bound up to it
same_below : (p q : ℕ → Bool) (n : ℕ) → ((i : ℕ) → i < n → p i ≡ q i) → passing p n ≡ passing q n
same_below p q zero same = refl
same_below p q (suc n) same =
    ap₂ (λ b xs. put_if b n xs) (same n (omega arith)) (same_below p q n (λ i lt. same i (omega arith)))

below_same : (c : Calendar) (new old : List Item) (at t : ℕ) → t ≤ at → ((i : ℕ) → i ≤ at → occurs_in c new i ≡ occurs_in c old i)
    → occ_below c new (t + 1) ≡ occ_below c old (t + 1)
unfolding occ_below
below_same c new old at t le same =
    same_below (occurs_in c new) (occurs_in c old) (t + 1) (λ i lt. same i (let up : i ≤ at = omega arith in up))

-- up to a Change's moment the same is unentered before and behind it
unentered_same : (c : Calendar) (h : History) (at : Moment) (write : Write) (inc : ℕ) (row : Row) → nth (rows_of (changes_of h)) inc ≡ Some row
    → (t : ℕ) → t ≤ at.0 → unentered c (steps.Change at write upon h) inc t ≡ unentered c h inc t
unentered_same c h at write inc row there t le =
    let rows = rows_of (changes_of h) in
    let here : (inc == length rows + 1) ≡ false = ne_eqb inc (length rows + 1) (not_next rows inc row there) in
    let all : items (steps.Change at write upon h) inc ≡ items_done h at.0 row.created.0 (deed_of write row) (items h inc) =
    ap (λ b. cond b (items_born h at.0 write) (items_written h at.0 write (nth rows inc) (items h inc))) here
    ∙ ap (λ o. items_written h at.0 write o (items h inc)) there in
    ap₂ (λ pairs below. without_pair pairs (filter (nat_le (above_floor h inc)) below))
    (entries_cancelled (ended_by rows write) (ledger_of h) inc)
    (ap (λ some. occ_below c some (t + 1)) all
    ∙ below_same c (items_done h at.0 row.created.0 (deed_of write row) (items h inc)) (items h inc) at.0 t le
    (done_stays c h at.0 row.created.0 (deed_of write row) (items h inc)))

head_none : (xs : List ℕ) → head xs ≡ None → xs ≡ []
head_none [] e = refl
head_none (x ∷ xs) e = let clash : ⊥ = cc in absurd clash

-- before a Change nothing that it touches is unentered
touched_closed : (c : Calendar) (h : History) (at : Moment) (write : Write) → MayFollow c h (steps.Change at write) → (inc : ℕ) (row : Row)
    → nth (rows_of (changes_of h)) inc ≡ Some row → touches (deed_of write row) ≡ true → unentered c h inc at.0 ≡ []
touched_closed c h at write may inc row there touched =
    let rows = rows_of (changes_of h) in
    let found : first_open (seen c h).times at.0 (touched_by rows write) ≡ None =
    map_none _ (first_open (seen c h).times at.0 (touched_by rows write)) (kind_holds c h (steps.Change at write) may).1.1.1.0 in
    let within = nth_within rows inc row there in
    let low : 1 ≤ inc = within.low in
    let up : inc ≤ length rows = within.up in
    let none : open_at (seen c h).times at.0 inc ≡ None =
    none_of_numbers (open_at (seen c h).times at.0) (λ k. some_pass (λ r. touches (deed_of write r)) (nth rows k)) 1 (length rows) inc found low (omega arith)
    (ap (some_pass (λ r. touches (deed_of write r))) there ∙ touched) in
    head_none (unentered c h inc at.0) (map_none _ (head (unentered c h inc at.0)) none)

pub opens_nothing : ChangesOpenNothing
opens_nothing c h at write legal inc row there =
    record {
      same = λ t le. unentered_same c h at write inc row there t le;
      touched = λ touched.
          unentered_same c h at write inc row there at.0 (le_refl at.0) ∙ touched_closed c h at write legal.1 inc row there touched;
    }
