-- What a step does to the items of an incarnation changes no occurrence at or before the step's moment.
use Rattle.std.proofs.Common.{◌≡◌, ℕ, ◌+◌, ◌<◌, ◌≤◌, min, nat_le, Bool, true, false, cond, ◌&&◌, ◌||◌, Option, Some, None, List, [], ◌∷◌, ◌++◌, map, refl, sym, ap, ap₂, ◌∙◌, inl, inr, arith}
use Rattle.std.proofs.lemmas.Bool.{cases_lt, le-leb, lt-leb}
use Rattle.std.proofs.lemmas.List.Folds.{list_any-append}
use Rattle.sched_plain.specs.declared.row.Row.{Row}
use Rattle.sched_plain.specs.declared.schedule.Schedule.{Schedule}
use Rattle.sched_plain.specs.History.{History}
use Rattle.sched_plain.specs.Rows.{Deed, Nothing, Renews, Ends, current_of}
use Rattle.sched_plain.specs.Zones.{read_under}
use Rattle.sched_plain.specs.Items.{Item, cut_item, opened, items_done, is_rezoned, items_rezoned, items_zoned}
use Rattle.expressions.specs.Calendar.{Calendar}
use Rattle.sched_plain.specs.Occurrences.{is_within_dates, occurs, occurs_in}
use Rattle.plain_words.proofs.Booleans.{or_false, second_fails}

pub le_min : (i at to : ℕ) → i ≤ at → nat_le i (min at to) ≡ nat_le i to
le_min i at to le =
    elim (cases_lt to i) [
      | inl lt ↦ let low : min at to < i = omega arith in lt-leb i (min at to) low ∙ sym (lt-leb i to lt)
      | inr ge ↦ let up : i ≤ min at to = omega arith in le-leb i (min at to) up ∙ sym (le-leb i to ge)
    ]

-- a span that ends at a moment is the same up to it
pub cut_stays : (c : Calendar) (at : ℕ) (item : Item) (i : ℕ) → i ≤ at → occurs c (cut_item at item) i ≡ occurs c item i
cut_stays c at item i le =
    ap (λ b. item.content.enabled && nat_le item.first i && b
    && is_within_dates item.content.expr item.content i && c.at item.content.expr item.bytes item.anchor i) (le_min i at item.last le)

pub cuts_stay : (c : Calendar) (at : ℕ) (all : List Item) (i : ℕ) → i ≤ at → occurs_in c (map (cut_item at) all) i ≡ occurs_in c all i
cuts_stay c at [] i le = refl
cuts_stay c at (item ∷ all) i le = ap₂ (λ a b. a || b) (cut_stays c at item i le) (cuts_stay c at all i le)

-- an item has no occurrence before it begins
pub opened_later : (c : Calendar) (bytes : Option (List ℕ)) (created first : ℕ) (content : Schedule) (i : ℕ) → i < first
    → occurs c (opened bytes created first content) i ≡ false
opened_later c bytes created first content i lt =
    second_fails content.enabled (nat_le first i) _ _ _ (lt-leb first i lt)

-- the items cut, with one more that begins later
pub renewed_stays : (c : Calendar) (at : ℕ) (all : List Item) (item : Item) (i : ℕ) → i ≤ at → occurs c item i ≡ false
    → occurs_in c (map (cut_item at) all ++ item ∷ []) i ≡ occurs_in c all i
renewed_stays c at all item i le none =
    list_any-append (λ it. occurs c it i) (map (cut_item at) all) (item ∷ [])
    ∙ ap₂ (λ a b. a || (b || false)) (cuts_stay c at all i le) none
    ∙ or_false (occurs_in c all i)

pub done_stays : (c : Calendar) (h : History) (at created : ℕ) (deed : Deed) (all : List Item) (i : ℕ) → i ≤ at
    → occurs_in c (items_done h at created deed all) i ≡ occurs_in c all i
done_stays c h at created Nothing all i le = refl
done_stays c h at created (Renews content) all i le =
    renewed_stays c at all (opened (read_under h content.zone) created (at + 1) content) i le
    (opened_later c (read_under h content.zone) created (at + 1) content i (omega arith))
done_stays c h at created Ends all i le = cuts_stay c at all i le

rezoned_stays : (c : Calendar) (at : ℕ) (bytes : List ℕ) (created : ℕ) (content : Option Schedule) (all : List Item) (i : ℕ) → i ≤ at
    → occurs_in c (items_rezoned at bytes created content all) i ≡ occurs_in c all i
rezoned_stays c at bytes created None all i le = refl
rezoned_stays c at bytes created (Some content) all i le =
    renewed_stays c at all (opened (Some bytes) created (at + 1) content) i le
    (opened_later c (Some bytes) created (at + 1) content i (omega arith))

-- one of two lists of items, where both have the same occurrence here
chosen_stays : (c : Calendar) (b : Bool) (one all : List Item) (i : ℕ) → occurs_in c one i ≡ occurs_in c all i
    → occurs_in c (cond b one all) i ≡ occurs_in c all i
chosen_stays c true one all i same = same
chosen_stays c false one all i same = refl

pub zoned_stays : (c : Calendar) (known : Bool) (at : ℕ) (name bytes : List ℕ) (row : Option Row) (all : List Item) (i : ℕ) → i ≤ at
    → occurs_in c (items_zoned known at name bytes row all) i ≡ occurs_in c all i
zoned_stays c known at name bytes None all i le = refl
zoned_stays c known at name bytes (Some row) all i le =
    chosen_stays c (known && is_rezoned name row) (items_rezoned at bytes row.created.0 (current_of row) all) all i
    (rezoned_stays c at bytes row.created.0 (current_of row) all i le)

pub cut_if_stays : (c : Calendar) (b : Bool) (at : ℕ) (all : List Item) (i : ℕ) → i ≤ at
    → occurs_in c (cond b (map (cut_item at) all) all) i ≡ occurs_in c all i
cut_if_stays c b at all i le = chosen_stays c b (map (cut_item at) all) all i (cuts_stay c at all i le)
