-- The rows of a list are those that the index by name gives, in its order.
use Rattle.std.proofs.Common.{◌≡◌, ℕ, zero, suc, ◌+◌, ◌-◌, ◌≤◌, ◌<◌, Bool, true, false, not, ◌&&◌, Option, Some, None, List, [], ◌∷◌, ◌++◌, length, take, drop, option_map, refl, sym, ap, ◌∙◌, subst, arith, cond, inl, inr, max}
use Rattle.std.specs.Prelude.{if◌then◌else◌, nat_eq, nat_lt, is_some}
use Rattle.std.specs.List.{filter, flat_map, list_all, starts_with}
use Rattle.std.specs.Option.{option_and_then, option_to_list}
use Rattle.std.proofs.lemmas.Bool.{and_parts, or_parts, both_ways, false_from_ne_true, lt-ltb, le-ltb, cases_lt}
use Rattle.std.proofs.lemmas.List.{append-nil, length-append, take-append-drop}
use Rattle.std.proofs.lemmas.Grind.{flat_map-append}
use Rattle.std.proofs.Math.Nat.{le-max_left, le-max_right, max-eq_left, max-eq_right}
use Rattle.std.proofs.Math.Seq.{drop-length}
use Rattle.std.proofs.lemmas.List.Elements.{filter-append}
use Rattle.plain_words.proofs.ListLemmas.{nth_map}
use Rattle.plain_words.specs.Lists.{nth, last, last_from, same_text, when}
use Rattle.sched_plain.specs.declared.row.Row.{Row}
use Rattle.sched_plain.specs.declared.row.Revision.{Revision}
use Rattle.sched_plain.specs.declared.schedule.Schedule.{Schedule}
use Rattle.sched_plain.specs.Rows.{current_of}
use Rattle.sched_calls.specs.declared.page.ListRow.{ListRow}
use Rattle.sched_calls.specs.declared.page.Page.{Page}
use Rattle.sched_calls.specs.Replies.{sorted, put_sorted, text_before, name_before, list_row, list_rows, is_listed, page_of}
use Rattle.sched_rows.specs.Order.{numbered, numbers_in}
use Rattle.sched_rows.specs.Spans.{HasContents}
use Rattle.sched_rows.specs.declared.edge.Edge.TheVariants as edges
use Rattle.sched_rows.specs.Filing.{is_within, is_short_of, living_rows, row_before, in_order, IsByName, IsStart, IsEdge}
use Rattle.sched_rows.specs.State.{Kept, rows_in}
use Rattle.sched_rows.specs.Pages.{shown, shown_at, shown_of}
use Rattle.sched_rows.proofs.PlaceLemmas.{Each, IsPlaced, each_sorted, each_weaker}
use Rattle.sched_rows.proofs.LivingLemmas.{living_placed, parted, not_is}
use Rattle.sched_rows.proofs.NameLemmas.{name_asym, before_is, Before, begins_not_before, same_text_same, text_itself}

-- the row of a list for a numbered row
abbrev listed : (ℕ × Row) → Option ListRow
listed p = option_map (list_row p.1) (current_of p.1)

-- it is there, under the names of the row
record Lists (p : ℕ × Row) : Type 0 where
  row : ListRow
  is : listed p ≡ Some row
  group : row.group ≡ p.1.group
  name : row.name ≡ p.1.name

abbrev list_before : ListRow → ListRow → Bool
list_before a b = name_before a.group a.name b.group b.name

rows_of_list : List (ℕ × Row) → List ListRow
rows_of_list ps = flat_map (λ p. option_to_list (listed p)) ps

flat_if : {A B : Type 0} (f : A → List B) (b : Bool) (xs ys : List A) → flat_map f (if b then xs else ys) ≡ (if b then flat_map f xs else flat_map f ys)
flat_if f true xs ys = refl
flat_if f false xs ys = refl

list_put : (x : ℕ × Row) (ys : List (ℕ × Row)) (lx : Lists x) → Each Lists ys
    → put_sorted list_before lx.row (flat_map (λ p. option_to_list (listed p)) ys) ≡ flat_map (λ p. option_to_list (listed p)) (put_sorted row_before x ys)
list_put x [] lx e = sym (ap (λ (o : Option ListRow). option_to_list o ++ []) lx.is)
list_put x (y ∷ ys) lx e =
    let all : List (ℕ × Row) → List ListRow = λ ps. flat_map (λ p. option_to_list (listed p)) ps in
    let ly = e.0 in
    let here : all (y ∷ ys) ≡ ly.row ∷ all ys = ap (λ (o : Option ListRow). option_to_list o ++ all ys) ly.is in
    let first : all (x ∷ y ∷ ys) ≡ lx.row ∷ ly.row ∷ all ys = ap (λ (o : Option ListRow). option_to_list o ++ all (y ∷ ys)) lx.is ∙ ap (λ (rs : List ListRow). lx.row ∷ rs) here in
    let later : all (y ∷ put_sorted row_before x ys) ≡ ly.row ∷ all (put_sorted row_before x ys) = ap (λ (o : Option ListRow). option_to_list o ++ all (put_sorted row_before x ys)) ly.is in
    let same : list_before lx.row ly.row ≡ row_before x y = rw (lx.group, lx.name, ly.group, ly.name) refl in
    ap (put_sorted list_before lx.row) here
    ∙ by_test (list_before lx.row ly.row) (row_before x y) same first (ap (λ (rs : List ListRow). ly.row ∷ rs) (list_put x ys lx e.1) ∙ sym later)
    ∙ sym (flat_if (λ p. option_to_list (listed p)) (row_before x y) (x ∷ y ∷ ys) (y ∷ put_sorted row_before x ys))
  where
    by_test : (b c : Bool) → b ≡ c → {u v w z : List ListRow} → w ≡ u → v ≡ z → (if b then u else v) ≡ (if c then w else z)
    by_test true true same e f = sym e
    by_test true false same e f = cc same
    by_test false true same e f = cc same
    by_test false false same e f = f

list_sorted : (ps : List (ℕ × Row)) → Each Lists ps
    → sorted list_before (flat_map (λ p. option_to_list (listed p)) ps) ≡ flat_map (λ p. option_to_list (listed p)) (sorted row_before ps)
list_sorted [] e = refl
list_sorted (p ∷ ps) e =
    ap (λ (o : Option ListRow). sorted list_before (option_to_list o ++ flat_map (λ q. option_to_list (listed q)) ps)) e.0.is
    ∙ ap (put_sorted list_before e.0.row) (list_sorted ps e.1)
    ∙ list_put p (sorted row_before ps) e.0 (each_sorted Lists row_before ps e.1)

last_there : (r : Revision) (rs : List Revision) → (x : Revision) × (last_from r rs ≡ Some x)
last_there r [] = (r, refl)
last_there r (s ∷ rs) = last_there s rs

current_there : (row : Row) (rs : List Revision) → rs ≡ row.revisions → 0 < length rs → row.lives ≡ true → (content : Schedule) × (current_of row ≡ Some content)
current_there row [] e some lives = absurd (omega arith)
current_there row (r ∷ rs) e some lives =
    let found = last_there r rs in
    (found.0.content, rw (lives, ← e, found.1) refl)

lists_living : (p : ℕ × Row) → 0 < length p.1.revisions → p.1.lives ≡ true → Lists p
lists_living p some lives =
    let found = current_there p.1 p.1.revisions refl some lives in
    record { row = list_row p.1 found.0; is = ap (option_map (list_row p.1)) found.1; group = refl; name = refl }

each_lists : (from : ℕ) (rows : List Row) → HasContents rows → Each Lists (filter (λ (p : ℕ × Row). p.1.lives) (numbered from rows))
each_lists from [] h = tt
each_lists from (row ∷ rows) h = step row.lives refl (each_lists (from + 1) rows h.1)
  where
    step : (b : Bool) → b ≡ row.lives → Each Lists (filter (λ (p : ℕ × Row). p.1.lives) (numbered (from + 1) rows))
        → Each Lists (cond b ((from, row) ∷ filter (λ (p : ℕ × Row). p.1.lives) (numbered (from + 1) rows)) (filter (λ (p : ℕ × Row). p.1.lives) (numbered (from + 1) rows)))
    step true is rest = (lists_living (from, row) h.0 (sym is), rest)
    step false is rest = rest

flat_living : (from : ℕ) (rows : List Row) → flat_map (λ row. option_to_list (option_map (list_row row) (current_of row))) rows
    ≡ flat_map (λ p. option_to_list (listed p)) (filter (λ (p : ℕ × Row). p.1.lives) (numbered from rows))
flat_living from [] = refl
flat_living from (row ∷ rows) = step row.lives refl (flat_living (from + 1) rows)
  where
    dead : row.lives ≡ false → option_to_list (option_map (list_row row) (current_of row)) ≡ []
    dead e = rw e refl

    step : (b : Bool) → b ≡ row.lives → flat_map (λ r. option_to_list (option_map (list_row r) (current_of r))) rows ≡ flat_map (λ p. option_to_list (listed p)) (filter (λ (p : ℕ × Row). p.1.lives) (numbered (from + 1) rows))
        → option_to_list (option_map (list_row row) (current_of row)) ++ flat_map (λ r. option_to_list (option_map (list_row r) (current_of r))) rows
        ≡ flat_map (λ p. option_to_list (listed p)) (cond b ((from, row) ∷ filter (λ (p : ℕ × Row). p.1.lives) (numbered (from + 1) rows)) (filter (λ (p : ℕ × Row). p.1.lives) (numbered (from + 1) rows)))
    step true is e = ap (λ (rs : List ListRow). option_to_list (option_map (list_row row) (current_of row)) ++ rs) e
    step false is e = ap (λ (front : List ListRow). front ++ flat_map (λ r. option_to_list (option_map (list_row r) (current_of r))) rows) (dead (sym is)) ∙ e

-- the list of all living schedules is that of the index
pub list_is : (rows : List Row) → HasContents rows → list_rows rows ≡ flat_map (λ p. option_to_list (listed p)) (in_order rows)
list_is rows h = ap (sorted list_before) (flat_living 1 rows) ∙ list_sorted (living_rows rows) (each_lists 1 rows h)

-- ---- those that are asked for

kept_and_then : {B : Type 0} (f : Row → Option B) (o : Option Kept) → option_and_then (λ (k : Kept). f k.row) o ≡ option_and_then f (option_map (λ (k : Kept). k.row) o)
kept_and_then f None = refl
kept_and_then f (Some k) = refl

asked_of : (asked : ListRow → Bool) (row : Row) (o : Option Schedule) → option_to_list (option_and_then (λ content. when (asked (list_row row content)) (list_row row content)) o) ≡ filter asked (option_to_list (option_map (list_row row) o))
asked_of asked row None = refl
asked_of asked row (Some content) = step (asked (list_row row content))
  where
    step : (b : Bool) → option_to_list (when b (list_row row content)) ≡ cond b (list_row row content ∷ []) []
    step true = refl
    step false = refl

asked_at : (asked : ListRow → Bool) (kept : List Kept) (p : ℕ × Row) → IsPlaced (rows_in kept) p → option_to_list (shown_at asked kept p.0) ≡ filter asked (option_to_list (listed p))
asked_at asked kept p placed =
    ap option_to_list (kept_and_then (shown asked) (nth kept p.0) ∙ ap (option_and_then (shown asked)) (sym (nth_map (λ (k : Kept). k.row) kept p.0) ∙ placed))
    ∙ asked_of asked p.1 (current_of p.1)

filter_flat : (asked : ListRow → Bool) (h : ℕ → List ListRow) (ps : List (ℕ × Row)) → Each (λ p. h p.0 ≡ filter asked (option_to_list (listed p))) ps
    → filter asked (flat_map (λ p. option_to_list (listed p)) ps) ≡ flat_map h (numbers_in ps)
filter_flat asked h [] e = refl
filter_flat asked h (p ∷ ps) e =
    filter-append asked (option_to_list (listed p)) (flat_map (λ q. option_to_list (listed q)) ps)
    ∙ ap (λ (rest : List ListRow). filter asked (option_to_list (listed p)) ++ rest) (filter_flat asked h ps e.1)
    ∙ ap (λ (front : List ListRow). front ++ flat_map h (numbers_in ps)) (sym e.0)

each_asked : (asked : ListRow → Bool) (kept : List Kept) → Each (λ p. option_to_list (shown_at asked kept p.0) ≡ filter asked (option_to_list (listed p))) (in_order (rows_in kept))
each_asked asked kept =
    each_weaker (IsPlaced (rows_in kept)) (λ p. option_to_list (shown_at asked kept p.0) ≡ filter asked (option_to_list (listed p))) (λ p placed. asked_at asked kept p placed) (in_order (rows_in kept)) (living_placed (rows_in kept))

skipping : (asked : ListRow → Bool) (short : Row → Bool) (h : ℕ → List ListRow) → ((p : ℕ × Row) → short p.1 ≡ true → filter asked (option_to_list (listed p)) ≡ [])
    → (at : ℕ) (ps : List (ℕ × Row)) → Each (λ p. h p.0 ≡ filter asked (option_to_list (listed p))) ps → list_all (λ p. short p.1) (take at ps) ≡ true
    → flat_map h (drop at (numbers_in ps)) ≡ flat_map h (numbers_in ps)
skipping asked short h none zero ps e all = refl
skipping asked short h none (suc at) [] e all = refl
skipping asked short h none (suc at) (p ∷ ps) e all =
    let parts = and_parts (short p.1) (list_all (λ q. short q.1) (take at ps)) all in
    skipping asked short h none at ps e.1 parts.1 ∙ ap (λ (front : List ListRow). front ++ flat_map h (numbers_in ps)) (sym (e.0 ∙ none p parts.0))

-- a row that comes before the name that a list begins behind is not asked for
before_start : (group : Option (List ℕ)) (prefix : List ℕ) (enabled : Option Bool) (g n : List ℕ) (p : ℕ × Row) (o : Option Schedule) → name_before p.1.group p.1.name g n ≡ true
    → filter (is_listed group prefix enabled (Some (g, n))) (option_to_list (option_map (list_row p.1) o)) ≡ []
before_start group prefix enabled g n p None e = refl
before_start group prefix enabled g n p (Some content) e =
    let row = list_row p.1 content in
    let last : name_before g n p.1.group p.1.name ≡ false = name_asym p.1.group p.1.name g n e in
    let asked : is_listed group prefix enabled (Some (g, n)) row ≡ false = and_last _ (name_before g n p.1.group p.1.name) last in
    ap (λ (b : Bool). cond b (row ∷ []) []) asked
  where
    and_last : (a b : Bool) → b ≡ false → (a && b) ≡ false
    and_last true b f = f
    and_last false b f = refl

-- what a list asks for, read off the whole index
pub listed_all : (kept : List Kept) (numbers : List ℕ) (asked : ListRow → Bool) → IsByName (rows_in kept) numbers → HasContents (rows_in kept)
    → shown_of asked kept numbers ≡ filter asked (list_rows (rows_in kept))
listed_all kept numbers asked index contents =
    let h : ℕ → List ListRow = λ number. option_to_list (shown_at asked kept number) in
    ap (flat_map h) index.names
    ∙ sym (filter_flat asked h (in_order (rows_in kept)) (each_asked asked kept))
    ∙ ap (filter asked) (sym (list_is (rows_in kept) contents))

-- ---- the part of the index in which they stand

pub not_first : (a b : Bool) → a ≡ false → (a && b) ≡ false
not_first true b e = cc e
not_first false b e = refl

-- a row that is not within the group and the prefix is not asked for
outside : (g prefix : List ℕ) (enabled : Option Bool) (after : Option (List ℕ × List ℕ)) (p : ℕ × Row) (o : Option Schedule) → is_within g prefix p.1 ≡ false
    → filter (is_listed (Some g) prefix enabled after) (option_to_list (option_map (list_row p.1) o)) ≡ []
outside g prefix enabled after p None e = refl
outside g prefix enabled after p (Some content) e =
    let row = list_row p.1 content in
    let asked : is_listed (Some g) prefix enabled after row ≡ false = not_first _ _ (not_first _ _ e) in
    ap (λ (b : Bool). cond b (row ∷ []) []) asked

before_prefix : (g prefix : List ℕ) (row : Row) → is_short_of g prefix edges.Before row ≡ true → is_within g prefix row ≡ false
before_prefix g prefix row short = false_from_ne_true (is_within g prefix row) (λ within. both within)
  where
    apart : (same_text g row.group ≡ true) × (starts_with nat_eq row.name prefix ≡ true) → Before row.group row.name g prefix → ⊥
    apart parts (inl less) =
        both_ways (text_before row.group g) (subst (λ (x : List ℕ). text_before x g ≡ false) (same_text_same g row.group parts.0) (text_itself g)) less
    apart parts (inr same) = begins_not_before prefix row.name parts.1 same.1

    both : is_within g prefix row ≡ true → ⊥
    both within = apart (and_parts (same_text g row.group) (starts_with nat_eq row.name prefix) within) (before_is row.group row.name g prefix short)

behind_prefix : (g prefix : List ℕ) (row : Row) → not (is_short_of g prefix edges.Behind row) ≡ true → is_within g prefix row ≡ false
behind_prefix g prefix row past = (or_parts (name_before row.group row.name g prefix) (is_within g prefix row) (not_is _ past)).1

ending : (asked : ListRow → Bool) (short : Row → Bool) (h : ℕ → List ListRow) → ((p : ℕ × Row) → not (short p.1) ≡ true → filter asked (option_to_list (listed p)) ≡ [])
    → (at : ℕ) (ps : List (ℕ × Row)) → Each (λ p. h p.0 ≡ filter asked (option_to_list (listed p))) ps → list_all (λ p. not (short p.1)) (drop at ps) ≡ true
    → flat_map h (drop at (numbers_in ps)) ≡ []
ending asked short h none zero [] e all = refl
ending asked short h none zero (p ∷ ps) e all =
    let parts = and_parts (not (short p.1)) (list_all (λ q. not (short q.1)) ps) all in
    ap (λ (front : List ListRow). front ++ flat_map h (numbers_in ps)) (e.0 ∙ none p parts.0) ∙ ending asked short h none zero ps e.1 parts.1
ending asked short h none (suc at) [] e all = refl
ending asked short h none (suc at) (p ∷ ps) e all = ending asked short h none at ps e.1 all

-- nothing that is asked for stands before a place
abbrev pub Skips : {B : Type 0} → (ℕ → List B) → List ℕ → ℕ → Type 0
Skips h numbers at = flat_map h (drop at numbers) ≡ flat_map h numbers

-- and nothing from a place on
abbrev pub Ends : {B : Type 0} → (ℕ → List B) → List ℕ → ℕ → Type 0
Ends h numbers at = flat_map h (drop at numbers) ≡ []

abbrev shows : List Kept → (ListRow → Bool) → ℕ → List ListRow
shows kept asked number = option_to_list (shown_at asked kept number)

start_skips : (kept : List Kept) (numbers : List ℕ) (group : Option (List ℕ)) (prefix : List ℕ) (enabled : Option Bool) (after : Option (List ℕ × List ℕ)) (at : ℕ)
    → IsByName (rows_in kept) numbers → IsStart kept numbers after at → Skips (shows kept (is_listed group prefix enabled after)) numbers at
start_skips kept numbers group prefix enabled None at index start =
    ap (λ (i : ℕ). flat_map (shows kept (is_listed group prefix enabled None)) (drop i numbers)) start
start_skips kept numbers group prefix enabled (Some last) at index start =
    let asked = is_listed group prefix enabled (Some last) in
    let h = shows kept asked in
    let parts = parted kept numbers last.0 last.1 edges.Before at index start in
    ap (λ (ns : List ℕ). flat_map h (drop at ns)) index.names
    ∙ skipping asked (is_short_of last.0 last.1 edges.Before) h (λ p short. before_start group prefix enabled last.0 last.1 p (current_of p.1) short) at (in_order (rows_in kept)) (each_asked asked kept) parts.front
    ∙ ap (flat_map h) (sym index.names)

edge_skips : (kept : List Kept) (numbers : List ℕ) (group : Option (List ℕ)) (prefix : List ℕ) (enabled : Option Bool) (after : Option (List ℕ × List ℕ)) (at : ℕ)
    → IsByName (rows_in kept) numbers → IsEdge kept numbers group prefix edges.Before at → Skips (shows kept (is_listed group prefix enabled after)) numbers at
edge_skips kept numbers None prefix enabled after at index edge =
    ap (λ (i : ℕ). flat_map (shows kept (is_listed None prefix enabled after)) (drop i numbers)) edge
edge_skips kept numbers (Some g) prefix enabled after at index edge =
    let asked = is_listed (Some g) prefix enabled after in
    let h = shows kept asked in
    let parts = parted kept numbers g prefix edges.Before at index edge in
    ap (λ (ns : List ℕ). flat_map h (drop at ns)) index.names
    ∙ skipping asked (is_short_of g prefix edges.Before) h (λ p short. outside g prefix enabled after p (current_of p.1) (before_prefix g prefix p.1 short)) at (in_order (rows_in kept)) (each_asked asked kept) parts.front
    ∙ ap (flat_map h) (sym index.names)

edge_ends : (kept : List Kept) (numbers : List ℕ) (group : Option (List ℕ)) (prefix : List ℕ) (enabled : Option Bool) (after : Option (List ℕ × List ℕ)) (at : ℕ)
    → IsByName (rows_in kept) numbers → IsEdge kept numbers group prefix edges.Behind at → Ends (shows kept (is_listed group prefix enabled after)) numbers at
edge_ends kept numbers None prefix enabled after at index edge =
    ap (flat_map (shows kept (is_listed None prefix enabled after))) (ap (λ (i : ℕ). drop i numbers) edge ∙ drop-length numbers)
edge_ends kept numbers (Some g) prefix enabled after at index edge =
    let asked = is_listed (Some g) prefix enabled after in
    let h = shows kept asked in
    let parts = parted kept numbers g prefix edges.Behind at index edge in
    ap (λ (ns : List ℕ). flat_map h (drop at ns)) index.names
    ∙ ending asked (is_short_of g prefix edges.Behind) h (λ p past. outside g prefix enabled after p (current_of p.1) (behind_prefix g prefix p.1 past)) at (in_order (rows_in kept)) (each_asked asked kept) parts.back

-- what holds of two numbers holds of the larger one
pub of_larger : (P : ℕ → Type 0) (a b : ℕ) → P a → P b → P (max a b)
of_larger P a b pa pb = elim (cases_lt a b) [
  | inl lt ↦ subst P (sym (max-eq_right (omega (arith, lt)))) pb
  | inr le ↦ subst P (sym (max-eq_left le)) pa
]

second_nil : {A : Type 0} (xs ys : List A) → xs ++ ys ≡ [] → ys ≡ []
second_nil [] ys e = e
second_nil (x ∷ xs) ys e = cc e

none_behind : {B : Type 0} (h : ℕ → List B) (d : ℕ) (ns : List ℕ) → flat_map h ns ≡ [] → flat_map h (drop d ns) ≡ []
none_behind h zero ns e = e
none_behind h (suc d) [] e = refl
none_behind h (suc d) (n ∷ ns) e = none_behind h d ns (second_nil (h n) (flat_map h ns) e)

drop_nil : {A : Type 0} (n : ℕ) → drop {A = A} n [] ≡ []
drop_nil zero = refl
drop_nil (suc n) = refl

drop_more : {A : Type 0} (d e : ℕ) (xs : List A) → drop d (drop e xs) ≡ drop (e + d) xs
drop_more d zero xs = ap (λ (i : ℕ). drop i xs) (omega arith)
drop_more d (suc e) [] = drop_nil d ∙ sym (drop_nil (suc e + d))
drop_more d (suc e) (x ∷ xs) =
    let next : suc (e + d) ≡ suc e + d = omega arith in
    drop_more d e xs ∙ ap (λ (i : ℕ). drop i (x ∷ xs)) next

pub ends_behind : {B : Type 0} (h : ℕ → List B) (numbers : List ℕ) (at later : ℕ) → at ≤ later → Ends h numbers at → Ends h numbers later
ends_behind h numbers at later le e =
    let apart : at + (later - at) ≡ later = omega (arith, le) in
    sym (ap (flat_map h) (drop_more (later - at) at numbers ∙ ap (λ (i : ℕ). drop i numbers) apart)) ∙ none_behind h (later - at) (drop at numbers) e

pub within_shows : {B : Type 0} (h : ℕ → List B) (numbers : List ℕ) (start end : ℕ) → start ≤ end → Skips h numbers start → Ends h numbers end
    → flat_map h (take (end - start) (drop start numbers)) ≡ flat_map h numbers
within_shows {B} h numbers start end le skips ends =
    let apart : start + (end - start) ≡ end = omega (arith, le) in
    let rest : flat_map h (drop (end - start) (drop start numbers)) ≡ [] = ap (flat_map h) (drop_more (end - start) start numbers ∙ ap (λ (i : ℕ). drop i numbers) apart) ∙ ends in
    sym (append-nil (flat_map h (take (end - start) (drop start numbers))))
    ∙ ap (λ (more : List B). flat_map h (take (end - start) (drop start numbers)) ++ more) (sym rest)
    ∙ sym (flat_map-append h (take (end - start) (drop start numbers)) (drop (end - start) (drop start numbers)))
    ∙ ap (flat_map h) (take-append-drop (end - start) (drop start numbers))
    ∙ skips

-- all that a list asks for stands between its places
pub span_shows : (kept : List Kept) (numbers : List ℕ) (group : Option (List ℕ)) (prefix : List ℕ) (enabled : Option Bool) (after : Option (List ℕ × List ℕ)) (behind from to start end : ℕ)
    → IsByName (rows_in kept) numbers → IsStart kept numbers after behind → IsEdge kept numbers group prefix edges.Before from → IsEdge kept numbers group prefix edges.Behind to
    → start ≡ max behind from → end ≡ max to start
    → shown_of (is_listed group prefix enabled after) kept (take (end - start) (drop start numbers)) ≡ shown_of (is_listed group prefix enabled after) kept numbers
span_shows kept numbers group prefix enabled after behind from to start end index is_start is_from is_to starts ends =
    let h = shows kept (is_listed group prefix enabled after) in
    let skips : Skips h numbers start =
    subst (Skips h numbers) (sym starts) (of_larger (Skips h numbers) behind from
    (start_skips kept numbers group prefix enabled after behind index is_start) (edge_skips kept numbers group prefix enabled after from index is_from)) in
    let le : start ≤ end = subst (λ (n : ℕ). start ≤ n) (sym ends) (le-max_right to start) in
    let past : to ≤ end = subst (λ (n : ℕ). to ≤ n) (sym ends) (le-max_left to start) in
    within_shows h numbers start end le skips (ends_behind h numbers to end past (edge_ends kept numbers group prefix enabled after to index is_to))

-- ---- pages

take_whole : {A : Type 0} (n : ℕ) (xs : List A) → length xs ≤ n → take n xs ≡ xs
take_whole zero [] le = refl
take_whole zero (x ∷ xs) le = absurd (omega arith)
take_whole (suc n) [] le = refl
take_whole {A} (suc n) (x ∷ xs) le = ap (λ (ys : List A). x ∷ ys) (take_whole n xs (omega arith))

take_front : {A : Type 0} (n : ℕ) (xs ys : List A) → length xs ≡ n → take n (xs ++ ys) ≡ xs
take_front zero [] ys e = refl
take_front zero (x ∷ xs) ys e = absurd (omega arith)
take_front (suc n) [] ys e = absurd (omega arith)
take_front {A} (suc n) (x ∷ xs) ys e = ap (λ (zs : List A). x ∷ zs) (take_front n xs ys (omega arith))

-- a list that fits is the whole page
pub page_whole : (max : ℕ) (xs all : List ListRow) → all ≡ xs ++ [] → length xs ≤ max → (let page : Page = record { rows = xs; more = false } in page ≡ page_of max all)
page_whole max xs all e le =
    let same : all ≡ xs = e ∙ append-nil xs in
    let short : nat_lt max (length xs) ≡ false = le-ltb max (length xs) le in
    sym (ap (page_of max) same ∙ rw (take_whole max xs le, short) refl)

-- a list that goes on behind a full page
pub page_cut : (max : ℕ) (xs rest all : List ListRow) (o : Option ListRow) → all ≡ xs ++ (option_to_list o ++ rest) → length xs ≡ max → is_some o ≡ true
    → (let page : Page = record { rows = xs; more = true } in page ≡ page_of max all)
page_cut max xs rest all None e full some = cc some
page_cut max xs rest all (Some y) e full some =
    let long : nat_lt max (length (xs ++ y ∷ rest)) ≡ true = lt-ltb max (length (xs ++ y ∷ rest)) (omega (arith, length-append xs (y ∷ rest))) in
    sym (ap (page_of max) e ∙ rw (take_front max xs (y ∷ rest) full, long) refl)
