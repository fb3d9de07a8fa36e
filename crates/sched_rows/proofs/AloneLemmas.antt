-- One row at most lives under a name, and what a write does to it is done to that row.
use Rattle.std.proofs.Common.{◌≡◌, ℕ, zero, suc, ◌+◌, ◌≤◌, ◌<◌, Bool, true, false, not, ◌&&◌, ◌||◌, Option, Some, None, List, [], ◌∷◌, ◌++◌, map, length, get_or, set, refl, sym, ap, ◌∙◌, subst, arith, cond}
use Rattle.std.specs.Prelude.{if◌then◌else◌, nat_le, nat_lt, IfSome, is_some, OnOk, Result, Ok, Err}
use Rattle.std.specs.List.{filter, find, list_any}
use Rattle.std.proofs.lemmas.Bool.{and_parts, both_ways, false_from_ne_true}
use Rattle.std.proofs.lemmas.List.Elements.{filter_agree}
use Rattle.std.proofs.lemmas.List.{append-nil}
use Rattle.plain_words.specs.Lists.{nth, change_nth, head, some_pass, same_text, numbers, when}
use Rattle.plain_words.specs.declared.limits.TheConstants.{MOST_GROUPS}
use Rattle.sched_plain.specs.declared.why.RowFault.TheVariants as faults
use Rattle.plain_words.proofs.ListLemmas.{when_none, all_none, map_same}
use Rattle.sched_rows.specs.FaultParts.{group_creation_fault}
use Rattle.sched_plain.specs.declared.row.Row.{Row}
use Rattle.sched_plain.specs.declared.row.GroupRow.{GroupRow}
use Rattle.sched_plain.specs.declared.schedule.Schedule.{Schedule}
use Rattle.sched_plain.specs.Rows.{is_at, living, incs_where, done_to, is_in, touches, Renews, Ends, renews_if, ends_if}
use Rattle.sched_plain.specs.Groups.{is_named, has_group}
use Rattle.sched_rows.specs.State.{Kept, rows_in, rooms_in, lives_at, IsRoomy}
use Rattle.sched_rows.specs.Answers.{lives_in}
use Rattle.sched_rows.specs.Spans.{AllSpanned, HasContents}
use Rattle.sched_rows.specs.Order.{numbered, numbers_in, IsRising}
use Rattle.sched_rows.specs.Filing.{living_rows, row_before, in_order, has_names, IsByName}
use Rattle.sched_rows.proofs.OrderLemmas.{length_sorted, filter_sorted}
use Rattle.sched_rows.proofs.PlaceLemmas.{incs_numbered}
use Rattle.sched_rows.proofs.LivingLemmas.{row_order, names_are, none_pass, all_where, and_assoc, filter_both, length_numbers_in}
use Rattle.sched_rows.proofs.NameLemmas.{name_itself}
use Rattle.sched_rows.proofs.ChangeLemmas.{one_changed, none_changed, where_passes, rooms_set}

one_row : (g n : List ℕ) (ps : List (ℕ × Row)) → IsRising row_before ps → length (filter (λ p. has_names g n p.1) ps) ≤ 1
one_row g n [] r = omega arith
one_row g n (p ∷ ps) r = step (has_names g n p.1) refl (one_row g n ps r.1)
  where
    others : has_names g n p.1 ≡ true → filter (λ q. has_names g n q.1) ps ≡ []
    others is =
        let same = names_are g n p.1 is in
        none_pass (λ q. has_names g n q.1) ps (all_where (row_before p) (λ q. not (has_names g n q.1)) (λ q lt. ap not (false_from_ne_true (has_names g n q.1) (λ h.
        let also = names_are g n q.1 h in
        both_ways (row_before p q)
        (subst (λ (row : List ℕ × List ℕ). Rattle.sched_calls.specs.Replies.name_before p.1.group p.1.name row.0 row.1 ≡ false)
        (both (sym same.0 ∙ also.0) (sym same.1 ∙ also.1)) (name_itself p.1.group p.1.name)) lt))) ps r.0)
      where
        both : {a b c d : List ℕ} → a ≡ b → c ≡ d → (let l : List ℕ × List ℕ = (a, c) in l ≡ (b, d))
        both e f = rw (e, f) refl

    step : (b : Bool) → b ≡ has_names g n p.1 → length (filter (λ q. has_names g n q.1) ps) ≤ 1 → length (cond b (p ∷ filter (λ q. has_names g n q.1) ps) (filter (λ q. has_names g n q.1) ps)) ≤ 1
    step true is ih = omega (arith, ap length (others (sym is)))
    step false is ih = ih

few_incs : (rows : List Row) (g n : List ℕ) → IsRising row_before (in_order rows) → length (incs_where (is_at g n) rows) ≤ 1
few_incs rows g n rising =
    let t : ℕ × Row → Bool = λ p. has_names g n p.1 in
    let kept : filter (λ p. is_at g n p.1) (numbered 1 rows) ≡ filter t (living_rows rows) =
    filter_agree (λ p. is_at g n p.1) (λ p. p.1.lives && has_names g n p.1) (λ p. and_assoc p.1.lives (same_text g p.1.group) (same_text n p.1.name)) (numbered 1 rows)
    ∙ filter_both (λ p. p.1.lives) t (numbered 1 rows) in
    let long : length (incs_where (is_at g n) rows) ≡ length (filter t (living_rows rows)) =
    ap length (incs_numbered (is_at g n) rows) ∙ length_numbers_in (filter (λ p. is_at g n p.1) (numbered 1 rows)) ∙ ap length kept in
    omega (arith, one_row g n (in_order rows) rising, ap length (filter_sorted row_before row_order t (living_rows rows) rising), length_sorted row_before (filter t (living_rows rows)))

only_one : (ns : List ℕ) (n : ℕ) → Some n ≡ head ns → length ns ≤ 1 → ns ≡ n ∷ []
only_one [] n e le = cc e
only_one (m ∷ []) n e le = let same : m ≡ n = cc in ap (λ (k : ℕ). k ∷ []) same
only_one (m ∷ k ∷ ns) n e le = absurd (omega arith)

-- the row that lives under a name is the only one
pub live_alone : (rows : List Row) (names : List ℕ) (g n : List ℕ) (r : Option ℕ) → IsByName rows names → r ≡ living rows g n → IfSome r (λ inc. incs_where (is_at g n) rows ≡ inc ∷ [])
live_alone rows names g n None index e = tt
live_alone rows names g n (Some inc) index e = only_one (incs_where (is_at g n) rows) inc e (few_incs rows g n index.apart)

map_alike : {A : Type 0} (f h : A → A) → ((x : A) → f x ≡ h x) → (xs : List A) → map f xs ≡ map h xs
map_alike f h same [] = refl
map_alike f h same (x ∷ xs) = rw (same x, map_alike f h same xs) refl

renewed_where : (at : ℕ) (content : Schedule) (b : Bool) (row : Row) → done_to at (renews_if b content) row ≡ (if b then done_to at (Renews content) row else row)
renewed_where at content true row = refl
renewed_where at content false row = refl

ended_where : (at : ℕ) (b : Bool) (row : Row) → done_to at (ends_if b) row ≡ (if b then done_to at Ends row else row)
ended_where at true row = refl
ended_where at false row = refl

-- what an update does to all rows it does to that one
pub rows_renewed : (rows : List Row) (g n : List ℕ) (inc at : ℕ) (content : Schedule) → incs_where (is_at g n) rows ≡ inc ∷ []
    → change_nth (done_to at (Renews content)) rows inc ≡ map (λ row. done_to at (renews_if (is_at g n row) content) row) rows
rows_renewed rows g n inc at content e =
    sym (map_alike (λ row. done_to at (renews_if (is_at g n row) content) row) (where_passes (is_at g n) (done_to at (Renews content))) (λ row. renewed_where at content (is_at g n row) row) rows
    ∙ one_changed (is_at g n) (done_to at (Renews content)) 1 inc inc rows (sym (incs_numbered (is_at g n) rows) ∙ e) refl)

pub rows_ended : (rows : List Row) (g n : List ℕ) (inc at : ℕ) → incs_where (is_at g n) rows ≡ inc ∷ []
    → change_nth (done_to at Ends) rows inc ≡ map (λ row. done_to at (ends_if (is_at g n row)) row) rows
rows_ended rows g n inc at e =
    sym (map_alike (λ row. done_to at (ends_if (is_at g n row)) row) (where_passes (is_at g n) (done_to at Ends)) (λ row. ended_where at (is_at g n row) row) rows
    ∙ one_changed (is_at g n) (done_to at Ends) 1 inc inc rows (sym (incs_numbered (is_at g n) rows) ∙ e) refl)

head_empty : (ns : List ℕ) → None ≡ head ns → ns ≡ []
head_empty [] e = refl
head_empty (n ∷ ns) e = cc e

-- where no row lives under a name, nothing is done
pub rows_not_renewed : (rows : List Row) (g n : List ℕ) (at : ℕ) (content : Schedule) → None ≡ living rows g n
    → rows ≡ map (λ row. done_to at (renews_if (is_at g n row) content) row) rows
rows_not_renewed rows g n at content e =
    sym (map_alike (λ row. done_to at (renews_if (is_at g n row) content) row) (where_passes (is_at g n) (done_to at (Renews content))) (λ row. renewed_where at content (is_at g n row) row) rows
    ∙ none_changed (is_at g n) (done_to at (Renews content)) 1 rows (sym (incs_numbered (is_at g n) rows) ∙ head_empty _ e))

pub rows_not_ended : (rows : List Row) (g n : List ℕ) (at : ℕ) → None ≡ living rows g n → rows ≡ map (λ row. done_to at (ends_if (is_at g n row)) row) rows
rows_not_ended rows g n at e =
    sym (map_alike (λ row. done_to at (ends_if (is_at g n row)) row) (where_passes (is_at g n) (done_to at Ends)) (λ row. ended_where at (is_at g n row) row) rows
    ∙ none_changed (is_at g n) (done_to at Ends) 1 rows (sym (incs_numbered (is_at g n) rows) ∙ head_empty _ e))

filter_first : {A : Type 0} (t : A → Bool) (xs : List A) (y : A) (ys : List A) → filter t xs ≡ y ∷ ys → t y ≡ true
filter_first t [] y ys e = cc e
filter_first {A} t (x ∷ xs) y ys e = step (t x) refl e (filter_first t xs y ys)
  where
    step : (b : Bool) → b ≡ t x → cond b (x ∷ filter t xs) (filter t xs) ≡ y ∷ ys → (filter t xs ≡ y ∷ ys → t y ≡ true) → t y ≡ true
    step true is e ih = let same : x ≡ y = cc e in subst (λ (z : A). t z ≡ true) same (sym is)
    step false is e ih = ih e

passes_live : (g n : List ℕ) (o : Option Row) → some_pass (is_at g n) o ≡ true → some_pass (λ (row : Row). row.lives) o ≡ true
passes_live g n None e = cc e
passes_live g n (Some row) e = (and_parts row.lives (same_text g row.group) (and_parts (row.lives && same_text g row.group) (same_text n row.name) e).0).0

pub alone_lives : (rows : List Row) (g n : List ℕ) (inc : ℕ) → incs_where (is_at g n) rows ≡ inc ∷ [] → lives_at rows inc ≡ true
alone_lives rows g n inc e =
    passes_live g n (nth rows inc) (filter_first (λ k. some_pass (is_at g n) (nth rows k)) (numbers 1 (length rows)) inc [] e)

-- ---- groups and room

pub any_found : {A : Type 0} (t : A → Bool) (xs : List A) → is_some (find t xs) ≡ list_any t xs
any_found t [] = refl
any_found {A} t (x ∷ xs) = step (t x) (any_found t xs)
  where
    step : (b : Bool) → is_some (find t xs) ≡ list_any t xs → is_some (cond b (Some x) (find t xs)) ≡ (b || list_any t xs)
    step true e = refl
    step false e = e

pub rows_reserved : (kept : List Kept) (i : ℕ) (k d : Kept) → i < length kept → d ≡ get_or kept i d → k.row ≡ d.row → rows_in (set kept i k) ≡ rows_in kept
rows_reserved [] i k d within read same = refl
rows_reserved (x ∷ kept) zero k d within read same = ap (λ (row : Row). row ∷ rows_in kept) (same ∙ ap (λ (y : Kept). y.row) read)
rows_reserved (x ∷ kept) (suc i) k d within read same = ap (λ (rows : List Row). x.row ∷ rows) (rows_reserved kept i k d (omega arith) read same)

pub room_made : {E : Type 0} (r : Result (Unit {0}) E) (kept : List Kept) (i n : ℕ) (k : Kept) → n ≡ i + 1 → i < length kept → OnOk r (1 ≤ k.room) → OnOk r (IsRoomy (nth (rooms_in (set kept i k)) n))
room_made (Ok u) kept i n k e within room = subst IsRoomy (sym (rooms_set kept i n k e within)) room
room_made (Err f) kept i n k e within room = tt

length_rooms : (kept : List Kept) → length (rooms_in kept) ≡ length kept
length_rooms [] = refl
length_rooms (k ∷ kept) = ap suc (length_rooms kept)

pub no_room_asked : (kept : List Kept) (n : ℕ) → nth (rooms_in kept) n ≡ None → IsRoomy (nth (rooms_in kept) n)
no_room_asked kept n e = subst IsRoomy (sym e) tt

pub rooms_long : (kept : List Kept) (n : ℕ) → length kept < n → length (rooms_in kept) < n
rooms_long kept n lt = omega (arith, length_rooms kept)

nothing_there : {A : Type 0} (o : Option A) → is_some o ≡ false → o ≡ None
nothing_there None e = refl
nothing_there (Some x) e = cc e

-- a group that may be created is not there
pub group_free : (groups : List GroupRow) (name : List ℕ) → group_creation_fault groups name ≡ None → find (is_named name) groups ≡ None
group_free groups name e =
    let rules = when (has_group groups name) faults.GroupExists ∷ when (nat_le MOST_GROUPS (length groups)) (faults.TooMany (length groups)) ∷ [] in
    nothing_there (find (is_named name) groups) (any_found (is_named name) groups ∙ when_none (has_group groups name) faults.GroupExists (all_none rules e).0)

-- where a write touches no schedule
pub rows_untouched : (rows : List Row) → map (λ (row : Row). row) rows ++ [] ≡ rows
rows_untouched rows = append-nil (map (λ (row : Row). row) rows) ∙ map_same rows

-- ---- what a write touches

incs_alike : (t u : Row → Bool) → ((row : Row) → t row ≡ u row) → (rows : List Row) → incs_where t rows ≡ incs_where u rows
incs_alike t u same rows =
    incs_numbered t rows ∙ ap (numbers_in {A = Row}) (filter_agree (λ p. t p.1) (λ p. u p.1) (λ p. same p.1) (numbered 1 rows)) ∙ sym (incs_numbered u rows)

renewal_touches : (b : Bool) (content : Schedule) → touches (renews_if b content) ≡ b
renewal_touches true content = refl
renewal_touches false content = refl

ending_touches : (b : Bool) → touches (ends_if b) ≡ b
ending_touches true = refl
ending_touches false = refl

nothing_passes : (ns : List ℕ) (t : ℕ → Bool) → ((n : ℕ) → t n ≡ false) → filter t ns ≡ []
nothing_passes [] t h = refl
nothing_passes (n ∷ ns) t h = rw (h n) (nothing_passes ns t h)

no_row_passes : (o : Option Row) → some_pass (λ (row : Row). false) o ≡ false
no_row_passes None = refl
no_row_passes (Some row) = refl

pub touched_update : (rows : List Row) (g n : List ℕ) (content : Schedule) → incs_where (λ row. touches (renews_if (is_at g n row) content)) rows ≡ incs_where (is_at g n) rows
touched_update rows g n content = incs_alike _ (is_at g n) (λ row. renewal_touches (is_at g n row) content) rows

pub touched_delete : (rows : List Row) (g n : List ℕ) → incs_where (λ row. touches (ends_if (is_at g n row))) rows ≡ incs_where (is_at g n) rows
touched_delete rows g n = incs_alike _ (is_at g n) (λ row. ending_touches (is_at g n row)) rows

pub touched_group : (rows : List Row) (name : List ℕ) → incs_where (λ row. touches (ends_if (is_in name row))) rows ≡ incs_where (lives_in (Some name)) rows
touched_group rows name = incs_alike _ (lives_in (Some name)) (λ row. ending_touches (is_in name row)) rows

pub touched_none : (rows : List Row) → incs_where (λ (row : Row). false) rows ≡ []
touched_none rows = nothing_passes (numbers 1 (length rows)) _ (λ n. no_row_passes (nth rows n))

-- of the one row of a name, the least above a number
pub alone_above : (ns : List ℕ) (inc after : ℕ) (b : Bool) → ns ≡ inc ∷ [] → nat_lt after inc ≡ b → (if b then Some inc else None) ≡ find (nat_lt after) ns
alone_above ns inc after b e is = sym (ap (find (nat_lt after)) e ∙ rw is refl)

pub none_above : (rows : List Row) (g n : List ℕ) (after : ℕ) → None ≡ living rows g n → None ≡ find (nat_lt after) (incs_where (is_at g n) rows)
none_above rows g n after e = sym (ap (find (nat_lt after)) (head_empty (incs_where (is_at g n) rows) e))

-- each row has a revision
pub spanned_contents : (at : ℕ) (rows : List Row) → AllSpanned at rows → HasContents rows
spanned_contents at [] s = tt
spanned_contents at (row ∷ rows) s = (s.0.some, spanned_contents at rows s.1)
