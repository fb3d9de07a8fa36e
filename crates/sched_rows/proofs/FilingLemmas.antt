-- What each change does to the indexes of the living.
use Rattle.std.proofs.Common.{◌≡◌, ℕ, zero, suc, ◌+◌, ◌≤◌, ◌<◌, ◌==◌, Bool, true, false, not, ◌&&◌, ◌||◌, Option, Some, None, List, [], ◌∷◌, ◌++◌, map, length, take, drop, option_map, refl, sym, ap, ◌∙◌, subst, arith, cond, inl, inr}
use Rattle.std.specs.Prelude.{if◌then◌else◌, ◌⊎◌}
use Rattle.std.specs.List.{filter, list_all, insert}
use Rattle.std.proofs.lemmas.Bool.{and_parts, and_from, both_ways, cases_eq, cases_lt}
use Rattle.std.proofs.lemmas.List.Elements.{filter-append, filter_agree}
use Rattle.plain_words.specs.Lists.{nth, change_nth, head, some_pass, same_text}
use Rattle.plain_words.proofs.ListLemmas.{nth_map, nth_past}
use Rattle.sched_calls.specs.Replies.{sorted, put_sorted}
use Rattle.plain_words.specs.declared.moment.Moment.{Moment}
use Rattle.sched_plain.specs.declared.row.Row.{Row}
use Rattle.sched_plain.specs.declared.schedule.Schedule.{Schedule}
use Rattle.sched_plain.specs.Rows.{is_at, is_in, living, incs_where, done_to, revision_from, Renews, Ends, ends_if}
use Rattle.sched_rows.specs.State.{Kept, rows_in, lives_at}
use Rattle.sched_rows.specs.Order.{numbered, numbers_in, IsRising, IsPlace}
use Rattle.sched_rows.specs.Groups.{with_group_ended, change_all}
use Rattle.sched_rows.specs.Spans.{IsSpanned, AllSpanned}
use Rattle.sched_rows.specs.declared.edge.Edge.TheVariants as edges
use Rattle.sched_rows.specs.Filing.{comes_short, living_rows, row_before, in_order, has_names, IsFiled}
use Rattle.sched_rows.proofs.OrderLemmas.{is_apart, before_first, filter_sorted, sorted_map, sorted_push, insert_put, rising_put, rising_map, rising_filter, all_sorted}
use Rattle.sched_rows.proofs.NameLemmas.{name_total, same_text_is}
use Rattle.sched_rows.proofs.PlaceLemmas.{nth_none, Each, IsPlaced, placed, filter_numbers, each_filter, each_sorted, each_weaker, incs_numbered}
use Rattle.plain_words.specs.declared.limits.TheConstants.{MOST_INCARNATIONS}
use Rattle.sched_plain.specs.Groups.{living_count}
use Rattle.sched_rows.proofs.LivingLemmas.{row_order, Parted, parted, filter_both, all_where, not_is, length_numbers_in, and_assoc}
use Rattle.sched_rows.proofs.ChangeLemmas.{change_same, change_fixed, rows_push, length_rows, at_number, numbered_change, numbered_map, numbered_push, length_change, changed_all, IsCovered, passing_any}
use Rattle.sched_rows.proofs.SpanLemmas.{spanned_later, spanned_push, spanned_change, spanned_map, renewed_spanned, deed_spanned}

-- ---- rows made anew under their numbers and names, some of them no longer living

record Remade (rows rows' : List Row) (g : ℕ × Row → ℕ × Row) (stays : ℕ × Row → Bool) : Type 0 where
  same : numbered 1 rows' ≡ map g (numbered 1 rows)
  number : (p : ℕ × Row) → (g p).0 ≡ p.0
  order : (p q : ℕ × Row) → row_before (g p) (g q) ≡ row_before p q
  lives : (p : ℕ × Row) → (g p).1.lives ≡ (p.1.lives && stays p)

filter_of_map : {A : Type 0} (t : A → Bool) (g : A → A) (xs : List A) → filter t (map g xs) ≡ map g (filter (λ x. t (g x)) xs)
filter_of_map t g [] = refl
filter_of_map {A} t g (x ∷ xs) = step (t (g x)) (filter_of_map t g xs)
  where
    step : (b : Bool) → filter t (map g xs) ≡ map g (filter (λ y. t (g y)) xs)
        → cond b (g x ∷ filter t (map g xs)) (filter t (map g xs)) ≡ map g (cond b (x ∷ filter (λ y. t (g y)) xs) (filter (λ y. t (g y)) xs))
    step true e = ap (λ (ys : List A). g x ∷ ys) e
    step false e = e

numbers_of_map : (g : ℕ × Row → ℕ × Row) → ((p : ℕ × Row) → (g p).0 ≡ p.0) → (ps : List (ℕ × Row)) → numbers_in (map g ps) ≡ numbers_in ps
numbers_of_map g number [] = refl
numbers_of_map g number (p ∷ ps) =
    ap (λ (n : ℕ). n ∷ numbers_in (map g ps)) (number p) ∙ ap (λ (ns : List ℕ). p.0 ∷ ns) (numbers_of_map g number ps)

module _ (rows rows' : List Row) (g : ℕ × Row → ℕ × Row) (stays : ℕ × Row → Bool) (made : Remade rows rows' g stays) where
  remade_living : living_rows rows' ≡ map g (filter stays (living_rows rows))
  remade_living =
      ap (filter (λ (p : ℕ × Row). p.1.lives)) made.same
      ∙ filter_of_map (λ p. p.1.lives) g (numbered 1 rows)
      ∙ ap (map g) (filter_agree (λ p. (g p).1.lives) (λ p. p.1.lives && stays p) made.lives (numbered 1 rows) ∙ filter_both (λ p. p.1.lives) stays (numbered 1 rows))

  remade_order : IsRising row_before (in_order rows) → in_order rows' ≡ map g (filter stays (in_order rows))
  remade_order rising =
      ap (sorted row_before) remade_living
      ∙ sorted_map g row_before row_before made.order (filter stays (living_rows rows))
      ∙ ap (map g) (sym (filter_sorted row_before row_order stays (living_rows rows) rising))

  remade_rising : IsRising row_before (in_order rows) → IsRising row_before (in_order rows')
  remade_rising rising =
      subst (IsRising row_before) (sym (remade_order rising))
      (rising_map g row_before row_before made.order (filter stays (in_order rows)) (rising_filter row_before stays (in_order rows) rising))

  remade_numbers : numbers_in (living_rows rows') ≡ numbers_in (filter stays (living_rows rows))
  remade_numbers = ap (numbers_in {A = Row}) remade_living ∙ numbers_of_map g made.number (filter stays (living_rows rows))

  remade_names : IsRising row_before (in_order rows) → numbers_in (in_order rows') ≡ numbers_in (filter stays (in_order rows))
  remade_names rising = ap (numbers_in {A = Row}) (remade_order rising) ∙ numbers_of_map g made.number (filter stays (in_order rows))

filter_all : {A : Type 0} (t : A → Bool) (xs : List A) → ((x : A) → t x ≡ true) → filter t xs ≡ xs
filter_all t [] h = refl
filter_all {A} t (x ∷ xs) h = rw (h x) (ap (λ (ys : List A). x ∷ ys) (filter_all t xs h))

-- ---- one row made anew

-- a function of rows that keeps their names
record KeepsNames (f : Row → Row) : Type 0 where
  group : (row : Row) → (f row).group ≡ row.group
  name : (row : Row) → (f row).name ≡ row.name

group_at : (f : Row → Row) → KeepsNames f → (b : Bool) (row : Row) → (if b then f row else row).group ≡ row.group
group_at f keeps true row = keeps.group row
group_at f keeps false row = refl

name_at : (f : Row → Row) → KeepsNames f → (b : Bool) (row : Row) → (if b then f row else row).name ≡ row.name
name_at f keeps true row = keeps.name row
name_at f keeps false row = refl

one_order : (f : Row → Row) → KeepsNames f → (n : ℕ) (p q : ℕ × Row) → row_before (at_number f n p) (at_number f n q) ≡ row_before p q
one_order f keeps n p q =
    rw (group_at f keeps (p.0 == n) p.1, group_at f keeps (q.0 == n) q.1, name_at f keeps (p.0 == n) p.1, name_at f keeps (q.0 == n) q.1) refl

renewed_lives : (f : Row → Row) → ((row : Row) → (f row).lives ≡ row.lives) → (b : Bool) (row : Row) → (if b then f row else row).lives ≡ (row.lives && true)
renewed_lives f same true row = same row ∙ sym (and_true row.lives)
  where
    and_true : (c : Bool) → (c && true) ≡ c
    and_true true = refl
    and_true false = refl
renewed_lives f same false row = sym (and_true row.lives)
  where
    and_true : (c : Bool) → (c && true) ≡ c
    and_true true = refl
    and_true false = refl

ended_lives : (f : Row → Row) → ((row : Row) → (f row).lives ≡ false) → (b : Bool) (row : Row) → (if b then f row else row).lives ≡ (row.lives && not b)
ended_lives f ends true row = ends row ∙ sym (and_false row.lives)
  where
    and_false : (c : Bool) → (c && false) ≡ false
    and_false true = refl
    and_false false = refl
ended_lives f ends false row = sym (and_true row.lives)
  where
    and_true : (c : Bool) → (c && true) ≡ c
    and_true true = refl
    and_true false = refl

one_renewed : (rows : List Row) (f : Row → Row) (n : ℕ) → 1 ≤ n → KeepsNames f → ((row : Row) → (f row).lives ≡ row.lives)
    → Remade rows (change_nth f rows n) (at_number f n) (λ p. true)
one_renewed rows f n le keeps same = record {
  same = numbered_change f n 1 n rows refl le;
  number = λ p. refl;
  order = one_order f keeps n;
  lives = λ p. renewed_lives f same (p.0 == n) p.1;
}

one_ended : (rows : List Row) (f : Row → Row) (n : ℕ) → 1 ≤ n → KeepsNames f → ((row : Row) → (f row).lives ≡ false)
    → Remade rows (change_nth f rows n) (at_number f n) (λ p. not (p.0 == n))
one_ended rows f n le keeps ends = record {
  same = numbered_change f n 1 n rows refl le;
  number = λ p. refl;
  order = one_order f keeps n;
  lives = λ p. ended_lives f ends (p.0 == n) p.1;
}

each_true : {A : Type 0} (P : A → Type 0) → ((x : A) → P x) → (xs : List A) → Each P xs
each_true P h [] = tt
each_true P h (x ∷ xs) = (h x, each_true P h xs)

-- a row that is given a content stays where it was in the indexes
pub filed_renewed : (rows : List Row) (numbers names : List ℕ) (latest at n : ℕ) (content : Schedule) → latest ≤ at → 1 ≤ n → IsFiled rows numbers names latest
    → IsFiled (change_nth (done_to at (Renews content)) rows n) numbers names at
filed_renewed rows numbers names latest at n content le some filed =
    let f = done_to at (Renews content) in
    let keeps : KeepsNames f = record { group = λ row. refl; name = λ row. refl } in
    let rows' = change_nth f rows n in
    let made = one_renewed rows f n some keeps (λ row. refl) in
    let all = λ (ps : List (ℕ × Row)). filter_all {A = ℕ × Row} (λ p. true) ps (λ p. refl) in
    record {
      few = omega (arith, filed.few, length_change f rows n);
      by_number = filed.by_number ∙ sym (remade_numbers rows rows' _ _ made ∙ ap (numbers_in {A = Row}) (all (living_rows rows)));
      by_name = record {
        names = filed.by_name.names ∙ sym (remade_names rows rows' _ _ made filed.by_name.apart ∙ ap (numbers_in {A = Row}) (all (in_order rows)));
        apart = remade_rising rows rows' _ _ made filed.by_name.apart;
      };
      spans = spanned_change at f (renewed_spanned at content) rows n (spanned_later latest at rows le filed.spans);
    }

-- a row that ends is taken out of the indexes
pub filed_ended : (rows : List Row) (numbers names : List ℕ) (latest at n : ℕ) (f : Row → Row) → ((row : Row) → (f row).group ≡ row.group) → ((row : Row) → (f row).name ≡ row.name)
    → ((row : Row) → (f row).lives ≡ false) → ((row : Row) → IsSpanned at row → IsSpanned at (f row)) → latest ≤ at → 1 ≤ n → IsFiled rows numbers names latest
    → IsFiled (change_nth f rows n) (filter (λ m. not (m == n)) numbers) (filter (λ m. not (m == n)) names) at
filed_ended rows numbers names latest at n f group name ends spanned le some filed =
    let keeps : KeepsNames f = record { group = group; name = name } in
    let rows' = change_nth f rows n in
    let made = one_ended rows f n some keeps ends in
    let out : ℕ → Bool = λ m. not (m == n) in
    let stays : ℕ × Row → Bool = λ p. not (p.0 == n) in
    let taken = λ (ps : List (ℕ × Row)). filter_numbers {A = Row} out stays ps (each_true (λ p. out p.0 ≡ stays p) (λ p. refl) ps) in
    record {
      few = omega (arith, filed.few, length_change f rows n);
      by_number = ap (filter out) filed.by_number ∙ taken (living_rows rows) ∙ sym (remade_numbers rows rows' _ _ made);
      by_name = record {
        names = ap (filter out) filed.by_name.names ∙ taken (in_order rows) ∙ sym (remade_names rows rows' _ _ made filed.by_name.apart);
        apart = remade_rising rows rows' _ _ made filed.by_name.apart;
      };
      spans = spanned_change at f spanned rows n (spanned_later latest at rows le filed.spans);
    }

-- ---- the members of a group ended

deed_group : (at : ℕ) (b : Bool) (row : Row) → (done_to at (ends_if b) row).group ≡ row.group
deed_group at true row = refl
deed_group at false row = refl

deed_name : (at : ℕ) (b : Bool) (row : Row) → (done_to at (ends_if b) row).name ≡ row.name
deed_name at true row = refl
deed_name at false row = refl

deed_lives : (at : ℕ) (lives same : Bool) (row : Row) → lives ≡ row.lives → (done_to at (ends_if (lives && same)) row).lives ≡ (lives && not same)
deed_lives at true true row e = refl
deed_lives at true false row e = sym e
deed_lives at false true row e = sym e
deed_lives at false false row e = sym e

deed_twice : (at : ℕ) (group : List ℕ) (b : Bool) (row : Row) → b ≡ is_in group row → with_group_ended at group (done_to at (ends_if b) row) ≡ done_to at (ends_if b) row
deed_twice at group true row e = refl
deed_twice at group false row e = rw (← e) refl

group_remade : (at : ℕ) (group : List ℕ) (rows : List Row)
    → Remade rows (map (with_group_ended at group) rows) (λ (p : ℕ × Row). (p.0, with_group_ended at group p.1)) (λ p. not (same_text group p.1.group))
group_remade at group rows = record {
  same = numbered_map (with_group_ended at group) 1 rows;
  number = λ p. refl;
  order = λ p q. rw (deed_group at (is_in group p.1) p.1, deed_group at (is_in group q.1) q.1, deed_name at (is_in group p.1) p.1, deed_name at (is_in group q.1) q.1) refl;
  lives = λ p. deed_lives at p.1.lives (same_text group p.1.group) p.1 refl;
}

each_passes : {A : Type 0} (t : A → Bool) (xs : List A) → Each (λ x. t x ≡ true) (filter t xs)
each_passes t [] = tt
each_passes {A} t (x ∷ xs) = step (t x) refl (each_passes t xs)
  where
    step : (b : Bool) → b ≡ t x → Each (λ y. t y ≡ true) (filter t xs) → Each (λ y. t y ≡ true) (cond b (x ∷ filter t xs) (filter t xs))
    step true e rest = (sym e, rest)
    step false e rest = rest

each_both : {A : Type 0} (P Q : A → Type 0) (xs : List A) → Each P xs → Each Q xs → Each (λ x. P x × Q x) xs
each_both P Q [] e f = tt
each_both P Q (x ∷ xs) e f = ((e.0, f.0), each_both P Q xs e.1 f.1)

-- a living row lives on behind the deletion exactly where it is of another group
lives_behind : (at : ℕ) (group : List ℕ) (rows : List Row) (p : ℕ × Row) → IsPlaced rows p × (p.1.lives ≡ true)
    → lives_at (map (with_group_ended at group) rows) p.0 ≡ not (same_text group p.1.group)
lives_behind at group rows p (stands, lives) =
    ap (some_pass (λ (row : Row). row.lives)) (nth_map (with_group_ended at group) rows p.0 ∙ ap (option_map (with_group_ended at group)) stands)
    ∙ deed_lives at p.1.lives (same_text group p.1.group) p.1 refl ∙ ap (λ (b : Bool). b && not (same_text group p.1.group)) lives

living_stand : (rows : List Row) → Each (λ p. IsPlaced rows p × (p.1.lives ≡ true)) (living_rows rows)
living_stand rows = each_both (IsPlaced rows) (λ p. p.1.lives ≡ true) (living_rows rows) (each_filter (IsPlaced rows) (λ p. p.1.lives) (numbered 1 rows) (placed rows)) (each_passes (λ p. p.1.lives) (numbered 1 rows))

-- the members of a deleted group are taken out of the indexes
pub filed_group_ended : (rows : List Row) (numbers names : List ℕ) (latest at : ℕ) (group : List ℕ) → latest ≤ at → IsFiled rows numbers names latest
    → IsFiled (map (with_group_ended at group) rows) (filter (lives_at (map (with_group_ended at group) rows)) numbers) (filter (lives_at (map (with_group_ended at group) rows)) names) at
filed_group_ended rows numbers names latest at group le filed =
    let f = with_group_ended at group in
    let rows' = map f rows in
    let made = group_remade at group rows in
    let out : ℕ → Bool = lives_at rows' in
    let stays : ℕ × Row → Bool = λ p. not (same_text group p.1.group) in
    let standing = each_weaker (λ p. IsPlaced rows p × (p.1.lives ≡ true)) (λ p. out p.0 ≡ stays p) (lives_behind at group rows) in
    record {
      few = omega (arith, filed.few, length_map_rows f rows);
      by_number = ap (filter out) filed.by_number ∙ filter_numbers out stays (living_rows rows) (standing (living_rows rows) (living_stand rows)) ∙ sym (remade_numbers rows rows' _ _ made);
      by_name = record {
        names = ap (filter out) filed.by_name.names
            ∙ filter_numbers out stays (in_order rows) (standing (in_order rows) (each_sorted (λ p. IsPlaced rows p × (p.1.lives ≡ true)) row_before (living_rows rows) (living_stand rows)))
            ∙ sym (remade_names rows rows' _ _ made filed.by_name.apart);
        apart = remade_rising rows rows' _ _ made filed.by_name.apart;
      };
      spans = spanned_map at f (λ row s. deed_spanned at (is_in group row) row s) rows (spanned_later latest at rows le filed.spans);
    }
  where
    length_map_rows : (f : Row → Row) (rows : List Row) → length (map f rows) ≡ length rows
    length_map_rows f [] = refl
    length_map_rows f (row ∷ rows) = ap suc (length_map_rows f rows)

member_covered : (at : ℕ) (group : List ℕ) (rows : List Row) (k : ℕ) (o : Option Row) → o ≡ nth rows k → IsCovered (with_group_ended at group) rows (numbers_in (living_rows rows)) k
member_covered at group rows k None e = inr (ap (option_map (with_group_ended at group)) (sym e) ∙ e)
member_covered at group rows k (Some row) e = step (is_in group row) refl
  where
    step : (b : Bool) → b ≡ is_in group row → IsCovered (with_group_ended at group) rows (numbers_in (living_rows rows)) k
    step true is = inl (passing_any (λ (r : Row). r.lives) 1 k k rows row (sym e) (and_parts row.lives (same_text group row.group) (sym is)).0 refl)
    step false is = inr (ap (option_map (with_group_ended at group)) (sym e) ∙ rw (← is) e)

-- what is done to each living row in turn is done to all rows
pub members_ended : (rows : List Row) (numbers : List ℕ) (at : ℕ) (group : List ℕ) → numbers ≡ numbers_in (living_rows rows)
    → change_all (with_group_ended at group) rows numbers ≡ map (with_group_ended at group) rows
members_ended rows numbers at group e =
    ap (change_all (with_group_ended at group) rows) e
    ∙ changed_all (with_group_ended at group) (λ row. deed_twice at group (is_in group row) row refl) (numbers_in (living_rows rows)) rows
    (λ k. member_covered at group rows k (nth rows k) refl)

-- ---- a row created

living_push : (rows : List Row) (row : Row) (n : ℕ) → row.lives ≡ true → n ≡ length rows + 1 → living_rows (rows ++ row ∷ []) ≡ living_rows rows ++ (n, row) ∷ []
living_push rows row n lives e =
    let t : ℕ × Row → Bool = λ p. p.1.lives in
    ap (filter t) (numbered_push 1 n rows row (omega arith))
    ∙ filter-append t (numbered 1 rows) ((n, row) ∷ [])
    ∙ ap (λ (b : Bool). living_rows rows ++ cond b ((n, row) ∷ []) []) lives

head_none : (ns : List ℕ) → head ns ≡ None → ns ≡ []
head_none [] e = refl
head_none (n ∷ ns) e = cc e

no_numbers : (ps : List (ℕ × Row)) → numbers_in ps ≡ [] → ps ≡ []
no_numbers [] e = refl
no_numbers (p ∷ ps) e = cc e

none_of : {A : Type 0} (t : A → Bool) (xs : List A) → filter t xs ≡ [] → list_all (λ x. not (t x)) xs ≡ true
none_of t [] e = refl
none_of {A} t (x ∷ xs) e = step (t x) e (none_of t xs)
  where
    step : (b : Bool) → cond b (x ∷ filter t xs) (filter t xs) ≡ [] → (filter t xs ≡ [] → list_all (λ y. not (t y)) xs ≡ true) → (not b && list_all (λ y. not (t y)) xs) ≡ true
    step true e ih = cc e
    step false e ih = ih e

-- where no row lives under a name, no living row has it
no_name : (rows : List Row) (g n : List ℕ) → living rows g n ≡ None → list_all (λ p. not (has_names g n p.1)) (living_rows rows) ≡ true
no_name rows g n none =
    let t : ℕ × Row → Bool = λ p. has_names g n p.1 in
    let kept : filter (λ p. is_at g n p.1) (numbered 1 rows) ≡ filter t (living_rows rows) =
    filter_agree (λ p. is_at g n p.1) (λ p. p.1.lives && has_names g n p.1) (λ p. and_assoc p.1.lives (same_text g p.1.group) (same_text n p.1.name)) (numbered 1 rows)
    ∙ filter_both (λ p. p.1.lives) t (numbered 1 rows) in
    none_of t (living_rows rows) (sym kept ∙ no_numbers _ (head_none _ (sym (ap head (incs_numbered (is_at g n) rows)) ∙ none)))

other_apart : (row : Row) (n : ℕ) (p : ℕ × Row) → not (has_names row.group row.name p.1) ≡ true → is_apart row_before (n, row) p ≡ true
other_apart row n p e = step (row_before (n, row) p) (row_before p (n, row)) refl refl
  where
    step : (b c : Bool) → b ≡ row_before (n, row) p → c ≡ row_before p (n, row) → (b || c) ≡ true
    step true c is back = refl
    step false true is back = refl
    step false false is back =
        let same = name_total row.group row.name p.1.group p.1.name (sym is) (sym back) in
        absurd (both_ways (has_names row.group row.name p.1) (not_is _ e) (and_from _ _ (same_text_is row.group p.1.group same.0) (same_text_is row.name p.1.name same.1)))

apart_before : (b c : Bool) → (b || c) ≡ true → not c ≡ true → b ≡ true
apart_before true c e f = refl
apart_before false true e f = cc f
apart_before false false e f = cc e

all_drop : {A : Type 0} (t : A → Bool) (at : ℕ) (xs : List A) → list_all t xs ≡ true → list_all t (drop at xs) ≡ true
all_drop t zero xs e = e
all_drop t (suc at) [] e = refl
all_drop t (suc at) (x ∷ xs) e = all_drop t at xs (and_parts (t x) (list_all t xs) e).1

first_behind : (z : ℕ × Row) (ps : List (ℕ × Row)) → list_all (is_apart row_before z) ps ≡ true → list_all (λ p. not (row_before p z)) ps ≡ true → before_first row_before z ps ≡ true
first_behind z [] e f = refl
first_behind z (p ∷ ps) e f =
    apart_before (row_before z p) (row_before p z) (and_parts (is_apart row_before z p) (list_all (is_apart row_before z) ps) e).0 (and_parts (not (row_before p z)) (list_all (λ q. not (row_before q z)) ps) f).0

numbers_insert : (ps : List (ℕ × Row)) (at : ℕ) (z : ℕ × Row) → insert (numbers_in ps) at z.0 ≡ numbers_in (insert ps at z)
numbers_insert ps zero z = refl
numbers_insert [] (suc at) z = refl
numbers_insert (p ∷ ps) (suc at) z = ap (λ (ns : List ℕ). p.0 ∷ ns) (numbers_insert ps at z)

numbers_append : (ps qs : List (ℕ × Row)) → numbers_in (ps ++ qs) ≡ numbers_in ps ++ numbers_in qs
numbers_append [] qs = refl
numbers_append (p ∷ ps) qs = ap (λ (ns : List ℕ). p.0 ∷ ns) (numbers_append ps qs)

-- a row that is created is put into the indexes
pub filed_created : (rows : List Row) (numbers names : List ℕ) (latest at : ℕ) (row : Row) (place n : ℕ) → latest ≤ at → IsFiled rows numbers names latest
    → row.lives ≡ true → IsSpanned at row → living rows row.group row.name ≡ None → Parted row.group row.name edges.Before (in_order rows) place
    → n ≡ length rows + 1 → n ≤ MOST_INCARNATIONS → IsFiled (rows ++ row ∷ []) (numbers ++ n ∷ []) (insert names place n) at
filed_created rows numbers names latest at row place n le filed lives spanned free parts e few =
    let z : ℕ × Row = (n, row) in
    let pushed = living_push rows row n lives e in
    let apart : list_all (is_apart row_before z) (living_rows rows) ≡ true =
    all_where (λ p. not (has_names row.group row.name p.1)) (is_apart row_before z) (other_apart row n) (living_rows rows) (no_name rows row.group row.name free) in
    let apart_sorted : list_all (is_apart row_before z) (in_order rows) ≡ true = all_sorted (is_apart row_before z) row_before (living_rows rows) ∙ apart in
    let ordered : in_order (rows ++ row ∷ []) ≡ put_sorted row_before z (in_order rows) =
    ap (sorted row_before) pushed ∙ sorted_push row_before row_order z (living_rows rows) apart in
    let front : list_all (λ p. not (row_before z p)) (take place (in_order rows)) ≡ true =
    all_where (λ p. row_before p z) (λ p. not (row_before z p)) (λ p h. ap not (row_order.asym p z h)) (take place (in_order rows)) parts.front in
    let rest : before_first row_before z (drop place (in_order rows)) ≡ true =
    first_behind z (drop place (in_order rows)) (all_drop (is_apart row_before z) place (in_order rows) apart_sorted) parts.back in
    let put : insert (in_order rows) place z ≡ put_sorted row_before z (in_order rows) = insert_put row_before z place (in_order rows) front rest in
    record {
      few = omega (arith, length_more rows row);
      by_number = ap (λ (ns : List ℕ). ns ++ n ∷ []) filed.by_number ∙ sym (ap (numbers_in {A = Row}) pushed ∙ numbers_append (living_rows rows) (z ∷ []));
      by_name = record {
        names = ap (λ (ns : List ℕ). insert ns place n) filed.by_name.names ∙ numbers_insert (in_order rows) place z ∙ ap (numbers_in {A = Row}) (put ∙ sym ordered);
        apart = subst (IsRising row_before) (sym ordered) (rising_put row_before row_order z (in_order rows) apart_sorted filed.by_name.apart);
      };
      spans = spanned_push at rows row (spanned_later latest at rows le filed.spans) spanned;
    }
  where
    length_more : (rows : List Row) (row : Row) → length (rows ++ row ∷ []) ≡ length rows + 1
    length_more [] row = refl
    length_more (r ∷ rows) row = ap suc (length_more rows row) ∙ omega arith

-- how many rows live
pub living_length : (rows : List Row) (numbers : List ℕ) → numbers ≡ numbers_in (living_rows rows) → length numbers ≡ living_count rows
living_length rows numbers e = ap length e ∙ length_numbers_in (living_rows rows) ∙ counted 1 rows
  where
    count_step : (b : Bool) (from : ℕ) (row : Row) (ps : List (ℕ × Row)) (rows : List Row) → length ps ≡ length rows → length (cond b ((from, row) ∷ ps) ps) ≡ length (cond b (row ∷ rows) rows)
    count_step true from row ps rows e = ap suc e
    count_step false from row ps rows e = e

    counted : (from : ℕ) (rows : List Row) → length (filter (λ (p : ℕ × Row). p.1.lives) (numbered from rows)) ≡ living_count rows
    counted from [] = refl
    counted from (row ∷ rows) = count_step row.lives from row _ _ (counted (from + 1) rows)

-- the numbers of the living are their incarnations
pub living_incs : (rows : List Row) (numbers : List ℕ) → numbers ≡ numbers_in (living_rows rows) → numbers ≡ incs_where (λ row. row.lives) rows
living_incs rows numbers e = e ∙ sym (incs_numbered (λ row. row.lives) rows)

-- ---- as the code asks for it

lives_there : (o : Option Row) (n : ℕ) (rows : List Row) → o ≡ nth rows n → some_pass (λ (row : Row). row.lives) o ≡ true → (1 ≤ n) × (n ≤ length rows)
lives_there None n rows e lives = cc lives
lives_there (Some row) n rows e lives = (positive (cases_eq n 0), within (cases_lt (length rows) n))
  where
    positive : ((n ≡ 0) ⊎ (n ≡ 0 → ⊥)) → 1 ≤ n
    positive (inl none) = let clash : Some row ≡ None = e ∙ sym (nth_none rows n none) in cc clash
    positive (inr some) = omega arith

    within : ((length rows < n) ⊎ (n ≤ length rows)) → n ≤ length rows
    within (inl past) = let clash : Some row ≡ None = e ∙ nth_past rows n past in cc clash
    within (inr le) = le

-- a living row has a number of one of the rows
pub lives_within : (rows : List Row) (n : ℕ) → lives_at rows n ≡ true → (1 ≤ n) × (n ≤ length rows)
lives_within rows n lives = lives_there (nth rows n) n rows refl lives

passes_there : (t : Row → Bool) (o : Option Row) → some_pass t o ≡ true → ((row : Row) → t row ≡ true → row.lives ≡ true) → some_pass (λ (row : Row). row.lives) o ≡ true
passes_there t None e f = cc e
passes_there t (Some row) e f = f row e

-- so does a member of a group
pub member_within : (group : List ℕ) (rows : List Row) (n : ℕ) → some_pass (is_in group) (nth rows n) ≡ true → (1 ≤ n) × (n ≤ length rows)
member_within group rows n e = lives_within rows n (passes_there (is_in group) (nth rows n) e (λ row h. (and_parts row.lives (same_text group row.group) h).0))

member_same : (at : ℕ) (group : List ℕ) (o : Option Row) → some_pass (is_in group) o ≡ true → option_map (done_to at Ends) o ≡ option_map (with_group_ended at group) o
member_same at group None e = refl
member_same at group (Some row) e = rw e refl

member_other : (at : ℕ) (group : List ℕ) (o : Option Row) → some_pass (is_in group) o ≡ false → option_map (with_group_ended at group) o ≡ o
member_other at group None e = refl
member_other at group (Some row) e = rw e refl

-- a member of a group that ends is done to as the deletion of the group does
pub member_ended : (at : ℕ) (group : List ℕ) (rows : List Row) (n : ℕ) → some_pass (is_in group) (nth rows n) ≡ true → change_nth (done_to at Ends) rows n ≡ change_nth (with_group_ended at group) rows n
member_ended at group rows n e = change_same (done_to at Ends) (with_group_ended at group) rows n (member_same at group (nth rows n) e)

-- and what is no member of it is left
pub member_left : (at : ℕ) (group : List ℕ) (rows : List Row) (n : ℕ) → some_pass (is_in group) (nth rows n) ≡ false → rows ≡ change_nth (with_group_ended at group) rows n
member_left at group rows n e = change_fixed (with_group_ended at group) rows n (member_other at group (nth rows n) e)

pub member_spans : (at : ℕ) (group : List ℕ) (rows rows' : List Row) (n : ℕ) → rows' ≡ change_nth (with_group_ended at group) rows n → AllSpanned at rows → AllSpanned at rows'
member_spans at group rows rows' n e spans =
    subst (AllSpanned at) (sym e) (spanned_change at (with_group_ended at group) (λ row s. deed_spanned at (is_in group row) row s) rows n spans)

-- the indexes stay good at a later moment
pub filed_later : (rows : List Row) (numbers names : List ℕ) (latest at : ℕ) → latest ≤ at → IsFiled rows numbers names latest → IsFiled rows numbers names at
filed_later rows numbers names latest at le filed = record {
  few = filed.few;
  by_number = filed.by_number;
  by_name = filed.by_name;
  spans = spanned_later latest at rows le filed.spans;
}

pub later_spans : (kept : List Kept) (numbers names : List ℕ) (latest at : ℕ) → latest ≤ at → IsFiled (rows_in kept) numbers names latest → AllSpanned at (rows_in kept)
later_spans kept numbers names latest at le filed = spanned_later latest at (rows_in kept) le filed.spans

-- the row that a creation makes is put into the indexes at its place
pub filed_born : (kept : List Kept) (k : Kept) (numbers names : List ℕ) (latest at : ℕ) (place n : ℕ) → latest ≤ at → IsFiled (rows_in kept) numbers names latest
    → k.row.lives ≡ true → IsSpanned at k.row → living (rows_in kept) k.row.group k.row.name ≡ None → IsPlace (comes_short kept k.row.group k.row.name edges.Before) names place
    → n ≡ length kept + 1 → n ≤ MOST_INCARNATIONS → IsFiled (rows_in (kept ++ k ∷ [])) (numbers ++ n ∷ []) (insert names place n) at
filed_born kept k numbers names latest at place n le filed lives spanned free placed e few =
    subst (λ (rows : List Row). IsFiled rows (numbers ++ n ∷ []) (insert names place n) at) (sym (rows_push kept k))
    (filed_created (rows_in kept) numbers names latest at k.row place n le filed lives spanned free
    (parted kept names k.row.group k.row.name edges.Before place filed.by_name placed) (omega (arith, length_rows kept)) few)

-- the row of a creation
abbrev pub created_row : Moment → List ℕ → List ℕ → Schedule → Row
created_row at group name content =
    record { group = group; name = name; created = at; changed = at; lives = true; revisions = revision_from at.0 content ∷ [] }

pub filed_made : (kept : List Kept) (k : Kept) (numbers names : List ℕ) (latest : ℕ) (at : Moment) (group name : List ℕ) (content : Schedule) (place n : ℕ) → latest ≤ at.0
    → IsFiled (rows_in kept) numbers names latest → k.row ≡ created_row at group name content → living (rows_in kept) group name ≡ None
    → IsPlace (comes_short kept group name edges.Before) names place → n ≡ length kept + 1 → n ≤ MOST_INCARNATIONS
    → IsFiled (rows_in (kept ++ k ∷ [])) (numbers ++ n ∷ []) (insert names place n) at.0
filed_made kept k numbers names latest at group name content place n le filed made free placed e few =
    let one : IsSpanned at.0 (created_row at group name content) = record { some = omega arith; front = tt } in
    filed_born kept k numbers names latest at.0 place n le filed (ap (λ (row : Row). row.lives) made) (subst (IsSpanned at.0) (sym made) one)
    (subst (λ (row : Row). living (rows_in kept) row.group row.name ≡ None) (sym made) free)
    (subst (λ (row : Row). IsPlace (comes_short kept row.group row.name edges.Before) names place) (sym made) placed) e few
