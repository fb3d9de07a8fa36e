-- Ending the span of the last revision ends all of them.
use Rattle.std.proofs.Common.{◌≡◌, ℕ, zero, suc, ◌+◌, ◌-◌, ◌≤◌, ◌<◌, ◌==◌, min, Bool, true, false, List, [], ◌∷◌, ◌++◌, map, length, get_or, set, refl, sym, ap, arith}
use Rattle.sched_plain.specs.declared.row.Revision.{Revision}
use Rattle.sched_plain.specs.declared.row.Row.{Row}
use Rattle.sched_plain.specs.declared.schedule.Schedule.{Schedule}
use Rattle.sched_plain.specs.Rows.{cut_at, done_to, removed_at, Renews, Ends, ends_if}
use Rattle.plain_words.specs.Lists.{last, last_from, change_nth}
use Rattle.std.specs.Prelude.{if◌then◌else◌}
use Rattle.std.specs.List.{slice_get}
use Rattle.sched_rows.specs.Spans.{FrontEnded, IsSpanned, AllSpanned}

-- a revision whose span ends at a moment, where it ends no earlier
abbrev pub cut : ℕ → Revision → Revision
cut at revision = record revision { to = min at revision.to }

pub cut_last_is : (at : ℕ) (xs : List Revision) (k : ℕ) (last : Revision) → FrontEnded at xs → k + 1 ≡ length xs → last ≡ get_or xs k last
    → set xs k (cut at last) ≡ cut_at at xs
cut_last_is at [] k last front e is = absurd (omega arith)
cut_last_is at (r ∷ []) zero last front e is = rw is refl
cut_last_is at (r ∷ []) (suc k) last front e is = absurd (omega arith)
cut_last_is at (r ∷ s ∷ more) zero last front e is = absurd (omega arith)
cut_last_is at (r ∷ s ∷ more) (suc k) last front e is =
    let within : min at r.to ≡ r.to = omega (arith, front.0) in
    rw within (ap (λ (ys : List Revision). r ∷ ys) (cut_last_is at (s ∷ more) k last front.1 (omega arith) is))

-- the last element stands at the last place
pub last_is : {A : Type 0} (x : A) (xs : List A) → last_from x xs ≡ slice_get (x ∷ xs) (length xs)
last_is x [] = refl
last_is x (y ∷ ys) = last_is y ys

pub last_at : {A : Type 0} (xs : List A) → slice_get xs (length xs - 1) ≡ last xs
last_at [] = refl
last_at (x ∷ xs) = let e : suc (length xs) - 1 ≡ length xs = omega arith in rw e (sym (last_is x xs))

-- ---- spans of rows

-- each revision of a list ends by a moment
abbrev Ended : ℕ → List Revision → Type 0
Ended at [] = Unit {0}
Ended at (r ∷ rs) = (r.to ≤ at) × Ended at rs

cut_ended : (at : ℕ) (rs : List Revision) → Ended at (cut_at at rs)
cut_ended at [] = tt
cut_ended at (r ∷ rs) = (omega arith, cut_ended at rs)

ended_front : (at : ℕ) (rs : List Revision) → Ended at rs → FrontEnded at rs
ended_front at [] e = tt
ended_front at (r ∷ []) e = tt
ended_front at (r ∷ s ∷ rs) e = (e.0, ended_front at (s ∷ rs) e.1)

ended_then : (at : ℕ) (rs : List Revision) (last : Revision) → Ended at rs → FrontEnded at (rs ++ last ∷ [])
ended_then at [] last e = tt
ended_then at (r ∷ []) last e = (e.0, tt)
ended_then at (r ∷ s ∷ rs) last e = (e.0, ended_then at (s ∷ rs) last e.1)

front_later : (at later : ℕ) (rs : List Revision) → at ≤ later → FrontEnded at rs → FrontEnded later rs
front_later at later [] le e = tt
front_later at later (r ∷ []) le e = tt
front_later at later (r ∷ s ∷ rs) le e = (omega (arith, e.0), front_later at later (s ∷ rs) le e.1)

pub spanned_later : (at later : ℕ) (rows : List Row) → at ≤ later → AllSpanned at rows → AllSpanned later rows
spanned_later at later [] le s = tt
spanned_later at later (row ∷ rows) le s =
    (record { some = s.0.some; front = front_later at later row.revisions le s.0.front }, spanned_later at later rows le s.1)

pub spanned_push : (at : ℕ) (rows : List Row) (row : Row) → AllSpanned at rows → IsSpanned at row → AllSpanned at (rows ++ row ∷ [])
spanned_push at [] row s one = (one, tt)
spanned_push at (r ∷ rows) row s one = (s.0, spanned_push at rows row s.1 one)

spanned_if : (at : ℕ) (b : Bool) (x y : Row) (xs ys : List Row) → IsSpanned at x → AllSpanned at xs → IsSpanned at y → AllSpanned at ys → AllSpanned at (if b then x ∷ xs else y ∷ ys)
spanned_if at true x y xs ys a b c d = (a, b)
spanned_if at false x y xs ys a b c d = (c, d)

pub spanned_change : (at : ℕ) (f : Row → Row) → ((row : Row) → IsSpanned at row → IsSpanned at (f row)) → (rows : List Row) (n : ℕ) → AllSpanned at rows → AllSpanned at (change_nth f rows n)
spanned_change at f keeps [] n s = tt
spanned_change at f keeps (row ∷ rows) n s =
    spanned_if at (n == 1) (f row) row rows (change_nth f rows (n - 1)) (keeps row s.0) s.1 s.0 (spanned_change at f keeps rows (n - 1) s.1)

pub spanned_map : (at : ℕ) (f : Row → Row) → ((row : Row) → IsSpanned at row → IsSpanned at (f row)) → (rows : List Row) → AllSpanned at rows → AllSpanned at (map f rows)
spanned_map at f keeps [] s = tt
spanned_map at f keeps (row ∷ rows) s = (keeps row s.0, spanned_map at f keeps rows s.1)

pub front_at : (at : ℕ) (rows : List Row) (i : ℕ) (d : Row) → AllSpanned at rows → i < length rows → FrontEnded at (get_or rows i d).revisions
front_at at [] i d s within = absurd (omega arith)
front_at at (row ∷ rows) zero d s within = s.0.front
front_at at (row ∷ rows) (suc i) d s within = front_at at rows i d s.1 (omega arith)

length_cut : (at : ℕ) (rs : List Revision) → length (cut_at at rs) ≡ length rs
length_cut at [] = refl
length_cut at (r ∷ rs) = ap suc (length_cut at rs)

more_length : (rs : List Revision) (last : Revision) → 0 < length (rs ++ last ∷ [])
more_length [] last = omega arith
more_length (r ∷ rs) last = omega arith

-- what each deed leaves
pub renewed_spanned : (at : ℕ) (content : Schedule) (row : Row) → IsSpanned at row → IsSpanned at (done_to at (Renews content) row)
renewed_spanned at content row s = record {
  some = more_length (cut_at at row.revisions) _;
  front = ended_then at (cut_at at row.revisions) _ (cut_ended at row.revisions);
}

pub cut_spanned : (at : ℕ) (row : Row) → IsSpanned at row → IsSpanned at (removed_at at row)
cut_spanned at row s = record {
  some = omega (arith, s.some, length_cut at row.revisions);
  front = ended_front at (cut_at at row.revisions) (cut_ended at row.revisions);
}

pub ended_spanned : (at : ℕ) (row : Row) → IsSpanned at row → IsSpanned at (done_to at Ends row)
ended_spanned at row s = record {
  some = omega (arith, s.some, length_cut at row.revisions);
  front = ended_front at (cut_at at row.revisions) (cut_ended at row.revisions);
}

pub deed_spanned : (at : ℕ) (b : Bool) (row : Row) → IsSpanned at row → IsSpanned at (done_to at (ends_if b) row)
deed_spanned at true row s = ended_spanned at row s
deed_spanned at false row s = s
