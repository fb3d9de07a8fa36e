-- A Complete leaves a shard less work.
use Rattle.std.proofs.Common.{◌≡◌, ℕ, zero, suc, ◌+◌, ◌*◌, ◌-◌, ◌<◌, ◌≤◌, Bool, true, false, cond, Option, Some, None, List, [], ◌∷◌, map, length, refl, ap, ap₂, sym, subst, ◌∙◌, arith, inl, inr}
use Rattle.std.specs.Prelude.{◌==◌, nat_le}
use Rattle.std.specs.List.{filter}
use Rattle.std.specs.Option.{option_map, option_and_then}
use Rattle.std.proofs.lemmas.Bool.{cases_eq}
use Rattle.sched_plain.specs.declared.row.Row.{Row}
use Rattle.sched_plain.specs.declared.schedule.Schedule.{Schedule}
use Rattle.sched_plain.specs.declared.work.Work.{Work}
use Rattle.sched_plain.specs.declared.work.Work.TheVariants as works
use Rattle.sched_plain.specs.declared.step.Step.TheVariants as steps
use Rattle.expressions.specs.Calendar.{Calendar}
use Rattle.plain_words.specs.Lists.{nth, change_nth, passing, put_if, some_pass, when}
use Rattle.sched_plain.specs.History.{History, ◌upon◌}
use Rattle.sched_plain.specs.Moments.{moment_of}
use Rattle.sched_plain.specs.Changes.{changes_of}
use Rattle.sched_plain.specs.Rows.{rows_of, current, current_of, removed_at}
use Rattle.sched_plain.specs.Ledger.{ledger_of}
use Rattle.sched_plain.specs.Entries.{entries, filed}
use Rattle.sched_plain.specs.Items.{Item, cut_item, items}
use Rattle.sched_plain.specs.Occurrences.{occurs_in, occ_below}
use Rattle.sched_plain.specs.Marks.{above_floor, without_pair, unentered}
use Rattle.sched_plain.specs.Seen.{seen}
use Rattle.sched_plain.specs.Work.{of_shard, completable, is_finished}
use Rattle.next_dates.proofs.Cuts.{cuts_stay}
use Rattle.next_dates.proofs.Contents.{changed_here, changed_elsewhere}
use Rattle.sweep_laws.specs.LoadLaws.{sum_over, weight_in, living_weight, weight, load, CompletesLessen}
use Rattle.sweep_laws.proofs.Found.{work_found}
use Rattle.sweep_laws.proofs.Sums.{sum_less}

-- ---- what is unentered stays

passing_alike : (p q : ℕ → Bool) (n : ℕ) → ((i : ℕ) → i < n → p i ≡ q i) → passing p n ≡ passing q n
passing_alike p q zero same = refl
passing_alike p q (suc n) same =
    ap₂ (λ b xs. put_if b n xs) (same n (omega arith)) (passing_alike p q n (λ i lt. same i (omega (arith, lt))))

cut_below : (c : Calendar) (b : Bool) (t : ℕ) (all : List Item) → occ_below c (cond b (map (cut_item t) all) all) (t + 1) ≡ occ_below c all (t + 1)
unfolding occ_below
cut_below c true t all = passing_alike (occurs_in c (map (cut_item t) all)) (occurs_in c all) (t + 1) (λ i lt. cuts_stay c t all i (omega (arith, lt)))
cut_below c false t all = refl

unentered_stays : (c : Calendar) (h : History) (t removed of : ℕ) → unentered c (steps.Complete (moment_of t) removed upon h) of t ≡ unentered c h of t
unentered_stays c h t removed of =
    ap (λ (xs : List ℕ). without_pair (entries (ledger_of h) of) (filter (nat_le (above_floor h of)) xs)) (cut_below c (of == removed) t (items h of))

-- ---- the schedule that is removed lives no more

gone : (t : ℕ) (row : Option Row) → option_and_then current_of (option_map (removed_at t) row) ≡ None
gone t None = refl
gone t (Some row) = refl

removed_here : (t removed of : ℕ) (rows : List Row) → of ≡ removed → living_weight (current (change_nth (removed_at t) rows removed) of) ≡ 0
removed_here t removed of rows same =
    ap (λ (n : ℕ). living_weight (current (change_nth (removed_at t) rows n) of)) (sym same)
    ∙ ap (λ (row : Option Row). living_weight (option_and_then current_of row)) (changed_here (removed_at t) rows of)
    ∙ ap living_weight (gone t (nth rows of))

removed_elsewhere : (t removed of : ℕ) (rows : List Row) → (of ≡ removed → ⊥)
    → living_weight (current (change_nth (removed_at t) rows removed) of) ≡ living_weight (current rows of)
removed_elsewhere t removed of rows other =
    ap (λ (row : Option Row). living_weight (option_and_then current_of row)) (changed_elsewhere (removed_at t) rows removed of other)

length_cons : {A : Type 0} (x y : A) (xs ys : List A) → length xs ≡ length ys → length (x ∷ xs) ≡ length (y ∷ ys)
length_cons x y xs ys e = omega (arith, e)

change_case : {A : Type 0} (f : A → A) (b : Bool) (x : A) (xs ys : List A) → length ys ≡ length xs → length (cond b (f x ∷ xs) (x ∷ ys)) ≡ length (x ∷ xs)
change_case f true x xs ys e = length_cons (f x) x xs xs refl
change_case f false x xs ys e = length_cons x x ys xs e

pub length_changed : {A : Type 0} (f : A → A) (xs : List A) (place : ℕ) → length (change_nth f xs place) ≡ length xs
length_changed f [] place = refl
length_changed f (x ∷ xs) place = change_case f (place == 1) x xs (change_nth f xs (place - 1)) (length_changed f xs (place - 1))

-- ---- a shard

-- what an incarnation weighs, with this weight of its living
abbrev weight_with : Calendar → History → ℕ → ℕ → ℕ → ℕ
weight_with c h t of living =
    3 * length (unentered c h of t) + (weight_in t of (filed (ledger_of h) of) (entries (ledger_of h) of) + living)

weight_behind : (c : Calendar) (h : History) (t removed of : ℕ)
    → weight c (steps.Complete (moment_of t) removed upon h) t of
    ≡ weight_with c h t of (living_weight (current (change_nth (removed_at t) (rows_of (changes_of h)) removed) of))
weight_behind c h t removed of =
    ap (λ (xs : List ℕ). 3 * length xs + (weight_in t of (filed (ledger_of h) of) (entries (ledger_of h) of) + living_weight (current (change_nth (removed_at t) (rows_of (changes_of h)) removed) of)))
    (unentered_stays c h t removed of)

fewer : (c : Calendar) (h : History) (t removed of : ℕ) → weight c (steps.Complete (moment_of t) removed upon h) t of ≤ weight c h t of
fewer c h t removed of =
    let behind = weight_behind c h t removed of in
    elim (cases_eq of removed) [
      | inl same ↦ let none = removed_here t removed of (rows_of (changes_of h)) same in omega (arith, behind, none)
      | inr other ↦ let kept = removed_elsewhere t removed of (rows_of (changes_of h)) other in omega (arith, behind, kept)
    ]

lives : (test : Schedule → Bool) (o : Option Schedule) → some_pass test o ≡ true → living_weight o ≡ 1
lives test None e = absurd cc
lives test (Some content) e = refl

less_by : (c : Calendar) (h : History) (t removed of : ℕ) (b : Bool) → completable (seen c h) of t ≡ b → when b (works.Complete of) ≡ Some (works.Complete removed)
    → weight c (steps.Complete (moment_of t) removed upon h) t of < weight c h t of
less_by c h t removed of false is e = absurd cc
less_by c h t removed of true is e =
    let same : of ≡ removed = cc e in
    let behind = weight_behind c h t removed of in
    let none = removed_here t removed of (rows_of (changes_of h)) same in
    let lived = lives (is_finished (seen c h) of t) (current (rows_of (changes_of h)) of) is in
    omega (arith, behind, none, lived)

pub complete_lessens : CompletesLessen
complete_lessens c h shard t removed w =
    let rows = rows_of (changes_of h) in
    let question : ℕ → Option Work = λ of. when (completable (seen c h) of t) (works.Complete of) in
    subst (λ (n : ℕ). sum_over (weight c (steps.Complete (moment_of t) removed upon h) t) (of_shard shard n) < load c h shard t) (sym (length_changed (removed_at t) rows removed))
    (sum_less question (works.Complete removed) (weight c h t) (weight c (steps.Complete (moment_of t) removed upon h) t) (of_shard shard (length rows))
    (fewer c h t removed)
    (λ of here. less_by c h t removed of (completable (seen c h) of t) refl here)
    (work_found (seen c h) shard t (works.Complete removed) w))
