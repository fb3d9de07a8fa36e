-- The index of the groups by name: which group has a name.
use Rattle.std.proofs.Common.{◌≡◌, ℕ, zero, suc, ◌+◌, ◌≤◌, ◌<◌, Bool, true, false, not, Option, Some, None, List, [], ◌∷◌, ◌++◌, map, length, take, drop, get_or, refl, sym, ap, ◌∙◌, subst, arith, cond}
use Rattle.std.specs.Prelude.{if◌then◌else◌}
use Rattle.std.specs.List.{filter, find, list_all}
use Rattle.std.specs.Option.{option_and_then}
use Rattle.std.proofs.lemmas.Bool.{and_parts, both_ways, false_from_ne_true}
use Rattle.std.proofs.lemmas.List.{take-append-drop}
use Rattle.std.proofs.lemmas.List.Elements.{filter-append}
use Rattle.plain_words.specs.Lists.{head, when}
use Rattle.sched_plain.specs.declared.row.GroupRow.{GroupRow}
use Rattle.sched_plain.specs.Groups.{is_named}
use Rattle.sched_calls.specs.Replies.{text_before}
use Rattle.sched_rows.specs.declared.edge.Edge.TheVariants as edges
use Rattle.sched_rows.specs.Order.{numbered, numbers_in, IsRising, IsPlace}
use Rattle.sched_rows.specs.GroupIndex.{group_before, groups_in_order, group_short, IsGrouped}
use Rattle.sched_rows.specs.Pages.{group_shown_at}
use Rattle.sched_rows.proofs.OrderLemmas.{filter_sorted}
use Rattle.sched_rows.proofs.NameLemmas.{text_itself, same_text_same}
use Rattle.sched_rows.proofs.PlaceLemmas.{Each, IsPlaced}
use Rattle.sched_rows.proofs.LivingLemmas.{all_where, not_is, none_pass, first_if, rising_drop, sorted_alone, drop_past, length_numbers_in}
use Rattle.sched_rows.proofs.GroupLemmas.{group_order, groups_placed, GroupsParted, groups_parted}

-- ---- the first that passes

find_head : {A : Type 0} (t : A → Bool) (xs : List A) → find t xs ≡ head (filter t xs)
find_head t [] = refl
find_head {A} t (x ∷ xs) = step (t x) (find_head t xs)
  where
    step : (b : Bool) → find t xs ≡ head (filter t xs) → cond b (Some x) (find t xs) ≡ head (cond b (x ∷ filter t xs) (filter t xs))
    step true e = refl
    step false e = e

abbrev groups_in : List (ℕ × GroupRow) → List GroupRow
groups_in ps = map {A = ℕ × GroupRow} (λ p. p.1) ps

numbered_filter : (t : GroupRow → Bool) (from : ℕ) (groups : List GroupRow) → filter t groups ≡ groups_in (filter (λ (p : ℕ × GroupRow). t p.1) (numbered from groups))
numbered_filter t from [] = refl
numbered_filter t from (g ∷ groups) = step (t g) (numbered_filter t (from + 1) groups)
  where
    step : (b : Bool) → filter t groups ≡ groups_in (filter (λ (p : ℕ × GroupRow). t p.1) (numbered (from + 1) groups))
        → cond b (g ∷ filter t groups) (filter t groups)
        ≡ groups_in (cond b ((from, g) ∷ filter (λ (p : ℕ × GroupRow). t p.1) (numbered (from + 1) groups)) (filter (λ (p : ℕ × GroupRow). t p.1) (numbered (from + 1) groups)))
    step true e = ap (λ (gs : List GroupRow). g ∷ gs) e
    step false e = e

-- ---- the group of a name

-- the first group from the place on is the only one that may have the name
first_named : (name : List ℕ) (ps : List (ℕ × GroupRow)) → IsRising group_before ps → list_all (λ p. not (text_before p.1.name name)) ps ≡ true
    → filter (λ p. is_named name p.1) ps ≡ first_if (λ p. is_named name p.1) ps
first_named name [] rising back = refl
first_named name (p ∷ ps) rising back =
    ap (λ (rest : List (ℕ × GroupRow)). cond (is_named name p.1) (p ∷ rest) rest)
    (none_pass (λ q. is_named name q.1) ps (all_where (group_before p) (λ q. not (is_named name q.1)) later ps rising.0))
  where
    not_short : text_before p.1.name name ≡ false
    not_short = not_is _ (and_parts (not (text_before p.1.name name)) (list_all (λ q. not (text_before q.1.name name)) ps) back).0

    later : (q : ℕ × GroupRow) → group_before p q ≡ true → not (is_named name q.1) ≡ true
    later q lt =
        ap not (false_from_ne_true (is_named name q.1) (λ h. both_ways (text_before p.1.name name) not_short
        (subst (λ (x : List ℕ). text_before p.1.name x ≡ true) (sym (same_text_same name q.1.name h)) lt)))

short_other : (name : List ℕ) (p : ℕ × GroupRow) → text_before p.1.name name ≡ true → not (is_named name p.1) ≡ true
short_other name p e =
    ap not (false_from_ne_true (is_named name p.1) (λ h. both_ways (text_before p.1.name name)
    (subst (λ (x : List ℕ). text_before p.1.name x ≡ false) (sym (same_text_same name p.1.name h)) (text_itself p.1.name)) e))

named_from : (name : List ℕ) (ps : List (ℕ × GroupRow)) (at : ℕ) → IsRising group_before ps → GroupsParted name edges.Before ps at
    → filter (λ p. is_named name p.1) ps ≡ first_if (λ p. is_named name p.1) (drop at ps)
named_from name ps at rising parts =
    let t : ℕ × GroupRow → Bool = λ p. is_named name p.1 in
    ap (filter t) (sym (take-append-drop at ps)) ∙ filter-append t (take at ps) (drop at ps)
    ∙ ap (λ (front : List (ℕ × GroupRow)). front ++ filter t (drop at ps))
    (none_pass t (take at ps) (all_where (λ p. text_before p.1.name name) (λ p. not (t p)) (short_other name) (take at ps) parts.front))
    ∙ first_named name (drop at ps) (rising_drop group_before at ps rising) parts.back

group_is : (groups : List GroupRow) (name : List ℕ) (at : ℕ) → IsRising group_before (groups_in_order groups) → GroupsParted name edges.Before (groups_in_order groups) at
    → find (is_named name) groups ≡ head (groups_in (first_if (λ p. is_named name p.1) (drop at (groups_in_order groups))))
group_is groups name at rising parts =
    let t : ℕ × GroupRow → Bool = λ p. is_named name p.1 in
    let alone : filter t (numbered 1 groups) ≡ first_if t (drop at (groups_in_order groups)) =
    sorted_alone group_before t (filter t (numbered 1 groups)) (drop at (groups_in_order groups))
    (sym (filter_sorted group_before group_order t (numbered 1 groups) rising) ∙ named_from name (groups_in_order groups) at rising parts) in
    find_head (is_named name) groups ∙ ap head (numbered_filter (is_named name) 1 groups ∙ ap groups_in alone)

-- ---- as the code asks for it

found_in : (t : GroupRow → Bool) (groups : List GroupRow) (ps : List (ℕ × GroupRow)) (at : ℕ) → Each (IsPlaced groups) ps → at < length (numbers_in ps)
    → group_shown_at t groups (get_or (numbers_in ps) at 0) ≡ head (groups_in (first_if (λ p. t p.1) (drop at ps)))
found_in t groups [] at e within = absurd (omega arith)
found_in t groups (p ∷ ps) zero e within =
    ap (λ (o : Option GroupRow). option_and_then (λ group. when (t group) group) o) e.0 ∙ step (t p.1)
  where
    step : (b : Bool) → when b p.1 ≡ head (groups_in (if b then p ∷ [] else []))
    step true = refl
    step false = refl
found_in t groups (p ∷ ps) (suc at) e within = found_in t groups ps at e.1 (omega arith)

pub group_found : (groups : List GroupRow) (places : List ℕ) (name : List ℕ) (at : ℕ) → IsGrouped groups places → IsPlace (group_short groups name edges.Before) places at
    → at < length places → group_shown_at (is_named name) groups (get_or places at 0) ≡ find (is_named name) groups
group_found groups places name at index place within =
    let parts = groups_parted groups places name edges.Before at index place in
    ap (λ (ns : List ℕ). group_shown_at (is_named name) groups (get_or ns at 0)) index.names
    ∙ found_in (is_named name) groups (groups_in_order groups) at (groups_placed groups) (subst (λ (ns : List ℕ). at < length ns) index.names within)
    ∙ sym (group_is groups name at index.apart parts)

pub group_past : (groups : List GroupRow) (places : List ℕ) (name : List ℕ) (at : ℕ) → IsGrouped groups places → IsPlace (group_short groups name edges.Before) places at
    → length places ≤ at → None ≡ find (is_named name) groups
group_past groups places name at index place past =
    let parts = groups_parted groups places name edges.Before at index place in
    let long : length (groups_in_order groups) ≤ at = omega (arith, length_numbers_in (groups_in_order groups), ap length index.names) in
    sym (group_is groups name at index.apart parts
    ∙ ap (λ (ps : List (ℕ × GroupRow)). head (groups_in (first_if (λ p. is_named name p.1) ps))) (drop_past at (groups_in_order groups) long))
