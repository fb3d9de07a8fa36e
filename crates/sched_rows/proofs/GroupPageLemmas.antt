-- The groups of a list are those that the index by name gives, in its order.
use Rattle.std.proofs.Common.{◌≡◌, ℕ, zero, suc, ◌+◌, ◌-◌, ◌≤◌, Bool, true, false, not, ◌&&◌, Option, Some, None, List, [], ◌∷◌, ◌++◌, map, take, drop, refl, sym, ap, ◌∙◌, subst, cond, max}
use Rattle.std.specs.Prelude.{nat_eq}
use Rattle.std.specs.List.{filter, list_all, starts_with}
use Rattle.std.specs.Option.{option_and_then, option_to_list}
use Rattle.std.proofs.lemmas.Bool.{and_parts, or_parts, false_from_ne_true}
use Rattle.std.proofs.Math.Nat.{le-max_left, le-max_right}
use Rattle.plain_words.specs.Lists.{when}
use Rattle.sched_plain.specs.declared.row.GroupRow.{GroupRow}
use Rattle.sched_calls.specs.Replies.{sorted, text_before, listed_groups}
use Rattle.sched_rows.specs.declared.edge.Edge.TheVariants as edges
use Rattle.sched_rows.specs.Order.{numbered, numbers_in, IsPlace}
use Rattle.sched_rows.specs.GroupIndex.{group_before, groups_in_order, group_short, is_group_short, IsGrouped, IsGroupStart}
use Rattle.sched_rows.specs.Pages.{group_shown_at, groups_shown_of, is_listed_group}
use Rattle.sched_rows.proofs.OrderLemmas.{sorted_map}
use Rattle.sched_rows.proofs.NameLemmas.{text_asym, begins_not_before}
use Rattle.sched_rows.proofs.PlaceLemmas.{Each, IsPlaced}
use Rattle.sched_rows.proofs.GroupLemmas.{groups_placed, groups_parted}
use Rattle.sched_rows.proofs.LivingLemmas.{not_is}
use Rattle.sched_rows.proofs.PageLemmas.{Skips, Ends, of_larger, ends_behind, within_shows, not_first}

numbered_are : (from : ℕ) (groups : List GroupRow) → map {A = ℕ × GroupRow} (λ p. p.1) (numbered from groups) ≡ groups
numbered_are from [] = refl
numbered_are from (g ∷ groups) = ap (λ (gs : List GroupRow). g ∷ gs) (numbered_are (from + 1) groups)

group_list : (groups : List GroupRow) → sorted {A = GroupRow} (λ a b. text_before a.name b.name) groups ≡ map {A = ℕ × GroupRow} (λ p. p.1) (groups_in_order groups)
group_list groups =
    ap (sorted {A = GroupRow} (λ a b. text_before a.name b.name)) (sym (numbered_are 1 groups))
    ∙ sorted_map (λ (p : ℕ × GroupRow). p.1) group_before (λ (a b : GroupRow). text_before a.name b.name) (λ p q. refl) (numbered 1 groups)

asked_group : (asked : GroupRow → Bool) (group : GroupRow) (gs : List GroupRow) → option_to_list (when (asked group) group) ++ gs ≡ cond (asked group) (group ∷ gs) gs
asked_group asked group gs = step (asked group)
  where
    step : (b : Bool) → option_to_list (when b group) ++ gs ≡ cond b (group ∷ gs) gs
    step true = refl
    step false = refl

filter_groups : (asked : GroupRow → Bool) (groups : List GroupRow) (ps : List (ℕ × GroupRow)) → Each (IsPlaced groups) ps
    → groups_shown_of asked groups (numbers_in ps) ≡ filter asked (map {A = ℕ × GroupRow} (λ p. p.1) ps)
filter_groups asked groups [] e = refl
filter_groups asked groups (p ∷ ps) e =
    ap (λ (o : Option GroupRow). option_to_list (option_and_then (λ group. when (asked group) group) o) ++ groups_shown_of asked groups (numbers_in ps)) e.0
    ∙ asked_group asked p.1 (groups_shown_of asked groups (numbers_in ps))
    ∙ ap (λ (gs : List GroupRow). cond (asked p.1) (p.1 ∷ gs) gs) (filter_groups asked groups ps e.1)

skipping_groups : (asked : GroupRow → Bool) (groups : List GroupRow) (short : GroupRow → Bool) → ((g : GroupRow) → short g ≡ true → asked g ≡ false)
    → (at : ℕ) (ps : List (ℕ × GroupRow)) → Each (IsPlaced groups) ps → list_all (λ p. short p.1) (take at ps) ≡ true
    → groups_shown_of asked groups (drop at (numbers_in ps)) ≡ groups_shown_of asked groups (numbers_in ps)
skipping_groups asked groups short none zero ps e all = refl
skipping_groups asked groups short none (suc at) [] e all = refl
skipping_groups asked groups short none (suc at) (p ∷ ps) e all =
    let parts = and_parts (short p.1) (list_all (λ q. short q.1) (take at ps)) all in
    skipping_groups asked groups short none at ps e.1 parts.1
    ∙ sym (ap (λ (o : Option GroupRow). option_to_list (option_and_then (λ group. when (asked group) group) o) ++ groups_shown_of asked groups (numbers_in ps)) e.0
    ∙ ap (λ (b : Bool). option_to_list (when b p.1) ++ groups_shown_of asked groups (numbers_in ps)) (none p.1 parts.0))

and_last : (a b : Bool) → b ≡ false → (a && b) ≡ false
and_last true b f = f
and_last false b f = refl

-- what a list of groups asks for, read off the whole index
groups_listed_all : (groups : List GroupRow) (places : List ℕ) (prefix : List ℕ) (after : Option (List ℕ)) → IsGrouped groups places
    → groups_shown_of (is_listed_group prefix after) groups places ≡ listed_groups prefix after groups
groups_listed_all groups places prefix after index =
    let asked = is_listed_group prefix after in
    ap (groups_shown_of asked groups) index.names
    ∙ filter_groups asked groups (groups_in_order groups) (groups_placed groups)
    ∙ ap (filter asked) (sym (group_list groups))

-- ---- the part of the index in which they stand

abbrev shows : List GroupRow → (GroupRow → Bool) → ℕ → List GroupRow
shows groups asked place = option_to_list (group_shown_at asked groups place)

outside : (prefix : List ℕ) (after : Option (List ℕ)) (group : GroupRow) → starts_with nat_eq group.name prefix ≡ false → is_listed_group prefix after group ≡ false
outside prefix after group e = not_first (starts_with nat_eq group.name prefix) _ e

start_skips : (groups : List GroupRow) (places : List ℕ) (prefix : List ℕ) (after : Option (List ℕ)) (at : ℕ) → IsGrouped groups places → IsGroupStart groups places after at
    → Skips (shows groups (is_listed_group prefix after)) places at
start_skips groups places prefix None at index start = ap (λ (i : ℕ). groups_shown_of (is_listed_group prefix None) groups (drop i places)) start
start_skips groups places prefix (Some last) at index start =
    let asked = is_listed_group prefix (Some last) in
    let parts = groups_parted groups places last edges.Before at index start in
    ap (λ (ns : List ℕ). groups_shown_of asked groups (drop at ns)) index.names
    ∙ skipping_groups asked groups (is_group_short last edges.Before) (λ g short. and_last (starts_with nat_eq g.name prefix) (text_before last g.name) (text_asym g.name last short)) at (groups_in_order groups) (groups_placed groups) parts.front
    ∙ ap (groups_shown_of asked groups) (sym index.names)

prefix_skips : (groups : List GroupRow) (places : List ℕ) (prefix : List ℕ) (after : Option (List ℕ)) (at : ℕ) → IsGrouped groups places → IsPlace (group_short groups prefix edges.Before) places at
    → Skips (shows groups (is_listed_group prefix after)) places at
prefix_skips groups places prefix after at index place =
    let asked = is_listed_group prefix after in
    let parts = groups_parted groups places prefix edges.Before at index place in
    ap (λ (ns : List ℕ). groups_shown_of asked groups (drop at ns)) index.names
    ∙ skipping_groups asked groups (is_group_short prefix edges.Before)
    (λ g short. outside prefix after g (false_from_ne_true (starts_with nat_eq g.name prefix) (λ begins. begins_not_before prefix g.name begins short)))
    at (groups_in_order groups) (groups_placed groups) parts.front
    ∙ ap (groups_shown_of asked groups) (sym index.names)

ending_groups : (asked : GroupRow → Bool) (groups : List GroupRow) (short : GroupRow → Bool) → ((g : GroupRow) → not (short g) ≡ true → asked g ≡ false)
    → (at : ℕ) (ps : List (ℕ × GroupRow)) → Each (IsPlaced groups) ps → list_all (λ p. not (short p.1)) (drop at ps) ≡ true
    → groups_shown_of asked groups (drop at (numbers_in ps)) ≡ []
ending_groups asked groups short none zero [] e all = refl
ending_groups asked groups short none zero (p ∷ ps) e all =
    let parts = and_parts (not (short p.1)) (list_all (λ q. not (short q.1)) ps) all in
    ap (λ (o : Option GroupRow). option_to_list (option_and_then (λ group. when (asked group) group) o) ++ groups_shown_of asked groups (numbers_in ps)) e.0
    ∙ ap (λ (b : Bool). option_to_list (when b p.1) ++ groups_shown_of asked groups (numbers_in ps)) (none p.1 parts.0)
    ∙ ending_groups asked groups short none zero ps e.1 parts.1
ending_groups asked groups short none (suc at) [] e all = refl
ending_groups asked groups short none (suc at) (p ∷ ps) e all = ending_groups asked groups short none at ps e.1 all

prefix_ends : (groups : List GroupRow) (places : List ℕ) (prefix : List ℕ) (after : Option (List ℕ)) (at : ℕ) → IsGrouped groups places → IsPlace (group_short groups prefix edges.Behind) places at
    → Ends (shows groups (is_listed_group prefix after)) places at
prefix_ends groups places prefix after at index place =
    let asked = is_listed_group prefix after in
    let parts = groups_parted groups places prefix edges.Behind at index place in
    ap (λ (ns : List ℕ). groups_shown_of asked groups (drop at ns)) index.names
    ∙ ending_groups asked groups (is_group_short prefix edges.Behind)
    (λ g past. outside prefix after g (or_parts (text_before g.name prefix) (starts_with nat_eq g.name prefix) (not_is _ past)).1)
    at (groups_in_order groups) (groups_placed groups) parts.back

-- all that a list of groups asks for stands between its places
pub group_span_shows : (groups : List GroupRow) (places : List ℕ) (prefix : List ℕ) (after : Option (List ℕ)) (behind from to start end : ℕ)
    → IsGrouped groups places → IsGroupStart groups places after behind → IsPlace (group_short groups prefix edges.Before) places from → IsPlace (group_short groups prefix edges.Behind) places to
    → start ≡ max behind from → end ≡ max to start
    → groups_shown_of (is_listed_group prefix after) groups (take (end - start) (drop start places)) ≡ listed_groups prefix after groups
group_span_shows groups places prefix after behind from to start end index is_start is_from is_to starts ends =
    let h = shows groups (is_listed_group prefix after) in
    let skips : Skips h places start =
    subst (Skips h places) (sym starts) (of_larger (Skips h places) behind from (start_skips groups places prefix after behind index is_start) (prefix_skips groups places prefix after from index is_from)) in
    let le : start ≤ end = subst (λ (n : ℕ). start ≤ n) (sym ends) (le-max_right to start) in
    let past : to ≤ end = subst (λ (n : ℕ). to ≤ n) (sym ends) (le-max_left to start) in
    within_shows h places start end le skips (ends_behind h places to end past (prefix_ends groups places prefix after to index is_to))
    ∙ groups_listed_all groups places prefix after index
