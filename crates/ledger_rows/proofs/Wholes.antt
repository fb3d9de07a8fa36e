-- What a change of one row, and rows behind the others, make of a lane and its numbers.
use Rattle.std.proofs.Common.{◌≡◌, ℕ, suc, zero, ◌+◌, ◌≤◌, ◌<◌, List, [], ◌∷◌, ◌++◌, map, length, length-append, take, drop, get_or, set, refl, sym, ap, ◌∙◌, subst, arith}
use Rattle.std.proofs.lemmas.List.{length-map, length-set}
use Rattle.min_tree.specs.Numbers.{Numbers}
use Rattle.sched_plain.specs.declared.schedule.Policy.{Policy}
use Rattle.sched_plain.specs.declared.step.Pair.{Pair}
use Rattle.entry_lines.specs.Rows.{Row, LaneRows, new_row, no_row, row_there}
use Rattle.ledger_rows.specs.Blocks.{AreBlocks, IsWhole}
use Rattle.ledger_rows.specs.Rows.{IsEntrance, IsLane, pairs_of}
use Rattle.ledger_rows.proofs.Entrances.{entering_step}
use Rattle.ledger_rows.proofs.Lookups.{IsEven, lane_set}
use Rattle.ledger_rows.proofs.ListSteps.{mapped_step}
use Rattle.ledger_rows.proofs.NumberLemmas.{mapping_ends}
use Rattle.ledger_rows.proofs.Tallies.{all_taken}

-- a lane with one row written is whole again once its number is
pub whole_set : (old new : LaneRows) (before after : Numbers) (p : ℕ) (row : Row) → IsWhole old before → new.rows ≡ set old.rows p row → new.room ≡ old.room → IsLane new.rows
    → AreBlocks new.rows after.values → length after.values ≡ length before.values → after.room ≡ before.room → IsWhole new after
whole_set old new before after p row whole is room lane blocks long kept =
    let same : length new.rows ≡ length old.rows = ap {A = List Row} length is ∙ length-set old.rows p row in
    let ready = whole.ready in
    record { order = lane; blocks = blocks; ready = omega (arith, same, room, long, kept, ready) }

-- the rows so far are changed, the others are as they were
pub record Evened (f : Row → Row) (initial now : LaneRows) (wants : Numbers) (at : ℕ) : Type 0 where
  pub whole : IsWhole now wants
  pub long : length now.rows ≡ length initial.rows
  pub are : now.rows ≡ map f (take at initial.rows) ++ drop at initial.rows
  pub room_is : now.room ≡ initial.room
  pub begins_is : now.begins ≡ initial.begins

pub even_lane : (f : Row → Row) (rows new : List Row) (p : ℕ) → IsEven f → IsLane rows → p < length rows → new ≡ set rows p (f (row_there rows p)) → IsLane new
even_lane f rows new p even lane within is =
    subst IsLane (sym is) (lane_set rows p no_row (f (row_there rows p)) lane (even.instant (row_there rows p)) (even.small (row_there rows p) (lane.small p no_row within)))

pub even_begins : (f : Row → Row) (rows : LaneRows) (wants : Numbers) → IsWhole rows wants → Evened f rows rows wants 0
even_begins f rows wants whole = record { whole = whole; long = refl; are = refl; room_is = refl; begins_is = refl }

pub even_step : (f : Row → Row) (initial old new : LaneRows) (before after : Numbers) (i : ℕ) → IsEven f → Evened f initial old before i → i < length initial.rows
    → new.rows ≡ set old.rows i (f (row_there old.rows i)) → new.room ≡ old.room → new.begins ≡ old.begins
    → AreBlocks new.rows after.values → length after.values ≡ length before.values → after.room ≡ before.room → Evened f initial new after (i + 1)
even_step f initial old new before after i even e within is room begins blocks long kept =
    let inside : i < length old.rows = let l = e.long in omega (arith, within, l) in
    record {
      whole = whole_set old new before after i (f (row_there old.rows i)) e.whole is room (even_lane f old.rows new.rows i even e.whole.order inside is) blocks long kept;
      long = ap {A = List Row} length is ∙ length-set old.rows i (f (row_there old.rows i)) ∙ e.long;
      are = is ∙ mapped_step f no_row initial.rows old.rows i (f (row_there old.rows i)) within e.are refl;
      room_is = room ∙ e.room_is;
      begins_is = begins ∙ e.begins_is;
    }

-- pairs that may be entered leave a lane
entered_upto : (policy : Policy) (pairs : List Pair) (rows : List Row) (i : ℕ) → IsEntrance (pairs_of rows) pairs → IsLane rows → policy.retries ≤ 255 → i ≤ length pairs
    → IsLane (rows ++ map (new_row policy) (take i pairs))
entered_upto policy pairs rows zero may lane few le = subst IsLane (append_none rows) lane
  where
    append_none : (xs : List Row) → xs ≡ xs ++ []
    append_none [] = refl
    append_none (x ∷ xs) = ap (λ l. x ∷ l) (append_none xs)
entered_upto policy pairs rows (suc i) may lane few le =
    let so_far = entered_upto policy pairs rows i may lane few (omega (arith, le)) in
    let now = rows ++ map (new_row policy) (take i pairs) in
    let pair : Pair = get_or pairs i (record { instant = 0; chosen = 0 }) in
    let step = entering_step policy pairs rows now (now ++ new_row policy pair ∷ []) i (record { instant = 0; chosen = 0 }) (new_row policy pair) may lane so_far refl (omega (arith, le)) few refl refl in
    let next : i + 1 ≡ suc i = omega arith in
    subst (λ (n : ℕ). IsLane (rows ++ map (new_row policy) (take n pairs))) next (subst IsLane step.rows step.lane)

pub entered_lane : (policy : Policy) (pairs : List Pair) (rows new : List Row) → IsEntrance (pairs_of rows) pairs → IsLane rows → policy.retries ≤ 255
    → new ≡ rows ++ map (new_row policy) pairs → IsLane new
entered_lane policy pairs rows new may lane few is =
    subst IsLane (ap (λ (l : List Pair). rows ++ map (new_row policy) l) (all_taken pairs (length pairs) (omega arith)) ∙ sym is)
    (entered_upto policy pairs rows (length pairs) may lane few (omega arith))

pub entered_long : (policy : Policy) (pairs : List Pair) (rows new : List Row) → new ≡ rows ++ map (new_row policy) pairs → length new ≡ length rows + length pairs
entered_long policy pairs rows new is =
    ap {A = List Row} length is ∙ length-append rows (map (new_row policy) pairs) ∙ ap (λ (n : ℕ). length rows + n) (length-map pairs (new_row policy))

pub even_ends : (f : Row → Row) (initial now : LaneRows) (wants : Numbers) (at : ℕ) → Evened f initial now wants at → length initial.rows ≤ at → now ≡ record initial { rows = map f initial.rows }
even_ends f initial now wants at e end =
    let rows : now.rows ≡ map f initial.rows = e.are ∙ mapping_ends f initial.rows at end in
    λ i. record { rows = rows i; room = e.room_is i; begins = e.begins_is i }
