-- How the entries that are not decided stand, counted over the lanes that have one.
use Rattle.std.proofs.Common.{◌≡◌, ℕ, zero, suc, ◌+◌, ◌-◌, ◌*◌, ◌/◌, ◌≤◌, ◌<◌, ◌==◌, ◌≢◌, Bool, true, false, cond, Option, Some, None, List, [], ◌∷◌, length, take, get_or, slice_index, refl, sym, ap, ap₂, ◌∙◌, subst, inl, inr, arith}
use Rattle.std.specs.Prelude.{nat_lt, if◌then◌else◌}
use Rattle.std.specs.List.{All}
use Rattle.std.proofs.lemmas.Bool.{cases_eq, cases_lt, eq-eqb, ne_eqb, lt-ltb, le-ltb}
use Rattle.std.proofs.lemmas.List.{get_or_default, get_or_past, length-map}
use Rattle.plain_words.specs.Ids.{shard_of}
use Rattle.plain_words.specs.Lists.{some_pass}
use Rattle.plain_words.specs.declared.limits.TheConstants.{SHARDS}
use Rattle.min_tree.specs.Numbers.{Numbers}
use Rattle.min_tree.specs.Search.{AllAbove, IsFirstAtMost}
use Rattle.min_tree.specs.declared.nodes.TheConstants.{ABOVE_ALL}
use Rattle.min_tree.proofs.LeastLemmas.{least_low}
use Rattle.sched_plain.specs.declared.entry.Filed.{Filed}
use Rattle.sched_plain.specs.declared.standing.Standing.{Standing}
use Rattle.sched_plain.specs.declared.step.Pair.{Pair}
use Rattle.sched_plain.specs.Report.{number_of, one_more_if, is_waiting, is_due, is_live, is_exhausted}
use Rattle.sched_plain.specs.Standing.{standing_of}
use Rattle.entry_lines.specs.Rows.{Row, LaneRows, no_row, row_there}
use Rattle.ledger_rows.specs.declared.open_entries.OpenCounts.{OpenCounts}
use Rattle.ledger_rows.specs.declared.wants.TheConstants.{IN_AIR}
use Rattle.ledger_rows.specs.Numbers.{lane_number, numbers_of, wants}
use Rattle.ledger_rows.specs.Rows.{IsLane, IsSmallRow, filed_at, pairs_of, standings_in, standings_looked}
use Rattle.ledger_rows.specs.Shelves.{AreShelved, HasPlace, number_there, shelf}
use Rattle.ledger_rows.specs.State.{lane_of, lane_standings, no_lane}
use Rattle.ledger_rows.specs.Tallying.{AreFew, AreUpTo, all_in, in_shard, open_counts, together, with_standing}
use Rattle.ledger_rows.proofs.Lookups.{each_looked}
use Rattle.ledger_rows.proofs.NumberLemmas.{decided_above, number_at}
use Rattle.ledger_rows.proofs.Outcomes.{IsOfOpen, decided_fails, number_few}
use Rattle.ledger_rows.proofs.ShelfLemmas.{at_place, number_at_place}
use Rattle.ledger_rows.proofs.Sums.{number_sum, sum_alone, sum_grows, sum_parts, sum_same, sum_upto}
use Rattle.ledger_rows.proofs.Tallied.{all_few, looked, looked_same, no_standings, number_here}
use Rattle.ledger_rows.proofs.Tallies.{all_taken, number_push, standings_are, standings_more}
use Rattle.ledger_rows.proofs.Undecided.{decided_there}

pub waiting_open : IsOfOpen is_waiting
waiting_open outcome = refl

pub due_open : IsOfOpen is_due
due_open outcome = refl

pub live_open : IsOfOpen is_live
live_open outcome = refl

pub exhausted_open : IsOfOpen is_exhausted
exhausted_open outcome = refl

-- the number of the first so many entries that pass a test
abbrev pub passed_upto : (Standing → Bool) → ℕ → List Row → ℕ → ℕ
passed_upto test now rows i = number_of test (standings_in now (take i rows))

passed_more : (test : Standing → Bool) (now : ℕ) (rows : List Row) (i : ℕ) → i < length rows
    → passed_upto test now rows (i + 1) ≡ one_more_if (test (standing_of (row_there rows i).filed now)) (passed_upto test now rows i)
passed_more test now rows i lt =
    ap (number_of test) (standings_more now rows i (row_there rows i) lt (get_or_default rows i no_row (row_there rows i) lt))
    ∙ number_push test (standings_in now (take i rows)) (standing_of (row_there rows i).filed now)

passed_skip_by : (test : Standing → Bool) → IsOfOpen test → (now : ℕ) (rows : List Row) (from n to : ℕ) → IsLane rows → from + n ≤ to → to ≤ length rows → AllAbove (numbers_of rows) from to IN_AIR
    → passed_upto test now rows (from + n) ≡ passed_upto test now rows from
passed_skip_by test of now rows from zero to lane fits within above = ap (passed_upto test now rows) (let is : from + 0 ≡ from = omega arith in is)
passed_skip_by test of now rows from (suc n) to lane fits within above =
    let next : from + suc n ≡ from + n + 1 = omega arith in
    let inside : from + n < length rows = omega (arith, fits, within) in
    let fails = decided_fails test of (row_there rows (from + n)).filed now (decided_there rows from to (from + n) lane above (omega arith) (omega (arith, fits)) inside) in
    ap (passed_upto test now rows) next ∙ passed_more test now rows (from + n) inside
    ∙ ap (λ (b : Bool). one_more_if b (passed_upto test now rows (from + n))) fails
    ∙ passed_skip_by test of now rows from n to lane (omega (arith, fits)) within above

-- up to the next entry that is not decided, none passes
pub passed_skip : (test : Standing → Bool) → IsOfOpen test → (now : ℕ) (rows : List Row) (from to : ℕ) → IsLane rows → from ≤ to → to ≤ length rows → AllAbove (numbers_of rows) from to IN_AIR
    → passed_upto test now rows to ≡ passed_upto test now rows from
passed_skip test of now rows from to lane le within above =
    let is : from + (to - from) ≡ to = omega (arith, le) in
    ap (passed_upto test now rows) (sym is) ∙ passed_skip_by test of now rows from (to - from) to lane (omega (arith, is)) within above

passed_one : (test : Standing → Bool) → IsOfOpen test → (now : ℕ) (rows : List Row) (from place : ℕ) → IsLane rows → IsFirstAtMost (numbers_of rows) from IN_AIR place → place < length rows
    → passed_upto test now rows (place + 1) ≡ one_more_if (test (standing_of (row_there rows place).filed now)) (passed_upto test now rows from)
passed_one test of now rows from place lane first within =
    passed_more test now rows place within
    ∙ ap (one_more_if (test (standing_of (row_there rows place).filed now))) (passed_skip test of now rows from place lane first.behind (omega (arith, within)) first.before)

-- the counts of the first so many entries
abbrev pub counts_upto : ℕ → List Row → ℕ → OpenCounts
counts_upto now rows i = open_counts (standings_in now (take i rows))

pub counts_one : (now : ℕ) (rows : List Row) (from place : ℕ) (counts next : OpenCounts) (s : Standing) → IsLane rows → IsFirstAtMost (numbers_of rows) from IN_AIR place → place < length rows
    → counts ≡ counts_upto now rows from → s ≡ standing_of (row_there rows place).filed now → next ≡ with_standing s counts → next ≡ counts_upto now rows (place + 1)
counts_one now rows from place counts next s lane first within was stands is =
    let here = standing_of (row_there rows place).filed now in
    let one : counts_upto now rows (place + 1) ≡ with_standing here (counts_upto now rows from) =
    λ i. record {
      waiting = passed_one is_waiting waiting_open now rows from place lane first within i;
      due = passed_one is_due due_open now rows from place lane first within i;
      live = passed_one is_live live_open now rows from place lane first within i;
      exhausted = passed_one is_exhausted exhausted_open now rows from place lane first within i;
    } in
    is ∙ ap₂ with_standing stands was ∙ sym one

pub counts_end : (now : ℕ) (rows : List Row) (from : ℕ) (counts : OpenCounts) → IsLane rows → from ≤ length rows → AllAbove (numbers_of rows) from (length rows) IN_AIR
    → counts ≡ counts_upto now rows from → counts ≡ open_counts (standings_looked now rows)
counts_end now rows from counts lane within above was =
    let skipped : counts_upto now rows (length rows) ≡ counts_upto now rows from =
    λ i. record {
      waiting = passed_skip is_waiting waiting_open now rows from (length rows) lane within (omega arith) above i;
      due = passed_skip is_due due_open now rows from (length rows) lane within (omega arith) above i;
      live = passed_skip is_live live_open now rows from (length rows) lane within (omega arith) above i;
      exhausted = passed_skip is_exhausted exhausted_open now rows from (length rows) lane within (omega arith) above i;
    } in
    was ∙ sym skipped ∙ ap (λ (l : List Row). open_counts (standings_in now l)) (all_taken rows (length rows) (omega arith))
    ∙ ap open_counts (sym (standings_are now rows lane.rising))

-- so many standings have at most so many in each count
pub counts_few : (all : List Standing) (most : ℕ) (counts : OpenCounts) → length all ≤ most → counts ≡ open_counts all → AreUpTo most counts
counts_few all most counts le is =
    subst (AreUpTo most) (sym is)
    (record {
      waiting = let n = number_few is_waiting all in omega (arith, n, le);
      due = let n = number_few is_due all in omega (arith, n, le);
      live = let n = number_few is_live all in omega (arith, n, le);
      exhausted = let n = number_few is_exhausted all in omega (arith, n, le);
    })

taken_few : (rows : List Row) (i : ℕ) → length (take i rows) ≤ length rows
taken_few [] zero = omega arith
taken_few [] (suc i) = omega arith
taken_few (row ∷ rows) zero = omega arith
taken_few (row ∷ rows) (suc i) = let rest = taken_few rows i in omega (arith, rest)

pub upto_few : (now : ℕ) (rows : List Row) (i most : ℕ) (counts : OpenCounts) → length rows ≤ most → counts ≡ counts_upto now rows i → AreUpTo most counts
upto_few now rows i most counts le is =
    let long : length (standings_in now (take i rows)) ≡ length (take i rows) = length-map {A = Row} (take i rows) (λ row. standing_of row.filed now) in
    let few = taken_few rows i in
    counts_few (standings_in now (take i rows)) most counts (omega (arith, long, few, le)) is

-- where the least number of a lane is above that of an entry in the air, none of its entries passes
none_pass : (test : Standing → Bool) (f : ℕ → Option Filed) (now : ℕ) (pairs : List Pair) → ((k : ℕ) → some_pass (λ f. test (standing_of f now)) (f k) ≡ false)
    → number_of test (looked f now pairs) ≡ 0
none_pass test f now pairs fails = looked_same test f (λ k. None) now now pairs (λ k. here (f k) (fails k)) ∙ nothing pairs
  where
    here : (filed : Option Filed) → some_pass (λ f. test (standing_of f now)) filed ≡ false → number_here test now filed ≡ number_here test now None
    here None e = refl
    here (Some f) e = ap (λ (b : Bool). one_more_if b 0) e

    nothing : (pairs : List Pair) → number_of test (looked (λ k. None) now pairs) ≡ 0
    nothing [] = refl
    nothing (pair ∷ pairs) = nothing pairs

lane_closed : (test : Standing → Bool) → IsOfOpen test → (now : ℕ) (rows : List Row) → All IsSmallRow rows → IN_AIR < lane_number rows → number_of test (standings_looked now rows) ≡ 0
lane_closed test of now rows small lt =
    none_pass test (filed_at rows) now (pairs_of rows) (λ k. each_looked (λ f. test (standing_of f now)) rows k (λ j d within same.
    let long : length (numbers_of rows) ≡ length rows = length-map {A = Row} rows (λ row. wants row.filed) in
    let low = least_low (numbers_of rows) j (omega (arith, within, long)) in
    let at = number_at rows j d within in
    decided_fails test of (get_or rows j d).filed now (decided_above (get_or rows j d) (small j d within) (omega (arith, low, lt, at)))))

closed_lane : (test : Standing → Bool) → IsOfOpen test → (lanes : List LaneRows) (trees : List Numbers) (now inc : ℕ) → AreShelved lanes trees
    → (HasPlace trees inc → IN_AIR < number_there trees inc) → number_of test (lane_standings lanes now inc) ≡ 0
closed_lane test of lanes trees now inc s above = elim (cases_lt inc (length lanes)) [
  | inl inside ↦
      let has = s.there inc inside in
      let e = s.each inc has in
      let a = above has in
      lane_closed test of now (lane_of lanes inc).rows (s.small inc) (omega (arith, e, a))
  | inr past ↦ ap (number_of test) (no_standings lanes now inc past)
]

-- the number of a lane of the shard, if it is before a place, and 0 of others
abbrev pub chosen : ℕ → ℕ → ℕ → ℕ → ℕ
chosen shard from inc n = cond (shard_of inc == shard) (cond (nat_lt (inc / SHARDS) from) n 0) 0

chosen_in : (shard from inc n : ℕ) → shard_of inc ≡ shard → inc / SHARDS < from → chosen shard from inc n ≡ n
chosen_in shard from inc n e lt =
    ap (λ (b : Bool). cond b (cond (nat_lt (inc / SHARDS) from) n 0) 0) (eq-eqb (shard_of inc) shard e) ∙ ap (λ (b : Bool). cond b n 0) (lt-ltb (inc / SHARDS) from lt)

chosen_later : (shard from inc n : ℕ) → from ≤ inc / SHARDS → chosen shard from inc n ≡ 0
chosen_later shard from inc n le = ap (λ (b : Bool). cond (shard_of inc == shard) (cond b n 0) 0) (le-ltb (inc / SHARDS) from le) ∙ same (shard_of inc == shard)
  where
    same : (b : Bool) → ◌≡◌ {A = ℕ} (cond b 0 0) 0
    same true = refl
    same false = refl

chosen_away : (shard from inc n : ℕ) → shard_of inc ≢ shard → chosen shard from inc n ≡ 0
chosen_away shard from inc n away = ap (λ (b : Bool). cond b (cond (nat_lt (inc / SHARDS) from) n 0) 0) (ne_eqb (shard_of inc) shard away)

chosen_most : (shard from inc n : ℕ) → chosen shard from inc n ≤ n
chosen_most shard from inc n = by (shard_of inc == shard) (nat_lt (inc / SHARDS) from)
  where
    by : (b c : Bool) → cond b (cond c n 0) 0 ≤ n
    by true true = omega arith
    by true false = omega arith
    by false c = omega arith

-- how many entries of the lanes of a shard that are before a place pass a test
abbrev pub passed_before : (Standing → Bool) → List LaneRows → ℕ → ℕ → ℕ → ℕ
passed_before test lanes now shard from = sum_upto (λ i. chosen shard from i (number_of test (lane_standings lanes now i))) (length lanes)

passed_none : (test : Standing → Bool) (lanes : List LaneRows) (now shard : ℕ) → passed_before test lanes now shard 0 ≡ 0
passed_none test lanes now shard =
    sum_same (λ i. chosen shard 0 i (number_of test (lane_standings lanes now i))) (λ i. 0) (length lanes) (λ i lt. chosen_later shard 0 i _ (omega arith)) ∙ zeros (length lanes)
  where
    zeros : (n : ℕ) → sum_upto (λ i. 0) n ≡ 0
    zeros zero = refl
    zeros (suc n) = let before = zeros n in omega (arith, before)

passed_small : (test : Standing → Bool) (lanes : List LaneRows) (now shard from : ℕ) → length lanes ≤ 4294967296 → AreFew lanes → passed_before test lanes now shard from ≤ 9223372036854775808
passed_small test lanes now shard from le few =
    let h : ℕ → ℕ = λ i. number_of test (lane_standings lanes now i) in
    let part = sum_grows (λ i. chosen shard from i (h i)) h (length lanes) (λ i. chosen_most shard from i (h i)) in
    let is = number_sum test (lane_standings lanes now) (length lanes) in
    let all = all_few test lanes now le few in
    omega (arith, part, is, all)

above_from : (trees : List Numbers) (shard from to inc : ℕ) → AllAbove (shelf trees shard) from to IN_AIR → shard_of inc ≡ shard → from ≤ inc / SHARDS → inc / SHARDS < to
    → IN_AIR < number_there trees inc
above_from trees shard from to inc above e le lt =
    let same : number_there trees inc ≡ slice_index (shelf trees shard) (inc / SHARDS) = ap (λ (k : ℕ). slice_index (shelf trees k) (inc / SHARDS)) e in
    let a = above (inc / SHARDS) le lt in omega (arith, a, same)

-- the place of the next lane that has an entry that is not decided is of a lane
pub open_place : (lanes : List LaneRows) (trees : List Numbers) (shard from place : ℕ) → AreShelved lanes trees → shard < SHARDS → IsFirstAtMost (shelf trees shard) from IN_AIR place
    → place * SHARDS + shard < length lanes
open_place lanes trees shard from place s lt first =
    let inc : ℕ = place * SHARDS + shard in
    let value : number_there trees inc ≡ lane_number (lane_of lanes inc).rows = s.each inc (at_place trees shard place lt first.in_range) in
    let here : number_there trees inc ≡ slice_index (shelf trees shard) place = number_at_place trees shard place lt in
    let low = first.low in
    elim (cases_lt inc (length lanes)) [
      | inl inside ↦ inside
      | inr past ↦
          let e : lane_number (lane_of lanes inc).rows ≡ ABOVE_ALL = ap {A = LaneRows} (λ r. lane_number r.rows) (get_or_past lanes inc no_lane past) in
          absurd (omega (arith, e, value, here, low))
    ]

-- one lane more
passed_lane : (test : Standing → Bool) → IsOfOpen test → (lanes : List LaneRows) (trees : List Numbers) (now shard from place : ℕ) → AreShelved lanes trees → shard < SHARDS
    → IsFirstAtMost (shelf trees shard) from IN_AIR place
    → passed_before test lanes now shard (place + 1) ≡ passed_before test lanes now shard from + number_of test (lane_standings lanes now (place * SHARDS + shard))
passed_lane test of lanes trees now shard from place s lt first =
    sum_parts (λ i. chosen shard (place + 1) i (h i)) (λ i. chosen shard from i (h i)) only (length lanes) (λ i within. parts i)
    ∙ ap (λ (n : ℕ). passed_before test lanes now shard from + n) (sum_alone only inc (length lanes) (open_place lanes trees shard from place s lt first) (λ i away. only_away i away) ∙ only_here)
  where
    h : ℕ → ℕ
    h i = number_of test (lane_standings lanes now i)

    inc : ℕ
    inc = place * SHARDS + shard

    only : ℕ → ℕ
    only i = cond (i == inc) (h i) 0

    only_here : only inc ≡ h inc
    only_here = ap (λ (b : Bool). cond b (h inc) 0) (eq-eqb inc inc refl)

    only_at : (i : ℕ) → i ≡ inc → only i ≡ h i
    only_at i e = ap (λ (b : Bool). cond b (h i) 0) (eq-eqb i inc e)

    only_away : (i : ℕ) → i ≢ inc → only i ≡ 0
    only_away i away = ap (λ (b : Bool). cond b (h i) 0) (ne_eqb i inc away)

    parts : (i : ℕ) → chosen shard (place + 1) i (h i) ≡ chosen shard from i (h i) + only i
    parts i = elim (cases_eq (shard_of i) shard) [
      | inr away ↦
          let a = chosen_away shard (place + 1) i (h i) away in
          let b = chosen_away shard from i (h i) away in
          let c = only_away i (λ e. away (omega (arith, e, lt))) in
          omega (arith, a, b, c)
      | inl same ↦ elim (cases_lt (i / SHARDS) from) [
        | inl before ↦
            let behind = first.behind in
            let a = chosen_in shard (place + 1) i (h i) same (omega (arith, before, behind)) in
            let b = chosen_in shard from i (h i) same before in
            let c = only_away i (λ e. omega (arith, e, before, behind, lt)) in
            omega (arith, a, b, c)
        | inr behind ↦
            let b = chosen_later shard from i (h i) behind in
            elim (cases_lt (i / SHARDS) place) [
              | inl skipped ↦
                  let a = chosen_in shard (place + 1) i (h i) same (omega (arith, skipped)) in
                  let none = closed_lane test of lanes trees now i s (λ has. above_from trees shard from place i first.before same behind skipped) in
                  let c = only_away i (λ e. omega (arith, e, skipped, lt)) in
                  omega (arith, a, b, c, none)
              | inr reached ↦ elim (cases_eq (i / SHARDS) place) [
                | inl here ↦
                    let a = chosen_in shard (place + 1) i (h i) same (omega (arith, here)) in
                    let c = only_at i (omega (arith, here, same)) in
                    omega (arith, a, b, c)
                | inr past ↦
                    let a = chosen_later shard (place + 1) i (h i) (omega (arith, reached, past)) in
                    let c = only_away i (λ e. omega (arith, e, reached, past, lt)) in
                    omega (arith, a, b, c)
              ]
            ]
      ]
    ]

-- none behind
passed_end : (test : Standing → Bool) → IsOfOpen test → (lanes : List LaneRows) (trees : List Numbers) (now shard from : ℕ) → AreShelved lanes trees
    → AllAbove (shelf trees shard) from (length (shelf trees shard)) IN_AIR → passed_before test lanes now shard from ≡ number_of test (in_shard lanes shard now)
passed_end test of lanes trees now shard from s above =
    sum_same (λ i. chosen shard from i (h i)) (λ i. number_of test (of_shard i)) (length lanes) (λ i within. same i)
    ∙ sym (number_sum test of_shard (length lanes))
  where
    h : ℕ → ℕ
    h i = number_of test (lane_standings lanes now i)

    of_shard : ℕ → List Standing
    of_shard i = if shard_of i == shard then lane_standings lanes now i else []

    same : (i : ℕ) → chosen shard from i (h i) ≡ number_of test (of_shard i)
    same i = elim (cases_eq (shard_of i) shard) [
      | inr away ↦ chosen_away shard from i (h i) away ∙ sym (ap (λ (b : Bool). number_of test (cond b (lane_standings lanes now i) [])) (ne_eqb (shard_of i) shard away))
      | inl here ↦
          let is : number_of test (of_shard i) ≡ h i = ap (λ (b : Bool). number_of test (cond b (lane_standings lanes now i) [])) (eq-eqb (shard_of i) shard here) in
          elim (cases_lt (i / SHARDS) from) [
            | inl before ↦ chosen_in shard from i (h i) here before ∙ sym is
            | inr behind ↦
                let none = closed_lane test of lanes trees now i s (λ has.
                let l : length (shelf trees (shard_of i)) ≡ length (shelf trees shard) = ap (λ (j : ℕ). length (shelf trees j)) here in
                above_from trees shard from (length (shelf trees shard)) i above here behind (omega (arith, has, l))) in
                let a = chosen_later shard from i (h i) behind in
                omega (arith, a, none, is)
          ]
    ]

-- the counts of the lanes of a shard that are before a place
abbrev pub counts_before : List LaneRows → ℕ → ℕ → ℕ → OpenCounts
counts_before lanes now shard from =
    record {
      waiting = passed_before is_waiting lanes now shard from;
      due = passed_before is_due lanes now shard from;
      live = passed_before is_live lanes now shard from;
      exhausted = passed_before is_exhausted lanes now shard from;
    }

pub shard_begins : (lanes : List LaneRows) (now shard : ℕ) (counts : OpenCounts) → counts ≡ open_counts [] → counts ≡ counts_before lanes now shard 0
shard_begins lanes now shard counts is =
    is ∙ (λ i. record {
      waiting = sym (passed_none is_waiting lanes now shard) i;
      due = sym (passed_none is_due lanes now shard) i;
      live = sym (passed_none is_live lanes now shard) i;
      exhausted = sym (passed_none is_exhausted lanes now shard) i;
    })

pub shard_lane : (lanes : List LaneRows) (trees : List Numbers) (now shard from place : ℕ) (counts more : OpenCounts) → AreShelved lanes trees → shard < SHARDS
    → IsFirstAtMost (shelf trees shard) from IN_AIR place → counts ≡ counts_before lanes now shard from → more ≡ open_counts (lane_standings lanes now (place * SHARDS + shard))
    → together counts more ≡ counts_before lanes now shard (place + 1)
shard_lane lanes trees now shard from place counts more s lt first was is =
    ap₂ together was is ∙ (λ i. record {
      waiting = sym (passed_lane is_waiting waiting_open lanes trees now shard from place s lt first) i;
      due = sym (passed_lane is_due due_open lanes trees now shard from place s lt first) i;
      live = sym (passed_lane is_live live_open lanes trees now shard from place s lt first) i;
      exhausted = sym (passed_lane is_exhausted exhausted_open lanes trees now shard from place s lt first) i;
    })

pub shard_few : (lanes : List LaneRows) (now shard from : ℕ) (counts : OpenCounts) → length lanes ≤ 4294967296 → AreFew lanes → counts ≡ counts_before lanes now shard from
    → AreUpTo 9223372036854775808 counts
shard_few lanes now shard from counts le few is =
    subst (AreUpTo 9223372036854775808) (sym is)
    (record {
      waiting = passed_small is_waiting lanes now shard from le few;
      due = passed_small is_due lanes now shard from le few;
      live = passed_small is_live lanes now shard from le few;
      exhausted = passed_small is_exhausted lanes now shard from le few;
    })

pub shard_ends : (lanes : List LaneRows) (trees : List Numbers) (now shard from : ℕ) (counts : OpenCounts) → AreShelved lanes trees
    → AllAbove (shelf trees shard) from (length (shelf trees shard)) IN_AIR → counts ≡ counts_before lanes now shard from → counts ≡ open_counts (in_shard lanes shard now)
shard_ends lanes trees now shard from counts s above was =
    was ∙ (λ i. record {
      waiting = passed_end is_waiting waiting_open lanes trees now shard from s above i;
      due = passed_end is_due due_open lanes trees now shard from s above i;
      live = passed_end is_live live_open lanes trees now shard from s above i;
      exhausted = passed_end is_exhausted exhausted_open lanes trees now shard from s above i;
    })

-- how many entries of the shards below one pass a test
abbrev pub passed_below : (Standing → Bool) → List LaneRows → ℕ → ℕ → ℕ
passed_below test lanes now shard = sum_upto (λ i. cond (nat_lt (shard_of i) shard) (number_of test (lane_standings lanes now i)) 0) (length lanes)

below_none : (test : Standing → Bool) (lanes : List LaneRows) (now : ℕ) → passed_below test lanes now 0 ≡ 0
below_none test lanes now =
    sum_same (λ i. cond (nat_lt (shard_of i) 0) (number_of test (lane_standings lanes now i)) 0) (λ i. 0) (length lanes)
    (λ i lt. ap (λ (b : Bool). cond b (number_of test (lane_standings lanes now i)) 0) (le-ltb (shard_of i) 0 (omega arith))) ∙ zeros (length lanes)
  where
    zeros : (n : ℕ) → sum_upto (λ i. 0) n ≡ 0
    zeros zero = refl
    zeros (suc n) = let before = zeros n in omega (arith, before)

below_more : (test : Standing → Bool) (lanes : List LaneRows) (now shard : ℕ)
    → passed_below test lanes now (shard + 1) ≡ passed_below test lanes now shard + number_of test (in_shard lanes shard now)
below_more test lanes now shard =
    sum_parts (λ i. below (shard + 1) i) (λ i. below shard i) (λ i. number_of test (of_shard i)) (length lanes) (λ i within. parts i)
    ∙ ap (λ (n : ℕ). passed_below test lanes now shard + n) (sym (number_sum test of_shard (length lanes)))
  where
    h : ℕ → ℕ
    h i = number_of test (lane_standings lanes now i)

    below : ℕ → ℕ → ℕ
    below s i = cond (nat_lt (shard_of i) s) (h i) 0

    of_shard : ℕ → List Standing
    of_shard i = if shard_of i == shard then lane_standings lanes now i else []

    below_in : (s i : ℕ) → shard_of i < s → below s i ≡ h i
    below_in s i lt = ap (λ (b : Bool). cond b (h i) 0) (lt-ltb (shard_of i) s lt)

    below_out : (s i : ℕ) → s ≤ shard_of i → below s i ≡ 0
    below_out s i le = ap (λ (b : Bool). cond b (h i) 0) (le-ltb (shard_of i) s le)

    parts : (i : ℕ) → below (shard + 1) i ≡ below shard i + number_of test (of_shard i)
    parts i = elim (cases_eq (shard_of i) shard) [
      | inl here ↦
          let a = below_in (shard + 1) i (omega (arith, here)) in
          let b = below_out shard i (omega (arith, here)) in
          let c : number_of test (of_shard i) ≡ h i = ap (λ (b : Bool). number_of test (cond b (lane_standings lanes now i) [])) (eq-eqb (shard_of i) shard here) in
          omega (arith, a, b, c)
      | inr away ↦
          let c : number_of test (of_shard i) ≡ 0 = ap (λ (b : Bool). number_of test (cond b (lane_standings lanes now i) [])) (ne_eqb (shard_of i) shard away) in
          elim (cases_lt (shard_of i) shard) [
            | inl lower ↦
                let a = below_in (shard + 1) i (omega (arith, lower)) in
                let b = below_in shard i lower in omega (arith, a, b, c)
            | inr higher ↦
                let a = below_out (shard + 1) i (omega (arith, higher, away)) in
                let b = below_out shard i higher in omega (arith, a, b, c)
          ]
    ]

below_all : (test : Standing → Bool) (lanes : List LaneRows) (now shard : ℕ) → SHARDS ≤ shard → passed_below test lanes now shard ≡ number_of test (all_in lanes now)
below_all test lanes now shard le =
    sum_same (λ i. cond (nat_lt (shard_of i) shard) (number_of test (lane_standings lanes now i)) 0) (λ i. number_of test (lane_standings lanes now i)) (length lanes)
    (λ i lt. ap (λ (b : Bool). cond b (number_of test (lane_standings lanes now i)) 0) (lt-ltb (shard_of i) shard (omega (arith, le))))
    ∙ sym (number_sum test (lane_standings lanes now) (length lanes))

below_small : (test : Standing → Bool) (lanes : List LaneRows) (now shard : ℕ) → length lanes ≤ 4294967296 → AreFew lanes → passed_below test lanes now shard ≤ 9223372036854775808
below_small test lanes now shard le few =
    let h : ℕ → ℕ = λ i. number_of test (lane_standings lanes now i) in
    let part = sum_grows (λ i. cond (nat_lt (shard_of i) shard) (h i) 0) h (length lanes) (λ i. most (nat_lt (shard_of i) shard) (h i)) in
    let is = number_sum test (lane_standings lanes now) (length lanes) in
    let all = all_few test lanes now le few in
    omega (arith, part, is, all)
  where
    most : (b : Bool) (n : ℕ) → cond b n 0 ≤ n
    most true n = omega arith
    most false n = omega arith

-- the counts of the shards below one
abbrev pub counts_below : List LaneRows → ℕ → ℕ → OpenCounts
counts_below lanes now shard =
    record {
      waiting = passed_below is_waiting lanes now shard;
      due = passed_below is_due lanes now shard;
      live = passed_below is_live lanes now shard;
      exhausted = passed_below is_exhausted lanes now shard;
    }

pub shards_begin : (lanes : List LaneRows) (now : ℕ) (counts : OpenCounts) → counts ≡ open_counts [] → counts ≡ counts_below lanes now 0
shards_begin lanes now counts is =
    is ∙ (λ i. record {
      waiting = sym (below_none is_waiting lanes now) i;
      due = sym (below_none is_due lanes now) i;
      live = sym (below_none is_live lanes now) i;
      exhausted = sym (below_none is_exhausted lanes now) i;
    })

pub shards_more : (lanes : List LaneRows) (now shard : ℕ) (counts more : OpenCounts) → counts ≡ counts_below lanes now shard → more ≡ open_counts (in_shard lanes shard now)
    → together counts more ≡ counts_below lanes now (shard + 1)
shards_more lanes now shard counts more was is =
    ap₂ together was is ∙ (λ i. record {
      waiting = sym (below_more is_waiting lanes now shard) i;
      due = sym (below_more is_due lanes now shard) i;
      live = sym (below_more is_live lanes now shard) i;
      exhausted = sym (below_more is_exhausted lanes now shard) i;
    })

pub shards_few : (lanes : List LaneRows) (now shard : ℕ) (counts : OpenCounts) → length lanes ≤ 4294967296 → AreFew lanes → counts ≡ counts_below lanes now shard
    → AreUpTo 9223372036854775808 counts
shards_few lanes now shard counts le few is =
    subst (AreUpTo 9223372036854775808) (sym is)
    (record {
      waiting = below_small is_waiting lanes now shard le few;
      due = below_small is_due lanes now shard le few;
      live = below_small is_live lanes now shard le few;
      exhausted = below_small is_exhausted lanes now shard le few;
    })

pub shards_end : (lanes : List LaneRows) (now shard : ℕ) (counts : OpenCounts) → SHARDS ≤ shard → counts ≡ counts_below lanes now shard → counts ≡ open_counts (all_in lanes now)
shards_end lanes now shard counts le was =
    was ∙ (λ i. record {
      waiting = below_all is_waiting lanes now shard le i;
      due = below_all is_due lanes now shard le i;
      live = below_all is_live lanes now shard le i;
      exhausted = below_all is_exhausted lanes now shard le i;
    })
