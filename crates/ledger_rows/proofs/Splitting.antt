-- Each standing is counted just once, as decided or as one of the others.
use Rattle.std.proofs.Common.{◌≡◌, ℕ, suc, ◌≤◌, true, List, [], ◌∷◌, length, refl, sym, ap, ap₂, ◌∙◌, arith, add-one}
use Rattle.sched_plain.specs.declared.outcome.Outcome.TheVariants as outcomes
use Rattle.sched_plain.specs.declared.standing.Standing.{Standing}
use Rattle.sched_plain.specs.declared.standing.Standing.TheVariants as standings
use Rattle.sched_plain.specs.Report.{number_of}
use Rattle.entry_lines.specs.Rows.{LaneRows}
use Rattle.ledger_rows.specs.declared.counts.EntryCounts.{EntryCounts}
use Rattle.ledger_rows.specs.declared.open_entries.OpenCounts.{OpenCounts}
use Rattle.ledger_rows.specs.declared.tally.Tally.{Tally}
use Rattle.ledger_rows.specs.Counting.{counted}
use Rattle.ledger_rows.specs.Tallying.{AreTallied, all_in, counts_by, open_counts, sum_of, tally_of}
use Rattle.ledger_rows.proofs.Tallied.{all_few, tally_moment}

pub split : (all : List Standing) → length all ≡ sum_of (tally_of all) (open_counts all)
split [] = omega arith
split (standings.Decided outcomes.Done ∷ all) = let rest = split all in omega (arith, rest)
split (standings.Decided outcomes.Final ∷ all) = let rest = split all in omega (arith, rest)
split (standings.Decided outcomes.Attempts ∷ all) = let rest = split all in omega (arith, rest)
split (standings.Decided outcomes.Age ∷ all) = let rest = split all in omega (arith, rest)
split (standings.Decided outcomes.Cancelled ∷ all) = let rest = split all in omega (arith, rest)
split (standings.Live ∷ all) = let rest = split all in omega (arith, rest)
split (standings.Exhausted reason ∷ all) = let rest = split all in omega (arith, rest)
split (standings.Waiting until ∷ all) = let rest = split all in omega (arith, rest)
split (standings.Due ∷ all) = let rest = split all in omega (arith, rest)

number_any : (all : List Standing) → number_of (λ s. true) all ≡ length all
number_any [] = refl
number_any (s ∷ all) = add-one (number_of (λ s. true) all) ∙ ap suc (number_any all)

pub sum_small : (lanes : List LaneRows) (tally : Tally) (others : OpenCounts) (now : ℕ) → length lanes ≤ 4294967296 → AreTallied lanes tally → others ≡ open_counts (all_in lanes now)
    → sum_of tally others ≤ 9223372036854775808
sum_small lanes tally others now le told is =
    let sum : sum_of tally others ≡ length (all_in lanes now) = ap₂ sum_of (told.value ∙ tally_moment lanes 0 now) is ∙ sym (split (all_in lanes now)) in
    let any = number_any (all_in lanes now) in
    let few = all_few (λ s. true) lanes now le told.few in
    omega (arith, sum, any, few)

pub counts_are : (lanes : List LaneRows) (tally : Tally) (others : OpenCounts) (now : ℕ) (result : EntryCounts) → AreTallied lanes tally → others ≡ open_counts (all_in lanes now)
    → result ≡ counts_by tally others → result ≡ counted (all_in lanes now)
counts_are lanes tally others now result told is by =
    let all = all_in lanes now in
    let whole : counts_by (tally_of all) (open_counts all) ≡ counted all =
    λ i. record {
      entries = sym (split all) i;
      done = (tally_of all).done;
      finals = (tally_of all).finals;
      attempts = (tally_of all).attempts;
      age = (tally_of all).age;
      cancelled = (tally_of all).cancelled;
      waiting = (open_counts all).waiting;
      due = (open_counts all).due;
      live = (open_counts all).live;
      exhausted = (open_counts all).exhausted;
    } in
    by ∙ ap₂ counts_by (told.value ∙ tally_moment lanes 0 now) is ∙ whole
