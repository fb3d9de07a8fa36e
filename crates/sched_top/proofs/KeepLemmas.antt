-- What holds of every legal history, and so of what a run leaves.
use Rattle.std.proofs.Common.{◌≡◌, ℕ, ◌+◌, refl, ap, Option, List, arith}
use Rattle.std.specs.Prelude.{length}
use Rattle.sched_plain.specs.declared.step.Step.TheVariants as steps
use Rattle.sched_plain.specs.History.{History, beginning, based, ◌upon◌, Extends}
use Rattle.sched_plain.specs.Validity.{AllValid}
use Rattle.sched_plain.specs.Legal.{IsLegal}
use Rattle.sched_plain.specs.Marks.{above_floor}
use Rattle.sched_plain.specs.Base.{none_folded, sum_of_folded}
use Rattle.sched_plain.specs.Report.{folded, counts}
use Rattle.book_parts.specs.Stands.{calendar}
use Rattle.book_laws.specs.EntryLaws.{EntriesAreOccurrences, EntriesRise}
use Rattle.book_laws.specs.AttemptLaws.{NumbersCount, EntriesCount, AttemptsAreAllowed}
use Rattle.book_laws.specs.PrefixLaws.{PrefixesAreLegal}
use Rattle.book_laws.specs.SweepLaws.{SweptLeavesNothing}
use Rattle.book_laws.specs.CountLaws.{CountsAddUp, EntriesAreCounted, all_pairs}
use Rattle.book_laws.specs.LetterLaws.{LettersAreOwed}
use Rattle.book_laws.specs.TokenLaws.{TokensStandOnce}
use Rattle.target_link.specs.declared.link.Sent.{Sent}
use Rattle.sched_top.specs.Keeping.{HoldsOfEach, IsHanded, Keeps}

-- a legal history has no base: nothing of it was folded away
no_floor : (h : History) (inc : ℕ) → IsLegal calendar h → above_floor h inc ≡ 0
no_floor beginning inc legal = refl
no_floor (based b kept) inc legal = absurd legal
no_floor (s upon h) inc legal = no_floor h inc legal.0

nothing_folded : (h : History) → IsLegal calendar h → folded h ≡ none_folded
nothing_folded beginning legal = refl
nothing_folded (based b kept) legal = absurd legal
nothing_folded (s upon h) legal = nothing_folded h legal.0

-- so all entries are pairs that are there
all_there : (h : History) (t : ℕ) → IsLegal calendar h → (counts h t).entries ≡ length (all_pairs h) + sum_of_folded (folded h) → (counts h t).entries ≡ length (all_pairs h)
all_there h t legal counted =
    let none : sum_of_folded (folded h) ≡ 0 = ap sum_of_folded (nothing_folded h legal) in
    omega (arith, counted, none)

pub holds_of_each : EntriesAreOccurrences → EntriesRise → NumbersCount → EntriesCount → AttemptsAreAllowed → PrefixesAreLegal → SweptLeavesNothing
    → CountsAddUp → EntriesAreCounted → LettersAreOwed → TokensStandOnce → HoldsOfEach
holds_of_each exact once numbers counted allowed prefixes swept sums entries letters tokens h legal = record {
  kept = λ inc. record {
    exact = exact calendar h legal inc (no_floor h inc legal);
    once = once calendar h legal inc;
    numbered = λ instant. numbers calendar h legal inc instant;
    counted = λ instant. counted calendar h legal inc instant;
    limited = λ instant. allowed calendar h legal inc instant;
  };
  settled = λ earlier at shard inc grown same. swept calendar earlier at shard (prefixes calendar (steps.Swept at shard upon earlier) h grown legal) inc same;
  adds_up = λ t. record { entered = all_there h t legal (entries h t); sum = sums h t };
  owed = λ queue inc instant. letters calendar h legal queue inc instant;
  tokens = λ token one other. tokens calendar h legal token one other;
}

pub keeps_of : (start h : History) (told told' : Option (List Sent)) → HoldsOfEach → IsLegal calendar h → AllValid h → Extends start h → IsHanded h told told' → Keeps start h told told'
keeps_of start h told told' holds legal valid grows handed = record { grows = grows; legal = legal; valid = valid; holds = holds h legal; handed = handed }
