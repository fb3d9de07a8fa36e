-- What the numbers of a report rest on in a legal history: it has no base, its entries are of incarnations that are there,
-- and each letter was posted by a step.
use Rattle.std.proofs.Common.{◌≡◌, ℕ, ◌+◌, ◌≤◌, ◌<◌, ◌-◌, ◌^◌, ◌&&◌, nat_le, Bool, true, false, if◌then◌else◌, Option, Some, None, List, [], ◌∷◌, length, refl, sym, ap, ◌∙◌, arith, min, add-zero, length-append, subst}
use Rattle.std.proofs.lemmas.Bool.{lt-leb}
use Rattle.sched_plain.specs.declared.step.Pair.{Pair}
use Rattle.sched_plain.specs.declared.step.Step.TheVariants as steps
use Rattle.sched_plain.specs.declared.outcome.Outcome.{Outcome}
use Rattle.plain_words.specs.declared.verdict.Verdict.{Verdict}
use Rattle.plain_words.specs.declared.verdict.Verdict.TheVariants as verdicts
use Rattle.expressions.specs.Calendar.{Calendar}
use Rattle.sched_plain.specs.Base.{Folded, none_folded, sum_of_folded}
use Rattle.sched_plain.specs.declared.counts.Counts.{Counts}
use Rattle.sched_plain.specs.History.{History, beginning, based, ◌upon◌, count}
use Rattle.sched_plain.specs.Changes.{changes_of}
use Rattle.sched_plain.specs.Rows.{rows_of, content_at}
use Rattle.sched_plain.specs.Ledger.{ledger_of}
use Rattle.sched_plain.specs.Entries.{entries, instants_of, filed, is_open, outcome_of}
use Rattle.sched_plain.specs.Marks.{above_floor, is_created, cover, one_before}
use Rattle.sched_plain.specs.Queues.{queue_of, letter_in, final_letter, posted}
use Rattle.sched_plain.specs.Report.{folded, counts, all_standings, number_of, is_done, is_final, is_closed_by_attempts, is_closed_by_age, is_cancelled, is_waiting, is_due, is_live, is_exhausted}
use Rattle.sched_plain.specs.Groups.{groups_of, living_count}
use Rattle.sched_plain.specs.Legal.{IsLegal}
use Rattle.book_laws.specs.EntryLaws.{EntriesAreOccurrences, occ_upto}
use Rattle.ledger_rows.specs.declared.counts.EntryCounts.{EntryCounts}
use Rattle.ledger_rows.specs.Counting.{IsWithin, entry_counts}
use Rattle.book_parts.specs.Told.{Told}
use Rattle.book_parts.specs.Stands.{Stands, calendar}

-- ---- no base

floorless : (c : Calendar) (h : History) → IsLegal c h → (inc : ℕ) → above_floor h inc ≡ 0
floorless c beginning legal inc = refl
floorless c (based b kept) legal inc = absurd legal
floorless c (s upon h) legal inc = floorless c h legal.0 inc

pub nothing_folded : (c : Calendar) (h : History) → IsLegal c h → folded h ≡ none_folded
nothing_folded c beginning legal = refl
nothing_folded c (based b kept) legal = absurd legal
nothing_folded c (s upon h) legal = nothing_folded c h legal.0

-- ---- entries of incarnations that are there

no_pairs : (pairs : List Pair) → instants_of pairs ≡ [] → pairs ≡ []
no_pairs [] none = refl
no_pairs (pair ∷ pairs) none = absurd cc

unmarked : (created : Bool) (covered : ℕ) → created ≡ false → (if created then one_before covered else None) ≡ None
unmarked created covered not_there = ap (λ (b : Bool). if b then one_before covered else None) not_there

-- an incarnation that was not created has no entry
none_entered : EntriesAreOccurrences → (c : Calendar) (h : History) → IsLegal c h → (inc : ℕ) → is_created h inc ≡ false → entries (ledger_of h) inc ≡ []
none_entered exact c h legal inc not_there =
    no_pairs (entries (ledger_of h) inc)
    (exact c h legal inc (floorless c h legal inc)
    ∙ ap (λ (m : Option ℕ). occ_upto c h inc m) (unmarked (is_created h inc) (cover h inc) not_there))

and_false : (b : Bool) → (b && false) ≡ false
and_false true = refl
and_false false = refl

past_last : (inc created : ℕ) → created < inc → (nat_le 1 inc && nat_le inc created) ≡ false
past_last inc created behind = ap (λ (b : Bool). nat_le 1 inc && b) (lt-leb inc created behind) ∙ and_false (nat_le 1 inc)

pub entries_within : EntriesAreOccurrences → (c : Calendar) (h : History) → IsLegal c h → IsWithin (ledger_of h) (length (rows_of (changes_of h)))
entries_within exact c h legal =
    record {
      none_before = none_entered exact c h legal 0 refl;
      none_behind = λ inc behind. none_entered exact c h legal inc (past_last inc (length (rows_of (changes_of h))) behind);
    }

-- ---- no more letters than steps

one_posted : (queue : Option (List ℕ)) (inc instant : ℕ) (reason : Outcome) → length (letter_in queue inc instant reason) ≤ 1
one_posted None inc instant reason = omega arith
one_posted (Some queue) inc instant reason = omega arith

one_final : (is_open : Bool) (verdict : Verdict) (queue : Option (List ℕ)) (inc instant : ℕ)
    → length (if is_open then final_letter verdict queue inc instant else []) ≤ 1
one_final false verdict queue inc instant = omega arith
one_final true verdicts.Done queue inc instant = omega arith
one_final true verdicts.Retry queue inc instant = omega arith
one_final true verdicts.Final queue inc instant = one_posted queue inc instant _

pub few_letters : (c : Calendar) (h : History) → IsLegal c h → length (posted h) ≤ count h
few_letters c beginning legal = omega arith
few_letters c (based b kept) legal = absurd legal
few_letters c (steps.Boot at upon h) legal = let before = few_letters c h legal.0 in omega (arith, before)
few_letters c (steps.Zone at name bytes upon h) legal = let before = few_letters c h legal.0 in omega (arith, before)
few_letters c (steps.Change at write upon h) legal = let before = few_letters c h legal.0 in omega (arith, before)
few_letters c (steps.Enter at inc pairs upon h) legal = let before = few_letters c h legal.0 in omega (arith, before)
few_letters c (steps.Lease at shard worker epoch until upon h) legal = let before = few_letters c h legal.0 in omega (arith, before)
few_letters c (steps.Release at shard worker epoch upon h) legal = let before = few_letters c h legal.0 in omega (arith, before)
few_letters c (steps.Begin at inc instant number epoch upon h) legal = let before = few_letters c h legal.0 in omega (arith, before)
few_letters c (steps.Complete at inc upon h) legal = let before = few_letters c h legal.0 in omega (arith, before)
few_letters c (steps.Swept at shard upon h) legal = let before = few_letters c h legal.0 in omega (arith, before)
few_letters c (steps.End at inc instant number verdict status upon h) legal =
    let before = few_letters c h legal.0 in
    let letter = one_final (is_open (filed (ledger_of h) inc instant)) verdict (queue_of (content_at (rows_of (changes_of h)) inc instant)) inc instant in
    let all = length-append (posted h) (if is_open (filed (ledger_of h) inc instant) then final_letter verdict (queue_of (content_at (rows_of (changes_of h)) inc instant)) inc instant else []) in
    omega (arith, before, letter, all)
few_letters c (steps.Close at inc instant reason upon h) legal =
    let before = few_letters c h legal.0 in
    let letter = one_posted (queue_of (content_at (rows_of (changes_of h)) inc instant)) inc instant (outcome_of reason) in
    let all = length-append (posted h) (letter_in (queue_of (content_at (rows_of (changes_of h)) inc instant)) inc instant (outcome_of reason)) in
    omega (arith, before, letter, all)

-- ---- the report

-- a report by its parts
abbrev pub report_of : ℕ → ℕ → ℕ → ℕ → EntryCounts → ℕ → Counts
report_of t steps schedules groups standing letters =
    record {
      moment = t;
      steps = steps;
      schedules = schedules;
      groups = groups;
      entries = standing.entries;
      done = standing.done;
      finals = standing.finals;
      attempts = standing.attempts;
      age = standing.age;
      cancelled = standing.cancelled;
      waiting = standing.waiting;
      due = standing.due;
      live = standing.live;
      exhausted = standing.exhausted;
      letters = letters;
    }

-- where nothing was folded away the counts are those of what is there
plain_counts : (h : History) (t : ℕ) → folded h ≡ none_folded
    → counts h t
    ≡ report_of t (count h) (living_count (rows_of (changes_of h))) (length (groups_of (changes_of h)))
    (entry_counts (ledger_of h) (length (rows_of (changes_of h))) t) (length (posted h))
plain_counts h t none =
    let all = all_standings (ledger_of h) (length (rows_of (changes_of h))) t in
    ap (λ (f : Folded). record {
      moment = t;
      steps = count h;
      schedules = living_count (rows_of (changes_of h));
      groups = length (groups_of (changes_of h));
      entries = length all + sum_of_folded f;
      done = number_of is_done all + f.done;
      finals = number_of is_final all + f.finals;
      attempts = number_of is_closed_by_attempts all + f.attempts;
      age = number_of is_closed_by_age all + f.age;
      cancelled = number_of is_cancelled all + f.cancelled;
      waiting = number_of is_waiting all;
      due = number_of is_due all;
      live = number_of is_live all;
      exhausted = number_of is_exhausted all;
      letters = length (posted h);
    }) none
    ∙ (λ i. record {
      moment = t;
      steps = count h;
      schedules = living_count (rows_of (changes_of h));
      groups = length (groups_of (changes_of h));
      entries = add-zero (length all) i;
      done = add-zero (number_of is_done all) i;
      finals = add-zero (number_of is_final all) i;
      attempts = add-zero (number_of is_closed_by_attempts all) i;
      age = add-zero (number_of is_closed_by_age all) i;
      cancelled = add-zero (number_of is_cancelled all) i;
      waiting = number_of is_waiting all;
      due = number_of is_due all;
      live = number_of is_live all;
      exhausted = number_of is_exhausted all;
      letters = length (posted h);
    })

all_letters : (letters posted_ steps : ℕ) → letters ≡ min posted_ (2 ^ 64 - 1) → posted_ ≤ steps → steps ≤ 2 ^ 64 - 1 → letters ≡ posted_
all_letters letters posted_ steps is few small = omega (arith, is, few, small)

-- what the parts tell is the report of the history that they stand for
pub counts_told : EntriesAreOccurrences → (b : Told) (h : History) → Stands b h → (t steps schedules groups letters : ℕ) (standing : EntryCounts)
    → steps ≡ count h → steps ≤ 2 ^ 64 - 1 → schedules ≡ living_count b.rows.rows → groups ≡ length b.rows.groups
    → (IsWithin (ledger_of h) (length (rows_of (changes_of h))) → standing ≡ entry_counts (ledger_of h) (length (rows_of (changes_of h))) t)
    → letters ≡ min (length (posted h)) (2 ^ 64 - 1)
    → report_of t steps schedules groups standing letters ≡ counts h t
counts_told exact b h st t steps schedules groups letters standing counted small lives named stands letters_are =
    let many = all_letters letters (length (posted h)) steps letters_are (subst (λ n. length (posted h) ≤ n) (sym counted) (few_letters calendar h st.legal)) small in
    let schedules_are = lives ∙ ap living_count st.rows.rows in
    let groups_are = named ∙ ap length st.rows.groups in
    let entries_are = stands (entries_within exact calendar h st.legal) in
    (λ i. report_of t (counted i) (schedules_are i) (groups_are i) (entries_are i) (many i)) ∙ sym (plain_counts h t (nothing_folded calendar h st.legal))
