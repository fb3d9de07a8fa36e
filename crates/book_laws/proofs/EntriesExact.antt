-- The entries of every legal history are its occurrences up to the marks.
use Rattle.std.proofs.Common.{◌≡◌, ◌+◌, ℕ, zero, suc, ◌<◌, ◌≤◌, nat_le, Bool, true, false, cond, ◌&&◌, Option, Some, None, AllPairs, length, refl, sym, ap, ◌∙◌, subst, arith, add-one, filter}
use Rattle.std.proofs.Math.Bool.{and_comm}
use Rattle.std.proofs.lemmas.Bool.{and_from, le-leb, true≢false}
use Rattle.sched_plain.specs.declared.row.Row.{Row}
use Rattle.sched_plain.specs.declared.step.Step.TheVariants as steps
use Rattle.sched_plain.specs.History.{History, beginning, based, ◌upon◌}
use Rattle.plain_words.specs.Lists.{nth}
use Rattle.sched_plain.specs.Changes.{changes_of}
use Rattle.sched_plain.specs.Rows.{rows_of}
use Rattle.sched_plain.specs.Items.{items}
use Rattle.expressions.specs.Calendar.{Calendar}
use Rattle.sched_plain.specs.Occurrences.{occurs_in, occ_below, occ}
use Rattle.plain_words.specs.Lists.{passing}
use Rattle.sched_plain.specs.Ledger.{ledger_of}
use Rattle.sched_plain.specs.Entries.{entries, instants_of}
use Rattle.sched_plain.specs.Marks.{above_floor, one_before, is_created, cover, mark}
use Rattle.sched_plain.specs.Legal.{IsLegal}
use Rattle.plain_words.proofs.ListLemmas.{filter_every}
use Rattle.book_laws.specs.EntryLaws.{occ_upto, is_among, EntriesOccur, OccurrencesAreEntered, EntriesAreOccurrences, EntriesRise, UnenteredAreTheRest}
use Rattle.book_laws.proofs.Passing.{from_on, passing_same, filter_passing, passing_rises}
use Rattle.book_laws.proofs.Floors.{among_filter, kept_among}
use Rattle.book_laws.proofs.Searches.{nth_within}
use Rattle.book_laws.proofs.Covers.{Caught, no_items, unentered_is}
use Rattle.book_laws.proofs.CaughtSteps.{boot_caught, zone_caught, change_caught, enter_caught, lease_caught, complete_caught, swept_caught, plain_bound}

pub caught : (c : Calendar) (h : History) → IsLegal c h → (inc : ℕ) → Caught c h inc
caught c beginning legal inc =
    record {
      bound = omega arith;
      reaches = record { kept = λ i. true; all = λ i le. refl; exact = refl; under = omega arith };
      unborn = λ none. refl;
      unfloored = λ none. refl;
    }
caught c (based b kept) legal inc = absurd legal
caught c (steps.Boot at upon h) legal inc = boot_caught c h inc at legal.1 (caught c h legal.0 inc)
caught c (steps.Zone at name bytes upon h) legal inc = zone_caught c h inc at name bytes legal.1 (caught c h legal.0 inc)
caught c (steps.Change at write upon h) legal inc = change_caught c h inc at write legal.1 (caught c h legal.0 inc)
caught c (steps.Enter at of pairs upon h) legal inc = enter_caught c h inc at of pairs legal.1 (caught c h legal.0 inc)
caught c (steps.Lease at shard worker epoch until upon h) legal inc = lease_caught c h inc at shard worker epoch until legal.1 (caught c h legal.0 inc)
caught c (steps.Release at shard worker epoch upon h) legal inc =
    let old = caught c h legal.0 inc in
    record { bound = plain_bound c h (steps.Release at shard worker epoch) legal.1 inc old; reaches = old.reaches; unborn = old.unborn; unfloored = old.unfloored }
caught c (steps.Begin at of instant number epoch upon h) legal inc =
    let old = caught c h legal.0 inc in
    record { bound = plain_bound c h (steps.Begin at of instant number epoch) legal.1 inc old; reaches = old.reaches; unborn = old.unborn; unfloored = old.unfloored }
caught c (steps.End at of instant number verdict status upon h) legal inc =
    let old = caught c h legal.0 inc in
    record { bound = plain_bound c h (steps.End at of instant number verdict status) legal.1 inc old; reaches = old.reaches; unborn = old.unborn; unfloored = old.unfloored }
caught c (steps.Close at of instant reason upon h) legal inc =
    let old = caught c h legal.0 inc in
    record { bound = plain_bound c h (steps.Close at of instant reason) legal.1 inc old; reaches = old.reaches; unborn = old.unborn; unfloored = old.unfloored }
caught c (steps.Complete at removed upon h) legal inc = complete_caught c h inc at removed legal.1 (caught c h legal.0 inc)
caught c (steps.Swept at shard upon h) legal inc = swept_caught c h inc at shard legal.1 (caught c h legal.0 inc)

-- up to the mark is below the cover
occ_cover : (c : Calendar) (h : History) (inc m : ℕ) → occ_upto c h inc (one_before m) ≡ passing (occurs_in c (items h inc)) m
unfolding occ_below
occ_cover c h inc zero = refl
occ_cover c h inc (suc n) = ap (passing (occurs_in c (items h inc))) (add-one n)

-- who is not created has no row
no_row : (h : History) (inc : ℕ) → is_created h inc ≡ false → (row : Option Row) → nth (rows_of (changes_of h)) inc ≡ row
    → nth (rows_of (changes_of h)) inc ≡ None
no_row h inc not None there = there
no_row h inc not (Some row) there =
    let within = nth_within (rows_of (changes_of h)) inc row there in
    let is : is_created h inc ≡ true = and_from (nat_le 1 inc) (nat_le inc (length (rows_of (changes_of h)))) (le-leb 1 inc within.low) (le-leb inc _ within.up) in
    absurd (true≢false (sym is ∙ not))

below_mark : (c : Calendar) (h : History) (inc : ℕ) → Caught c h inc → (created : Bool) → is_created h inc ≡ created
    → passing (occurs_in c (items h inc)) (cover h inc) ≡ occ_upto c h inc (cond created (one_before (cover h inc)) None)
below_mark c h inc old true is = sym (occ_cover c h inc (cover h inc))
below_mark c h inc old false not =
    no_items c (items h inc) (cover h inc) (old.unborn (no_row h inc not (nth (rows_of (changes_of h)) inc) refl))

-- the instants of the entries are the occurrences up to the mark that are kept
entered_are : (c : Calendar) (h : History) (legal : IsLegal c h) (inc : ℕ)
    → instants_of (entries (ledger_of h) inc) ≡ filter (caught c h legal inc).reaches.kept (occ_upto c h inc (mark h inc))
entered_are c h legal inc =
    let old = caught c h legal inc in
    old.reaches.exact ∙ ap (filter old.reaches.kept) (below_mark c h inc old (is_created h inc) refl)

pub entries_occur : EntriesOccur
entries_occur c h legal inc i entered =
    among_filter (caught c h legal inc).reaches.kept (occ_upto c h inc (mark h inc)) i
    (sym (ap (is_among i) (entered_are c h legal inc)) ∙ entered)

pub occurrences_entered : OccurrencesAreEntered
occurrences_entered c h legal inc i above occurs =
    let old = caught c h legal inc in
    ap (is_among i) (entered_are c h legal inc)
    ∙ kept_among old.reaches.kept (occ_upto c h inc (mark h inc)) i (old.reaches.all i above) occurs

pub entries_exact : EntriesAreOccurrences
entries_exact c h legal inc unfloored =
    let old = caught c h legal inc in
    entered_are c h legal inc
    ∙ filter_every old.reaches.kept (occ_upto c h inc (mark h inc)) (λ i. old.reaches.all i (let low : above_floor h inc ≤ i = omega (arith, unfloored) in low))

pub entries_rise : EntriesRise
entries_rise c h legal inc =
    let old = caught c h legal inc in
    let p = occurs_in c (items h inc) in
    subst (λ xs. AllPairs (λ earlier later. earlier < later) xs)
    (sym (old.reaches.exact ∙ filter_passing old.reaches.kept p (cover h inc)))
    (passing_rises (λ i. p i && old.reaches.kept i) (cover h inc))

from_cover : (c : Calendar) (h : History) (inc m t : ℕ)
    → passing (from_on m (occurs_in c (items h inc))) (t + 1) ≡ filter (λ i. nat_le m i) (occ c h inc t)
unfolding occ_below
from_cover c h inc m t =
    passing_same _ _ (t + 1) (λ i lt. and_comm (nat_le m i) (occurs_in c (items h inc) i))
    ∙ sym (filter_passing (λ i. nat_le m i) (occurs_in c (items h inc)) (t + 1))

pub unentered_are_the_rest : UnenteredAreTheRest
unentered_are_the_rest c h legal inc t = unentered_is c h inc t (caught c h legal inc) ∙ from_cover c h inc (cover h inc) t
