-- While incarnations are caught up, each Enter leaves less to be entered.
use Rattle.std.proofs.Common.{◌≡◌, ℕ, ◌+◌, ◌<◌, ◌≤◌, Bool, true, false, not, Some, List, ◌++◌, length, take, refl, ap, ◌∙◌, arith, eq-eqb}
use Rattle.std.specs.Prelude.{◌==◌, nat_le, if◌then◌else◌}
use Rattle.std.specs.List.{filter}
use Rattle.std.proofs.lemmas.List.{length-map}
use Rattle.sched_plain.specs.declared.step.Pair.{Pair}
use Rattle.plain_words.specs.declared.limits.TheConstants.{MOST_PAIRS}
use Rattle.expressions.specs.Calendar.{Calendar}
use Rattle.plain_words.specs.Lists.{head}
use Rattle.sched_plain.specs.History.{History, ◌upon◌}
use Rattle.sched_plain.specs.Ledger.{ledger_of}
use Rattle.sched_plain.specs.Entries.{entries, instants_of, is_paired}
use Rattle.sched_plain.specs.Items.{Item, items}
use Rattle.sched_plain.specs.Occurrences.{occurs_in, occ_below}
use Rattle.sched_plain.specs.Marks.{above_floor, without_pair, unentered}
use Rattle.sched_calls.specs.Serves.{wanted, wanted_enter, windows_of, drawn}
use Rattle.sweep_laws.specs.LoadLaws.{CatchUpsLessen, UnenteredAreFew}
use Rattle.sweep_laws.proofs.Sums.{sum_fewer}
use Rattle.sweep_laws.proofs.Entering.{few_passing, without_more, pairs_leave, drawn_instants, some_first}
use Rattle.sweep_laws.proofs.Small.{passing_few}

pub fewer_left : (c : Calendar) (h : History) (inc t instant : ℕ) (words : List ℕ) → head (unentered c h inc t) ≡ Some instant
    → length (unentered c (wanted_enter c h inc t words upon h) inc t) < length (unentered c h inc t)
fewer_left c h inc t instant words open_ =
    let pairs = drawn (windows_of h inc) (wanted c h inc t) words in
    let old = entries (ledger_of h) inc in
    let all = filter (nat_le (above_floor h inc)) (occ_below c (items h inc) (t + 1)) in
    let front : instants_of pairs ≡ take MOST_PAIRS (unentered c h inc t) = drawn_instants (windows_of h inc) (wanted c h inc t) words in
    let left = pairs_leave pairs MOST_PAIRS (without_pair old all) front in
    let here : length (unentered c (wanted_enter c h inc t words upon h) inc t) ≡ length (without_pair pairs (without_pair old all)) =
    ap (λ (b : Bool). length (without_pair (if b then old ++ pairs else old) all)) (eq-eqb inc inc refl)
    ∙ ap (λ (l : List ℕ). length l) (without_more old pairs all) in
    let many = length-map {B = ℕ} pairs (λ (pair : Pair). pair.instant) in
    let as_many = ap (λ (l : List ℕ). length l) front in
    let some = some_first MOST_PAIRS (unentered c h inc t) instant open_ (omega arith) in
    omega (arith, left, here, many, as_many, some)

-- and of another nothing more
pub no_more : (b : Bool) (old new : List Pair) (xs : List ℕ) → length (without_pair (if b then old ++ new else old) xs) ≤ length (without_pair old xs)
no_more true old new xs =
    let same = ap (λ (l : List ℕ). length l) (without_more old new xs) in
    let fewer = few_passing (λ i. not (is_paired new i)) (without_pair old xs) in
    omega (arith, same, fewer)
no_more false old new xs = omega arith

pub catch_ups_lessen : CatchUpsLessen
catch_ups_lessen c h t inc instant incs words open_ =
    let pairs = drawn (windows_of h inc) (wanted c h inc t) words in
    let here = fewer_left c h inc t instant words open_ in
    let others = sum_fewer {A = ℕ} (λ of. length (unentered c h of t)) (λ of. length (unentered c (wanted_enter c h inc t words upon h) of t)) incs
    (λ of. no_more (of == inc) (entries (ledger_of h) of) pairs (filter (nat_le (above_floor h of)) (occ_below c (items h of) (t + 1)))) in
    omega (arith, here, others)

few_below : (c : Calendar) (all : List Item) (n : ℕ) → length (occ_below c all n) ≤ n
unfolding occ_below
few_below c all n = passing_few (occurs_in c all) n

pub unentered_few : UnenteredAreFew
unentered_few c h inc t =
    let all = occ_below c (items h inc) (t + 1) in
    let below = few_below c (items h inc) (t + 1) in
    let above = few_passing (nat_le (above_floor h inc)) all in
    let left = few_passing (λ i. not (is_paired (entries (ledger_of h) inc) i)) (filter (nat_le (above_floor h inc)) all) in
    omega (arith, below, above, left)
