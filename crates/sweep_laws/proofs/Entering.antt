-- An Enter leaves a shard less work.
use Rattle.std.proofs.Common.{◌≡◌, ℕ, zero, suc, ◌+◌, ◌*◌, ◌<◌, ◌≤◌, Bool, true, false, cond, not, Option, Some, None, List, [], ◌∷◌, ◌++◌, length, take, refl, ap, sym, subst, ◌∙◌, arith, eq-eqb}
use Rattle.std.specs.Prelude.{◌==◌, ◌||◌, nat_le, is_some}
use Rattle.std.specs.List.{filter}
use Rattle.std.specs.Option.{option_map, option_and_then}
use Rattle.std.proofs.lemmas.Bool.{eqb-true}
use Rattle.std.proofs.lemmas.List.{length-take, length-map}
use Rattle.std.proofs.lemmas.List.Folds.{list_any-append}
use Rattle.sched_plain.specs.declared.entry.Filed.{Filed}
use Rattle.sched_plain.specs.declared.schedule.Policy.{Policy}
use Rattle.sched_plain.specs.declared.step.Pair.{Pair}
use Rattle.sched_plain.specs.declared.work.Work.TheVariants as works
use Rattle.plain_words.specs.declared.limits.TheConstants.{MOST_PAIRS}
use Rattle.expressions.specs.Calendar.{Calendar}
use Rattle.sched_plain.specs.History.{History, ◌upon◌}
use Rattle.plain_words.specs.Lists.{or_else, head}
use Rattle.sched_plain.specs.Changes.{changes_of}
use Rattle.sched_plain.specs.Rows.{rows_of, current}
use Rattle.sched_plain.specs.Ledger.{ledger_of, policy_of}
use Rattle.sched_plain.specs.Entries.{entries, filed, filed_by, is_paired, instants_of}
use Rattle.sched_plain.specs.Items.{items}
use Rattle.sched_plain.specs.Occurrences.{occ_below}
use Rattle.sched_plain.specs.Marks.{above_floor, without_pair, unentered}
use Rattle.sched_plain.specs.Seen.{seen}
use Rattle.sched_plain.specs.Work.{Occurrence, open_at, first_open, act_of, of_shard, work}
use Rattle.sched_calls.specs.Serves.{drawn, wanted, wanted_enter, windows_of, words_behind}
use Rattle.plain_words.proofs.Booleans.{or_second}
use Rattle.sched_plain.proofs.LedgerLemmas.{filed_paired}
use Rattle.sweep_laws.specs.LoadLaws.{weight_of, weight_in, living_weight, weight, load, EntersLessen}
use Rattle.sweep_laws.proofs.Found.{work_found, answer_is}
use Rattle.sweep_laws.proofs.Sums.{sum_less, sum_appended}
use Rattle.sweep_laws.proofs.Drops.{light}

-- ---- what is left unentered

without_step : (a b : Bool) (x : ℕ) (whole olds : List ℕ) (new : List Pair) → is_paired new x ≡ b → whole ≡ without_pair new olds
    → cond (not (a || b)) (x ∷ whole) whole ≡ without_pair new (cond (not a) (x ∷ olds) olds)
without_step true b x whole olds new is rest = rest
without_step false b x whole olds new is rest =
    ap (λ (w : List ℕ). cond (not b) (x ∷ w) w) rest
    ∙ ap (λ (n : Bool). cond (not n) (x ∷ without_pair new olds) (without_pair new olds)) (sym is)

pub without_more : (old new : List Pair) (xs : List ℕ) → without_pair (old ++ new) xs ≡ without_pair new (without_pair old xs)
without_more old new [] = refl
without_more old new (x ∷ xs) =
    ap (λ (n : Bool). cond (not n) (x ∷ without_pair (old ++ new) xs) (without_pair (old ++ new) xs)) (list_any-append (λ (pair : Pair). x == pair.instant) old new)
    ∙ without_step (is_paired old x) (is_paired new x) x (without_pair (old ++ new) xs) (without_pair old xs) new refl (without_more old new xs)

-- each of these passes
abbrev Each : (ℕ → Bool) → List ℕ → Type 0
Each test [] = Unit {0}
Each test (x ∷ xs) = (test x ≡ true) × Each test xs

few_case : (b : Bool) (x : ℕ) (ys xs : List ℕ) → length ys ≤ length xs → length (cond b (x ∷ ys) ys) ≤ length (x ∷ xs)
few_case true x ys xs le = omega (arith, le)
few_case false x ys xs le = omega (arith, le)

pub few_passing : (test : ℕ → Bool) (xs : List ℕ) → length (filter test xs) ≤ length xs
few_passing test [] = omega arith
few_passing test (x ∷ xs) = few_case (test x) x (filter test xs) xs (few_passing test xs)

-- where the front passes, what does not pass leaves no more than the rest
leaves : (test : ℕ → Bool) (n : ℕ) (xs : List ℕ) → Each test (take n xs) → length (filter (λ i. not (test i)) xs) + length (take n xs) ≤ length xs
leaves test zero [] each = omega arith
leaves test zero (x ∷ xs) each = let few = few_passing (λ i. not (test i)) (x ∷ xs) in omega (arith, few)
leaves test (suc n) [] each = omega arith
leaves test (suc n) (x ∷ xs) each =
    let rest = leaves test n xs each.1 in
    let here = ap (λ (b : Bool). length (cond (not b) (x ∷ filter (λ i. not (test i)) xs) (filter (λ i. not (test i)) xs))) each.0 in
    omega (arith, rest, here)

each_more : (pair : Pair) (pairs : List Pair) (xs : List ℕ) → Each (is_paired pairs) xs → Each (is_paired (pair ∷ pairs)) xs
each_more pair pairs [] each = tt
each_more pair pairs (x ∷ xs) each = (or_second (x == pair.instant) (is_paired pairs x) each.0, each_more pair pairs xs each.1)

or_first : (a b : Bool) → a ≡ true → (a || b) ≡ true
or_first true b e = refl
or_first false b e = absurd cc

each_paired : (pairs : List Pair) → Each (is_paired pairs) (instants_of pairs)
each_paired [] = tt
each_paired (pair ∷ pairs) = (
  or_first (pair.instant == pair.instant) (is_paired pairs pair.instant) (eq-eqb pair.instant pair.instant refl),
  each_more pair pairs (instants_of pairs) (each_paired pairs),
)

pub pairs_leave : (pairs : List Pair) (n : ℕ) (xs : List ℕ) → instants_of pairs ≡ take n xs → length (without_pair pairs xs) + length pairs ≤ length xs
pairs_leave pairs n xs front =
    let rest = leaves (is_paired pairs) n xs (subst (Each (is_paired pairs)) front (each_paired pairs)) in
    let many = length-map {B = ℕ} pairs (λ (pair : Pair). pair.instant) in
    let same = ap (λ (l : List ℕ). length l) front in
    omega (arith, rest, many, same)

-- the instants of pairs that were drawn
pub drawn_instants : (window : ℕ → ℕ) (xs words : List ℕ) → instants_of (drawn window xs words) ≡ xs
drawn_instants window [] words = refl
drawn_instants window (x ∷ xs) words = ap (λ (l : List ℕ). x ∷ l) (drawn_instants window xs (words_behind (window x) words))

-- ---- what entries weigh

-- entries that keep what is filed weigh the same
members_same : (t inc : ℕ) (f g : ℕ → Option Filed) (pairs : List Pair) → ((i : ℕ) → is_paired pairs i ≡ true → g i ≡ f i)
    → weight_in t inc g pairs ≡ weight_in t inc f pairs
members_same t inc f g [] same = refl
members_same t inc f g (pair ∷ pairs) same =
    let here = ap (weight_of t inc pair.instant) (same pair.instant (or_first (pair.instant == pair.instant) (is_paired pairs pair.instant) (eq-eqb pair.instant pair.instant refl))) in
    let more = members_same t inc f g pairs (λ i e. same i (or_second (i == pair.instant) (is_paired pairs i) e)) in
    omega (arith, here, more)

kept : (o new : Option Filed) → is_some o ≡ true → or_else o new ≡ o
kept None new e = absurd cc
kept (Some f) new e = refl

pub light_in : (t inc : ℕ) (g : ℕ → Option Filed) (pairs : List Pair) → weight_in t inc g pairs ≤ 2 * length pairs
light_in t inc g [] = omega arith
light_in t inc g (pair ∷ pairs) =
    let here = light (option_and_then (act_of t inc pair.instant) (g pair.instant)) in
    let more = light_in t inc g pairs in
    omega (arith, here, more)

-- what an incarnation weighs after an Enter of it, or of another
abbrev after : (t inc : ℕ) → (ℕ → Option Filed) → Policy → List Pair → List Pair → List ℕ → ℕ → Bool → ℕ
after t inc f policy old new xs living same =
    3 * length (without_pair (cond same (old ++ new) old) xs)
    + (weight_in t inc (λ i. cond same (or_else (f i) (filed_by policy new i)) (f i)) (cond same (old ++ new) old) + living)

-- by each new pair it weighs less
entered_less : (t inc : ℕ) (f : ℕ → Option Filed) (policy : Policy) (old new : List Pair) (n : ℕ) (xs : List ℕ) (living : ℕ)
    → ((i : ℕ) → is_some (f i) ≡ is_paired old i) → instants_of new ≡ take n (without_pair old xs)
    → after t inc f policy old new xs living true + length new ≤ after t inc f policy old new xs living false
entered_less t inc f policy old new n xs living there front =
    let g : ℕ → Option Filed = λ i. or_else (f i) (filed_by policy new i) in
    let fewer : length (without_pair new (without_pair old xs)) + length new ≤ length (without_pair old xs) = pairs_leave new n (without_pair old xs) front in
    let left : length (without_pair (old ++ new) xs) ≡ length (without_pair new (without_pair old xs)) = ap (λ (l : List ℕ). length l) (without_more old new xs) in
    let split : weight_in t inc g (old ++ new) ≡ weight_in t inc g old + weight_in t inc g new =
    sum_appended {A = Pair} (λ pair. weight_of t inc pair.instant (g pair.instant)) old new in
    let same : weight_in t inc g old ≡ weight_in t inc f old = members_same t inc f g old (λ i m. kept (f i) (filed_by policy new i) (there i ∙ m)) in
    let small : weight_in t inc g new ≤ 2 * length new = light_in t inc g new in
    omega (arith, fewer, left, split, same, small)

-- ---- a shard

-- what an incarnation weighs behind the wanted Enter of one
abbrev weight_behind : Calendar → History → ℕ → ℕ → List Pair → ℕ → Bool → ℕ
weight_behind c h t inc pairs of same =
    after t of (filed (ledger_of h) of) (policy_of (rows_of (changes_of h)) inc pairs) (entries (ledger_of h) of) pairs
    (filter (nat_le (above_floor h of)) (occ_below c (items h of) (t + 1))) (living_weight (current (rows_of (changes_of h)) of)) same

behind_less : (c : Calendar) (h : History) (t inc of : ℕ) (pairs : List Pair) → instants_of pairs ≡ take MOST_PAIRS (unentered c h of t)
    → weight_behind c h t inc pairs of true + length pairs ≤ weight c h t of
behind_less c h t inc of pairs front =
    entered_less t of (filed (ledger_of h) of) (policy_of (rows_of (changes_of h)) inc pairs) (entries (ledger_of h) of) pairs MOST_PAIRS
    (filter (nat_le (above_floor h of)) (occ_below c (items h of) (t + 1))) (living_weight (current (rows_of (changes_of h)) of))
    (filed_paired (ledger_of h) of) front

any_fewer : (c : Calendar) (h : History) (t inc of : ℕ) (pairs : List Pair) (same : Bool) → (of == inc) ≡ same
    → instants_of pairs ≡ take MOST_PAIRS (unentered c h inc t) → weight_behind c h t inc pairs of same ≤ weight c h t of
any_fewer c h t inc of pairs true e front =
    let less = behind_less c h t inc of pairs (front ∙ ap (λ (n : ℕ). take MOST_PAIRS (unentered c h n t)) (sym (eqb-true of inc e))) in
    omega (arith, less)
any_fewer c h t inc of pairs false e front = omega arith

pub some_first : (n : ℕ) (xs : List ℕ) (i : ℕ) → head xs ≡ Some i → 1 ≤ n → 1 ≤ length (take n xs)
some_first n [] i e some = absurd cc
some_first n (x ∷ xs) i e some = let is = length-take n (x ∷ xs) in omega (arith, is, some)

open_is : (of : ℕ) (o : Option ℕ) (found : Occurrence) → option_map {T = ℕ} (λ instant. record { inc = of; instant = instant }) o ≡ Some found
    → (o ≡ Some found.instant) × (of ≡ found.inc)
open_is of None found e = absurd cc
open_is of (Some i) found e =
    let is : record { inc = of; instant = i } ≡ found = cc e in
    (ap (λ (x : Occurrence). Some x.instant) is, ap (λ (x : Occurrence). x.inc) is)

meant_less : (c : Calendar) (h : History) (t inc of : ℕ) (pairs : List Pair) (found : Occurrence) → found.inc ≡ inc
    → open_at (seen c h).times t of ≡ Some found → instants_of pairs ≡ take MOST_PAIRS (unentered c h inc t)
    → weight_behind c h t inc pairs of (of == inc) < weight c h t of
meant_less c h t inc of pairs found is e front =
    let parts = open_is of (head (unentered c h of t)) found e in
    let same : of ≡ inc = parts.1 ∙ is in
    let front_of : instants_of pairs ≡ take MOST_PAIRS (unentered c h of t) = front ∙ ap (λ (n : ℕ). take MOST_PAIRS (unentered c h n t)) (sym same) in
    let less = behind_less c h t inc of pairs front_of in
    let many = length-map {B = ℕ} pairs (λ (pair : Pair). pair.instant) in
    let some = some_first MOST_PAIRS (unentered c h of t) found.instant parts.0 (omega arith) in
    let as_many = ap (λ (l : List ℕ). length l) front_of in
    subst (λ (b : Bool). weight_behind c h t inc pairs of b < weight c h t of) (sym (eq-eqb of inc same)) (omega (arith, less, many, some, as_many))

enter_less : (c : Calendar) (h : History) (shard t inc : ℕ) (words : List ℕ) (found : Option Occurrence)
    → first_open (seen c h).times t (of_shard shard (length (rows_of (changes_of h)))) ≡ found
    → option_map {T = Occurrence} (λ o. works.Enter o.inc) found ≡ Some (works.Enter inc)
    → load c (wanted_enter c h inc t words upon h) shard t < load c h shard t
enter_less c h shard t inc words None is e = absurd cc
enter_less c h shard t inc words (Some found) is e =
    let pairs = drawn (windows_of h inc) (wanted c h inc t) words in
    let front : instants_of pairs ≡ take MOST_PAIRS (unentered c h inc t) = drawn_instants (windows_of h inc) (wanted c h inc t) words in
    sum_less (open_at (seen c h).times t) found (weight c h t) (weight c (wanted_enter c h inc t words upon h) t) (of_shard shard (length (rows_of (changes_of h))))
    (λ of. any_fewer c h t inc of pairs (of == inc) refl front)
    (λ of here. meant_less c h t inc of pairs found (cc e) here front)
    is

pub enter_lessens : EntersLessen
enter_lessens c h shard t inc words w =
    enter_less c h shard t inc words (first_open (seen c h).times t (of_shard shard (length (rows_of (changes_of h))))) refl
    (work_found (seen c h) shard t (works.Enter inc) w)

-- the incarnation that is to be entered has an occurrence without an entry
open_there : (c : Calendar) (h : History) (t inc : ℕ) (incs : List ℕ) (found : Option Occurrence) → first_open (seen c h).times t incs ≡ found
    → option_map {T = Occurrence} (λ o. works.Enter o.inc) found ≡ Some (works.Enter inc) → (instant : ℕ) × (head (unentered c h inc t) ≡ Some instant)
open_there c h t inc incs None is e = absurd cc
open_there c h t inc incs (Some found) is e =
    let same : found.inc ≡ inc = cc e in (
      found.instant,
      subst (λ (n : ℕ). head (unentered c h n t) ≡ Some found.instant) same
          (answer_is {A = ℕ} {B = Occurrence} (λ o. head (unentered c h o.inc t) ≡ Some o.instant) (open_at (seen c h).times t) incs found
          (λ of here.
          let parts = open_is of (head (unentered c h of t)) found here in
          subst (λ (n : ℕ). head (unentered c h n t) ≡ Some found.instant) parts.1 parts.0)
          is),
    )

pub entering_open : (c : Calendar) (h : History) (shard t inc : ℕ) → work (seen c h) shard t ≡ works.Enter inc
    → (instant : ℕ) × (head (unentered c h inc t) ≡ Some instant)
entering_open c h shard t inc w =
    let incs = of_shard shard (length (rows_of (changes_of h))) in
    open_there c h t inc incs (first_open (seen c h).times t incs) refl (work_found (seen c h) shard t (works.Enter inc) w)
