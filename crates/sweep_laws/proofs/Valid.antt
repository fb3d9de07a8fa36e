-- The steps that a sweep offers over a legal history of valid steps are valid.
use Rattle.std.proofs.Common.{◌≡◌, ℕ, zero, suc, ◌+◌, ◌*◌, ◌<◌, ◌≤◌, Bool, true, false, Option, Some, None, List, [], ◌∷◌, length, refl, ap, sym, ◌∙◌, arith, inl, inr, eqb-true}
use Rattle.std.specs.Prelude.{◌==◌, ◌||◌, ◌%◌, nat_le, nat_lt, is_some, if◌then◌else◌}
use Rattle.std.specs.List.{All, filter}
use Rattle.std.specs.Option.{option_map, option_and_then}
use Rattle.std.proofs.Math.Nat.{mod-lt}
use Rattle.std.proofs.lemmas.Bool.{cases_lt, leb-false}
use Rattle.std.proofs.lemmas.Bool.Decides.{nat_tests}
use Rattle.std.proofs.lemmas.List.{length-take, length-map}
use Rattle.std.proofs.lemmas.List.Elements.{All-nil, All-cons, All-head, All-tail, All-push, All-weaker, All-filter, All-take}
use Rattle.sched_plain.specs.declared.entry.Filed.{Filed}
use Rattle.sched_plain.specs.declared.outcome.Outcome.{Outcome}
use Rattle.sched_plain.specs.declared.outcome.Reason.TheVariants as reasons
use Rattle.sched_plain.specs.declared.standing.Standing.TheVariants as standings
use Rattle.sched_plain.specs.declared.step.Pair.{Pair}
use Rattle.sched_plain.specs.declared.work.Work.{Work}
use Rattle.sched_plain.specs.declared.work.Work.TheVariants as works
use Rattle.plain_words.specs.declared.limits.TheConstants.{MOST_PAIRS, LONGEST_WINDOW}
use Rattle.expressions.specs.Calendar.{Calendar}
use Rattle.plain_words.specs.Ids.{shard_of}
use Rattle.plain_words.specs.Lists.{nth, head, passing, put_if, first_some, when}
use Rattle.sched_plain.specs.History.{History}
use Rattle.sched_plain.specs.Moments.{last_moment}
use Rattle.sched_plain.specs.Changes.{changes_of}
use Rattle.sched_plain.specs.Rows.{rows_of}
use Rattle.sched_plain.specs.Ledger.{ledger_of}
use Rattle.sched_plain.specs.Entries.{entries, filed, is_paired}
use Rattle.sched_plain.specs.Items.{Item, items}
use Rattle.sched_plain.specs.Occurrences.{occurs_in, occ_below}
use Rattle.sched_plain.specs.Marks.{above_floor, without_pair, unentered}
use Rattle.sched_plain.specs.Standing.{or_due, is_used_up, is_past_age, earliest, standing_of}
use Rattle.sched_plain.specs.Attempts.{is_live_last}
use Rattle.sched_plain.specs.Seen.{seen}
use Rattle.sched_plain.specs.Work.{act_of}
use Rattle.sched_plain.specs.Legal.{IsLegal}
use Rattle.sched_plain.specs.Validity.{IsPair, IsIncarnation, IsNumber, IsMoment}
use Rattle.sched_calls.specs.Serves.{drawn, chosen_in, next_word, words_behind, windows_of, wanted, number_after}
use Rattle.plain_words.proofs.ListLemmas.{nth_past}
use Rattle.sched_plain.proofs.LedgerLemmas.{filed_paired}
use Rattle.book_laws.proofs.EntriesExact.{caught}
use Rattle.sweep_laws.specs.ValidLaws.{IsGood, EntersValid, EnterWorkValid, ClosesValid, AttemptsValid, CompletesValid, SweptsValid, TakingsValid, ReleasesValid}
use Rattle.sweep_laws.proofs.Found.{IsOf, work_found, acting_in, completing_in}
use Rattle.sweep_laws.proofs.Follow.{asks_begin, asks_close, due_of}
use Rattle.sweep_laws.proofs.Entering.{drawn_instants, some_first, entering_open}
use Rattle.sweep_laws.proofs.Limits.{few_rows, windows_fit, HasFew, few_retries, pairs_fit, epochs_fit}

-- ---- incarnations

nth_zero : {A : Type 0} (xs : List A) → nth xs 0 ≡ None
nth_zero [] = refl
nth_zero (x ∷ xs) = nth_zero xs

nothing_passes : (c : Calendar) (n : ℕ) → passing (occurs_in c []) n ≡ []
nothing_passes c zero = refl
nothing_passes c (suc n) = nothing_passes c n

none_below : (c : Calendar) (all : List Item) (n : ℕ) → all ≡ [] → occ_below c all n ≡ []
unfolding occ_below
none_below c all n none = ap (λ (xs : List Item). passing (occurs_in c xs) n) none ∙ nothing_passes c n

-- an incarnation that has no row has no occurrence
unborn_open : (c : Calendar) (h : History) → IsLegal c h → (inc t instant : ℕ) → nth (rows_of (changes_of h)) inc ≡ None
    → head (unentered c h inc t) ≡ Some instant → ⊥
unborn_open c h legal inc t instant none open_ =
    let empty : unentered c h inc t ≡ [] =
    ap (λ (xs : List ℕ). without_pair (entries (ledger_of h) inc) (filter (nat_le (above_floor h inc)) xs))
    (none_below c (items h inc) (t + 1) ((caught c h legal inc).unborn none)) in
    let clash : None ≡ Some instant = sym (ap (λ (xs : List ℕ). head xs) empty) ∙ open_ in absurd cc

born_within : (c : Calendar) (h : History) → IsLegal c h → (inc t instant : ℕ) → head (unentered c h inc t) ≡ Some instant → IsIncarnation inc
born_within c h legal zero t instant open_ = absurd (unborn_open c h legal zero t instant (nth_zero (rows_of (changes_of h))) open_)
born_within c h legal (suc inc) t instant open_ =
    let rows = rows_of (changes_of h) in
    let few = few_rows c h legal in
    elim (cases_lt (length rows) (suc inc)) [
      | inl past ↦ absurd (unborn_open c h legal (suc inc) t instant (nth_past rows (suc inc) past) open_)
      | inr within ↦ (omega arith, omega (arith, within, few))
    ]

of_within : (c : Calendar) (h : History) → IsLegal c h → (shard inc : ℕ) → IsOf shard (length (rows_of (changes_of h))) inc → IsIncarnation inc
of_within c h legal shard inc is =
    let few = few_rows c h legal in
    let low : 1 ≤ inc = is.low in
    let up : inc ≤ length (rows_of (changes_of h)) = is.up in
    (low, omega (arith, few, up))

-- ---- entering

put_below : (b : Bool) (n : ℕ) (xs : List ℕ) → All (λ x. x < suc n) xs → All (λ x. x < suc n) (put_if b n xs)
put_below true n xs all = All-push (λ x. x < suc n) xs n all (omega arith)
put_below false n xs all = all

passing_below : (p : ℕ → Bool) (n : ℕ) → All (λ x. x < n) (passing p n)
passing_below p zero = All-nil (λ x. x < zero)
passing_below p (suc n) =
    put_below (p n) n (passing p n) (All-weaker (λ x. x < n) (λ x. x < suc n) (λ x lt. omega (arith, lt)) (passing p n) (passing_below p n))

occ_early : (c : Calendar) (all : List Item) (t : ℕ) → All (λ x. x ≤ t) (occ_below c all (t + 1))
unfolding occ_below
occ_early c all t =
    All-weaker (λ x. x < t + 1) (λ x. x ≤ t) (λ x lt. omega (arith, lt)) (passing (occurs_in c all) (t + 1)) (passing_below (occurs_in c all) (t + 1))

pub unentered_early : (c : Calendar) (h : History) (inc t : ℕ) → All (λ x. x ≤ t) (unentered c h inc t)
unentered_early c h inc t =
    All-filter _ (λ x. x ≤ t) (filter (nat_le (above_floor h inc)) (occ_below c (items h inc) (t + 1)))
    (All-filter (nat_le (above_floor h inc)) (λ x. x ≤ t) (occ_below c (items h inc) (t + 1)) (occ_early c (items h inc) t))

chosen_case : (window i word : ℕ) (b : Bool) → (window == 0) ≡ b → i ≤ last_moment → window ≤ LONGEST_WINDOW
    → IsPair (record { instant = i; chosen = if b then i else i + word % (60 * window) })
chosen_case window i word true e low fits = record { instant = low; early = omega arith; late = omega arith }
chosen_case window i word false e low fits =
    let some : 0 < 60 * window = grind (arith, nat_tests) in
    let small : word % (60 * window) < 60 * window = mod-lt word some in
    record { instant = low; early = omega arith; late = omega (arith, small, fits) }

drawn_fit : (window : ℕ → ℕ) (xs words : List ℕ) → ((i : ℕ) → window i ≤ LONGEST_WINDOW) → All (λ x. x ≤ last_moment) xs → All IsPair (drawn window xs words)
drawn_fit window [] words fits all = All-nil IsPair
drawn_fit window (x ∷ xs) words fits all =
    All-cons IsPair (record { instant = x; chosen = chosen_in (window x) x (next_word words) }) (drawn window xs (words_behind (window x) words))
    (chosen_case (window x) x (next_word words) (window x == 0) refl (All-head (λ y. y ≤ last_moment) x xs all) (fits x))
    (drawn_fit window xs (words_behind (window x) words) fits (All-tail (λ y. y ≤ last_moment) x xs all))

pub valid_enter : EntersValid
valid_enter c h t inc instant words good open_ =
    let window = windows_of h inc in
    let xs = wanted c h inc t in
    let many = length-map {B = ℕ} (drawn window xs words) (λ (pair : Pair). pair.instant) in
    let as_many = ap (λ (l : List ℕ). length l) (drawn_instants window xs words) in
    let some = some_first MOST_PAIRS (unentered c h inc t) instant open_ (omega arith) in
    let few = length-take MOST_PAIRS (unentered c h inc t) in
    let late : t ≤ last_moment = good.late in
    let early : All (λ x. x ≤ last_moment) (unentered c h inc t) =
    All-weaker (λ x. x ≤ t) (λ x. x ≤ last_moment) (λ x le. omega (arith, le, late)) (unentered c h inc t) (unentered_early c h inc t) in (
      late,
      born_within c h good.legal inc t instant open_,
      omega (arith, many, as_many, some),
      omega (arith, many, as_many, few),
      drawn_fit window xs words (windows_fit c h good.legal good.valid inc) (All-take (λ x. x ≤ last_moment) MOST_PAIRS (unentered c h inc t) early),
    )

pub valid_enter_work : EnterWorkValid
valid_enter_work c h shard t inc words good w =
    let found = entering_open c h shard t inc w in
    valid_enter c h t inc found.0 words good found.1

-- ---- entries

or_case : (i : ℕ) (pair : Pair) (b rest : Bool) → (i == pair.instant) ≡ b → IsPair pair → (rest ≡ true → i ≤ last_moment) → (b || rest) ≡ true → i ≤ last_moment
or_case i pair true rest e fits more is = let same : i ≡ pair.instant = eqb-true i pair.instant e in let low : pair.instant ≤ last_moment = fits.instant in omega (arith, same, low)
or_case i pair false rest e fits more is = more is

paired_fits : (pairs : List Pair) (i : ℕ) → All IsPair pairs → is_paired pairs i ≡ true → i ≤ last_moment
paired_fits [] i all is = absurd cc
paired_fits (pair ∷ pairs) i all is =
    or_case i pair (i == pair.instant) (is_paired pairs i) refl (All-head IsPair pair pairs all) (paired_fits pairs i (All-tail IsPair pair pairs all)) is

asked_there : (t inc instant : ℕ) (o : Option Filed) (w : Work) → option_and_then (act_of t inc instant) o ≡ Some w → is_some o ≡ true
asked_there t inc instant None w e = absurd cc
asked_there t inc instant (Some f) w e = refl

-- the instant of an entry that asks for work is a moment
asked_fits : (c : Calendar) (h : History) (t inc instant : ℕ) (w : Work) → IsGood c h t
    → option_and_then (act_of t inc instant) (filed (ledger_of h) inc instant) ≡ Some w → IsMoment instant
asked_fits c h t inc instant w good asks =
    paired_fits (entries (ledger_of h) inc) instant (pairs_fit c h good.legal good.valid inc)
    (sym (filed_paired (ledger_of h) inc instant) ∙ asked_there t inc instant (filed (ledger_of h) inc instant) w asks)

pub valid_close : ClosesValid
valid_close c h shard t inc instant reason good w =
    let is = acting_in (seen c h) shard t (works.Close inc instant reason) (work_found (seen c h) shard t (works.Close inc instant reason) w) in (
      good.late,
      of_within c h good.legal shard inc is,
      asked_fits c h t inc instant (works.Close inc instant reason) good (asks_close c h shard t inc instant reason w),
    )

-- an entry that is due has attempts left
unused : (o : Option Outcome) (live used past wait : Bool) (until : ℕ)
    → or_due (first_some (option_map standings.Decided o ∷ when live standings.Live ∷ when used (standings.Exhausted reasons.Attempts) ∷ when past (standings.Exhausted reasons.Age) ∷ when wait (standings.Waiting until) ∷ [])) ≡ standings.Due
    → used ≡ false
unused (Some outcome) live used past wait until e = absurd cc
unused None true used past wait until e = absurd cc
unused None false true past wait until e = absurd cc
unused None false false past wait until e = refl

due_left : (f : Filed) (t : ℕ) → standing_of f t ≡ standings.Due → f.entry.used ≤ f.policy.retries
due_left f t due =
    let left = leb-false (1 + f.policy.retries) f.entry.used
    (unused f.entry.outcome (is_live_last f.entry.last) (is_used_up f.entry f.policy) (is_past_age f.entry f.policy t) (nat_lt t (earliest f.entry)) (earliest f.entry) due) in
    omega (arith, left)

number_fits : (t inc instant : ℕ) (o : Option Filed) → HasFew o → option_and_then (act_of t inc instant) o ≡ Some (works.Begin inc instant) → IsNumber (number_after o)
number_fits t inc instant None few asks = absurd cc
number_fits t inc instant (Some f) few asks =
    let left = due_left f t (due_of t inc instant f asks) in
    (omega arith, omega (arith, left, few))

pub valid_attempt : AttemptsValid
valid_attempt c h shard t inc instant end good status w =
    let is = acting_in (seen c h) shard t (works.Begin inc instant) (work_found (seen c h) shard t (works.Begin inc instant) w) in
    let within = of_within c h good.legal shard inc is in
    let asks = asks_begin c h shard t inc instant w in
    let moment_ = asked_fits c h t inc instant (works.Begin inc instant) good asks in
    let number = number_fits t inc instant (filed (ledger_of h) inc instant) (few_retries c h good.legal good.valid inc instant) asks in (
      (good.late, within, moment_, number, epochs_fit c h good.legal good.valid (shard_of inc)),
      (good.late, within, moment_, number, status),
    )

-- ---- the others

pub valid_complete : CompletesValid
valid_complete c h shard t inc good w =
    (good.late, of_within c h good.legal shard inc (completing_in (seen c h) shard t (works.Complete inc) (work_found (seen c h) shard t (works.Complete inc) w)))

pub valid_swept : SweptsValid
valid_swept shard t late is = (late, is)

pub valid_taking : TakingsValid
valid_taking h shard t late is fits = (late, is, omega arith, fits, refl)

pub valid_release : ReleasesValid
valid_release c h shard t good is = (good.late, is, omega arith, epochs_fit c h good.legal good.valid shard)
