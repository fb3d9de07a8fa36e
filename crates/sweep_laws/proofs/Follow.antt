-- Each step that a sweep offers may follow the history that it is offered for.
use Rattle.std.proofs.Common.{◌≡◌, ℕ, zero, suc, ◌+◌, ◌*◌, ◌<◌, ◌≤◌, Bool, true, false, Option, Some, None, List, [], ◌∷◌, length, take, refl, ap, sym, subst, arith, eq-eqb}
use Rattle.std.specs.Prelude.{◌==◌, ◌&&◌, ◌||◌, ◌%◌, not, nat_le, nat_lt, if◌then◌else◌}
use Rattle.std.specs.Option.{option_map, option_and_then}
use Rattle.std.proofs.lemmas.Bool.Decides.{nat_tests}
use Rattle.std.proofs.Math.Nat.{mod-lt}
use Rattle.sched_plain.specs.declared.entry.Filed.{Filed}
use Rattle.sched_plain.specs.declared.holder.Holder.{Holder}
use Rattle.sched_plain.specs.declared.schedule.Schedule.{Schedule}
use Rattle.sched_plain.specs.declared.standing.Standing.{Standing}
use Rattle.sched_plain.specs.declared.standing.Standing.TheVariants as standings
use Rattle.sched_plain.specs.declared.outcome.Reason.{Reason}
use Rattle.sched_plain.specs.declared.outcome.Reason.TheVariants as reasons
use Rattle.sched_plain.specs.declared.why.Why.{Why}
use Rattle.sched_plain.specs.declared.work.Work.TheVariants as works
use Rattle.expressions.specs.Calendar.{Calendar}
use Rattle.sched_plain.specs.History.{History}
use Rattle.plain_words.specs.Ids.{shard_of}
use Rattle.sched_plain.specs.Moments.{moment}
use Rattle.plain_words.specs.declared.limits.TheConstants.{MOST_PAIRS}
use Rattle.plain_words.specs.Lists.{first_some, when}
use Rattle.sched_plain.specs.Changes.{changes_of}
use Rattle.sched_plain.specs.Rows.{rows_of, content_at}
use Rattle.sched_plain.specs.Ledger.{ledger_of}
use Rattle.sched_plain.specs.Leases.{holder, is_taking, is_held, is_taker}
use Rattle.sched_plain.specs.Entries.{filed, changed_if, with_begin}
use Rattle.sched_plain.specs.Attempts.{is_live_attempt}
use Rattle.sched_plain.specs.Standing.{standing_of}
use Rattle.sched_plain.specs.Marks.{unentered}
use Rattle.sched_plain.specs.Seen.{seen}
use Rattle.sched_plain.specs.Work.{work, act_of, wanted_by, of_shard, completable}
use Rattle.sched_plain.specs.Rules.{begin_table, close_table, first_astray, first_outside, is_in_window, window_of, unless_settled, unless_exhausted}
use Rattle.sched_calls.specs.Serves.{wanted, windows_of, drawn, chosen_in, next_word, words_behind, number_after}
use Rattle.plain_words.proofs.Booleans.{both_itself}
use Rattle.sweep_laws.specs.FollowLaws.{EntersFollow, ClosesFollow, BeginsFollow, EndsFollow, CompletesFollow, SweptsFollow, TakingsFollow, ReleasesFollow}
use Rattle.sweep_laws.proofs.Found.{work_found, acting_asks, completing_asks}

-- a moment that does not fall breaks no rule
pub on_time : (last t : ℕ) (why : Why) (rest : List (Option Why)) → last ≤ t → first_some rest ≡ None → first_some (when (nat_lt t last) why ∷ rest) ≡ None
on_time last t why rest le e = let f : nat_lt t last ≡ false = grind (arith, nat_tests) in rw f e

alone : (o : Option Why) → o ≡ None → first_some (o ∷ []) ≡ None
alone o e = rw e refl

holds_case : (b : Bool) (why : Why) → b ≡ true → first_some (when (not b) why ∷ []) ≡ None
holds_case true why e = refl
holds_case false why e = absurd cc

-- ---- taking and giving back

taking_case : (taking held taker : Bool) (one two : Why) → taking ≡ true → held ≡ false
    → first_some (when (taking && held) one ∷ when (not (taking || taker)) two ∷ []) ≡ None
taking_case true true taker one two t h = absurd cc
taking_case true false taker one two t h = refl
taking_case false held taker one two t h = absurd cc

pub may_take : TakingsFollow
may_take c h shard t early free =
    let held = holder h shard in
    on_time (moment h) t _ _ early
    (taking_case (is_taking held (held.epoch + 1)) (is_held held t 0) (is_taker held 0 (held.epoch + 1)) _ _ (eq-eqb (held.epoch + 1) (held.epoch + 1) refl) free)

pub may_release : ReleasesFollow
may_release c h shard t early zero_last some =
    let held = holder h shard in
    let a : nat_lt 0 held.epoch ≡ true = grind (arith, nat_tests) in
    let b : (held.epoch == held.epoch) ≡ true = eq-eqb held.epoch held.epoch refl in
    let same : (0 == held.worker) ≡ true = eq-eqb 0 held.worker (sym zero_last) in
    let taker : is_taker held 0 held.epoch ≡ true = rw (a, b, same) refl in
    on_time (moment h) t _ _ early (holds_case (is_taker held 0 held.epoch) _ taker)

-- ---- entering

-- the first of the instants that are wanted are the next ones
none_astray : (window : ℕ → ℕ) (n : ℕ) (xs words : List ℕ) → first_astray (drawn window (take n xs) words) xs ≡ None
none_astray window zero [] words = refl
none_astray window zero (x ∷ xs) words = refl
none_astray window (suc n) [] words = refl
none_astray window (suc n) (x ∷ xs) words =
    let same : (x == x) ≡ true = eq-eqb x x refl in rw same (none_astray window n xs (words_behind (window x) words))

-- each chosen moment is in its window
window_case : (w i chosen : ℕ) → i ≤ chosen → chosen < i + 60 * suc w → is_in_window (suc w) (record { instant = i; chosen = chosen }) ≡ true
window_case w i chosen low up =
    let a : nat_le i chosen ≡ true = grind (arith, nat_tests) in
    let b : nat_lt chosen (i + 60 * suc w) ≡ true = grind (arith, nat_tests) in
    let d : (suc w == 0) ≡ false = grind (arith, nat_tests) in
    rw (d, a, b) refl

in_window : (window i word : ℕ) → is_in_window window (record { instant = i; chosen = chosen_in window i word }) ≡ true
in_window zero i word = eq-eqb i i refl
in_window (suc w) i word =
    let d : (suc w == 0) ≡ false = grind (arith, nat_tests) in
    let is : chosen_in (suc w) i word ≡ i + word % (60 * suc w) = ap (λ (b : Bool). if b then i else i + word % (60 * suc w)) d in
    let small : word % (60 * suc w) < 60 * suc w = mod-lt word (omega arith) in
    subst (λ (k : ℕ). is_in_window (suc w) (record { instant = i; chosen = k }) ≡ true) (sym is)
    (window_case w i (i + word % (60 * suc w)) (omega arith) (omega (arith, small)))

none_outside : (content : ℕ → Option Schedule) (xs words : List ℕ) → first_outside content (drawn (λ i. window_of (content i)) xs words) ≡ None
none_outside content [] words = refl
none_outside content (x ∷ xs) words =
    rw (in_window (window_of (content x)) x (next_word words)) (none_outside content xs (words_behind (window_of (content x)) words))

two_none : (a b : Option ℕ) (one two : ℕ → Why) → a ≡ None → b ≡ None → first_some (option_map one a ∷ option_map two b ∷ []) ≡ None
two_none a b one two e f = rw (e, f) refl

pub may_enter : EntersFollow
may_enter c h t inc words early =
    on_time (moment h) t _ _ early
    (two_none _ _ _ _ (none_astray (windows_of h inc) MOST_PAIRS (unentered c h inc t) words)
    (none_outside (content_at (rows_of (changes_of h)) inc) (wanted c h inc t) words))

-- ---- an entry's attempt and its close

if_there : {A : Type 0} (b : Bool) (o : Option A) (w : A) → (if b then o else None) ≡ Some w → o ≡ Some w
if_there true o w e = e
if_there false o w e = absurd cc

due_wanted : (s : Standing) (inc instant : ℕ) → wanted_by inc instant s ≡ Some (works.Begin inc instant) → s ≡ standings.Due
due_wanted (standings.Decided outcome) inc instant e = absurd cc
due_wanted standings.Live inc instant e = absurd cc
due_wanted (standings.Exhausted reason) inc instant e = absurd cc
due_wanted (standings.Waiting until) inc instant e = absurd cc
due_wanted standings.Due inc instant e = refl

spent_wanted : (s : Standing) (inc instant : ℕ) (reason : Reason) → wanted_by inc instant s ≡ Some (works.Close inc instant reason) → s ≡ standings.Exhausted reason
spent_wanted (standings.Decided outcome) inc instant reason e = absurd cc
spent_wanted standings.Live inc instant reason e = absurd cc
spent_wanted (standings.Exhausted found) inc instant reason e = let same : found ≡ reason = cc e in ap standings.Exhausted same
spent_wanted (standings.Waiting until) inc instant reason e = absurd cc
spent_wanted standings.Due inc instant reason e = absurd cc

begin_case : (epoch number t inc instant : ℕ) (held : Holder) (f : Filed) → epoch ≡ held.epoch → number ≡ f.entry.used + 1 → standing_of f t ≡ standings.Due
    → first_some (begin_table held (Some f) t inc instant number epoch) ≡ None
begin_case epoch number t inc instant held f e n due =
    let a : (epoch == held.epoch) ≡ true = eq-eqb epoch held.epoch e in
    let b : (number == f.entry.used + 1) ≡ true = eq-eqb number (f.entry.used + 1) n in
    rw (a, due, b) refl

pub due_of : (t inc instant : ℕ) (f : Filed) → act_of t inc instant f ≡ Some (works.Begin inc instant) → standing_of f t ≡ standings.Due
due_of t inc instant f e =
    due_wanted (standing_of f t) inc instant (if_there (nat_le f.entry.chosen t) (wanted_by inc instant (standing_of f t)) (works.Begin inc instant) e)

begin_found : (held : Holder) (t inc instant : ℕ) (o : Option Filed) → option_and_then (act_of t inc instant) o ≡ Some (works.Begin inc instant)
    → first_some (begin_table held o t inc instant (number_after o) held.epoch) ≡ None
begin_found held t inc instant None e = absurd cc
begin_found held t inc instant (Some f) e =
    begin_case _ _ t inc instant held f refl refl (due_of t inc instant f e)

-- the entry whose attempt is wanted asks for it
pub asks_begin : (c : Calendar) (h : History) (shard t inc instant : ℕ) → work (seen c h) shard t ≡ works.Begin inc instant
    → option_and_then (act_of t inc instant) (filed (ledger_of h) inc instant) ≡ Some (works.Begin inc instant)
asks_begin c h shard t inc instant w =
    acting_asks (seen c h) (of_shard shard (length (rows_of (changes_of h)))) t (works.Begin inc instant) (work_found (seen c h) shard t (works.Begin inc instant) w)

-- so does the one whose close is
pub asks_close : (c : Calendar) (h : History) (shard t inc instant : ℕ) (reason : Reason) → work (seen c h) shard t ≡ works.Close inc instant reason
    → option_and_then (act_of t inc instant) (filed (ledger_of h) inc instant) ≡ Some (works.Close inc instant reason)
asks_close c h shard t inc instant reason w =
    acting_asks (seen c h) (of_shard shard (length (rows_of (changes_of h)))) t (works.Close inc instant reason)
    (work_found (seen c h) shard t (works.Close inc instant reason) w)

pub may_begin : BeginsFollow
may_begin c h shard t inc instant early w =
    on_time (moment h) t _ _ early
    (begin_found (holder h (shard_of inc)) t inc instant (filed (ledger_of h) inc instant) (asks_begin c h shard t inc instant w))

end_found : (t : ℕ) (b : Bool) (o : Option Filed) (inc instant : ℕ) → b ≡ true → option_and_then (act_of t inc instant) o ≡ Some (works.Begin inc instant)
    → is_live_attempt (changed_if b (with_begin t) o) (number_after o) ≡ true
end_found t b None inc instant e a = absurd cc
end_found t true (Some f) inc instant e a =
    let same : (f.entry.used + 1 == f.entry.used + 1) ≡ true = eq-eqb (f.entry.used + 1) (f.entry.used + 1) refl in rw same refl
end_found t false (Some f) inc instant e a = absurd cc

pub may_end : EndsFollow
may_end c h shard t inc instant end w =
    on_time t t _ _ (omega arith)
    (holds_case _ _
    (end_found t (inc == inc && instant == instant) (filed (ledger_of h) inc instant) inc instant (both_itself inc instant) (asks_begin c h shard t inc instant w)))

close_case : (s : Standing) (reason : Reason) → s ≡ standings.Exhausted reason → unless_exhausted reason s ≡ None
close_case s reasons.Attempts e = rw e refl
close_case s reasons.Age e = rw e refl

close_found : (t inc instant : ℕ) (reason : Reason) (o : Option Filed) → option_and_then (act_of t inc instant) o ≡ Some (works.Close inc instant reason)
    → first_some (close_table o t inc instant reason) ≡ None
close_found t inc instant reason None e = absurd cc
close_found t inc instant reason (Some f) e =
    alone (unless_exhausted reason (standing_of f t))
    (close_case (standing_of f t) reason
    (spent_wanted (standing_of f t) inc instant reason
    (if_there (nat_le f.entry.chosen t) (wanted_by inc instant (standing_of f t)) (works.Close inc instant reason) e)))

pub may_close : ClosesFollow
may_close c h shard t inc instant reason early w =
    on_time (moment h) t _ _ early
    (close_found t inc instant reason (filed (ledger_of h) inc instant) (asks_close c h shard t inc instant reason w))

-- ---- completing and marking

pub may_complete : CompletesFollow
may_complete c h shard t inc early w =
    on_time (moment h) t _ _ early
    (holds_case (completable (seen c h) inc t) _
    (completing_asks (seen c h) (of_shard shard (length (rows_of (changes_of h)))) t (works.Complete inc)
    (work_found (seen c h) shard t (works.Complete inc) w)))

pub may_sweep : SweptsFollow
may_sweep c h shard t early w = on_time (moment h) t _ _ early (alone (unless_settled (work (seen c h) shard t)) (ap unless_settled w))
