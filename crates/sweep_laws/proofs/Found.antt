-- Which of the four searches found the work of a shard, and what is so of an answer that a search found.
use Rattle.std.proofs.Common.{◌≡◌, ℕ, zero, suc, ◌+◌, ◌<◌, ◌≤◌, Bool, true, false, cond, Option, Some, None, List, [], ◌∷◌, refl, ap, subst, arith}
use Rattle.std.specs.Prelude.{◌==◌, nat_le}
use Rattle.std.proofs.lemmas.Bool.{eqb-true}
use Rattle.std.specs.List.{filter}
use Rattle.std.specs.Option.{option_map, option_and_then}
use Rattle.sched_plain.specs.declared.entry.Filed.{Filed}
use Rattle.sched_plain.specs.declared.standing.Standing.{Standing}
use Rattle.sched_plain.specs.declared.standing.Standing.TheVariants as standings
use Rattle.sched_plain.specs.declared.step.Pair.{Pair}
use Rattle.sched_plain.specs.declared.work.Work.{Work}
use Rattle.sched_plain.specs.declared.work.Work.TheVariants as works
use Rattle.plain_words.specs.Ids.{shard_of}
use Rattle.plain_words.specs.Lists.{first_some, first_answer, when, numbers, head}
use Rattle.sched_plain.specs.Entries.{filed}
use Rattle.sched_plain.specs.Standing.{standing_of}
use Rattle.sched_plain.specs.Seen.{Seen, LedgerSeen}
use Rattle.sched_plain.specs.Work.{Occurrence, open_at, first_open, first_entry, of_shard, act_of, live_of, wanted_by, waited_for, completable, or_settled, work}
use Rattle.plain_words.proofs.Options.{first_case}

-- ---- an answer that a search found

pub answer_is : {A B : Type 0} (P : B → Type 0) (question : A → Option B) (xs : List A) (w : B) → ((x : A) → question x ≡ Some w → P w)
    → first_answer question xs ≡ Some w → P w
answer_is P question [] w is e = absurd cc
answer_is P question (x ∷ xs) w is e =
    first_case P (question x) (first_answer question xs) w (is x) (answer_is P question xs w is) e

passing_case : {B : Type 0} (P : B → Type 0) (question : ℕ → Option B) (b : Bool) (x : ℕ) (rest : List ℕ) (w : B) → (b ≡ true → question x ≡ Some w → P w)
    → (first_answer question rest ≡ Some w → P w) → first_answer question (cond b (x ∷ rest) rest) ≡ Some w → P w
passing_case P question true x rest w here later e = first_case P (question x) (first_answer question rest) w (here refl) later e
passing_case P question false x rest w here later e = later e

-- the same of numbers that pass a test, from one on
pub answer_among : {B : Type 0} (P : B → Type 0) (question : ℕ → Option B) (test : ℕ → Bool) (from n : ℕ) (w : B)
    → ((x : ℕ) → from ≤ x → x < from + n → test x ≡ true → question x ≡ Some w → P w)
    → first_answer question (filter test (numbers from n)) ≡ Some w → P w
answer_among P question test from zero w is e = absurd cc
answer_among P question test from (suc n) w is e =
    passing_case P question (test from) from (filter test (numbers (from + 1) n)) w (is from (omega arith) (omega arith))
    (answer_among P question test (from + 1) n w (λ x low up. is x (omega (arith, low)) (omega (arith, up)))) e

-- ---- which search it was

abbrev pub IsEntering : Work → Type 0
IsEntering (works.Enter inc) = Unit {0}
IsEntering w = ⊥

abbrev pub IsActing : Work → Type 0
IsActing (works.Close inc instant reason) = Unit {0}
IsActing (works.Begin inc instant) = Unit {0}
IsActing w = ⊥

abbrev pub IsCompleting : Work → Type 0
IsCompleting (works.Complete inc) = Unit {0}
IsCompleting w = ⊥

abbrev pub IsWaiting : Work → Type 0
IsWaiting (works.Live inc instant) = Unit {0}
IsWaiting w = ⊥

-- the search that has each kind of work for its answer found it
abbrev pub Found : (a b c d : Option Work) → Work → Type 0
Found a b c d (works.Enter inc) = a ≡ Some (works.Enter inc)
Found a b c d (works.Close inc instant reason) = b ≡ Some (works.Close inc instant reason)
Found a b c d (works.Begin inc instant) = b ≡ Some (works.Begin inc instant)
Found a b c d (works.Complete inc) = c ≡ Some (works.Complete inc)
Found a b c d (works.Live inc instant) = d ≡ Some (works.Live inc instant)
Found a b c d works.Settled = Unit {0}

found_first : (b c d : Option Work) (w : Work) → IsEntering w → Found (Some w) b c d w
found_first b c d (works.Enter inc) is = refl
found_first b c d (works.Close inc instant reason) is = absurd is
found_first b c d (works.Begin inc instant) is = absurd is
found_first b c d (works.Complete inc) is = absurd is
found_first b c d (works.Live inc instant) is = absurd is
found_first b c d works.Settled is = tt

found_second : (a c d : Option Work) (w : Work) → IsActing w → Found a (Some w) c d w
found_second a c d (works.Enter inc) is = absurd is
found_second a c d (works.Close inc instant reason) is = refl
found_second a c d (works.Begin inc instant) is = refl
found_second a c d (works.Complete inc) is = absurd is
found_second a c d (works.Live inc instant) is = absurd is
found_second a c d works.Settled is = tt

found_third : (a b d : Option Work) (w : Work) → IsCompleting w → Found a b (Some w) d w
found_third a b d (works.Enter inc) is = absurd is
found_third a b d (works.Close inc instant reason) is = absurd is
found_third a b d (works.Begin inc instant) is = absurd is
found_third a b d (works.Complete inc) is = refl
found_third a b d (works.Live inc instant) is = absurd is
found_third a b d works.Settled is = tt

found_fourth : (a b c : Option Work) (w : Work) → IsWaiting w → Found a b c (Some w) w
found_fourth a b c (works.Enter inc) is = absurd is
found_fourth a b c (works.Close inc instant reason) is = absurd is
found_fourth a b c (works.Begin inc instant) is = absurd is
found_fourth a b c (works.Complete inc) is = absurd is
found_fourth a b c (works.Live inc instant) is = refl
found_fourth a b c works.Settled is = tt

found_by : (a b c d : Option Work) (w : Work) → ((w : Work) → a ≡ Some w → IsEntering w) → ((w : Work) → b ≡ Some w → IsActing w)
    → ((w : Work) → c ≡ Some w → IsCompleting w) → ((w : Work) → d ≡ Some w → IsWaiting w)
    → or_settled (first_some (a ∷ b ∷ c ∷ d ∷ [])) ≡ w → Found a b c d w
found_by (Some x) b c d w enters acts completes waits e = subst (Found (Some x) b c d) e (found_first b c d x (enters x refl))
found_by None (Some x) c d w enters acts completes waits e = subst (Found None (Some x) c d) e (found_second None c d x (acts x refl))
found_by None None (Some x) d w enters acts completes waits e = subst (Found None None (Some x) d) e (found_third None None d x (completes x refl))
found_by None None None (Some x) w enters acts completes waits e = subst (Found None None None (Some x)) e (found_fourth None None None x (waits x refl))
found_by None None None None w enters acts completes waits e = subst (Found None None None None) e tt

-- ---- the searches

abbrev pub entering : Seen → List ℕ → ℕ → Option Work
entering v incs t = option_map (λ o. works.Enter o.inc) (first_open v.times t incs)

abbrev pub acting : Seen → List ℕ → ℕ → Option Work
acting v incs t = first_entry v.ledger (act_of t) incs

abbrev pub completing : Seen → List ℕ → ℕ → Option Work
completing v incs t = first_answer (λ inc. when (completable v inc t) (works.Complete inc)) incs

abbrev pub waiting : Seen → List ℕ → ℕ → Option Work
waiting v incs t = first_entry v.ledger (live_of t) incs

enter_kind : (o : Option Occurrence) (w : Work) → option_map (λ found. works.Enter found.inc) o ≡ Some w → IsEntering w
enter_kind None w e = absurd cc
enter_kind (Some found) w e = let is : works.Enter found.inc ≡ w = cc e in subst IsEntering is tt

wanted_kind : (inc instant : ℕ) (s : Standing) (w : Work) → wanted_by inc instant s ≡ Some w → IsActing w
wanted_kind inc instant (standings.Decided outcome) w e = absurd cc
wanted_kind inc instant standings.Live w e = absurd cc
wanted_kind inc instant (standings.Exhausted reason) w e = let is : works.Close inc instant reason ≡ w = cc e in subst IsActing is tt
wanted_kind inc instant (standings.Waiting until) w e = absurd cc
wanted_kind inc instant standings.Due w e = let is : works.Begin inc instant ≡ w = cc e in subst IsActing is tt

chosen_kind : (b : Bool) (o : Option Work) (w : Work) → (o ≡ Some w → IsActing w) → cond b o None ≡ Some w → IsActing w
chosen_kind true o w is e = is e
chosen_kind false o w is e = absurd cc

act_kind : (t inc instant : ℕ) (filed : Option Filed) (w : Work) → option_and_then (act_of t inc instant) filed ≡ Some w → IsActing w
act_kind t inc instant None w e = absurd cc
act_kind t inc instant (Some f) w e =
    chosen_kind (nat_le f.entry.chosen t) (wanted_by inc instant (standing_of f t)) w (wanted_kind inc instant (standing_of f t) w) e

waited_kind : (inc instant : ℕ) (s : Standing) (w : Work) → waited_for inc instant s ≡ Some w → IsWaiting w
waited_kind inc instant (standings.Decided outcome) w e = absurd cc
waited_kind inc instant standings.Live w e = let is : works.Live inc instant ≡ w = cc e in subst IsWaiting is tt
waited_kind inc instant (standings.Exhausted reason) w e = absurd cc
waited_kind inc instant (standings.Waiting until) w e = absurd cc
waited_kind inc instant standings.Due w e = absurd cc

live_kind : (t inc instant : ℕ) (filed : Option Filed) (w : Work) → option_and_then (live_of t inc instant) filed ≡ Some w → IsWaiting w
live_kind t inc instant None w e = absurd cc
live_kind t inc instant (Some f) w e = waited_kind inc instant (standing_of f t) w e

complete_kind : (b : Bool) (inc : ℕ) (w : Work) → when b (works.Complete inc) ≡ Some w → IsCompleting w
complete_kind true inc w e = let is : works.Complete inc ≡ w = cc e in subst IsCompleting is tt
complete_kind false inc w e = absurd cc

entry_kind : (P : Work → Type 0) (ledger : LedgerSeen) (question : ℕ → ℕ → Filed → Option Work) (incs : List ℕ) (w : Work)
    → ((inc instant : ℕ) (filed : Option Filed) → option_and_then (question inc instant) filed ≡ Some w → P w)
    → first_entry ledger question incs ≡ Some w → P w
entry_kind P ledger question incs w is e =
    answer_is P (λ inc. first_answer {A = Pair} (λ pair. option_and_then (question inc pair.instant) (ledger.filed inc pair.instant)) (ledger.pairs inc)) incs w
    (λ inc inside. answer_is {A = Pair} P (λ pair. option_and_then (question inc pair.instant) (ledger.filed inc pair.instant)) (ledger.pairs inc) w
    (λ pair. is inc pair.instant (ledger.filed inc pair.instant)) inside) e

pub work_found : (v : Seen) (shard t : ℕ) (w : Work) → work v shard t ≡ w
    → let incs = of_shard shard v.rows.created in Found (entering v incs t) (acting v incs t) (completing v incs t) (waiting v incs t) w
work_found v shard t w e =
    let incs = of_shard shard v.rows.created in
    found_by (entering v incs t) (acting v incs t) (completing v incs t) (waiting v incs t) w
    (enter_kind (first_open v.times t incs))
    (λ x. entry_kind IsActing v.ledger (act_of t) incs x (λ inc instant filed. act_kind t inc instant filed x))
    (λ x. answer_is IsCompleting (λ inc. when (completable v inc t) (works.Complete inc)) incs x (λ inc. complete_kind (completable v inc t) inc x))
    (λ x. entry_kind IsWaiting v.ledger (live_of t) incs x (λ inc instant filed. live_kind t inc instant filed x))
    e

-- ---- what the work asks for

-- an incarnation of a shard that was created
pub record IsOf (shard created inc : ℕ) : Type 0 where
  pub low : 1 ≤ inc
  pub up : inc ≤ created
  pub mine : shard ≡ shard_of inc

-- a search over the incarnations of a shard
pub shard_answer : {B : Type 0} (P : B → Type 0) (question : ℕ → Option B) (shard created : ℕ) (w : B)
    → ((inc : ℕ) → IsOf shard created inc → question inc ≡ Some w → P w) → first_answer question (of_shard shard created) ≡ Some w → P w
shard_answer P question shard created w is e =
    answer_among P question (λ inc. shard == shard_of inc) 1 created w
    (λ inc low up mine. is inc (record { low = low; up = omega (arith, up); mine = eqb-true shard (shard_of inc) mine })) e

-- the entry that is meant asks for the work
abbrev pub Asks : (ℕ → ℕ → Option Filed) → ℕ → Work → Type 0
Asks filed t (works.Enter inc) = Unit {0}
Asks filed t (works.Close inc instant reason) = option_and_then (act_of t inc instant) (filed inc instant) ≡ Some (works.Close inc instant reason)
Asks filed t (works.Begin inc instant) = option_and_then (act_of t inc instant) (filed inc instant) ≡ Some (works.Begin inc instant)
Asks filed t (works.Complete inc) = Unit {0}
Asks filed t (works.Live inc instant) = Unit {0}
Asks filed t works.Settled = Unit {0}

wanted_asks : (filed : ℕ → ℕ → Option Filed) (t inc instant : ℕ) (come : Bool) (s : Standing) (w : Work) → cond come (wanted_by inc instant s) None ≡ Some w
    → option_and_then (act_of t inc instant) (filed inc instant) ≡ cond come (wanted_by inc instant s) None → Asks filed t w
wanted_asks filed t inc instant true (standings.Decided outcome) w e a = absurd cc
wanted_asks filed t inc instant true standings.Live w e a = absurd cc
wanted_asks filed t inc instant true (standings.Exhausted reason) w e a = let is : works.Close inc instant reason ≡ w = cc e in subst (Asks filed t) is a
wanted_asks filed t inc instant true (standings.Waiting until) w e a = absurd cc
wanted_asks filed t inc instant true standings.Due w e a = let is : works.Begin inc instant ≡ w = cc e in subst (Asks filed t) is a
wanted_asks filed t inc instant false s w e a = absurd cc

pub filed_asks : (filed : ℕ → ℕ → Option Filed) (t inc instant : ℕ) (o : Option Filed) (w : Work) → filed inc instant ≡ o
    → option_and_then (act_of t inc instant) o ≡ Some w → Asks filed t w
filed_asks filed t inc instant None w there e = absurd cc
filed_asks filed t inc instant (Some f) w there e =
    wanted_asks filed t inc instant (nat_le f.entry.chosen t) (standing_of f t) w e (ap (option_and_then (act_of t inc instant)) there)

-- so does the work that the search over the entries found
pub acting_asks : (v : Seen) (incs : List ℕ) (t : ℕ) (w : Work) → acting v incs t ≡ Some w → Asks v.ledger.filed t w
acting_asks v incs t w e =
    answer_is (Asks v.ledger.filed t) (λ inc. first_answer {A = Pair} (λ pair. option_and_then (act_of t inc pair.instant) (v.ledger.filed inc pair.instant)) (v.ledger.pairs inc)) incs w
    (λ inc inside. answer_is {A = Pair} (Asks v.ledger.filed t) (λ pair. option_and_then (act_of t inc pair.instant) (v.ledger.filed inc pair.instant)) (v.ledger.pairs inc) w
    (λ pair. filed_asks v.ledger.filed t inc pair.instant (v.ledger.filed inc pair.instant) w refl) inside) e

-- the schedule to be completed is completable
abbrev pub Completable : Seen → ℕ → Work → Type 0
Completable v t (works.Enter inc) = Unit {0}
Completable v t (works.Close inc instant reason) = Unit {0}
Completable v t (works.Begin inc instant) = Unit {0}
Completable v t (works.Complete inc) = completable v inc t ≡ true
Completable v t (works.Live inc instant) = Unit {0}
Completable v t works.Settled = Unit {0}

when_completable : (v : Seen) (t inc : ℕ) (b : Bool) (w : Work) → completable v inc t ≡ b → when b (works.Complete inc) ≡ Some w → Completable v t w
when_completable v t inc true w is e = let same : works.Complete inc ≡ w = cc e in subst (Completable v t) same is
when_completable v t inc false w is e = absurd cc

pub completing_asks : (v : Seen) (incs : List ℕ) (t : ℕ) (w : Work) → completing v incs t ≡ Some w → Completable v t w
completing_asks v incs t w e =
    answer_is (Completable v t) (λ inc. when (completable v inc t) (works.Complete inc)) incs w
    (λ inc. when_completable v t inc (completable v inc t) w refl) e

-- ---- the work is of an incarnation of the shard

abbrev pub IsIn : ℕ → ℕ → Work → Type 0
IsIn shard created (works.Enter inc) = IsOf shard created inc
IsIn shard created (works.Close inc instant reason) = IsOf shard created inc
IsIn shard created (works.Begin inc instant) = IsOf shard created inc
IsIn shard created (works.Complete inc) = IsOf shard created inc
IsIn shard created (works.Live inc instant) = IsOf shard created inc
IsIn shard created works.Settled = Unit {0}

open_in : (shard created inc : ℕ) → IsOf shard created inc → (o : Option ℕ) (found : Occurrence)
    → option_map {T = ℕ} (λ instant. record { inc = inc; instant = instant }) o ≡ Some found → IsOf shard created found.inc
open_in shard created inc is None found e = absurd cc
open_in shard created inc is (Some i) found e =
    let same : record { inc = inc; instant = i } ≡ found = cc e in subst (λ (x : Occurrence). IsOf shard created x.inc) same is

entered_in : (shard created : ℕ) (o : Option Occurrence) (w : Work) → ((found : Occurrence) → o ≡ Some found → IsOf shard created found.inc)
    → option_map (λ found. works.Enter found.inc) o ≡ Some w → IsIn shard created w
entered_in shard created None w is e = absurd cc
entered_in shard created (Some found) w is e =
    let same : works.Enter found.inc ≡ w = cc e in subst (IsIn shard created) same (is found refl)

wanted_in : (shard created inc instant : ℕ) (s : Standing) (w : Work) → IsOf shard created inc → wanted_by inc instant s ≡ Some w → IsIn shard created w
wanted_in shard created inc instant (standings.Decided outcome) w is e = absurd cc
wanted_in shard created inc instant standings.Live w is e = absurd cc
wanted_in shard created inc instant (standings.Exhausted reason) w is e = let same : works.Close inc instant reason ≡ w = cc e in subst (IsIn shard created) same is
wanted_in shard created inc instant (standings.Waiting until) w is e = absurd cc
wanted_in shard created inc instant standings.Due w is e = let same : works.Begin inc instant ≡ w = cc e in subst (IsIn shard created) same is

chosen_in_shard : (P : Work → Type 0) (b : Bool) (o : Option Work) (w : Work) → (o ≡ Some w → P w) → cond b o None ≡ Some w → P w
chosen_in_shard P true o w is e = is e
chosen_in_shard P false o w is e = absurd cc

act_in : (shard created t inc instant : ℕ) (filed : Option Filed) (w : Work) → IsOf shard created inc
    → option_and_then (act_of t inc instant) filed ≡ Some w → IsIn shard created w
act_in shard created t inc instant None w is e = absurd cc
act_in shard created t inc instant (Some f) w is e =
    chosen_in_shard (IsIn shard created) (nat_le f.entry.chosen t) (wanted_by inc instant (standing_of f t)) w (wanted_in shard created inc instant (standing_of f t) w is) e

complete_in : (shard created inc : ℕ) (b : Bool) (w : Work) → IsOf shard created inc → when b (works.Complete inc) ≡ Some w → IsIn shard created w
complete_in shard created inc true w is e = let same : works.Complete inc ≡ w = cc e in subst (IsIn shard created) same is
complete_in shard created inc false w is e = absurd cc

pub entering_in : (v : Seen) (shard t : ℕ) (w : Work) → entering v (of_shard shard v.rows.created) t ≡ Some w → IsIn shard v.rows.created w
entering_in v shard t w e =
    entered_in shard v.rows.created (first_open v.times t (of_shard shard v.rows.created)) w
    (λ found. shard_answer {B = Occurrence} (λ x. IsOf shard v.rows.created x.inc) (open_at v.times t) shard v.rows.created found
    (λ inc is. open_in shard v.rows.created inc is (head (v.times.unentered inc t)) found))
    e

pub acting_in : (v : Seen) (shard t : ℕ) (w : Work) → acting v (of_shard shard v.rows.created) t ≡ Some w → IsIn shard v.rows.created w
acting_in v shard t w e =
    shard_answer (IsIn shard v.rows.created)
    (λ inc. first_answer {A = Pair} (λ pair. option_and_then (act_of t inc pair.instant) (v.ledger.filed inc pair.instant)) (v.ledger.pairs inc)) shard v.rows.created w
    (λ inc is. answer_is {A = Pair} (IsIn shard v.rows.created) (λ pair. option_and_then (act_of t inc pair.instant) (v.ledger.filed inc pair.instant)) (v.ledger.pairs inc) w
    (λ pair. act_in shard v.rows.created t inc pair.instant (v.ledger.filed inc pair.instant) w is)) e

pub completing_in : (v : Seen) (shard t : ℕ) (w : Work) → completing v (of_shard shard v.rows.created) t ≡ Some w → IsIn shard v.rows.created w
completing_in v shard t w e =
    shard_answer (IsIn shard v.rows.created) (λ inc. when (completable v inc t) (works.Complete inc)) shard v.rows.created w
    (λ inc is. complete_in shard v.rows.created inc (completable v inc t) w is) e
