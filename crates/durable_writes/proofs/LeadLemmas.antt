-- The way of an accepted write, one Enter after another.
use Rattle.std.proofs.Common.{◌≡◌, ℕ, suc, ◌+◌, ◌*◌, ◌≤◌, ◌<◌, Bool, true, false, not, Option, Some, None, List, [], ◌∷◌, ◌++◌, length, drop, refl, ap, sym, subst, ◌∙◌, arith, append_assoc, append-nil, length-append}
use Rattle.std.specs.Prelude.{◌==◌, ◌%◌, nat_le, if◌then◌else◌}
use Rattle.std.specs.List.{find, filter}
use Rattle.plain_words.proofs.Booleans.{by_bool}
use Rattle.plain_words.proofs.ListLemmas.{length_numbers}
use Rattle.plain_words.proofs.Options.{some_same}
use Rattle.plain_words.specs.declared.limits.TheConstants.{MOST_PAIRS}
use Rattle.plain_words.specs.Lists.{head, numbers, nth, some_pass}
use Rattle.plain_words.specs.Moments.{moment_of, last_moment}
use Rattle.policy_rules.specs.Given.{Gives}
use Rattle.policy_rules.proofs.GivenLemmas.{gives_none, gives_through}
use Rattle.sched_plain.specs.declared.step.Pair.{Pair}
use Rattle.sched_plain.specs.declared.step.Step.TheVariants as steps
use Rattle.sched_plain.specs.declared.write.Write.{Write}
use Rattle.sched_plain.specs.History.{History, ◌upon◌, as_it_was, with_step}
use Rattle.sched_plain.specs.Changes.{changes_of}
use Rattle.sched_plain.specs.Entries.{entries}
use Rattle.sched_plain.specs.Items.{items}
use Rattle.sched_plain.specs.Ledger.{ledger_of}
use Rattle.sched_plain.specs.Legal.{IsLegal}
use Rattle.sched_plain.specs.Marks.{above_floor, unentered}
use Rattle.sched_plain.specs.Occurrences.{occ_below}
use Rattle.sched_plain.specs.declared.row.Row.{Row}
use Rattle.sched_plain.specs.Rows.{rows_of, touches, deed_of}
use Rattle.sched_plain.specs.Work.{is_empty}
use Rattle.sched_plain.proofs.HistoryLemmas.{extends_through}
use Rattle.sched_calls.specs.Serves.{Accepts, ZoneSource, drawn, wanted, wanted_enter, windows_of, words_after, words_in, words_of, next_word}
use Rattle.book_parts.specs.Stands.{calendar}
use Rattle.write_plans.specs.declared.plan.Plan.TheVariants as plans
use Rattle.write_plans.specs.Planning.{IsPlanned, is_behind, touched}
use Rattle.write_plans.proofs.FollowLemmas.{catching_is_late}
use Rattle.write_plans.proofs.ServeLemmas.{entered_is_accepted}
use Rattle.sweep_laws.specs.LoadLaws.{open_load}
use Rattle.sweep_laws.proofs.Catching.{catch_ups_lessen, no_more, unentered_few}
use Rattle.sweep_laws.proofs.Entering.{few_passing, some_first}
use Rattle.sweep_laws.proofs.Limits.{few_rows}
use Rattle.sweep_laws.proofs.Words.{needs, drawn_count}
use Rattle.durable_writes.specs.Entering.{Enters, entered}
use Rattle.durable_writes.specs.Leading.{IsUnhindered, Leads}
use Rattle.durable_writes.proofs.EnterLemmas.{entered_some}

-- ---- words behind those that an Enter drew

behind_case : (b : Bool) (w x n : ℕ) (window : ℕ → ℕ) (xs ws more : List ℕ)
    → ((ws : List ℕ) → length ws ≡ n → (drawn window xs (ws ++ more) ≡ drawn window xs ws) × (words_after window xs (ws ++ more) ≡ more))
    → length ws ≡ (if b then n else suc n)
    → (record { instant = x; chosen = if b then x else x + next_word (ws ++ more) % (60 * w) } ∷ drawn window xs (if b then ws ++ more else drop 1 (ws ++ more))
    ≡ record { instant = x; chosen = if b then x else x + next_word ws % (60 * w) } ∷ drawn window xs (if b then ws else drop 1 ws))
    × (words_after window xs (if b then ws ++ more else drop 1 (ws ++ more)) ≡ more)
behind_case true w x n window xs ws more rest e = let r = rest ws e in (ap (λ (ps : List Pair). record { instant = x; chosen = x } ∷ ps) r.0, r.1)
behind_case false w x n window xs [] more rest e = absurd (omega (arith, e))
behind_case false w x n window xs (word ∷ ws) more rest e =
    let r = rest ws (omega (arith, e)) in (ap (λ (ps : List Pair). record { instant = x; chosen = x + word % (60 * w) } ∷ ps) r.0, r.1)

none_long : (ws : List ℕ) → length ws ≡ 0 → ws ≡ []
none_long [] e = refl
none_long (w ∷ ws) e = absurd (omega (arith, e))

-- what stands behind the words that are wanted is not drawn, and is left
pub drawn_behind : (window : ℕ → ℕ) (xs ws more : List ℕ) → length ws ≡ needs window xs
    → (drawn window xs (ws ++ more) ≡ drawn window xs ws) × (words_after window xs (ws ++ more) ≡ more)
drawn_behind window [] ws more e = (refl, ap (λ (l : List ℕ). l ++ more) (none_long ws e))
drawn_behind window (x ∷ xs) ws more e =
    behind_case (window x == 0) (window x) x (needs window xs) window xs ws more (λ l long. drawn_behind window xs l more long) e

-- ---- the parts of the way

pub leads_none : (source : ZoneSource) (t : ℕ) (write : Write) (h : History) → Leads source t write [] h h
leads_none source t write h = record { onward = λ more left last answer accepts. accepts; from = as_it_was; ends = refl }

pub leads_on : (source : ZoneSource) (t : ℕ) (write : Write) (a b : List ℕ) (h mid after : History) → Leads source t write a h mid → Leads source t write b mid after
    → Leads source t write (a ++ b) h after
leads_on source t write a b h mid after one two = record {
  onward = λ more left last answer accepts.
      subst (λ (ws : List ℕ). Accepts calendar source t h write ws last left answer) (sym (append_assoc a b more))
      (one.onward (b ++ more) left last answer (two.onward more left last answer accepts));
  from = extends_through one.from two.from;
  ends = two.ends ∙ one.ends;
}

pub leads_enter : (source : ZoneSource) (t : ℕ) (write : Write) (inc : ℕ) (ws : List ℕ) (h : History) → IsPlanned calendar h t write (plans.CatchUp inc)
    → length ws ≡ needs (windows_of h inc) (wanted calendar h inc t) → Leads source t write ws h (wanted_enter calendar h inc t ws upon h)
leads_enter source t write inc ws h is long = record {
  onward = λ more left last answer accepts.
      let same = drawn_behind (windows_of h inc) (wanted calendar h inc t) ws more long in
      let entered_ : Accepts calendar source t (wanted_enter calendar h inc t (ws ++ more) upon h) write more last left answer =
      subst (λ (ps : List Pair). Accepts calendar source t (steps.Enter (moment_of t) inc ps upon h) write more last left answer) (sym same.0) accepts in
      entered_is_accepted calendar h t write inc is source (ws ++ more) left last answer
      (subst (λ (l : List ℕ). Accepts calendar source t (wanted_enter calendar h inc t (ws ++ more) upon h) write l last left answer) (sym same.1) entered_);
  from = with_step _ as_it_was;
  ends = refl;
}

-- ---- it lessens what is left to be entered

open_of : (xs : List ℕ) → not (is_empty xs) ≡ true → (x : ℕ) × (head xs ≡ Some x)
open_of [] e = cc e
open_of (x ∷ xs) e = (x, refl)

lessens_in : (h : History) (t inc : ℕ) (ws incs : List ℕ) → find (is_behind calendar h t) incs ≡ Some inc
    → open_load calendar (wanted_enter calendar h inc t ws upon h) incs t < open_load calendar h incs t
lessens_in h t inc ws [] e = cc e
lessens_in h t inc ws (x ∷ xs) e =
    by_bool (λ b. is_behind calendar h t x ≡ b → (if b then Some x else find (is_behind calendar h t) xs) ≡ Some inc
    → open_load calendar (wanted_enter calendar h inc t ws upon h) (x ∷ xs) t < open_load calendar h (x ∷ xs) t)
    (is_behind calendar h t x)
    (λ yes-here behind found.
    let same : x ≡ inc = some_same x inc found in
    let first = open_of (unentered calendar h x t) behind in
    subst (λ (n : ℕ). open_load calendar (wanted_enter calendar h n t ws upon h) (x ∷ xs) t < open_load calendar h (x ∷ xs) t) same
    (catch_ups_lessen calendar h t x first.0 xs ws first.1))
    (λ no-here behind found.
    let rest = lessens_in h t inc ws xs found in
    let here = no_more (x == inc) (entries (ledger_of h) x) (drawn (windows_of h inc) (wanted calendar h inc t) ws)
    (filter (nat_le (above_floor h x)) (occ_below calendar (items h x) (t + 1))) in
    omega (arith, rest, here))
    refl e

-- ---- there is not much to be entered

load_small : (h : History) (t : ℕ) (incs : List ℕ) → t ≤ last_moment → open_load calendar h incs t ≤ 7258118400 * length incs
load_small h t [] late = omega arith
load_small h t (inc ∷ incs) late =
    let here = unentered_few calendar h inc t in
    let rest = load_small h t incs late in
    omega (arith, here, rest, late)

pub little_open : (h : History) (t : ℕ) (write : Write) → IsLegal calendar h → t ≤ last_moment → open_load calendar h (touched h write) t ≤ 31173381253402656000
little_open h t write legal late =
    let rows = rows_of (changes_of h) in
    let load = load_small h t (touched h write) late in
    let some = few_passing (λ inc. some_pass {A = Row} (λ row. touches (deed_of write row)) (nth rows inc)) (numbers 1 (length rows)) in
    let all = length_numbers 1 (length rows) in
    let few = few_rows calendar h legal in
    omega (arith, load, some, all, few)

-- ---- underway

-- so many Enters on the way of a write that no rule stops
pub record IsUnderway (t : ℕ) (write : Write) (told told' : Option (List ℕ)) (done : ℕ) (h after : History) : Type 0 where
  pub words : List ℕ
  pub unhindered : IsUnhindered write after
  pub leads : (source : ZoneSource) → Leads source t write words h after
  pub gives : Gives told words told'
  pub drew : words_in after ≡ words_in h + length words
  pub same : touched after write ≡ touched h write
  pub less : open_load calendar after (touched h write) t + done ≤ open_load calendar h (touched h write) t

pub underway_none : (t : ℕ) (write : Write) (told : Option (List ℕ)) (h : History) → IsUnhindered write h → IsUnderway t write told told 0 h h
underway_none t write told h free =
    record { words = []; unhindered = free; leads = λ source. leads_none source t write h; gives = gives_none told; drew = omega arith; same = refl; less = omega arith }

-- what an Enter that was wanted adds
one_enter : (t : ℕ) (write : Write) (inc : ℕ) (told told' : Option (List ℕ)) (ws : List ℕ) (h : History) → IsPlanned calendar h t write (plans.CatchUp inc)
    → IsUnhindered write h → Gives told ws told' → length ws ≡ needs (windows_of h inc) (wanted calendar h inc t)
    → IsUnderway t write told told' 1 h (wanted_enter calendar h inc t ws upon h)
one_enter t write inc told told' ws h is free gives long =
    let late = catching_is_late calendar h t write inc is in
    let count = drawn_count (windows_of h inc) (wanted calendar h inc t) ws in
    let less = lessens_in h t inc ws (touched h write) late.behind in
    record {
      words = ws;
      unhindered = record { new = free.new; allowed = free.allowed; zone = free.zone };
      leads = λ source. leads_enter source t write inc ws h is long;
      gives = gives;
      drew = omega (arith, count, long);
      same = refl;
      less = omega (arith, less);
    }

-- one part of the way behind another
underway_on : (t : ℕ) (write : Write) (told mid told' : Option (List ℕ)) (a b : ℕ) (h at after : History) → IsUnderway t write told mid a h at → IsUnderway t write mid told' b at after
    → IsUnderway t write told told' (a + b) h after
underway_on t write told mid told' a b h at after one two =
    let long = length-append one.words two.words in
    let first = one.drew in
    let second = two.drew in
    let less : open_load calendar after (touched h write) t + b ≤ open_load calendar at (touched h write) t =
    subst (λ (incs : List ℕ). open_load calendar after incs t + b ≤ open_load calendar at incs t) one.same two.less in
    let before : open_load calendar at (touched h write) t + a ≤ open_load calendar h (touched h write) t = one.less in
    record {
      words = one.words ++ two.words;
      unhindered = two.unhindered;
      leads = λ source. leads_on source t write one.words two.words h at after (one.leads source) (two.leads source);
      gives = gives_through told mid told' one.words two.words one.gives two.gives;
      drew = omega (arith, first, second, long);
      same = two.same ∙ one.same;
      less = omega (arith, less, before);
    }

-- the Enter of an incarnation that is behind, by what was told of it
record IsEntered (t inc : ℕ) (told told' : Option (List ℕ)) (h after : History) : Type 0 where
  words : List ℕ
  added : after ≡ (wanted_enter calendar h inc t words upon h)
  gives : Gives told words told'
  long : length words ≡ needs (windows_of h inc) (wanted calendar h inc t)

entered_here : (t inc many instant : ℕ) (told told' : Option (List ℕ)) (h after : History) → head (unentered calendar h inc t) ≡ Some instant → Enters None t inc many told told' h after
    → IsEntered t inc told told' h after
entered_here t inc many instant told told' h after behind went =
    let some = some_first MOST_PAIRS (unentered calendar h inc t) instant behind (omega arith) in
    let added : after ≡ (wanted_enter calendar h inc t went.words upon h) =
    subst (λ (f : History). after ≡ entered t inc went.words f) went.finds went.added ∙ entered_some h t inc went.words (wanted calendar h inc t) some in
    let drew : words_in after ≡ words_in h + length went.words = subst (λ (f : History). words_in after ≡ words_in f + length went.words) went.finds went.draws.drew in
    let stands : words_in after ≡ words_in h + words_of (windows_of h inc) (drawn (windows_of h inc) (wanted calendar h inc t) went.words) = ap words_in added in
    let count = drawn_count (windows_of h inc) (wanted calendar h inc t) went.words in
    record {
      words = went.words;
      added = added;
      gives = subst (λ (ws : List ℕ). Gives told ws told') (append-nil went.words) went.draws.gives;
      long = omega (arith, drew, stands, count);
    }

first_behind_open : (h : History) (t : ℕ) (write : Write) (inc : ℕ) (incs : List ℕ) → find (is_behind calendar h t) incs ≡ Some inc → (x : ℕ) × (head (unentered calendar h inc t) ≡ Some x)
first_behind_open h t write inc [] e = cc e
first_behind_open h t write inc (x ∷ xs) e =
    by_bool (λ b. is_behind calendar h t x ≡ b → (if b then Some x else find (is_behind calendar h t) xs) ≡ Some inc → (i : ℕ) × (head (unentered calendar h inc t) ≡ Some i))
    (is_behind calendar h t x)
    (λ yes-here behind found.
    subst (λ (n : ℕ). (i : ℕ) × (head (unentered calendar h n t) ≡ Some i)) (some_same x inc found) (open_of (unentered calendar h x t) behind))
    (λ no-here behind found. first_behind_open h t write inc xs found)
    refl e

-- one Enter more
pub underway_more : (t : ℕ) (write : Write) (inc many done : ℕ) (told mid told' : Option (List ℕ)) (h at after : History) → IsUnderway t write told mid done h at
    → IsPlanned calendar at t write (plans.CatchUp inc) → Enters None t inc many mid told' at after → IsUnderway t write told told' (done + 1) h after
underway_more t write inc many done told mid told' h at after way is went =
    let late = catching_is_late calendar at t write inc is in
    let open_ = first_behind_open at t write inc (touched at write) late.behind in
    let here = entered_here t inc many open_.0 mid told' at after open_.1 went in
    subst (λ (a : History). IsUnderway t write told told' (done + 1) h a) (sym here.added)
    (underway_on t write told mid told' done 1 h at (wanted_enter calendar at inc t here.words upon at) way
    (one_enter t write inc mid told' here.words at is way.unhindered here.gives here.long))
