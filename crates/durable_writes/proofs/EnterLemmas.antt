-- The Enter that is wanted for an incarnation, with the words that were drawn for it.
use Rattle.std.proofs.Common.{◌≡◌, ℕ, ◌+◌, ◌≤◌, Option, Some, None, List, [], ◌∷◌, length, take, refl, ap, sym, subst, ◌∙◌, arith, append-nil, true, eqb-true}
use Rattle.std.specs.Prelude.{◌==◌}
use Rattle.std.specs.List.{All}
use Rattle.std.proofs.lemmas.List.{length-take}
use Rattle.std.proofs.lemmas.List.Elements.{All-take, All-weaker}
use Rattle.plain_words.specs.declared.limits.TheConstants.{MOST_PAIRS, LAST_MOMENT}
use Rattle.plain_words.specs.Lists.{head}
use Rattle.plain_words.specs.Moments.{moment_of}
use Rattle.policy_rules.specs.Given.{Gives}
use Rattle.policy_rules.proofs.GivenLemmas.{gives_none}
use Rattle.sched_plain.specs.declared.step.Pair.{Pair}
use Rattle.sched_plain.specs.declared.step.Step.{Step}
use Rattle.sched_plain.specs.declared.step.Step.TheVariants as steps
use Rattle.sched_plain.specs.History.{History, ◌upon◌}
use Rattle.sched_plain.specs.Legal.{MayFollow}
use Rattle.sched_plain.specs.Marks.{unentered}
use Rattle.sched_plain.specs.Moments.{moment}
use Rattle.sched_plain.specs.Validity.{IsValid}
use Rattle.sched_calls.specs.Serves.{drawn, wanted, wanted_enter, windows_of, words_after, words_in, Finds}
use Rattle.book_parts.specs.Stands.{calendar}
use Rattle.step_keeper.specs.Carrying.{Start, Carries}
use Rattle.sweep_laws.specs.ValidLaws.{IsGood}
use Rattle.sweep_laws.proofs.Follow.{may_enter}
use Rattle.sweep_laws.proofs.Valid.{valid_enter, unentered_early}
use Rattle.durable_book.specs.declared.grow_fault.GrowFault.{GrowFault}
use Rattle.durable_book.specs.declared.grow_fault.GrowFault.TheVariants as grows
use Rattle.durable_book.specs.Acts.{IsCause}
use Rattle.durable_book.specs.Faults.{grow_denial}
use Rattle.durable_writes.specs.Choosing.{Chooses, DrewSome}
use Rattle.durable_writes.specs.Entering.{Enters, LeavesUnentered, with_enter}
use Rattle.durable_writes.specs.Words.{Draws}

-- the Enter of wanted instants, chosen by words, is the one that is wanted with these words
pub is_wanted : (h : History) (t inc : ℕ) (instants : List ℕ) (told told' : Option (List ℕ)) (pairs : List Pair) → instants ≡ wanted calendar h inc t
    → (chosen : Chooses (windows_of h inc) instants told told' pairs) → steps.Enter (moment_of t) inc pairs ≡ wanted_enter calendar h inc t chosen.words
is_wanted h t inc instants told told' pairs is chosen =
    ap (λ (ps : List Pair). steps.Enter (moment_of t) inc ps) (chosen.chosen ∙ ap (λ (xs : List ℕ). drawn (windows_of h inc) xs chosen.words) is)

first_of : (n : ℕ) (xs : List ℕ) → 1 ≤ length (take n xs) → (x : ℕ) × (head xs ≡ Some x)
first_of n [] some = absurd (omega (arith, length-take {A = ℕ} n [], some))
first_of n (x ∷ xs) some = (x, refl)

-- it is valid
pub wanted_valid : (h : History) (t inc : ℕ) (instants : List ℕ) (told told' : Option (List ℕ)) (pairs : List Pair) → IsGood calendar h t → instants ≡ wanted calendar h inc t
    → 1 ≤ length instants → Chooses (windows_of h inc) instants told told' pairs → IsValid (steps.Enter (moment_of t) inc pairs)
wanted_valid h t inc instants told told' pairs good is some chosen =
    let first = first_of MOST_PAIRS (unentered calendar h inc t) (subst (λ (xs : List ℕ). 1 ≤ length xs) is some) in
    subst IsValid (sym (is_wanted h t inc instants told told' pairs is chosen)) (valid_enter calendar h t inc first.0 chosen.words good first.1)

-- and may follow
pub wanted_follows : (h : History) (t inc : ℕ) (instants : List ℕ) (told told' : Option (List ℕ)) (pairs : List Pair) → moment h ≤ t → instants ≡ wanted calendar h inc t
    → Chooses (windows_of h inc) instants told told' pairs → MayFollow calendar h (steps.Enter (moment_of t) inc pairs)
wanted_follows h t inc instants told told' pairs early is chosen =
    subst (MayFollow calendar h) (sym (is_wanted h t inc instants told told' pairs is chosen)) (may_enter calendar h t inc chosen.words early)

-- at most 256 are wanted, each no later than the moment
pub few_wanted : (h : History) (inc t : ℕ) → length (wanted calendar h inc t) ≤ MOST_PAIRS
few_wanted h inc t = let few = length-take MOST_PAIRS (unentered calendar h inc t) in omega (arith, few)

pub early_wanted : (h : History) (inc t : ℕ) → t ≤ LAST_MOMENT → All (λ i. i ≤ LAST_MOMENT) (wanted calendar h inc t)
early_wanted h inc t late =
    All-take (λ i. i ≤ LAST_MOMENT) MOST_PAIRS (unentered calendar h inc t)
    (All-weaker (λ i. i ≤ t) (λ i. i ≤ LAST_MOMENT) (λ i le. omega (arith, le, late)) (unentered calendar h inc t) (unentered_early calendar h inc t))

-- the history with the Enter, where some are wanted
pub entered_some : (h : History) (t inc : ℕ) (words instants : List ℕ) → 1 ≤ length instants → with_enter t inc words instants h ≡ (wanted_enter calendar h inc t words upon h)
entered_some h t inc words [] some = absurd (omega (arith, some))
entered_some h t inc words (x ∷ xs) some = refl

-- what was added entered them
pub enters_wanted : (h : History) (t inc : ℕ) (instants : List ℕ) (told told' : Option (List ℕ)) (pairs : List Pair) → instants ≡ wanted calendar h inc t → 1 ≤ length instants
    → Chooses (windows_of h inc) instants told told' pairs → Enters None t inc (length instants) told told' h (steps.Enter (moment_of t) inc pairs upon h)
enters_wanted h t inc instants told told' pairs is some chosen =
    let drew = chosen.drew in
    record {
      found = h;
      finds = refl;
      words = chosen.words;
      added = ap (λ (s : Step). s upon h) (is_wanted h t inc instants told told' pairs is chosen)
          ∙ sym (entered_some h t inc chosen.words (wanted calendar h inc t) (subst (λ (xs : List ℕ). 1 ≤ length xs) is some));
      left = ap (λ (xs : List ℕ). words_after (windows_of h inc) xs chosen.words) (sym is) ∙ chosen.left;
      as_many = ap (λ (xs : List ℕ). length xs) is;
      draws = record {
        gives = subst (λ (ws : List ℕ). Gives told ws told') (sym (append-nil chosen.words)) chosen.gives;
        drew = ap (λ (n : ℕ). words_in h + n) drew;
        few = omega arith;
      };
    }

-- where nothing is wanted nothing is added
pub enters_none : (h : History) (t inc : ℕ) (told : Option (List ℕ)) → [] ≡ wanted calendar h inc t → Enters None t inc 0 told told h h
enters_none h t inc told none = record {
  found = h;
  finds = refl;
  words = [];
  added = ap (λ (xs : List ℕ). with_enter t inc [] xs h) none;
  left = ap (λ (xs : List ℕ). words_after (windows_of h inc) xs []) (sym none);
  as_many = ap (λ (xs : List ℕ). length xs) none;
  draws = record { gives = gives_none told; drew = omega arith; few = omega arith };
}

-- dropped words
pub dropped_words : (h : History) (words : List ℕ) (told told' : Option (List ℕ)) → Gives told words told' → length words ≤ MOST_PAIRS → Draws h h [] words told told'
dropped_words h words told told' gives few = record { gives = gives; drew = omega arith; few = few }

-- the Enter was not added
pub leaves_wanted : (full : Step → ℕ → ℕ → Type 0) (h : History) (t inc : ℕ) (instants : List ℕ) (told told' : Option (List ℕ)) (pairs : List Pair) (fault : GrowFault) → instants ≡ wanted calendar h inc t
    → Chooses (windows_of h inc) instants told told' pairs → IsCause full (steps.Enter (moment_of t) inc pairs) (grow_denial fault) h
    → LeavesUnentered full None t inc told told' fault h h
leaves_wanted full h t inc instants told told' pairs fault is chosen cause =
    let few = chosen.few in
    let most = few_wanted h inc t in
    let same = ap (λ (xs : List ℕ). length xs) is in
    record {
      finds = refl;
      dropped = chosen.words;
      draws = dropped_words h chosen.words told told' chosen.gives (omega (arith, few, most, same));
      cause = subst (λ (s : Step). IsCause full s (grow_denial fault) h) (is_wanted h t inc instants told told' pairs is chosen) cause;
    }

-- or could not be made
pub leaves_unmade : (full : Step → ℕ → ℕ → Type 0) (h : History) (t inc : ℕ) (instants : List ℕ) (told told' : Option (List ℕ)) → instants ≡ wanted calendar h inc t
    → DrewSome (length instants) told told' → LeavesUnentered full None t inc told told' grows.OutOfMemory h h
leaves_unmade full h t inc instants told told' is drew =
    let few = drew.few in
    let most = few_wanted h inc t in
    let same = ap (λ (xs : List ℕ). length xs) is in
    record { finds = refl; dropped = drew.words; draws = dropped_words h drew.words told told' drew.gives (omega (arith, few, most, same)); cause = tt }

-- nothing was done
pub leaves_all : (full : Step → ℕ → ℕ → Type 0) (h : History) (t inc : ℕ) (told : Option (List ℕ)) → LeavesUnentered full None t inc told told grows.OutOfMemory h h
leaves_all full h t inc told = record { finds = refl; dropped = []; draws = dropped_words h [] told told (gives_none told) (omega arith); cause = tt }

pub none_of : (xs : List ℕ) → (length xs == 0) ≡ true → xs ≡ []
none_of [] e = refl
none_of (x ∷ xs) e = let none : length (x ∷ xs) ≡ 0 = eqb-true (length (x ∷ xs)) 0 e in absurd (omega (arith, none))

pub enters_many : (h after : History) (t inc many told_many : ℕ) (told told' : Option (List ℕ)) → many ≡ told_many → Enters None t inc many told told' h after
    → Enters None t inc told_many told told' h after
enters_many h after t inc many told_many told told' same went = subst (λ (n : ℕ). Enters None t inc n told told' h after) same went

-- ---- behind the settling of a step in doubt

pub enters_found : {K : Type 0} (H S N : Start K → History → Type 0) (doubt : Option Step) (t inc many : ℕ) (told told' : Option (List ℕ)) → Carries H S (λ h. Finds h doubt)
    → Carries S N (Enters None t inc many told told') → Carries H N (Enters doubt t inc many told told')
enters_found H S N doubt t inc many told told' settled entered_ = λ since h held.
    let found = settled since h held in
    let went = entered_ since found.0 found.1 in (
      went.0,
      went.1,
      record {
        found = went.2.found;
        finds = subst (Finds h doubt) (sym went.2.finds) found.2;
        words = went.2.words;
        added = went.2.added;
        left = went.2.left;
        as_many = went.2.as_many;
        draws = went.2.draws;
      },
    )

pub leaves_found : {K : Type 0} (H S N : Start K → History → Type 0) (full : Step → ℕ → ℕ → Type 0) (doubt : Option Step) (t inc : ℕ) (told told' : Option (List ℕ)) (fault : GrowFault)
    → Carries H S (λ h. Finds h doubt) → Carries S N (LeavesUnentered full None t inc told told' fault) → Carries H N (LeavesUnentered full doubt t inc told told' fault)
leaves_found H S N full doubt t inc told told' fault settled leaves = λ since h held.
    let found = settled since h held in
    let stayed = leaves since found.0 found.1 in (
      stayed.0,
      stayed.1,
      record { finds = subst (Finds h doubt) (sym stayed.2.finds) found.2; dropped = stayed.2.dropped; draws = stayed.2.draws; cause = stayed.2.cause },
    )
