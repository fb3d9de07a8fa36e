-- How many letters there are: the lengths of the piles together are as many as were posted.
use Rattle.std.proofs.Common.{◌≡◌, ℕ, ◌+◌, Bool, true, false, Some, None, List, [], ◌∷◌, map, length, refl, sym, ap, ◌∙◌, subst, arith, if◌then◌else◌}
use Rattle.std.specs.List.{filter, AllByRecursion}
use Rattle.std.specs.List.Sorted.{IsStrictlySortedBy}
use Rattle.std.specs.Map.{keys_of, values_of}
use Rattle.std.specs.Ordering.{is_eq}
use Rattle.std.specs.declared.cmp.Ordering.TheVariants.{Less}
use Rattle.std.specs.String.{string_bytes, string_cmp}
use Rattle.std.specs.declared.string.String.{String}
use Rattle.std.proofs.lemmas.Map.Text.{is_eq-slice_cmp}
use Rattle.std.proofs.lemmas.Map.Keys.{sorted_head, sorted_tail}
use Rattle.std.proofs.lemmas.Cmp.{nat_list_eq_equiv}
use Rattle.plain_words.specs.Lists.{same_text}
use Rattle.sched_plain.specs.declared.letter.Letter.{Letter}
use Rattle.sched_plain.specs.Queues.{Posted, letters_of}
use Rattle.dead_letters.specs.Piles.{Piles, Piled, pile_under, letters_on, letters_in}
use Rattle.dead_letters.specs.Posts.{Holds}
use Rattle.dead_letters.specs.Shown.{piles_of, count_in, AreAlone, AreApart}
use Rattle.dead_letters.proofs.PileLaws.{one_text}

-- what was posted to other queues than this one
abbrev others : List ℕ → List Posted → List Posted
others queue [] = []
others queue (p ∷ posted) = if same_text queue p.queue then others queue posted else p ∷ others queue posted

-- the letters of a queue, with one more in front where it is of the queue
abbrev with_one : Bool → Letter → List Letter → List Letter
with_one true letter letters = letter ∷ letters
with_one false letter letters = letters

one_more : (p : Posted) (posted : List Posted) (queue : List ℕ)
    → letters_of (p ∷ posted) queue ≡ with_one (same_text queue p.queue) p.letter (letters_of posted queue)
one_more p posted queue = by_test (same_text queue p.queue)
  where
    by_test : (b : Bool) → map (λ (q : Posted). q.letter) (if b then p ∷ filter (λ (q : Posted). same_text queue q.queue) posted else filter (λ (q : Posted). same_text queue q.queue) posted)
        ≡ with_one b p.letter (letters_of posted queue)
    by_test true = refl
    by_test false = refl

-- the others have no letter of the queue
none_here : (queue : List ℕ) (posted : List Posted) → letters_of (others queue posted) queue ≡ []
none_here queue [] = refl
none_here queue (p ∷ posted) = by_test (same_text queue p.queue) refl (none_here queue posted)
  where
    by_test : (b : Bool) → same_text queue p.queue ≡ b → letters_of (others queue posted) queue ≡ []
        → letters_of (if b then others queue posted else p ∷ others queue posted) queue ≡ []
    by_test true same rest = rest
    by_test false other rest =
        one_more p (others queue posted) queue ∙ ap (λ (b : Bool). with_one b p.letter (letters_of (others queue posted) queue)) other ∙ rest

-- and all letters of every other queue
same_elsewhere : (queue q : List ℕ) (posted : List Posted) → same_text q queue ≡ false → letters_of (others queue posted) q ≡ letters_of posted q
same_elsewhere queue q [] apart = refl
same_elsewhere queue q (p ∷ posted) apart = by_test (same_text queue p.queue) refl (same_elsewhere queue q posted apart)
  where
    by_test : (b : Bool) → same_text queue p.queue ≡ b → letters_of (others queue posted) q ≡ letters_of posted q
        → letters_of (if b then others queue posted else p ∷ others queue posted) q ≡ letters_of (p ∷ posted) q
    by_test true same rest =
        let not_here : same_text q p.queue ≡ false = subst (λ (t : List ℕ). same_text q t ≡ false) (one_text queue p.queue same) apart in
        rest ∙ sym (one_more p posted q ∙ ap (λ (b : Bool). with_one b p.letter (letters_of posted q)) not_here)
    by_test false other rest =
        one_more p (others queue posted) q ∙ ap (with_one (same_text q p.queue) p.letter) rest ∙ sym (one_more p posted q)

here_is : (queue : List ℕ) (p : Posted) (posted : List Posted) (b : Bool) → same_text queue p.queue ≡ b
    → length (letters_of (p ∷ posted) queue) ≡ length (with_one b p.letter (letters_of posted queue))
here_is queue p posted b is =
    ap (λ (l : List Letter). length l) (one_more p posted queue ∙ ap (λ (b : Bool). with_one b p.letter (letters_of posted queue)) is)

-- those of the queue and the others are all
parted : (queue : List ℕ) (posted : List Posted) → length (letters_of posted queue) + length (others queue posted) ≡ length posted
parted queue [] = refl
parted queue (p ∷ posted) = by_test (same_text queue p.queue) refl (parted queue posted)
  where
    by_test : (b : Bool) → same_text queue p.queue ≡ b → length (letters_of posted queue) + length (others queue posted) ≡ length posted
        → length (letters_of (p ∷ posted) queue) + length (if b then others queue posted else p ∷ others queue posted) ≡ length (p ∷ posted)
    by_test true same rest = let here = here_is queue p posted true same in omega (arith, here, rest)
    by_test false other rest = let here = here_is queue p posted false other in omega (arith, here, rest)

-- where no queue has a letter none was posted
nothing_posted : (posted : List Posted) → ((queue : List ℕ) → letters_of posted queue ≡ []) → length posted ≡ 0
nothing_posted [] none = refl
nothing_posted (p ∷ posted) none =
    let here = here_is p.queue p posted true (nat_list_eq_equiv.refl p.queue) in
    let empty = ap (λ (l : List Letter). length l) (none p.queue) in
    absurd (omega (arith, here, empty))

-- the pile at the front, and what the rest has
rest_holds : (entry : List ℕ × Piled) (piles : Piles) (posted : List Posted) → pile_under piles entry.0 ≡ None
    → Holds (entry ∷ piles) posted → Holds piles (others entry.0 posted)
rest_holds entry piles posted alone holds q = by_test (same_text q entry.0) refl
  where
    by_test : (b : Bool) → same_text q entry.0 ≡ b → letters_in piles q ≡ letters_of (others entry.0 posted) q
    by_test true same =
        subst (λ (t : List ℕ). letters_in piles t ≡ letters_of (others entry.0 posted) t) (sym (one_text q entry.0 same))
        (ap letters_on alone ∙ sym (none_here entry.0 posted))
    by_test false other =
        sym (ap (λ (b : Bool). letters_on (if b then Some entry.1 else pile_under piles q)) other) ∙ holds q
        ∙ sym (same_elsewhere entry.0 q posted other)

here_holds : (entry : List ℕ × Piled) (piles : Piles) (posted : List Posted) → Holds (entry ∷ piles) posted → entry.1.letters ≡ letters_of posted entry.0
here_holds entry piles posted holds =
    sym (ap (λ (b : Bool). letters_on (if b then Some entry.1 else pile_under piles entry.0)) (nat_list_eq_equiv.refl entry.0)) ∙ holds entry.0

-- piles of queues that differ have together as many letters as were posted
pub all_counted : (piles : Piles) (posted : List Posted) → AreAlone piles → Holds piles posted → count_in (values_of piles) ≡ length posted
all_counted [] posted alone holds = sym (nothing_posted posted (λ queue. sym (holds queue)))
all_counted (entry ∷ piles) posted alone holds =
    let rest = all_counted piles (others entry.0 posted) alone.1 (rest_holds entry piles posted alone.0 holds) in
    let here : length entry.1.letters ≡ length (letters_of posted entry.0) = ap (λ (l : List Letter). length l) (here_holds entry piles posted holds) in
    omega (arith, rest, here, parted entry.0 posted)

-- the values of a map, as its entries are shown
pub same_values : {A : Type 0} (entries : List (String A × Piled)) → values_of (piles_of entries) ≡ values_of entries
same_values [] = refl
same_values (entry ∷ entries) = ap (λ (vs : List Piled). entry.1 ∷ vs) (same_values entries)

-- ---- the queues of a map differ

none_under : {A : Type 0} (k : String A) (entries : List (String A × Piled)) → AllByRecursion (λ (y : String A). string_cmp k y ≡ Less) (keys_of entries)
    → pile_under (piles_of entries) (string_bytes k) ≡ None
none_under k [] below = refl
none_under k (entry ∷ entries) below =
    let apart : same_text (string_bytes k) (string_bytes entry.0) ≡ false = sym (is_eq-slice_cmp (string_bytes k) (string_bytes entry.0)) ∙ ap is_eq below.0 in
    rw (apart, none_under k entries below.1) refl

pub apart_of : {A : Type 0} (entries : List (String A × Piled)) → IsStrictlySortedBy string_cmp (keys_of entries) → AreApart entries
apart_of [] rising = tt
apart_of (entry ∷ entries) rising =
    (none_under entry.0 entries (sorted_head string_cmp entry.0 (keys_of entries) rising), apart_of entries (sorted_tail string_cmp entry.0 (keys_of entries) rising))
