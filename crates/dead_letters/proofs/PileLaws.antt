-- What the piles of queues show after one of them changed, and what they stand for.
use Rattle.std.specs.Prelude.{Result, Ok, Err, OnOk}
use Rattle.std.proofs.Common.{◌≡◌, ℕ, zero, suc, take, drop, ◌+◌, ◌≤◌, Bool, true, false, Option, Some, None, List, [], ◌∷◌, ◌++◌, map, refl, sym, ap, ◌∙◌, subst, arith, if◌then◌else◌}
use Rattle.std.specs.List.{filter}
use Rattle.std.specs.Map.{lookup}
use Rattle.std.specs.Ordering.{nat_cmp, is_eq}
use Rattle.std.specs.Cmp.Lexicographic.{slice_cmp}
use Rattle.std.specs.String.{string_bytes}
use Rattle.std.specs.declared.string.String.{String}
use Rattle.std.specs.BTreeMap.{BTreeMap, get_by_text}
use Rattle.std.proofs.lemmas.Map.Text.{is_eq-slice_cmp}
use Rattle.std.proofs.lemmas.Cmp.{nat_list_eq_equiv}
use Rattle.std.proofs.lemmas.Slice.Eq.{bytes_eq-Decides}
use Rattle.std.proofs.lemmas.List.{append-nil, map-append}
use Rattle.std.proofs.lemmas.List.Elements.{filter-append}
use Rattle.plain_words.specs.Lists.{same_text}
use Rattle.sched_plain.specs.declared.letter.Letter.{Letter}
use Rattle.sched_plain.specs.Queues.{Posted, letters_of}
use Rattle.dead_letters.specs.Piles.{Piles, Piled, pile_under, letters_on, room_on, letters_in, room_in}
use Rattle.dead_letters.specs.Posts.{Holds, post}
use Rattle.dead_letters.specs.Shown.{piles_of, Changes, Widened, IsAdded, IsWider}

-- a queue's pile is the one that the map has under its text
pub shown_under : {A : Type 0} (entries : List (String A × Piled)) (q : List ℕ)
    → pile_under (piles_of entries) q ≡ lookup (λ (k : String A). is_eq (slice_cmp nat_cmp q (string_bytes k))) entries
shown_under [] q = refl
shown_under (entry ∷ entries) q = rw (← is_eq-slice_cmp q (string_bytes entry.0), shown_under entries q) refl

-- the same of the map itself
pub shown_of : {A : Type 0} (piles : BTreeMap (String A) Piled) (q : List ℕ) → pile_under (piles_of piles.entries) q ≡ get_by_text piles q
shown_of piles q = shown_under piles.entries q

-- two texts that are the same are one
pub one_text : (a b : List ℕ) → same_text a b ≡ true → a ≡ b
one_text a b same = (bytes_eq-Decides a b).0 same

-- ---- a map after one pile changed

module _ {A : Type 0} (old new : BTreeMap (String A) Piled) (queue : List ℕ) (after : Piled) (changes : Changes old new queue after) where
  -- what holds of every queue, where it holds of the changed one and of one that stays
  by_change : (P : Option Piled → Option Piled → Type 0) → P (get_by_text old queue) (Some after) → ((o : Option Piled) → P o o) → (q : List ℕ)
      → P (get_by_text old q) (get_by_text new q)
  by_change P here stays q = by_test (same_text queue q) refl (changes q)
    where
      by_test : (b : Bool) → same_text queue q ≡ b → get_by_text new q ≡ (if b then Some after else get_by_text old q) → P (get_by_text old q) (get_by_text new q)
      by_test true same is =
          subst (λ (o : Option Piled). P (get_by_text old q) o) (sym is)
          (subst (λ (t : List ℕ). P (get_by_text old t) (Some after)) (one_text queue q same) here)
      by_test false other is = subst (λ (o : Option Piled). P (get_by_text old q) o) (sym is) (stays (get_by_text old q))

  -- a wider pile keeps the letters of all
  pub widened_by : (before : Piled) → get_by_text old queue ≡ Some before → IsWider before after → Widened old new
  widened_by before there wider = record {
    letters = by_change (λ o n. letters_on n ≡ letters_on o) (wider.letters ∙ sym (ap letters_on there)) (λ o. refl);
    room =
        by_change (λ o n. room_on o ≤ room_on n) (subst (λ (o : Option Piled). room_on o ≤ after.room) (sym there) wider.room) (λ o. omega arith);
  }

  -- so does a pile with no letter, where none was
  pub widened_new : get_by_text old queue ≡ None → after.letters ≡ [] → Widened old new
  widened_new absent empty = record {
    letters = by_change (λ o n. letters_on n ≡ letters_on o) (empty ∙ sym (ap letters_on absent)) (λ o. refl);
    room =
        by_change (λ o n. room_on o ≤ room_on n) (subst (λ (o : Option Piled). room_on o ≤ after.room) (sym absent) (omega arith)) (λ o. omega arith);
  }

pub widened_twice : {A : Type 0} (old mid new : BTreeMap (String A) Piled) → Widened old mid → Widened mid new → Widened old new
widened_twice old mid new first second = record {
  letters = λ q. second.letters q ∙ first.letters q;
  room = λ q. omega (arith, first.room q, second.room q);
}

pub widened_not : {A : Type 0} (old : BTreeMap (String A) Piled) → Widened old old
widened_not old = record { letters = λ q. refl; room = λ q. omega arith }

-- ---- posted letters

end_by : (b : Bool) (letters : List Letter) (queue : List ℕ) (letter : Letter)
    → letters ++ map (λ (p : Posted). p.letter) (if b then post queue letter ∷ [] else []) ≡ (if b then letters ++ letter ∷ [] else letters)
end_by true letters queue letter = refl
end_by false letters queue letter = append-nil letters

-- one letter more is the last of its queue
posted_more : (posted : List Posted) (queue : List ℕ) (letter : Letter) (q : List ℕ)
    → letters_of (posted ++ post queue letter ∷ []) q ≡ (if same_text queue q then letters_of posted q ++ letter ∷ [] else letters_of posted q)
posted_more posted queue letter q =
    let test = λ (p : Posted). same_text q p.queue in
    ap (λ (ps : List Posted). map (λ (p : Posted). p.letter) ps) (filter-append test posted (post queue letter ∷ []))
    ∙ map-append (λ (p : Posted). p.letter) (filter test posted) (filter test (post queue letter ∷ []))
    ∙ end_by (same_text q queue) (letters_of posted q) queue letter
    ∙ ap (λ (b : Bool). if b then letters_of posted q ++ letter ∷ [] else letters_of posted q) (nat_list_eq_equiv.symm q queue)

-- ---- what contracts see

pub letters_shown : {A : Type 0} (piles : BTreeMap (String A) Piled) (q : List ℕ) → letters_in (piles_of piles.entries) q ≡ letters_on (get_by_text piles q)
letters_shown piles q = ap letters_on (shown_of piles q)

pub room_shown : {A : Type 0} (piles : BTreeMap (String A) Piled) (q : List ℕ) → room_in (piles_of piles.entries) q ≡ room_on (get_by_text piles q)
room_shown piles q = ap room_on (shown_of piles q)

pub room_seen : {A : Type 0} (piles : BTreeMap (String A) Piled) (seen : Piles) (q : List ℕ) → piles_of piles.entries ≡ seen → room_in seen q ≡ room_on (get_by_text piles q)
room_seen piles seen q is = ap (λ (p : Piles). room_in p q) (sym is) ∙ room_shown piles q

-- the letters of a queue, as the map was asked for them by its text
pub letters_seen : {A : Type 0} (piles : BTreeMap (String A) Piled) (seen : Piles) (asked q : List ℕ) (found : Option Piled) → piles_of piles.entries ≡ seen → asked ≡ q
    → found ≡ get_by_text piles asked → letters_on found ≡ letters_in seen q
letters_seen piles seen asked q found is same get =
    ap letters_on (get ∙ ap (λ (t : List ℕ). get_by_text piles t) same) ∙ sym (letters_shown piles q) ∙ ap (λ (p : Piles). letters_in p q) is

-- a page of no letters has none
pub no_page : (max after : ℕ) → let none : List Letter = [] in take max (drop after none) ≡ none
no_page zero zero = refl
no_page zero (suc after) = refl
no_page (suc max) zero = refl
no_page (suc max) (suc after) = refl

pub ok_room : {T E : Type 0} (r : Result T E) (count a b : ℕ) → a ≡ b → OnOk r (count ≤ b) → OnOk r (count ≤ a)
ok_room (Ok t) count a b e h = rw e h
ok_room (Err t) count a b e h = h

module _ {A : Type 0} (old new : BTreeMap (String A) Piled) (seen : Piles) (is : piles_of old.entries ≡ seen) where
  -- after room was made
  module _ (wider : Widened old new) where
    pub same_letters : (q : List ℕ) → letters_in (piles_of new.entries) q ≡ letters_in seen q
    same_letters q = letters_shown new q ∙ wider.letters q ∙ sym (letters_shown old q) ∙ ap (λ (p : Piles). letters_in p q) is

    pub no_less_room : (q : List ℕ) → room_in seen q ≤ room_in (piles_of new.entries) q
    no_less_room q =
        subst (λ (p : Piles). room_in p q ≤ room_in (piles_of new.entries) q) is
        (omega (arith, room_shown old q, room_shown new q, wider.room q))

    pub same_posts : (posted : List Posted) → Holds seen posted → Holds (piles_of new.entries) posted
    same_posts posted holds q = same_letters q ∙ holds q

  -- after a letter was added
  module _ (queue : List ℕ) (letter : Letter) (before after : Piled) (there : get_by_text old queue ≡ Some before) (added : IsAdded before after letter) (changes : Changes old new queue after) where
    added_here : get_by_text new queue ≡ Some after
    added_here = changes queue ∙ ap (λ (b : Bool). if b then Some after else get_by_text old queue) (nat_list_eq_equiv.refl queue)

    letters_by : (b : Bool) (q : List ℕ) → same_text queue q ≡ b → letters_on (get_by_text new q) ≡ (if b then letters_on (get_by_text old q) ++ letter ∷ [] else letters_on (get_by_text old q))
    letters_by true q same =
        subst (λ (t : List ℕ). letters_on (get_by_text new t) ≡ letters_on (get_by_text old t) ++ letter ∷ []) (one_text queue q same)
        (rw (added_here, there) added.letters)
    letters_by false q other = ap letters_on (changes q ∙ ap (λ (b : Bool). if b then Some after else get_by_text old q) other)

    pub one_more : (q : List ℕ) → letters_in (piles_of new.entries) q ≡ (if same_text queue q then letters_in seen q ++ letter ∷ [] else letters_in seen q)
    one_more q =
        let shows : letters_on (get_by_text old q) ≡ letters_in seen q = sym (letters_shown old q) ∙ ap (λ (p : Piles). letters_in p q) is in
        letters_shown new q ∙ letters_by (same_text queue q) q refl ∙ ap (λ (l : List Letter). if same_text queue q then l ++ letter ∷ [] else l) shows

    room_by : (b : Bool) (q : List ℕ) → same_text queue q ≡ b → room_on (get_by_text old q) ≤ room_on (get_by_text new q) + (if b then 1 else 0)
    room_by true q same =
        subst (λ (t : List ℕ). room_on (get_by_text old t) ≤ room_on (get_by_text new t) + 1) (one_text queue q same) (rw (added_here, there) added.room)
    room_by false q other =
        let e = ap room_on (changes q ∙ ap (λ (b : Bool). if b then Some after else get_by_text old q) other) in omega (arith, e)

    pub one_less_room : (q : List ℕ) → room_in seen q ≤ room_in (piles_of new.entries) q + (if same_text queue q then 1 else 0)
    one_less_room q =
        subst (λ (p : Piles). room_in p q ≤ room_in (piles_of new.entries) q + (if same_text queue q then 1 else 0)) is
        (rw (room_shown old q, room_shown new q) (room_by (same_text queue q) q refl))

    pub one_more_post : (posted : List Posted) → Holds seen posted → Holds (piles_of new.entries) (posted ++ post queue letter ∷ [])
    one_more_post posted holds q =
        one_more q ∙ ap (λ (l : List Letter). if same_text queue q then l ++ letter ∷ [] else l) (holds q)
        ∙ sym (posted_more posted queue letter q)
