-- The letters of a queue about an occurrence are those that its entry's outcome owes the queue.
use Rattle.std.proofs.Common.{◌≡◌, ℕ, Bool, true, false, cond, Option, Some, None, List, [], ◌∷◌, map, filter, refl, sym, ap, ◌∙◌}
use Rattle.sched_plain.specs.declared.letter.Letter.{Letter}
use Rattle.sched_plain.specs.declared.outcome.Outcome.{Outcome}
use Rattle.sched_plain.specs.declared.outcome.Outcome.TheVariants as outcomes
use Rattle.plain_words.specs.Lists.{only_if}
use Rattle.sched_plain.specs.Rows.{same_text}
use Rattle.sched_plain.specs.Queues.{Posted, letter_in, posted}
use Rattle.book_laws.specs.OutcomeLaws.{decision}
use Rattle.book_laws.specs.LetterLaws.{is_about, queue_named, is_that_queue, letters_owed, LettersAreOwed}
use Rattle.book_laws.proofs.PostedLetters.{letter_for}
use Rattle.book_laws.proofs.LetteredSteps.{lettered}

-- the letters of these in a queue
abbrev in_queue : List ℕ → List Posted → List Letter
in_queue queue all = map {A = Posted} (λ p. p.letter) (filter (λ p. same_text queue p.queue) all)

map_chosen : (b : Bool) (p : Posted) (one other : List Posted)
    → map {A = Posted} {B = Letter} (λ x. x.letter) (cond b (p ∷ one) other) ≡ cond b (p.letter ∷ map (λ x. x.letter) one) (map (λ x. x.letter) other)
map_chosen true p one other = refl
map_chosen false p one other = refl

-- a filter of the letters is the letters of a filter
filter_letters : (test : Letter → Bool) (all : List Posted)
    → filter test (map {A = Posted} (λ p. p.letter) all) ≡ map {A = Posted} (λ p. p.letter) (filter (λ p. test p.letter) all)
filter_letters test [] = refl
filter_letters test (p ∷ all) =
    ap (λ rest. cond (test p.letter) (p.letter ∷ rest) rest) (filter_letters test all)
    ∙ sym (map_chosen (test p.letter) p (filter (λ x. test x.letter) all) (filter (λ x. test x.letter) all))

-- one element more, by whether it passes each of the two
swap_more : (p q : Posted → Bool) (x : Posted) (b d : Bool) → p x ≡ b → q x ≡ d → (one other : List Posted) → filter p one ≡ filter q other
    → filter p (cond d (x ∷ one) one) ≡ filter q (cond b (x ∷ other) other)
swap_more p q x true true is also one other same =
    ap (λ b. cond b (x ∷ filter p one) (filter p one)) is ∙ ap (λ rest. x ∷ rest) same
    ∙ sym (ap (λ b. cond b (x ∷ filter q other) (filter q other)) also)
swap_more p q x true false is also one other same = same ∙ sym (ap (λ b. cond b (x ∷ filter q other) (filter q other)) also)
swap_more p q x false true is also one other same = ap (λ b. cond b (x ∷ filter p one) (filter p one)) is ∙ same
swap_more p q x false false is also one other same = same

-- a filter of a filter, either first
filters_swap : (p q : Posted → Bool) (all : List Posted) → filter p (filter q all) ≡ filter q (filter p all)
filters_swap p q [] = refl
filters_swap p q (x ∷ all) = swap_more p q x (p x) (q x) refl refl (filter q all) (filter p all) (filters_swap p q all)

letter_owed : (queue : List ℕ) (named : Option (List ℕ)) (inc i : ℕ) (reason : Outcome)
    → in_queue queue (letter_in named inc i reason) ≡ only_if (is_that_queue named queue) (record { inc = inc; instant = i; reason = reason })
letter_owed queue None inc i reason = refl
letter_owed queue (Some named) inc i reason = one (same_text queue named)
  where
    one : (b : Bool) → map {A = Posted} {B = Letter} (λ p. p.letter) (cond b (record { queue = named; letter = record { inc = inc; instant = i; reason = reason } } ∷ []) []) ≡ only_if b (record { inc = inc; instant = i; reason = reason })
    one true = refl
    one false = refl

owed : (queue : List ℕ) (outcome : Option Outcome) (named : Option (List ℕ)) (inc i : ℕ)
    → in_queue queue (letter_for outcome named inc i) ≡ letters_owed outcome (is_that_queue named queue) inc i
owed queue None named inc i = refl
owed queue (Some outcomes.Done) named inc i = refl
owed queue (Some outcomes.Final) named inc i = letter_owed queue named inc i outcomes.Final
owed queue (Some outcomes.Attempts) named inc i = letter_owed queue named inc i outcomes.Attempts
owed queue (Some outcomes.Age) named inc i = letter_owed queue named inc i outcomes.Age
owed queue (Some outcomes.Cancelled) named inc i = refl

pub letters_are_owed : LettersAreOwed
letters_are_owed c h legal queue inc i =
    filter_letters (is_about inc i) (filter (λ p. same_text queue p.queue) (posted h))
    ∙ ap (map {A = Posted} (λ p. p.letter)) (filters_swap (λ p. is_about inc i p.letter) (λ p. same_text queue p.queue) (posted h))
    ∙ ap (in_queue queue) (lettered c h legal inc i)
    ∙ owed queue (decision h inc i) (queue_named h inc i) inc i
