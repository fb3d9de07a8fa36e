-- Each letter is about an incarnation that is there, so that a page of letters is that page of their rows.
use Rattle.std.proofs.Common.{◌≡◌, ℕ, zero, suc, ◌+◌, ◌-◌, ◌==◌, Bool, true, false, Option, Some, None, is_some, List, [], ◌∷◌, ◌++◌, map, take, drop, filter, find, option_map, refl, sym, ap, ◌∙◌, arith, cond}
use Rattle.std.specs.Prelude.{if◌then◌else◌}
use Rattle.std.specs.List.{list_all}
use Rattle.std.specs.Option.{option_and_then}
use Rattle.std.proofs.lemmas.Bool.{and_parts, and_from}
use Rattle.std.proofs.lemmas.List.Folds.{list_all-append}
use Rattle.plain_words.specs.declared.verdict.Verdict.{Verdict}
use Rattle.plain_words.specs.declared.verdict.Verdict.TheVariants as verdicts
use Rattle.plain_words.specs.Lists.{nth, change_nth, same_text}
use Rattle.plain_words.proofs.ListLemmas.{nth_map, nth_more}
use Rattle.sched_plain.specs.declared.letter.Letter.{Letter}
use Rattle.sched_plain.specs.declared.outcome.Outcome.{Outcome}
use Rattle.sched_plain.specs.declared.outcome.Outcome.TheVariants as outcomes
use Rattle.sched_plain.specs.declared.row.Row.{Row}
use Rattle.sched_plain.specs.declared.step.Step.TheVariants as steps
use Rattle.sched_plain.specs.History.{History, beginning, based, ◌upon◌}
use Rattle.sched_plain.specs.Changes.{Accepted, Written, Removed, changes_of}
use Rattle.sched_plain.specs.Rows.{covers, content_at, rows_after, rows_of}
use Rattle.sched_plain.specs.Ledger.{ledger_of}
use Rattle.sched_plain.specs.Entries.{filed, is_open, outcome_of}
use Rattle.sched_plain.specs.Queues.{Posted, queue_of, letter_in, final_letter, posted, letters}
use Rattle.sched_calls.specs.declared.letter_row.LetterRow.{LetterRow}
use Rattle.sched_calls.specs.Replies.{letter_row, letter_rows, letters_shown}
use Rattle.sched_rows.proofs.LivingLemmas.{all_where}
use Rattle.dead_letters.specs.Piles.{letters_in}
use Rattle.book_parts.specs.Told.{Told}
use Rattle.book_parts.specs.Stands.{Stands}

-- ---- a row that is there stays

first_there : {A : Type 0} (d : Bool) (y x : A) (o : Option A) → is_some (cond d (Some y) o) ≡ is_some (cond d (Some x) o)
first_there true y x o = refl
first_there false y x o = refl

rest_there : {A : Type 0} (d : Bool) (x : A) (o p : Option A) → is_some o ≡ is_some p → is_some (cond d (Some x) o) ≡ is_some (cond d (Some x) p)
rest_there true x o p e = refl
rest_there false x o p e = e

changed_step : {A : Type 0} (b : Bool) (y x : A) (ys xs : List A) (place : ℕ) → is_some (nth ys (place - 1)) ≡ is_some (nth xs (place - 1))
    → is_some (nth (cond b (y ∷ xs) (x ∷ ys)) place) ≡ is_some (nth (x ∷ xs) place)
changed_step true y x ys xs place e = first_there (place == 1) y x (nth xs (place - 1))
changed_step false y x ys xs place e = rest_there (place == 1) x (nth ys (place - 1)) (nth xs (place - 1)) e

changed_there : {A : Type 0} (f : A → A) (xs : List A) (at place : ℕ) → is_some (nth (change_nth f xs at) place) ≡ is_some (nth xs place)
changed_there f [] at place = refl
changed_there f (x ∷ xs) at place = changed_step (at == 1) (f x) x (change_nth f xs (at - 1)) xs place (changed_there f xs (at - 1) (place - 1))

some_more : {A : Type 0} (f : A → A) (xs ys : List A) (place : ℕ) (o : Option A) → nth xs place ≡ o → is_some o ≡ true → is_some (nth (map f xs ++ ys) place) ≡ true
some_more f xs ys place None is e = cc e
some_more f xs ys place (Some x) is e = ap is_some (nth_more (map f xs) ys place (f x) (nth_map f xs place ∙ ap (option_map f) is))

-- the letter is about an incarnation that is there
abbrev is_of_row : List Row → Letter → Bool
is_of_row rows letter = is_some (nth rows letter.inc)

abbrev AllPosted : List Row → List Posted → Type 0
AllPosted rows all = list_all (λ p. is_of_row rows p.letter) all ≡ true

rows_stay : (change : Accepted) (rows : List Row) (inc : ℕ) → is_some (nth rows inc) ≡ true → is_some (nth (rows_after change rows) inc) ≡ true
rows_stay (Written at write) rows inc e = some_more _ rows _ inc (nth rows inc) refl e
rows_stay (Removed at of) rows inc e = changed_there _ rows of inc ∙ e

posted_stay : (change : Accepted) (rows : List Row) (all : List Posted) → AllPosted rows all → AllPosted (rows_after change rows) all
posted_stay change rows all e =
    all_where (λ p. is_of_row rows p.letter) (λ p. is_of_row (rows_after change rows) p.letter) (λ p. rows_stay change rows p.letter.inc) all e

-- ---- the letters of a history

with_more : (rows : List Row) (all more : List Posted) → AllPosted rows all → AllPosted rows more → AllPosted rows (all ++ more)
with_more rows all more e f =
    list_all-append (λ p. is_of_row rows p.letter) all more ∙ and_from (list_all (λ p. is_of_row rows p.letter) all) _ e f

queue_there : (rows : List Row) (inc instant : ℕ) (reason : Outcome) (queue : Option (List ℕ)) → is_some (nth rows inc) ≡ true
    → AllPosted rows (letter_in queue inc instant reason)
queue_there rows inc instant reason None there = refl
queue_there rows inc instant reason (Some queue) there = and_from (is_some (nth rows inc)) true there refl

one_there : (rows : List Row) (inc instant : ℕ) (reason : Outcome) (o : Option Row) → nth rows inc ≡ o
    → AllPosted rows (letter_in (queue_of (option_and_then (λ row. option_map (λ revision. revision.content) (find (covers instant) row.revisions)) o)) inc instant reason)
one_there rows inc instant reason None is = refl
one_there rows inc instant reason (Some row) is =
    queue_there rows inc instant reason (queue_of (option_map (λ revision. revision.content) (find (covers instant) row.revisions))) (ap is_some is)

letter_there : (rows : List Row) (inc instant : ℕ) (reason : Outcome) → AllPosted rows (letter_in (queue_of (content_at rows inc instant)) inc instant reason)
letter_there rows inc instant reason = one_there rows inc instant reason (nth rows inc) refl

final_there : (rows : List Row) (inc instant : ℕ) (verdict : Verdict) → AllPosted rows (final_letter verdict (queue_of (content_at rows inc instant)) inc instant)
final_there rows inc instant verdicts.Done = refl
final_there rows inc instant verdicts.Retry = refl
final_there rows inc instant verdicts.Final = letter_there rows inc instant outcomes.Final

if_there : (b : Bool) (rows : List Row) (all : List Posted) → AllPosted rows all → AllPosted rows (if b then all else [])
if_there true rows all e = e
if_there false rows all e = refl

posted_there : (h : History) → AllPosted (rows_of (changes_of h)) (posted h)
posted_there beginning = refl
posted_there (based b kept) = posted_there kept
posted_there (steps.Boot at upon h) = posted_there h
posted_there (steps.Zone at name bytes upon h) = posted_there h
posted_there (steps.Change at write upon h) = posted_stay (Written at.0 write) (rows_of (changes_of h)) (posted h) (posted_there h)
posted_there (steps.Enter at of pairs upon h) = posted_there h
posted_there (steps.Lease at shard worker epoch until upon h) = posted_there h
posted_there (steps.Release at shard worker epoch upon h) = posted_there h
posted_there (steps.Begin at of instant number epoch upon h) = posted_there h
posted_there (steps.End at of instant number verdict status upon h) =
    let rows = rows_of (changes_of h) in
    with_more rows (posted h) _ (posted_there h) (if_there (is_open (filed (ledger_of h) of instant)) rows _ (final_there rows of instant verdict))
posted_there (steps.Close at of instant reason upon h) =
    let rows = rows_of (changes_of h) in
    with_more rows (posted h) _ (posted_there h) (letter_there rows of instant (outcome_of reason))
posted_there (steps.Complete at of upon h) = posted_stay (Removed at.0 of) (rows_of (changes_of h)) (posted h) (posted_there h)
posted_there (steps.Swept at shard upon h) = posted_there h

abbrev AllOfRows : List Row → List Letter → Type 0
AllOfRows rows letters = list_all (is_of_row rows) letters ≡ true

in_queue : (rows : List Row) (queue : List ℕ) (all : List Posted) → AllPosted rows all
    → AllOfRows rows (map {A = Posted} (λ p. p.letter) (filter (λ p. same_text queue p.queue) all))
in_queue rows queue [] e = refl
in_queue rows queue (p ∷ all) e =
    let parts = and_parts (is_of_row rows p.letter) (list_all (λ q. is_of_row rows q.letter) all) e in
    step (same_text queue p.queue) parts.0 (in_queue rows queue all parts.1)
  where
    step : (b : Bool) → is_of_row rows p.letter ≡ true → AllOfRows rows (map {A = Posted} (λ q. q.letter) (filter (λ q. same_text queue q.queue) all))
        → AllOfRows rows (map {A = Posted} (λ q. q.letter) (cond b (p ∷ filter (λ q. same_text queue q.queue) all) (filter (λ q. same_text queue q.queue) all)))
    step true there rest = and_from (is_of_row rows p.letter) _ there rest
    step false there rest = rest

letters_there : (h : History) (queue : List ℕ) → AllOfRows (rows_of (changes_of h)) (letters h queue)
letters_there h queue = in_queue (rows_of (changes_of h)) queue (posted h) (posted_there h)

-- ---- pages of them

-- the row of a letter about an incarnation that is there
row_there : (rows : List Row) (n : ℕ) (letter : Letter) (o : Option Row) → nth rows letter.inc ≡ o → is_some o ≡ true
    → (x : LetterRow) × (letter_row rows n letter ≡ x ∷ [])
row_there rows n letter None is e = cc e
row_there rows n letter (Some row) is e =
    (record { number = n; inc = letter.inc; instant = letter.instant; reason = letter.reason; group = row.group; name = row.name }, rw is refl)

rows_dropped : (rows : List Row) (after n m : ℕ) (ls : List Letter) → AllOfRows rows ls → n + after ≡ m
    → drop after (letter_rows rows n ls) ≡ letter_rows rows m (drop after ls)
rows_dropped rows zero n m ls there e = ap (λ (k : ℕ). letter_rows rows k ls) (omega (arith, e))
rows_dropped rows (suc after) n m [] there e = refl
rows_dropped rows (suc after) n m (l ∷ ls) there e =
    let parts = and_parts (is_of_row rows l) (list_all (is_of_row rows) ls) there in
    let here = row_there rows n l (nth rows l.inc) refl parts.0 in
    ap (λ (front : List LetterRow). drop (suc after) (front ++ letter_rows rows (n + 1) ls)) here.1
    ∙ rows_dropped rows after (n + 1) m ls parts.1 (omega (arith, e))

rows_taken : (rows : List Row) (max n : ℕ) (ls : List Letter) → AllOfRows rows ls → take max (letter_rows rows n ls) ≡ letter_rows rows n (take max ls)
rows_taken rows zero n ls there = refl
rows_taken rows (suc max) n [] there = refl
rows_taken rows (suc max) n (l ∷ ls) there =
    let parts = and_parts (is_of_row rows l) (list_all (is_of_row rows) ls) there in
    let here = row_there rows n l (nth rows l.inc) refl parts.0 in
    ap (λ (front : List LetterRow). take (suc max) (front ++ letter_rows rows (n + 1) ls)) here.1
    ∙ ap (λ (rest : List LetterRow). here.0 ∷ rest) (rows_taken rows max (n + 1) ls parts.1)
    ∙ ap (λ (front : List LetterRow). front ++ letter_rows rows (n + 1) (take max ls)) (sym here.1)

all_dropped : (rows : List Row) (after : ℕ) (ls : List Letter) → AllOfRows rows ls → AllOfRows rows (drop after ls)
all_dropped rows zero ls there = there
all_dropped rows (suc after) [] there = refl
all_dropped rows (suc after) (l ∷ ls) there =
    all_dropped rows after ls (and_parts (is_of_row rows l) (list_all (is_of_row rows) ls) there).1

rows_paged : (rows : List Row) (after max : ℕ) (ls : List Letter) → AllOfRows rows ls
    → letter_rows rows (after + 1) (take max (drop after ls)) ≡ take max (drop after (letter_rows rows 1 ls))
rows_paged rows after max ls there =
    sym (rows_taken rows max (after + 1) (drop after ls) (all_dropped rows after ls there))
    ∙ ap (take max) (sym (rows_dropped rows after 1 (after + 1) ls there (omega arith)))

-- what the parts show of a queue is what the history does
pub letters_are : (b : Told) (h : History) (queue : List ℕ) (after max : ℕ) (page slice : List Letter) (shown : List LetterRow) → Stands b h
    → page ≡ take max (drop after (letters_in b.letters queue)) → slice ≡ page → shown ≡ letter_rows b.rows.rows (after + 1) slice → shown ≡ letters_shown h queue after max
letters_are b h queue after max page slice shown st paged sliced is =
    is
    ∙ ap (letter_rows b.rows.rows (after + 1)) (sliced ∙ paged ∙ ap (λ (ls : List Letter). take max (drop after ls)) (st.letters queue))
    ∙ ap (λ (rows : List Row). letter_rows rows (after + 1) (take max (drop after (letters h queue)))) st.rows.rows
    ∙ rows_paged (rows_of (changes_of h)) after max (letters h queue) (letters_there h queue)
