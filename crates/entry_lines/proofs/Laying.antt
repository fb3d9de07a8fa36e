-- The rows that the lines stand for after a change.
use Rattle.std.proofs.Common.{◌≡◌, ℕ, suc, ◌+◌, ◌-◌, ◌≤◌, ◌<◌, ◌≢◌, List, [], ◌∷◌, ◌++◌, map, min, length, length-append, take, drop, get_or, set, refl, sym, ap, ap₂, ◌∙◌, arith, inl, inr, subst}
use Rattle.std.specs.Prelude.{slice_index_or, slice_set}
use Rattle.std.specs.List.{insert}
use Rattle.std.proofs.lemmas.Bool.{cases_lt, cases_eq}
use Rattle.std.proofs.lemmas.List.{ext_get_or, length-map, length-set, get_or-map, get_or-set_same, get_or-set_other, get_or_append_left, get_or-append_right, map-append}
use Rattle.std.proofs.lemmas.List.Edits.{length-insert}
use Rattle.sched_plain.specs.declared.entry.Attempt.{Attempt}
use Rattle.sched_plain.specs.declared.entry.Entry.{Entry}
use Rattle.sched_plain.specs.declared.entry.Fate.TheVariants as fates
use Rattle.sched_plain.specs.declared.schedule.Policy.{Policy}
use Rattle.sched_plain.specs.declared.step.Pair.{Pair}
use Rattle.entry_lines.specs.Rows.{Row, no_row, no_policy, row_there, new_row, changed}
use Rattle.entry_lines.specs.Written.{Written, no_line, line_at, new_line, moved, stop}
use Rattle.entry_lines.specs.Laid.{row_of, rows_of, AreLaid, IsWritten, IsOpened, IsMapped, IsKept}
use Rattle.entry_lines.specs.declared.entry_lines.TheConstants.{MOST_ENTRIES}
use Rattle.entry_lines.proofs.Spans.{span_before, span_behind, span_grown, span_mapped, spans_same}

no_attempt : Attempt
no_attempt = record { number = 0; begun = record { 0 = 0 }; epoch = 0; fate = fates.Live }

-- a list of which one element alone is another
pub rows_set : (f g : Written → Row) (old new : List Written) (p : ℕ) (row : Row) → length new ≡ length old → p < length old
    → ((j : ℕ) → j < length old → j ≢ p → g (line_at new j) ≡ f (line_at old j)) → g (line_at new p) ≡ row → map g new ≡ set (map f old) p row
rows_set f g old new p row long within others here =
    let olds : length (map f old) ≡ length old = length-map old f in
    let news : length (map g new) ≡ length new = length-map new g in
    let kept : length (set (map f old) p row) ≡ length (map f old) = length-set (map f old) p row in
    ext_get_or no_row (map g new) (set (map f old) p row) (omega (arith, olds, news, kept, long)) (λ j lt.
    let inside : j < length old = omega (arith, lt, news, long) in
    let at : get_or (map g new) j no_row ≡ g (line_at new j) = get_or-map g new j no_line no_row (omega (arith, inside, long)) in
    elim (cases_eq j p) [
      | inl same ↦
          at ∙ ap (λ (n : ℕ). g (line_at new n)) same ∙ here ∙ sym (ap (λ (n : ℕ). get_or (set (map f old) p row) n no_row) same ∙ get_or-set_same (map f old) p row no_row (omega (arith, within, olds)))
      | inr apart ↦
          at ∙ others j inside apart ∙ sym (get_or-set_other (map f old) p j row no_row apart ∙ get_or-map f old j no_line no_row inside)
    ])

-- the row at a place is that of the line there
pub row_is : (f : Written → Row) (lines : List Written) (p : ℕ) → p < length lines → row_there (map f lines) p ≡ f (line_at lines p)
row_is f lines p within = get_or-map f lines p no_line no_row within

-- lines that begin, end and are governed alike lie alike
pub laid_alike : (old new : List Written) (policies attempts known all : ℕ) → length new ≡ length old → policies ≤ known → attempts ≤ all
    → ((j : ℕ) → j < length old → (line_at new j).start ≡ (line_at old j).start) → ((j : ℕ) → j < length old → (line_at new j).entry.used ≡ (line_at old j).entry.used)
    → ((j : ℕ) → j < length old → (line_at new j).policy ≡ (line_at old j).policy) → AreLaid old policies attempts → AreLaid new known all
laid_alike old new policies attempts known all long more longer starts useds governs laid = record {
  rising = λ i j lt within.
      let j_in : j < length old = omega (arith, within, long) in
      let i_in : i < length old = omega (arith, lt, j_in) in
      let a = starts j j_in in let b = starts i i_in in let c = useds i i_in in let d = laid.rising i j lt j_in in omega (arith, a, b, c, d);
  within = λ j within.
      let j_in : j < length old = omega (arith, within, long) in
      let a = starts j j_in in let c = useds j j_in in let d = laid.within j j_in in omega (arith, a, c, d, longer);
  known = λ j within.
      let j_in : j < length old = omega (arith, within, long) in
      let a = governs j j_in in let d = laid.known j j_in in omega (arith, a, d, more);
}

-- a fact of the written line and of the others is one of each
pub each_written : (P : Written → Written → Type 0) (old new : List Written) (p : ℕ) (entry : Entry) → IsWritten old new p entry
    → ((l : Written) → P l l) → P (line_at old p) (record (line_at old p) { entry = entry }) → (j : ℕ) → j < length old → P (line_at old j) (line_at new j)
each_written P old new p entry is same here j within = elim (cases_eq j p) [
  | inl at ↦ subst (λ (n : ℕ). P (line_at old n) (line_at new n)) (sym at) (subst (P (line_at old p)) (sym is.here) here)
  | inr apart ↦ subst (P (line_at old j)) (sym (is.there j within apart)) (same (line_at old j))
]

pub laid_written : (old new : List Written) (policies attempts all p : ℕ) (entry : Entry) → IsWritten old new p entry → all ≡ attempts → entry.used ≡ (line_at old p).entry.used
    → AreLaid old policies attempts → AreLaid new policies all
laid_written old new policies attempts all p entry is longer used laid =
    laid_alike old new policies attempts policies all is.long (omega arith) (omega (arith, longer))
    (each_written (λ a b. b.start ≡ a.start) old new p entry is (λ l. refl) refl)
    (each_written (λ a b. b.entry.used ≡ a.entry.used) old new p entry is (λ l. refl) used)
    (each_written (λ a b. b.policy ≡ a.policy) old new p entry is (λ l. refl) refl) laid

-- a row is made of these
row_same : (policies : List Policy) (attempts : List Attempt) (line : Written) (grown : List Attempt) (entry : Entry) (all : List Attempt)
    → take entry.used (drop line.start all) ≡ grown
    → row_of policies all (record line { entry = entry }) ≡ record (row_of policies attempts line) { filed = record { entry = entry; policy = slice_index_or policies line.policy no_policy }; attempts = grown }
row_same policies attempts line grown entry all same =
    λ i. record { instant = line.instant; filed = record { entry = entry; policy = slice_index_or policies line.policy no_policy }; attempts = same i }

-- an entry is written, and its attempts are changed one by one
pub rows_mapped : (policies : List Policy) (before after : List Attempt) (old new : List Written) (p : ℕ) (entry : Entry) (f : Attempt → Attempt)
    → AreLaid old (length policies) (length before) → p < length old → IsWritten old new p entry → IsMapped f before after (line_at old p).start (stop (line_at old p))
    → entry.used ≡ (line_at old p).entry.used
    → rows_of policies after new ≡ slice_set (rows_of policies before old) p (changed (λ e. entry) (map f) (row_there (rows_of policies before old) p))
rows_mapped policies before after old new p entry f laid within is mapped used =
    let line = line_at old p in
    rows_set (row_of policies before) (row_of policies after) old new p (changed (λ e. entry) (map f) (row_there (rows_of policies before old) p)) is.long within
    (λ j inside apart. ap (row_of policies after) (is.there j inside apart) ∙ other j inside apart)
    (ap (row_of policies after) is.here
    ∙ row_same policies before line (map f (take line.entry.used (drop line.start before))) entry after
    (ap (λ (n : ℕ). take n (drop line.start after)) used
    ∙ span_mapped no_attempt f before after line.start line.entry.used (laid.within p within) mapped.long (λ k le lt. mapped.inside k no_attempt le lt))
    ∙ ap (λ (row : Row). changed (λ e. entry) (map f) row) (sym (row_is (row_of policies before) old p within)))
  where
    other : (j : ℕ) → j < length old → j ≢ p → row_of policies after (line_at old j) ≡ row_of policies before (line_at old j)
    other j inside apart =
        let mine = line_at old j in
        let fits : mine.start + mine.entry.used ≤ length before = laid.within j inside in
        let same : take mine.entry.used (drop mine.start after) ≡ take mine.entry.used (drop mine.start before) =
        spans_same no_attempt after before mine.start mine.start mine.entry.used (let e = mapped.long in omega (arith, e, fits)) fits (λ k lt. elim (cases_lt j p) [
          | inl first ↦ let r = laid.rising j p first within in mapped.below (mine.start + k) no_attempt (omega (arith, r, lt))
          | inr late ↦ let r = laid.rising p j (omega (arith, late, apart)) inside in mapped.above (mine.start + k) no_attempt (omega (arith, r)) (omega (arith, fits, lt))
        ]) in
        λ i. record { instant = mine.instant; filed = record { entry = mine.entry; policy = slice_index_or policies mine.policy no_policy }; attempts = same i }

-- an entry alone is written
pub rows_written : (policies : List Policy) (attempts : List Attempt) (old new : List Written) (p : ℕ) (entry : Entry)
    → p < length old → IsWritten old new p entry → entry.used ≡ (line_at old p).entry.used
    → rows_of policies attempts new ≡ slice_set (rows_of policies attempts old) p (changed (λ e. entry) (λ before. before) (row_there (rows_of policies attempts old) p))
rows_written policies attempts old new p entry within is used =
    let line = line_at old p in
    rows_set (row_of policies attempts) (row_of policies attempts) old new p (changed (λ e. entry) (λ before. before) (row_there (rows_of policies attempts old) p)) is.long within
    (λ j inside apart. ap (row_of policies attempts) (is.there j inside apart))
    (ap (row_of policies attempts) is.here
    ∙ row_same policies attempts line (take line.entry.used (drop line.start attempts)) entry attempts (ap (λ (n : ℕ). take n (drop line.start attempts)) used)
    ∙ ap (λ (row : Row). changed (λ e. entry) (λ before. before) row) (sym (row_is (row_of policies attempts) old p within)))

-- a line behind one that has one attempt more
moved_start : (start all : ℕ) → start ≤ all → all ≤ MOST_ENTRIES → min (start + 1) 4294967295 ≡ start + 1
moved_start start all le few = omega (arith, le, few)

record Opens (old new : List Written) (p : ℕ) (entry : Entry) (policies attempts : ℕ) : Type 0 where
  laid : AreLaid old policies attempts
  few : attempts ≤ MOST_ENTRIES
  within : p < length old
  is : IsOpened old new p entry
  used : entry.used ≡ (line_at old p).entry.used + 1

behind_start : (old new : List Written) (p policies attempts j : ℕ) (entry : Entry) → Opens old new p entry policies attempts → p < j → j < length old
    → (line_at new j).start ≡ (line_at old j).start + 1
behind_start old new p policies attempts j entry o lt inside =
    let fits = o.laid.within j inside in
    ap {A = Written} (λ l. l.start) (o.is.behind j lt inside) ∙ moved_start (line_at old j).start attempts (omega (arith, fits)) o.few

-- how far the start of an entry moved, and how many attempts it has more
record Shifted (old new : List Written) (p j by more : ℕ) : Type 0 where
  start : (line_at new j).start ≡ (line_at old j).start + by
  used : (line_at new j).entry.used ≡ (line_at old j).entry.used + more
  policy : (line_at new j).policy ≡ (line_at old j).policy

shifted_at : (old new : List Written) (p policies attempts : ℕ) (entry : Entry) → Opens old new p entry policies attempts → Shifted old new p p 0 1
shifted_at old new p policies attempts entry o = record {
  start = ap {A = Written} (λ l. l.start) o.is.here ∙ omega arith;
  used = ap {A = Written} (λ l. l.entry.used) o.is.here ∙ o.used;
  policy = ap {A = Written} (λ l. l.policy) o.is.here;
}

shifted_before : (old new : List Written) (p policies attempts j : ℕ) (entry : Entry) → Opens old new p entry policies attempts → j < p → Shifted old new p j 0 0
shifted_before old new p policies attempts j entry o lt = record {
  start = ap {A = Written} (λ l. l.start) (o.is.before j lt) ∙ omega arith;
  used = ap {A = Written} (λ l. l.entry.used) (o.is.before j lt) ∙ omega arith;
  policy = ap {A = Written} (λ l. l.policy) (o.is.before j lt);
}

shifted_behind : (old new : List Written) (p policies attempts j : ℕ) (entry : Entry) → Opens old new p entry policies attempts → p < j → j < length old → Shifted old new p j 1 0
shifted_behind old new p policies attempts j entry o lt inside = record {
  start = behind_start old new p policies attempts j entry o lt inside;
  used = ap {A = Written} (λ l. l.entry.used) (o.is.behind j lt inside) ∙ omega arith;
  policy = ap {A = Written} (λ l. l.policy) (o.is.behind j lt inside);
}

rising_opened : (old new : List Written) (p policies attempts i j : ℕ) (entry : Entry) → Opens old new p entry policies attempts → i < j → j < length old
    → stop (line_at new i) ≤ (line_at new j).start
rising_opened old new p policies attempts i j entry o lt inside =
    let were = o.laid.rising i j lt inside in
    elim (cases_lt p j) [
      | inl late ↦
          let there = shifted_behind old new p policies attempts j entry o late inside in
          elim (cases_lt p i) [
            | inl later ↦ let here = shifted_behind old new p policies attempts i entry o later (omega (arith, lt, inside)) in omega (arith, were, there.start, here.start, here.used)
            | inr sooner ↦ elim (cases_eq i p) [
              | inl same ↦
                  let here : Shifted old new p i 0 1 = subst (λ (n : ℕ). Shifted old new p n 0 1) (sym same) (shifted_at old new p policies attempts entry o) in
                  omega (arith, were, there.start, here.start, here.used)
              | inr apart ↦
                  let here = shifted_before old new p policies attempts i entry o (omega (arith, sooner, apart)) in
                  omega (arith, were, there.start, here.start, here.used)
            ]
          ]
      | inr soon ↦
          let here = shifted_before old new p policies attempts i entry o (omega (arith, soon, lt)) in
          elim (cases_eq j p) [
            | inl same ↦
                let there : Shifted old new p j 0 1 = subst (λ (n : ℕ). Shifted old new p n 0 1) (sym same) (shifted_at old new p policies attempts entry o) in
                omega (arith, were, there.start, here.start, here.used)
            | inr apart ↦
                let there = shifted_before old new p policies attempts j entry o (omega (arith, soon, apart)) in
                omega (arith, were, there.start, here.start, here.used)
          ]
    ]

within_opened : (old new : List Written) (p policies attempts j : ℕ) (entry : Entry) → Opens old new p entry policies attempts → j < length old
    → (stop (line_at new j) ≤ attempts + 1) × ((line_at new j).policy < policies)
within_opened old new p policies attempts j entry o inside =
    let were = o.laid.within j inside in
    let known = o.laid.known j inside in
    elim (cases_lt p j) [
      | inl late ↦ let there = shifted_behind old new p policies attempts j entry o late inside in (omega (arith, were, there.start, there.used), omega (arith, known, there.policy))
      | inr soon ↦ elim (cases_eq j p) [
        | inl same ↦
            let there : Shifted old new p j 0 1 = subst (λ (n : ℕ). Shifted old new p n 0 1) (sym same) (shifted_at old new p policies attempts entry o) in
            (omega (arith, were, there.start, there.used), omega (arith, known, there.policy))
        | inr apart ↦
            let there = shifted_before old new p policies attempts j entry o (omega (arith, soon, apart)) in
            (omega (arith, were, there.start, there.used), omega (arith, known, there.policy))
      ]
    ]

laid_opens : (old new : List Written) (p policies attempts : ℕ) (entry : Entry) → Opens old new p entry policies attempts → AreLaid new policies (attempts + 1)
laid_opens old new p policies attempts entry o = record {
  rising = λ i j lt within. rising_opened old new p policies attempts i j entry o lt (let e = o.is.long in omega (arith, within, e));
  within = λ j within. (within_opened old new p policies attempts j entry o (let e = o.is.long in omega (arith, within, e))).0;
  known = λ j within. (within_opened old new p policies attempts j entry o (let e = o.is.long in omega (arith, within, e))).1;
}

pub laid_opened : (old new : List Written) (policies attempts all p : ℕ) (entry : Entry) → AreLaid old policies attempts → attempts ≤ MOST_ENTRIES → p < length old → IsOpened old new p entry
    → entry.used ≡ (line_at old p).entry.used + 1 → all ≡ attempts + 1 → AreLaid new policies all
laid_opened old new policies attempts all p entry laid few within is used longer =
    subst (AreLaid new policies) (sym longer) (laid_opens old new p policies attempts entry (record { laid = laid; few = few; within = within; is = is; used = used }))

-- the rows of lines before and behind the one that has one attempt more
other_opened : (policies : List Policy) (before : List Attempt) (x : Attempt) (old new : List Written) (p j : ℕ) (entry : Entry)
    → Opens old new p entry (length policies) (length before) → j < length old → j ≢ p
    → row_of policies (insert before (stop (line_at old p)) x) (line_at new j) ≡ row_of policies before (line_at old j)
other_opened policies before x old new p j entry o inside apart =
    let mine = line_at old j in
    let place = stop (line_at old p) in
    let fits : mine.start + mine.entry.used ≤ length before = o.laid.within j inside in
    let ends : place ≤ length before = o.laid.within p o.within in
    elim (cases_lt j p) [
      | inl first ↦
          let r = o.laid.rising j p first o.within in
          let same : take mine.entry.used (drop mine.start (insert before place x)) ≡ take mine.entry.used (drop mine.start before) =
          span_before no_attempt x before place mine.start mine.entry.used ends (omega (arith, r)) in
          ap (row_of policies (insert before place x)) (o.is.before j first)
          ∙ (λ i. record { instant = mine.instant; filed = record { entry = mine.entry; policy = slice_index_or policies mine.policy no_policy }; attempts = same i })
      | inr late ↦
          let lt : p < j = omega (arith, late, apart) in
          let r = o.laid.rising p j lt inside in
          let next : min (mine.start + 1) 4294967295 ≡ mine.start + 1 = moved_start mine.start (length before) (omega (arith, fits)) o.few in
          let same : take mine.entry.used (drop (min (mine.start + 1) 4294967295) (insert before place x)) ≡ take mine.entry.used (drop mine.start before) =
          ap (λ (n : ℕ). take mine.entry.used (drop n (insert before place x))) next ∙ span_behind no_attempt x before place mine.start mine.entry.used r fits in
          ap (row_of policies (insert before place x)) (o.is.behind j lt inside)
          ∙ (λ i. record { instant = mine.instant; filed = record { entry = mine.entry; policy = slice_index_or policies mine.policy no_policy }; attempts = same i })
    ]

pub rows_opened : (policies : List Policy) (before : List Attempt) (x : Attempt) (old new : List Written) (p : ℕ) (entry : Entry)
    → AreLaid old (length policies) (length before) → length before ≤ MOST_ENTRIES → p < length old → IsOpened old new p entry → entry.used ≡ (line_at old p).entry.used + 1
    → rows_of policies (insert before (stop (line_at old p)) x) new
    ≡ slice_set (rows_of policies before old) p (changed (λ e. entry) (λ own. own ++ x ∷ []) (row_there (rows_of policies before old) p))
rows_opened policies before x old new p entry laid few within is used =
    let line = line_at old p in
    let after = insert before (stop line) x in
    rows_set (row_of policies before) (row_of policies after) old new p (changed (λ e. entry) (λ own. own ++ x ∷ []) (row_there (rows_of policies before old) p)) is.long within
    (λ j inside apart. other_opened policies before x old new p j entry (record { laid = laid; few = few; within = within; is = is; used = used }) inside apart)
    (ap (row_of policies after) is.here
    ∙ row_same policies before line (take line.entry.used (drop line.start before) ++ x ∷ []) entry after
    (ap (λ (n : ℕ). take n (drop line.start after)) used ∙ span_grown no_attempt x before line.start line.entry.used (laid.within p within))
    ∙ ap (λ (row : Row). changed (λ e. entry) (λ own. own ++ x ∷ []) row) (sym (row_is (row_of policies before) old p within)))

-- lines behind the others, with no attempts yet
no_pair : Pair
no_pair = record { instant = 0; chosen = 0 }

old_line : (old news : List Written) (j : ℕ) → j < length old → line_at (old ++ news) j ≡ line_at old j
old_line old news j within = get_or_append_left old news no_line j within

new_there : (old : List Written) (pairs : List Pair) (start policy j : ℕ) → length old ≤ j → j < length (old ++ map (λ pair. new_line pair start policy) pairs)
    → line_at (old ++ map (λ pair. new_line pair start policy) pairs) j ≡ new_line (get_or pairs (j - length old) no_pair) start policy
new_there old pairs start policy j late within =
    let news = map {A = Pair} (λ pair. new_line pair start policy) pairs in
    let all : length (old ++ news) ≡ length old + length news = length-append old news in
    let long : length news ≡ length pairs = length-map {A = Pair} pairs (λ pair. new_line pair start policy) in
    get_or-append_right old news (length old) j no_line refl late
    ∙ get_or-map {X = Pair} (λ pair. new_line pair start policy) pairs (j - length old) no_pair no_line (omega (arith, late, within, all, long))

pub laid_entered : (old : List Written) (pairs : List Pair) (policies known attempts place : ℕ) → AreLaid old policies attempts → policies ≤ known → place < known
    → AreLaid (old ++ map (λ pair. new_line pair attempts place) pairs) known attempts
laid_entered old pairs policies known attempts place laid more there =
    let news = map {A = Pair} (λ pair. new_line pair attempts place) pairs in
    record {
      rising = λ i j lt within. elim (cases_lt j (length old)) [
        | inl first ↦
            let a = ap {A = Written} (λ l. l.start) (old_line old news j first) in
            let b = ap stop (old_line old news i (omega (arith, lt, first))) in
            let r = laid.rising i j lt first in omega (arith, a, b, r)
        | inr late ↦
            let a = ap {A = Written} (λ l. l.start) (new_there old pairs attempts place j late within) in
            elim (cases_lt i (length old)) [
              | inl first ↦ let b = ap stop (old_line old news i first) in let r = laid.within i first in omega (arith, a, b, r)
              | inr later ↦ let b = ap stop (new_there old pairs attempts place i later (omega (arith, lt, within))) in omega (arith, a, b)
            ]
      ];
      within = λ j within. elim (cases_lt j (length old)) [
        | inl first ↦ let b = ap stop (old_line old news j first) in let r = laid.within j first in omega (arith, b, r)
        | inr late ↦ let b = ap stop (new_there old pairs attempts place j late within) in omega (arith, b)
      ];
      known = λ j within. elim (cases_lt j (length old)) [
        | inl first ↦ let b = ap {A = Written} (λ l. l.policy) (old_line old news j first) in let r = laid.known j first in omega (arith, b, r, more)
        | inr late ↦ let b = ap {A = Written} (λ l. l.policy) (new_there old pairs attempts place j late within) in omega (arith, b, there)
      ];
    }

rows_kept : (f g : Written → Row) (lines : List Written) → ((j : ℕ) → j < length lines → g (line_at lines j) ≡ f (line_at lines j)) → map g lines ≡ map f lines
rows_kept f g [] same = refl
rows_kept f g (line ∷ lines) same = ap₂ (λ row rows. row ∷ rows) (same 0 (omega arith)) (rows_kept f g lines (λ j lt. same (suc j) (omega (arith, lt))))

new_rows : (policies : List Policy) (attempts : List Attempt) (policy : Policy) (start place : ℕ) (pairs : List Pair) → slice_index_or policies place no_policy ≡ policy
    → rows_of policies attempts (map (λ pair. new_line pair start place) pairs) ≡ map (new_row policy) pairs
new_rows policies attempts policy start place [] same = refl
new_rows policies attempts policy start place (pair ∷ pairs) same =
    ap₂ (λ (p : Policy) (rows : List Row). new_row p pair ∷ rows) same (new_rows policies attempts policy start place pairs same)

pub rows_entered : (old : List Written) (before after : List Policy) (attempts : List Attempt) (policy : Policy) (place : ℕ) (pairs : List Pair)
    → AreLaid old (length before) (length attempts) → IsKept before after policy place
    → rows_of after attempts (old ++ map (λ pair. new_line pair (length attempts) place) pairs) ≡ rows_of before attempts old ++ map (new_row policy) pairs
rows_entered old before after attempts policy place pairs laid kept =
    map-append (row_of after attempts) old (map {A = Pair} (λ pair. new_line pair (length attempts) place) pairs)
    ∙ ap₂ (λ (a b : List Row). a ++ b) (rows_kept (row_of before attempts) (row_of after attempts) old each) (new_rows after attempts policy (length attempts) place pairs kept.here)
  where
    each : (j : ℕ) → j < length old → row_of after attempts (line_at old j) ≡ row_of before attempts (line_at old j)
    each j inside =
        let mine = line_at old j in
        let same = kept.others mine.policy (laid.known j inside) in
        λ i. record { instant = mine.instant; filed = record { entry = mine.entry; policy = same i }; attempts = take mine.entry.used (drop mine.start attempts) }
