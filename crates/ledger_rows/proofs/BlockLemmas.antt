-- What the numbers of the blocks say of the numbers of the entries.
use Rattle.std.proofs.Common.{◌≡◌, ℕ, ◌+◌, ◌-◌, ◌*◌, ◌/◌, ◌≤◌, ◌<◌, ◌≢◌, List, [], ◌∷◌, ◌++◌, min, length, length-append, take, drop, get_or, set, slice_index, refl, sym, ap, ap₂, ◌∙◌, subst, arith, inl, inr}
use Rattle.std.specs.Prelude.{slice_set, Option, Some, None, IfSome, IfNone}
use Rattle.std.proofs.lemmas.Bool.{cases_lt, cases_eq}
use Rattle.std.proofs.lemmas.List.{ext_get_or, get_or-drop, get_or-take, length-drop, length-take, length-map, length-set, get_or-set_same, get_or-set_other, map-set, map-append, get_or_append_left, get_or-append_right, take_more}
use Rattle.min_tree.specs.declared.nodes.TheConstants.{ABOVE_ALL}
use Rattle.min_tree.specs.Search.{least, IsFirstAtMost, AllAbove}
use Rattle.min_tree.proofs.LeastLemmas.{least_low, least_high}
use Rattle.entry_lines.specs.Rows.{Row}
use Rattle.ledger_rows.specs.declared.blocks.TheConstants.{PER_BLOCK}
use Rattle.ledger_rows.specs.Blocks.{AreBlocks, AreBlocksBefore, AreBlocksBut, AreBlocksSoFar, block_number}
use Rattle.ledger_rows.specs.Numbers.{lane_number, numbers_of, wants}
use Rattle.ledger_rows.specs.Stretch.{NoneInBlock}
use Rattle.ledger_rows.proofs.Tallies.{all_taken}

stretch_length : (xs : List ℕ) (from : ℕ) → length (take PER_BLOCK (drop from xs)) ≡ min PER_BLOCK (length xs - from)
stretch_length xs from = length-take PER_BLOCK (drop from xs) ∙ ap (min PER_BLOCK) (length-drop from xs)

stretch_at : (xs : List ℕ) (from k : ℕ) → k < PER_BLOCK → get_or (take PER_BLOCK (drop from xs)) k 0 ≡ get_or xs (from + k) 0
stretch_at xs from k lt = get_or-take PER_BLOCK (drop from xs) k 0 lt ∙ get_or-drop from xs k 0

-- two stretches with the same numbers
stretches_same : (xs ys : List ℕ) (from : ℕ) → min PER_BLOCK (length xs - from) ≡ min PER_BLOCK (length ys - from)
    → ((k : ℕ) → k < PER_BLOCK → from + k < length xs → get_or xs (from + k) 0 ≡ get_or ys (from + k) 0)
    → take PER_BLOCK (drop from xs) ≡ take PER_BLOCK (drop from ys)
stretches_same xs ys from long each =
    let one = stretch_length xs from in
    let other = stretch_length ys from in
    ext_get_or 0 (take PER_BLOCK (drop from xs)) (take PER_BLOCK (drop from ys)) (one ∙ long ∙ sym other) (λ k lt.
    let few : k < PER_BLOCK = omega (arith, lt, one) in
    stretch_at xs from k few ∙ each k few (omega (arith, lt, one)) ∙ sym (stretch_at ys from k few))

pub numbers_long : (rows : List Row) → length (numbers_of rows) ≡ length rows
numbers_long rows = length-map {A = Row} rows (λ row. wants row.filed)

-- the number of a block is at most that of each of its entries
pub block_low : (rows : List Row) (block j : ℕ) → j < length rows → j / PER_BLOCK ≡ block → block_number rows block ≤ slice_index (numbers_of rows) j
block_low rows block j within here =
    let numbers = numbers_of rows in
    let k : ℕ = j - block * PER_BLOCK in
    let few : k < PER_BLOCK = omega (arith, here) in
    let long = stretch_length numbers (block * PER_BLOCK) in
    let all = numbers_long rows in
    let low = least_low (take PER_BLOCK (drop (block * PER_BLOCK) numbers)) k (omega (arith, long, all, within, here)) in
    let there : block * PER_BLOCK + k ≡ j = omega (arith, here) in
    let at : get_or (take PER_BLOCK (drop (block * PER_BLOCK) numbers)) k 0 ≡ get_or numbers j 0 = stretch_at numbers (block * PER_BLOCK) k few ∙ ap (λ (n : ℕ). get_or numbers n 0) there in
    omega (arith, low, at)

-- and no number that is at most each of theirs is above it
pub block_high : (rows : List Row) (block m : ℕ) → m ≤ ABOVE_ALL → ((j : ℕ) → j < length rows → j / PER_BLOCK ≡ block → m ≤ slice_index (numbers_of rows) j) → m ≤ block_number rows block
block_high rows block m small each =
    let numbers = numbers_of rows in
    let long = stretch_length numbers (block * PER_BLOCK) in
    let all = numbers_long rows in
    least_high (take PER_BLOCK (drop (block * PER_BLOCK) numbers)) m small (λ k lt.
    let few : k < PER_BLOCK = omega (arith, lt, long) in
    let at = stretch_at numbers (block * PER_BLOCK) k few in
    let e = each (block * PER_BLOCK + k) (omega (arith, lt, long, all)) (omega (arith, few)) in omega (arith, at, e))

-- an entry that is changed changes the number of its block alone
block_set : (rows : List Row) (p block : ℕ) (row : Row) → block ≢ p / PER_BLOCK → block_number (set rows p row) block ≡ block_number rows block
block_set rows p block row apart =
    let numbers = numbers_of rows in
    let n : ℕ = wants row.filed in
    let is : numbers_of (set rows p row) ≡ set numbers p n = map-set {A = Row} (λ r. wants r.filed) rows p row in
    let kept : length (set numbers p n) ≡ length numbers = length-set numbers p n in
    ap (λ (l : List ℕ). least (take PER_BLOCK (drop (block * PER_BLOCK) l))) is
    ∙ ap least (stretches_same (set numbers p n) numbers (block * PER_BLOCK) (ap (λ (k : ℕ). min PER_BLOCK (k - block * PER_BLOCK)) kept)
    (λ k few within. get_or-set_other numbers p (block * PER_BLOCK + k) n 0 (λ (e : block * PER_BLOCK + k ≡ p). apart (omega (arith, e, few)))))

pub blocks_but : (old new : List Row) (values : List ℕ) (p : ℕ) (row : Row) → AreBlocks old values → new ≡ set old p row → AreBlocksBut new values (p / PER_BLOCK)
blocks_but old new values p row are is =
    let kept : length (set old p row) ≡ length old = length-set old p row in
    let reach = are.reach in
    let full = are.so_far.full in
    subst (λ (rows : List Row). AreBlocksBut rows values (p / PER_BLOCK)) (sym is)
    (record {
      reach = omega (arith, kept, reach);
      full = omega (arith, kept, full);
      each = λ block within apart. are.so_far.each block within ∙ sym (block_set old p block row apart);
    })

-- the number of the block that was left out is written
pub blocks_written : (rows : List Row) (before after : List ℕ) (block n : ℕ) → AreBlocksBut rows before block → block < length before → n ≡ block_number rows block
    → after ≡ slice_set before block n → AreBlocks rows after
blocks_written rows before after block n are within value is =
    let kept : length (set before block n) ≡ length before = length-set before block n in
    let reach = are.reach in
    let full = are.full in
    subst (AreBlocks rows) (sym is)
    (record {
      reach = omega (arith, kept, reach);
      so_far = record {
        full = omega (arith, kept, full);
        each = λ b lt. elim (cases_eq b block) [
          | inl here ↦ ap (λ (k : ℕ). get_or (set before block n) k 0) here ∙ get_or-set_same before block n 0 within ∙ value ∙ ap (block_number rows) (sym here)
          | inr apart ↦ get_or-set_other before block b n 0 apart ∙ are.each b (omega (arith, lt, kept)) apart
        ];
      };
    })

pub last_written : (rows : List Row) (before after : List ℕ) (block n : ℕ) → AreBlocksBefore rows before → length before ≡ block + 1 → n ≡ block_number rows block
    → after ≡ slice_set before block n → AreBlocksSoFar rows after
last_written rows before after block n are last value is =
    let kept : length (set before block n) ≡ length before = length-set before block n in
    let full = are.full in
    subst (AreBlocksSoFar rows) (sym is)
    (record {
      full = omega (arith, kept, full);
      each = λ b lt. elim (cases_eq b block) [
        | inl here ↦ ap (λ (k : ℕ). get_or (set before block n) k 0) here ∙ get_or-set_same before block n 0 (omega (arith, last)) ∙ value ∙ ap (block_number rows) (sym here)
        | inr apart ↦ get_or-set_other before block b n 0 apart ∙ are.each b (omega (arith, lt, kept, last, apart))
      ];
    })

-- one block more
pub block_pushed : (rows : List Row) (before after : List ℕ) (n : ℕ) → AreBlocksSoFar rows before → length before * PER_BLOCK < length rows → n ≡ block_number rows (length before)
    → after ≡ before ++ n ∷ [] → AreBlocksSoFar rows after
block_pushed rows before after n are more value is =
    let longer : length (before ++ n ∷ []) ≡ length before + 1 = length-append before (n ∷ []) in
    subst (AreBlocksSoFar rows) (sym is)
    (record {
      full = omega (arith, longer, more);
      each = λ b lt. elim (cases_lt b (length before)) [
        | inl old ↦ get_or_append_left before (n ∷ []) 0 b old ∙ are.each b old
        | inr new ↦
            let here : b ≡ length before = omega (arith, new, lt, longer) in
            let first : b - length before ≡ 0 = omega (arith, here) in
            get_or-append_right before (n ∷ []) (length before) b 0 refl new ∙ ap (λ (k : ℕ). get_or (n ∷ []) k 0) first ∙ value ∙ ap (block_number rows) (sym here)
      ];
    })

-- entries behind the others leave the numbers of the blocks but for the last one
pub blocks_before : (old news new : List Row) (values : List ℕ) → AreBlocks old values → new ≡ old ++ news → AreBlocksBefore new values
blocks_before old news new values are is =
    let longer : length (old ++ news) ≡ length old + length news = length-append old news in
    let full = are.so_far.full in
    subst (λ (rows : List Row). AreBlocksBefore rows values) (sym is)
    (record {
      full = omega (arith, longer, full);
      each = λ block lt. are.so_far.each block (omega (arith, lt)) ∙ same block (omega (arith, lt, full));
    })
  where
    same : (block : ℕ) → (block + 1) * PER_BLOCK ≤ length old → block_number old block ≡ block_number (old ++ news) block
    same block ends =
        let all : numbers_of (old ++ news) ≡ numbers_of old ++ numbers_of news = map-append {A = Row} (λ row. wants row.filed) old news in
        let long = numbers_long old in
        let both : length (numbers_of old ++ numbers_of news) ≡ length (numbers_of old) + length (numbers_of news) = length-append (numbers_of old) (numbers_of news) in
        ap least (stretches_same (numbers_of old) (numbers_of old ++ numbers_of news) (block * PER_BLOCK) (omega (arith, long, both, ends))
        (λ k few within. sym (get_or_append_left (numbers_of old) (numbers_of news) 0 (block * PER_BLOCK + k) within)))
        ∙ ap (λ (l : List ℕ). least (take PER_BLOCK (drop (block * PER_BLOCK) l))) (sym all)

least_push : (xs : List ℕ) (x : ℕ) → x ≤ ABOVE_ALL → least (xs ++ x ∷ []) ≡ min (least xs) x
least_push [] x small = omega (arith, small)
least_push (y ∷ ys) x small = let e = least_push ys x small in omega (arith, e)

-- the least number so far, with one more
pub least_more : (xs : List ℕ) (from place best x : ℕ) → from ≤ place → place < length xs → best ≡ least (take (place - from) (drop from xs)) → x ≡ slice_index xs place → x ≤ ABOVE_ALL
    → min best x ≡ least (take (place + 1 - from) (drop from xs))
least_more xs from place best x begun within so_far value small =
    let next : place + 1 - from ≡ (place - from) + 1 = omega (arith, begun) in
    let at : get_or (drop from xs) (place - from) 0 ≡ x = get_or-drop from xs (place - from) 0 ∙ ap (λ (n : ℕ). get_or xs n 0) (let e : from + (place - from) ≡ place = omega (arith, begun) in e) ∙ sym value in
    let long = length-drop from xs in
    ap₂ min so_far (sym at) ∙ sym (least_push (take (place - from) (drop from xs)) (get_or (drop from xs) (place - from) 0) (omega (arith, at, small)))
    ∙ ap least (sym (take_more (drop from xs) (place - from) 0 (omega (arith, long, begun, within))))
    ∙ ap (λ (n : ℕ). least (take n (drop from xs))) (sym next)

-- all of a block have been looked at
pub least_all : (xs : List ℕ) (from place : ℕ) → from ≤ place → place ≤ from + PER_BLOCK → min (length xs) (from + PER_BLOCK) ≤ place
    → take (place - from) (drop from xs) ≡ take PER_BLOCK (drop from xs)
least_all xs from place begun few end = elim (cases_lt place (from + PER_BLOCK)) [
  | inl short ↦
      let long = length-drop from xs in
      all_taken (drop from xs) (place - from) (omega (arith, long, short, end)) ∙ sym (all_taken (drop from xs) PER_BLOCK (omega (arith, long, short, end)))
  | inr whole ↦ ap (λ (n : ℕ). take n (drop from xs)) (let e : place - from ≡ PER_BLOCK = omega (arith, whole, few) in e)
]

least_small : (xs : List ℕ) → least xs ≤ ABOVE_ALL
least_small [] = omega arith
least_small (x ∷ xs) = let e = least_small xs in omega (arith, e)

-- the least number of all blocks is that of all entries
pub blocks_least : (rows : List Row) (values : List ℕ) → AreBlocks rows values → least values ≡ lane_number rows
blocks_least rows values are =
    let all = numbers_long rows in
    let reach = are.reach in
    let low : least values ≤ lane_number rows = least_high (numbers_of rows) (least values) (least_small values) (λ j lt.
    let block : ℕ = j / PER_BLOCK in
    let inside : block < length values = omega (arith, lt, all, reach) in
    let one = least_low values block inside in
    let value = are.so_far.each block inside in
    let other = block_low rows block j (omega (arith, lt, all)) refl in
    omega (arith, one, value, other)) in
    let high : lane_number rows ≤ least values = least_high values (lane_number rows) (least_small (numbers_of rows)) (λ block lt.
    let value = are.so_far.each block lt in
    let each = block_high rows block (lane_number rows) (least_small (numbers_of rows)) (λ j within here. least_low (numbers_of rows) j (omega (arith, within, all))) in
    omega (arith, value, each)) in
    omega (arith, low, high)

-- the first number in the rest of a block
pub found_in_block : (rows : List Row) (from bound place n : ℕ) → from ≤ place → place < length rows → n ≡ slice_index (numbers_of rows) place → n ≤ bound
    → ((j : ℕ) → from ≤ j → j < place → bound < slice_index (numbers_of rows) j) → IsFirstAtMost (numbers_of rows) from bound place
found_in_block rows from bound place n begun within value low before =
    let all = numbers_long rows in
    record { behind = begun; in_range = omega (arith, within, all); low = omega (arith, value, low); before = before }

pub none_in_block : (rows : List Row) (from bound place : ℕ) → min (length rows) ((from / PER_BLOCK + 1) * PER_BLOCK) ≤ place
    → ((j : ℕ) → from ≤ j → j < place → bound < slice_index (numbers_of rows) j) → NoneInBlock (numbers_of rows) from bound
none_in_block rows from bound place end before j begun lt here =
    let all = numbers_long rows in before j begun (omega (arith, end, lt, all, here))

-- numbers from a place on are above a bound, up to the begin of a block
above_upto : (rows : List Row) (values : List ℕ) (from bound block : ℕ) → AreBlocks rows values → NoneInBlock (numbers_of rows) from bound
    → AllAbove values (from / PER_BLOCK + 1) block bound → block ≤ length values → (j : ℕ) → from ≤ j → j < length rows → j / PER_BLOCK < block → bound < slice_index (numbers_of rows) j
above_upto rows values from bound block are rest above within j begun lt before =
    let all = numbers_long rows in
    elim (cases_eq (j / PER_BLOCK) (from / PER_BLOCK)) [
      | inl here ↦ rest j begun (omega (arith, lt, all)) here
      | inr apart ↦
          let a = above (j / PER_BLOCK) (omega (arith, begun, apart)) before in
          let value = are.so_far.each (j / PER_BLOCK) (omega (arith, before, within)) in
          let low = block_low rows (j / PER_BLOCK) j lt refl in
          omega (arith, a, value, low)
    ]

pub found_behind : (rows : List Row) (values : List ℕ) (from bound block place : ℕ) → AreBlocks rows values → NoneInBlock (numbers_of rows) from bound
    → IsFirstAtMost values (from / PER_BLOCK + 1) bound block → IsFirstAtMost (numbers_of rows) (block * PER_BLOCK) bound place → IsFirstAtMost (numbers_of rows) from bound place
found_behind rows values from bound block place are rest first here =
    let all = numbers_long rows in
    let later = first.behind in
    let behind = here.behind in
    let in_range = here.in_range in
    let inside = first.in_range in
    record {
      behind = omega (arith, later, behind);
      in_range = here.in_range;
      low = here.low;
      before = λ j begun lt. elim (cases_lt (j / PER_BLOCK) block) [
        | inl sooner ↦ above_upto rows values from bound block are rest first.before (omega (arith, inside)) j begun (omega (arith, lt, in_range, all)) sooner
        | inr inner ↦ here.before j (omega (arith, inner)) lt
      ];
    }

-- the block of a number that is reached has an entry that is
pub not_none : (rows : List Row) (values : List ℕ) (from bound block : ℕ) → AreBlocks rows values → bound < ABOVE_ALL → IsFirstAtMost values from bound block
    → NoneInBlock (numbers_of rows) (block * PER_BLOCK) bound → ⊥
not_none rows values from bound block are small first none =
    let all = numbers_long rows in
    let value = are.so_far.each block first.in_range in
    let low = first.low in
    let high = block_high rows block (bound + 1) (omega (arith, small)) (λ j within here. let n = none j (omega (arith, here)) (omega (arith, within, all)) (omega (arith, here)) in omega (arith, n)) in
    omega (arith, value, low, high)

pub none_behind : (rows : List Row) (values : List ℕ) (from bound : ℕ) → AreBlocks rows values → NoneInBlock (numbers_of rows) from bound
    → AllAbove values (from / PER_BLOCK + 1) (length values) bound → AllAbove (numbers_of rows) from (length rows) bound
none_behind rows values from bound are rest above j begun lt =
    let reach = are.reach in
    above_upto rows values from bound (length values) are rest above (omega arith) j begun lt (omega (arith, lt, reach))

-- what is told of an answer
pub if_some : (o : Option ℕ) (P Q : ℕ → Type 0) → ((n : ℕ) → P n → Q n) → IfSome o P → IfSome o Q
if_some None P Q follows told = told
if_some (Some n) P Q follows told = follows n told

pub if_none : (o : Option ℕ) (P Q : Type 0) → (P → Q) → IfNone o P → IfNone o Q
if_none None P Q follows told = follows told
if_none (Some n) P Q follows told = told
