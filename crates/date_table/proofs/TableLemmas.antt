-- Tables of dates: what they hold, and what a number added or changed makes of them.
use Rattle.std.proofs.Common.{◌≡◌, ℕ, ◌+◌, ◌-◌, ◌<◌, ◌≤◌, nat_le, nat_lt, min, true, false, Option, Some, None, List, [], ◌∷◌, ◌++◌, map, length, find, slice_index, slice_set, get_or, refl, sym, ap, ap₂, ◌∙◌, subst, inl, inr, arith, add-one, length-append}
use Rattle.std.specs.Option.{option_and_then, option_map}
use Rattle.std.proofs.lemmas.Bool.{cases_eq, cases_lt, le-leb, lt-leb, lt-ltb, le-ltb}
use Rattle.std.proofs.lemmas.List.{length-map, map-append, length-set, get_or-set_same, get_or-set_other, get_or_read, get_or_push, get_or_append_left}
use Rattle.plain_words.specs.declared.limits.TheConstants.{MOST_INCARNATIONS}
use Rattle.plain_words.specs.Lists.{change_nth, numbers}
use Rattle.plain_words.specs.Ids.{shard_of}
use Rattle.plain_words.proofs.ListLemmas.{nth_past, nth_map, length_numbers}
use Rattle.min_tree.specs.Numbers.{Numbers}
use Rattle.min_tree.specs.Search.{AllAbove, IsFirstAtMost}
use Rattle.date_table.specs.Dates.{never, IsDate, has_come, date_at}
use Rattle.date_table.specs.Tables.{of_shard}
use Rattle.date_table.specs.Shards.{as_number, as_date, place_of, inc_at, count_of, tree_of, number_of, dates_in, IsSharded}
use Rattle.date_table.proofs.NumberLists.{nth_numbers, nth_zero, numbers_push, map_numbers, map_changed, find_first, find_nothing}
use Rattle.date_table.proofs.ShardPlaces.{shard_small, shard_at, place_at, within_count, at_within, places_rise, places_apart, count_mine, count_other, place_next}

-- a date is that of its number
pub date_of_number : (date : Option ℕ) → IsDate date → as_date (as_number date) ≡ date
date_of_number None is = refl
date_of_number (Some date) is = let low : nat_lt date never ≡ true = lt-ltb date never is in rw low refl

-- what has come is at most the moment, and at most the last date
pub come_number : (now number : ℕ) → has_come now (as_date number) ≡ nat_le number (min now (never - 1))
come_number now number =
    elim (cases_lt number never) [
      | inl lt ↦
          let low : nat_lt number never ≡ true = lt-ltb number never lt in
          rw low (elim (cases_lt now number) [
            | inl over ↦
                let under : min now (never - 1) < number = omega arith in
                lt-leb number now over ∙ sym (lt-leb number (min now (never - 1)) under)
            | inr up ↦
                let within : number ≤ min now (never - 1) = omega arith in
                le-leb number now up ∙ sym (le-leb number (min now (never - 1)) within)
          ])
      | inr ge ↦
          let high : nat_lt number never ≡ false = le-ltb number never ge in
          let under : min now (never - 1) < number = omega arith in
          rw high (sym (lt-leb number (min now (never - 1)) under))
    ]

pub length_dates : (trees : List Numbers) (n : ℕ) → length (dates_in trees n) ≡ n
length_dates trees n = length-map (numbers 1 n) (λ inc. as_date (number_of trees inc)) ∙ length_numbers 1 n

-- the date of one that is there, and of one that is not
pub date_there : (trees : List Numbers) (n inc : ℕ) → 1 ≤ inc → inc ≤ n → date_at (dates_in trees n) inc ≡ as_date (number_of trees inc)
date_there trees n inc low up =
    let same : 1 + inc - 1 ≡ inc = omega arith in
    ap (option_and_then (λ date. date))
    (nth_map (λ i. as_date (number_of trees i)) (numbers 1 n) inc
    ∙ ap (option_map (λ i. as_date (number_of trees i))) (nth_numbers 1 n inc low up ∙ ap (λ k. Some k) same))

pub date_before : (trees : List Numbers) (n : ℕ) → date_at (dates_in trees n) 0 ≡ None
date_before trees n = ap (option_and_then (λ date. date)) (nth_zero (dates_in trees n))

pub date_behind : (trees : List Numbers) (n inc : ℕ) → n < inc → date_at (dates_in trees n) inc ≡ None
date_behind trees n inc over =
    let past : length (dates_in trees n) < inc = rw (length_dates trees n) over in
    ap (option_and_then (λ date. date)) (nth_past (dates_in trees n) inc past)

-- a tree that was read is that of its shard
pub tree_read : (trees : List Numbers) (shard : ℕ) (t : Numbers) → length trees ≡ 8 → shard < 8 → t ≡ get_or trees shard t → t ≡ tree_of trees shard
tree_read trees shard t long small is = get_or_read trees shard t (let lt : shard < length trees = omega arith in lt) is _

-- the tree of a shard that was written, and of another
tree_here : (trees : List Numbers) (shard : ℕ) (t : Numbers) → length trees ≡ 8 → shard < 8 → tree_of (slice_set trees shard t) shard ≡ t
tree_here trees shard t long small = get_or-set_same trees shard t _ (let lt : shard < length trees = omega arith in lt)

tree_elsewhere : (trees : List Numbers) (shard other : ℕ) (t : Numbers) → (other ≡ shard → ⊥) → tree_of (slice_set trees shard t) other ≡ tree_of trees other
tree_elsewhere trees shard other t apart = get_or-set_other trees shard other t _ apart

-- the number of an incarnation of the shard that was written, and of another shard
number_here : (trees : List Numbers) (shard : ℕ) (t : Numbers) (inc : ℕ) → length trees ≡ 8 → shard ≡ shard_of inc
    → number_of (slice_set trees shard t) inc ≡ slice_index t.values (place_of inc)
number_here trees shard t inc long mine =
    ap (λ (one : Numbers). slice_index one.values (place_of inc))
    (ap (tree_of (slice_set trees shard t)) (sym mine) ∙ tree_here trees shard t long (subst (λ k. k < 8) (sym mine) (shard_small inc)))

number_elsewhere : (trees : List Numbers) (shard : ℕ) (t : Numbers) (inc : ℕ) → (shard ≡ shard_of inc → ⊥)
    → number_of (slice_set trees shard t) inc ≡ number_of trees inc
number_elsewhere trees shard t inc other =
    ap (λ (one : Numbers). slice_index one.values (place_of inc)) (tree_elsewhere trees shard (shard_of inc) t (λ e. other (sym e)))

-- a number that was changed
changed_here : (values : List ℕ) (place number : ℕ) → place < length values → slice_index (slice_set values place number) place ≡ number
changed_here values place number lt = get_or-set_same values place number 0 lt

changed_elsewhere : (trees : List Numbers) (n inc : ℕ) (t : Numbers) (number : ℕ) → length trees ≡ 8 → 1 ≤ inc
    → t.values ≡ slice_set (tree_of trees (shard_of inc)).values (place_of inc) number
    → (i : ℕ) → 1 ≤ i → (i ≡ inc → ⊥) → number_of (slice_set trees (shard_of inc) t) i ≡ number_of trees i
changed_elsewhere trees n inc t number long low is i least apart =
    elim (cases_eq (shard_of inc) (shard_of i)) [
      | inl mine ↦
          let other : place_of i ≡ place_of inc → ⊥ = places_apart i inc least low (sym mine) apart in
          number_here trees (shard_of inc) t i long mine
          ∙ ap (λ xs. slice_index xs (place_of i)) is
          ∙ get_or-set_other (tree_of trees (shard_of inc)).values (place_of inc) (place_of i) number 0 other
          ∙ ap (λ k. slice_index (tree_of trees k).values (place_of i)) mine
      | inr other ↦ number_elsewhere trees (shard_of inc) t i other
    ]

pub dates_changed : (trees : List Numbers) (n inc : ℕ) (t : Numbers) (date : Option ℕ) → IsSharded trees n → 1 ≤ inc → inc ≤ n
    → t.values ≡ slice_set (tree_of trees (shard_of inc)).values (place_of inc) (as_number date) → IsDate date
    → dates_in (slice_set trees (shard_of inc) t) n ≡ change_nth (λ (old : Option ℕ). date) (dates_in trees n) inc
dates_changed trees n inc t date sharded low up is dated =
    let long : length trees ≡ 8 = sharded.shards in
    let count : length (tree_of trees (shard_of inc)).values ≡ count_of (shard_of inc) n = sharded.counts (shard_of inc) (shard_small inc) in
    let there : place_of inc < count_of (shard_of inc) n = within_count inc n low up in
    let within : place_of inc < length (tree_of trees (shard_of inc)).values = omega arith in
    let here : number_of (slice_set trees (shard_of inc) t) inc ≡ as_number date =
    number_here trees (shard_of inc) t inc long refl
    ∙ ap (λ xs. slice_index xs (place_of inc)) is
    ∙ changed_here (tree_of trees (shard_of inc)).values (place_of inc) (as_number date) within in
    map_changed (λ i. as_date (number_of trees i)) (λ i. as_date (number_of (slice_set trees (shard_of inc) t) i)) date inc 1 n inc
    low (omega arith) (omega arith) (ap as_date here ∙ date_of_number date dated)
    (λ i least apart. ap as_date (changed_elsewhere trees n inc t (as_number date) long low is i least apart))

-- a number that was added
added_before : (trees : List Numbers) (n : ℕ) (t : Numbers) (number : ℕ) → IsSharded trees n
    → t.values ≡ (tree_of trees (shard_of (n + 1))).values ++ number ∷ []
    → (i : ℕ) → 1 ≤ i → i < 1 + n → number_of (slice_set trees (shard_of (n + 1)) t) i ≡ number_of trees i
added_before trees n t number sharded is i least below =
    elim (cases_eq (shard_of (n + 1)) (shard_of i)) [
      | inl mine ↦
          let count : length (tree_of trees (shard_of i)).values ≡ count_of (shard_of i) n = sharded.counts (shard_of i) (shard_small i) in
          let there : place_of i < count_of (shard_of i) n = within_count i n least (omega arith) in
          let within : place_of i < length (tree_of trees (shard_of i)).values = omega arith in
          number_here trees (shard_of (n + 1)) t i sharded.shards mine
          ∙ ap (λ xs. slice_index xs (place_of i)) (is ∙ ap (λ k. (tree_of trees k).values ++ number ∷ []) mine)
          ∙ get_or_append_left (tree_of trees (shard_of i)).values (number ∷ []) 0 (place_of i) within
      | inr other ↦ number_elsewhere trees (shard_of (n + 1)) t i other
    ]

added_here : (values : List ℕ) (number place : ℕ) → place ≡ length values → slice_index (values ++ number ∷ []) place ≡ number
added_here values number place is = get_or_push values number 0 place (sym is)

pub dates_added : (trees : List Numbers) (n : ℕ) (t : Numbers) (date : Option ℕ) → IsSharded trees n
    → t.values ≡ (tree_of trees (shard_of (n + 1))).values ++ as_number date ∷ [] → IsDate date
    → dates_in (slice_set trees (shard_of (n + 1)) t) (n + 1) ≡ dates_in trees n ++ date ∷ []
dates_added trees n t date sharded is dated =
    let new = slice_set trees (shard_of (n + 1)) t in
    let f : ℕ → Option ℕ = λ i. as_date (number_of trees i) in
    let g : ℕ → Option ℕ = λ i. as_date (number_of new i) in
    let count : length (tree_of trees (shard_of (n + 1))).values ≡ count_of (shard_of (n + 1)) n = sharded.counts (shard_of (n + 1)) (shard_small (n + 1)) in
    let end : place_of (n + 1) ≡ length (tree_of trees (shard_of (n + 1))).values = place_next n ∙ sym count in
    let top : 1 + n ≡ n + 1 = omega arith in
    let here : g (1 + n) ≡ date =
    ap g top
    ∙ ap as_date (number_here trees (shard_of (n + 1)) t (n + 1) sharded.shards refl
    ∙ ap (λ xs. slice_index xs (place_of (n + 1))) is
    ∙ added_here (tree_of trees (shard_of (n + 1))).values (as_number date) (place_of (n + 1)) end)
    ∙ date_of_number date dated in
    ap (λ k. map g (numbers 1 k)) (add-one n)
    ∙ ap (map g) (numbers_push 1 n)
    ∙ map-append g (numbers 1 n) ((1 + n) ∷ [])
    ∙ ap₂ (λ xs x. xs ++ x ∷ []) (map_numbers g f 1 n (λ i least below. ap as_date (added_before trees n t (as_number date) sharded is i least below))) here

pub sharded_added : (trees : List Numbers) (n : ℕ) (t : Numbers) (number : ℕ) → IsSharded trees n → n < MOST_INCARNATIONS
    → t.values ≡ (tree_of trees (shard_of (n + 1))).values ++ number ∷ [] → IsSharded (slice_set trees (shard_of (n + 1)) t) (n + 1)
sharded_added trees n t number sharded few is =
    record {
      shards = length-set trees (shard_of (n + 1)) t ∙ sharded.shards;
      few = omega arith;
      counts = λ shard small. elim (cases_eq shard (shard_of (n + 1))) [
        | inl mine ↦
            let count : length (tree_of trees (shard_of (n + 1))).values ≡ count_of (shard_of (n + 1)) n = sharded.counts (shard_of (n + 1)) (shard_small (n + 1)) in
            ap (λ k. length (tree_of (slice_set trees (shard_of (n + 1)) t) k).values) mine
            ∙ ap (λ (one : Numbers). length one.values) (tree_here trees (shard_of (n + 1)) t sharded.shards (shard_small (n + 1)))
            ∙ ap length is
            ∙ length-append (tree_of trees (shard_of (n + 1))).values (number ∷ [])
            ∙ ap (λ k. k + 1) count
            ∙ sym (count_mine n)
            ∙ ap (λ k. count_of k (n + 1)) (sym mine)
        | inr other ↦
            ap (λ (one : Numbers). length one.values) (tree_elsewhere trees (shard_of (n + 1)) shard t other)
            ∙ sharded.counts shard small ∙ sym (count_other shard n small other)
      ];
    }

-- the number at a place of a shard's tree is that of the incarnation there
number_at : (trees : List Numbers) (shard place : ℕ) → shard < 8 → number_of trees (inc_at shard place) ≡ slice_index (tree_of trees shard).values place
number_at trees shard place small =
    ap₂ (λ k p. slice_index (tree_of trees k).values p) (shard_at shard place small) (place_at shard place small)

-- a date that is above the bound has not come
not_come : (trees : List Numbers) (n now shard from to i : ℕ) → AllAbove (tree_of trees shard).values from to (min now (never - 1))
    → 1 ≤ i → i ≤ n → shard_of i ≡ shard → from ≤ place_of i → place_of i < to → has_come now (date_at (dates_in trees n) i) ≡ false
not_come trees n now shard from to i above low up mine behind before =
    let over : min now (never - 1) < slice_index (tree_of trees shard).values (place_of i) = above (place_of i) behind before in
    let is : number_of trees i ≡ slice_index (tree_of trees shard).values (place_of i) =
    ap (λ k. slice_index (tree_of trees k).values (place_of i)) mine in
    ap (has_come now) (date_there trees n i low up)
    ∙ come_number now (number_of trees i)
    ∙ ap (λ k. nat_le k (min now (never - 1))) is
    ∙ lt-leb (slice_index (tree_of trees shard).values (place_of i)) (min now (never - 1)) over

pub first_is : (trees : List Numbers) (n shard now place : ℕ) → IsSharded trees n → shard < 8
    → IsFirstAtMost (tree_of trees shard).values 0 (min now (never - 1)) place
    → find (λ inc. has_come now (date_at (dates_in trees n) inc)) (of_shard shard n) ≡ Some (inc_at shard place)
first_is trees n shard now place sharded small first =
    let count : length (tree_of trees shard).values ≡ count_of shard n = sharded.counts shard small in
    let inside : place < length (tree_of trees shard).values = first.in_range in
    let up : inc_at shard place ≤ n = at_within shard place n small (omega arith) in
    let least : 1 ≤ inc_at shard place = omega arith in
    let low : slice_index (tree_of trees shard).values place ≤ min now (never - 1) = first.low in
    find_first (λ inc. has_come now (date_at (dates_in trees n) inc)) shard 1 n (inc_at shard place) (omega arith)
    (record {
      behind = least;
      in_shard = shard_at shard place small;
      passes =
          ap (has_come now) (date_there trees n (inc_at shard place) least up)
          ∙ come_number now (number_of trees (inc_at shard place))
          ∙ ap (λ k. nat_le k (min now (never - 1))) (number_at trees shard place small)
          ∙ le-leb (slice_index (tree_of trees shard).values place) (min now (never - 1)) low;
      before = λ i from_on below mine.
          let sooner : place_of i < place_of (inc_at shard place) =
          places_rise i (inc_at shard place) from_on below (mine ∙ sym (shard_at shard place small)) in
          let same : place_of (inc_at shard place) ≡ place = place_at shard place small in
          not_come trees n now shard 0 place i first.before from_on (omega arith) mine (omega arith) (omega arith);
    })

pub none_is : (trees : List Numbers) (n shard now : ℕ) → IsSharded trees n → shard < 8
    → AllAbove (tree_of trees shard).values 0 (length (tree_of trees shard).values) (min now (never - 1))
    → find (λ inc. has_come now (date_at (dates_in trees n) inc)) (of_shard shard n) ≡ None
none_is trees n shard now sharded small above =
    find_nothing (λ inc. has_come now (date_at (dates_in trees n) inc)) shard 1 n (λ i low up mine.
    let count : length (tree_of trees shard).values ≡ count_of shard n = sharded.counts shard small in
    let there : place_of i < count_of (shard_of i) n = within_count i n low (omega arith) in
    let same : count_of (shard_of i) n ≡ count_of shard n = ap (λ k. count_of k n) mine in
    not_come trees n now shard 0 (length (tree_of trees shard).values) i above low (omega arith) mine (omega arith) (omega arith))

-- the tree at a place that was read
tree_got : (trees : List Numbers) (shard : ℕ) (t : Numbers) → length trees ≡ 8 → shard < 8 → t ≡ get_or trees shard t → get_or trees shard t ≡ tree_of trees shard
tree_got trees shard t long small is = sym is ∙ tree_read trees shard t long small is

-- the same as the calls of a table find it: the tree `old` was read at a shard, and is `t` after the call
module _ (trees : List Numbers) (n : ℕ) (sharded : IsSharded trees n) (shard : ℕ) (old : Numbers) (small : shard < 8) (is : old ≡ get_or trees shard old) where
  got : get_or trees shard old ≡ tree_of trees shard
  got = tree_got trees shard old sharded.shards small is

  pub date_got : (inc number place : ℕ) → 1 ≤ inc → inc ≤ n → shard ≡ shard_of inc → place ≡ place_of inc
      → number ≡ slice_index (get_or trees shard old).values place → as_date number ≡ date_at (dates_in trees n) inc
  date_got inc number place low up mine here is_number =
      ap as_date (is_number ∙ ap₂ (λ (one : Numbers) k. slice_index one.values k) (got ∙ ap (tree_of trees) mine) here)
      ∙ sym (date_there trees n inc low up)

  pub place_within : (inc place : ℕ) → 1 ≤ inc → inc ≤ n → shard ≡ shard_of inc → place ≡ place_of inc → place < length (get_or trees shard old).values
  place_within inc place low up mine here =
      let same : length (get_or trees shard old).values ≡ length (tree_of trees (shard_of inc)).values =
      ap (λ (one : Numbers). length one.values) (got ∙ ap (tree_of trees) mine) in
      let count : length (tree_of trees (shard_of inc)).values ≡ count_of (shard_of inc) n = sharded.counts (shard_of inc) (shard_small inc) in
      let there : place_of inc < count_of (shard_of inc) n = within_count inc n low up in
      omega arith

  pub set_changes : (t : Numbers) (inc place number : ℕ) (date : Option ℕ) → 1 ≤ inc → inc ≤ n → shard ≡ shard_of inc → place ≡ place_of inc
      → number ≡ as_number date → IsDate date → t.values ≡ slice_set (get_or trees shard old).values place number
      → dates_in (slice_set trees shard t) n ≡ change_nth (λ (before : Option ℕ). date) (dates_in trees n) inc
  set_changes t inc place number date low up mine here is_number dated written =
      let values : t.values ≡ slice_set (tree_of trees (shard_of inc)).values (place_of inc) (as_number date) =
      written
      ∙ ap (λ (one : Numbers). slice_set one.values place number) (got ∙ ap (tree_of trees) mine)
      ∙ ap₂ (λ k x. slice_set (tree_of trees (shard_of inc)).values k x) here is_number in
      ap (λ k. dates_in (slice_set trees k t) n) mine ∙ dates_changed trees n inc t date sharded low up values dated

  pushed_values : (t : Numbers) (number : ℕ) → shard ≡ shard_of (n + 1) → t.values ≡ (get_or trees shard old).values ++ number ∷ []
      → t.values ≡ (tree_of trees (shard_of (n + 1))).values ++ number ∷ []
  pushed_values t number mine written = written ∙ ap (λ (one : Numbers). one.values ++ number ∷ []) (got ∙ ap (tree_of trees) mine)

  pub push_adds : (t : Numbers) (number : ℕ) (date : Option ℕ) → shard ≡ shard_of (n + 1) → number ≡ as_number date → IsDate date
      → t.values ≡ (get_or trees shard old).values ++ number ∷ [] → dates_in (slice_set trees shard t) (n + 1) ≡ dates_in trees n ++ date ∷ []
  push_adds t number date mine is_number dated written =
      ap (λ k. dates_in (slice_set trees k t) (n + 1)) mine
      ∙ dates_added trees n t date sharded
      (pushed_values t number mine written ∙ ap (λ x. (tree_of trees (shard_of (n + 1))).values ++ x ∷ []) is_number) dated

  pub push_keeps : (t : Numbers) (number : ℕ) → shard ≡ shard_of (n + 1) → n < MOST_INCARNATIONS
      → t.values ≡ (get_or trees shard old).values ++ number ∷ [] → IsSharded (slice_set trees shard t) (n + 1)
  push_keeps t number mine few written =
      subst (λ k. IsSharded (slice_set trees k t) (n + 1)) (sym mine)
      (sharded_added trees n t number sharded few (pushed_values t number mine written))

  pub first_found : (now bound place inc : ℕ) → bound ≡ min now (never - 1) → IsFirstAtMost (get_or trees shard old).values 0 bound place
      → inc ≡ inc_at shard place → Some inc ≡ find (λ i. has_come now (date_at (dates_in trees n) i)) (of_shard shard n)
  first_found now bound place inc low first here =
      ap (λ k. Some k) here
      ∙ sym (first_is trees n shard now place sharded small
      (subst (λ k. IsFirstAtMost (tree_of trees shard).values 0 k place) low
      (subst (λ (one : Numbers). IsFirstAtMost one.values 0 bound place) got first)))

  pub none_found : (now bound : ℕ) → bound ≡ min now (never - 1) → AllAbove (get_or trees shard old).values 0 (length (get_or trees shard old).values) bound
      → None ≡ find (λ i. has_come now (date_at (dates_in trees n) i)) (of_shard shard n)
  none_found now bound low above =
      sym (none_is trees n shard now sharded small
      (subst (λ k. AllAbove (tree_of trees shard).values 0 (length (tree_of trees shard).values) k) low
      (subst (λ (one : Numbers). AllAbove one.values 0 (length one.values) bound) got above)))
