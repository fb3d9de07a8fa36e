-- An `at`: its form is its digits and marks, and its text gives the civil second back.
use Rattle.std.proofs.Common.{◌≡◌, ◌≢◌, ℕ, ◌+◌, ◌*◌, ◌/◌, ◌%◌, ◌<◌, ◌≤◌, Bool, true, false, List, [], ◌∷◌, ◌++◌, refl, sym, ap, ◌∙◌, subst, arith, le-leb, ◌-◌, ◌⊎◌, inl, inr, Option, Some, None}
use Rattle.std.specs.Prelude.{map, nat_le, nat_lt, ◌&&◌, codes, pos}
use Rattle.expressions.specs.declared.expression.Civil.{Civil}
use Rattle.expressions.specs.Pieces.{is_digit, number_of, same}
use Rattle.expressions.specs.CivilSeconds.{is_civil, two_digits}
use Rattle.expressions.specs.ExpressionFaults.{Fault, at_fault, group_fault, groups_fault, masked}
use Rattle.expr_grammar.specs.Reading.{civil_of, civil_fault}
use Rattle.std.proofs.lemmas.Bool.{leb-true, ltb-true, and_parts}
use Rattle.jiff_core.specs.Calendar.{days_in_month}
use Rattle.jiff_core.proofs.CalendarLemmas.{days_in_month_bounds}
use Rattle.expressions.specs.declared.expression.Expr.TheVariants as exprs
use Rattle.plain_words.specs.Lists.{first_some}
use Rattle.expressions.specs.Spelling.{Spells}
use Rattle.expr_grammar.specs.Answers.{enclosed}
use Rattle.expr_grammar.proofs.Texts.{same_is, is_same}
use Rattle.expr_grammar.proofs.FaultLemmas.{first_none, passes, chosen_none}

-- the byte is a digit or not
pub digit_cases : (b : ℕ) (here : Bool) → is_digit b ≡ here →
    ((here ≡ true) × (48 ≤ b) × (b ≤ 57) × (masked b ≡ 48)) ⊎ ((here ≡ false) × (masked b ≡ b))
digit_cases b true is =
    let both = and_parts (nat_le 48 b) (nat_le b 57) is in inl (refl, leb-true _ _ both.0, leb-true _ _ both.1, rw is refl)
digit_cases b false is = inr (refl, rw is refl)

-- a digit as 0
pub masked_digit : (n : ℕ) → masked (48 + n % 10) ≡ 48
masked_digit n =
    let low : nat_le 48 (48 + n % 10) ≡ true = le-leb _ _ (omega arith) in
    let high : nat_le (48 + n % 10) 57 ≡ true = le-leb _ _ (omega arith) in
    rw (low, high) refl

-- what is masked as 0 is a digit
pub digit_of_masked : (b : ℕ) → masked b ≡ 48 → (48 ≤ b) × (b ≤ 57)
digit_of_masked b is = by_case (digit_cases b (is_digit b) refl) where
  by_case : ((is_digit b ≡ true) × (48 ≤ b) × (b ≤ 57) × (masked b ≡ 48)) ⊎ ((is_digit b ≡ false) × (masked b ≡ b)) → (48 ≤ b) × (b ≤ 57)
  by_case (inl d) = (d.1, d.2)
  by_case (inr d) = let same_byte : b ≡ 48 = sym d.1 ∙ is in (omega arith, omega arith)

-- what is masked as another byte is that byte
pub mark_of_masked : (b mark : ℕ) → masked b ≡ mark → mark ≢ 48 → b ≡ mark
mark_of_masked b mark is other = by_case (digit_cases b (is_digit b) refl) where
  by_case : ((is_digit b ≡ true) × (48 ≤ b) × (b ≤ 57) × (masked b ≡ 48)) ⊎ ((is_digit b ≡ false) × (masked b ≡ b)) → b ≡ mark
  by_case (inl d) = absurd (other (sym is ∙ d.3))
  by_case (inr d) = sym d.1 ∙ is

-- two digits in front
pub record Pair (text form : List ℕ) : Type 0 where
  pub number : ℕ
  pub small : number < 100
  pub rest : List ℕ
  pub is : text ≡ two_digits number ++ rest
  pub fits : map masked rest ≡ form

digits_back : (a b : ℕ) → (48 ≤ a) × (a ≤ 57) → (48 ≤ b) × (b ≤ 57) →
    ((a - 48) * 10 + (b - 48) < 100) × (a ≡ 48 + ((a - 48) * 10 + (b - 48)) / 10 % 10) × (b ≡ 48 + ((a - 48) * 10 + (b - 48)) % 10)
digits_back a b da db =
    let a0 = da.0 in let a1 = da.1 in let b0 = db.0 in let b1 = db.1 in
    (omega arith, omega arith, omega arith)

pub pair_of : (text form : List ℕ) → map masked text ≡ 48 ∷ 48 ∷ form → Pair text form
pair_of [] form is = cc
pair_of (a ∷ []) form is = cc
pair_of (a ∷ b ∷ rest) form is =
    let first : masked a ≡ 48 = cc in
    let second : masked b ≡ 48 = cc in
    let back = digits_back a b (digit_of_masked a first) (digit_of_masked b second) in
    record {
      number = (a - 48) * 10 + (b - 48);
      small = back.0;
      rest = rest;
      is = ap (λ x. x ∷ b ∷ rest) back.1 ∙ ap (λ x. (48 + ((a - 48) * 10 + (b - 48)) / 10 % 10) ∷ x ∷ rest) back.2;
      fits = cc;
    }

-- a mark in front
pub record Mark (mark : ℕ) (text form : List ℕ) : Type 0 where
  pub rest : List ℕ
  pub is : text ≡ mark ∷ rest
  pub fits : map masked rest ≡ form

pub mark_of : (mark : ℕ) (text form : List ℕ) → mark ≢ 48 → map masked text ≡ mark ∷ form → Mark mark text form
mark_of mark [] form other is = cc
mark_of mark (b ∷ rest) form other is =
    let first : masked b ≡ mark = cc in
    record { rest = rest; is = ap (λ x. x ∷ rest) (mark_of_masked b mark first other); fits = cc }

-- nothing is left
pub none_of : (text : List ℕ) → map masked text ≡ [] → text ≡ []
none_of [] is = refl
none_of (b ∷ rest) is = cc

-- seven pairs of digits with their marks
abbrev pub groups_text : ℕ → ℕ → ℕ → ℕ → ℕ → ℕ → ℕ → List ℕ
groups_text high low month day hour minute second =
    two_digits high ++ two_digits low ++ codes "-" ++ two_digits month ++ codes "-" ++ two_digits day
    ++ codes "T" ++ two_digits hour ++ codes ":" ++ two_digits minute ++ codes ":" ++ two_digits second

-- what an `at` of the civil second encloses
abbrev pub at_inner : Civil → List ℕ
at_inner c = groups_text (c.year / 100) c.year c.month c.day c.hour c.minute c.second

pub at_inner_masked : (c : Civil) → map masked (at_inner c) ≡ codes "0000-00-00T00:00:00"
at_inner_masked c = simp masked_digit

-- the tests of a real civil second
pub record IsReal (c : Civil) : Type 0 where
  pub year : (nat_le 1970 c.year && nat_le c.year 2199) ≡ true
  pub month : (nat_le 1 c.month && nat_le c.month 12) ≡ true
  pub day : (nat_le 1 c.day && nat_le c.day (days_in_month (pos c.year) c.month)) ≡ true
  pub hour : nat_lt c.hour 24 ≡ true
  pub minute : nat_lt c.minute 60 ≡ true
  pub second : nat_lt c.second 60 ≡ true

regroup : (a b c d e f g h i : Bool) → (a && b && c && d && e && f && g && h && i) ≡ ((a && b) && ((c && d) && ((e && f) && (g && (h && i)))))
regroup true true true true true true true h i = refl
regroup true true true true true true false h i = refl
regroup true true true true true false g h i = refl
regroup true true true true false f g h i = refl
regroup true true true false e f g h i = refl
regroup true true false d e f g h i = refl
regroup true false c d e f g h i = refl
regroup false b c d e f g h i = refl

pub real_parts : (c : Civil) → is_civil c ≡ true → IsReal c
real_parts c is =
    let whole = sym (regroup (nat_le 1970 c.year) (nat_le c.year 2199) (nat_le 1 c.month) (nat_le c.month 12) (nat_le 1 c.day)
    (nat_le c.day (days_in_month (pos c.year) c.month)) (nat_lt c.hour 24) (nat_lt c.minute 60) (nat_lt c.second 60)) ∙ is in
    let y = and_parts _ _ whole in
    let m = and_parts _ _ y.1 in
    let d = and_parts _ _ m.1 in
    let h = and_parts _ _ d.1 in
    let n = and_parts _ _ h.1 in
    record { year = y.0; month = m.0; day = d.0; hour = h.0; minute = n.0; second = n.1 }

pub parts_real : (c : Civil) → IsReal c → is_civil c ≡ true
parts_real c r =
    regroup (nat_le 1970 c.year) (nat_le c.year 2199) (nat_le 1 c.month) (nat_le c.month 12) (nat_le 1 c.day)
    (nat_le c.day (days_in_month (pos c.year) c.month)) (nat_lt c.hour 24) (nat_lt c.minute 60) (nat_lt c.second 60)
    ∙ rw (r.year, r.month, r.day, r.hour, r.minute, r.second) refl

pub real_no_fault : (c : Civil) → IsReal c → civil_fault c ≡ None
real_no_fault c r = rw (r.year, r.month, r.day, r.hour, r.minute, r.second) refl

pub no_fault_real : (c : Civil) → civil_fault c ≡ None → IsReal c
no_fault_real c is =
    let y = first_none _ _ is in
    let m = first_none _ _ y.1 in
    let d = first_none _ _ m.1 in
    let t = (first_none _ _ d.1).0 in
    let h = first_none _ _ t in
    let n = first_none _ _ h.1 in
    let s = first_none _ _ n.1 in
    record {
      year = passes _ _ y.0;
      month = passes _ _ m.0;
      day = passes _ _ d.0;
      hour = passes _ _ h.0;
      minute = passes _ _ n.0;
      second = passes _ _ s.0;
    }

pub two_back : (n : ℕ) → n < 100 → number_of (two_digits n) ≡ n
two_back n small = omega arith

pub four_back : (n : ℕ) → n < 10000 → number_of (two_digits (n / 100) ++ two_digits n) ≡ n
four_back n small = omega arith

below : (n high : ℕ) → nat_le n high ≡ true → high < 100 → n < 100
below n high is small = let le : n ≤ high = leb-true _ _ is in omega arith

-- the groups of its text give a real civil second back
pub civil_back : (c : Civil) → IsReal c → civil_of (at_inner c) ≡ c
civil_back c r =
    let year : c.year ≤ 2199 = leb-true _ _ (and_parts (nat_le 1970 c.year) (nat_le c.year 2199) r.year).1 in
    let month : c.month ≤ 12 = leb-true _ _ (and_parts (nat_le 1 c.month) (nat_le c.month 12) r.month).1 in
    let day : c.day ≤ days_in_month (pos c.year) c.month = leb-true _ _ (and_parts (nat_le 1 c.day) _ r.day).1 in
    let high : days_in_month (pos c.year) c.month ≤ 31 = (days_in_month_bounds (pos c.year) c.month).0 in
    let hour : c.hour < 24 = ltb-true _ _ r.hour in
    let minute : c.minute < 60 = ltb-true _ _ r.minute in
    let second : c.second < 60 = ltb-true _ _ r.second in
    let e0 : number_of (two_digits (c.year / 100) ++ two_digits c.year) ≡ c.year = four_back c.year (omega arith) in
    let e1 : number_of (two_digits c.month) ≡ c.month = two_back c.month (omega arith) in
    let e2 : number_of (two_digits c.day) ≡ c.day = two_back c.day (omega arith) in
    let e3 : number_of (two_digits c.hour) ≡ c.hour = two_back c.hour (omega arith) in
    let e4 : number_of (two_digits c.minute) ≡ c.minute = two_back c.minute (omega arith) in
    let e5 : number_of (two_digits c.second) ≡ c.second = two_back c.second (omega arith) in
    λ t. record { year = e0 t; month = e1 t; day = e2 t; hour = e3 t; minute = e4 t; second = e5 t }

-- the text has the form of an `at`: seven pairs of digits and the marks
pub record Grouped (inner : List ℕ) : Type 0 where
  pub high : ℕ
  pub low : ℕ
  pub month : ℕ
  pub day : ℕ
  pub hour : ℕ
  pub minute : ℕ
  pub second : ℕ
  pub small : (high < 100) × (low < 100) × (month < 100) × (day < 100) × (hour < 100) × (minute < 100) × (second < 100)
  pub is : inner ≡ groups_text high low month day hour minute second

dash : ◌≢◌ {A = ℕ} 45 48
dash e = omega arith

colon : ◌≢◌ {A = ℕ} 58 48
colon e = omega arith

letter : ◌≢◌ {A = ℕ} 84 48
letter e = omega arith

pub grouped : (inner : List ℕ) → map masked inner ≡ codes "0000-00-00T00:00:00" → Grouped inner
grouped inner is =
    let p1 = pair_of inner _ is in
    let p2 = pair_of p1.rest _ p1.fits in
    let m1 = mark_of 45 p2.rest _ dash p2.fits in
    let p3 = pair_of m1.rest _ m1.fits in
    let m2 = mark_of 45 p3.rest _ dash p3.fits in
    let p4 = pair_of m2.rest _ m2.fits in
    let m3 = mark_of 84 p4.rest _ letter p4.fits in
    let p5 = pair_of m3.rest _ m3.fits in
    let m4 = mark_of 58 p5.rest _ colon p5.fits in
    let p6 = pair_of m4.rest _ m4.fits in
    let m5 = mark_of 58 p6.rest _ colon p6.fits in
    let p7 = pair_of m5.rest _ m5.fits in
    record {
      high = p1.number;
      low = p2.number;
      month = p3.number;
      day = p4.number;
      hour = p5.number;
      minute = p6.number;
      second = p7.number;
      small = (p1.small, p2.small, p3.small, p4.small, p5.small, p6.small, p7.small);
      is = p1.is ∙ ap (λ r. two_digits p1.number ++ r) (p2.is ∙ ap (λ r. two_digits p2.number ++ r) (m1.is ∙ ap (λ r. 45 ∷ r) (p3.is ∙ ap (λ r. two_digits p3.number ++ r) (m2.is ∙ ap (λ r. 45 ∷ r) (p4.is ∙ ap (λ r. two_digits p4.number ++ r) (m3.is ∙ ap (λ r. 84 ∷ r) (p5.is ∙ ap (λ r. two_digits p5.number ++ r) (m4.is ∙ ap (λ r. 58 ∷ r) (p6.is ∙ ap (λ r. two_digits p6.number ++ r) (m5.is ∙ ap (λ r. 58 ∷ r) (p7.is ∙ ap (λ r. two_digits p7.number ++ r) (none_of p7.rest p7.fits))))))))))));
    }

-- a text of this form is the text of its civil second
ten_back : (n : ℕ) → n < 100 → 48 + n / 10 % 10 ≡ 48 + number_of (two_digits n) / 10 % 10
ten_back n small = omega arith

one_back : (n : ℕ) → n < 100 → 48 + n % 10 ≡ 48 + number_of (two_digits n) % 10
one_back n small = omega arith

-- the digits of a year
abbrev pub year_number : ℕ → ℕ → ℕ
year_number high low = number_of (two_digits high ++ two_digits low)

year_is : (high low : ℕ) → high < 100 → low < 100 → year_number high low ≡ high * 100 + low
year_is high low h l = omega arith

years_back : (high low : ℕ) → high < 100 → low < 100 →
    (48 + high / 10 % 10 ≡ 48 + year_number high low / 100 / 10 % 10) × (48 + high % 10 ≡ 48 + year_number high low / 100 % 10)
    × (48 + low / 10 % 10 ≡ 48 + year_number high low / 10 % 10) × (48 + low % 10 ≡ 48 + year_number high low % 10)
years_back high low h l =
    let e : year_number high low ≡ high * 100 + low = year_is high low h l in
    let tens : (48 + high / 10 % 10 ≡ 48 + (high * 100 + low) / 100 / 10 % 10) × (48 + high % 10 ≡ 48 + (high * 100 + low) / 100 % 10)
    × (48 + low / 10 % 10 ≡ 48 + (high * 100 + low) / 10 % 10) × (48 + low % 10 ≡ 48 + (high * 100 + low) % 10)
    = (omega arith, omega arith, omega arith, omega arith) in (
      tens.0 ∙ ap (λ n. 48 + n / 100 / 10 % 10) (sym e),
      tens.1 ∙ ap (λ n. 48 + n / 100 % 10) (sym e),
      tens.2 ∙ ap (λ n. 48 + n / 10 % 10) (sym e),
      tens.3 ∙ ap (λ n. 48 + n % 10) (sym e),
    )

groups_back : (high low month day hour minute second : ℕ) →
    (high < 100) × (low < 100) × (month < 100) × (day < 100) × (hour < 100) × (minute < 100) × (second < 100) →
    groups_text high low month day hour minute second ≡ at_inner (civil_of (groups_text high low month day hour minute second))
groups_back high low month day hour minute second small =
    let y = years_back high low small.0 small.1 in
    λ t. y.0 t ∷ y.1 t ∷ y.2 t ∷ y.3 t ∷ 45 ∷ ten_back month small.2 t ∷ one_back month small.2 t ∷ 45
    ∷ ten_back day small.3 t ∷ one_back day small.3 t ∷ 84 ∷ ten_back hour small.4 t ∷ one_back hour small.4 t ∷ 58
    ∷ ten_back minute small.5 t ∷ one_back minute small.5 t ∷ 58 ∷ ten_back second small.6 t ∷ one_back second small.6 t ∷ []

pub at_inner_back : (inner : List ℕ) → Grouped inner → inner ≡ at_inner (civil_of inner)
at_inner_back inner g =
    let P : List ℕ → Type 0 = λ x. x ≡ at_inner (civil_of x) in
    subst P (sym g.is) (groups_back g.high g.low g.month g.day g.hour g.minute g.second g.small)

flat : (a b d h m s : Option Fault) → first_some (a ∷ b ∷ d ∷ first_some (h ∷ m ∷ s ∷ []) ∷ []) ≡ first_some (a ∷ b ∷ d ∷ h ∷ m ∷ s ∷ [])
flat (Some a) b d h m s = refl
flat None (Some b) d h m s = refl
flat None None (Some d) h m s = refl
flat None None None (Some h) m s = refl
flat None None None None (Some m) s = refl
flat None None None None None (Some s) = refl
flat None None None None None None = refl

groups_by_civil : (inner : List ℕ) → civil_fault (civil_of inner) ≡ groups_fault inner
groups_by_civil inner =
    let c : Civil = civil_of inner in
    flat (group_fault 0 (nat_le 1970 c.year && nat_le c.year 2199))
    (group_fault 5 (nat_le 1 c.month && nat_le c.month 12))
    (group_fault 8 (nat_le 1 c.day && nat_le c.day (days_in_month (pos c.year) c.month)))
    (group_fault 11 (nat_lt c.hour 24)) (group_fault 14 (nat_lt c.minute 60)) (group_fault 17 (nat_lt c.second 60))

pub spelled_at : (inner : List ℕ) → at_fault inner ≡ None → Spells (enclosed (codes "at(") inner) (exprs.At (civil_of inner))
spelled_at inner none =
    let chosen = chosen_none _ _ _ none in
    let form : map masked inner ≡ codes "0000-00-00T00:00:00" = same_is _ _ chosen.0 in
    let real : civil_fault (civil_of inner) ≡ None = groups_by_civil inner ∙ chosen.1 in
    (parts_real (civil_of inner) (no_fault_real (civil_of inner) real), ap (enclosed (codes "at(")) (at_inner_back inner (grouped inner form)))

-- what spells an `at` has no fault, and gives it back
pub at_no_fault : (c : Civil) → is_civil c ≡ true → at_fault (at_inner c) ≡ None
at_no_fault c is =
    let real = real_parts c is in
    let form : same (map masked (at_inner c)) (codes "0000-00-00T00:00:00") ≡ true = is_same _ _ (at_inner_masked c) in
    let fits : groups_fault (at_inner c) ≡ None = sym (groups_by_civil (at_inner c)) ∙ ap civil_fault (civil_back c real) ∙ real_no_fault c real in
    rw form fits

-- the civil second that is read is spelled
pub spelled_civil : (inner : List ℕ) (civil : Civil) → (at_fault inner ≡ None) × (civil ≡ civil_of inner) →
    (at_fault inner ≡ None) × Spells (enclosed (codes "at(") inner) (exprs.At civil)
spelled_civil inner civil read =
    let P : Civil → Type 0 = λ c. Spells (enclosed (codes "at(") inner) (exprs.At c) in
    (read.0, subst P (sym read.1) (spelled_at inner read.0))
