-- What a table reads is spelled so and keeps its rules; and what keeps them is read again.
use Rattle.std.proofs.Common.{◌≡◌, ℕ, zero, suc, ◌<◌, ◌≤◌, Bool, true, false, cond, ltb, List, [], ◌∷◌, ◌++◌, length, take, drop, Option, Some, None, Result, Ok, Err, refl, sym, ap, subst, ◌∙◌, append_assoc, arith}
use Rattle.std.specs.Int.{from_be_bytes}
use Rattle.std.proofs.lemmas.Bool.{ltb-false, le-ltb}
use Rattle.std.proofs.lemmas.List.{take_at, drop_at, take-append-drop, length-append, length-take}
use Rattle.step_codec.specs.declared.fault.FieldFault.{FieldFault}
use Rattle.step_codec.specs.declared.fault.FieldFault.TheVariants.{Cut}
use Rattle.step_codec.specs.Cells.{Size, Eight, width_of, big_endian, Cell, Number, Words, Date, spell, spelled}
use Rattle.step_codec.specs.Tables.{Field, a_number, a_text, a_date, Table, nothing, ◌then◌, choosing, ◌giving◌, kept, cut_at, number_at, passing_at, words_at, text_at, date_at, cell_at, in_front, walk}
use Rattle.step_codec.proofs.Widths.{IsBytes, IsBytes-drop, IsBytes-take, limit, bytes_of, length-big_endian, number_back, number_again, number_below}

-- the value of a step that did not fail
pub giving_ok : {A B : Type 0} (r : Result A FieldFault) (f : A → Result B FieldFault) (y : B) → (r giving f) ≡ Ok y → (x : A) × (r ≡ Ok x) × (f x ≡ Ok y)
giving_ok (Ok x) f y e = (x, refl, e)
giving_ok (Err fault) f y e = absurd cc

abbrev done : {A : Type 0} → A → Result A FieldFault
done x = Ok x

ok_is : {A : Type 0} (x y : A) → done x ≡ done y → x ≡ y
ok_is x y e = cc

kept_ok : {A : Type 0} (b : Bool) (left : ℕ) (x y : A) → kept b left x ≡ Ok y → (b ≡ true) × (x ≡ y)
kept_ok true left x y e = (refl, cc)
kept_ok false left x y e = absurd cc

-- what a reader took from the front
pub record Takes (bytes text rest : List ℕ) : Type 0 where
  pub parts : bytes ≡ text ++ rest
  pub rest_fits : IsBytes rest

takes_then : (a x b y c : List ℕ) → Takes a x b → Takes b y c → Takes a (x ++ y) c
takes_then a x b y c p q = record { parts = p.parts ∙ ap (λ (t : List ℕ). x ++ t) q.parts ∙ sym (append_assoc x y c); rest_fits = q.rest_fits }

-- ---- so many bytes

cut_ok : (test : Bool) (x y : List ℕ × List ℕ) → cond test (Err Cut) (done x) ≡ Ok y → (test ≡ false) × (x ≡ y)
cut_ok true x y e = absurd cc
cut_ok false x y e = (refl, cc)

record IsCut (n : ℕ) (bytes : List ℕ) (x : List ℕ × List ℕ) : Type 0 where
  pub takes : Takes bytes x.0 x.1
  pub long : length x.0 ≡ n
  pub fits : IsBytes x.0

cut_takes : (n : ℕ) (bytes : List ℕ) (x : List ℕ × List ℕ) → IsBytes bytes → cut_at n bytes ≡ Ok x → IsCut n bytes x
cut_takes n bytes x fits e =
    let g = cut_ok (ltb (length bytes) n) (take n bytes, drop n bytes) x e in
    let long : n ≤ length bytes = ltb-false _ _ g.0 in
    subst (IsCut n bytes) g.1 (record {
      takes = record { parts = sym (take-append-drop n bytes); rest_fits = IsBytes-drop n bytes fits };
      long = omega (arith, length-take n bytes);
      fits = IsBytes-take n bytes fits;
    })

cut_again : (text rest : List ℕ) (n : ℕ) → length text ≡ n → cut_at n (text ++ rest) ≡ Ok (text, rest)
cut_again text rest n len =
    let long : ltb (length (text ++ rest)) n ≡ false = le-ltb _ _ (omega (arith, length-append text rest)) in
    rw (long, take_at text rest n len, drop_at text rest n len) refl

-- ---- numbers

pub record IsNumberAt (size : Size) (bytes : List ℕ) (x : ℕ × List ℕ) : Type 0 where
  pub takes : Takes bytes (big_endian size x.0) x.1
  pub below : x.0 < limit size

number_takes : (size : Size) (bytes : List ℕ) (x : ℕ × List ℕ) → IsBytes bytes → number_at size bytes ≡ Ok x → IsNumberAt size bytes x
unfolding number_at
number_takes size bytes x fits e =
    let b = giving_ok (cut_at (bytes_of size) bytes) (λ parts. Ok (from_be_bytes (width_of size) parts.0, parts.1)) x e in
    let t = cut_takes (bytes_of size) bytes b.0 fits b.1 in
    let front : big_endian size (from_be_bytes (width_of size) b.0.0) ≡ b.0.0 = number_back size b.0.0 t.long t.fits in
    subst (IsNumberAt size bytes) (ok_is (from_be_bytes (width_of size) b.0.0, b.0.1) x b.2) (record {
      takes = record { parts = rw front t.takes.parts; rest_fits = t.takes.rest_fits };
      below = number_below size b.0.0 t.fits;
    })

numbers_again : (size : Size) (n : ℕ) (rest : List ℕ) → n < limit size → number_at size (big_endian size n ++ rest) ≡ Ok (n, rest)
unfolding number_at
numbers_again size n rest lt =
    rw (cut_again (big_endian size n) rest (bytes_of size) (length-big_endian size n), number_again size n lt) refl

passing_takes : (size : Size) (passes : ℕ → Bool) (bytes : List ℕ) (x : ℕ × List ℕ) → IsBytes bytes → passing_at size passes bytes ≡ Ok x → IsNumberAt size bytes x × (passes x.0 ≡ true)
unfolding passing_at
passing_takes size passes bytes x fits e =
    let b = giving_ok (number_at size bytes) (λ n. kept (passes n.0) (length bytes) n) x e in
    let k = kept_ok (passes b.0.0) (length bytes) b.0 x b.2 in
    subst (λ (y : ℕ × List ℕ). IsNumberAt size bytes y × (passes y.0 ≡ true)) k.1 (number_takes size bytes b.0 fits b.1, k.0)

passing_again : (size : Size) (passes : ℕ → Bool) (n : ℕ) (rest : List ℕ) → passes n ≡ true → n < limit size → passing_at size passes (big_endian size n ++ rest) ≡ Ok (n, rest)
unfolding passing_at
passing_again size passes n rest holds lt = rw (numbers_again size n rest lt, holds) refl

-- ---- texts

record IsTextAt (size : Size) (bytes : List ℕ) (x : List ℕ × List ℕ) : Type 0 where
  pub takes : Takes bytes (big_endian size (length x.0) ++ x.0) x.1
  pub below : length x.0 < limit size

words_take : (size : Size) (bytes : List ℕ) (x : List ℕ × List ℕ) → IsBytes bytes → words_at size bytes ≡ Ok x → IsTextAt size bytes x
unfolding words_at
words_take size bytes x fits e =
    let b = giving_ok (number_at size bytes) (λ n. cut_at n.0 n.1) x e in
    let n = number_takes size bytes b.0 fits b.1 in
    let t = cut_takes b.0.0 b.0.1 x n.takes.rest_fits b.2 in
    let both = takes_then bytes (big_endian size b.0.0) b.0.1 x.0 x.1 n.takes t.takes in
    record {
      takes = subst (λ (k : ℕ). Takes bytes (big_endian size k ++ x.0) x.1) (sym t.long) both;
      below = subst (λ (k : ℕ). k < limit size) (sym t.long) n.below;
    }

words_again : (size : Size) (text rest : List ℕ) → length text < limit size → words_at size ((big_endian size (length text) ++ text) ++ rest) ≡ Ok (text, rest)
unfolding words_at
words_again size text rest lt =
    rw (append_assoc (big_endian size (length text)) text rest, numbers_again size (length text) (text ++ rest) lt) (cut_again text rest (length text) refl)

text_takes : (size : Size) (passes : List ℕ → Bool) (bytes : List ℕ) (x : List ℕ × List ℕ) → IsBytes bytes → text_at size passes bytes ≡ Ok x → IsTextAt size bytes x × (passes x.0 ≡ true)
unfolding text_at
text_takes size passes bytes x fits e =
    let b = giving_ok (words_at size bytes) (λ t. kept (passes t.0) (length bytes) t) x e in
    let k = kept_ok (passes b.0.0) (length bytes) b.0 x b.2 in
    subst (λ (y : List ℕ × List ℕ). IsTextAt size bytes y × (passes y.0 ≡ true)) k.1 (words_take size bytes b.0 fits b.1, k.0)

text_again : (size : Size) (passes : List ℕ → Bool) (text rest : List ℕ) → passes text ≡ true → length text < limit size → text_at size passes ((big_endian size (length text) ++ text) ++ rest) ≡ Ok (text, rest)
unfolding text_at
text_again size passes text rest holds lt = rw (words_again size text rest lt, holds) refl

-- ---- moments that may be left out

abbrev pub DateFits : (ℕ → Bool) → Option ℕ → Type 0
DateFits passes None = Unit {0}
DateFits passes (Some n) = (passes n ≡ true) × (n < limit Eight)

IsBytes-rest : (b : ℕ) (bytes : List ℕ) → IsBytes (b ∷ bytes) → IsBytes bytes
IsBytes-rest b bytes h i = h (suc i)

date_takes : (passes : ℕ → Bool) (bytes : List ℕ) (x : Option ℕ × List ℕ) → IsBytes bytes → date_at passes bytes ≡ Ok x → Takes bytes (spell (Date x.0)) x.1 × DateFits passes x.0
unfolding date_at
date_takes passes [] x fits e = absurd cc
date_takes passes (zero ∷ more) x fits e =
    subst (λ (y : Option ℕ × List ℕ). Takes (0 ∷ more) (spell (Date y.0)) y.1 × DateFits passes y.0) (ok_is (None, more) x e)
    (record { parts = refl; rest_fits = IsBytes-rest 0 more fits }, tt)
date_takes passes (suc zero ∷ more) x fits e =
    let b = giving_ok (number_at Eight more) (λ n. kept (passes n.0) (suc (length more)) (Some n.0, n.1)) x e in
    let k = kept_ok (passes b.0.0) (suc (length more)) (Some b.0.0, b.0.1) x b.2 in
    let n = number_takes Eight more b.0 (IsBytes-rest 1 more fits) b.1 in
    subst (λ (y : Option ℕ × List ℕ). Takes (1 ∷ more) (spell (Date y.0)) y.1 × DateFits passes y.0) k.1
    (record { parts = ap (λ (w : List ℕ). 1 ∷ w) n.takes.parts; rest_fits = n.takes.rest_fits }, (k.0, n.below))
date_takes passes (suc (suc other) ∷ more) x fits e = absurd cc

date_again : (passes : ℕ → Bool) (o : Option ℕ) (rest : List ℕ) → DateFits passes o → date_at passes (spell (Date o) ++ rest) ≡ Ok (o, rest)
unfolding date_at
date_again passes None rest fits = refl
date_again passes (Some n) rest fits = rw (numbers_again Eight n rest fits.1, fits.0) refl

-- ---- fields

-- a cell that the field reads
abbrev pub Fits : Field → Cell → Type 0
Fits (a_number size passes) (Number other n) = (size ≡ other) × (passes n ≡ true) × (n < limit size)
Fits (a_text size passes) (Words other text) = (size ≡ other) × (passes text ≡ true) × (length text < limit size)
Fits (a_date passes) (Date o) = DateFits passes o
Fits field cell = ⊥

field_takes : (field : Field) (bytes : List ℕ) (x : Cell × List ℕ) → IsBytes bytes → cell_at field bytes ≡ Ok x → Takes bytes (spell x.0) x.1 × Fits field x.0
field_takes (a_number size passes) bytes x fits e =
    let b = giving_ok (passing_at size passes bytes) (λ n. Ok (Number size n.0, n.1)) x e in
    let t = passing_takes size passes bytes b.0 fits b.1 in
    subst (λ (y : Cell × List ℕ). Takes bytes (spell y.0) y.1 × Fits (a_number size passes) y.0) (ok_is (Number size b.0.0, b.0.1) x b.2) (t.0.takes, (refl, t.1, t.0.below))
field_takes (a_text size passes) bytes x fits e =
    let b = giving_ok (text_at size passes bytes) (λ t. Ok (Words size t.0, t.1)) x e in
    let t = text_takes size passes bytes b.0 fits b.1 in
    subst (λ (y : Cell × List ℕ). Takes bytes (spell y.0) y.1 × Fits (a_text size passes) y.0) (ok_is (Words size b.0.0, b.0.1) x b.2) (t.0.takes, (refl, t.1, t.0.below))
field_takes (a_date passes) bytes x fits e =
    let b = giving_ok (date_at passes bytes) (λ d. Ok (Date d.0, d.1)) x e in
    let t = date_takes passes bytes b.0 fits b.1 in
    subst (λ (y : Cell × List ℕ). Takes bytes (spell y.0) y.1 × Fits (a_date passes) y.0) (ok_is (Date b.0.0, b.0.1) x b.2) t

number_cell_again : (size other : Size) (passes : ℕ → Bool) (n : ℕ) (rest : List ℕ) → size ≡ other → passes n ≡ true → n < limit size → passing_at size passes (spell (Number other n) ++ rest) ≡ Ok (n, rest)
number_cell_again size other passes n rest same holds lt =
    subst (λ (s : Size). passing_at size passes (spell (Number s n) ++ rest) ≡ Ok (n, rest)) same (passing_again size passes n rest holds lt)

field_again : (field : Field) (cell : Cell) (rest : List ℕ) → Fits field cell → cell_at field (spell cell ++ rest) ≡ Ok (cell, rest)
field_again (a_number size passes) (Number other n) rest fits =
    rw (number_cell_again size other passes n rest fits.0 fits.1 fits.2) (ap (λ (s : Size). Ok (Number s n, rest)) fits.0)
field_again (a_text size passes) (Words other text) rest fits =
    subst (λ (s : Size). cell_at (a_text size passes) (spell (Words s text) ++ rest) ≡ Ok (Words s text, rest)) fits.0 (rw (text_again size passes text rest fits.1 fits.2) refl)
field_again (a_date passes) (Date o) rest fits = rw (date_again passes o rest fits) refl
field_again field cell rest fits = absurd fits

-- ---- tables

-- cells that the table reads
abbrev pub FitsTable : Table → List Cell → Type 0
FitsTable nothing [] = Unit {0}
FitsTable nothing (cell ∷ more) = ⊥
FitsTable (field then table) [] = ⊥
FitsTable (field then table) (cell ∷ more) = Fits field cell × FitsTable table more
FitsTable (choosing size passes table) (Number other n ∷ more) = (size ≡ other) × (passes n ≡ true) × (n < limit size) × FitsTable (table n) more
FitsTable (choosing size passes table) cells = ⊥

front_takes : (bytes : List ℕ) (cell : Cell) (rest : List ℕ) (table : Table) (read : Result (List Cell × List ℕ) FieldFault) (x : List Cell × List ℕ) → Takes bytes (spell cell) rest
    → ((y : List Cell × List ℕ) → read ≡ Ok y → Takes rest (spelled y.0) y.1 × FitsTable table y.0) → in_front cell read ≡ Ok x
    → (y : List Cell × List ℕ) × (x ≡ (cell ∷ y.0, y.1)) × Takes bytes (spelled (cell ∷ y.0)) y.1 × FitsTable table y.0
front_takes bytes cell rest table read x takes later e =
    let b = giving_ok read (λ r. Ok (cell ∷ r.0, r.1)) x e in
    let l = later b.0 b.1 in
    (b.0, sym (ok_is (cell ∷ b.0.0, b.0.1) x b.2), takes_then bytes (spell cell) rest (spelled b.0.0) b.0.1 takes l.0, l.1)

pub table_takes : (table : Table) (bytes : List ℕ) (x : List Cell × List ℕ) → IsBytes bytes → walk table bytes ≡ Ok x → Takes bytes (spelled x.0) x.1 × FitsTable table x.0
table_takes nothing bytes x fits e =
    subst (λ (y : List Cell × List ℕ). Takes bytes (spelled y.0) y.1 × FitsTable nothing y.0) (ok_is ([], bytes) x e) (record { parts = refl; rest_fits = fits }, tt)
table_takes (field then table) bytes x fits e =
    let b = giving_ok (cell_at field bytes) (λ c. in_front c.0 (walk table c.1)) x e in
    let c = field_takes field bytes b.0 fits b.1 in
    let l = front_takes bytes b.0.0 b.0.1 table (walk table b.0.1) x c.0 (λ y is. table_takes table b.0.1 y c.0.rest_fits is) b.2 in
    subst (λ (y : List Cell × List ℕ). Takes bytes (spelled y.0) y.1 × FitsTable (field then table) y.0) (sym l.1) (l.2, (c.1, l.3))
table_takes (choosing size passes table) bytes x fits e =
    let b = giving_ok (passing_at size passes bytes) (λ n. in_front (Number size n.0) (walk (table n.0) n.1)) x e in
    let n = passing_takes size passes bytes b.0 fits b.1 in
    let l = front_takes bytes (Number size b.0.0) b.0.1 (table b.0.0) (walk (table b.0.0) b.0.1) x n.0.takes (λ y is. table_takes (table b.0.0) b.0.1 y n.0.takes.rest_fits is) b.2 in
    subst (λ (y : List Cell × List ℕ). Takes bytes (spelled y.0) y.1 × FitsTable (choosing size passes table) y.0) (sym l.1) (l.2, (refl, n.1, n.0.below, l.3))

pub table_again : (table : Table) (cells : List Cell) (rest : List ℕ) → FitsTable table cells → walk table (spelled cells ++ rest) ≡ Ok (cells, rest)
table_again nothing [] rest fits = refl
table_again nothing (cell ∷ more) rest fits = absurd fits
table_again (field then table) [] rest fits = absurd fits
table_again (field then table) (cell ∷ more) rest fits =
    rw (append_assoc (spell cell) (spelled more) rest, field_again field cell (spelled more ++ rest) fits.0, table_again table more rest fits.1) refl
table_again (choosing size passes table) [] rest fits = absurd fits
table_again (choosing size passes table) (Words other text ∷ more) rest fits = absurd fits
table_again (choosing size passes table) (Date o ∷ more) rest fits = absurd fits
table_again (choosing size passes table) (Number other n ∷ more) rest fits =
    rw (append_assoc (big_endian other n) (spelled more) rest, number_cell_again size other passes n (spelled more ++ rest) fits.0 fits.1 fits.2, table_again (table n) more rest fits.3) (ap (λ (s : Size). Ok (Number s n ∷ more, rest)) fits.0)
