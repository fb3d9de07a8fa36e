-- What the places of names show after one of them changed.
use Rattle.std.specs.Prelude.{Result, Ok, Err, OnOk, OnErr}
use Rattle.std.proofs.Common.{◌≡◌, ℕ, Bool, true, false, ◌||◌, Option, Some, None, List, [], ◌∷◌, ◌++◌, refl, sym, ap, ◌∙◌, subst, if◌then◌else◌}
use Rattle.std.specs.Map.{lookup}
use Rattle.std.specs.Ordering.{nat_cmp, is_eq}
use Rattle.std.specs.Cmp.Lexicographic.{slice_cmp}
use Rattle.std.specs.String.{string_bytes}
use Rattle.std.specs.declared.string.String.{String}
use Rattle.std.specs.BTreeMap.{BTreeMap, get_by_text}
use Rattle.std.proofs.lemmas.Map.Text.{is_eq-slice_cmp}
use Rattle.std.proofs.lemmas.Cmp.{nat_list_eq_equiv}
use Rattle.std.proofs.lemmas.Slice.Eq.{bytes_eq-Decides}
use Rattle.std.proofs.lemmas.List.Folds.{list_any-append}
use Rattle.plain_words.specs.Lists.{same_text}
use Rattle.zone_shelf.specs.Places.{Places, Placed, place_under, kept_on, is_among, is_ready_on, bytes_in, HasRoom}
use Rattle.zone_shelf.specs.Shown.{places_of, Changes, Prepared}

-- what stands under a name is what the map has under its text
shown_under : {A : Type 0} (entries : List (String A × Placed)) (q : List ℕ)
    → place_under (places_of entries) q ≡ lookup (λ (k : String A). is_eq (slice_cmp nat_cmp q (string_bytes k))) entries
shown_under [] q = refl
shown_under (entry ∷ entries) q = rw (← is_eq-slice_cmp q (string_bytes entry.0), shown_under entries q) refl

shown_of : {A : Type 0} (places : BTreeMap (String A) Placed) (q : List ℕ) → place_under (places_of places.entries) q ≡ get_by_text places q
shown_of places q = shown_under places.entries q

pub bytes_shown : {A : Type 0} (places : BTreeMap (String A) Placed) (q : List ℕ) → bytes_in (places_of places.entries) q ≡ kept_on (get_by_text places q)
bytes_shown places q = ap kept_on (shown_of places q)

pub ready_shown : {A : Type 0} (places : BTreeMap (String A) Placed) (q bytes : List ℕ)
    → is_ready_on bytes (place_under (places_of places.entries) q) ≡ is_ready_on bytes (get_by_text places q)
ready_shown places q bytes = ap (is_ready_on bytes) (shown_of places q)

module _ {A : Type 0} (places : BTreeMap (String A) Placed) (seen : Places) (is : places_of places.entries ≡ seen) where
  -- the same of what contracts see
  pub bytes_seen : (q : List ℕ) → bytes_in seen q ≡ kept_on (get_by_text places q)
  bytes_seen q = ap (λ (p : Places). bytes_in p q) (sym is) ∙ bytes_shown places q

  pub ready_seen : (q bytes : List ℕ) → is_ready_on bytes (place_under seen q) ≡ is_ready_on bytes (get_by_text places q)
  ready_seen q bytes = ap (λ (p : Places). is_ready_on bytes (place_under p q)) (sym is) ∙ ready_shown places q bytes

  -- what is kept under a name, as the map was asked for it by its text
  pub kept_seen : (asked q : List ℕ) (found : Option Placed) → asked ≡ q → found ≡ get_by_text places asked → kept_on found ≡ bytes_in seen q
  kept_seen asked q found same get = ap kept_on (get ∙ ap (λ (t : List ℕ). get_by_text places t) same) ∙ sym (bytes_seen q)

-- two texts that are the same are one
one_text : (a b : List ℕ) → same_text a b ≡ true → a ≡ b
one_text a b same = (bytes_eq-Decides a b).0 same

-- ---- what lies ready

-- what lies ready still does among more
ready_front : (bytes : List ℕ) (before more : List (List ℕ)) → is_among bytes before ≡ true → is_among bytes (before ++ more) ≡ true
ready_front bytes before more among = list_any-append (same_text bytes) before more ∙ ap (λ (b : Bool). b || is_among bytes more) among

or_true : (b : Bool) → (b || true) ≡ true
or_true true = refl
or_true false = refl

-- what was added lies ready
pub ready_last : (bytes : List ℕ) (before : List (List ℕ)) → is_among bytes (before ++ bytes ∷ []) ≡ true
ready_last bytes before =
    list_any-append (same_text bytes) before (bytes ∷ [])
    ∙ ap (λ (b : Bool). is_among bytes before || (b || false)) (nat_list_eq_equiv.refl bytes)
    ∙ or_true (is_among bytes before)

-- whether one more was added or none, what lay ready does
pub ready_still : {T E : Type 0} (r : Result T E) (read : List ℕ) (before after : List (List ℕ)) → OnOk r (after ≡ before ++ read ∷ []) → OnErr r (after ≡ before) → (bytes : List ℕ)
    → is_among bytes before ≡ true → is_among bytes after ≡ true
ready_still (Ok t) read before after ok err bytes among = ap (is_among bytes) ok ∙ ready_front bytes before (read ∷ []) among
ready_still (Err e) read before after ok err bytes among = ap (is_among bytes) err ∙ among

pub ready_now : {T E : Type 0} (r : Result T E) (read : List ℕ) (before after : List (List ℕ)) (o : Option Placed) (place : Placed) → OnOk r (after ≡ before ++ read ∷ []) → o ≡ Some place → place.ready ≡ after
    → OnOk r (is_ready_on read o ≡ true)
ready_now (Ok t) read before after o place ok is same = ap (is_ready_on read) is ∙ ap (is_among read) (same ∙ ok) ∙ ready_last read before
ready_now (Err e) read before after o place ok is same = ok

-- ---- a map after one place changed

module _ {A : Type 0} (old new : BTreeMap (String A) Placed) (name : List ℕ) (after : Placed) (changes : Changes old new name after) where
  pub changed_here : get_by_text new name ≡ Some after
  changed_here = changes name ∙ ap (λ (b : Bool). if b then Some after else get_by_text old name) (nat_list_eq_equiv.refl name)

  -- what holds of every name, where it holds of the changed one and of one that stays
  by_change : (P : Option Placed → Option Placed → Type 0) → P (get_by_text old name) (Some after) → ((o : Option Placed) → P o o) → (q : List ℕ)
      → P (get_by_text old q) (get_by_text new q)
  by_change P here stays q = by_test (same_text name q) refl (changes q)
    where
      by_test : (b : Bool) → same_text name q ≡ b → get_by_text new q ≡ (if b then Some after else get_by_text old q) → P (get_by_text old q) (get_by_text new q)
      by_test true same is =
          subst (λ (o : Option Placed). P (get_by_text old q) o) (sym is)
          (subst (λ (t : List ℕ). P (get_by_text old t) (Some after)) (one_text name q same) here)
      by_test false other is = subst (λ (o : Option Placed). P (get_by_text old q) o) (sym is) (stays (get_by_text old q))

  -- a place that keeps the same, in which more lies ready
  pub prepared_by : (before : Placed) → get_by_text old name ≡ Some before → after.kept ≡ before.kept
      → ((bytes : List ℕ) → is_among bytes before.ready ≡ true → is_among bytes after.ready ≡ true) → Prepared old new
  prepared_by before there kept ready = record {
    kept = by_change (λ o n. kept_on n ≡ kept_on o) (kept ∙ sym (ap kept_on there)) (λ o. refl);
    ready = λ q bytes. by_change (λ o n. is_ready_on bytes o ≡ true → is_ready_on bytes n ≡ true)
        (subst (λ (o : Option Placed). is_ready_on bytes o ≡ true → is_among bytes after.ready ≡ true) (sym there) (ready bytes)) (λ o h. h) q;
  }

  -- a place with nothing in it, where none was
  pub prepared_new : get_by_text old name ≡ None → after.kept ≡ None → Prepared old new
  prepared_new absent empty = record {
    kept = by_change (λ o n. kept_on n ≡ kept_on o) (empty ∙ sym (ap kept_on absent)) (λ o. refl);
    ready = λ q bytes. by_change (λ o n. is_ready_on bytes o ≡ true → is_ready_on bytes n ≡ true)
        (subst (λ (o : Option Placed). is_ready_on bytes o ≡ true → is_among bytes after.ready ≡ true) (sym absent) (λ (h : false ≡ true). absurd (let no : false ≡ true = h in cc)))
        (λ o h. h) q;
  }

  -- the bytes of each name, where one keeps these now
  pub kept_now : (seen : Places) (bytes : List ℕ) → places_of old.entries ≡ seen → after.kept ≡ Some bytes → (q : List ℕ)
      → bytes_in (places_of new.entries) q ≡ (if same_text q name then Some bytes else bytes_in seen q)
  kept_now seen bytes is keeps q =
      bytes_shown new q ∙ ap kept_on (changes q) ∙ by_test (same_text name q)
      ∙ ap (λ (b : Bool). if b then Some bytes else bytes_in seen q) (nat_list_eq_equiv.symm name q)
    where
      by_test : (b : Bool) → kept_on (if b then Some after else get_by_text old q) ≡ (if b then Some bytes else bytes_in seen q)
      by_test true = keeps
      by_test false = sym (bytes_seen old seen is q)

-- ---- one change after another

pub prepared_twice : {A : Type 0} (old mid new : BTreeMap (String A) Placed) → Prepared old mid → Prepared mid new → Prepared old new
prepared_twice old mid new first second = record {
  kept = λ q. second.kept q ∙ first.kept q;
  ready = λ q bytes has. second.ready q bytes (first.ready q bytes has);
}

pub prepared_not : {A : Type 0} (old : BTreeMap (String A) Placed) → Prepared old old
prepared_not old = record { kept = λ q. refl; ready = λ q bytes has. has }

-- ---- what contracts see after a place was prepared

module _ {A : Type 0} (old new : BTreeMap (String A) Placed) (seen : Places) (is : places_of old.entries ≡ seen) (prepared : Prepared old new) where
  pub same_bytes : (q : List ℕ) → bytes_in (places_of new.entries) q ≡ bytes_in seen q
  same_bytes q = bytes_shown new q ∙ prepared.kept q ∙ sym (bytes_seen old seen is q)

  pub same_room : (q bytes : List ℕ) → HasRoom seen q bytes → HasRoom (places_of new.entries) q bytes
  same_room q bytes has = ready_shown new q bytes ∙ prepared.ready q bytes (sym (ready_seen old seen is q bytes) ∙ has)

-- what was laid ready can be kept
pub room_made : {A T E : Type 0} (new : BTreeMap (String A) Placed) (q read bytes : List ℕ) (r : Result T E) (t : T) → r ≡ Ok t → OnOk r (is_ready_on read (get_by_text new q) ≡ true) → read ≡ bytes
    → HasRoom (places_of new.entries) q bytes
room_made {A} {T} {E} new q read bytes r t is ready same =
    ready_shown new q bytes
    ∙ subst (λ (b : List ℕ). is_ready_on b (get_by_text new q) ≡ true) same
    (subst (λ (s : Result T E). OnOk s (is_ready_on read (get_by_text new q) ≡ true)) is ready)
