-- Each step of the desk keeps the rule.
use Rattle.std.proofs.Common.{◌≡◌, ◌≢◌, ◌⊎◌, ℕ, zero, suc, ◌+◌, ◌%◌, ◌^◌, ◌<◌, ◌≤◌, eqb, ltb, max, Bool, true, false, List, [], ◌∷◌, length, drop, set, cond, Option, Some, None, slice_get, refl, sym, ap, ◌∙◌, subst, ⊎_elim, inl, inr, arith}
use Rattle.std.specs.Prelude.{slice_index}
use Rattle.std.specs.List.{All}
use Rattle.std.proofs.lemmas.List.Elements.{All-nil, All-weaker, All-append}
use Rattle.std.proofs.lemmas.Bool.{cases_eq, false≢true, lt-ltb, le-ltb, eq-eqb, ne_eqb}
use Rattle.std.proofs.lemmas.Option.{slice_get_within}
use mathlib.Core.Logic.{dite}
use mathlib.Core.Option.{none, some, some-ne-none, some-injective}
use mathlib.Core.Option as maybe
use mathlib.Core.List.{IsPrefix}
use native.Mathlib.Decide.{ℕ_discrete}
use prog.Atomic.{either}
use lib.ListN.{get_elem?}
use Rattle.atomic_table.specs.Table.{State, Me, step, Act, keeps, takes, gives, Valid, stepped, carried_after, Allows, Splits, Joins, opening}
use Rattle.atomic_table.proofs.Lists.{at_set, set_here, set_else, set_again, at_snoc, at_longer, exchanged}
use Rattle.turn_desk.specs.declared.known.Gauge.{Gauge}
use Rattle.turn_desk.specs.declared.known.Reading.{Reading}
use Rattle.turn_desk.specs.declared.known.Known.{Known}
use Rattle.turn_desk.specs.declared.known.View.{View}
use Rattle.turn_desk.specs.declared.known.View.TheVariants.{Free, Beside, Waits, Called, Took, Told, Returned, Gone}
use Rattle.turn_desk.specs.Knowing.{added, knows_value, newcomer, together, after_turn, GoesOn, MayLeave, AreOfOne}
use Rattle.turn_desk.specs.Turns.{Whole, IsOwn, IsPartOf, Line, HasTicket, Fits, HasValue, IsHome, IsOut, Rule, knowledge, other, reading, drew, looked, took, told, gave, passed, compared}
use Rattle.turn_desk.proofs.Places.{prefix_self, prefix_trans, prefix_get, prefix_longer, get_drop, all_numbered, rises_on, by_place_all, by_place_rises}

-- an element that a list has is within it
within : {A : Type 0} (l : List A) (i : ℕ) (a : A) → get_elem? l i ≡ some a → i < length l
within [] i a e = absurd (some-ne-none a (sym e))
within (x ∷ xs) zero a e = omega arith
within (x ∷ xs) (suc i) a e = let h : i < length xs = within xs i a e in omega arith

module _ {E : Type 0} where
  -- how every view fits after a step of one seat
  seats : (F : ℕ → View E → Type 0) (views : List (View E)) (me : ℕ) (w : View E) → F me w → ((j : ℕ) (v : View E) → j ≢ me → get_elem? views j ≡ some v → F j v)
      → (j : ℕ) (v : View E) → get_elem? (set views me w) j ≡ some v → F j v
  seats F views me w mine others j v e = ⊎_elim (λ (t : (j ≡ me) × (w ≡ v)). subst (λ (x : ℕ × View E). F x.0 x.1) (λ i. (sym t.0 i, t.1 i)) mine)
      (λ (t : (j ≢ me) × (get_elem? views j ≡ some v)). others j v t.0 t.1) (at_set views me j w v e)

  -- a view of a seat that had no part in a step still fits
  moves : (all all' : Whole E) (line line' : Line) (j : ℕ) (v : View E)
      → ((b : Bool) (k : Known E) → IsPartOf all (j, b) k → IsPartOf all' (j, b) k)
      → ((t : ℕ) → HasTicket line j t → HasTicket line' j t)
      → ((t : ℕ) → HasTicket line j t → t ≡ line.served → (t ≡ line'.served) × (all'.entries ≡ all.entries) × (all'.faults ≡ all.faults) × (all'.limit ≡ all.limit))
      → Fits all line j v → Fits all' line' j v
  moves all all' line line' j (Free k) part has turn f = part false k f
  moves all all' line line' j (Beside k l) part has turn f = (part false k f.0, part true l f.1)
  moves all all' line line' j (Waits k t) part has turn f = (part false k f.0, has t f.1)
  moves all all' line line' j (Called k t) part has turn f = (part false k f.0, has t f.1, (turn t f.1 f.2).0)
  moves all all' line line' j (Took k t r) part has turn f = let same = turn t f.1 f.2 in
      (part false k f.0, has t f.1, same.0, record { entries = f.3.entries ∙ sym same.1; faults = f.3.faults ∙ sym same.2; limit = f.3.limit ∙ sym same.3 })
  moves all all' line line' j (Told k t) part has turn f = let same = turn t f.1 f.2 in (part false k f.0, has t f.1, same.0, f.3 ∙ sym same.1, f.4 ∙ sym same.2)
  moves all all' line line' j (Returned k t) part has turn f = (part false k f.0, has t f.1, (turn t f.1 f.2).0)
  moves all all' line line' j Gone part has turn f = tt

  -- the seat that has the value has the turn
  turn_of_value : (all : Whole E) (line : Line) (j : ℕ) (v : View E) → HasValue v → Fits all line j v → line.holder line.served ≡ j
  turn_of_value all line j (Took k t r) h f = ap line.holder (sym f.2) ∙ f.1.held
  turn_of_value all line j (Told k t) h f = ap line.holder (sym f.2) ∙ f.1.held
  turn_of_value all line j (Free k) h f = absurd h
  turn_of_value all line j (Beside k l) h f = absurd h
  turn_of_value all line j (Waits k t) h f = absurd h
  turn_of_value all line j (Called k t) h f = absurd h
  turn_of_value all line j (Returned k t) h f = absurd h
  turn_of_value all line j Gone h f = absurd h

  -- what is known stays a part of a whole that grows and gives none of its places to another
  grows : (all all' : Whole E) (by : ℕ × Bool) → IsPrefix all.entries all'.entries → all.faults ≤ all'.faults → all'.limit ≡ all.limit
      → ((p : ℕ) → p < length all.entries → all.owner p ≡ by → all'.owner p ≡ by)
      → (k : Known E) → IsPartOf all by k → IsPartOf all' by k
  grows all all' by longer_list more same owned k part = record {
    seen = prefix_trans k.seen all.entries all'.entries part.seen longer_list;
    faults = (let a : k.faults ≤ all.faults = part.faults in omega arith);
    limit = part.limit ∙ sym same;
    own = All-weaker (IsOwn all by) (IsOwn all' by)
        (λ p o. record { there = prefix_get all.entries all'.entries p.0 p.1 longer_list o.there; owned = owned p.0 (slice_get_within all.entries p.0 p.1 o.there) o.owned })
        k.own part.own;
    rises = part.rises;
  }

max_below : (a b c : ℕ) → a ≤ c → b ≤ c → max a b ≤ c
max_below a b c p q = grind arith

-- the places of the seat `from` pass to `to`
abbrev heir : ℕ → ℕ × Bool → ℕ × Bool → ℕ × Bool
heir from to by = cond (eqb by.0 from) to by

heir_of : (from : ℕ) (to by : ℕ × Bool) → by.0 ≡ from → heir from to by ≡ to
heir_of from to by e = ap (λ b. cond b to by) (eq-eqb by.0 from e)

heir_else : (from : ℕ) (to by : ℕ × Bool) → by.0 ≢ from → heir from to by ≡ by
heir_else from to by n = ap (λ b. cond b to by) (ne_eqb by.0 from n)

module _ {E : Type 0} where
  abbrev passed_on : Whole E → ℕ → ℕ × Bool → Whole E
  passed_on all from to = record { entries = all.entries; faults = all.faults; limit = all.limit; owner = λ p. heir from to (all.owner p) }

  -- what others own stays, and what the seat had becomes the heir's
  keeps_own : (all : Whole E) (from : ℕ) (to by : ℕ × Bool) → by.0 ≢ from → (k : Known E) → IsPartOf all by k → IsPartOf (passed_on all from to) by k
  keeps_own all from to by n k part = record {
    seen = part.seen;
    faults = part.faults;
    limit = part.limit;
    rises = part.rises;
    own = All-weaker (IsOwn all by) (IsOwn (passed_on all from to) by)
        (λ p o. record { there = o.there; owned = ap (heir from to) o.owned ∙ heir_else from to by n }) k.own part.own;
  }

  inherits : (all : Whole E) (from : ℕ) (to by : ℕ × Bool) → by.0 ≡ from → (k : Known E) → IsPartOf all by k → IsPartOf (passed_on all from to) to k
  inherits all from to by e k part = record {
    seen = part.seen;
    faults = part.faults;
    limit = part.limit;
    rises = part.rises;
    own = All-weaker (IsOwn all by) (IsOwn (passed_on all from to) to)
        (λ p o. record { there = o.there; owned = ap (heir from to) o.owned ∙ heir_of from to by e }) k.own part.own;
  }

  -- what two seats know of one whole, they know of one history
  of_one : (all : Whole E) (seat : ℕ) (k l : Known E) → IsPartOf all (seat, false) k → IsPartOf all (seat, true) l → AreOfOne k l
  of_one all seat k l a b =
      let fronts = prefix_longer k.seen l.seen all.entries a.seen b.seen in record {
        first = fronts.0;
        second = fronts.1;
        own = by_place_rises 0 k.own l.own a.rises b.rises
            (All-weaker (IsOwn all (seat, false)) (λ p. All (λ q. p.0 ≢ q.0) l.own)
            (λ p o. All-weaker (IsOwn all (seat, true)) (λ q. p.0 ≢ q.0)
            (λ q r e. false≢true (ap (λ (by : ℕ × Bool). by.1) (sym o.owned ∙ (ap all.owner e ∙ r.owned)))) l.own b.own) k.own a.own);
        limit = b.limit ∙ sym a.limit;
      }

  -- and together it is a part of the whole, once the places are of one owner
  is_together : (all : Whole E) (by : ℕ × Bool) (k l : Known E) → IsPartOf all by k → IsPartOf all by l → AreOfOne k l → IsPartOf all by (together k l)
  is_together all by k l a b one = record {
    seen = (prefix_longer k.seen l.seen all.entries a.seen b.seen).2;
    faults = max_below k.faults l.faults all.faults a.faults b.faults;
    limit = a.limit;
    own = by_place_all (IsOwn all by) k.own l.own a.own b.own;
    rises = one.own;
  }

carried_or : {A : Type 0} → A → List (ℕ × Option A) → A
carried_or d [] = d
carried_or d ((c, Some x) ∷ xs) = x
carried_or d ((c, None) ∷ xs) = d

some_same : {A : Type 0} (x y : A) → ◌≡◌ {A = List (ℕ × Option A)} ((0, Some x) ∷ []) ((0, Some y) ∷ []) → x ≡ y
unfolding carried_or
some_same x y e = ap (carried_or x) e

module _ {T E : Type 0} (entries : T → List E) (gauge : T → Gauge) where
  abbrev St : Type 0
  St = State (Option T) (View E)

  abbrev M : Type 0
  M = Me (Option T) (View E)

  abbrev R : St → Type 0
  R = Rule entries gauge

  abbrev Homes : Type 0
  Homes = List (maybe.Option (Option T))

  -- who has the value still has it
  out_stays : (homes : Homes) (views : List (View E)) (me : ℕ) (v w : View E) → get_elem? views me ≡ some v → (HasValue v → HasValue w) → IsOut entries gauge homes views → IsOut entries gauge homes (set views me w)
  out_stays homes views me v w at keep o = dite (ℕ_discrete o.seat me)
      (λ e. let same : v ≡ o.view = some-injective v o.view (sym at ∙ (ap (get_elem? views) (sym e) ∙ o.there)) in
      record { out = o.out; seat = me; view = w; there = set_here views me w (within views me v at); has = keep (subst (λ (x : View E). HasValue x) (sym same) o.has) })
      (λ n. record { out = o.out; seat = o.seat; view = o.view; there = set_else views me o.seat w n ∙ o.there; has = o.has })

  -- and no seat that had none has it
  alone_stays : (views : List (View E)) (me : ℕ) (v w : View E) → get_elem? views me ≡ some v → (HasValue w → HasValue v) → ((j : ℕ) (u : View E) → get_elem? views j ≡ some u → HasValue u → ⊥)
      → (j : ℕ) (u : View E) → get_elem? (set views me w) j ≡ some u → HasValue u → ⊥
  alone_stays views me v w at back alone = seats (λ (j : ℕ) (u : View E). HasValue u → ⊥) views me w (λ h. alone me v at (back h)) (λ j u n e. alone j u e)

  home_of : (all all' : Whole E) (homes : Homes) (views : List (View E)) (me : ℕ) (v w : View E) → get_elem? views me ≡ some v → (HasValue w → HasValue v) → all'.entries ≡ all.entries → all'.faults ≡ all.faults → all'.limit ≡ all.limit
      → IsHome entries gauge all homes views → IsHome entries gauge all' homes (set views me w)
  home_of all all' homes views me v w at back a b c h = record { value = h.value; home = h.home; list = h.list ∙ sym a; faults = h.faults ∙ sym b; limit = h.limit ∙ sym c; alone = alone_stays views me v w at back h.alone }

  value_stays : (all all' : Whole E) (homes : Homes) (views : List (View E)) (me : ℕ) (v w : View E) → get_elem? views me ≡ some v → (HasValue v → HasValue w) → (HasValue w → HasValue v) → all'.entries ≡ all.entries → all'.faults ≡ all.faults → all'.limit ≡ all.limit
      → IsHome entries gauge all homes views ⊎ IsOut entries gauge homes views → IsHome entries gauge all' homes (set views me w) ⊎ IsOut entries gauge homes (set views me w)
  value_stays all all' homes views me v w at keep back a b c x = ⊎_elim (λ h. inl (home_of all all' homes views me v w at back a b c h)) (λ o. inr (out_stays homes views me v w at keep o)) x

  -- draw
  abbrev drawn_line : Line → ℕ → Line
  drawn_line l me = record { next = l.next + 1; served = l.served; holder = λ t. cond (eqb t l.next) me (l.holder t) }

  still_has : (l : Line) (me j t : ℕ) → HasTicket l j t → HasTicket (drawn_line l me) j t
  still_has l me j t h = record {
    drawn = (let a : t < l.next = h.drawn in omega arith);
    due = h.due;
    held = ap (λ b. cond b me (l.holder t)) (ne_eqb t l.next (λ e. let a : t < l.next = h.drawn in omega arith)) ∙ h.held;
  }

  pub draws : (slots id : ℕ) (k : Known E) (old new : ℕ) → old < 2 ^ 62 → new ≡ old + 1
      → Allows R slots id (Free k, []) 0 (λ n. either (eqb n old) new n) (drew entries gauge (step slots 0 old new none) (Free k, []))
  draws slots id k old new low up s r deep at fits = exchanged n old new
      (λ x. (w : View E) × (a : Act (Option T)) × Valid s.homes [] a × R (stepped s 0 x id [] w a) × drew entries gauge (step slots 0 old new none) (Free k, []) n (w, carried_after [] a))
      hit miss
    where
      n : ℕ
      n = slice_index s.words 0

      n_is : n ≡ r.line.next
      n_is = ap (λ ws. slice_index ws 0) r.words_are

      hit : n ≡ old → (w : View E) × (a : Act (Option T)) × Valid s.homes [] a × R (stepped s 0 new id [] w a) × drew entries gauge (step slots 0 old new none) (Free k, []) n (w, carried_after [] a)
      hit e =
          let l = r.line in
          let next_is : l.next ≡ old = sym n_is ∙ e in
          let mine = r.fits id (Free k) at in
          let order : l.served ≤ l.next = r.order in
          let room : l.next < 2 ^ 62 = subst (λ (x : ℕ). x < 2 ^ 62) (sym next_is) low in
          let upper : new ≡ l.next + 1 = up ∙ ap (λ x. x + 1) (sym next_is) in
          let has : HasTicket (drawn_line l id) id n = record {
            drawn = subst (λ (x : ℕ). x < l.next + 1) (sym n_is) (omega arith);
            due = subst (λ (x : ℕ). l.served ≤ x) (sym n_is) order;
            held = ap (λ b. cond b id (l.holder n)) (eq-eqb n l.next n_is);
          } in (
            Waits k n,
            keeps,
            tt,
            record {
              all = r.all;
              line = drawn_line l id;
              words_are = ap (λ ws. set ws 0 new) r.words_are ∙ ap (λ x. x ∷ l.served ∷ length r.all.entries ∷ []) upper;
              room = (omega arith);
              order = (omega arith);
              fits = seats (Fits r.all (drawn_line l id)) s.views id (Waits k n) (mine, has)
                  (λ j v apart there. moves r.all r.all l (drawn_line l id) j v (λ b x p. p) (λ t h. still_has l id j t h) (λ t h q. (q, refl, refl, refl)) (r.fits j v there));
              value = value_stays r.all r.all s.homes s.views id (Free k) (Waits k n) at (λ h. absurd h) (λ h. absurd h) refl refl refl r.value;
            },
            ((λ _. refl), (λ ne. absurd (ne e))),
          )

      miss : n ≢ old → (w : View E) × (a : Act (Option T)) × Valid s.homes [] a × R (stepped s 0 n id [] w a) × drew entries gauge (step slots 0 old new none) (Free k, []) n (w, carried_after [] a)
      miss ne = (
        Free k,
        keeps,
        tt,
        record {
          all = r.all;
          line = r.line;
          words_are = ap (λ ws. set ws 0 (slice_index ws 0)) r.words_are;
          room = r.room;
          order = r.order;
          fits = subst (λ (l : List (View E)). (seat : ℕ) (v : View E) → get_elem? l seat ≡ some v → Fits r.all r.line seat v) (sym (set_again s.views id (Free k) at)) r.fits;
          value = value_stays r.all r.all s.homes s.views id (Free k) (Free k) at (λ h. h) (λ h. h) refl refl refl r.value;
        },
        ((λ e. absurd (ne e)), (λ _. refl)),
      )

  -- a step of one seat that changes no word and nothing but its view and the slot
  only_mine : (s : St) (r : R s) (i id : ℕ) (w : View E) (homes' : Homes) → set s.words i (slice_index s.words i) ≡ s.words
      → Fits r.all r.line id w → IsHome entries gauge r.all homes' (set s.views id w) ⊎ IsOut entries gauge homes' (set s.views id w)
      → R record { words = set s.words i (slice_index s.words i); homes = homes'; views = set s.views id w }
  only_mine s r i id w homes' same mine value = record {
    all = r.all;
    line = r.line;
    words_are = same ∙ r.words_are;
    room = r.room;
    order = r.order;
    fits = seats (Fits r.all r.line) s.views id w mine (λ j v apart there. r.fits j v there);
    value = value;
  }

  same_word : (s : St) (r : R s) → set s.words 1 (slice_index s.words 1) ≡ s.words
  same_word s r = ap (λ ws. set ws 1 (slice_index ws 1)) r.words_are ∙ sym r.words_are

  -- look
  pub looks : (slots id : ℕ) (k : Known E) (t : ℕ) → Allows R slots id (Waits k t, []) 1 (λ n. n) (looked entries gauge (step slots 1 0 0 none) (Waits k t, []))
  looks slots id k t s r deep at fits = dite (ℕ_discrete (slice_index s.words 1) t)
      (λ e. let served_is : slice_index s.words 1 ≡ r.line.served = ap (λ ws. slice_index ws 1) r.words_are in
      let mine = r.fits id (Waits k t) at in (
        Called k t,
        keeps,
        tt,
        only_mine s r 1 id (Called k t) s.homes (same_word s r) (mine.0, mine.1, sym e ∙ served_is)
            (value_stays r.all r.all s.homes s.views id (Waits k t) (Called k t) at (λ h. absurd h) (λ h. absurd h) refl refl refl r.value),
        ((λ _. refl), (λ ne. absurd (ne e))),
      ))
      (λ ne. (
        Waits k t,
        keeps,
        tt,
        only_mine s r 1 id (Waits k t) s.homes (same_word s r) (r.fits id (Waits k t) at)
            (value_stays r.all r.all s.homes s.views id (Waits k t) (Waits k t) at (λ h. h) (λ h. h) refl refl refl r.value),
        ((λ e. absurd (ne e)), (λ _. refl)),
      ))

  -- take
  pub take_out : (slots id : ℕ) (k : Known E) (t : ℕ) → Allows R slots id (Called k t, []) 1 (λ n. n) (took entries gauge (step slots 1 0 0 none) (Called k t, []))
  take_out slots id k t s r deep at fits = ⊎_elim from_home from_out r.value
    where
      mine : Fits r.all r.line id (Called k t)
      mine = r.fits id (Called k t) at

      from_home : IsHome entries gauge r.all s.homes s.views → (w : View E) × (a : Act (Option T)) × Valid s.homes [] a × R (stepped s 1 (slice_index s.words 1) id [] w a) × took entries gauge (step slots 1 0 0 none) (Called k t, []) (slice_index s.words 1) (w, carried_after [] a)
      from_home h =
          let x = h.value in
          let list : entries x ≡ r.all.entries = h.list in
          let faults : (gauge x).faults ≡ r.all.faults = h.faults in
          let goes : GoesOn k (entries x) (gauge x) = record {
            seen = subst (IsPrefix k.seen) (sym list) mine.0.seen;
            own = subst (λ (l : List E). All (λ (p : ℕ × E). slice_get l p.0 ≡ Some p.1) k.own) (sym list) (All-weaker (IsOwn r.all (id, false)) (λ (p : ℕ × E). slice_get r.all.entries p.0 ≡ Some p.1) (λ p o. o.there) k.own mine.0.own);
            faults = subst (λ (n : ℕ). k.faults ≤ n) (sym faults) mine.0.faults;
            limit = h.limit ∙ sym mine.0.limit;
          } in (
            Took k t (reading entries gauge x),
            takes 0 (Some x),
            ap (λ hs. get_elem? hs 0) h.home,
            only_mine s r 1 id (Took k t (reading entries gauge x)) (set s.homes 0 none) (same_word s r)
                (mine.0, mine.1, mine.2, record { entries = list; faults = faults; limit = h.limit })
                (inr (record { out = ap (λ hs. set hs 0 none) h.home; seat = id; view = Took k t (reading entries gauge x); there = set_here s.views id (Took k t (reading entries gauge x)) (within s.views id (Called k t) at); has = tt })),
            (x, goes, refl),
          )

      from_out : IsOut entries gauge s.homes s.views → (w : View E) × (a : Act (Option T)) × Valid s.homes [] a × R (stepped s 1 (slice_index s.words 1) id [] w a) × took entries gauge (step slots 1 0 0 none) (Called k t, []) (slice_index s.words 1) (w, carried_after [] a)
      from_out o =
          let theirs = turn_of_value r.all r.line o.seat o.view o.has (r.fits o.seat o.view o.there) in
          let me : r.line.holder r.line.served ≡ id = ap r.line.holder (sym mine.2) ∙ mine.1.held in
          let seat : o.seat ≡ id = sym theirs ∙ me in
          let view : o.view ≡ Called k t = some-injective o.view (Called k t) (sym o.there ∙ (ap (get_elem? s.views) seat ∙ at)) in
          absurd (subst (λ (v : View E). HasValue v) view o.has)

  -- return
  pub gives_back : (slots id : ℕ) (k : Known E) (t : ℕ) (x : T) → entries x ≡ k.seen → (gauge x).faults ≡ k.faults → (gauge x).limit ≡ k.limit
      → Allows R slots id (Told k t, (0, Some x) ∷ []) 1 (λ n. n) (gave entries gauge (step slots 1 0 0 none) (Told k t, (0, Some x) ∷ []))
  gives_back slots id k t x list faults limit s r deep at fits =
      let mine = r.fits id (Told k t) at in
      let home : set s.homes 0 (some (Some x)) ≡ some (Some x) ∷ [] = ⊎_elim (λ (h : IsHome entries gauge r.all s.homes s.views). ap (λ hs. set hs 0 (some (Some x))) h.home) (λ (o : IsOut entries gauge s.homes s.views). ap (λ hs. set hs 0 (some (Some x))) o.out) r.value in (
        Returned k t,
        gives,
        tt,
        only_mine s r 1 id (Returned k t) (set s.homes 0 (some (Some x))) (same_word s r) (mine.0, mine.1, mine.2)
            (inl (record { value = x; home = home; list = list ∙ mine.3; faults = faults ∙ mine.4; limit = limit ∙ mine.0.limit; alone = seats (λ (j : ℕ) (u : View E). HasValue u → ⊥) s.views id (Returned k t) (λ h. h) (λ j u apart e h. apart (sym (turn_of_value r.all r.line j u h (r.fits j u e)) ∙ (ap r.line.holder (sym mine.2) ∙ mine.1.held))) })),
        refl,
      )

  -- a step that ends a turn or is made in it: the seat holds the ticket that is served, so that no other does
  not_served : (l : Line) (me j t : ℕ) {X : Type 0} → l.holder l.served ≡ me → j ≢ me → HasTicket l j t → t ≡ l.served → X
  not_served l me j t is apart h e = absurd (apart (sym h.held ∙ (ap l.holder e ∙ is)))

  -- pass
  pub passes : (slots id : ℕ) (k : Known E) (t : ℕ) → Allows R slots id (Returned k t, []) 1 (λ n. (n + 1) % 2 ^ 64) (passed entries gauge (step slots 1 1 0 none) (Returned k t, []))
  passes slots id k t s r deep at fits =
      let mine = r.fits id (Returned k t) at in
      let l = r.line in
      let l' : Line = record { next = l.next; served = l.served + 1; holder = l.holder } in
      let n : ℕ = slice_index s.words 1 in
      let n_is : n ≡ l.served = ap (λ ws. slice_index ws 1) r.words_are in
      let me : l.holder l.served ≡ id = ap l.holder (sym mine.2) ∙ mine.1.held in
      let here : l.served < l.next = subst (λ (x : ℕ). x < l.next) mine.2 mine.1.drawn in
      let room : l.next ≤ 2 ^ 62 = r.room in
      let up : (n + 1) % 2 ^ 64 ≡ l.served + 1 = ap (λ x. (x + 1) % 2 ^ 64) n_is ∙ small l.served (omega arith) in (
        Free k,
        keeps,
        tt,
        record {
          all = r.all;
          line = l';
          words_are = ap (λ ws. set ws 1 ((n + 1) % 2 ^ 64)) r.words_are ∙ ap (λ x. l.next ∷ x ∷ length r.all.entries ∷ []) up;
          room = room;
          order = (omega arith);
          fits = seats (Fits r.all l') s.views id (Free k) mine.0
              (λ j v apart there. moves r.all r.all l l' j v (λ b x p. p)
              (λ q h. elim (cases_eq q l.served) [ inl e ↦ not_served l id j q me apart h e | inr ne ↦ record { drawn = h.drawn; due = (let a : l.served ≤ q = h.due in grind arith); held = h.held } ])
              (λ q h e. not_served l id j q me apart h e) (r.fits j v there));
          value = value_stays r.all r.all s.homes s.views id (Returned k t) (Free k) at (λ h. absurd h) (λ h. absurd h) refl refl refl r.value;
        },
        refl,
      )
    where
      small : (x : ℕ) → x < 2 ^ 62 → (x + 1) % 2 ^ 64 ≡ x + 1
      small x h = omega arith

  -- tally
  pub tells : (slots id : ℕ) (k : Known E) (t : ℕ) (f : Reading E) (x : T) (count : ℕ) → MayLeave k f (entries x) (gauge x) → count ≡ length (entries x)
      → Allows R slots id (Took k t f, (0, Some x) ∷ []) 2 (λ _. count) (λ _. told entries gauge (step slots 2 count 0 none) (Took k t f, (0, Some x) ∷ []) count)
  tells slots id k t f x count may counts s r deep at fits =
      let mine = r.fits id (Took k t f) at in
      let l = r.line in
      let me : l.holder l.served ≡ id = ap l.holder (sym mine.2) ∙ mine.1.held in
      let n : ℕ = length f.entries in
      let list : f.entries ≡ r.all.entries = mine.3.entries in
      let longer_list : IsPrefix r.all.entries (entries x) = subst (λ (l : List E). IsPrefix l (entries x)) list may.grown in
      let more : r.all.faults ≤ (gauge x).faults = subst (λ (a : ℕ). a ≤ (gauge x).faults) mine.3.faults may.faults in
      let all' : Whole E = record { entries = entries x; faults = (gauge x).faults; limit = r.all.limit; owner = λ p. cond (ltb p n) (r.all.owner p) (id, false) } in
      let before : (p : ℕ) → p < length r.all.entries → all'.owner p ≡ r.all.owner p = λ p h. ap (λ b. cond b (r.all.owner p) (id, false)) (lt-ltb p n (subst (λ (l : List E). p < length l) (sym list) h)) in
      let grown : (by : ℕ × Bool) (j : Known E) → IsPartOf r.all by j → IsPartOf all' by j = λ by j part. grows r.all all' by longer_list more refl (λ p h o. before p h ∙ o) j part in
      let old = grown (id, false) k mine.0 in
      let new : All (IsOwn all' (id, false)) (added n (entries x)) = all_numbered (IsOwn all' (id, false)) n (drop n (entries x))
      (λ i e there. record { there = get_drop n (entries x) i e there; owned = ap (λ b. cond b (r.all.owner (n + i)) (id, false)) (le-ltb (n + i) n (omega arith)) }) in
      let below : All (λ p. p.0 < n) k.own = All-weaker (IsOwn r.all (id, false)) (λ p. p.0 < n) (λ p o. subst (λ (l : List E). p.0 < length l) (sym list) (slice_get_within r.all.entries p.0 p.1 o.there)) k.own mine.0.own in
      let w : View E = Told (after_turn k f (entries x) (gauge x)) t in (
        w,
        keeps,
        tt,
        record {
          all = all';
          line = l;
          words_are = ap (λ ws. set ws 2 count) r.words_are ∙ ap (λ c. l.next ∷ l.served ∷ c ∷ []) counts;
          room = r.room;
          order = r.order;
          fits = seats (Fits all' l) s.views id w (
            record { seen = prefix_self (entries x); faults = (omega arith); limit = mine.0.limit; own = All-append (IsOwn all' (id, false)) k.own (added n (entries x)) old.own new; rises = rises_on 0 n k.own (drop n (entries x)) mine.0.rises below (omega arith) },
            mine.1,
            mine.2,
            refl,
            refl,
          )
              (λ j v apart there. moves r.all all' l l j v (λ b i p. grown (j, b) i p) (λ q h. h) (λ q h e. not_served l id j q me apart h e) (r.fits j v there));
          value = ⊎_elim (λ (h : IsHome entries gauge r.all s.homes s.views). absurd (h.alone id (Took k t f) at tt)) (λ (o : IsOut entries gauge s.homes s.views). inr (out_stays s.homes s.views id (Took k t f) w at (λ h. tt) o)) r.value;
        },
        (λ y e. let same : x ≡ y = some_same x y e in λ i. (Told (after_turn k f (entries (same i)) (gauge (same i))) t, (0, Some x) ∷ [])),
      )

  -- split
  pub splits : (id : ℕ) (k : Known E) → Splits R id (Free k) (Free k) (Free (newcomer k))
  splits id k s r at =
      let mine = r.fits id (Free k) at in
      let same : set s.views id (Free k) ≡ s.views = set_again s.views id (Free k) at in
      let right : View E = Free (newcomer k) in
      record {
        all = r.all;
        line = r.line;
        words_are = r.words_are;
        room = r.room;
        order = r.order;
        fits = λ j v there. ⊎_elim (λ (e : get_elem? (set s.views id (Free k)) j ≡ some v). r.fits j v (subst (λ (l : List (View E)). get_elem? l j ≡ some v) same e))
            (λ (e : right ≡ v). subst (Fits r.all r.line j) e (record { seen = mine.seen; faults = mine.faults; limit = mine.limit; own = All-nil (IsOwn r.all (j, false)); rises = tt }))
            (at_snoc (set s.views id (Free k)) right v j there);
        value = ⊎_elim (λ (h : IsHome entries gauge r.all s.homes s.views). inl (record {
          value = h.value;
          home = h.home;
          list = h.list;
          faults = h.faults;
          limit = h.limit;
          alone = λ j v there. ⊎_elim (λ (e : get_elem? (set s.views id (Free k)) j ≡ some v). h.alone j v (subst (λ (l : List (View E)). get_elem? l j ≡ some v) same e)) (λ (e : right ≡ v) (q : HasValue v). subst (λ (u : View E). HasValue u) (sym e) q) (at_snoc (set s.views id (Free k)) right v j there);
        }))
            (λ (o : IsOut entries gauge s.homes s.views). inr (record { out = o.out; seat = o.seat; view = o.view; there = at_longer (set s.views id (Free k)) (right ∷ []) o.seat o.view (subst (λ (l : List (View E)). get_elem? l o.seat ≡ some o.view) (sym same) o.there); has = o.has })) r.value;
      }

  -- join: what the other knew is put beside
  pub joins : (id : ℕ) (k : Known E) (other : ℕ) (l : Known E) → Joins R id (Free k) other (Free l) (Beside k l) Gone
  joins id k other l s r at apart there =
      let both : View E = Beside k l in
      let all' = passed_on r.all other (id, true) in
      let free : View E = Free l in
      let theirs : get_elem? s.views other ≡ some (Free l) = ⊎_elim (λ (t : (other ≡ id) × (both ≡ free)). absurd (apart t.0)) (λ (t : (other ≢ id) × (get_elem? s.views other ≡ some free)). t.1) (at_set s.views id other both free there) in
      let a = r.fits id (Free k) at in
      let b = r.fits other (Free l) theirs in
      record {
        all = all';
        line = r.line;
        words_are = r.words_are;
        room = r.room;
        order = r.order;
        fits = seats (Fits all' r.line) (set s.views id both) other Gone tt
            (λ j v ne at'. seats (λ (j : ℕ) (v : View E). j ≢ other → Fits all' r.line j v) s.views id both
            (λ n. (keeps_own r.all other (id, true) (id, false) (λ e. apart (sym e)) k a, inherits r.all other (id, true) (other, false) refl l b))
            (λ i u n at'' n'. moves r.all all' r.line r.line i u (λ c x p. keeps_own r.all other (id, true) (i, c) n' x p) (λ q h. h) (λ q h e. (e, refl, refl, refl)) (r.fits i u at'')) j v at' ne);
        value = ⊎_elim (λ (h : IsHome entries gauge r.all s.homes s.views). inl (home_of all' all' s.homes (set s.views id both) other (Free l) Gone there (λ h. h) refl refl refl (home_of r.all all' s.homes s.views id (Free k) both at (λ h. h) refl refl refl h)))
            (λ (o : IsOut entries gauge s.homes s.views). inr (out_stays s.homes (set s.views id both) other (Free l) Gone there (λ h. h) (out_stays s.homes s.views id (Free k) both at (λ h. h) o))) r.value;
      }

  -- the second half of join: what both knew is one
  pub compares : (slots id : ℕ) (k l : Known E) → Allows R slots id (Beside k l, []) 1 (λ n. n) (compared entries gauge (step slots 1 0 0 none) (Beside k l, []))
  compares slots id k l s r deep at fits =
      let mine = r.fits id (Beside k l) at in
      let one = of_one r.all id k l mine.0 mine.1 in
      let all' = passed_on r.all id (id, false) in
      let both = is_together all' (id, false) k l (inherits r.all id (id, false) (id, false) refl k mine.0) (inherits r.all id (id, false) (id, true) refl l mine.1) one in (
        Free (together k l),
        keeps,
        tt,
        record {
          all = all';
          line = r.line;
          words_are = same_word s r ∙ r.words_are;
          room = r.room;
          order = r.order;
          fits = seats (Fits all' r.line) s.views id (Free (together k l)) both
              (λ j v apart there. moves r.all all' r.line r.line j v (λ c x p. keeps_own r.all id (id, false) (j, c) apart x p) (λ q h. h) (λ q h e. (e, refl, refl, refl)) (r.fits j v there));
          value = value_stays r.all all' s.homes s.views id (Beside k l) (Free (together k l)) at (λ h. absurd h) (λ h. absurd h) refl refl refl r.value;
        },
        (one, refl),
      )

  -- the desk as it is opened
  pub begins : (x : T) (count : ℕ) → count ≡ length (entries x) → R (opening (0 ∷ 0 ∷ count ∷ []) (Some x ∷ []) (Free (knows_value (entries x) (gauge x))))
  begins x count counts =
      let all : Whole E = record { entries = entries x; faults = (gauge x).faults; limit = (gauge x).limit; owner = λ p. (0, false) } in
      let line : Line = record { next = 0; served = 0; holder = λ t. 0 } in
      let v : View E = Free (knows_value (entries x) (gauge x)) in
      record {
        all = all;
        line = line;
        words_are = ap (λ c. 0 ∷ 0 ∷ c ∷ []) counts;
        room = (omega arith);
        order = (omega arith);
        fits = λ j u there. ⊎_elim (λ (e : get_elem? [] j ≡ some u). absurd (some-ne-none u (sym (sym (none_there j) ∙ e))))
            (λ (e : v ≡ u). subst (Fits all line j) e (record { seen = prefix_self (entries x); faults = (omega arith); limit = refl; own = All-nil (IsOwn all (j, false)); rises = tt })) (at_snoc [] v u j there);
        value = inl (record { value = x; home = refl; list = refl; faults = refl; limit = refl; alone = λ j u there. ⊎_elim (λ (e : get_elem? [] j ≡ some u). absurd (some-ne-none u (sym (sym (none_there j) ∙ e)))) (λ (e : v ≡ u) (q : HasValue u). subst (λ (y : View E). HasValue y) (sym e) q) (at_snoc [] v u j there) });
      }
    where
      none_there : (j : ℕ) → get_elem? {A = View E} [] j ≡ none
      none_there j = refl

  -- the same of a seat that is known to stand there
  pub draws_as : (slots id : ℕ) (m : M) (k : Known E) (old new : ℕ) → m ≡ (Free k, []) → old < 2 ^ 62 → new ≡ old + 1
      → Allows R slots id m 0 (λ n. either (eqb n old) new n) (drew entries gauge (step slots 0 old new none) m)
  draws_as slots id m k old new is low up = subst (λ (x : M). Allows R slots id x 0 (λ n. either (eqb n old) new n) (drew entries gauge (step slots 0 old new none) x)) (sym is) (draws slots id k old new low up)

  pub looks_as : (slots id : ℕ) (m : M) (k : Known E) (t : ℕ) → m ≡ (Waits k t, []) → Allows R slots id m 1 (λ n. n) (looked entries gauge (step slots 1 0 0 none) m)
  looks_as slots id m k t is = subst (λ (x : M). Allows R slots id x 1 (λ n. n) (looked entries gauge (step slots 1 0 0 none) x)) (sym is) (looks slots id k t)

  pub take_out_as : (slots id : ℕ) (m : M) (k : Known E) (t : ℕ) → m ≡ (Called k t, []) → Allows R slots id m 1 (λ n. n) (took entries gauge (step slots 1 0 0 none) m)
  take_out_as slots id m k t is = subst (λ (x : M). Allows R slots id x 1 (λ n. n) (took entries gauge (step slots 1 0 0 none) x)) (sym is) (take_out slots id k t)

  pub tells_as : (slots id : ℕ) (m : M) (k : Known E) (t : ℕ) (f : Reading E) (x : T) (count : ℕ) → m ≡ (Took k t f, (0, Some x) ∷ []) → MayLeave k f (entries x) (gauge x) → count ≡ length (entries x)
      → Allows R slots id m 2 (λ _. count) (λ _. told entries gauge (step slots 2 count 0 none) m count)
  tells_as slots id m k t f x count is may counts = subst (λ (y : M). Allows R slots id y 2 (λ _. count) (λ _. told entries gauge (step slots 2 count 0 none) y count)) (sym is) (tells slots id k t f x count may counts)

  pub gives_back_as : (slots id : ℕ) (m : M) (k : Known E) (t : ℕ) (x : T) → m ≡ (Told k t, (0, Some x) ∷ []) → entries x ≡ k.seen → (gauge x).faults ≡ k.faults → (gauge x).limit ≡ k.limit
      → Allows R slots id m 1 (λ n. n) (gave entries gauge (step slots 1 0 0 none) m)
  gives_back_as slots id m k t x is list faults limit = subst (λ (y : M). Allows R slots id y 1 (λ n. n) (gave entries gauge (step slots 1 0 0 none) y)) (sym is) (gives_back slots id k t x list faults limit)

  pub passes_as : (slots id : ℕ) (m : M) (k : Known E) (t : ℕ) → m ≡ (Returned k t, []) → Allows R slots id m 1 (λ n. (n + 1) % 2 ^ 64) (passed entries gauge (step slots 1 1 0 none) m)
  passes_as slots id m k t is = subst (λ (x : M). Allows R slots id x 1 (λ n. (n + 1) % 2 ^ 64) (passed entries gauge (step slots 1 1 0 none) x)) (sym is) (passes slots id k t)

  pub compares_as : (slots id : ℕ) (m : M) (k l : Known E) → m ≡ (Beside k l, []) → Allows R slots id m 1 (λ n. n) (compared entries gauge (step slots 1 0 0 none) m)
  compares_as slots id m k l is = subst (λ (x : M). Allows R slots id x 1 (λ n. n) (compared entries gauge (step slots 1 0 0 none) x)) (sym is) (compares slots id k l)

  pub splits_as : (id : ℕ) (v : View E) (k : Known E) → v ≡ Free k → Splits R id v v (Free (newcomer (knowledge v)))
  splits_as id v k is = subst (λ (u : View E). Splits R id u u (Free (newcomer (knowledge u)))) (sym is) (splits id k)

  pub joins_as : (id : ℕ) (v : View E) (k : Known E) (seat : ℕ) (w : View E) (l : Known E) → v ≡ Free k → w ≡ Free l → Joins R id v seat w (Beside (knowledge v) (knowledge w)) Gone
  joins_as id v k seat w l is there = subst (λ (u : View E). Joins R id u seat w (Beside (knowledge u) (knowledge w)) Gone) (sym is)
      (subst (λ (u : View E). Joins R id (Free k) seat u (Beside k (knowledge u)) Gone) (sym there) (joins id k seat l))
