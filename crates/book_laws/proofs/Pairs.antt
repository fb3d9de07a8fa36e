-- The pairs of an incarnation against the occurrences that they were entered for.
use Rattle.std.proofs.Common.{◌≡◌, ℕ, ◌≤◌, ◌==◌, max, nat_le, Bool, not, cond, ◌&&◌, ◌||◌, Option, Some, None, List, [], ◌∷◌, ◌++◌, length, take, filter, option_map, refl, sym, ap, ap₂, ◌∙◌, inl, inr, arith}
use Rattle.std.proofs.lemmas.List.{map-append}
use Rattle.std.proofs.lemmas.List.Elements.{filter-append}
use Rattle.std.proofs.lemmas.Bool.{cases_eq, ne_eqb, eq-eqb}
use Rattle.sched_plain.specs.declared.step.Pair.{Pair}
use Rattle.plain_words.specs.Lists.{last, last_from}
use Rattle.plain_words.specs.Lists.{passing}
use Rattle.sched_plain.specs.Entries.{instants_of, is_paired}
use Rattle.sched_plain.specs.Marks.{without_pair, cover_entered}
use Rattle.sched_plain.specs.Rules.{first_astray}
use Rattle.book_laws.specs.EntryLaws.{is_among}
use Rattle.book_laws.proofs.Passing.{from_on, passing_same, filter_passing, mem_passing}
use Rattle.book_laws.proofs.Floors.{Reaches, all_kept, open_above}
use Rattle.book_laws.proofs.Fronts.{past, bound_of, front_tight, passing_more}

-- a pair has an instant where it is among the instants
pub paired_in : (pairs : List Pair) (i : ℕ) → is_paired pairs i ≡ is_among i (instants_of pairs)
paired_in [] i = refl
paired_in (pair ∷ pairs) i = ap (λ b. (i == pair.instant) || b) (paired_in pairs i)

-- where the pairs reach m, what is above the floor and has no pair is what passes from m on
pub open_is : (p : ℕ → Bool) (pairs : List Pair) (least m n : ℕ) → Reaches p least m (instants_of pairs)
    → without_pair pairs (filter (nat_le least) (passing p n)) ≡ passing (from_on m p) n
open_is p pairs least m n old =
    let both : ℕ → Bool = λ i. p i && old.kept i in
    let same : (i : ℕ) → is_paired pairs i ≡ is_among i (passing both m) =
    λ i. paired_in pairs i ∙ ap (is_among i) (old.exact ∙ filter_passing old.kept p m) in
    (λ t. filter (λ i. not (same i t)) (filter (nat_le least) (passing p n)))
    ∙ ap (filter (λ i. not (is_among i (passing both m)))) (filter_passing (nat_le least) p n)
    ∙ filter_passing (λ i. not (is_among i (passing both m))) (λ i. p i && nat_le least i) n
    ∙ passing_same _ _ n (λ i lt.
    ap (λ b. (p i && nat_le least i) && not b) (mem_passing both m i) ∙ open_above least m i old.kept old.under old.all (p i))

-- where no pair is astray the instants are the first of those wanted
pub none_astray : (pairs : List Pair) (wanted : List ℕ) → first_astray pairs wanted ≡ None → instants_of pairs ≡ take (length pairs) wanted
none_astray [] wanted e = refl
none_astray (pair ∷ pairs) [] e = let clash : ⊥ = cc in absurd clash
none_astray (pair ∷ pairs) (i ∷ wanted) e =
    elim (cases_eq pair.instant i) [
      | inl same ↦
          let rest : first_astray pairs wanted ≡ None =
          sym (ap (λ b. cond b (first_astray pairs wanted) (Some pair.instant)) (eq-eqb pair.instant i same)) ∙ e in
          ap₂ (λ x xs. x ∷ xs) same (none_astray pairs wanted rest)
      | inr apart ↦
          let astray : Some pair.instant ≡ None =
          sym (ap (λ b. cond b (first_astray pairs wanted) (Some pair.instant)) (ne_eqb pair.instant i apart)) ∙ e in
          let clash : ⊥ = cc in
          absurd clash
    ]

last_from_instant : (pair : Pair) (pairs : List Pair)
    → option_map (λ p. p.instant) (last_from pair pairs) ≡ last_from pair.instant (instants_of pairs)
last_from_instant pair [] = refl
last_from_instant pair (next ∷ pairs) = last_from_instant next pairs

last_instant : (pairs : List Pair) → option_map {T = Pair} (λ p. p.instant) (last pairs) ≡ last (instants_of pairs)
last_instant [] = refl
last_instant (pair ∷ pairs) = last_from_instant pair pairs

entered_to : (pair : Option Pair) (old : ℕ) → cover_entered pair old ≡ max old (past (option_map (λ p. p.instant) pair))
entered_to None old = omega arith
entered_to (Some pair) old = refl

-- pairs raise the cover to one more than their last instant
pub cover_is : (pairs : List Pair) (old : ℕ) → cover_entered (last pairs) old ≡ max old (bound_of (instants_of pairs))
cover_is pairs old = entered_to (last pairs) old ∙ ap (λ o. max old (past o)) (last_instant pairs)

-- the entries after pairs that are a front of what passes from the cover on: they reach the new cover, no further
-- than the bound of the search
pub record IsGrown (p : ℕ → Bool) (least : ℕ) (before pairs : List Pair) (m n : ℕ) : Type 0 where
  pub reaches : Reaches p least (cover_entered (last pairs) m) (instants_of (before ++ pairs))
  pub bound : cover_entered (last pairs) m ≤ max m n

pub grown_by : (p : ℕ → Bool) (least : ℕ) (before pairs : List Pair) (m n : ℕ) → Reaches p least m (instants_of before)
    → instants_of pairs ≡ take (length pairs) (passing (from_on m p) n) → IsGrown p least before pairs m n
grown_by p least before pairs m n old front =
    let tight = front_tight (from_on m p) n (length pairs) in
    let top = cover_is pairs m in
    let same : passing (from_on m p) (bound_of (instants_of pairs)) ≡ instants_of pairs =
    ap (λ xs. passing (from_on m p) (bound_of xs)) front ∙ tight.same ∙ sym front in
    let less : bound_of (take (length pairs) (passing (from_on m p) n)) ≤ n = tight.within in
    let up : bound_of (instants_of pairs) ≡ bound_of (take (length pairs) (passing (from_on m p) n)) = ap bound_of front in
    let under : least ≤ m = old.under in
    let whole : filter old.kept (instants_of pairs) ≡ instants_of pairs =
    ap (filter old.kept) (sym same) ∙ all_kept p old.kept least m (bound_of (instants_of pairs)) under old.all ∙ same in
    let reaches : Reaches p least (cover_entered (last pairs) m) (instants_of (before ++ pairs)) =
    record {
      kept = old.kept;
      all = old.all;
      exact =
          map-append (λ pair. pair.instant) before pairs
          ∙ ap₂ (λ xs ys. xs ++ ys) old.exact (sym whole)
          ∙ sym (filter-append old.kept (passing p m) (instants_of pairs))
          ∙ ap (filter old.kept) (passing_more p m (instants_of pairs) same ∙ ap (passing p) (sym top));
      under = omega arith;
    } in
    record { reaches = reaches; bound = omega arith }
