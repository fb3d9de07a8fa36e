-- A token stands in at most one Change: a Change keeps its token, and a later one may not bring it again.
use Rattle.std.proofs.Common.{◌≡◌, ℕ, ◌+◌, ◌<◌, ◌≤◌, true, cond, Option, Some, None, List, [], ◌∷◌, ◌++◌, refl, sym, ap, ◌∙◌, subst, inl, inr, arith, Bool, false, map}
use Rattle.std.specs.Option.{option_and_then, option_or}
use Rattle.std.proofs.lemmas.Bool.{cases_eq, cases_order, eq-eqb}
use Rattle.std.proofs.lemmas.List.Folds.{find-append}
use Rattle.sched_plain.specs.declared.step.Step.{Step}
use Rattle.sched_plain.specs.declared.step.Step.TheVariants as steps
use Rattle.sched_plain.specs.declared.write.Write.{Write}
use Rattle.sched_plain.specs.Base.{kept_at}
use Rattle.sched_plain.specs.History.{History, beginning, based, ◌upon◌, count}
use Rattle.sched_plain.specs.Rows.{same_text}
use Rattle.sched_plain.specs.Tokens.{Kept, token_of, kept_by, kept_of, kept_under, kept_place, placed_at}
use Rattle.expressions.specs.Calendar.{Calendar}
use Rattle.sched_plain.specs.Legal.{IsLegal}
use Rattle.plain_words.proofs.Options.{map_none}
use Rattle.book_laws.specs.TokenLaws.{HasToken, TokensStandOnce}
use Rattle.book_laws.proofs.Tables.{kind_holds, then_none}
use Rattle.book_laws.proofs.Places.{found_top, found_below, place_bound}

-- each text is the same as itself
pub same_text_self : (text : List ℕ) → same_text text text ≡ true
same_text_self [] = refl
same_text_self (b ∷ text) = rw (eq-eqb b b refl) (same_text_self text)

or_none_left : {A : Type 0} (a b : Option A) → option_or a b ≡ None → a ≡ None
or_none_left None b e = refl
or_none_left (Some x) b e = cc

or_none_right : {A : Type 0} (a b : Option A) → option_or a b ≡ None → b ≡ None
or_none_right None b e = e
or_none_right (Some x) b e = cc

-- what is kept under no token in two lists is in neither
kept_apart : (token : List ℕ) (one other : List Kept) → kept_under (one ++ other) token ≡ None
    → (kept_under one token ≡ None) × (kept_under other token ≡ None)
kept_apart token one other e =
    let parts = sym (find-append (λ k. same_text token k.token) one other) ∙ e in
    (or_none_left _ _ parts, or_none_right _ _ parts)

-- a token that is not kept was not kept before
pub not_kept_before : (s : Step) (h : History) (token : List ℕ) → kept_under (kept_of (s upon h)) token ≡ None → kept_under (kept_of h) token ≡ None
not_kept_before (steps.Boot at) h token e = e
not_kept_before (steps.Zone at name bytes) h token e = e
not_kept_before (steps.Change at write) h token e = (kept_apart token (kept_of h) (kept_by (token_of write) write (count h + 1)) e).0
not_kept_before (steps.Enter at inc pairs) h token e = e
not_kept_before (steps.Lease at shard worker epoch until) h token e = e
not_kept_before (steps.Release at shard worker epoch) h token e = e
not_kept_before (steps.Begin at inc instant number epoch) h token e = e
not_kept_before (steps.End at inc instant number verdict status) h token e = e
not_kept_before (steps.Close at inc instant reason) h token e = e
not_kept_before (steps.Complete at inc) h token e = e
not_kept_before (steps.Swept at shard) h token e = e

-- a write keeps its token
keeps : (write : Write) (place : ℕ) (given : Option (List ℕ)) (token : List ℕ) → given ≡ Some token
    → kept_under (kept_by given write place) token ≡ None → ⊥
keeps write place None token has e = cc
keeps write place (Some other) token has e =
    let same : other ≡ token = cc in
    let found : same_text token other ≡ true = rw same (same_text_self token) in
    let kept : Kept = record { token = other; write = write; place = place } in
    let there : cond (same_text token other) (Some kept) None ≡ Some kept = ap (λ b. cond b (Some kept) None) found in
    let clash : Some kept ≡ None = sym there ∙ e in
    cc

unplaced_one : (b : Bool) (k placed : Kept) (all others : Option Kept) → (others ≡ None → all ≡ None)
    → cond b (Some placed) others ≡ None → cond b (Some k) all ≡ None
unplaced_one true k placed all others same e = cc
unplaced_one false k placed all others same e = same e

-- what is kept under a token is so under any places
unplaced : (places : List ℕ) (all : List Kept) (token : List ℕ) → kept_under (map (placed_at places) all) token ≡ None → kept_under all token ≡ None
unplaced places [] token e = refl
unplaced places (k ∷ all) token e =
    unplaced_one (same_text token k.token) k (placed_at places k) (kept_under all token) (kept_under (map (placed_at places) all) token)
    (unplaced places all token) e

-- the token of a Change is kept from then on
kept_since : (h : History) (place : ℕ) (token : List ℕ) → HasToken h place token → kept_under (kept_of h) token ≡ None → ⊥
kept_since beginning place token has e = let never = has.2 in cc
kept_since (based b kept) place token has e =
    kept_since kept (kept_at b.places place) token has (unplaced b.places (kept_of kept) token e)
kept_since (s upon h) place token has e =
    elim (cases_eq place (count h + 1)) [
      | inl top ↦
          let same : s ≡ steps.Change has.0 has.1 = found_top s (steps.Change has.0 has.1) h place top has.2 in
          let at_end : kept_under (kept_of (steps.Change has.0 has.1 upon h)) token ≡ None = subst (λ t. kept_under (kept_of (t upon h)) token ≡ None) same e in
          keeps has.1 (count h + 1) (token_of has.1) token has.3
          (kept_apart token (kept_of h) (kept_by (token_of has.1) has.1 (count h + 1)) at_end).1
      | inr below ↦
          kept_since h place token (has.0, has.1, found_below s (steps.Change has.0 has.1) h place below has.2, has.3)
          (not_kept_before s h token e)
    ]

-- no later Change brings it again
not_again : (c : Calendar) (h : History) → IsLegal c h → (token : List ℕ) (one later : ℕ) → HasToken h one token → HasToken h later token → one < later → ⊥
not_again c beginning legal token one later first second lt = let never = first.2 in cc
not_again c (based b kept) legal token one later first second lt = absurd legal
not_again c (s upon h) legal token one later first second lt =
    elim (cases_eq later (count h + 1)) [
      | inl top ↦
          let lower : one ≡ count h + 1 → ⊥ = λ same. omega arith in
          let before = found_below s (steps.Change first.0 first.1) h one lower first.2 in
          let same : s ≡ steps.Change second.0 second.1 = found_top s (steps.Change second.0 second.1) h later top second.2 in
          let may = subst (λ t. IsLegal c (t upon h)) same legal in
          let table = kind_holds c h (steps.Change second.0 second.1) may.1 in
          let unkept : kept_place h token ≡ None = then_none (kept_place h) (token_of second.1) token (map_none _ (option_and_then (kept_place h) (token_of second.1)) table.1.1.0) second.3 in
          kept_since h one token (first.0, first.1, before, first.3) (map_none (λ k. k.place) (kept_under (kept_of h) token) unkept)
      | inr below ↦
          let before = found_below s (steps.Change second.0 second.1) h later below second.2 in
          let under : later ≤ count h = place_bound c h legal.0 later (steps.Change second.0 second.1) before in
          let lower : one ≡ count h + 1 → ⊥ = λ same. omega arith in
          not_again c h legal.0 token one later
          (first.0, first.1, found_below s (steps.Change first.0 first.1) h one lower first.2, first.3)
          (second.0, second.1, before, second.3) lt
    ]

pub stand_once : TokensStandOnce
stand_once c h legal token one other first second =
    elim (cases_order one other) [
      | inl same ↦ same
      | inr apart ↦
          elim apart [
            | inl lt ↦ absurd (not_again c h legal token one other first second lt)
            | inr gt ↦ absurd (not_again c h legal token other one second first gt)
          ]
    ]
