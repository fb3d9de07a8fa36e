-- How far the items of a field are read.
use Rattle.std.proofs.Common.{◌≡◌, ℕ, ◌+◌, Bool, true, false, List, [], ◌∷◌, ◌++◌, length, refl, sym, ap, ◌∙◌, arith, le-leb, suc, append_assoc, Option, Some, None}
use Rattle.std.specs.Prelude.{◌&&◌, ◌||◌, not, nat_le}
use Rattle.std.specs.List.{list_any}
use Rattle.plain_words.specs.Lists.{first_some, when}
use Rattle.expressions.specs.Pieces.{cut, placed}
use Rattle.expressions.specs.CronItems as cron
use Rattle.expressions.specs.CronItems.{row}
use Rattle.expressions.specs.Spelling.{AreRows, IsRow, may_stand_together}
use Rattle.expressions.specs.ExpressionFaults.{Fault, fault_at, field_fault, is_alone, item_fault, item_faults, mix_fault}
use Rattle.expr_grammar.specs.declared.items.Items.{Items}
use Rattle.expr_grammar.specs.Items.{Summarizes, IsRead}

-- the items in front are read, and the faults are those of the rest
pub record Progress (field : cron.Field) (from : ℕ) (word : List ℕ) (at : ℕ) (rest : List ℕ) (kept : Items) : Type 0 where
  pub front : List (List ℕ)
  pub done : List cron.Item
  pub parts : cut 44 word ≡ front ++ cut 44 rest
  pub rows : AreRows field front done
  pub faults : first_some (item_faults field (placed from (cut 44 word))) ≡ first_some (item_faults field (placed at (cut 44 rest)))
  pub summary : Summarizes field kept done
  pub within : at + length rest ≡ from + length word

rows_more : (field : cron.Field) (front : List (List ℕ)) (done : List cron.Item) (piece : List ℕ) (item : cron.Item) →
    AreRows field front done → IsRow field piece item → AreRows field (front ++ piece ∷ []) (done ++ item ∷ [])
rows_more field [] [] piece item are is = (is, tt)
rows_more field [] (i ∷ is) piece item are row_is = absurd are
rows_more field (p ∷ ps) [] piece item are row_is = absurd are
rows_more field (p ∷ ps) (i ∷ is) piece item are row_is = (are.0, rows_more field ps is piece item are.1 row_is)

pub progress_start : (field : cron.Field) (from : ℕ) (word : List ℕ) (kept : Items) → Summarizes field kept [] → Progress field from word from word kept
progress_start field from word kept s = record { front = []; done = []; parts = refl; rows = tt; faults = refl; summary = s; within = refl }

pub progress_more : (field : cron.Field) (from : ℕ) (word : List ℕ) (at : ℕ) (rest piece behind : List ℕ) (kept next : Items) (item : cron.Item) →
    Progress field from word at rest kept → cut 44 rest ≡ piece ∷ cut 44 behind → length piece + 1 + length behind ≡ length rest →
    item_fault field at (row field piece) ≡ None → IsRow field piece item →
    ((all : List cron.Item) → Summarizes field kept all → Summarizes field next (all ++ item ∷ [])) →
    Progress field from word (at + length piece + 1) behind next
progress_more field from word at rest piece behind kept next item p parts long fault is more = record {
  front = p.front ++ piece ∷ [];
  done = p.done ++ item ∷ [];
  parts = p.parts ∙ ap (λ x. p.front ++ x) parts ∙ sym (append_assoc p.front (piece ∷ []) (cut 44 behind));
  rows = rows_more field p.front p.done piece item p.rows is;
  faults = p.faults ∙ ap (λ x. first_some (item_faults field (placed at x))) parts ∙ (rw fault refl);
  summary = more p.done p.summary;
  within = (let w = p.within in omega (arith, w));
}

-- all items are read
pub progress_end : (field : cron.Field) (from : ℕ) (word : List ℕ) (at : ℕ) (rest : List ℕ) (kept next : Items) (item : cron.Item) →
    Progress field from word at rest kept → cut 44 rest ≡ rest ∷ [] → item_fault field at (row field rest) ≡ None → IsRow field rest item →
    ((all : List cron.Item) → Summarizes field kept all → Summarizes field next (all ++ item ∷ [])) →
    (first_some (item_faults field (placed from (cut 44 word))) ≡ None)
    × ((all : List cron.Item) × AreRows field (cut 44 word) all × Summarizes field next all)
progress_end field from word at rest kept next item p parts fault is more =
    let whole : cut 44 word ≡ p.front ++ rest ∷ [] = p.parts ∙ ap (λ x. p.front ++ x) parts in (
      p.faults ∙ ap (λ x. first_some (item_faults field (placed at x))) parts ∙ (rw fault refl),
      (p.done ++ item ∷ [], rw whole (rows_more field p.front p.done rest item p.rows is), more p.done p.summary),
    )

some_first : {A : Type 0} (xs ys : List (Option A)) (x : A) → first_some xs ≡ Some x → first_some (xs ++ ys) ≡ Some x
some_first [] ys x is = cc
some_first (None ∷ xs) ys x is = some_first xs ys x is
some_first (Some y ∷ xs) ys x is = is

none_then : {A : Type 0} (xs : List (Option A)) (y : Option A) → first_some xs ≡ None → first_some (xs ++ y ∷ []) ≡ y
none_then [] None is = refl
none_then [] (Some y) is = refl
none_then (None ∷ xs) y is = none_then xs y is
none_then (Some x ∷ xs) y is = cc

rows_alone : (field : cron.Field) (place : ℕ) (pieces : List (List ℕ)) (all : List cron.Item) → AreRows field pieces all →
    list_any (λ piece. is_alone (row field piece.text)) (placed place pieces) ≡ list_any cron.stands_alone all
rows_alone field place [] [] are = refl
rows_alone field place [] (i ∷ is) are = absurd are
rows_alone field place (p ∷ ps) [] are = absurd are
rows_alone field place (p ∷ ps) (i ∷ is) are = rw are.0.is (ap (λ b. cron.stands_alone i || b) (rows_alone field (place + length p + 1) ps is are.1))

rows_count : (field : cron.Field) (place : ℕ) (pieces : List (List ℕ)) (all : List cron.Item) → AreRows field pieces all →
    length (placed place pieces) ≡ length all
rows_count field place [] [] are = refl
rows_count field place [] (i ∷ is) are = absurd are
rows_count field place (p ∷ ps) [] are = absurd are
rows_count field place (p ∷ ps) (i ∷ is) are = ap suc (rows_count field (place + length p + 1) ps is are.1)

-- several items of which one must stand alone
abbrev pub mixed : List cron.Item → Bool
mixed all = nat_le 2 (length all) && list_any cron.stands_alone all

pub together_is : (all : List cron.Item) → may_stand_together all ≡ not (mixed all)
together_is [] = refl
together_is (i ∷ []) = refl
together_is (i ∷ n ∷ more) =
    let several : nat_le 2 (length (i ∷ n ∷ more)) ≡ true = le-leb 2 _ (omega arith) in rw several refl

mix_of_rows : (field : cron.Field) (place : ℕ) (pieces : List (List ℕ)) (all : List cron.Item) → AreRows field pieces all →
    mix_fault field place (placed place pieces) ≡ when (mixed all) (fault_at 4 place)
mix_of_rows field place pieces all are = rw (rows_alone field place pieces all are, rows_count field place pieces all are) refl

-- the fault of a field without a fault of its items
pub field_fault_is : (field : cron.Field) (place : ℕ) (text : List ℕ) (all : List cron.Item) →
    first_some (item_faults field (placed place (cut 44 text))) ≡ None → AreRows field (cut 44 text) all →
    field_fault field (record { place = place; text = text }) ≡ when (mixed all) (fault_at 4 place)
field_fault_is field place text all none are =
    none_then (item_faults field (placed place (cut 44 text))) (mix_fault field place (placed place (cut 44 text))) none
    ∙ mix_of_rows field place (cut 44 text) all are

pub field_item_fault : (field : cron.Field) (place : ℕ) (text : List ℕ) (fault : Fault) →
    first_some (item_faults field (placed place (cut 44 text))) ≡ Some fault → field_fault field (record { place = place; text = text }) ≡ Some fault
field_item_fault field place text fault is =
    some_first (item_faults field (placed place (cut 44 text))) (mix_fault field place (placed place (cut 44 text)) ∷ []) fault is

pub field_mixed : (field : cron.Field) (place : ℕ) (text : List ℕ) (kept : Items) →
    (first_some (item_faults field (placed place (cut 44 text))) ≡ None)
    × ((all : List cron.Item) × AreRows field (cut 44 text) all × Summarizes field kept all) →
    (kept.several && kept.alone) ≡ true → field_fault field (record { place = place; text = text }) ≡ Some (fault_at 4 place)
field_mixed field place text kept read is =
    let found = read.1 in
    let mix : mixed found.0 ≡ true = ap (λ b. b && list_any cron.stands_alone found.0) (sym found.2.several) ∙ ap (λ b. kept.several && b) (sym found.2.alone) ∙ is in
    field_fault_is field place text found.0 read.0 found.1 ∙ (rw mix refl)

pub field_end : (field : cron.Field) (place : ℕ) (text : List ℕ) (kept : Items) →
    (first_some (item_faults field (placed place (cut 44 text))) ≡ None)
    × ((all : List cron.Item) × AreRows field (cut 44 text) all × Summarizes field kept all) →
    (kept.several && kept.alone) ≡ false →
    (field_fault field (record { place = place; text = text }) ≡ None) × IsRead field text kept
field_end field place text kept read is =
    let found = read.1 in
    let mix : mixed found.0 ≡ false = ap (λ b. b && list_any cron.stands_alone found.0) (sym found.2.several) ∙ ap (λ b. kept.several && b) (sym found.2.alone) ∙ is in (
      field_fault_is field place text found.0 read.0 found.1 ∙ (rw mix refl),
      record { all = found.0; spelled = record { rows = found.1; together = together_is found.0 ∙ ap not mix }; summary = found.2 },
    )
