-- A group of a name and the moment of its creation.
use Rattle.std.proofs.Common.{◌≡◌, ℕ, Bool, true, false, Option, Some, None, is_some, List, [], ◌∷◌, option_map, refl, sym, ap, ◌∙◌, cond}
use Rattle.std.specs.List.{find}
use Rattle.plain_words.specs.declared.moment.Moment.{Moment}
use Rattle.sched_plain.specs.declared.row.GroupRow.{GroupRow}
use Rattle.sched_plain.specs.Groups.{has_group, is_named}
use Rattle.plain_words.proofs.Options.{some_same}
use Rattle.sched_rows.specs.Answers.{created_at}
use Rattle.sched_rows.proofs.AloneLemmas.{any_found}
use Rattle.sched_rows.proofs.NameLemmas.{same_text_same}

some_map : {A B : Type 0} (f : A → B) (o : Option A) → is_some (option_map f o) ≡ is_some o
some_map f None = refl
some_map f (Some x) = refl

pub created_where_there : (groups : List GroupRow) (name : List ℕ) → is_some (created_at groups name) ≡ has_group groups name
created_where_there groups name = some_map (λ (group : GroupRow). group.created) (find (is_named name) groups) ∙ any_found (is_named name) groups

-- the group that was created under a name then
pub row_of_created : (groups : List GroupRow) (name : List ℕ) (created : Moment) → created_at groups name ≡ Some created
    → (let row : GroupRow = record { name = name; created = created } in Some row ≡ find (is_named name) groups)
row_of_created [] name created e = cc e
row_of_created (group ∷ groups) name created e = step (is_named name group) refl e (row_of_created groups name created)
  where
    step : (b : Bool) → is_named name group ≡ b → option_map (λ (g : GroupRow). g.created) (cond b (Some group) (find (is_named name) groups)) ≡ Some created
        → (created_at groups name ≡ Some created → (let row : GroupRow = record { name = name; created = created } in Some row ≡ find (is_named name) groups))
        → (let row : GroupRow = record { name = name; created = created } in Some row ≡ cond b (Some group) (find (is_named name) groups))
    step true is there rest =
        let here : group.created ≡ created = some_same group.created created there in
        let named = same_text_same name group.name is in
        ap (λ at. let row : GroupRow = record { name = name; created = at } in Some row) (sym here)
        ∙ ap (λ n. let row : GroupRow = record { name = n; created = group.created } in Some row) named
    step false is there rest = rest there
