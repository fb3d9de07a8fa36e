-- What the deletion of a group does to the schedules.
use Rattle.std.specs.Prelude.{ℕ, List, [], ◌∷◌}
use Rattle.plain_words.specs.Lists.{change_nth}
use Rattle.sched_plain.specs.declared.row.Row.{Row}
use Rattle.sched_plain.specs.Rows.{done_to, ends_if, is_in}

-- a row after the deletion of a group
abbrev pub with_group_ended : ℕ → List ℕ → Row → Row
with_group_ended at group row = done_to at (ends_if (is_in group row)) row

-- the elements of these numbers changed, one after another
abbrev pub change_all : {A : Type 0} → (A → A) → List A → List ℕ → List A
change_all f xs [] = xs
change_all f xs (n ∷ ns) = change_all f (change_nth f xs n) ns
