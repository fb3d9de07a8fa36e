-- What a write touches, one incarnation after another.
use Rattle.std.specs.Prelude.{◌≡◌, ℕ, nat_le, Bool, true, false, ◌&&◌, Option, List, length}
use Rattle.plain_words.specs.Lists.{nth, some_pass}
use Rattle.sched_plain.specs.declared.row.Row.{Row}
use Rattle.sched_plain.specs.declared.write.Write.{Write}
use Rattle.sched_plain.specs.Rows.{touches, deed_of}
use Rattle.date_table.specs.Dates.{date_at}

-- a write touches an incarnation
abbrev pub is_touched : List Row → Write → ℕ → Bool
is_touched rows write inc = some_pass (λ row. touches (deed_of write row)) (nth rows inc)

-- it does, and the incarnation is none above this one
abbrev pub is_touched_to : List Row → Write → ℕ → ℕ → Bool
is_touched_to rows write top inc = is_touched rows write inc && nat_le inc top

-- a date that is set anew where the test holds, and stays where it fails
abbrev pub SetIf : Bool → (Option ℕ → Type 0) → Option ℕ → Option ℕ → Type 0
SetIf true Is old new = Is new
SetIf false Is old new = new ≡ old

-- the dates of the incarnations that pass a test are set anew, and no others
pub record SetsWhere (test : ℕ → Bool) (Is : ℕ → Option ℕ → Type 0) (old new : List (Option ℕ)) : Type 0 where
  pub long : length new ≡ length old
  pub each : (inc : ℕ) → SetIf (test inc) (Is inc) (date_at old inc) (date_at new inc)
