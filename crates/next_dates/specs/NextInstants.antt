-- The next instant of an incarnation, and which steps change it.
use Rattle.std.specs.Prelude.{ℕ, ◌+◌, ◌==◌, Bool, true, false, ◌&&◌, ◌||◌, Option, is_some, length}
use Rattle.sched_plain.specs.declared.step.Pair.{Pair}
use Rattle.sched_plain.specs.declared.step.Step.{Step}
use Rattle.sched_plain.specs.declared.step.Step.TheVariants as steps
use Rattle.sched_plain.specs.declared.write.Write.{Write}
use Rattle.sched_plain.specs.declared.write.Write.TheVariants as writes
use Rattle.plain_words.specs.Lists.{head, last, nth, some_pass}
use Rattle.plain_words.specs.Moments.{last_moment}
use Rattle.expressions.specs.Calendar.{Calendar}
use Rattle.sched_plain.specs.History.{History}
use Rattle.sched_plain.specs.Changes.{changes_of}
use Rattle.sched_plain.specs.Rows.{touches, deed_of, rows_of}
use Rattle.sched_plain.specs.Marks.{unentered}

-- the next instant of an incarnation that has no entry, whenever it comes; none where nothing is to come
abbrev pub next_instant : Calendar → History → ℕ → Option ℕ
next_instant c h inc = head (unentered c h inc last_moment)

-- the write touches the incarnation
abbrev pub is_touched : History → Write → ℕ → Bool
is_touched h write inc = some_pass (λ row. touches (deed_of write row)) (nth (rows_of (changes_of h)) inc)

-- the incarnation is the next to be created
abbrev pub is_next : History → ℕ → Bool
is_next h inc = inc == length (rows_of (changes_of h)) + 1

-- the write creates an incarnation
abbrev pub creates : Write → Bool
creates (writes.CreateSchedule group name token content) = true
creates write = false

-- the step may change the next instant of an incarnation: a Change that touches it or may create it, and an Enter of it
abbrev pub changes_next : History → Step → ℕ → Bool
changes_next h (steps.Change at write) inc = is_next h inc && creates write || is_touched h write inc
changes_next h (steps.Enter at of pairs) inc = inc == of && is_some {T = Pair} (last pairs)
changes_next h s inc = false
