-- The beginnings of a legal history.
use Rattle.std.specs.Prelude.{ℕ}
use Rattle.sched_plain.specs.History.{History, Extends, first}
use Rattle.expressions.specs.Calendar.{Calendar}
use Rattle.sched_plain.specs.Legal.{IsLegal}

-- what a legal history extends is legal
abbrev pub PrefixesAreLegal : Type 0
PrefixesAreLegal = (c : Calendar) (h later : History) → Extends h later → IsLegal c later → IsLegal c h

-- a history extends the first of its steps, however many
abbrev pub FirstsArePrefixes : Type 0
FirstsArePrefixes = (n : ℕ) (h : History) → Extends (first n h) h
