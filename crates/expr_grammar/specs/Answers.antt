-- What a reader answers, against the first fault of what it reads.
use Rattle.std.specs.Prelude.{◌≡◌, ℕ, Option, Some, None, Result, Ok, Err, List, ◌++◌, codes}
use Rattle.expressions.specs.ExpressionFaults.{Fault}
use Rattle.expr_grammar.specs.declared.fault.ExprFault.{ExprFault}

-- the fault that is told
abbrev pub told : ExprFault → Fault
told fault = record { number = fault.number; at = fault.at }

-- a value of which this holds where no fault is found, and else the fault
abbrev pub Answers : {A : Type 0} → Result A ExprFault → Option Fault → (A → Type 0) → Type 0
Answers (Ok x) found P = (found ≡ None) × P x
Answers (Err fault) found P = found ≡ Some (told fault)

-- a text between an opening, as "rate(", and the closing bracket
abbrev pub enclosed : List ℕ → List ℕ → List ℕ
enclosed opening inner = opening ++ inner ++ codes ")"
