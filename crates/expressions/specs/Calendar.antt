-- The calendar: which bytes are a time zone, and which moments are instants of an expression. The definitions of
-- a history take it as an argument, so that the facts of every legal history hold over any.
use Rattle.std.specs.Prelude.{ℕ, Bool, Option, List}
use Rattle.expressions.specs.declared.expression.Expr.{Expr}

-- `readable` says of bytes whether they are a zone; `at` says of an expression, the bytes of its zone (none for
-- UTC), its anchor and a moment whether the moment is one of its instants
pub record Calendar : Type 0 where
  pub readable : List ℕ → Bool
  pub at : Expr → Option (List ℕ) → ℕ → ℕ → Bool
