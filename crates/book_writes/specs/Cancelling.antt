-- The entries of some incarnations are cancelled.
use Rattle.std.specs.Prelude.{◌≡◌, ℕ, Bool, ◌==◌, List, map, ◌++◌}
use Rattle.std.specs.List.{list_any}
use Rattle.sched_plain.specs.Ledger.{LedgerCall, Cancelled}
use Rattle.ledger_rows.specs.State.{State, Stands}

-- an incarnation is among some
abbrev pub is_among : ℕ → List ℕ → Bool
is_among inc incs = list_any (λ other. inc == other) incs

-- a ledger stands for these calls, upon which the incarnations that pass a test are cancelled, in some order
pub record Cancels (test : ℕ → Bool) (s : State) (calls : List LedgerCall) : Type 0 where
  pub incs : List ℕ
  pub each : (inc : ℕ) → is_among inc incs ≡ test inc
  pub stands : Stands s (map Cancelled incs ++ calls)
