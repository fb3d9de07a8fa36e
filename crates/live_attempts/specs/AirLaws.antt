-- The live attempts of a legal history are in the air.
use Rattle.std.specs.Prelude.{◌≡◌, ℕ, true, List}
use Rattle.plain_words.specs.Lists.{some_pass}
use Rattle.sched_plain.specs.History.{History}
use Rattle.expressions.specs.Calendar.{Calendar}
use Rattle.sched_plain.specs.Ledger.{LedgerCall, ledger_of}
use Rattle.sched_plain.specs.Entries.{filed}
use Rattle.sched_plain.specs.Legal.{IsLegal}
use Rattle.ledger_rows.specs.Air.{airborne, is_flown}
use Rattle.ledger_rows.specs.State.{is_live_filed}

-- after these calls each occurrence whose entry has a live attempt has one in the air
abbrev pub AllAloft : List LedgerCall → Type 0
AllAloft calls = (inc instant : ℕ) → some_pass is_live_filed (filed calls inc instant) ≡ true → is_flown (airborne calls) inc instant ≡ true

-- so it is in each legal history
abbrev pub LiveAreAloft : Type 0
LiveAreAloft = (c : Calendar) (h : History) → IsLegal c h → AllAloft (ledger_of h)
