-- What contracts see of the parts of a book.
use Rattle.std.specs.Prelude.{ℕ, Option, List}
use Rattle.plain_words.specs.declared.moment.Moment.{Moment}
use Rattle.sched_plain.specs.declared.holder.Holder.{Holder}
use Rattle.sched_rows.specs.State.{State as RowsState}
use Rattle.ledger_rows.specs.State.{State as LedgerState}
use Rattle.token_shelf.specs.Shelves.{Shelved}
use Rattle.dead_letters.specs.Piles.{Piles}
use Rattle.zone_shelf.specs.Places.{Places}
use Rattle.date_table.specs.Tables.{Dated}

-- the moment of the last step, how many there are, when each shard was last swept, who holds the shards, the zones, the
-- schedules and groups, the ledger, the kept tokens, the dead letters, and for each incarnation its next instant and since
-- when it is finished
pub record Told : Type 0 where
  pub moment : ℕ
  pub steps : ℕ
  pub swept : List (Option Moment)
  pub holders : List Holder
  pub zones : Places
  pub rows : RowsState
  pub ledger : LedgerState
  pub shelf : Shelved
  pub letters : Piles
  pub next : Dated
  pub finished : Dated
