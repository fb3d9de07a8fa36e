-- What the calls of attempts, entries and leases add and answer, and why they add nothing.
use Rattle.std.specs.Prelude.{◌≡◌, ℕ, false, Option, Some}
use Rattle.plain_words.specs.declared.verdict.Verdict.{Verdict}
use Rattle.plain_words.specs.Ids.{shard_of}
use Rattle.sched_plain.specs.declared.step.Step.{Step}
use Rattle.sched_plain.specs.declared.why.Why.TheVariants as whys
use Rattle.sched_plain.specs.History.{History}
use Rattle.sched_plain.specs.Leases.{holder, is_taker}
use Rattle.sched_plain.specs.Legal.{why}
use Rattle.book_parts.specs.Stands.{calendar}
use Rattle.durable_book.specs.declared.begin_fault.BeginFault.{BeginFault}
use Rattle.durable_book.specs.declared.close_fault.CloseFault.{CloseFault}
use Rattle.durable_book.specs.declared.end_fault.EndFault.{EndFault}
use Rattle.durable_book.specs.declared.end_fault.EndFault.TheVariants as ends
use Rattle.durable_book.specs.declared.hold_fault.HoldFault.{HoldFault}
use Rattle.durable_book.specs.declared.hold_fault.HoldFault.TheVariants as holds
use Rattle.durable_book.specs.declared.ticket.Ticket.{Ticket}
use Rattle.durable_book.specs.Acts.{Adds, IsCause}
use Rattle.durable_book.specs.Faults.{begin_denial, close_denial, hold_denial}
use Rattle.durable_book.specs.Steps.{begin_with, close_with, end_with, renewal_by, ticket_of}

-- the next attempt of an occurrence is begun, and its ticket answered
abbrev pub Begins : Option Step → ℕ → ℕ → ℕ → ℕ → Ticket → History → History → Type 0
Begins doubt t inc instant epoch ticket h after =
    Adds doubt (λ found. begin_with found t inc instant epoch) (λ found. ticket ≡ ticket_of found inc instant epoch) h after

-- it is not begun: the epoch is not that of the shard, or the entry is not due; or it may be, and there is no room
abbrev pub IsUnbegun : (Step → ℕ → ℕ → Type 0) → ℕ → ℕ → ℕ → ℕ → BeginFault → History → Type 0
IsUnbegun full t inc instant epoch fault h = IsCause full (begin_with h t inc instant epoch) (begin_denial fault) h

-- an entry is not closed: it is not exhausted; or it may be, and there is no room
abbrev pub IsUnclosed : (Step → ℕ → ℕ → Type 0) → ℕ → ℕ → ℕ → CloseFault → History → Type 0
IsUnclosed full t inc instant fault h = IsCause full (close_with h t inc instant) (close_denial fault) h

-- the attempt of a ticket is not ended: it is not live
abbrev pub IsUnended : ℕ → Ticket → Verdict → ℕ → EndFault → History → Type 0
IsUnended t ticket verdict status (ends.Stale epoch) h =
    (why calendar h (end_with t ticket verdict status) ≡ Some whys.NotLive) × (epoch ≡ (holder h (shard_of ticket.inc)).epoch)
IsUnended t ticket verdict status ends.DiskFault h = Unit {0}

-- a lease is not renewed: the worker did not take the shard with this epoch as the last one; or it may be, and there is no
-- room. A Lease that takes the shard anew may follow too, so the first is no rule of Leases
abbrev pub IsUnrenewed : (Step → ℕ → ℕ → Type 0) → ℕ → ℕ → ℕ → ℕ → HoldFault → History → Type 0
IsUnrenewed full t shard worker epoch (holds.Stale told) h = (is_taker (holder h shard) worker epoch ≡ false) × (told ≡ (holder h shard).epoch)
IsUnrenewed full t shard worker epoch fault h = IsCause full (renewal_by t shard worker epoch) (hold_denial fault) h
