-- The steps that calls make of the history that they find, at a moment.
use Rattle.std.specs.Prelude.{◌≡◌, ℕ, ◌+◌, Option, Some, is_some, true}
use Rattle.std.specs.Option.{option_map}
use Rattle.plain_words.specs.Moments.{moment_of}
use Rattle.plain_words.specs.declared.limits.TheConstants.{LEASE_SECONDS}
use Rattle.plain_words.specs.declared.verdict.Verdict.{Verdict}
use Rattle.sched_plain.specs.declared.entry.Filed.{Filed}
use Rattle.sched_plain.specs.declared.outcome.Reason.{Reason}
use Rattle.sched_plain.specs.declared.outcome.Reason.TheVariants as reasons
use Rattle.sched_plain.specs.declared.standing.Standing.{Standing}
use Rattle.sched_plain.specs.declared.standing.Standing.TheVariants as standings
use Rattle.sched_plain.specs.declared.step.Step.{Step}
use Rattle.sched_plain.specs.declared.step.Step.TheVariants as steps
use Rattle.sched_plain.specs.History.{History}
use Rattle.sched_plain.specs.Leases.{holder}
use Rattle.sched_plain.specs.Ledger.{ledger_of}
use Rattle.sched_plain.specs.Entries.{filed}
use Rattle.sched_plain.specs.Standing.{standing_of}
use Rattle.sched_calls.specs.Serves.{next_number}
use Rattle.durable_book.specs.declared.ticket.Ticket.{Ticket}

-- a worker takes a shard for a minute: with the next epoch
abbrev pub lease_of : History → ℕ → ℕ → ℕ → Step
lease_of h t shard worker = steps.Lease (moment_of t) shard worker ((holder h shard).epoch + 1) (t + LEASE_SECONDS)

-- the worker that took a shard with this epoch gives it back
abbrev pub release_by : ℕ → ℕ → ℕ → ℕ → Step
release_by t shard worker epoch = steps.Release (moment_of t) shard worker epoch

-- a schedule is removed
abbrev pub complete_of : ℕ → ℕ → Step
complete_of t inc = steps.Complete (moment_of t) inc

-- nothing of a shard was left to do
abbrev pub swept_of : ℕ → ℕ → Step
swept_of t shard = steps.Swept (moment_of t) shard

-- the worker that took a shard with this epoch holds it for a minute more
abbrev pub renewal_by : ℕ → ℕ → ℕ → ℕ → Step
renewal_by t shard worker epoch = steps.Lease (moment_of t) shard worker epoch (t + LEASE_SECONDS)

-- an occurrence has an entry
abbrev pub HasEntry : ℕ → ℕ → History → Type 0
HasEntry inc instant h = is_some (filed (ledger_of h) inc instant) ≡ true

-- the next attempt of an occurrence begins under this epoch
abbrev pub begin_with : History → ℕ → ℕ → ℕ → ℕ → Step
begin_with h t inc instant epoch = steps.Begin (moment_of t) inc instant (next_number h inc instant) epoch

-- its ticket
abbrev pub ticket_of : History → ℕ → ℕ → ℕ → Ticket
ticket_of h inc instant epoch = record { inc = inc; instant = instant; number = next_number h inc instant; epoch = epoch }

-- the attempt of a ticket ends
abbrev pub end_with : ℕ → Ticket → Verdict → ℕ → Step
end_with t ticket verdict status = steps.End (moment_of t) ticket.inc ticket.instant ticket.number verdict status

-- where the entry of an occurrence stands at a moment, if it has one
abbrev pub standing_at : History → ℕ → ℕ → ℕ → Option Standing
standing_at h t inc instant = option_map {T = Filed} (λ f. standing_of f t) (filed (ledger_of h) inc instant)

-- the reason for which an entry is exhausted; the first one where it is not
abbrev pub reason_in : Option Standing → Reason
reason_in (Some (standings.Exhausted reason)) = reason
reason_in other = reasons.Attempts

-- an entry is closed for its reason
abbrev pub close_with : History → ℕ → ℕ → ℕ → Step
close_with h t inc instant = steps.Close (moment_of t) inc instant (reason_in (standing_at h t inc instant))
