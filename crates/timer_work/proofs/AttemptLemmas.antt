-- One attempt, from its Begin to its End.
use Rattle.std.proofs.Common.{◌≡◌, ℕ, ◌≤◌, Option, Some, None, List, refl, sym, subst, ◌∙◌, inl, arith}
use Rattle.std.specs.Option.{option_map}
use Rattle.plain_words.specs.Ids.{shard_of}
use Rattle.plain_words.specs.Moments.{moment_of}
use Rattle.plain_words.specs.declared.verdict.Verdict.{Verdict}
use Rattle.plain_words.specs.declared.verdict.Verdict.TheVariants as verdicts
use Rattle.sched_plain.specs.declared.entry.Filed.{Filed}
use Rattle.sched_plain.specs.declared.step.Step.{Step}
use Rattle.sched_plain.specs.declared.step.Step.TheVariants as steps
use Rattle.sched_plain.specs.declared.why.Why.TheVariants as whys
use Rattle.sched_plain.specs.declared.work.Work.TheVariants as works
use Rattle.sched_plain.specs.History.{History, ◌upon◌}
use Rattle.sched_plain.specs.Leases.{holder}
use Rattle.sched_plain.specs.Legal.{MayFollow}
use Rattle.sched_plain.specs.Seen.{seen}
use Rattle.sched_plain.specs.Validity.{IsValid}
use Rattle.sched_plain.specs.Work.{work}
use Rattle.sched_calls.specs.Serves.{begin_of, end_of, next_number, number_after}
use Rattle.sweep_laws.proofs.Drops.{attempt_lessens}
use Rattle.sweep_laws.proofs.Follow.{may_end}
use Rattle.sweep_laws.proofs.Rest.{none_attempted}
use Rattle.sweep_laws.proofs.Valid.{valid_attempt}
use Rattle.book_parts.specs.Stands.{calendar}
use Rattle.durable_book.specs.declared.end_fault.EndFault.{EndFault}
use Rattle.durable_book.specs.declared.end_fault.EndFault.TheVariants as ends
use Rattle.durable_book.specs.declared.grow_fault.GrowFault.{GrowFault}
use Rattle.durable_book.specs.declared.grow_fault.GrowFault.TheVariants as grows
use Rattle.durable_book.specs.declared.ticket.Ticket.{Ticket}
use Rattle.durable_book.specs.Causes.{IsUnended}
use Rattle.durable_book.specs.Steps.{begin_with, end_with, ticket_of}
use Rattle.target_link.specs.declared.link.Sent.{Sent}
use Rattle.timer_work.specs.Swept.{IsCauseOfStop}
use Rattle.timer_work.specs.Parts.{Asks, IsBegun}
use Rattle.timer_work.specs.Numbers.{number_behind}
use Rattle.timer_work.specs.Sendings.{Request, AttemptSent, request_for}
use Rattle.timer_work.specs.Going.{Went, Stopped, Lessened, outside}
use Rattle.timer_work.specs.Places.{Place, AtWork, InAttempt, Fit}
use Rattle.timer_work.proofs.GivenLemmas.{gives_nothing}
use Rattle.timer_work.proofs.LeadLemmas.{leads_begin, leads_end, leads_on, one_step}
use Rattle.timer_work.proofs.SendLemmas.{sends_begin, sends_end}
use Rattle.timer_work.proofs.WentLemmas.{stopped_there}

-- the number of the next attempt, of the entry
pub number_filed : (o : Option Filed) → number_behind (option_map (λ (f : Filed). f.entry) o) ≡ number_after o
number_filed None = refl
number_filed (Some f) = refl

-- what sending did, of the request of the attempt
pub sent_as : (request wanted : Option Request) (told told' : Option (List Sent)) (verdict : Verdict) (status : ℕ)
    → request ≡ wanted → AttemptSent request told told' verdict status → AttemptSent wanted told told' verdict status
sent_as request wanted told told' verdict status e p = subst (λ (r : Option Request). AttemptSent r told told' verdict status) e p

-- an attempt was begun and its request sent
unfoldable pub begun_went : (Stands : History → Type 0) (t shard inc instant : ℕ) (shards : List ℕ) (h : History) (words : Option (List ℕ)) (told told' : Option (List Sent)) (verdict : Verdict) (status : ℕ)
    → Fit t (AtWork shard shards) h → work (seen calendar h) shard t ≡ works.Begin inc instant
    → AttemptSent (request_for h inc instant (next_number h inc instant)) told told' verdict status
    → Stands (begin_of h t inc instant upon h)
    → Went Stands t (AtWork shard shards) h (outside words told) (InAttempt inc instant (next_number h inc instant) shard shards) (outside words told')
unfolding leads_begin one_step
begun_went Stands t shard inc instant shards h words told told' verdict status fit wanted sent stands = record {
  after = begin_of h t inc instant upon h;
  stands = stands;
  leads = leads_begin t shard inc instant shards h wanted;
  gives = gives_nothing words;
  sends = sends_begin h (moment_of t) inc instant (next_number h inc instant) (holder h (shard_of inc)).epoch told told' verdict status sent;
  fit = record {
    free = fit.free;
    early = omega arith;
    at_place = λ end. none_attempted h t inc instant shard end fit.at_place;
    taken = fit.taken;
  };
}

-- and ended as what came back says
pub ended_lessens : (Stands : History → Type 0) (t shard inc instant : ℕ) (shards : List ℕ) (h : History) (words : Option (List ℕ)) (told told' : Option (List Sent)) (verdict : Verdict) (status : ℕ)
    → Fit t (AtWork shard shards) h → work (seen calendar h) shard t ≡ works.Begin inc instant
    → AttemptSent (request_for h inc instant (next_number h inc instant)) told told' verdict status
    → Stands (end_of h t inc instant (verdict, status) upon begin_of h t inc instant upon h)
    → Lessened Stands t shard shards h (outside words told) (outside words told')
unfolding leads_on leads_begin leads_end one_step
ended_lessens Stands t shard inc instant shards h words told told' verdict status fit wanted sent stands =
    let number = next_number h inc instant in record {
      went = record {
        after = end_of h t inc instant (verdict, status) upon begin_of h t inc instant upon h;
        stands = stands;
        leads = leads_on t (AtWork shard shards) h (InAttempt inc instant number shard shards) (begin_of h t inc instant upon h) (AtWork shard shards) _
            (leads_begin t shard inc instant shards h wanted) (leads_end t shard inc instant number (verdict, status) shards (begin_of h t inc instant upon h));
        gives = gives_nothing words;
        sends = sends_end h (moment_of t) inc instant number (holder h (shard_of inc)).epoch told told' verdict status sent;
        fit = record {
          free = fit.free;
          early = omega arith;
          at_place = none_attempted h t inc instant shard (verdict, status) fit.at_place;
          taken = fit.taken;
        };
      };
      less = attempt_lessens calendar h shard t inc instant (verdict, status) wanted;
    }

-- what a shard asks for has a number, an incarnation and an instant in their ranges
pub attempt_fits : (t shard inc instant : ℕ) (h : History) → Asks t shard (works.Begin inc instant) h
    → IsValid (begin_of h t inc instant) × IsValid (end_of h t inc instant (verdicts.Retry, 0))
attempt_fits t shard inc instant h asks =
    valid_attempt calendar h shard t inc instant (verdicts.Retry, 0) asks.good (inl refl) asks.asked

-- the attempt was begun under the epoch of its shard
pub begun_own : (New : History → Type 0) (h : History) (t inc instant epoch : ℕ) (ticket : Ticket) → epoch ≡ (holder h (shard_of inc)).epoch
    → New (begin_with h t inc instant epoch upon h) → ticket ≡ ticket_of h inc instant epoch
    → New (begin_of h t inc instant upon h) × (ticket ≡ ticket_of h inc instant (holder h (shard_of inc)).epoch)
begun_own New h t inc instant epoch ticket e stands is =
    (subst (λ (n : ℕ). New (begin_with h t inc instant n upon h)) e stands, subst (λ (n : ℕ). ticket ≡ ticket_of h inc instant n) e is)

pub own_begin : (h : History) (t inc instant epoch : ℕ) → epoch ≡ (holder h (shard_of inc)).epoch → MayFollow calendar h (begin_of h t inc instant)
    → MayFollow calendar h (begin_with h t inc instant epoch)
own_begin h t inc instant epoch e may = subst (λ (n : ℕ). MayFollow calendar h (begin_with h t inc instant n)) (sym e) may

-- it is begun, by its ticket
pub begun_is : (t shard inc instant : ℕ) (h : History) (ticket : Ticket) → ticket ≡ ticket_of h inc instant (holder h (shard_of inc)).epoch
    → Asks t shard (works.Begin inc instant) h → IsBegun t ticket (begin_of h t inc instant upon h)
begun_is t shard inc instant h ticket e asks =
    subst (λ (k : Ticket). IsBegun t k (begin_of h t inc instant upon h)) (sym e)
    (record { shard = shard; before = h; asks = asks; number = refl; begun = refl })

-- an attempt that is begun may be ended
end_follows : (t inc instant number : ℕ) (before h : History) (shard : ℕ) (verdict : Verdict) (status : ℕ) → number ≡ next_number before inc instant
    → h ≡ begin_of before t inc instant upon before → Asks t shard (works.Begin inc instant) before
    → MayFollow calendar h (steps.End (moment_of t) inc instant number verdict status)
end_follows t inc instant number before h shard verdict status n e asks =
    subst (λ (k : ℕ). MayFollow calendar h (steps.End (moment_of t) inc instant k verdict status)) (sym n)
    (subst (λ (x : History). MayFollow calendar x (steps.End (moment_of t) inc instant (next_number before inc instant) verdict status)) (sym e)
    (may_end calendar before shard t inc instant (verdict, status) asks.asked))

unended : (t : ℕ) (ticket : Ticket) (verdict : Verdict) (status : ℕ) (fault : EndFault) (h : History) → MayFollow calendar h (end_with t ticket verdict status)
    → IsUnended t ticket verdict status fault h → fault ≡ ends.DiskFault
unended t ticket verdict status (ends.Stale epoch) h may (why_, told) = let same : Some whys.NotLive ≡ None = sym why_ ∙ may in absurd (cc same)
unended t ticket verdict status ends.DiskFault h may cause = refl

pub begun_ends : (t : ℕ) (ticket : Ticket) (verdict : Verdict) (status : ℕ) (fault : EndFault) (h : History) → IsBegun t ticket h
    → IsUnended t ticket verdict status fault h → fault ≡ ends.DiskFault
begun_ends t ticket verdict status fault h begun cause =
    unended t ticket verdict status fault h
    (end_follows t ticket.inc ticket.instant ticket.number begun.before h begun.shard verdict status begun.number begun.begun begun.asks) cause

-- the End of a ticket is that of its attempt
pub ended_own : (New : History → Type 0) (h : History) (t inc instant epoch : ℕ) (ticket : Ticket) (verdict : Verdict) (status : ℕ) → ticket ≡ ticket_of h inc instant epoch
    → New (end_with t ticket verdict status upon begin_of h t inc instant upon h)
    → New (end_of h t inc instant (verdict, status) upon begin_of h t inc instant upon h)
ended_own New h t inc instant epoch ticket verdict status e stands =
    subst (λ (k : Ticket). New (end_with t k verdict status upon begin_of h t inc instant upon h)) e stands

-- a failed disk wants no cause
pub disk_stop : (full : Step → ℕ → ℕ → Type 0) (fault : GrowFault) (h : History) → fault ≡ grows.DiskFault → IsCauseOfStop full fault h
disk_stop full fault h is = subst (λ (f : GrowFault). IsCauseOfStop full f h) (sym is) tt

-- the number that is next is small
pub small_number : (t shard inc instant : ℕ) (h : History) → Asks t shard (works.Begin inc instant) h → (1 ≤ next_number h inc instant) × (next_number h inc instant ≤ 65535)
small_number t shard inc instant h asks =
    let valid = (attempt_fits t shard inc instant h asks).0 in
    let number = valid.3 in
    (number.0, omega (arith, number))

-- the same from what the link told before its room was made
pub lessened_told : (Stands : History → Type 0) (t shard : ℕ) (shards : List ℕ) (h : History) (words : Option (List ℕ)) (told ready told' : Option (List Sent))
    → ready ≡ told → Lessened Stands t shard shards h (outside words ready) (outside words told') → Lessened Stands t shard shards h (outside words told) (outside words told')
lessened_told Stands t shard shards h words told ready told' e p =
    subst (λ (o : Option (List Sent)). Lessened Stands t shard shards h (outside words o) (outside words told')) e p

pub stopped_told : (Held : History → Type 0) (full : Step → ℕ → ℕ → Type 0) (fault : GrowFault) (t : ℕ) (p : Place) (h : History) (words : Option (List ℕ)) (told ready told' : Option (List Sent))
    → ready ≡ told → (last : Option (List Sent)) → last ≡ told' → Stopped Held full fault t p h (outside words ready) (outside words told') → Stopped Held full fault t p h (outside words told) (outside words last)
stopped_told Held full fault t p h words told ready told' e last f s =
    subst (λ (o : Option (List Sent)). Stopped Held full fault t p h (outside words told) (outside words o)) (sym f)
    (subst (λ (o : Option (List Sent)). Stopped Held full fault t p h (outside words o) (outside words told')) e s)

-- an attempt was begun and its request sent, and its End was not kept
pub begun_stops : (Held : History → Type 0) (full : Step → ℕ → ℕ → Type 0) (fault : GrowFault) (t shard inc instant : ℕ) (shards : List ℕ) (h : History) (words : Option (List ℕ)) (told told' : Option (List Sent)) (verdict : Verdict) (status : ℕ)
    → Fit t (AtWork shard shards) h → work (seen calendar h) shard t ≡ works.Begin inc instant
    → AttemptSent (request_for h inc instant (next_number h inc instant)) told told' verdict status
    → Held (begin_of h t inc instant upon h) → fault ≡ grows.DiskFault
    → Stopped Held full fault t (AtWork shard shards) h (outside words told) (outside words told')
unfolding begun_went
begun_stops Held full fault t shard inc instant shards h words told told' verdict status fit wanted sent held is =
    stopped_there Held Held full fault t (AtWork shard shards) h (outside words told) (InAttempt inc instant (next_number h inc instant) shard shards) (outside words told')
    (begun_went Held t shard inc instant shards h words told told' verdict status fit wanted sent held)
    held tt (disk_stop full fault (begin_of h t inc instant upon h) is)
