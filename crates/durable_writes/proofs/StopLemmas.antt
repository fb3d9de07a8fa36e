-- How an accepted write ends: with its Change, or stopped on the way.
use Rattle.std.proofs.Common.{◌≡◌, ℕ, ◌+◌, Option, None, Ok, List, [], length, ap, sym, subst, arith, append-nil}
use Rattle.policy_rules.specs.Given.{Gives}
use Rattle.policy_rules.proofs.GivenLemmas.{gives_through}
use Rattle.sched_plain.specs.declared.step.Step.{Step}
use Rattle.sched_plain.specs.declared.write.Write.{Write}
use Rattle.sched_plain.specs.History.{History, ◌upon◌}
use Rattle.sched_calls.specs.declared.reply.Reply.{Reply}
use Rattle.sched_calls.specs.Replies.{reply_to}
use Rattle.sched_calls.specs.Serves.{Accepts, wanted_enter, words_in}
use Rattle.book_parts.specs.Stands.{calendar}
use Rattle.write_plans.specs.declared.plan.Plan.TheVariants as plans
use Rattle.write_plans.specs.Planning.{IsPlanned, change_at}
use Rattle.write_plans.proofs.ServeLemmas.{ready_is_accepted}
use Rattle.durable_book.specs.declared.grow_fault.GrowFault.{GrowFault}
use Rattle.durable_book.specs.declared.grow_fault.GrowFault.TheVariants as grows
use Rattle.durable_book.specs.Acts.{IsCause}
use Rattle.durable_book.specs.Faults.{grow_denial}
use Rattle.durable_writes.specs.Entering.{LeavesUnentered}
use Rattle.durable_writes.specs.Leading.{IsUnhindered, IsAccepted, IsStopped, Leads}
use Rattle.durable_writes.specs.Words.{Draws}
use Rattle.durable_writes.proofs.ChangeLemmas.{is_change}
use Rattle.durable_writes.proofs.LeadLemmas.{IsUnderway}

draws_all : (h after : History) (words : List ℕ) (told told' : Option (List ℕ)) → Gives told words told' → words_in after ≡ words_in h + length words → Draws h after words [] told told'
draws_all h after words told told' gives drew =
    record { gives = subst (λ (ws : List ℕ). Gives told ws told') (sym (append-nil words)) gives; drew = drew; few = omega arith }

-- a step was not added where the way had come to
pub stopped_here : (full : Step → ℕ → ℕ → Type 0) (t : ℕ) (write : Write) (told told' : Option (List ℕ)) (done : ℕ) (fault : GrowFault) (h after : History) (s : Step)
    → IsUnderway t write told told' done h after → IsCause full s (grow_denial fault) after → IsStopped full t write told told' fault h after
stopped_here full t write told told' done fault h after s way cause = record {
  words = way.words;
  dropped = [];
  unhindered = way.unhindered;
  leads = way.leads;
  draws = draws_all h after way.words told told' way.gives way.drew;
  cause = (s, cause);
}

-- there was no memory
pub stopped_unplanned : (full : Step → ℕ → ℕ → Type 0) (t : ℕ) (write : Write) (told told' : Option (List ℕ)) (done : ℕ) (h after : History)
    → IsUnderway t write told told' done h after → IsStopped full t write told told' grows.OutOfMemory h after
stopped_unplanned full t write told told' done h after way = stopped_here full t write told told' done grows.OutOfMemory h after (change_at t write) way tt

-- an Enter was not added
pub stopped_entering : (full : Step → ℕ → ℕ → Type 0) (t : ℕ) (write : Write) (inc : ℕ) (told mid told' : Option (List ℕ)) (done : ℕ) (fault : GrowFault) (h at after : History)
    → IsUnderway t write told mid done h at → LeavesUnentered full None t inc mid told' fault at after → IsStopped full t write told told' fault h after
stopped_entering full t write inc told mid told' done fault h at after way left =
    let same : after ≡ at = left.finds in
    let drew = way.drew in
    let here = ap words_in same in
    record {
      words = way.words;
      dropped = left.dropped;
      unhindered = subst (IsUnhindered write) (sym same) way.unhindered;
      leads = λ source. subst (Leads source t write way.words h) (sym same) (way.leads source);
      draws = record { gives = gives_through told mid told' way.words left.dropped way.gives left.draws.gives; drew = omega (arith, drew, here); few = left.draws.few };
      cause = (wanted_enter calendar after inc t left.dropped, left.cause);
    }

-- the Change was added
pub accepted_by : (t : ℕ) (write : Write) (told told' : Option (List ℕ)) (done : ℕ) (reply : Reply) (h at : History) (s : Step)
    → IsUnderway t write told told' done h at → IsPlanned calendar at t write (plans.Ready s) → reply ≡ reply_to write → IsAccepted t write told told' reply h (s upon at)
accepted_by t write told told' done reply h at s way is told_so =
    let drew = way.drew in
    let here : words_in (s upon at) ≡ words_in at = ap (λ (x : Step). words_in (x upon at)) (is_change at t write s is) in
    record {
      words = way.words;
      accepts = λ source.
          subst (λ (r : Reply). Accepts calendar source t h write way.words (s upon at) [] (Ok r)) (sym told_so)
          (subst (λ (ws : List ℕ). Accepts calendar source t h write ws (s upon at) [] (Ok (reply_to write))) (append-nil way.words)
          ((way.leads source).onward [] [] (s upon at) (Ok (reply_to write)) (ready_is_accepted calendar at t write s is source [])));
      draws = draws_all h (s upon at) way.words told told' way.gives (omega (arith, drew, here));
    }
