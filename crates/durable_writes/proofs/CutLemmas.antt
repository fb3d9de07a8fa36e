-- A write that was stopped on its way was cut short.
use Rattle.std.proofs.Common.{◌≡◌, ◌≢◌, ℕ, ◌+◌, ◌≤◌, Option, None, Result, Ok, List, [], ◌++◌, length, refl, ap, ◌∙◌, arith, inr}
use Rattle.zone_occ.specs.declared.zone_files.NamedZone.{NamedZone}
use Rattle.sched_plain.specs.declared.step.Step.{Step}
use Rattle.sched_plain.specs.declared.write.Write.{Write}
use Rattle.sched_plain.specs.History.{History, Extends, as_it_was, with_step, count}
use Rattle.sched_plain.specs.Changes.{changes_of}
use Rattle.sched_plain.specs.Rows.{rows_of, touched_by}
use Rattle.sched_calls.specs.declared.call.Call.TheVariants as calls
use Rattle.sched_calls.specs.declared.reply.Refusal.{Refusal}
use Rattle.sched_calls.specs.declared.reply.Reply.{Reply}
use Rattle.sched_calls.specs.Replies.{reply_to}
use Rattle.sched_calls.specs.Serves.{Accepts, IsCutShort, ZoneSource, lacks_zone, needed_zone, with_zone, words_in}
use Rattle.book_parts.specs.Stands.{calendar}
use Rattle.sweep_laws.specs.EndLaws.{firsts}
use Rattle.sweep_laws.proofs.Additions.{caught_adds}
use Rattle.sweep_laws.proofs.WorkedOut.{writes_accepted}
use Rattle.durable_book.specs.declared.grow_fault.GrowFault.{GrowFault}
use Rattle.durable_book.specs.declared.grow_fault.GrowFault.TheVariants as grows
use Rattle.durable_writes.specs.Leading.{IsUnhindered, IsStopped, IsDenied, Leads, write_fault}
use Rattle.durable_writes.specs.Writing.{CutsWrite, EndsWrite, IsCauseOfCut, IsSource}

-- a history that extends one has no fewer steps
counts_more : {h after : History} → Extends h after → count h ≤ count after
counts_more as_it_was = omega arith
counts_more (with_step s more) = let le = counts_more more in omega (arith, le)

-- what accepts a write that needs no zone ends with its Change, which is a step more
not_whole : (source : ZoneSource) (t : ℕ) (write : Write) (words left : List ℕ) (after whole : History) (answer : Result Reply Refusal) → needed_zone after write ≡ None
    → Accepts calendar source t after write words whole left answer → after ≢ whole
not_whole source t write words left after whole answer zone accepts = λ same.
    let zoned = with_zone source t (needed_zone after write) after in
    let added = caught_adds calendar t (touched_by (rows_of (changes_of after)) write) zoned accepts.entered words left accepts.caught_up in
    let more = counts_more added.from in
    let here : zoned ≡ after = ap (λ (needed : Option (List ℕ)). with_zone source t needed after) zone in
    let first = ap count here in
    let last = ap count (same ∙ accepts.added) in
    omega (arith, more, first, last)

-- the way of a write that was stopped is a front of what serving it whole adds, and not all of it
pub cut_short : (source : ZoneSource) (t : ℕ) (write : Write) (words : List ℕ) (found after : History) → IsUnhindered write after → Leads source t write words found after
    → words_in after ≡ words_in found + length words → IsCutShort calendar source t found words [] (calls.Write write) after
cut_short source t write words found after free leads drew =
    let out = writes_accepted calendar source t after write (λ k. 0) free.new free.allowed (ap (lacks_zone calendar source) free.zone) in
    let rest : List ℕ = firsts out.drew (λ k. 0) ++ [] in
    let here = out.done [] in
    record {
      cut = record {
        whole = out.after;
        more_words = rest;
        more_ends = [];
        answer = Ok (reply_to write);
        served = (inr (leads.onward rest [] out.after (Ok (reply_to write)) here), refl);
        from = leads.from;
        part = out.took.from;
        words_drawn = drew;
        ends_taken = let ends = leads.ends in omega (arith, ends);
      };
      short = inr (not_whole source t write rest [] after out.after (Ok (reply_to write)) free.zone here);
    }

-- a denied step is the cause of the cut
cause_of_cut : (full : Step → ℕ → ℕ → Type 0) (write : Write) (fault : GrowFault) (after : History) → IsDenied full fault after → IsCauseOfCut full write (write_fault fault) after
cause_of_cut full write (grows.Full end need) after denied = (denied.0, denied.1.0, denied.1.1)
cause_of_cut full write grows.DiskFault after denied = tt
cause_of_cut full write grows.OutOfMemory after denied = tt

-- how a cut ends the write
pub cut_ends : (full : Step → ℕ → ℕ → Type 0) (doubt : Option Step) (t : ℕ) (write : Write) (zones : Option (List NamedZone)) (told told' : Option (List ℕ)) (fault : GrowFault) (h after : History)
    → CutsWrite full doubt t write zones told told' (write_fault fault) h after → EndsWrite full doubt t write zones told told' (write_fault fault) h after
cut_ends full doubt t write zones told told' (grows.Full end need) h after cut = cut
cut_ends full doubt t write zones told told' grows.DiskFault h after cut = cut
cut_ends full doubt t write zones told told' grows.OutOfMemory h after cut = cut

-- stopped behind the Zone step that a write needs, or where it needs none
pub cut_behind : (full : Step → ℕ → ℕ → Type 0) (t : ℕ) (write : Write) (zones : Option (List NamedZone)) (source : ZoneSource) (told told' : Option (List ℕ)) (fault : GrowFault) (found mid after : History)
    → IsSource zones source → Leads source t write [] found mid → words_in mid ≡ words_in found → IsStopped full t write told told' fault mid after
    → ((a b : List ℕ) → Leads source t write a found mid → Leads source t write b mid after → Leads source t write (a ++ b) found after)
    → CutsWrite full None t write zones told told' (write_fault fault) found after
cut_behind full t write zones source told told' fault found mid after telling first same stopped on =
    let drew = stopped.draws.drew in
    let all : words_in after ≡ words_in found + length stopped.words = omega (arith, drew, same) in
    record {
      found = found;
      finds = refl;
      source = source;
      telling = telling;
      words = stopped.words;
      dropped = stopped.dropped;
      part = inr (cut_short source t write stopped.words found after stopped.unhindered (on [] stopped.words first (stopped.leads source)) all);
      draws = record { gives = stopped.draws.gives; drew = all; few = stopped.draws.few };
      cause = cause_of_cut full write fault after stopped.cause;
    }
