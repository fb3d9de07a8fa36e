-- Occurrences are entered, with words of the picker.
use Rattle.std.proofs.Common.{◌≡◌, ℕ, ◌+◌, ◌≤◌, Option, None, List, length, refl, sym, subst, ap, ◌∙◌, arith}
use Rattle.std.proofs.lemmas.List.{append-nil}
use Rattle.policy_rules.specs.Given.{Gives}
use Rattle.sched_plain.specs.declared.step.Step.{Step}
use Rattle.sched_plain.specs.declared.work.Work.TheVariants as works
use Rattle.sched_plain.specs.History.{History, ◌upon◌}
use Rattle.sched_plain.specs.Marks.{unentered}
use Rattle.sched_plain.specs.Seen.{seen}
use Rattle.sched_plain.specs.Work.{work}
use Rattle.sched_calls.specs.Serves.{wanted, wanted_enter, words_in}
use Rattle.sweep_laws.proofs.Entering.{entering_open, some_first}
use Rattle.plain_words.specs.declared.limits.TheConstants.{MOST_PAIRS}
use Rattle.book_parts.specs.Stands.{calendar}
use Rattle.durable_book.specs.declared.grow_fault.GrowFault.{GrowFault}
use Rattle.durable_book.specs.Faults.{grow_denial}
use Rattle.durable_writes.proofs.EnterLemmas.{entered_some}
use Rattle.durable_writes.specs.Entering.{Enters, LeavesUnentered, entered}
use Rattle.target_link.specs.declared.link.Sent.{Sent}
use Rattle.timer_work.specs.Swept.{IsCauseOfStop}
use Rattle.timer_work.specs.Going.{Stopped, Lessened, outside}
use Rattle.timer_work.specs.Places.{AtWork, Fit}
use Rattle.timer_work.proofs.ActLemmas.{found_same, stop_cause}
use Rattle.timer_work.proofs.LeadLemmas.{leads_nowhere}
use Rattle.timer_work.proofs.SendLemmas.{sends_nothing}
use Rattle.timer_work.proofs.StepLemmas.{entered_lessens}

-- the Enter that a shard asked for was added
pub entered_done : (Stands : History → Type 0) (doubt : Option Step) (t shard inc many : ℕ) (shards : List ℕ) (h after : History) (told told' : Option (List ℕ)) (sent : Option (List Sent))
    → doubt ≡ None → Fit t (AtWork shard shards) h → work (seen calendar h) shard t ≡ works.Enter inc
    → Stands after → Enters doubt t inc many told told' h after
    → Lessened Stands t shard shards h (outside told sent) (outside told' sent)
entered_done Stands doubt t shard inc many shards h after told told' sent none fit wants stands enters =
    let is : enters.found ≡ h = found_same doubt h enters.found none enters.finds in
    let open_ = entering_open calendar h shard t inc wants in
    let some : 1 ≤ length (wanted calendar h inc t) = some_first MOST_PAIRS (unentered calendar h inc t) open_.0 open_.1 (omega arith) in
    let added : after ≡ wanted_enter calendar h inc t enters.words upon h =
    enters.added ∙ ap (entered t inc enters.words) is ∙ entered_some h t inc enters.words (wanted calendar h inc t) some in
    entered_lessens Stands t shard inc enters.words shards h (outside told sent) (outside told' sent) refl
    (subst (λ (ws : List ℕ). Gives told ws told') (append-nil enters.words) enters.draws.gives) fit wants
    (ap words_in (sym added) ∙ enters.draws.drew ∙ ap (λ (x : History). words_in x + length enters.words) is)
    (subst Stands added stands)

-- it was not added
pub unentered_stops : (Held : History → Type 0) (full : Step → ℕ → ℕ → Type 0) (doubt : Option Step) (t shard inc : ℕ) (shards : List ℕ) (h after : History) (told told' : Option (List ℕ)) (sent : Option (List Sent)) (fault : GrowFault)
    → doubt ≡ None → Fit t (AtWork shard shards) h → Held after → LeavesUnentered full doubt t inc told told' fault h after
    → Stopped Held full fault t (AtWork shard shards) h (outside told sent) (outside told' sent)
unfolding leads_nowhere
unentered_stops Held full doubt t shard inc shards h after told told' sent fault none fit held leaves =
    let is : after ≡ h = found_same doubt h after none leaves.finds in
    record {
      place = AtWork shard shards;
      after = h;
      stands = subst Held is held;
      leads = leads_nowhere t (AtWork shard shards) h;
      dropped = leaves.dropped;
      few = leaves.draws.few;
      gives = leaves.draws.gives;
      sends = sends_nothing h h sent (λ before r. r);
      fit = fit;
      unfinished = tt;
      cause = subst (IsCauseOfStop full fault) is (stop_cause full (wanted_enter calendar after inc t leaves.dropped) (grow_denial fault) fault after refl leaves.cause);
    }
