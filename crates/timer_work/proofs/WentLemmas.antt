-- A sweep goes on one part behind the other, and stops.
use Rattle.std.proofs.Common.{◌≡◌, ℕ, ◌+◌, ◌≤◌, List, [], ◌++◌, sym, subst, arith, append_assoc}
use Rattle.std.proofs.lemmas.List.{append-nil}
use Rattle.policy_rules.specs.Given.{Gives}
use Rattle.sched_plain.specs.declared.step.Step.{Step}
use Rattle.sched_plain.specs.History.{History}
use Rattle.sweep_laws.specs.LoadLaws.{load}
use Rattle.book_parts.specs.Stands.{calendar}
use Rattle.durable_book.specs.declared.grow_fault.GrowFault.{GrowFault}
use Rattle.timer_work.specs.Swept.{IsCauseOfStop}
use Rattle.timer_work.specs.Going.{Outside, Went, Stopped, Lessened}
use Rattle.timer_work.specs.Places.{Place, Before, AtWork, Fit, IsUnfinished}
use Rattle.timer_work.proofs.LeadLemmas.{leads_nowhere, leads_on}
use Rattle.timer_work.proofs.SendLemmas.{sends_nothing, sends_on}
use Rattle.timer_work.proofs.GivenLemmas.{gives_nothing, gives_on}

-- nowhere yet
unfoldable pub went_nowhere : (Stands : History → Type 0) (t : ℕ) (p : Place) (h : History) (o : Outside) → Stands h → Fit t p h → Went Stands t p h o p o
unfolding leads_nowhere
went_nowhere Stands t p h o stands fit = record {
  after = h;
  stands = stands;
  leads = leads_nowhere t p h;
  gives = gives_nothing o.words;
  sends = sends_nothing h h o.sent (λ sent r. r);
  fit = fit;
}

-- on from where it came to
unfoldable pub went_on : (One Two : History → Type 0) (t : ℕ) (p : Place) (h : History) (old : Outside) (q : Place) (mid : Outside) (r : Place) (new : Outside)
    → (w : Went One t p h old q mid) → Went Two t q w.after mid r new → Went Two t p h old r new
unfolding leads_on
went_on One Two t p h old q mid r new w v = record {
  after = v.after;
  stands = v.stands;
  leads = leads_on t p h q w.after r v.after w.leads v.leads;
  gives = gives_on old.words mid.words new.words w.leads.words v.leads.words w.gives v.gives;
  sends = sends_on h w.after v.after old.sent mid.sent new.sent w.sends v.sends;
  fit = v.fit;
}

-- and then it stopped
pub stopped_on : (One Two : History → Type 0) (full : Step → ℕ → ℕ → Type 0) (fault : GrowFault) (t : ℕ) (p : Place) (h : History) (old : Outside) (q : Place) (mid new : Outside)
    → (w : Went One t p h old q mid) → Stopped Two full fault t q w.after mid new → Stopped Two full fault t p h old new
unfolding leads_on
stopped_on One Two full fault t p h old q mid new w s = record {
  place = s.place;
  after = s.after;
  stands = s.stands;
  leads = leads_on t p h q w.after s.place s.after w.leads s.leads;
  dropped = s.dropped;
  few = s.few;
  gives = subst (λ (ws : List ℕ). Gives old.words ws new.words) (sym (append_assoc w.leads.words s.leads.words s.dropped))
      (gives_on old.words mid.words new.words w.leads.words (s.leads.words ++ s.dropped) w.gives s.gives);
  sends = sends_on h w.after s.after old.sent mid.sent new.sent w.sends s.sends;
  fit = s.fit;
  unfinished = s.unfinished;
  cause = s.cause;
}

-- a sweep that went to a place stopped there
pub stopped_there : (Stands Held : History → Type 0) (full : Step → ℕ → ℕ → Type 0) (fault : GrowFault) (t : ℕ) (p : Place) (h : History) (old : Outside) (q : Place) (new : Outside)
    → (w : Went Stands t p h old q new) → Held w.after → IsUnfinished q → IsCauseOfStop full fault w.after → Stopped Held full fault t p h old new
stopped_there Stands Held full fault t p h old q new w held unfinished cause = record {
  place = q;
  after = w.after;
  stands = held;
  leads = w.leads;
  dropped = [];
  few = omega arith;
  gives = subst (λ (ws : List ℕ). Gives old.words ws new.words) (sym (append-nil w.leads.words)) w.gives;
  sends = w.sends;
  fit = w.fit;
  unfinished = unfinished;
  cause = cause;
}

-- it stopped where it was
pub stopped_here : (Held : History → Type 0) (full : Step → ℕ → ℕ → Type 0) (fault : GrowFault) (t : ℕ) (p : Place) (h : History) (o : Outside)
    → Held h → Fit t p h → IsUnfinished p → IsCauseOfStop full fault h → Stopped Held full fault t p h o o
unfolding leads_nowhere
stopped_here Held full fault t p h o held fit unfinished cause = record {
  place = p;
  after = h;
  stands = held;
  leads = leads_nowhere t p h;
  dropped = [];
  few = omega arith;
  gives = gives_nothing o.words;
  sends = sends_nothing h h o.sent (λ sent r. r);
  fit = fit;
  unfinished = unfinished;
  cause = cause;
}

-- after so many works, as many at least are done of what a shard had
pub record Worked (Stands : History → Type 0) (t shard worked : ℕ) (shards : List ℕ) (h : History) (old new : Outside) : Type 0 where
  pub went : Went Stands t (AtWork shard shards) h old (AtWork shard shards) new
  pub less : load calendar went.after shard t + worked ≤ load calendar h shard t

pub none_worked : (Stands : History → Type 0) (t shard : ℕ) (shards : List ℕ) (h : History) (o : Outside) → Stands h → Fit t (AtWork shard shards) h
    → Worked Stands t shard 0 shards h o o
unfolding went_nowhere
none_worked Stands t shard shards h o stands fit = record { went = went_nowhere Stands t (AtWork shard shards) h o stands fit; less = omega arith }

pub one_more_worked : (One Two : History → Type 0) (t shard worked : ℕ) (shards : List ℕ) (h : History) (old mid new : Outside)
    → (w : Worked One t shard worked shards h old mid) → Lessened Two t shard shards w.went.after mid new
    → Worked Two t shard (worked + 1) shards h old new
unfolding went_on
one_more_worked One Two t shard worked shards h old mid new w v =
    let le = w.less in
    let less = v.less in
    record { went = went_on One Two t (AtWork shard shards) h old (AtWork shard shards) mid (AtWork shard shards) new w.went v.went; less = omega (arith, le, less) }

-- before the shards that are left
pub went_before : (Stands : History → Type 0) (t : ℕ) (p : Place) (h : History) (old : Outside) (shards left : List ℕ) (new : Outside)
    → shards ≡ left → Went Stands t p h old (Before shards) new → Went Stands t p h old (Before left) new
went_before Stands t p h old shards left new e w = subst (λ (xs : List ℕ). Went Stands t p h old (Before xs) new) e w
