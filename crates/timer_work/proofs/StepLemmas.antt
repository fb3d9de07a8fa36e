-- The steps of a sweep with which nothing is sent, each as far as it brings it.
use Rattle.std.proofs.Common.{◌≡◌, ℕ, ◌+◌, List, ◌∷◌, length, sym, subst, arith}
use Rattle.plain_words.specs.Moments.{moment_of}
use Rattle.policy_rules.specs.Given.{Gives}
use Rattle.sched_plain.specs.declared.outcome.Reason.{Reason}
use Rattle.sched_plain.specs.declared.step.Step.TheVariants as steps
use Rattle.sched_plain.specs.declared.work.Work.TheVariants as works
use Rattle.sched_plain.specs.History.{History, ◌upon◌}
use Rattle.sched_plain.specs.Leases.{holder}
use Rattle.sched_plain.specs.Seen.{seen}
use Rattle.sched_plain.specs.Work.{work}
use Rattle.sched_calls.specs.Serves.{taking_of, release_of, wanted_enter, words_in}
use Rattle.sweep_laws.proofs.Completing.{complete_lessens}
use Rattle.sweep_laws.proofs.Drops.{close_lessens}
use Rattle.sweep_laws.proofs.Entering.{enter_lessens}
use Rattle.sweep_laws.proofs.Rest.{none_taken, none_entered, none_closed, none_completed}
use Rattle.book_parts.specs.Stands.{calendar}
use Rattle.timer_work.specs.Going.{Outside, Went, Lessened}
use Rattle.timer_work.specs.Places.{Before, AtWork, Unreleased, Fit}
use Rattle.timer_work.proofs.FitLemmas.{own_taken, free_taken, free_released}
use Rattle.timer_work.proofs.GivenLemmas.{gives_nothing}
use Rattle.timer_work.proofs.LeadLemmas.{leads_taking, leads_enter, leads_close, leads_complete, leads_swept, leads_release, one_step}
use Rattle.timer_work.proofs.SendLemmas.{sends_nothing}

-- worker 0 takes a shard
pub taking_went : (Stands : History → Type 0) (t shard : ℕ) (shards : List ℕ) (h : History) (o : Outside)
    → Fit t (Before (shard ∷ shards)) h → Stands (taking_of h t shard upon h)
    → Went Stands t (Before (shard ∷ shards)) h o (AtWork shard shards) o
unfolding leads_taking one_step
taking_went Stands t shard shards h o fit stands = record {
  after = taking_of h t shard upon h;
  stands = stands;
  leads = leads_taking t shard shards h;
  gives = gives_nothing o.words;
  sends = sends_nothing h _ o.sent (λ sent r. record { requests = r.requests; heard = r.heard });
  fit = record { free = free_taken h t shard fit.free; early = omega arith; at_place = none_taken h t shard; taken = own_taken h t shard };
}

-- occurrences are entered
pub entered_lessens : (Stands : History → Type 0) (t shard inc : ℕ) (words : List ℕ) (shards : List ℕ) (h : History) (old new : Outside)
    → old.sent ≡ new.sent → Gives old.words words new.words
    → Fit t (AtWork shard shards) h → work (seen calendar h) shard t ≡ works.Enter inc
    → words_in (wanted_enter calendar h inc t words upon h) ≡ words_in h + length words
    → Stands (wanted_enter calendar h inc t words upon h)
    → Lessened Stands t shard shards h old new
unfolding leads_enter
entered_lessens Stands t shard inc words shards h old new same gives fit wants drew stands = record {
  went = record {
    after = wanted_enter calendar h inc t words upon h;
    stands = stands;
    leads = leads_enter t shard inc words shards h wants drew;
    gives = gives;
    sends = rw (sym same) (sends_nothing h (wanted_enter calendar h inc t words upon h) old.sent (λ sent r. record { requests = r.requests; heard = r.heard }));
    fit = record { free = fit.free; early = omega arith; at_place = none_entered h t inc shard _ fit.at_place; taken = fit.taken };
  };
  less = enter_lessens calendar h shard t inc words wants;
}

-- an entry is closed
pub closed_lessens : (Stands : History → Type 0) (t shard inc instant : ℕ) (reason : Reason) (shards : List ℕ) (h : History) (o : Outside)
    → Fit t (AtWork shard shards) h → work (seen calendar h) shard t ≡ works.Close inc instant reason
    → Stands (steps.Close (moment_of t) inc instant reason upon h)
    → Lessened Stands t shard shards h o o
unfolding leads_close one_step
closed_lessens Stands t shard inc instant reason shards h o fit wants stands = record {
  went = record {
    after = steps.Close (moment_of t) inc instant reason upon h;
    stands = stands;
    leads = leads_close t shard inc instant reason shards h wants;
    gives = gives_nothing o.words;
    sends = sends_nothing h _ o.sent (λ sent r. record { requests = r.requests; heard = r.heard });
    fit = record { free = fit.free; early = omega arith; at_place = none_closed h t inc instant shard reason fit.at_place; taken = fit.taken };
  };
  less = close_lessens calendar h shard t inc instant reason wants;
}

-- a schedule is removed
pub completed_lessens : (Stands : History → Type 0) (t shard inc : ℕ) (shards : List ℕ) (h : History) (o : Outside)
    → Fit t (AtWork shard shards) h → work (seen calendar h) shard t ≡ works.Complete inc
    → Stands (steps.Complete (moment_of t) inc upon h)
    → Lessened Stands t shard shards h o o
unfolding leads_complete one_step
completed_lessens Stands t shard inc shards h o fit wants stands = record {
  went = record {
    after = steps.Complete (moment_of t) inc upon h;
    stands = stands;
    leads = leads_complete t shard inc shards h wants;
    gives = gives_nothing o.words;
    sends = sends_nothing h _ o.sent (λ sent r. record { requests = r.requests; heard = r.heard });
    fit = record { free = fit.free; early = omega arith; at_place = none_completed h t inc shard fit.at_place; taken = fit.taken };
  };
  less = complete_lessens calendar h shard t inc wants;
}

-- a shard is swept
pub swept_went : (Stands : History → Type 0) (t shard : ℕ) (shards : List ℕ) (h : History) (o : Outside)
    → Fit t (AtWork shard shards) h → work (seen calendar h) shard t ≡ works.Settled
    → Stands (steps.Swept (moment_of t) shard upon h)
    → Went Stands t (AtWork shard shards) h o (Unreleased shard shards) o
unfolding leads_swept one_step
swept_went Stands t shard shards h o fit settled stands = record {
  after = steps.Swept (moment_of t) shard upon h;
  stands = stands;
  leads = leads_swept t shard shards h settled;
  gives = gives_nothing o.words;
  sends = sends_nothing h _ o.sent (λ sent r. record { requests = r.requests; heard = r.heard });
  fit = record { free = fit.free; early = omega arith; at_place = tt; taken = fit.taken };
}

-- and given back, with the epoch that was found
released : (Stands : History → Type 0) (t shard : ℕ) (shards : List ℕ) (h : History) (o : Outside)
    → Fit t (Unreleased shard shards) h → Stands (release_of h t shard upon h)
    → Went Stands t (Unreleased shard shards) h o (Before shards) o
unfolding leads_release one_step
released Stands t shard shards h o fit stands = record {
  after = release_of h t shard upon h;
  stands = stands;
  leads = leads_release t shard shards h;
  gives = gives_nothing o.words;
  sends = sends_nothing h _ o.sent (λ sent r. record { requests = r.requests; heard = r.heard });
  fit = record { free = free_released h t shard fit.free; early = omega arith; at_place = tt; taken = tt };
}

pub released_went : (Stands : History → Type 0) (t shard epoch : ℕ) (shards : List ℕ) (h : History) (o : Outside)
    → epoch ≡ (holder h shard).epoch
    → Fit t (Unreleased shard shards) h → Stands (steps.Release (moment_of t) shard 0 epoch upon h)
    → Went Stands t (Unreleased shard shards) h o (Before shards) o
released_went Stands t shard epoch shards h o e fit stands =
    released Stands t shard shards h o fit (subst (λ (n : ℕ). Stands (steps.Release (moment_of t) shard 0 n upon h)) e stands)
