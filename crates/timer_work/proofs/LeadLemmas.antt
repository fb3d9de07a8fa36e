-- The parts of a sweep, step by step and one behind the other.
use Rattle.std.proofs.Common.{◌≡◌, ℕ, ◌+◌, List, [], ◌∷◌, ◌++◌, length, refl, sym, subst, arith, append_assoc, length-append}
use Rattle.sched_plain.specs.declared.step.Pair.{Pair}
use Rattle.sched_plain.specs.declared.step.Step.{Step}
use Rattle.sched_plain.specs.declared.step.Step.TheVariants as steps
use Rattle.sched_plain.specs.declared.outcome.Reason.{Reason}
use Rattle.sched_plain.specs.declared.work.Work.TheVariants as works
use Rattle.sched_plain.specs.History.{History, ◌upon◌, as_it_was, with_step}
use Rattle.sched_plain.specs.Seen.{seen}
use Rattle.sched_plain.specs.Work.{work}
use Rattle.plain_words.specs.Moments.{moment_of}
use Rattle.sched_calls.specs.Serves.{End, Works, settled, enters, closes, begins, completes, next_shard, taking_of, release_of, begin_of, wanted, wanted_enter, words_left, next_number, windows_of, words_in, ends_in}
use Rattle.sched_plain.proofs.HistoryLemmas.{extends_through}
use Rattle.sweep_laws.specs.EndLaws.{SweepRest}
use Rattle.sweep_laws.proofs.Words.{needs, drawn_count}
use Rattle.book_parts.specs.Stands.{calendar}
use Rattle.durable_writes.proofs.LeadLemmas.{drawn_behind}
use Rattle.timer_work.specs.Going.{Leads}
use Rattle.timer_work.specs.Places.{Place, Before, AtWork, InAttempt, Unreleased, Rest}

-- no part of a sweep
unfoldable pub leads_nowhere : (t : ℕ) (p : Place) (h : History) → Leads t p h p h
leads_nowhere t p h = record {
  words = [];
  ends = [];
  onward = λ more_words more_ends last r. r;
  from = as_it_was;
  drawn = omega arith;
  taken = omega arith;
}

-- one part behind another
unfoldable pub leads_on : (t : ℕ) (p : Place) (h : History) (q : Place) (mid : History) (r : Place) (after : History)
    → Leads t p h q mid → Leads t q mid r after → Leads t p h r after
leads_on t p h q mid r after a b = record {
  words = a.words ++ b.words;
  ends = a.ends ++ b.ends;
  onward = λ more_words more_ends last left.
      subst (λ (ws : List ℕ). Rest t p h ws ((a.ends ++ b.ends) ++ more_ends) last) (sym (append_assoc a.words b.words more_words))
      (subst (λ (es : List End). Rest t p h (a.words ++ (b.words ++ more_words)) es last) (sym (append_assoc a.ends b.ends more_ends))
      (a.onward (b.words ++ more_words) (b.ends ++ more_ends) last (b.onward more_words more_ends last left)));
  from = extends_through a.from b.from;
  drawn = let x = a.drawn in let y = b.drawn in let z = length-append a.words b.words in omega arith;
  taken = let x = a.taken in let y = b.taken in let z = length-append a.ends b.ends in omega arith;
}

-- a step that draws no word and takes no end
unfoldable pub one_step : (t : ℕ) (p : Place) (h : History) (q : Place) (s : Step)
    → ((words : List ℕ) (ends : List End) (last : History) → Rest t q (s upon h) words ends last → Rest t p h words ends last)
    → words_in (s upon h) ≡ words_in h → ends_in (s upon h) ≡ ends_in h → Leads t p h q (s upon h)
one_step t p h q s onward w e = record {
  words = [];
  ends = [];
  onward = onward;
  from = with_step s as_it_was;
  drawn = omega arith;
  taken = omega arith;
}

-- the shard is taken
unfoldable pub leads_taking : (t shard : ℕ) (shards : List ℕ) (h : History)
    → Leads t (Before (shard ∷ shards)) h (AtWork shard shards) (taking_of h t shard upon h)
leads_taking t shard shards h = one_step t _ h _ (taking_of h t shard) (λ words ends last r. next_shard r.worked r.swept) refl refl

-- its work is settled and it is swept
unfoldable pub leads_swept : (t shard : ℕ) (shards : List ℕ) (h : History) → work (seen calendar h) shard t ≡ works.Settled
    → Leads t (AtWork shard shards) h (Unreleased shard shards) (steps.Swept (moment_of t) shard upon h)
leads_swept t shard shards h e = one_step t _ h _ (steps.Swept (moment_of t) shard)
    (λ words ends last r. record { mid = h; some_left = words; some_ends = ends; worked = settled e; swept = r }) refl refl

-- it is given back
unfoldable pub leads_release : (t shard : ℕ) (shards : List ℕ) (h : History)
    → Leads t (Unreleased shard shards) h (Before shards) (release_of h t shard upon h)
leads_release t shard shards h = one_step t _ h _ (release_of h t shard) (λ words ends last r. r) refl refl

-- an entry is closed
unfoldable pub leads_close : (t shard inc instant : ℕ) (reason : Reason) (shards : List ℕ) (h : History) → work (seen calendar h) shard t ≡ works.Close inc instant reason
    → Leads t (AtWork shard shards) h (AtWork shard shards) (steps.Close (moment_of t) inc instant reason upon h)
leads_close t shard inc instant reason shards h e = one_step t _ h _ (steps.Close (moment_of t) inc instant reason)
    (λ words ends last r. record { mid = r.mid; some_left = r.some_left; some_ends = r.some_ends; worked = closes e r.worked; swept = r.swept }) refl refl

-- a schedule is removed
unfoldable pub leads_complete : (t shard inc : ℕ) (shards : List ℕ) (h : History) → work (seen calendar h) shard t ≡ works.Complete inc
    → Leads t (AtWork shard shards) h (AtWork shard shards) (steps.Complete (moment_of t) inc upon h)
leads_complete t shard inc shards h e = one_step t _ h _ (steps.Complete (moment_of t) inc)
    (λ words ends last r. record { mid = r.mid; some_left = r.some_left; some_ends = r.some_ends; worked = completes e r.worked; swept = r.swept }) refl refl

-- an attempt is begun
unfoldable pub leads_begin : (t shard inc instant : ℕ) (shards : List ℕ) (h : History) → work (seen calendar h) shard t ≡ works.Begin inc instant
    → Leads t (AtWork shard shards) h (InAttempt inc instant (next_number h inc instant) shard shards) (begin_of h t inc instant upon h)
leads_begin t shard inc instant shards h e = one_step t _ h _ (begin_of h t inc instant)
    (λ words ends last r. let left = r.shard_left in
    subst (λ (es : List End). SweepRest calendar t shard shards h words es last [] []) (sym r.taken)
    (record { mid = left.mid; some_left = left.some_left; some_ends = left.some_ends; worked = begins {end = r.end} e left.worked; swept = left.swept })) refl refl

-- and ended
unfoldable pub leads_end : (t shard inc instant number : ℕ) (end : End) (shards : List ℕ) (h : History)
    → Leads t (InAttempt inc instant number shard shards) h (AtWork shard shards) (steps.End (moment_of t) inc instant number end.0 end.1 upon h)
leads_end t shard inc instant number end shards h = record {
  words = [];
  ends = end ∷ [];
  onward = λ words ends last r. record { end = end; ends_left = ends; taken = refl; shard_left = r };
  from = with_step _ as_it_was;
  drawn = omega arith;
  taken = omega arith;
}

-- occurrences are entered, with exactly the words that are wanted for them
unfoldable pub leads_enter : (t shard inc : ℕ) (words : List ℕ) (shards : List ℕ) (h : History) → work (seen calendar h) shard t ≡ works.Enter inc
    → words_in (wanted_enter calendar h inc t words upon h) ≡ words_in h + length words
    → Leads t (AtWork shard shards) h (AtWork shard shards) (wanted_enter calendar h inc t words upon h)
leads_enter t shard inc words shards h e drew =
    let window = windows_of h inc in
    let instants = wanted calendar h inc t in
    let count = drawn_count window instants words in
    let many : length words ≡ needs window instants = omega (arith, drew, count) in
    record {
      words = words;
      ends = [];
      onward = λ more_words more_ends last r.
          let (pairs, left) = drawn_behind window instants words more_words many in
          let behind = subst (λ (ws : List ℕ). Works calendar t shard (wanted_enter calendar h inc t words upon h) ws more_ends r.mid r.some_left r.some_ends) (sym left) r.worked in
          let entered = subst (λ (ps : List Pair). Works calendar t shard (steps.Enter (moment_of t) inc ps upon h) (words_left calendar h inc t (words ++ more_words)) more_ends r.mid r.some_left r.some_ends) (sym pairs) behind in
          record { mid = r.mid; some_left = r.some_left; some_ends = r.some_ends; worked = enters e entered; swept = r.swept };
      from = with_step _ as_it_was;
      drawn = drew;
      taken = omega arith;
    }
