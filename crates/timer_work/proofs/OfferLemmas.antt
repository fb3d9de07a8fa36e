-- What a call did with the work that was found, it did with the work that was wanted.
use Rattle.std.proofs.Common.{◌≡◌, ℕ, Result, sym, subst}
use Rattle.sched_plain.specs.declared.step.Step.{Step}
use Rattle.sched_plain.specs.declared.work.Work.{Work}
use Rattle.sched_plain.specs.declared.work.Work.TheVariants as works
use Rattle.sched_plain.specs.History.{History}
use Rattle.sweep_laws.proofs.Rest.{never_waits}
use Rattle.book_parts.specs.Stands.{calendar}
use Rattle.step_keeper.specs.Carrying.{Start}
use Rattle.durable_book.specs.declared.grow_fault.GrowFault.{GrowFault}
use Rattle.timer_work.specs.Going.{Outside}
use Rattle.timer_work.specs.Parts.{Asks, Wants, Handles}

-- the work is wanted
pub wants_as : {K : Type 0} (Old : Start K → History → Type 0) (t : ℕ) (next found : Work) → next ≡ found
    → (shard : ℕ) × Wants Old t shard next → (shard : ℕ) × Wants Old t shard found
wants_as Old t next found e wanted = subst (λ (w : Work). (shard : ℕ) × Wants Old t shard w) e wanted

-- nothing is awaited
pub never_live : {K : Type 0} (Old : Start K → History → Type 0) (t inc instant : ℕ) → (shard : ℕ) × Wants Old t shard (works.Live inc instant) → ⊥
never_live Old t inc instant (shard, (shards, (since, h, st, (fit, asks)))) = never_waits calendar h shard t inc instant fit.at_place asks.asked

-- it is handled
pub handles_as : {K T : Type 0} (r : Result T GrowFault) (Old New Held : Start K → History → Type 0) (full : Step → ℕ → ℕ → Type 0) (t : ℕ) (next found : Work) (old new : Outside)
    → next ≡ found → Handles Old New Held full t found old new r → Handles Old New Held full t next old new r
handles_as r Old New Held full t next found old new e done = subst (λ (w : Work). Handles Old New Held full t w old new r) (sym e) done

-- the work that was found is the one that is next
pub settled_as : (t shard : ℕ) (next : Work) (h : History) → next ≡ works.Settled → Asks t shard next h → Asks t shard works.Settled h
settled_as t shard next h e asks = subst (λ (w : Work). Asks t shard w h) e asks
