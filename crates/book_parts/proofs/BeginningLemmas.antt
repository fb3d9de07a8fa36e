-- The parts at the beginning: no incarnation has a next instant, and none is finished.
use Rattle.std.proofs.Common.{◌≡◌, ℕ, zero, suc, List, [], ◌∷◌, Option, None, Bool, false, refl, get_or}
use Rattle.plain_words.specs.declared.moment.Moment.{Moment}
use Rattle.std.specs.Prelude.{nat_le, ◌&&◌}
use Rattle.plain_words.proofs.Booleans.{and_false}
use Rattle.sched_plain.specs.History.{beginning}
use Rattle.next_dates.specs.NextInstants.{next_instant}
use Rattle.next_dates.proofs.NextComing.{next_found}
use Rattle.work_order.specs.Finished.{finished_from}
use Rattle.book_parts.specs.Stands.{calendar}

pub no_next : (inc : ℕ) → next_instant calendar beginning inc ≡ None
no_next inc = next_found calendar beginning tt inc None (λ i. and_false (nat_le 0 i))

pub none_finished : (inc : ℕ) → finished_from calendar beginning inc ≡ None
none_finished inc = refl

-- nothing at each of so many places
abbrev pub nones : ℕ → List (Option Moment)
nones zero = []
nones (suc n) = None ∷ nones n

get_none : (n place : ℕ) → get_or (nones n) place None ≡ None
get_none zero place = refl
get_none (suc n) zero = refl
get_none (suc n) (suc place) = get_none n place

pub unswept : (shard : ℕ) → get_or (nones 8) shard None ≡ None
unswept shard = get_none 8 shard
