-- The parts stay sound where their schedules, dates and letters stay, and no attempt comes into the air.
use Rattle.std.proofs.Common.{◌≡◌, ℕ, ◌≤◌, Option, List, [], ◌∷◌, Bool, true, false, cond, sym, subst, arith, length}
use Rattle.std.specs.Prelude.{not, if◌then◌else◌}
use Rattle.std.specs.List.{filter, Contains}
use Rattle.std.proofs.lemmas.List.Elements.{All-contains, All-filter, All-contains_itself}
use Rattle.plain_words.proofs.Booleans.{by_bool}
use Rattle.sched_plain.specs.Entries.{is_lost_in}
use Rattle.ledger_rows.specs.Air.{outside}
use Rattle.plain_words.specs.Moments.{last_moment}
use Rattle.plain_words.specs.declared.moment.Moment.{Moment}
use Rattle.sched_plain.specs.declared.holder.Holder.{Holder}
use Rattle.sched_plain.specs.declared.row.Row.{Row}
use Rattle.ledger_rows.specs.declared.row.Flight.{Flight}
use Rattle.ledger_rows.specs.State.{State as LedgerState}
use Rattle.zone_shelf.specs.Places.{Places}
use Rattle.book_parts.specs.Told.{Told}
use Rattle.book_parts.specs.Sound.{IsSound, owed, may_post}

-- the attempts are some of those that there were
pub record AreSomeOf (old new : List Flight) : Type 0 where
  pub there : (f : Flight) → Contains new f → Contains old f
  pub fewer : (rows : List Row) (queue : List ℕ) → owed rows new queue ≤ owed rows old queue

pub all_of : (flights : List Flight) → AreSomeOf flights flights
all_of flights = record { there = λ f in_there. in_there; fewer = λ rows queue. omega arith }

filtered_fewer : {X : Type 0} (q p : X → Bool) (xs : List X) → length (filter q (filter p xs)) ≤ length (filter q xs)
filtered_fewer q p [] = omega arith
filtered_fewer {X} q p (x ∷ xs) =
    let fewer = filtered_fewer q p xs in
    by_bool (λ b. length (filter q (cond b (x ∷ filter p xs) (filter p xs))) ≤ length (cond (q x) (x ∷ filter q xs) (filter q xs))) (p x)
    (λ kept. by_bool (λ b. length (cond b (x ∷ filter q (filter p xs)) (filter q (filter p xs))) ≤ length (cond b (x ∷ filter q xs) (filter q xs))) (q x)
    (λ counts. omega (arith, fewer)) (λ passes. fewer))
    (λ dropped. by_bool (λ b. length (filter q (filter p xs)) ≤ length (cond b (x ∷ filter q xs) (filter q xs))) (q x)
    (λ counts. omega (arith, fewer)) (λ passes. fewer))

some_left : (shard : Option ℕ) (flights : List Flight) → AreSomeOf flights (outside shard flights)
some_left shard flights = record {
  there = λ f left. All-contains (Contains flights) (outside shard flights) f
      (All-filter {X = Flight} (λ flight. not (is_lost_in shard flight.inc)) (Contains flights) flights (All-contains_itself flights)) left;
  fewer = λ rows queue. filtered_fewer {X = Flight} (may_post rows queue) (λ flight. not (is_lost_in shard flight.inc)) flights;
}

-- what is left where the attempts of a shard, or all, are lost
pub left_of : (shard : Option ℕ) (old new : List Flight) → new ≡ outside shard old → AreSomeOf old new
left_of shard old new e = subst (AreSomeOf old) (sym e) (some_left shard old)

pub left_if : (taking : Bool) (shard : Option ℕ) (old new : List Flight) → new ≡ (if taking then outside shard old else old) → AreSomeOf old new
left_if true shard old new e = left_of shard old new e
left_if false shard old new e = subst (AreSomeOf old) (sym e) (all_of old)

pub sound_after : (b : Told) (t steps : ℕ) (swept : List (Option Moment)) (holders : List Holder) (zones : Places) (ledger : LedgerState)
    → IsSound b → b.moment ≤ t → t ≤ last_moment → length swept ≡ 8 → AreSomeOf b.ledger.flights ledger.flights
    → IsSound (record {
      moment = t;
      steps = steps;
      swept = swept;
      holders = holders;
      zones = zones;
      rows = b.rows;
      ledger = ledger;
      shelf = b.shelf;
      letters = b.letters;
      next = b.next;
      finished = b.finished;
    })
sound_after b t steps swept holders zones ledger sound forward early shards some = record {
  contents = sound.contents;
  few = sound.few;
  scheduled = sound.scheduled;
  completed = sound.completed;
  shards = shards;
  latest = let l = sound.latest in omega (arith, l, forward);
  early = early;
  aloft = λ f in_there. let was = sound.aloft f (some.there f in_there) in (was.0, (let w = was.1 in omega (arith, w, forward)));
  letters = λ queue. let l = sound.letters queue in let less = some.fewer b.rows.rows queue in omega (arith, l, less);
}
