-- The parts stay sound where an attempt comes into the air for whose letter there is room.
use Rattle.std.proofs.Common.{◌≡◌, ℕ, ◌+◌, ◌≤◌, Bool, true, false, Option, Some, None, List, [], ◌∷◌, ◌++◌, refl, ap, sym, subst, ◌∙◌, arith, length, inl, inr}
use Rattle.std.specs.Prelude.{if◌then◌else◌}
use Rattle.std.specs.List.{filter}
use Rattle.std.proofs.lemmas.List.{length-append}
use Rattle.std.proofs.lemmas.List.Elements.{filter-append, Contains-push_cases}
use Rattle.plain_words.specs.Lists.{same_text, some_pass}
use Rattle.plain_words.specs.Moments.{last_moment}
use Rattle.sched_plain.specs.declared.row.Row.{Row}
use Rattle.sched_rows.proofs.NameLemmas.{same_text_same}
use Rattle.ledger_rows.specs.declared.row.Flight.{Flight}
use Rattle.ledger_rows.specs.Air.{flight_of}
use Rattle.ledger_rows.specs.State.{State as LedgerState}
use Rattle.dead_letters.specs.Piles.{room_in}
use Rattle.book_parts.specs.Told.{Told}
use Rattle.book_parts.specs.Sound.{IsSound, AreAloft, may_post, owed}
use Rattle.book_entries.specs.LetterRoom.{HasLetterRoom, queue_at}

one_if : (b : Bool) (f : Flight) → length (if b then f ∷ [] else []) ≡ (if b then 1 else 0)
one_if true f = refl
one_if false f = refl

-- an attempt more may owe a letter more
owed_more : (rows : List Row) (flights : List Flight) (f : Flight) (queue : List ℕ)
    → owed rows (flights ++ f ∷ []) queue ≡ owed rows flights queue + (if may_post rows queue f then 1 else 0)
owed_more rows flights f queue =
    ap length (filter-append (may_post rows queue) flights (f ∷ []))
    ∙ length-append (filter (may_post rows queue) flights) (filter (may_post rows queue) (f ∷ []))
    ∙ ap (λ n. owed rows flights queue + n) (one_if (may_post rows queue f) f)

-- it owes it to the queue that its content names
pub posts_named : (queue : List ℕ) (named : Option (List ℕ)) → some_pass (same_text queue) named ≡ true → named ≡ Some queue
posts_named queue None e = cc e
posts_named queue (Some name) e = ap (λ (q : List ℕ). Some q) (sym (same_text_same queue name e))

room_for : (b : Bool) (all had room : ℕ) → all ≡ had + (if b then 1 else 0) → had ≤ room → (b ≡ true → had + 1 ≤ room) → all ≤ room
room_for true all had room is fits more = let e : all ≡ had + 1 = is in let m = more refl in omega (arith, e, m)
room_for false all had room is fits more = let e : all ≡ had + 0 = is in omega (arith, e, fits)

aloft_more : (created was t : ℕ) (flights : List Flight) (f : Flight) → was ≤ t → AreAloft created was flights → f.inc ≤ created → f.instant ≤ t
    → AreAloft created t (flights ++ f ∷ [])
aloft_more created was t flights f forward all there come g has = elim (Contains-push_cases flights f g has) [
  | inl early ↦ let a = all g early in (a.0, (let i = a.1 in omega (arith, i, forward)))
  | inr last ↦ subst (λ (x : Flight). (x.inc ≤ created) × (x.instant ≤ t)) last (there, come)
]

pub sound_begun : (b : Told) (t steps inc instant number : ℕ) (ledger : LedgerState)
    → IsSound b → b.moment ≤ t → t ≤ last_moment → ledger.flights ≡ b.ledger.flights ++ flight_of inc instant number ∷ []
    → inc ≤ length b.rows.rows → instant ≤ t → HasLetterRoom b inc instant
    → IsSound (record {
      moment = t;
      steps = steps;
      swept = b.swept;
      holders = b.holders;
      zones = b.zones;
      rows = b.rows;
      ledger = ledger;
      shelf = b.shelf;
      letters = b.letters;
      next = b.next;
      finished = b.finished;
    })
sound_begun b t steps inc instant number ledger sound forward early air there come letter =
    let f = flight_of inc instant number in
    let rows = b.rows.rows in
    let flights = b.ledger.flights in
    record {
      contents = sound.contents;
      few = sound.few;
      scheduled = sound.scheduled;
      completed = sound.completed;
      shards = sound.shards;
      latest = let l = sound.latest in omega (arith, l, forward);
      early = early;
      aloft = subst (λ (all : List Flight). AreAloft (length rows) t all) (sym air) (aloft_more (length rows) b.moment t flights f forward sound.aloft there come);
      letters = λ queue. subst (λ (all : List Flight). owed rows all queue ≤ room_in b.letters queue) (sym air)
          (room_for (may_post rows queue f) (owed rows (flights ++ f ∷ []) queue) (owed rows flights queue) (room_in b.letters queue)
          (owed_more rows flights f queue) (sound.letters queue) (λ posts. letter queue (posts_named queue (queue_at b inc instant) posts)));
    }
