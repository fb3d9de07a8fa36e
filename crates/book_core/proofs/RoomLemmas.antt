-- Parts that know the same stand for the same histories, and are sound where those were.
use Rattle.std.proofs.Common.{◌≡◌, ℕ, ◌≤◌, ◌+◌, List, suc, [], ◌∷◌, Bool, true, false, Option, Some, None, refl, ap, sym, subst, ◌∙◌, arith, length, cond}
use Rattle.std.specs.Prelude.{get_or}
use Rattle.std.specs.List.{filter}
use Rattle.plain_words.specs.declared.limits.TheConstants.{MOST_INCARNATIONS}
use Rattle.plain_words.proofs.Booleans.{by_bool}
use Rattle.sched_plain.specs.declared.row.Row.{Row}
use Rattle.sched_plain.specs.declared.holder.Holder.{Holder}
use Rattle.sched_plain.specs.History.{History}
use Rattle.sched_plain.specs.Tokens.{Kept, kept_under}
use Rattle.policy_rules.specs.Shards.{holder_at}
use Rattle.ledger_rows.specs.declared.row.Flight.{Flight}
use Rattle.ledger_rows.specs.Air.{live_in}
use Rattle.token_shelf.specs.Shelves.{Shelved, Keeps}
use Rattle.date_table.specs.Dates.{date_at}
use Rattle.dead_letters.specs.Piles.{room_in}
use Rattle.book_parts.specs.Contents.{HaveContents}
use Rattle.book_parts.specs.Sound.{IsSound, AreAloft, owed, may_post}
use Rattle.book_parts.specs.Stands.{Stands, calendar}
use Rattle.book_parts.specs.Told.{Told}
use Rattle.plain_words.proofs.ListLemmas.{when_none}
use Rattle.next_dates.proofs.Tables.{kind_holds}
use Rattle.sched_plain.specs.Legal.{MayFollow}
use Rattle.zone_occ.specs.ZoneBytes.{zone_of as zone_read}
use Rattle.std.proofs.lemmas.Bool.{not-false}
use Rattle.std.specs.Prelude.{OnOk, is_some, ◌&&◌}
use Rattle.std.proofs.Common.{Result, Ok, Err}
use Rattle.plain_words.specs.declared.moment.Moment.{Moment}
use Rattle.sched_plain.specs.declared.step.Step.{Step}
use Rattle.sched_plain.specs.declared.step.Step.TheVariants as steps
use Rattle.sched_plain.specs.Queues.{queue_of}
use Rattle.sched_plain.specs.Rows.{content_at}
use Rattle.ledger_rows.specs.State.{State as LedgerState, IsSame}
use Rattle.sched_rows.specs.State.{State as RowsState}
use Rattle.dead_letters.specs.Piles.{Piles, letters_in}
use Rattle.date_table.specs.Tables.{Dated}
use Rattle.book_writes.specs.Keeping.{Keeper}
use Rattle.book_core.specs.Room.{IsLight, IsRoomier, HasKindRoom, HasRoom}

-- what the old parts stand for, the new ones do
pub onward : {old new : Told} → IsRoomier old new → (h : History) → Stands old h → Stands new h
onward r h st = record {
  legal = st.legal;
  moment = r.moment ∙ st.moment;
  steps = r.steps ∙ st.steps;
  swept = λ shard within. ap (λ all. get_or all shard None) r.swept ∙ st.swept shard within;
  holders = λ shard within. ap (λ (all : List Holder). holder_at all shard) r.holders ∙ st.holders shard within;
  zones = λ name. r.zones name ∙ st.zones name;
  rows = record { rows = r.rows ∙ st.rows.rows; groups = r.groups ∙ st.rows.groups; latest = r.latest ∙ st.rows.latest };
  ledger = record {
    told = record {
      filed = λ inc instant. r.ledger.told.filed inc instant ∙ st.ledger.told.filed inc instant;
      pairs = λ inc. r.ledger.told.pairs inc ∙ st.ledger.told.pairs inc;
      attempts = λ inc instant. r.ledger.told.attempts inc instant ∙ st.ledger.told.attempts inc instant;
    };
    air = r.ledger.air ∙ st.ledger.air;
  };
  shelf = λ token. r.shelf token ∙ st.shelf token;
  letters = λ queue. r.letters queue ∙ st.letters queue;
  next = λ inc. ap (λ all. date_at all inc) r.next ∙ st.next inc;
  finished = λ inc. ap (λ all. date_at all inc) r.finished ∙ st.finished inc;
}

-- and the other way round
pub back : {old new : Told} → IsRoomier old new → (h : History) → Stands new h → Stands old h
back r h st = record {
  legal = st.legal;
  moment = sym r.moment ∙ st.moment;
  steps = sym r.steps ∙ st.steps;
  swept = λ shard within. ap (λ all. get_or all shard None) (sym r.swept) ∙ st.swept shard within;
  holders = λ shard within. ap (λ (all : List Holder). holder_at all shard) (sym r.holders) ∙ st.holders shard within;
  zones = λ name. sym (r.zones name) ∙ st.zones name;
  rows = record { rows = sym r.rows ∙ st.rows.rows; groups = sym r.groups ∙ st.rows.groups; latest = sym r.latest ∙ st.rows.latest };
  ledger = record {
    told = record {
      filed = λ inc instant. sym (r.ledger.told.filed inc instant) ∙ st.ledger.told.filed inc instant;
      pairs = λ inc. sym (r.ledger.told.pairs inc) ∙ st.ledger.told.pairs inc;
      attempts = λ inc instant. sym (r.ledger.told.attempts inc instant) ∙ st.ledger.told.attempts inc instant;
    };
    air = sym r.ledger.air ∙ st.ledger.air;
  };
  shelf = λ token. sym (r.shelf token) ∙ st.shelf token;
  letters = λ queue. sym (r.letters queue) ∙ st.letters queue;
  next = λ inc. ap (λ all. date_at all inc) (sym r.next) ∙ st.next inc;
  finished = λ inc. ap (λ all. date_at all inc) (sym r.finished) ∙ st.finished inc;
}

-- parts that know the same are sound
pub sound_kept : {old new : Told} → IsRoomier old new → IsSound old → IsSound new
sound_kept {old} {new} r s = record {
  contents = subst HaveContents (sym r.rows) s.contents;
  few = subst (λ (rows : List Row). length rows ≤ MOST_INCARNATIONS) (sym r.rows) s.few;
  scheduled = ap length r.next ∙ s.scheduled ∙ ap length (sym r.rows);
  completed = ap length r.finished ∙ s.completed ∙ ap length (sym r.rows);
  shards = ap length r.swept ∙ s.shards;
  latest = let l = s.latest in let a = r.latest in let m = r.moment in omega (arith, l, a, m);
  early = let e = s.early in let m = r.moment in omega (arith, e, m);
  aloft = subst (λ (rows : List Row). AreAloft (length rows) new.moment new.ledger.flights) (sym r.rows)
      (subst (λ (n : ℕ). AreAloft (length old.rows.rows) n new.ledger.flights) (sym r.moment)
      (subst (AreAloft (length old.rows.rows) old.moment) (sym r.ledger.air) s.aloft));
  letters = λ queue. subst (λ (rows : List Row). owed rows new.ledger.flights queue ≤ room_in new.letters queue) (sym r.rows)
      (subst (λ (flights : List Flight). owed old.rows.rows flights queue ≤ room_in new.letters queue) (sym r.ledger.air)
      (let l = s.letters queue in let more = r.room queue in omega (arith, l, more)));
}

-- no attempt owes more than one letter
pub owed_few : (rows : List Row) (queue : List ℕ) (flights : List Flight) → owed rows flights queue ≤ length flights
owed_few rows queue [] = omega arith
owed_few rows queue (flight ∷ more) =
    let few = owed_few rows queue more in
    by_bool (λ b. length (cond b (flight ∷ filter (may_post rows queue) more) (filter (may_post rows queue) more)) ≤ suc (length more)) (may_post rows queue flight)
    (λ owes. omega (arith, few)) (λ passes. omega (arith, few))

-- of all shards, each attempt in the air is counted
pub all_live : (flights : List Flight) → live_in None flights ≡ length flights
all_live [] = refl
all_live (flight ∷ more) = ap suc (all_live more)

-- a shelf that keeps what another one did
pub shelf_keeps : (old new : Shelved) → ((kept : List Kept) → Keeps old kept → Keeps new kept)
    → (token : List ℕ) → kept_under new.kept token ≡ kept_under old.kept token
shelf_keeps old new keeps = keeps old.kept (λ token. refl)

-- the same parts with another ledger and other letters that know the same
pub ledger_roomier : (b : Told) (ledger : LedgerState) (letters : Piles) → IsSame b.ledger ledger
    → ((queue : List ℕ) → letters_in letters queue ≡ letters_in b.letters queue)
    → ((queue : List ℕ) → room_in b.letters queue ≤ room_in letters queue)
    → IsRoomier b (record b { ledger = ledger; letters = letters })
ledger_roomier b ledger letters same told more = record {
  moment = refl;
  steps = refl;
  swept = refl;
  holders = refl;
  zones = λ name. refl;
  rows = refl;
  groups = refl;
  latest = refl;
  ledger = same;
  shelf = λ token. refl;
  letters = told;
  room = more;
  next = refl;
  finished = refl;
}

-- a ledger is the same as it is
pub same_ledger : (ledger : LedgerState) → IsSame ledger ledger
same_ledger ledger = record {
  told = record { filed = λ inc instant. refl; pairs = λ inc. refl; attempts = λ inc instant. refl };
  air = refl;
}

-- the same parts with rows, tokens and dates that know the same
pub rows_roomier : (b : Told) (rows : RowsState) (shelf : Shelved) (next finished : Dated) → rows.rows ≡ b.rows.rows → rows.groups ≡ b.rows.groups
    → rows.latest ≡ b.rows.latest → ((token : List ℕ) → kept_under shelf.kept token ≡ kept_under b.shelf.kept token)
    → next.dates ≡ b.next.dates → finished.dates ≡ b.finished.dates
    → IsRoomier b (record b { rows = rows; shelf = shelf; next = next; finished = finished })
rows_roomier b rows shelf next finished same groups latest kept coming ending = record {
  moment = refl;
  steps = refl;
  swept = refl;
  holders = refl;
  zones = λ name. refl;
  rows = same;
  groups = groups;
  latest = latest;
  ledger = same_ledger b.ledger;
  shelf = kept;
  letters = λ queue. refl;
  room = λ queue. omega arith;
  next = coming;
  finished = ending;
}

-- room for one letter more than there are attempts is room for the letter of one more
pub letter_fits : (rows : List Row) (flights : List Flight) (letters : Piles) (inc instant live : ℕ) → live ≡ length flights
    → ((queue : List ℕ) → queue_of (content_at rows inc instant) ≡ Some queue → live + 1 ≤ room_in letters queue)
    → (queue : List ℕ) → queue_of (content_at rows inc instant) ≡ Some queue → owed rows flights queue + 1 ≤ room_in letters queue
letter_fits rows flights letters inc instant live counted fits queue named =
    let few = owed_few rows queue flights in let room = fits queue named in omega (arith, few, room, counted)

-- parts that are the same
pub along : {b old : Told} (new : Told) → b ≡ old → IsRoomier b new → IsRoomier old new
along new same roomier = subst (λ (o : Told). IsRoomier o new) same roomier

pub on_both : {A E : Type 0} (r : Result A E) (P Q R : Type 0) → (P → Q → R) → OnOk r P → OnOk r Q → OnOk r R
on_both (Ok x) P Q R f p q = f p q
on_both (Err e) P Q R f p q = tt

-- room for what a kind of step adds is room for the step
pub room_counted : (b : Told) (spare : Option Keeper) (s : Step) → IsLight b → HasKindRoom b spare s → HasRoom b spare s
room_counted b spare (steps.Boot at) light room = (light, room)
room_counted b spare (steps.Zone at name bytes) light room = (light, room)
room_counted b spare (steps.Change at write) light room = (light, room)
room_counted b spare (steps.Enter at inc pairs) light room = (light, room)
room_counted b spare (steps.Lease at shard worker epoch until) light room = (light, room)
room_counted b spare (steps.Release at shard worker epoch) light room = (light, room)
room_counted b spare (steps.Begin at inc instant number epoch) light room = (light, room)
room_counted b spare (steps.End at inc instant number verdict status) light room = tt
room_counted b spare (steps.Close at inc instant reason) light room = (light, room)
room_counted b spare (steps.Complete at inc) light room = (light, room)
room_counted b spare (steps.Swept at shard) light room = (light, room)

both_first : (a b : Bool) → (a && b) ≡ true → a ≡ true
both_first true b e = refl
both_first false b e = let clash : ⊥ = cc e in absurd clash

-- the bytes of a Zone that may follow are a zone
pub zone_is_read : (h : History) (at : Moment) (name bytes : List ℕ) → MayFollow calendar h (steps.Zone at name bytes) → is_some (zone_read bytes) ≡ true
zone_is_read h at name bytes may =
    both_first (is_some (zone_read bytes)) _ (not-false _ (when_none _ _ (kind_holds calendar h (steps.Zone at name bytes) may).1.0))
