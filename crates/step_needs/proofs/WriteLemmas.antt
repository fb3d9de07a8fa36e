-- What a Change finds, and what room adds to it.
use Rattle.std.proofs.Common.{◌≡◌, ℕ, nat_le, Bool, true, false, not, ◌&&◌, ◌||◌, Option, Some, None, is_some, is_none, List, [], ◌∷◌, length, option_map, refl, ap₂, ap, ◌∙◌}
use Rattle.std.specs.Option.{option_and_then}
use Rattle.std.proofs.lemmas.Bool.{leb-false}
use Rattle.plain_words.specs.declared.limits.TheConstants.{MOST_INCARNATIONS, MOST_SCHEDULES}
use Rattle.plain_words.specs.Lists.{when}
use Rattle.plain_words.proofs.ListLemmas.{all_none, when_none}
use Rattle.plain_words.proofs.Options.{map_none}
use Rattle.sched_plain.specs.declared.row.GroupRow.{GroupRow}
use Rattle.sched_plain.specs.declared.row.Row.{Row}
use Rattle.sched_plain.specs.declared.step.Step.TheVariants as steps
use Rattle.sched_plain.specs.declared.why.RowFault.TheVariants as faults
use Rattle.sched_plain.specs.declared.why.Why.TheVariants as whys
use Rattle.sched_plain.specs.declared.write.Write.{Write}
use Rattle.sched_plain.specs.declared.write.Write.TheVariants as writes
use Rattle.sched_plain.specs.Changes.{changes_of}
use Rattle.sched_plain.specs.Groups.{groups_of, has_group, living_count, row_fault}
use Rattle.sched_plain.specs.Rows.{living, rows_of}
use Rattle.sched_plain.specs.Rules.{is_zone_unknown, zone_of}
use Rattle.sched_plain.specs.Seen.{ZonesSeen, seen}
use Rattle.sched_plain.specs.Tokens.{Kept, kept_of, kept_place, kept_under, token_of}
use Rattle.sched_plain.specs.Zones.{is_utc}
use Rattle.token_shelf.specs.Shelves.{Keeps, Shelved}
use Rattle.zone_shelf.specs.Places.{Places, bytes_in}
use Rattle.next_dates.proofs.Tables.{kind_holds}
use Rattle.book_parts.specs.Stands.{calendar}
use Rattle.book_writes.specs.Keeping.{Keeper}
use Rattle.book_writes.specs.Redating.{HasZone}
use Rattle.step_needs.specs.Writes.{AreFew, ChangesFind, DatesFit, IsTokenNew, TokensFit}
use Rattle.step_needs.proofs.MomentLemmas.{is_forward}

known_in : (utc : Bool) (ours theirs : Option (List ℕ)) → ours ≡ theirs → (not utc && is_none theirs) ≡ false → (utc || is_some ours) ≡ true
known_in true ours theirs same e = refl
known_in false ours None same e = let clash : ⊥ = cc e in absurd clash
known_in false ours (Some bytes) same e = ap is_some same

-- a zone that the rules know is known to the parts
zone_known : (zones : Places) (theirs : ZonesSeen) (write : Write) → ((name : List ℕ) → bytes_in zones name ≡ theirs.bytes name)
    → is_zone_unknown theirs (zone_of write) ≡ false → HasZone zones write
zone_known zones theirs (writes.CreateSchedule group name token content) same e =
    known_in (is_utc content.zone) (bytes_in zones content.zone) (theirs.bytes content.zone) (same content.zone) e
zone_known zones theirs (writes.UpdateSchedule group name token content) same e =
    known_in (is_utc content.zone) (bytes_in zones content.zone) (theirs.bytes content.zone) (same content.zone) e
zone_known zones theirs (writes.DeleteSchedule group name token) same e = tt
zone_known zones theirs (writes.CreateGroup name token) same e = tt
zone_known zones theirs (writes.DeleteGroup name token) same e = tt

-- a token that no write of a history kept is new to its shelf
token_new : (shelf : Shelved) (kept : List Kept) (write : Write) (token : Option (List ℕ)) → Keeps shelf kept
    → option_and_then (λ t. option_map {T = Kept} (λ k. k.place) (kept_under kept t)) token ≡ None
    → IsTokenNew shelf (option_map {U = Keeper} (λ t. (t, write)) token)
token_new shelf kept write None keeps e = tt
token_new shelf kept write (Some token) keeps e = keeps token ∙ map_none _ (kept_under kept token) e

-- a creation that is allowed finds fewer incarnations than there may be
few : (write : Write) (rows : List Row) (groups : List GroupRow) → row_fault rows groups write ≡ None → AreFew write (length rows)
few (writes.CreateSchedule group name token content) rows groups e =
    leb-false MOST_INCARNATIONS (length rows)
    (when_none (nat_le MOST_INCARNATIONS (length rows)) _
    (all_none (
    when (not (has_group groups group)) faults.NoGroup
    ∷ when (is_some (living rows group name)) faults.Exists
    ∷ when (nat_le MOST_SCHEDULES (living_count rows)) (faults.TooMany (living_count rows))
    ∷ when (nat_le MOST_INCARNATIONS (length rows)) (faults.TooMany (length rows))
    ∷ []) e).1.1.1.0)
few (writes.UpdateSchedule group name token content) rows groups e = tt
few (writes.DeleteSchedule group name token) rows groups e = tt
few (writes.CreateGroup name token) rows groups e = tt
few (writes.DeleteGroup name token) rows groups e = tt

pub changes_find : ChangesFind
changes_find b h at write st valid may =
    let s = steps.Change at write in
    let all = kind_holds calendar h s may in
    let zones = (seen calendar h).zones in
    let allowed : row_fault b.rows.rows b.rows.groups write ≡ None =
    ap₂ (λ rows groups. row_fault rows groups write) st.rows.rows st.rows.groups
    ∙ map_none whys.Row (row_fault (rows_of (changes_of h)) (groups_of (changes_of h)) write) all.1.0 in
    record {
      valid = valid.1;
      moment = is_forward b h s st may;
      last = valid.0;
      allowed = allowed;
      known = zone_known b.zones zones write st.zones (when_none (is_zone_unknown zones (zone_of write)) _ all.0);
      token = token_new b.shelf (kept_of h) write (token_of write) st.shelf
          (map_none whys.TokenKept (option_and_then (kept_place h) (token_of write)) all.1.1.0);
      dates = few write b.rows.rows b.rows.groups allowed;
    }

pub tokens_fit : TokensFit
tokens_fit shelf None new place = tt
tokens_fit shelf (Some keeper) new place = (place, new)

pub dates_fit : DatesFit
dates_fit (writes.CreateSchedule group name token content) created next finished are places = (are, places.0, places.1)
dates_fit (writes.UpdateSchedule group name token content) created next finished are places = tt
dates_fit (writes.DeleteSchedule group name token) created next finished are places = tt
dates_fit (writes.CreateGroup name token) created next finished are places = tt
dates_fit (writes.DeleteGroup name token) created next finished are places = tt
