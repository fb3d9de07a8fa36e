-- Only a living schedule has a next instant, and the zone of its content is known.
use Rattle.std.proofs.Common.{◌≡◌, ℕ, ◌+◌, ◌==◌, nat_le, nat_lt, Bool, true, false, not, cond, ◌&&◌, ◌||◌, Option, Some, None, is_some, List, [], ◌∷◌, ◌++◌, unwrap_or, option_map, refl, sym, ap, ap₂, ◌∙◌, inl, inr}
use Rattle.std.specs.Option.{option_and_then}
use Rattle.std.proofs.lemmas.Bool.{cases_eq, ne_eqb, not-false, true≢false}
use Rattle.plain_words.specs.declared.moment.Moment.{Moment}
use Rattle.sched_plain.specs.declared.row.Revision.{Revision}
use Rattle.sched_plain.specs.declared.row.Row.{Row}
use Rattle.sched_plain.specs.declared.schedule.Schedule.{Schedule}
use Rattle.sched_plain.specs.declared.step.Pair.{Pair}
use Rattle.sched_plain.specs.declared.step.Step.{Step}
use Rattle.sched_plain.specs.declared.step.Step.TheVariants as steps
use Rattle.sched_plain.specs.declared.write.Write.{Write}
use Rattle.sched_plain.specs.declared.write.Write.TheVariants as writes
use Rattle.plain_words.specs.Lists.{last, nth, some_pass}
use Rattle.plain_words.proofs.Booleans.{and_false, by_bool}
use Rattle.plain_words.proofs.ListLemmas.{when_none}
use Rattle.plain_words.proofs.Options.{map_none}
use Rattle.expressions.specs.Calendar.{Calendar}
use Rattle.sched_plain.specs.History.{History, beginning, based, ◌upon◌}
use Rattle.sched_plain.specs.Changes.{changes_of}
use Rattle.sched_plain.specs.Rows.{Deed, Nothing, Renews, Ends, touches, deed_of, cut_at, revision_from, done_to, removed_at, rows_of, current_of, current}
use Rattle.sched_plain.specs.Zones.{is_utc, bytes_of}
use Rattle.sched_plain.specs.Ledger.{ledger_of}
use Rattle.sched_plain.specs.Entries.{entries, instants_of, undecided}
use Rattle.sched_plain.specs.Marks.{unentered}
use Rattle.sched_plain.specs.Seen.{seen}
use Rattle.sched_plain.specs.Work.{completable}
use Rattle.sched_plain.specs.Rules.{first_astray}
use Rattle.sched_plain.specs.Legal.{IsLegal, MayFollow}
use Rattle.next_dates.specs.Dates.{has_come}
use Rattle.next_dates.specs.NextInstants.{next_instant, is_next, creates, is_touched, changes_next}
use Rattle.next_dates.proofs.LastItems.{last_push}
use Rattle.next_dates.proofs.Tables.{kind_holds}
use Rattle.next_dates.proofs.NextComing.{next_found, nothing_to_come}
use Rattle.next_dates.proofs.Contents.{changed_elsewhere, edit, current_in}
use Rattle.next_dates.proofs.NextSteps.{next_stays, next_ended}
use Rattle.work_order.specs.Finished.{finished_with}
use Rattle.work_order.specs.LivingLaws.{OnlyLivingAct, ZonesAreKnown}
use Rattle.work_order.proofs.Completed.{completes}
use Rattle.work_order.proofs.RowSteps.{row_after, row_born, renewed_lives}

pub zones_are_known : ZonesAreKnown
zones_are_known c h legal inc content is = by_row (nth (rows_of (changes_of h)) inc) refl is
  where
    by_row : (row : Option Row) → nth (rows_of (changes_of h)) inc ≡ row → option_and_then current_of row ≡ Some content
        → (is_utc content.zone || is_some (bytes_of h content.zone)) ≡ true
    by_row None there is = cc is
    by_row (Some row) there is = (current_in c h legal inc row content there is).known

-- a step that leaves the next instant
kept : (c : Calendar) (h : History) (s : Step) → IsLegal c h → MayFollow c h s → (inc : ℕ) → changes_next h s inc ≡ false
    → next_instant c h inc ≡ None → next_instant c (s upon h) inc ≡ None
kept c h s legal may inc same none = next_stays c h s legal may inc same ∙ none

-- an Enter of an incarnation with nothing to come has no pairs
no_pairs : (pairs : List Pair) → first_astray pairs [] ≡ None → pairs ≡ []
no_pairs [] e = refl
no_pairs (pair ∷ pairs) e = let clash : ⊥ = cc in absurd clash

enters_nothing : (c : Calendar) (h : History) (at : Moment) (of : ℕ) (pairs : List Pair) → IsLegal c h → MayFollow c h (steps.Enter at of pairs)
    → (inc : ℕ) → next_instant c h inc ≡ None → changes_next h (steps.Enter at of pairs) inc ≡ false
enters_nothing c h at of pairs legal may inc none =
    elim (cases_eq inc of) [
      | inl same ↦
          let rest : unentered c h of at.0 ≡ [] = nothing_to_come c h legal of at.0 (ap (next_instant c h) (sym same) ∙ none) in
          let astray : first_astray pairs (unentered c h of at.0) ≡ None =
          map_none _ (first_astray pairs (unentered c h of at.0)) (kind_holds c h (steps.Enter at of pairs) may).0 in
          let empty : pairs ≡ [] = no_pairs pairs (sym (ap (first_astray pairs) rest) ∙ astray) in
          ap (λ (all : List Pair). inc == of && is_some {T = Pair} (last all)) empty ∙ and_false (inc == of)
      | inr apart ↦ ap (λ b. b && is_some {T = Pair} (last pairs)) (ne_eqb inc of apart)
    ]

-- what a write creates lives
born_lives : (h : History) (at : Moment) (write : Write) (inc : ℕ) → current (rows_of (changes_of (steps.Change at write upon h))) inc ≡ None
    → (is_next h inc && creates write) ≡ false
born_lives h at (writes.CreateSchedule group name token content) inc is =
    by_bool (λ b. (b && true) ≡ false) (is_next h inc)
    (λ new.
    let there : current (rows_of (changes_of (steps.Change at (writes.CreateSchedule group name token content) upon h))) inc ≡ Some content =
    ap (option_and_then current_of) (row_born at.0 group name token content (rows_of (changes_of h)) inc new) in
    let clash : Some content ≡ None = sym there ∙ is in cc)
    (λ old. refl)
born_lives h at (writes.UpdateSchedule group name token content) inc is = and_false (is_next h inc)
born_lives h at (writes.DeleteSchedule group name token) inc is = and_false (is_next h inc)
born_lives h at (writes.CreateGroup name token) inc is = and_false (is_next h inc)
born_lives h at (writes.DeleteGroup name token) inc is = and_false (is_next h inc)

-- who is given a content has it
renewed_some : (lives : Bool) (revisions : List Revision) (from : ℕ) (content : Schedule) → lives ≡ true
    → cond lives (option_map {T = Revision} (λ r. r.content) (last (revisions ++ revision_from from content ∷ []))) None ≡ None → ⊥
renewed_some true revisions from content e is =
    let there : Some content ≡ None = sym (ap (option_map {T = Revision} (λ r. r.content)) (last_push revisions (revision_from from content))) ∙ is in
    cc
renewed_some false revisions from content e is = cc e

change_acts : (c : Calendar) (h : History) (at : Moment) (write : Write) → IsLegal c h → MayFollow c h (steps.Change at write) → (inc : ℕ)
    → (current (rows_of (changes_of h)) inc ≡ None → next_instant c h inc ≡ None)
    → current (rows_of (changes_of (steps.Change at write upon h))) inc ≡ None → next_instant c (steps.Change at write upon h) inc ≡ None
change_acts c h at write legal may inc before is = by_row (nth rows inc) refl
  where
    rows : List Row
    rows = rows_of (changes_of h)

    unborn : (is_next h inc && creates write) ≡ false
    unborn = born_lives h at write inc is

    untouched : is_touched h write inc ≡ false → current rows inc ≡ None → next_instant c (steps.Change at write upon h) inc ≡ None
    untouched same none = kept c h (steps.Change at write) legal may inc (ap₂ (λ a b. a || b) unborn same) (before none)

    edited : (row : Row) → nth rows inc ≡ Some row → current_of (edit at.0 write row) ≡ None
    edited row there =
        sym (ap (option_and_then current_of) (row_after at.0 write rows inc unborn ∙ ap (option_map (edit at.0 write)) there)) ∙ is

    by_deed : (row : Row) → nth rows inc ≡ Some row → (deed : Deed) → deed_of write row ≡ deed → current_of (done_to at.0 deed row) ≡ None
        → next_instant c (steps.Change at write upon h) inc ≡ None
    by_deed row there Nothing deed none =
        untouched (ap (some_pass (λ r. touches (deed_of write r))) there ∙ ap touches deed) (ap (option_and_then current_of) there ∙ none)
    by_deed row there (Renews content) deed none =
        absurd (renewed_some row.lives (cut_at at.0 row.revisions) (at.0 + 1) content (renewed_lives write row content deed) none)
    by_deed row there Ends deed none = next_ended c h at write legal may inc row there deed

    by_row : (row : Option Row) → nth rows inc ≡ row → next_instant c (steps.Change at write upon h) inc ≡ None
    by_row None there = untouched (ap (some_pass (λ r. touches (deed_of write r))) there) (ap (option_and_then current_of) there)
    by_row (Some row) there = by_deed row there (deed_of write row) refl (edited row there)

-- what is finished has nothing to come
finished_next : (content : Option Schedule) (next : Option ℕ) (waits : Bool) (entered : Option ℕ) (t : ℕ)
    → has_come t (finished_with content next waits entered) ≡ true → next ≡ None
finished_next None next waits entered t e = cc e
finished_next (Some content) None waits entered t e = refl
finished_next (Some content) (Some n) waits entered t e =
    let open_yet : (content.enabled && content.delete_after && false && not waits) ≡ false =
    ap (λ b. b && not waits) (and_false (content.enabled && content.delete_after)) in
    absurd (true≢false (sym e ∙ ap (λ b. has_come t (cond b (Some (unwrap_or entered 0)) None)) open_yet))

-- so nothing is to come of what is completed
complete_next : (c : Calendar) (h : History) (at : Moment) (removed : ℕ) → IsLegal c h → MayFollow c h (steps.Complete at removed)
    → next_instant c h removed ≡ None
complete_next c h at removed legal may =
    let ready : completable (seen c h) removed at.0 ≡ true =
    not-false (completable (seen c h) removed at.0)
    (when_none (not (completable (seen c h) removed at.0)) _ (kind_holds c h (steps.Complete at removed) may).0) in
    finished_next (current (rows_of (changes_of h)) removed) (next_instant c h removed) (nat_lt 0 (undecided (ledger_of h) removed))
    (last (instants_of (entries (ledger_of h) removed))) at.0 (sym (completes c h legal removed at.0) ∙ ready)

complete_acts : (c : Calendar) (h : History) (at : Moment) (removed : ℕ) → IsLegal c h → MayFollow c h (steps.Complete at removed) → (inc : ℕ)
    → (current (rows_of (changes_of h)) inc ≡ None → next_instant c h inc ≡ None)
    → current (rows_of (changes_of (steps.Complete at removed upon h))) inc ≡ None → next_instant c (steps.Complete at removed upon h) inc ≡ None
complete_acts c h at removed legal may inc before is =
    kept c h (steps.Complete at removed) legal may inc refl
    (elim (cases_eq inc removed) [
      | inl same ↦ ap (next_instant c h) same ∙ complete_next c h at removed legal may
      | inr apart ↦
          before (ap (option_and_then current_of) (sym (changed_elsewhere (removed_at at.0) (rows_of (changes_of h)) removed inc apart)) ∙ is)
    ])

pub only_living_act : OnlyLivingAct
only_living_act c beginning legal inc is = next_found c beginning legal inc None (λ i. and_false (nat_le 0 i))
only_living_act c (based b kept) legal inc is = absurd legal
only_living_act c (steps.Change at write upon h) legal inc is =
    change_acts c h at write legal.0 legal.1 inc (only_living_act c h legal.0 inc) is
only_living_act c (steps.Complete at removed upon h) legal inc is =
    complete_acts c h at removed legal.0 legal.1 inc (only_living_act c h legal.0 inc) is
only_living_act c (steps.Enter at of pairs upon h) legal inc is =
    let none = only_living_act c h legal.0 inc is in
    kept c h (steps.Enter at of pairs) legal.0 legal.1 inc (enters_nothing c h at of pairs legal.0 legal.1 inc none) none
only_living_act c (steps.Boot at upon h) legal inc is = kept c h (steps.Boot at) legal.0 legal.1 inc refl (only_living_act c h legal.0 inc is)
only_living_act c (steps.Zone at name bytes upon h) legal inc is =
    kept c h (steps.Zone at name bytes) legal.0 legal.1 inc refl (only_living_act c h legal.0 inc is)
only_living_act c (steps.Lease at shard worker epoch until upon h) legal inc is =
    kept c h (steps.Lease at shard worker epoch until) legal.0 legal.1 inc refl (only_living_act c h legal.0 inc is)
only_living_act c (steps.Release at shard worker epoch upon h) legal inc is =
    kept c h (steps.Release at shard worker epoch) legal.0 legal.1 inc refl (only_living_act c h legal.0 inc is)
only_living_act c (steps.Begin at of instant number epoch upon h) legal inc is =
    kept c h (steps.Begin at of instant number epoch) legal.0 legal.1 inc refl (only_living_act c h legal.0 inc is)
only_living_act c (steps.End at of instant number verdict status upon h) legal inc is =
    kept c h (steps.End at of instant number verdict status) legal.0 legal.1 inc refl (only_living_act c h legal.0 inc is)
only_living_act c (steps.Close at of instant reason upon h) legal inc is =
    kept c h (steps.Close at of instant reason) legal.0 legal.1 inc refl (only_living_act c h legal.0 inc is)
only_living_act c (steps.Swept at shard upon h) legal inc is =
    kept c h (steps.Swept at shard) legal.0 legal.1 inc refl (only_living_act c h legal.0 inc is)
