-- The last item of a living schedule is that of its current content.
use Rattle.std.proofs.Common.{◌≡◌, ℕ, ◌+◌, ◌-◌, ◌≤◌, ◌==◌, Bool, true, false, cond, not, ◌&&◌, ◌||◌, Option, Some, None, is_some, is_none, List, [], ◌∷◌, ◌++◌, map, length, refl, sym, ap, ◌∙◌, subst, inl, inr, arith, le_refl, le_trans, append-nil, zero, suc, true≢false}
use Rattle.std.specs.Option.{option_map}
use Rattle.std.proofs.lemmas.Bool.{cases_eq, eq-eqb, ne_eqb}
use Rattle.std.proofs.lemmas.List.{length-map}
use Rattle.std.proofs.lemmas.Slice.Eq.{bytes_eq-Decides}
use Rattle.plain_words.specs.declared.moment.Moment.{Moment}
use Rattle.sched_plain.specs.declared.row.Revision.{Revision}
use Rattle.sched_plain.specs.declared.row.Row.{Row}
use Rattle.sched_plain.specs.declared.schedule.Schedule.{Schedule}
use Rattle.sched_plain.specs.declared.step.Pair.{Pair}
use Rattle.sched_plain.specs.declared.step.Step.TheVariants as steps
use Rattle.sched_plain.specs.declared.write.Write.{Write}
use Rattle.sched_plain.specs.declared.write.Write.TheVariants as writes
use Rattle.plain_words.specs.Ids.{shard_of}
use Rattle.plain_words.specs.Lists.{last, nth, change_nth}
use Rattle.plain_words.specs.Moments.{moment_of}
use Rattle.plain_words.proofs.ListLemmas.{nth_first, nth_rest, nth_snoc, nth_map, nth_past, when_none}
use Rattle.plain_words.proofs.Options.{some_same}
use Rattle.expressions.specs.Calendar.{Calendar}
use Rattle.sched_plain.specs.History.{History, beginning, based, ◌upon◌}
use Rattle.sched_plain.specs.Changes.{changes_of, Written, Removed}
use Rattle.sched_plain.specs.Rows.{Deed, Nothing, Renews, Ends, touches, same_text, renews_if, ends_if, is_at, is_in, deed_of, cut_at, revision_from, done_to, removed_at, born, rows_after, rows_of, current_of}
use Rattle.sched_plain.specs.Zones.{is_utc, bytes_of, read_under}
use Rattle.sched_plain.specs.Items.{Item, cut_item, opened, items}
use Rattle.sched_plain.specs.Marks.{cover}
use Rattle.sched_plain.specs.Seen.{seen}
use Rattle.sched_plain.specs.Rules.{zone_of, is_zone_unknown}
use Rattle.sched_plain.specs.Legal.{IsLegal, MayFollow}
use Rattle.next_dates.specs.NextLaws.{IsOfContent, CurrentIsLast}
use Rattle.next_dates.proofs.LastItems.{last_push}
use Rattle.next_dates.proofs.Tables.{kind_holds}
use Rattle.next_dates.proofs.ItemSteps.{not_next, items_of_new, cover_of_new, cover_of_old, items_of_zone, zone_new, entered_grows, chosen_grows, written_grows}
use Rattle.next_dates.proofs.NextSteps.{touched_cover, touched_items}

-- ---- rows after a change

pub changed_here : {A : Type 0} (f : A → A) (xs : List A) (place : ℕ) → nth (change_nth f xs place) place ≡ option_map f (nth xs place)
changed_here f [] place = refl
changed_here {A} f (x ∷ xs) place =
    elim (cases_eq place 1) [
      | inl first ↦
          ap (λ b. nth (cond b (f x ∷ xs) (x ∷ change_nth f xs (place - 1))) place) (eq-eqb place 1 first)
          ∙ nth_first (f x) xs place first ∙ ap (option_map f) (sym (nth_first x xs place first))
      | inr apart ↦
          ap (λ b. nth (cond b (f x ∷ xs) (x ∷ change_nth f xs (place - 1))) place) (ne_eqb place 1 apart)
          ∙ nth_rest x (change_nth f xs (place - 1)) place apart ∙ changed_here f xs (place - 1)
          ∙ ap (option_map f) (sym (nth_rest x xs place apart))
    ]

behind : (at place : ℕ) → (at ≡ 1 → ⊥) → (place ≡ 1 → ⊥) → (place ≡ at → ⊥) → place - 1 ≡ at - 1 → ⊥
behind zero zero later apart ne same = ne refl
behind zero (suc place) later apart ne same = apart (omega arith)
behind (suc at) zero later apart ne same = later (omega arith)
behind (suc at) (suc place) later apart ne same = ne (omega arith)

changed_behind : {A : Type 0} (f : A → A) (x : A) (xs : List A) (at place : ℕ) → (at ≡ 1 → ⊥) → (place ≡ at → ⊥)
    → ((place - 1 ≡ at - 1 → ⊥) → nth (change_nth f xs (at - 1)) (place - 1) ≡ nth xs (place - 1))
    → nth (x ∷ change_nth f xs (at - 1)) place ≡ nth (x ∷ xs) place
changed_behind f x xs at place later ne rest =
    elim (cases_eq place 1) [
      | inl first ↦ nth_first x (change_nth f xs (at - 1)) place first ∙ sym (nth_first x xs place first)
      | inr apart ↦
          nth_rest x (change_nth f xs (at - 1)) place apart
          ∙ rest (λ same. behind at place later apart ne same)
          ∙ sym (nth_rest x xs place apart)
    ]

pub changed_elsewhere : {A : Type 0} (f : A → A) (xs : List A) (at place : ℕ) → (place ≡ at → ⊥) → nth (change_nth f xs at) place ≡ nth xs place
changed_elsewhere f [] at place ne = refl
changed_elsewhere f (x ∷ xs) at place ne =
    elim (cases_eq at 1) [
      | inl first ↦
          let apart : place ≡ 1 → ⊥ = λ e. ne (e ∙ sym first) in
          ap (λ b. nth (cond b (f x ∷ xs) (x ∷ change_nth f xs (at - 1))) place) (eq-eqb at 1 first)
          ∙ nth_rest (f x) xs place apart ∙ sym (nth_rest x xs place apart)
      | inr later ↦
          ap (λ b. nth (cond b (f x ∷ xs) (x ∷ change_nth f xs (at - 1))) place) (ne_eqb at 1 later)
          ∙ changed_behind f x xs at place later ne (λ lower. changed_elsewhere f xs (at - 1) (place - 1) lower)
    ]

-- the row that a write leaves of one that was there
abbrev pub edit : ℕ → Write → Row → Row
edit at write row = done_to at (deed_of write row) row

-- the row of a new schedule
abbrev pub row_made : ℕ → List ℕ → List ℕ → Schedule → Row
row_made at group name content =
    record { group = group; name = name; created = moment_of at; changed = moment_of at; lives = true; revisions = revision_from at content ∷ [] }

row_of_old : (rows : List Row) (at : ℕ) (write : Write) (inc : ℕ) → (inc ≡ length rows + 1 → ⊥)
    → nth (rows_after (Written at write) rows) inc ≡ option_map (edit at write) (nth rows inc)
row_of_old rows at (writes.CreateSchedule group name token content) inc old =
    let write : Write = writes.CreateSchedule group name token content in
    let long : length (map (edit at write) rows) ≡ length rows = length-map rows (edit at write) in
    let other : inc ≡ length (map (edit at write) rows) + 1 → ⊥ = λ e. old (e ∙ ap (λ n. n + 1) long) in
    nth_snoc (map (edit at write) rows) (row_made at group name content) inc
    ∙ ap (λ b. cond b (Some (row_made at group name content)) (nth (map (edit at write) rows) inc)) (ne_eqb inc (length (map (edit at write) rows) + 1) other)
    ∙ nth_map (edit at write) rows inc
row_of_old rows at (writes.UpdateSchedule group name token content) inc old =
    let write : Write = writes.UpdateSchedule group name token content in
    ap (λ xs. nth xs inc) (append-nil (map (edit at write) rows)) ∙ nth_map (edit at write) rows inc
row_of_old rows at (writes.DeleteSchedule group name token) inc old =
    let write : Write = writes.DeleteSchedule group name token in
    ap (λ xs. nth xs inc) (append-nil (map (edit at write) rows)) ∙ nth_map (edit at write) rows inc
row_of_old rows at (writes.CreateGroup name token) inc old =
    let write : Write = writes.CreateGroup name token in
    ap (λ xs. nth xs inc) (append-nil (map (edit at write) rows)) ∙ nth_map (edit at write) rows inc
row_of_old rows at (writes.DeleteGroup name token) inc old =
    let write : Write = writes.DeleteGroup name token in
    ap (λ xs. nth xs inc) (append-nil (map (edit at write) rows)) ∙ nth_map (edit at write) rows inc

pushed_there : (xs : List Row) (x : Row) (place : ℕ) → place ≡ length xs + 1 → nth (xs ++ x ∷ []) place ≡ Some x
pushed_there xs x place e = nth_snoc xs x place ∙ ap (λ b. cond b (Some x) (nth xs place)) (eq-eqb place (length xs + 1) e)

pushed_none : (xs : List Row) (place : ℕ) → place ≡ length xs + 1 → nth (xs ++ []) place ≡ None
pushed_none xs place e = ap (λ ys. nth ys place) (append-nil xs) ∙ nth_past xs place (omega arith)

-- ---- zones that are known

-- the zone has bytes, or is the one that is built in
abbrev pub is_known : History → List ℕ → Bool
is_known h zone = is_utc zone || is_some (bytes_of h zone)

known_or : (a : Bool) (o : Option (List ℕ)) → (not a && is_none o) ≡ false → (a || is_some o) ≡ true
known_or true o e = refl
known_or false None e = cc
known_or false (Some bytes) e = refl

zone_known : (c : Calendar) (h : History) (at : Moment) (write : Write) (zone : List ℕ) → MayFollow c h (steps.Change at write)
    → zone_of write ≡ Some zone → is_known h zone ≡ true
zone_known c h at write zone may is =
    let unknown : is_zone_unknown (seen c h).zones (zone_of write) ≡ false =
    when_none (is_zone_unknown (seen c h).zones (zone_of write)) _ (kind_holds c h (steps.Change at write) may).0 in
    known_or (is_utc zone) (bytes_of h zone) (sym (ap (is_zone_unknown (seen c h).zones) is) ∙ unknown)

renews_content : (b : Bool) (content other : Schedule) → renews_if b content ≡ Renews other → content ≡ other
renews_content true content other e = cc
renews_content false content other e = cc

ends_no_content : (b : Bool) (other : Schedule) → ends_if b ≡ Renews other → ⊥
ends_no_content true other e = cc
ends_no_content false other e = cc

renewed_zone : (write : Write) (row : Row) (content : Schedule) → deed_of write row ≡ Renews content → zone_of write ≡ Some content.zone
renewed_zone (writes.CreateSchedule group name token given) row content e = cc
renewed_zone (writes.UpdateSchedule group name token given) row content e =
    ap (λ (k : Schedule). Some k.zone) (renews_content (is_at group name row) given content e)
renewed_zone (writes.DeleteSchedule group name token) row content e = absurd (ends_no_content (is_at group name row) content e)
renewed_zone (writes.CreateGroup name token) row content e = cc
renewed_zone (writes.DeleteGroup name token) row content e = absurd (ends_no_content (is_in name row) content e)

-- ---- the induction

-- the zone of the current content is known, and its item is the last
pub record IsCurrent (h : History) (inc : ℕ) (row : Row) (content : Schedule) : Type 0 where
  pub known : is_known h content.zone ≡ true
  pub shown : IsOfContent h inc row content

-- it stays where the items, the zone's bytes and the row do
stays : (h new : History) (inc : ℕ) (row : Row) (content : Schedule) → IsCurrent h inc row content → is_known new content.zone ≡ true
    → cover h inc ≤ cover new inc → items new inc ≡ items h inc → read_under new content.zone ≡ read_under h content.zone → IsCurrent new inc row content
stays h new inc row content old known grows same read =
    record {
      known = known;
      shown = record {
        first = old.shown.first;
        reached = le_trans old.shown.reached grows;
        item = ap (last {A = Item}) same ∙ old.shown.item
            ∙ ap (λ bytes. Some (opened bytes row.created.0 old.shown.first content)) (sym read);
      };
    }

-- a new zone's name is not that of one that is known
zoned : (c : Calendar) (h : History) (at : Moment) (name bytes : List ℕ) → MayFollow c h (steps.Zone at name bytes)
    → (inc : ℕ) (row : Row) (content : Schedule) → IsCurrent h inc row content → IsCurrent (steps.Zone at name bytes upon h) inc row content
zoned c h at name bytes may inc row content old = named (same_text content.zone name) refl (is_utc content.zone) refl
  where
    new : History
    new = steps.Zone at name bytes upon h

    named : (same : Bool) → same_text content.zone name ≡ same → (utc : Bool) → is_utc content.zone ≡ utc → IsCurrent new inc row content
    named same is true built =
        stays h new inc row content old
        (ap (λ b. b || is_some (bytes_of new content.zone)) built) (le_refl (cover h inc)) (items_of_zone c h at name bytes may inc)
        (ap (λ b. cond b None (bytes_of new content.zone)) built ∙ sym (ap (λ b. cond b None (bytes_of h content.zone)) built))
    named false is false built =
        let bytes_same : bytes_of new content.zone ≡ bytes_of h content.zone = ap (λ b. cond b (Some bytes) (bytes_of h content.zone)) is in
        stays h new inc row content old
        (ap (λ o. is_utc content.zone || is_some o) bytes_same ∙ old.known) (le_refl (cover h inc)) (items_of_zone c h at name bytes may inc)
        (ap (λ o. cond (is_utc content.zone) None o) bytes_same)
    named true is false built =
        let one : content.zone ≡ name = (bytes_eq-Decides content.zone name).0 is in
        let fails : is_some (bytes_of h content.zone) ≡ false = ap (λ k. is_some (bytes_of h k)) one ∙ zone_new c h at name bytes may in
        let known : is_some (bytes_of h content.zone) ≡ true = sym (ap (λ b. b || is_some (bytes_of h content.zone)) built) ∙ old.known in
        absurd (true≢false (sym known ∙ fails))

-- a Change, seen from a schedule that was there
current_renewed : (lives : Bool) (revisions : List Revision) (from : ℕ) (given content : Schedule)
    → cond lives (option_map {T = Revision} (λ revision. revision.content) (last (revisions ++ revision_from from given ∷ []))) None ≡ Some content
    → given ≡ content
current_renewed true revisions from given content e =
    some_same given content (sym (ap (option_map {T = Revision} (λ revision. revision.content)) (last_push revisions (revision_from from given))) ∙ e)
current_renewed false revisions from given content e = cc

deed_current : (c : Calendar) (h : History) (at : Moment) (write : Write) → IsLegal c h → MayFollow c h (steps.Change at write)
    → (inc : ℕ) (row : Row) (content : Schedule) → nth (rows_of (changes_of h)) inc ≡ Some row
    → ((known : Schedule) → current_of row ≡ Some known → IsCurrent h inc row known)
    → (deed : Deed) → deed_of write row ≡ deed → current_of (done_to at.0 deed row) ≡ Some content
    → IsCurrent (steps.Change at write upon h) inc (done_to at.0 deed row) content
deed_current c h at write legal may inc row content there before Nothing is current =
    let old = before content current in
    stays h (steps.Change at write upon h) inc row content old old.known
    (subst (λ m. cover h inc ≤ m) (sym (cover_of_old h at write inc (not_next (rows_of (changes_of h)) inc row there)))
    (written_grows at.0 write (nth (rows_of (changes_of h)) inc) (cover h inc)))
    (touched_items h at write inc row Nothing there is) refl
deed_current c h at write legal may inc row content there before (Renews given) is current =
    let same : given ≡ content = current_renewed row.lives (cut_at at.0 row.revisions) (at.0 + 1) given content current in
    let new : History = steps.Change at write upon h in
    let item : Item = opened (read_under h given.zone) row.created.0 (at.0 + 1) given in
    let top : cover new inc ≡ at.0 + 1 = touched_cover c h at write legal may inc row there (ap touches is) in
    subst (λ k. IsCurrent new inc (done_to at.0 (Renews given) row) k) same (record {
      known = zone_known c h at write given.zone may (renewed_zone write row given is);
      shown = record {
        first = at.0 + 1;
        reached = subst (λ m. at.0 + 1 ≤ m) (sym top) (le_refl (at.0 + 1));
        item = ap (last {A = Item}) (touched_items h at write inc row (Renews given) there is) ∙ last_push (map (cut_item at.0) (items h inc)) item;
      };
    })
deed_current c h at write legal may inc row content there before Ends is current = cc

old_current : (c : Calendar) (h : History) (at : Moment) (write : Write) → IsLegal c h → MayFollow c h (steps.Change at write)
    → (inc : ℕ) (row : Row) (content : Schedule)
    → ((was : Row) (known : Schedule) → nth (rows_of (changes_of h)) inc ≡ Some was → current_of was ≡ Some known → IsCurrent h inc was known)
    → (o : Option Row) → nth (rows_of (changes_of h)) inc ≡ o → option_map (edit at.0 write) o ≡ Some row → current_of row ≡ Some content
    → IsCurrent (steps.Change at write upon h) inc row content
old_current c h at write legal may inc row content before None there is current = cc
old_current c h at write legal may inc row content before (Some was) there is current =
    let same : edit at.0 write was ≡ row = some_same (edit at.0 write was) row is in
    subst (λ r. IsCurrent (steps.Change at write upon h) inc r content) same
    (deed_current c h at write legal may inc was content there (λ known is_known. before was known there is_known)
    (deed_of write was) refl (ap current_of same ∙ current))

-- a write that creates nothing leaves no next row
no_row : (h : History) (at : ℕ) (write : Write) (inc : ℕ) (row : Row) → born at write ≡ [] → inc ≡ length (rows_of (changes_of h)) + 1
    → nth (rows_after (Written at write) (rows_of (changes_of h))) inc ≡ Some row → ⊥
no_row h at write inc row none new there =
    let rows = rows_of (changes_of h) in
    let place : inc ≡ length (map (edit at write) rows) + 1 = new ∙ ap (λ n. n + 1) (sym (length-map rows (edit at write))) in
    let clash : None ≡ Some row =
    sym (ap (λ xs. nth (map (edit at write) rows ++ xs) inc) none ∙ pushed_none (map (edit at write) rows) inc place) ∙ there in cc

-- and from one that it creates
new_current : (c : Calendar) (h : History) (at : Moment) (write : Write) → MayFollow c h (steps.Change at write)
    → (inc : ℕ) (row : Row) (content : Schedule) → inc ≡ length (rows_of (changes_of h)) + 1
    → nth (rows_after (Written at.0 write) (rows_of (changes_of h))) inc ≡ Some row → current_of row ≡ Some content
    → IsCurrent (steps.Change at write upon h) inc row content
new_current c h at (writes.CreateSchedule group name token given) may inc row content new there current =
    let write : Write = writes.CreateSchedule group name token given in
    let rows = rows_of (changes_of h) in
    let made : Row = row_made at.0 group name given in
    let place : inc ≡ length (map (edit at.0 write) rows) + 1 = new ∙ ap (λ n. n + 1) (sym (length-map rows (edit at.0 write))) in
    let is_made : made ≡ row = some_same made row (sym (pushed_there (map (edit at.0 write) rows) made inc place) ∙ there) in
    let same : given ≡ content = some_same given content (ap current_of is_made ∙ current) in
    let now : History = steps.Change at write upon h in
    let top : cover now inc ≡ at.0 = cover_of_new h at write inc new in
    subst (λ r. IsCurrent now inc r content) is_made
    (subst (λ k. IsCurrent now inc made k) same (record {
      known = zone_known c h at write given.zone may refl;
      shown = record {
        first = at.0;
        reached = subst (λ m. at.0 ≤ m) (sym top) (le_refl at.0);
        item = ap (last {A = Item}) (items_of_new h at write inc new);
      };
    }))
new_current c h at (writes.UpdateSchedule group name token given) may inc row content new there current =
    absurd (no_row h at.0 (writes.UpdateSchedule group name token given) inc row refl new there)
new_current c h at (writes.DeleteSchedule group name token) may inc row content new there current =
    absurd (no_row h at.0 (writes.DeleteSchedule group name token) inc row refl new there)
new_current c h at (writes.CreateGroup name token) may inc row content new there current =
    absurd (no_row h at.0 (writes.CreateGroup name token) inc row refl new there)
new_current c h at (writes.DeleteGroup name token) may inc row content new there current =
    absurd (no_row h at.0 (writes.DeleteGroup name token) inc row refl new there)

changed_current : (c : Calendar) (h : History) (at : Moment) (write : Write) → IsLegal c h → MayFollow c h (steps.Change at write)
    → (inc : ℕ) (row : Row) (content : Schedule)
    → ((was : Row) (known : Schedule) → nth (rows_of (changes_of h)) inc ≡ Some was → current_of was ≡ Some known → IsCurrent h inc was known)
    → nth (rows_after (Written at.0 write) (rows_of (changes_of h))) inc ≡ Some row → current_of row ≡ Some content
    → IsCurrent (steps.Change at write upon h) inc row content
changed_current c h at write legal may inc row content before there current =
    elim (cases_eq inc (length (rows_of (changes_of h)) + 1)) [
      | inl new ↦ new_current c h at write may inc row content new there current
      | inr old ↦
          old_current c h at write legal may inc row content before (nth (rows_of (changes_of h)) inc) refl
          (sym (row_of_old (rows_of (changes_of h)) at.0 write inc old) ∙ there) current
    ]

-- a Complete, seen from a schedule that lives on
removed_current : (at : ℕ) (o : Option Row) (row : Row) (content : Schedule) → option_map (removed_at at) o ≡ Some row → current_of row ≡ Some content → ⊥
removed_current at None row content is current = cc
removed_current at (Some was) row content is current =
    let same : removed_at at was ≡ row = some_same (removed_at at was) row is in
    let clash : None ≡ Some content = ap current_of same ∙ current in cc

completed : (c : Calendar) (h : History) (at : Moment) (removed : ℕ) (inc : ℕ) (row : Row) (content : Schedule)
    → ((was : Row) (known : Schedule) → nth (rows_of (changes_of h)) inc ≡ Some was → current_of was ≡ Some known → IsCurrent h inc was known)
    → nth (rows_after (Removed at.0 removed) (rows_of (changes_of h))) inc ≡ Some row → current_of row ≡ Some content
    → IsCurrent (steps.Complete at removed upon h) inc row content
completed c h at removed inc row content before there current =
    let rows = rows_of (changes_of h) in
    elim (cases_eq inc removed) [
      | inl same ↦
          absurd (removed_current at.0 (nth rows removed) row content
          (sym (changed_here (removed_at at.0) rows removed) ∙ ap (λ k. nth (change_nth (removed_at at.0) rows removed) k) (sym same) ∙ there) current)
      | inr other ↦
          let old = before row content (sym (changed_elsewhere (removed_at at.0) rows removed inc other) ∙ there) current in
          stays h (steps.Complete at removed upon h) inc row content old old.known (le_refl (cover h inc))
          (ap (λ b. cond b (map (cut_item at.0) (items h inc)) (items h inc)) (ne_eqb inc removed other)) refl
    ]

pub current_in : (c : Calendar) (h : History) → IsLegal c h → (inc : ℕ) (row : Row) (content : Schedule)
    → nth (rows_of (changes_of h)) inc ≡ Some row → current_of row ≡ Some content → IsCurrent h inc row content
current_in c beginning legal inc row content there current = cc
current_in c (based b kept) legal inc row content there current = absurd legal
current_in c (steps.Change at write upon h) legal inc row content there current =
    changed_current c h at write legal.0 legal.1 inc row content (current_in c h legal.0 inc) there current
current_in c (steps.Complete at removed upon h) legal inc row content there current =
    completed c h at removed inc row content (current_in c h legal.0 inc) there current
current_in c (steps.Zone at name bytes upon h) legal inc row content there current =
    zoned c h at name bytes legal.1 inc row content (current_in c h legal.0 inc row content there current)
current_in c (steps.Enter at of pairs upon h) legal inc row content there current =
    let old = current_in c h legal.0 inc row content there current in
    stays h (steps.Enter at of pairs upon h) inc row content old old.known (entered_grows (inc == of) (last {A = Pair} pairs) (cover h inc)) refl refl
current_in c (steps.Swept at shard upon h) legal inc row content there current =
    let old = current_in c h legal.0 inc row content there current in
    stays h (steps.Swept at shard upon h) inc row content old old.known (chosen_grows (shard == shard_of inc) (cover h inc) (at.0 + 1)) refl refl
current_in c (steps.Boot at upon h) legal inc row content there current =
    let old = current_in c h legal.0 inc row content there current in stays h (steps.Boot at upon h) inc row content old old.known (le_refl (cover h inc)) refl refl
current_in c (steps.Lease at shard worker epoch until upon h) legal inc row content there current =
    let old = current_in c h legal.0 inc row content there current in
    stays h (steps.Lease at shard worker epoch until upon h) inc row content old old.known (le_refl (cover h inc)) refl refl
current_in c (steps.Release at shard worker epoch upon h) legal inc row content there current =
    let old = current_in c h legal.0 inc row content there current in
    stays h (steps.Release at shard worker epoch upon h) inc row content old old.known (le_refl (cover h inc)) refl refl
current_in c (steps.Begin at of instant number epoch upon h) legal inc row content there current =
    let old = current_in c h legal.0 inc row content there current in
    stays h (steps.Begin at of instant number epoch upon h) inc row content old old.known (le_refl (cover h inc)) refl refl
current_in c (steps.End at of instant number verdict status upon h) legal inc row content there current =
    let old = current_in c h legal.0 inc row content there current in
    stays h (steps.End at of instant number verdict status upon h) inc row content old old.known (le_refl (cover h inc)) refl refl
current_in c (steps.Close at of instant reason upon h) legal inc row content there current =
    let old = current_in c h legal.0 inc row content there current in
    stays h (steps.Close at of instant reason upon h) inc row content old old.known (le_refl (cover h inc)) refl refl

pub current_is_last : CurrentIsLast
current_is_last c h legal inc row content there current = (current_in c h legal inc row content there current).shown
