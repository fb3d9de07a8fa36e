-- What a write makes of the row of an incarnation, and of its current content.
use Rattle.std.proofs.Common.{◌≡◌, ℕ, ◌+◌, ◌==◌, Bool, true, false, cond, ◌&&◌, Option, Some, None, List, [], ◌++◌, map, length, option_map, sym, refl, ap, ap₂, ◌∙◌, append-nil}
use Rattle.std.specs.Option.{option_and_then}
use Rattle.std.proofs.lemmas.List.{length-map}
use Rattle.sched_plain.specs.declared.row.Row.{Row}
use Rattle.sched_plain.specs.declared.schedule.Schedule.{Schedule}
use Rattle.sched_plain.specs.declared.write.Write.{Write}
use Rattle.sched_plain.specs.declared.write.Write.TheVariants as writes
use Rattle.plain_words.specs.Lists.{nth, some_pass}
use Rattle.plain_words.proofs.Booleans.{and_true}
use Rattle.plain_words.proofs.ListLemmas.{nth_map, nth_snoc}
use Rattle.sched_plain.specs.Changes.{Written}
use Rattle.sched_plain.specs.Rows.{Deed, Nothing, Renews, Ends, touches, renews_if, ends_if, is_at, is_in, deed_of, done_to, rows_after, current_of}
use Rattle.next_dates.specs.NextInstants.{creates}
use Rattle.next_dates.proofs.Contents.{edit, row_made}

edited_only : (at : ℕ) (write : Write) (rows : List Row) (inc : ℕ)
    → nth (map (edit at write) rows ++ []) inc ≡ option_map (edit at write) (nth rows inc)
edited_only at write rows inc = ap (λ all. nth all inc) (append-nil (map (edit at write) rows)) ∙ nth_map (edit at write) rows inc

-- the row of an incarnation that a write does not create
pub row_after : (at : ℕ) (write : Write) (rows : List Row) (inc : ℕ) → ((inc == length rows + 1) && creates write) ≡ false
    → nth (rows_after (Written at write) rows) inc ≡ option_map (edit at write) (nth rows inc)
row_after at (writes.CreateSchedule group name token content) rows inc old =
    let write : Write = writes.CreateSchedule group name token content in
    let made = row_made at group name content in
    nth_snoc (map (edit at write) rows) made inc
    ∙ ap₂ (λ n o. cond (inc == n + 1) (Some made) o) (length-map rows (edit at write)) (nth_map (edit at write) rows inc)
    ∙ ap (λ b. cond b (Some made) (option_map (edit at write) (nth rows inc))) (sym (and_true (inc == length rows + 1)) ∙ old)
row_after at (writes.UpdateSchedule group name token content) rows inc old = edited_only at (writes.UpdateSchedule group name token content) rows inc
row_after at (writes.DeleteSchedule group name token) rows inc old = edited_only at (writes.DeleteSchedule group name token) rows inc
row_after at (writes.CreateGroup name token) rows inc old = edited_only at (writes.CreateGroup name token) rows inc
row_after at (writes.DeleteGroup name token) rows inc old = edited_only at (writes.DeleteGroup name token) rows inc

-- the row of the one that it creates
pub row_born : (at : ℕ) (group name : List ℕ) (token : Option (List ℕ)) (content : Schedule) (rows : List Row) (inc : ℕ)
    → (inc == length rows + 1) ≡ true
    → nth (rows_after (Written at (writes.CreateSchedule group name token content)) rows) inc ≡ Some (row_made at group name content)
row_born at group name token content rows inc new =
    let edited = edit at (writes.CreateSchedule group name token content) in
    let made = row_made at group name content in
    nth_snoc (map edited rows) made inc
    ∙ ap (λ n. cond (inc == n + 1) (Some made) (nth (map edited rows) inc)) (length-map rows edited)
    ∙ ap (λ b. cond b (Some made) (nth (map edited rows) inc)) new

deed_stays : (at : ℕ) (deed : Deed) (row : Row) → touches deed ≡ false → current_of (done_to at deed row) ≡ current_of row
deed_stays at Nothing row e = refl
deed_stays at (Renews content) row e = cc
deed_stays at Ends row e = cc

-- a write leaves the current content of what it does not touch
pub untouched_current : (at : ℕ) (write : Write) (row : Option Row) → some_pass (λ r. touches (deed_of write r)) row ≡ false
    → option_and_then current_of (option_map (edit at write) row) ≡ option_and_then current_of row
untouched_current at write None e = refl
untouched_current at write (Some row) e = deed_stays at (deed_of write row) row e

lives_at : (lives named called : Bool) (given content : Schedule) → renews_if (lives && named && called) given ≡ Renews content → lives ≡ true
lives_at true named called given content e = refl
lives_at false named called given content e = cc

ends_no : (b : Bool) (content : Schedule) → ends_if b ≡ Renews content → ⊥
ends_no true content e = cc
ends_no false content e = cc

-- only a living schedule is given a content
pub renewed_lives : (write : Write) (row : Row) (content : Schedule) → deed_of write row ≡ Renews content → row.lives ≡ true
renewed_lives (writes.CreateSchedule group name token given) row content e = cc
renewed_lives (writes.UpdateSchedule group name token given) row content e = lives_at row.lives _ _ given content e
renewed_lives (writes.DeleteSchedule group name token) row content e = absurd (ends_no (is_at group name row) content e)
renewed_lives (writes.CreateGroup name token) row content e = cc
renewed_lives (writes.DeleteGroup name token) row content e = absurd (ends_no (is_in name row) content e)
