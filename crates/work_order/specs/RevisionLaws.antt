-- The revisions of a legal history against its entries, and what a Change leaves unentered.
use Rattle.std.specs.Prelude.{◌≡◌, ℕ, ◌≤◌, true, Some, []}
use Rattle.sched_plain.specs.declared.entry.Filed.{Filed}
use Rattle.plain_words.specs.declared.moment.Moment.{Moment}
use Rattle.sched_plain.specs.declared.row.Row.{Row}
use Rattle.sched_plain.specs.declared.schedule.Schedule.{Schedule}
use Rattle.sched_plain.specs.declared.step.Step.TheVariants as steps
use Rattle.sched_plain.specs.declared.write.Write.{Write}
use Rattle.sched_plain.specs.History.{History, ◌upon◌}
use Rattle.plain_words.specs.Lists.{nth}
use Rattle.sched_plain.specs.Changes.{changes_of}
use Rattle.sched_plain.specs.Rows.{deed_of, touches, rows_of, content_at}
use Rattle.expressions.specs.Calendar.{Calendar}
use Rattle.sched_plain.specs.Ledger.{ledger_of}
use Rattle.sched_plain.specs.Entries.{filed}
use Rattle.sched_plain.specs.Marks.{unentered}
use Rattle.sched_plain.specs.Rules.{is_in_window}
use Rattle.sched_plain.specs.Legal.{IsLegal}

-- what is filed for an occurrence follows a content: it has the content's policy, and its chosen moment lies in the
-- content's window at the instant
pub record Follows (content : Schedule) (instant : ℕ) (f : Filed) : Type 0 where
  pub policy : f.policy ≡ content.policy
  pub window : is_in_window content.window (record { instant = instant; chosen = f.entry.chosen }) ≡ true

-- a revision covers each instant that has an entry, and the entry follows its content
abbrev pub EntriesFollow : Type 0
EntriesFollow =
    (c : Calendar) (h : History) → IsLegal c h → (inc instant : ℕ) (f : Filed) → filed (ledger_of h) inc instant ≡ Some f
    → (content : Schedule) × (content_at (rows_of (changes_of h)) inc instant ≡ Some content) × Follows content instant f

-- a Change makes nothing unentered of an incarnation that is there: up to its moment the same is unentered before and
-- behind it, and of those that it touches nothing is
pub record OpensNothing (c : Calendar) (h : History) (at : Moment) (write : Write) (inc : ℕ) (row : Row) : Type 0 where
  pub same : (t : ℕ) → t ≤ at.0 → unentered c (steps.Change at write upon h) inc t ≡ unentered c h inc t
  pub touched : touches (deed_of write row) ≡ true → unentered c (steps.Change at write upon h) inc at.0 ≡ []

abbrev pub ChangesOpenNothing : Type 0
ChangesOpenNothing =
    (c : Calendar) (h : History) (at : Moment) (write : Write) → IsLegal c (steps.Change at write upon h)
    → (inc : ℕ) (row : Row) → nth (rows_of (changes_of h)) inc ≡ Some row → OpensNothing c h at write inc row
