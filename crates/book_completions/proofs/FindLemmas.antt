-- A Complete that may follow finds its schedule living.
use Rattle.std.proofs.Common.{◌≡◌, ℕ, ◌≤◌, nat_lt, not, Bool, true, false, Option, Some, None, ◌∷◌, refl, ap, ◌∙◌, subst, sym}
use Rattle.std.specs.Prelude.{if◌then◌else◌}
use Rattle.std.specs.Option.{option_and_then}
use Rattle.std.proofs.lemmas.Bool.{ltb-false, not-false}
use Rattle.plain_words.specs.Lists.{nth, some_pass}
use Rattle.plain_words.specs.Moments.{moment_of}
use Rattle.plain_words.proofs.ListLemmas.{all_none, when_none}
use Rattle.sched_plain.specs.declared.row.Row.{Row}
use Rattle.sched_plain.specs.declared.schedule.Schedule.{Schedule}
use Rattle.sched_plain.specs.declared.step.Step.TheVariants as steps
use Rattle.sched_plain.specs.declared.why.Why.TheVariants as whys
use Rattle.sched_plain.specs.Changes.{changes_of}
use Rattle.sched_plain.specs.Moments.{moment}
use Rattle.sched_plain.specs.Rows.{current_of, rows_of}
use Rattle.sched_plain.specs.Rules.{kind_table, moment_rule}
use Rattle.sched_plain.specs.Seen.{seen}
use Rattle.sched_plain.specs.Work.{completable, is_finished}
use Rattle.sched_rows.specs.State.{lives_at}
use Rattle.book_parts.specs.Stands.{calendar}
use Rattle.book_completions.specs.Finding.{CompletesFind}

-- what has a current content lives
content_lives : (lives : Bool) (found : Option Schedule) (test : Schedule → Bool) → some_pass test (if lives then found else None) ≡ true → lives ≡ true
content_lives true found test passes = refl
content_lives false found test passes = cc passes

row_lives : (row : Option Row) (test : Schedule → Bool) → some_pass test (option_and_then current_of row) ≡ true
    → some_pass (λ (r : Row). r.lives) row ≡ true
row_lives None test passes = cc passes
row_lives (Some row) test passes = content_lives row.lives _ test passes

pub completes_find : CompletesFind
completes_find b h at inc st valid may =
    let s = steps.Complete at inc in
    let rules = all_none (moment_rule (moment h) s ∷ kind_table (seen calendar h) s) may in
    let ready = completable (seen calendar h) inc at.0 in
    let is : ready ≡ true = not-false ready (when_none (not ready) whys.NotComplete rules.1.0) in
    record {
      forward = subst (λ (m : ℕ). m ≤ at.0) (sym st.moment)
          (ltb-false at.0 (moment h) (when_none (nat_lt at.0 (moment h)) (whys.MomentBack (moment_of (moment h))) rules.0));
      last = valid.0;
      lives = ap (λ (all : _). lives_at all inc) st.rows.rows
          ∙ row_lives (nth (rows_of (changes_of h)) inc) (is_finished (seen calendar h) inc at.0) is;
    }
