-- A Change over the parts breaks the rules that it breaks over their history.
use Rattle.std.proofs.Common.{◌≡◌, ℕ, ◌∷◌, [], List, Option, refl, ap, sym, ◌∙◌}
use Rattle.std.specs.Option.{option_map, option_and_then}
use Rattle.plain_words.specs.Lists.{first_some, first_answer}
use Rattle.plain_words.specs.declared.moment.Moment.{Moment}
use Rattle.sched_plain.specs.declared.step.Step.TheVariants as steps
use Rattle.sched_plain.specs.declared.write.Write.{Write}
use Rattle.sched_plain.specs.History.{History}
use Rattle.sched_plain.specs.Seen.{seen}
use Rattle.sched_plain.specs.Changes.{changes_of}
use Rattle.sched_plain.specs.Rows.{rows_of, touched_by}
use Rattle.sched_plain.specs.Groups.{row_fault}
use Rattle.sched_plain.specs.Tokens.{Kept, kept_of, kept_under, token_of}
use Rattle.sched_plain.specs.Work.{Occurrence}
use Rattle.sched_plain.specs.Rules.{change_table, kind_table, is_zone_unknown, zone_of}
use Rattle.next_dates.specs.Dates.{come_by}
use Rattle.work_order.specs.DateLaws.{FirstOpenByDates}
use Rattle.step_rules.specs.Looked.{occurrence_of}
use Rattle.book_parts.specs.Told.{Told}
use Rattle.book_parts.specs.Stands.{Stands, calendar}
use Rattle.book_parts.specs.Touching.{come_at, zones_in}

pub change_is : FirstOpenByDates → (b : Told) (h : History) (at : Moment) (write : Write) (kept : Option ℕ) (found : Option Occurrence) → Stands b h
    → kept ≡ option_and_then (λ token. option_map {T = Kept} (λ k. k.place) (kept_under (kept_of h) token)) (token_of write)
    → found ≡ first_answer (come_at b.next.dates at.0) (touched_by b.rows.rows write)
    → first_some (change_table (is_zone_unknown (zones_in b.zones) (zone_of write)) (row_fault b.rows.rows b.rows.groups write) kept found)
    ≡ first_some (kind_table (seen calendar h) (steps.Change at write))
change_is opens b h at write kept found st keeps finds =
    let first = finds
    ∙ (λ i. first_answer (λ inc. option_map {T = ℕ} (λ n. record { inc = inc; instant = n }) (come_by at.0 (st.next inc i))) (touched_by (st.rows.rows i) write))
    ∙ sym (opens calendar h st.legal at.0 (touched_by (rows_of (changes_of h)) write)) in
    λ i. first_some (change_table (is_zone_unknown (record { readable = calendar.readable; bytes = λ name. st.zones name i }) (zone_of write))
    (row_fault (st.rows.rows i) (st.rows.groups i) write) (keeps i) (first i))
