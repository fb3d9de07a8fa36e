-- The plan over the parts of a book is that over their history.
use Rattle.std.proofs.Common.{◌≡◌, ℕ, Option, Some, None, ap, sym, ◌∙◌, inl, inr}
use Rattle.plain_words.proofs.Options.{some_same}
use Rattle.zone_shelf.specs.Places.{bytes_in}
use Rattle.expressions.specs.Calendar.{Calendar}
use Rattle.sched_plain.specs.declared.write.Write.{Write}
use Rattle.sched_plain.specs.History.{History}
use Rattle.sched_plain.specs.Groups.{row_fault}
use Rattle.sched_plain.specs.Rows.{touched_by}
use Rattle.sched_plain.specs.Tokens.{Kept}
use Rattle.sched_calls.specs.Replies.{reply_to, token_refusal}
use Rattle.token_shelf.specs.Answers.{IsSame, IsOther}
use Rattle.work_order.specs.DateLaws.{FirstOpenByDates}
use Rattle.book_parts.specs.Told.{Told}
use Rattle.book_parts.specs.Stands.{Stands, calendar}
use Rattle.write_plans.specs.declared.plan.Plan.{Plan}
use Rattle.write_plans.specs.declared.plan.Plan.TheVariants as plans
use Rattle.write_plans.specs.Planning.{IsPlannedBy, first_behind, plan_by, plan_of_new}
use Rattle.write_plans.specs.Looking.{first_come, zone_needed}
use Rattle.write_plans.proofs.BehindLemmas.{come_is_behind}

come_found : FirstOpenByDates → (b : Told) (h : History) (t : ℕ) (write : Write) → Stands b h
    → first_come b.next.dates t (touched_by b.rows.rows write) ≡ first_behind calendar h t write
come_found opens b h t write st =
    (λ i. first_come b.next.dates t (touched_by (st.rows.rows i) write)) ∙ come_is_behind opens b h t write st

-- what the parts show plans a write whose token is new
pub new_is : FirstOpenByDates → (b : Told) (h : History) (t : ℕ) (write : Write) → Stands b h
    → plan_by t write (row_fault b.rows.rows b.rows.groups write) (zone_needed (bytes_in b.zones) write) (first_come b.next.dates t (touched_by b.rows.rows write))
    ≡ plan_of_new calendar h t write
new_is opens b h t write st =
    let behind = come_found opens b h t write st in
    λ i. plan_by t write (row_fault (st.rows.rows i) (st.rows.groups i) write) (zone_needed (λ name. st.zones name i) write) (behind i)

-- the plan by what kept the token
pub planned_new : (c : Calendar) (h : History) (t : ℕ) (write : Write) (found : Option Kept) (plan : Plan) → found ≡ None → plan ≡ plan_of_new c h t write
    → IsPlannedBy c h t write found plan
planned_new c h t write None plan none is = is
planned_new c h t write (Some kept) plan none is = cc none

pub planned_same : (c : Calendar) (h : History) (t : ℕ) (write : Write) (found : Option Kept) (plan : Plan) → IsSame found write → plan ≡ plans.Known (reply_to write)
    → IsPlannedBy c h t write found plan
planned_same c h t write None plan same is = cc same.1
planned_same c h t write (Some kept) plan same is = inl (ap (λ (k : Kept). k.write) (some_same kept same.0 same.1) ∙ same.2, is)

pub planned_other : (c : Calendar) (h : History) (t : ℕ) (write : Write) (found : Option Kept) (place : ℕ) (plan : Plan) → IsOther found write place
    → plan ≡ plans.Refused (token_refusal place) → IsPlannedBy c h t write found plan
planned_other c h t write None place plan other is = cc other.1
planned_other c h t write (Some kept) place plan other is =
    let same = some_same kept other.0 other.1 in
    inr (λ writes. other.3 (sym (ap (λ (k : Kept). k.write) same) ∙ writes), is ∙ sym (ap (λ (k : Kept). plans.Refused (token_refusal k.place)) same ∙ ap (λ n. plans.Refused (token_refusal n)) other.2))
