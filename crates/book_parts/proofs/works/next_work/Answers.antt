use Rattle.std.proofs.Common.{subst, ◌≡◌, ◌∙◌}
use Rattle.sched_plain.specs.History.{History}
use Rattle.sched_plain.specs.Ledger.{ledger_of}
use Rattle.sched_plain.specs.Seen.{seen}
use Rattle.sched_plain.specs.Work.{work}
use Rattle.book_parts.specs.Told.{Told}
use Rattle.book_parts.specs.Sound.{IsSound}
use Rattle.book_parts.specs.Stands.{Stands, calendar}
use Rattle.book_parts.proofs.WorkLemmas.{work_found}
use Rattle.book_parts.proofs.works.next_work.Goals as goal

pub returns : goal.returns
returns c = λ h st.
    subst (λ (b : Told). IsSound b → Stands b h → c.first_of.result ≡ work (seen calendar h) c.args.shard c.args.now.0) c.parts.view_is
    (λ sound stands.
    c.first_of.ensures ∙ work_found c.work_is_by_dates.ensures.works c.first_entries_are_found.ensures.due c.first_entries_are_found.ensures.live
    _ h c.args.shard c.args.now.0 c.first_come-entering.result c.first_come-completing.result c.first_act-acting.result c.first_wait-waiting.result
    sound stands c.first_come-entering.ensures c.first_come-completing.ensures
    (c.first_act-acting.ensures (ledger_of h) stands.ledger) (c.first_wait-waiting.ensures (ledger_of h) stands.ledger))
    (subst IsSound c.parts.view_is c.parts.invariant.1) st
