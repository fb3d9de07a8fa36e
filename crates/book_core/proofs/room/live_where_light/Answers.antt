use Rattle.std.proofs.Common.{◌≡◌, ◌∙◌, sym, subst, arith, length, ap, List, None}
use Rattle.ledger_rows.specs.Air.{live_in}
use Rattle.ledger_rows.specs.declared.row.Flight.{Flight}
use Rattle.sched_plain.specs.Ledger.{ledger_of}
use Rattle.book_parts.specs.Told.{Told}
use Rattle.book_parts.specs.Stands.{Stands}
use Rattle.book_core.proofs.RoomLemmas.{all_live}
use Rattle.book_core.proofs.room.live_where_light.Goals as goal

counted : (c : goal.Then-parts-live) → c.live-live.result ≡ length c.args.parts.now.ledger.flights
counted c =
    let h = c.requires.history in
    let st = subst (λ (b : Told). Stands b h) (sym c.parts.view_is) c.requires.stands.parts in
    c.live-live.ensures (ledger_of h) st.ledger ∙ ap (λ (flights : List Flight). live_in None flights) (sym st.ledger.air) ∙ all_live _
    ∙ ap (λ (b : Told). length b.ledger.flights) c.parts.view_is

pub returns-then-parts-live-clause-light : goal.returns-then-parts-live-clause-light
returns-then-parts-live-clause-light c =
    let steps = ap (λ (b : Told). b.steps) c.parts.view_is in
    let live = counted c in
    let few = c.if-parts-live.true in
    omega (arith, steps, live, few)

pub returns-then-parts-live-clause-live : goal.returns-then-parts-live-clause-live
returns-then-parts-live-clause-live c = counted c
