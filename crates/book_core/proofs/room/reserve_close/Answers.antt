use Rattle.std.proofs.Common.{sym, ap, ◌∙◌, length}
use Rattle.plain_words.proofs.Options.{on_ok}
use Rattle.book_parts.specs.Told.{Told}
use Rattle.book_core.proofs.RoomLemmas.{along, ledger_roomier, same_ledger, letter_fits}
use Rattle.book_core.proofs.room.reserve_close.Goals as goal

pub returns-clause-same : goal.returns-clause-same
returns-clause-same c =
    along _ c.parts.view_is (ledger_roomier _ _ _ (same_ledger _) c.reserve_letter.ensures.letters c.reserve_letter.ensures.kept)

pub returns-clause-room : goal.returns-clause-room
returns-clause-room c =
    on_ok c.reserve_letter.result _ _
    (letter_fits c.parts.inside.rows.rows c.parts.inside.ledger.flights c.reserve_letter.new.letters c.args.inc c.args.instant c.args.live
    (c.requires.live ∙ ap (λ (b : Told). length b.ledger.flights) (sym c.parts.view_is)))
    c.reserve_letter.ensures.room
