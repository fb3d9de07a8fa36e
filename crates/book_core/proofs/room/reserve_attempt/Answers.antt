use Rattle.std.proofs.Common.{refl, sym, ap, ◌∙◌, length, arith}
use Rattle.plain_words.proofs.Options.{on_ok}
use Rattle.book_parts.specs.Told.{Told}
use Rattle.book_core.proofs.RoomLemmas.{along, sound_kept, ledger_roomier, letter_fits}
use Rattle.book_core.proofs.room.reserve_attempt.Goals as goal

pub invariant_of-parts : goal.invariant_of-parts
invariant_of-parts c =
    (c.parts.invariant.0, sound_kept (ledger_roomier _ _ _ c.reserve_begin.ensures.same (λ queue. refl) (λ queue. omega arith)) c.parts.invariant.1)

pub invariant_of-parts-2 : goal.invariant_of-parts-2
invariant_of-parts-2 c =
    (c.parts.invariant.0, sound_kept (ledger_roomier _ _ _ c.reserve_begin.ensures.same c.reserve_letter.ensures.letters c.reserve_letter.ensures.kept) c.parts.invariant.1)

pub returns-clause-same : goal.returns-clause-same
returns-clause-same c =
    along _ c.parts.view_is (ledger_roomier _ _ _ c.reserve_begin.ensures.same c.reserve_letter.ensures.letters c.reserve_letter.ensures.kept)

pub returns-clause-room : goal.returns-clause-room
returns-clause-room c =
    on_ok c.reserve_letter.result _ _
    (λ fits. (
      c.in_ok-reserve_begin.ensures.room,
      letter_fits c.parts.inside.rows.rows c.reserve_begin.new.self.flights c.reserve_letter.new.letters
          c.args.inc c.args.instant c.args.live
          (c.requires.live ∙ ap (λ (b : Told). length b.ledger.flights) (sym c.parts.view_is) ∙ ap length (sym c.reserve_begin.ensures.same.air)) fits,
    ))
    c.reserve_letter.ensures.room
