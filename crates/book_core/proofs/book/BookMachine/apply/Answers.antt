use Rattle.std.proofs.Common.{sym, subst}
use Rattle.book_core.specs.State.{Booked, HasRoom, May}
use Rattle.book_core.proofs.SoundLemmas.{sound_after}
use Rattle.book_core.proofs.book.BookMachine.apply.Goals as goal

pub invariant_of-self : goal.invariant_of-self
invariant_of-self c =
    let may = subst (λ (b : Booked). May b c.args.step) (sym c.self.view_is) c.requires.may in
    let room = subst (λ (b : Booked). HasRoom b c.args.step) (sym c.self.view_is) c.requires.room in
    sound_after c.live_attempts_are_few.ensures.adds c.live_attempts_are_few.ensures.ends _ _ _ c.args.step c.self.invariant c.requires.valid may room
    c.take.ensures
