use Rattle.std.proofs.Common.{sym, subst}
use Rattle.book_core.specs.State.{Booked, May, Stands}
use Rattle.book_core.proofs.RoomLemmas.{back, onward}
use Rattle.book_core.proofs.SoundLemmas.{sound_with_room}
use Rattle.book_core.proofs.book.BookMachine.reserve.Goals as goal

pub invariant_of-self : goal.invariant_of-self
invariant_of-self c = sound_with_room c.reserve.ensures.same c.self.invariant

pub returns-clause-stands : goal.returns-clause-stands
returns-clause-stands c = λ h st.
    let old = subst (λ (b : Booked). Stands b h) (sym c.self.view_is) st in
    record { parts = onward c.reserve.ensures.same h old.parts; valid = old.valid }

pub returns-clause-may : goal.returns-clause-may
returns-clause-may c = λ s may h st.
    subst (λ (b : Booked). May b s) (sym c.self.view_is) may h (record { parts = back c.reserve.ensures.same h st.parts; valid = st.valid })
