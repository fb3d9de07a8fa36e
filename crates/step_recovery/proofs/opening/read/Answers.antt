use Rattle.std.proofs.Common.{ap, Err}
use Rattle.book_parts.specs.Stands.{calendar}
use Rattle.journal_steps.specs.Journals.{DamagedAt}
use Rattle.step_recovery.proofs.ReadingLemmas.{seen_as, tells_behind}
use Rattle.step_recovery.proofs.opening.read.Goals as goal

pub returns-in-Err-take_all-clause-tells : goal.returns-in-Err-take_all-clause-tells
returns-in-Err-take_all-clause-tells g c =
    tells_behind c.in-Err-take_all.fault _
    (λ at is. c.in-Err-take_all.ensures.header at (ap Err is))
    (λ at is. seen_as (DamagedAt calendar at) _ _ c.begin.ensures.only_read.gives (c.in-Err-take_all.ensures.damaged at (ap Err is)))
