use Rattle.journal_file.specs.Format.{Holds}
use Rattle.journal_steps.specs.Journals.{payloads_of}
use Rattle.step_recovery.proofs.ReadingLemmas.{seen_as, opened_as, refused_as}
use Rattle.step_recovery.proofs.opening.open.Goals as goal

pub returns-in-Ok-clause-opened : goal.returns-in-Ok-clause-opened
returns-in-Ok-clause-opened g c =
    let recovered = c.in-Ok.ensures.recovered in
    opened_as g.M.Machine.stands g.met.M.Machine.legal_history g.met.M.Machine.valid_history c.read.new.book recovered.history _ recovered.stands
    (seen_as (Holds (payloads_of recovered.history)) _ _ c.read.ensures.only_read.gives recovered.keeps.shows.read)

pub returns-in-Err-clause-refused : goal.returns-in-Err-clause-refused
returns-in-Err-clause-refused g c = refused_as c.in-Err.fault _ c.in-Err.ensures.tells
