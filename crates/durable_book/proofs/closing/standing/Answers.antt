use Rattle.std.proofs.Common.{subst}
use Rattle.durable_book.specs.Keeping.{IsJudged}
use Rattle.durable_book.proofs.ClosingLemmas.{asking, asking_denied, told_standing}
use Rattle.durable_book.proofs.closing.standing.Goals as goal

pub standing_told-requires : goal.standing_told-requires
standing_told-requires g c =
    let (h, st, there, early) = c.requires.entered in
    asking_denied h c.args.at.0 c.args.inc c.args.instant c.in-Err.denial early there (c.in-Err.ensures.memory tt) (c.in-Err.ensures.denied h st)

pub returns : goal.returns
returns g c = λ h st.
    told_standing h c.args.at.0 c.args.inc c.args.instant c.standing_told.result
    (subst (λ d. IsJudged (asking c.args.at.0 c.args.inc c.args.instant) d h) c.standing_told.ensures (c.in-Err.ensures.denied h st))
