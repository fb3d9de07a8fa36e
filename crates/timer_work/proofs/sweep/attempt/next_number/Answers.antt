use Rattle.std.proofs.Common.{◌∙◌, ap, arith}
use Rattle.sched_plain.specs.Ledger.{ledger_of}
use Rattle.sched_plain.specs.Entries.{filed}
use Rattle.timer_work.specs.Numbers.{number_behind}
use Rattle.timer_work.proofs.AttemptLemmas.{number_filed}
use Rattle.timer_work.proofs.sweep.attempt.next_number.Goals as goal

pub number_behind-requires : goal.number_behind-requires
number_behind-requires g c =
    let (h, st, small) = c.requires.small in
    let is = ap number_behind (c.entry.ensures h st) ∙ number_filed (filed (ledger_of h) c.args.inc c.args.instant) in
    omega (arith, is, small)

pub returns : goal.returns
returns g c = λ h st.
    c.number_behind.ensures ∙ ap number_behind (c.entry.ensures h st) ∙ number_filed (filed (ledger_of h) c.args.inc c.args.instant)
