use Rattle.std.proofs.Common.{Option, ◌≤◌, sym, subst}
use Rattle.plain_words.specs.declared.limits.TheConstants.{LONGEST_WINDOW}
use Rattle.sched_plain.specs.declared.schedule.Schedule.{Schedule}
use Rattle.sched_plain.specs.Rules.{window_of}
use Rattle.book_parts.specs.Stands.{calendar}
use Rattle.sweep_laws.proofs.Limits.{windows_fit}
use Rattle.durable_writes.proofs.choosing.window_at.Goals as goal

pub returns-in-Some-clause-within : goal.returns-in-Some-clause-within
returns-in-Some-clause-within g c =
    let lives = c.requires.lives in
    let fits = windows_fit calendar lives.0 (g.met.M.Machine.legal_history _ lives.0 lives.1) (g.met.M.Machine.valid_history _ lives.0 lives.1) c.args.inc c.args.instant in
    subst (λ (o : Option Schedule). window_of o ≤ LONGEST_WINDOW) (sym (c.in-Some.ensures lives.0 lives.1)) fits
