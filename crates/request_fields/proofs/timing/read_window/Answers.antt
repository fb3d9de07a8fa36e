use Rattle.std.proofs.Common.{rules, refl}
use Rattle.request_fields.specs.Contents.{window_of}
use Rattle.request_fields.proofs.Chains.{ends}
use Rattle.request_fields.proofs.timing.read_window.Goals as goal

pub returns-in_err-read_is_off : goal.returns-in_err-read_is_off
unfolding window_of
returns-in_err-read_is_off c = search (rules, ends, c.in_err-read_is_off.ensures)

pub returns-then-branch : goal.returns-then-branch
unfolding window_of
returns-then-branch c = rw (c.in_ok-read_is_off.ensures, c.if-branch.true) refl

pub returns : goal.returns
unfolding window_of
returns c = rw (c.in_ok-read_is_off.ensures, c.if-branch.false) c.read_minutes.ensures
