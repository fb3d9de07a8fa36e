use Rattle.std.proofs.Common.{rules, refl}
use Rattle.request_fields.specs.Contents.{limits_of}
use Rattle.request_fields.proofs.Chains.{ends}
use Rattle.request_fields.proofs.errand.read_limits.Goals as goal

pub returns-in_err-retries : goal.returns-in_err-retries
unfolding limits_of
returns-in_err-retries c = search (rules, ends, c.in_err-retries.ensures)

pub returns-in_err-age : goal.returns-in_err-age
unfolding limits_of
returns-in_err-age c = rw c.in_ok-retries.ensures (search (rules, ends, c.in_err-age.ensures))

pub returns : goal.returns
unfolding limits_of
returns c = rw (c.in_ok-retries.ensures, c.in_ok-age.ensures) refl
