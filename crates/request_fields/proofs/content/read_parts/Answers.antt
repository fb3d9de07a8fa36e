use Rattle.std.proofs.Common.{rules}
use Rattle.request_fields.specs.Contents.{content_of}
use Rattle.request_fields.proofs.Chains.{ends}
use Rattle.request_fields.proofs.content.read_parts.Goals as goal

pub returns-in_err-description-clause-value : goal.returns-in_err-description-clause-value
unfolding content_of
returns-in_err-description-clause-value c = search (rules, ends, c.in_err-description.ensures)

pub returns-in_err-timing-clause-value : goal.returns-in_err-timing-clause-value
unfolding content_of
returns-in_err-timing-clause-value c = rw c.in_ok-description.ensures (search (rules, ends, c.in_err-timing.ensures.value))

pub returns-in_err-errand-clause-value : goal.returns-in_err-errand-clause-value
unfolding content_of
returns-in_err-errand-clause-value c = rw (c.in_ok-description.ensures, c.in_ok-timing.ensures.value) (search (rules, ends, c.in_err-errand.ensures))

pub returns-clause-value : goal.returns-clause-value
unfolding content_of
returns-clause-value c = rw (c.in_ok-description.ensures, c.in_ok-timing.ensures.value, c.in_ok-errand.ensures) (cc c.content_with.ensures)
