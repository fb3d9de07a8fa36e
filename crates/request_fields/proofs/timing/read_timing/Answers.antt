use Rattle.std.proofs.Common.{rules, refl}
use Rattle.request_fields.specs.Contents.{timing_of}
use Rattle.request_fields.proofs.Chains.{ends, object_ends}
use Rattle.request_fields.proofs.timing.read_timing.Goals as goal

pub returns-in_err-text-clause-value : goal.returns-in_err-text-clause-value
unfolding timing_of
returns-in_err-text-clause-value c = search (rules, ends, c.in_err-text.ensures.value)

pub returns-in_err-zone-clause-value : goal.returns-in_err-zone-clause-value
unfolding timing_of
returns-in_err-zone-clause-value c = rw c.in_ok-text.ensures.value (search (rules, ends, c.in_err-zone.ensures))

pub returns-in_err-start-clause-value : goal.returns-in_err-start-clause-value
unfolding timing_of
returns-in_err-start-clause-value c = rw (c.in_ok-text.ensures.value, c.in_ok-zone.ensures) (search (rules, ends, c.in_err-start.ensures))

pub returns-in_err-finish-clause-value : goal.returns-in_err-finish-clause-value
unfolding timing_of
returns-in_err-finish-clause-value c = rw (c.in_ok-text.ensures.value, c.in_ok-zone.ensures, c.in_ok-start.ensures) (search (rules, ends, c.in_err-finish.ensures))

pub returns-in_err-enabled-clause-value : goal.returns-in_err-enabled-clause-value
unfolding timing_of
returns-in_err-enabled-clause-value c = let finish = rw c.earliest_finish.ensures at c.in_ok-finish.ensures in rw (c.in_ok-text.ensures.value, c.in_ok-zone.ensures, c.in_ok-start.ensures, finish) (search (rules, ends, c.in_err-enabled.ensures))

pub returns-in_err-delete_after-clause-value : goal.returns-in_err-delete_after-clause-value
unfolding timing_of
returns-in_err-delete_after-clause-value c = let finish = rw c.earliest_finish.ensures at c.in_ok-finish.ensures in rw (c.in_ok-text.ensures.value, c.in_ok-zone.ensures, c.in_ok-start.ensures, finish, c.in_ok-enabled.ensures) (search (rules, ends, c.in_err-delete_after.ensures))

pub returns-in_err-window-clause-value : goal.returns-in_err-window-clause-value
unfolding timing_of
returns-in_err-window-clause-value c = let finish = rw c.earliest_finish.ensures at c.in_ok-finish.ensures in rw (c.in_ok-text.ensures.value, c.in_ok-zone.ensures, c.in_ok-start.ensures, finish, c.in_ok-enabled.ensures, c.in_ok-delete_after.ensures) (search (rules, object_ends, c.in_err-window.ensures))

pub returns-in_err-window-2-clause-value : goal.returns-in_err-window-2-clause-value
unfolding timing_of
returns-in_err-window-2-clause-value c = let finish = rw c.earliest_finish.ensures at c.in_ok-finish.ensures in rw (c.in_ok-text.ensures.value, c.in_ok-zone.ensures, c.in_ok-start.ensures, finish, c.in_ok-enabled.ensures, c.in_ok-delete_after.ensures, c.in_ok-window.ensures) (search (rules, ends, c.in_err-window-2.ensures))

pub returns-clause-value : goal.returns-clause-value
unfolding timing_of
returns-clause-value c = let finish = rw c.earliest_finish.ensures at c.in_ok-finish.ensures in rw (c.in_ok-text.ensures.value, c.in_ok-zone.ensures, c.in_ok-start.ensures, finish, c.in_ok-enabled.ensures, c.in_ok-delete_after.ensures, c.in_ok-window.ensures, c.in_ok-window-2.ensures) refl
