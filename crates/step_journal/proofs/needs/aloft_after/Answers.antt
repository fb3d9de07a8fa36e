use Rattle.std.proofs.Common.{◌∙◌, sym, arith}
use Rattle.sched_plain.specs.Ledger.{ledger_of}
use Rattle.sched_plain.specs.Leases.{holder, is_taking}
use Rattle.ledger_rows.specs.Air.{airborne}
use Rattle.step_journal.proofs.NeedLemmas.{all_count, none_left, lease_left, one_more, rest_same}
use Rattle.step_journal.proofs.needs.aloft_after.Goals as goal

pub overflow_add-result : goal.overflow_add-result
overflow_add-result g c =
    let few = c.requires.few in
    let is = c.live-live.ensures few.0 few.1 in
    omega (arith, is, all_count (airborne (ledger_of few.0)), few.2)

pub returns-in-Boot : goal.returns-in-Boot
returns-in-Boot g c h stands = rw c.in-Boot.is (sym (none_left (airborne (ledger_of h))))

pub returns-in-Begin : goal.returns-in-Begin
returns-in-Begin g c h stands =
    let is = c.live-live.ensures h stands ∙ all_count (airborne (ledger_of h)) in
    let b = c.in-Begin in
    rw (b.is, is) (one_more b.inc b.instant b.number (airborne (ledger_of h)))

pub returns-in-End : goal.returns-in-End
returns-in-End g c h stands =
    let is = c.live-live.ensures h stands ∙ all_count (airborne (ledger_of h)) in
    rw c.in-End.is (omega (arith, is))

pub returns-in-Lease : goal.returns-in-Lease
returns-in-Lease g c h stands =
    let is = c.live-live.ensures h stands ∙ all_count (airborne (ledger_of h)) in
    let l = c.in-Lease in
    let lost = c.lost_by.ensures h stands in
    let left = lease_left (is_taking (holder h l.shard) l.epoch) (ledger_of h) l.shard l.at.0 in
    rw l.is (omega (arith, is, lost, left))

pub returns-in_default : goal.returns-in_default
returns-in_default g c h stands =
    let is = c.live-live.ensures h stands ∙ all_count (airborne (ledger_of h)) in
    let d = c.in_default in
    is ∙ rest_same h c.args.step.now d.not-Boot d.not-Lease d.not-Begin d.not-End
