use Rattle.timer_work.specs.Going.{outside}
use Rattle.timer_work.proofs.OfferLemmas.{wants_as, handles_as, never_live}
use Rattle.timer_work.proofs.sweep.shard.do_next.Goals as goal

pub enter_next-requires-clause-wanted : goal.enter_next-requires-clause-wanted
enter_next-requires-clause-wanted g c = wants_as _ c.args.at.0 _ _ c.in-Enter.is c.requires.wanted

pub close_next-requires-clause-wanted : goal.close_next-requires-clause-wanted
close_next-requires-clause-wanted g c = let w = wants_as _ c.args.at.0 _ _ c.in-Close.is c.requires.wanted in (c.in-Close.reason, w.0, w.1)

pub attempt-requires-clause-wanted : goal.attempt-requires-clause-wanted
attempt-requires-clause-wanted g c = wants_as _ c.args.at.0 _ _ c.in-Begin.is c.requires.wanted

pub complete_next-requires-clause-wanted : goal.complete_next-requires-clause-wanted
complete_next-requires-clause-wanted g c = wants_as _ c.args.at.0 _ _ c.in-Complete.is c.requires.wanted

pub returns-in-Enter-clause-done : goal.returns-in-Enter-clause-done
returns-in-Enter-clause-done g c =
    handles_as c.enter_next.result _ _ _ _ c.args.at.0 c.args.next _ _ _ c.in-Enter.is (c.enter_next.ensures.done (g.L.Link.told c.args.link.now))

pub returns-in-Close-clause-done : goal.returns-in-Close-clause-done
returns-in-Close-clause-done g c =
    handles_as c.close_next.result _ _ _ _ c.args.at.0 c.args.next _ _ _ c.in-Close.is
    (c.close_next.ensures.done c.in-Close.reason (outside (g.P.Picker.told c.args.picker.now) (g.L.Link.told c.args.link.now)))

pub returns-in-Begin-clause-done : goal.returns-in-Begin-clause-done
returns-in-Begin-clause-done g c =
    handles_as c.attempt.result _ _ _ _ c.args.at.0 c.args.next _ _ _ c.in-Begin.is (c.attempt.ensures.done (g.P.Picker.told c.args.picker.now))

pub returns-in-Complete-clause-done : goal.returns-in-Complete-clause-done
returns-in-Complete-clause-done g c =
    handles_as c.complete_next.result _ _ _ _ c.args.at.0 c.args.next _ _ _ c.in-Complete.is
    (c.complete_next.ensures.done (outside (g.P.Picker.told c.args.picker.now) (g.L.Link.told c.args.link.now)))

pub unreachable-requires : goal.unreachable-requires
unreachable-requires g c = never_live _ c.args.at.0 c.in-Live.inc c.in-Live.instant (wants_as _ c.args.at.0 _ _ c.in-Live.is c.requires.wanted)
