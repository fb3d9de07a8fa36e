use Rattle.sched_top.specs.Running.{Heard, hears, Takes}
use Rattle.sched_top.proofs.AnswerLemmas.{lives_free, carries_response, taken_so}
use Rattle.sched_top.proofs.batch.answer_request.Goals as goal

pub answer-response-requires-clause-free : goal.answer-response-requires-clause-free
answer-response-requires-clause-free g c =
    lives_free (g.K.Keeper.held c.args.keeper.now) (g.K.Keeper.doubt c.args.keeper.now) c.args.now.now.0 (c.requires.memory.settled c.args.keeper.now) c.requires.alone

pub returns-clause-answered : goal.returns-clause-answered
returns-clause-answered g c =
    let memory = c.requires.memory in
    let old : Heard = hears (g.T.Sink.got c.args.sink.now) (g.P.Picker.told c.args.picker.now) (g.L.Link.told c.args.link.now) (g.Z.ZoneFiles.faults c.args.zones.now) in
    let new : Heard = hears (g.T.Sink.got c.send_all.new.sink) (g.P.Picker.told c.answer-response.new.picker) (g.L.Link.told c.answer-response.new.link) (g.Z.ZoneFiles.faults c.answer-response.new.zones) in
    carries_response (g.K.Keeper.held c.args.keeper.now) (g.K.Keeper.held c.answer-response.new.keeper) (Takes c.send_all.result) (g.K.Keeper.full c.answer-response.new.keeper)
    (g.K.Keeper.faults c.args.keeper.now) (g.K.Keeper.faults c.answer-response.new.keeper) (g.Z.ZoneFiles.told c.args.zones.now) (g.K.Keeper.doubt c.args.keeper.now)
    c.args.now.now.0 c.args.request.now c.answer-response.new.now.0 old new c.answer-response.result
    (memory.settled c.args.keeper.now) (memory.roomy c.answer-response.new.keeper) (memory.quiet c.args.keeper.now) (memory.quiet c.answer-response.new.keeper)
    c.answer-response.ensures.zone_faults c.answer-response.ensures.zones_rose c.answer-response.ensures.turn
    (taken_so c.send_all.result _ _ _ (rw c.as_bytes.ensures at c.send_all.ensures.sent) (rw c.as_bytes.ensures at c.send_all.ensures.cut))
