use Rattle.std.proofs.Common.{refl, arith}
use Rattle.sched_plain.specs.History.{beginning}
use Rattle.sched_top.specs.Batch.{Told, tells}
use Rattle.sched_top.proofs.RunLemmas.{underway_first, underway_more, small_at_start}
use Rattle.sched_top.proofs.EndLemmas.{cut_answer, refusal_ends}
use Rattle.sched_top.proofs.batch.run_requests.Goals as goal

pub requests-init : goal.requests-init
requests-init g c =
    let told : Told = tells (g.S.Source.left c.args.source.now) (g.T.Sink.got c.args.sink.now) (g.P.Picker.told c.args.picker.now) (g.L.Link.told c.args.link.now) (g.Z.ZoneFiles.faults c.args.zones.now) in
    record {
      underway = underway_first (g.K.Keeper.held c.args.keeper.now) (g.Z.ZoneFiles.told c.args.zones.now) told c.requires.started;
      zones = refl;
      latest = c.requires.latest;
      late = omega arith;
      supply = omega arith;
      fresh = λ none. refl;
      small = λ some. absurd (omega (arith, some));
      read = omega arith;
      written = omega arith;
    }

pub requests-preserved : goal.requests-preserved
requests-preserved g c =
    let old : Told = tells (g.S.Source.left c.args.source.now) (g.T.Sink.got c.args.sink.now) (g.P.Picker.told c.args.picker.now) (g.L.Link.told c.args.link.now) (g.Z.ZoneFiles.faults c.args.zones.now) in
    let mid : Told = tells (g.S.Source.left c.requests.source) (g.T.Sink.got c.requests.sink) (g.P.Picker.told c.requests.picker) (g.L.Link.told c.requests.link) (g.Z.ZoneFiles.faults c.requests.zones) in
    let new : Told = tells (g.S.Source.left c.read_request.new.source) (g.T.Sink.got c.answer_request.new.sink) (g.P.Picker.told c.answer_request.new.picker) (g.L.Link.told c.answer_request.new.link) (g.Z.ZoneFiles.faults c.answer_request.new.zones) in
    let takes = rw c.in-Ok-Some.field-0-is at c.in-Ok-Some.ensures.found in
    let took = rw c.in-Ok-Some.field-0-is at c.in-Ok-Some.ensures.took in
    let u = c.requests.invariant.underway in
    let answered = rw c.requests.invariant.zones at c.in-Ok.ensures.answered in
    record {
      underway = underway_more (g.K.Keeper.held c.requests.keeper) (g.K.Keeper.held c.answer_request.new.keeper) (g.Z.ZoneFiles.told c.args.zones.now) _ beginning _ _ old mid new _ u takes
          (answered u.since u.after u.stands u.free);
      zones = cc;
      latest = c.in-Ok.ensures.latest;
      late = c.in-Ok.ensures.now;
      supply = omega (arith, took, c.requests.invariant.supply);
      fresh = λ none. absurd (omega (arith, none));
      small = λ some. small_at_start _ _ _ c.in-Ok-Some.ensures.started c.requests.invariant.fresh c.requests.invariant.small;
      read = omega (arith, c.requests.invariant.read, c.in-Ok-Some.ensures.later);
      written = omega (arith, c.requests.invariant.written, c.in-Ok.ensures.cause.later);
    }

pub returns-in-Err-clause-ends : goal.returns-in-Err-clause-ends
returns-in-Err-clause-ends g c =
    let old : Told = tells (g.S.Source.left c.args.source.now) (g.T.Sink.got c.args.sink.now) (g.P.Picker.told c.args.picker.now) (g.L.Link.told c.args.link.now) (g.Z.ZoneFiles.faults c.args.zones.now) in
    let mid : Told = tells (g.S.Source.left c.requests.source) (g.T.Sink.got c.requests.sink) (g.P.Picker.told c.requests.picker) (g.L.Link.told c.requests.link) (g.Z.ZoneFiles.faults c.requests.zones) in
    let new : Told = tells (g.S.Source.left c.read_request.new.source) (g.T.Sink.got c.answer_request.new.sink) (g.P.Picker.told c.answer_request.new.picker) (g.L.Link.told c.answer_request.new.link) (g.Z.ZoneFiles.faults c.answer_request.new.zones) in
    let takes = rw c.in-Ok-Some.field-0-is at c.in-Ok-Some.ensures.found in
    let u = c.requests.invariant.underway in
    let cut = rw c.requests.invariant.zones at c.in-Err.ensures.answered in
    cut_answer (g.K.Keeper.held c.requests.keeper) (g.K.Keeper.held c.answer_request.new.keeper) (g.Z.ZoneFiles.told c.args.zones.now) _ beginning _ _ old mid new _
    c.legal_histories_hold.ensures (c.requires.memory.legal c.answer_request.new.keeper) (c.requires.memory.valid c.answer_request.new.keeper) u takes
    (cut u.since u.after u.stands u.free)

pub returns-in-Err-Unframed-clause-ends : goal.returns-in-Err-Unframed-clause-ends
returns-in-Err-Unframed-clause-ends g c =
    let old : Told = tells (g.S.Source.left c.args.source.now) (g.T.Sink.got c.args.sink.now) (g.P.Picker.told c.args.picker.now) (g.L.Link.told c.args.link.now) (g.Z.ZoneFiles.faults c.args.zones.now) in
    let mid : Told = tells (g.S.Source.left c.requests.source) (g.T.Sink.got c.requests.sink) (g.P.Picker.told c.requests.picker) (g.L.Link.told c.requests.link) (g.Z.ZoneFiles.faults c.requests.zones) in
    let none = rw c.in-Err-Unframed.field-0-is at c.in-Err-Unframed.ensures.unframed in
    let part = rw c.in-Err-Unframed.field-0-is at c.in-Err-Unframed.ensures.part in
    refusal_ends (g.K.Keeper.held c.requests.keeper) (g.Z.ZoneFiles.told c.args.zones.now) c.requests.number beginning _ old mid (g.S.Source.left c.read_request.new.source) (g.T.Sink.got c.answer_unframed.new.sink) c.length.result c.answer_unframed.result
    c.legal_histories_hold.ensures (c.requires.memory.legal c.requests.keeper) (c.requires.memory.valid c.requests.keeper) c.requests.invariant.underway
    (λ since h stands. c.length.ensures h (c.book.ensures.stands since h stands)) (none refl) (part (λ p. cc p)) c.answer_unframed.ensures.ends
