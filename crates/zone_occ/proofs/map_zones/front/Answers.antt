use Rattle.std.proofs.Common.{arith, sym}
use Rattle.std.proofs.lemmas.List.{take_all, length-take}
use Rattle.zone_occ.specs.declared.zone_files.TheConstants.{LONGEST_ANSWER}
use Rattle.zone_occ.proofs.map_zones.front.Goals as goal

pub returns-then-bytes-le-LONGEST_ANSWER-clause-front : goal.returns-then-bytes-le-LONGEST_ANSWER-clause-front
returns-then-bytes-le-LONGEST_ANSWER-clause-front c = sym (take_all LONGEST_ANSWER c.args.bytes.now (omega arith))

pub slice_bounds-result-end : goal.slice_bounds-result-end
slice_bounds-result-end c = sym (rw length-take (omega arith))

pub returns-clause-short : goal.returns-clause-short
returns-clause-short c = rw length-take (omega arith)
