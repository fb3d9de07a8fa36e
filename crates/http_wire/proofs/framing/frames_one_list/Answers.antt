use Rattle.http_wire.proofs.FrameLemmas.{holds_one_list}
use Rattle.http_wire.proofs.framing.frames_one_list.Goals as goal

pub returns : goal.returns
returns c = holds_one_list
