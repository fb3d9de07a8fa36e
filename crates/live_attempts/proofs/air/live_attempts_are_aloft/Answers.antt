use Rattle.live_attempts.proofs.Aloft.{live_are_aloft}
use Rattle.live_attempts.proofs.air.live_attempts_are_aloft.Goals as goal

pub returns : goal.returns
returns c = live_are_aloft
