use Rattle.std.proofs.Common.{refl}
use Rattle.std.specs.Fmt.{digits}
use Rattle.http_wire.specs.Response.{response_text, error_name}
use Rattle.http_wire.proofs.refusal.memory_response.Goals as goal

pub returns : goal.returns
unfolding digits response_text error_name
returns c = refl
