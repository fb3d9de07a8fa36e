use Rattle.std.proofs.Common.{append_assoc}
use Rattle.target_link.proofs.request.put_content.Goals as goal

pub returns : goal.returns
returns c = simp (c.in_ok-put_length.ensures, c.in_ok-put_header.ensures, append_assoc)
