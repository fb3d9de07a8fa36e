use Rattle.std.proofs.Common.{append_assoc}
use Rattle.target_link.proofs.request.put_attempt.Goals as goal

pub returns : goal.returns
returns c =
    simp (c.in_ok-put_header-4.ensures, c.in_ok-put_header-3.ensures, c.in_ok-put_header-2.ensures, c.in_ok-put_header.ensures, append_assoc)
