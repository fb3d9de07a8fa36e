use Rattle.target_link.specs.Attempt.{request_text}
use Rattle.target_link.proofs.request.request_of.Goals as goal

pub returns : goal.returns
unfolding request_text
returns c =
    rw (c.as_bytes.ensures.value, c.as_bytes-2.ensures.value, c.in_ok-number.ensures.ok, c.time_text-time.ensures, c.print_id-id.ensures) at c.request_with.ensures
