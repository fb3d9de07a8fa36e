use Rattle.request_calls.proofs.decoding.decode.Goals as goal

pub returns-clause-value : goal.returns-clause-value
returns-clause-value c =
    rw (c.path_in.ensures, c.query_in.ensures, c.as_bytes-target.ensures, c.as_bytes.ensures, c.as_bytes-2.ensures) at c.call_with.ensures.value
