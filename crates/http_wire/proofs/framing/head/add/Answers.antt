use Rattle.http_wire.proofs.HeadLemmas.{unfinished, complete}
use Rattle.http_wire.proofs.framing.head.add.Goals as goal

pub returns-then-byte-ne10-clause-more : goal.returns-then-byte-ne10-clause-more
returns-then-byte-ne10-clause-more c = λ _. rw c.in_ok-push.ensures.items (unfinished _ _ c.requires c.if-byte-ne10.true)

pub returns-clause-whole : goal.returns-clause-whole
returns-clause-whole c = λ is.
    let found = rw (c.deref.ensures.value, c.in_ok-push.ensures.items) at (c.look_at.ensures.whole is) in
    rw c.in_ok-push.ensures.items (complete _ _ c.requires found)
