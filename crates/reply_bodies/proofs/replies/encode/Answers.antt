use Rattle.std.proofs.Common.{◌≡◌, ◌∙◌, ap, rules}
use Rattle.reply_bodies.specs.Bodies.{body_of}
use Rattle.reply_bodies.proofs.Writes.{body_of-reply_to}
use Rattle.reply_bodies.proofs.replies.encode.Goals as goal

pub returns-clause-write : goal.returns-clause-write
returns-clause-write c write answers =
    let body : c.into_bytes.result.items ≡ body_of c.args.reply.now = search rules in
    body ∙ ap body_of answers ∙ body_of-reply_to write
