use Rattle.reply_bodies.proofs.BodiesOnExamples.{body_rows}
use Rattle.reply_bodies.proofs.examples.bodies_on_examples.Goals as goal

pub returns : goal.returns
returns c = body_rows
