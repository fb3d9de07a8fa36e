use Rattle.request_fields.proofs.Soundness.{read_sound}
use Rattle.serde_json.specs.View.{view}
use Rattle.request_fields.proofs.content.read_content.Goals as goal

pub returns-clause-sound : goal.returns-clause-sound
returns-clause-sound c = read_sound (view c.args.body.now) c.read_parts.result c.read_parts.ensures.value c.read_parts.ensures.spells
