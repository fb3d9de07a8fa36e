use Rattle.std.proofs.Common.{[]}
use Rattle.step_codec.specs.Payload.{content_cells, named_cells}
use Rattle.step_codec.proofs.RuleLaws.{content_room}
use Rattle.step_codec.proofs.Spellings.{two_parts}
use Rattle.step_codec.proofs.put_change.put_named_content.Goals as goal

pub put_content-requires-clause-lengths : goal.put_content-requires-clause-lengths
put_content-requires-clause-lengths c = content_room c.args.content.now c.requires.valid

pub returns-clause-bytes : goal.returns-clause-bytes
returns-clause-bytes c =
    rw (c.put_content.ensures.bytes, c.put_names.ensures.bytes, c.name_bytes.ensures.value, c.name_bytes-2.ensures.value)
    (two_parts c.args.into.now.bytes (named_cells c.args.kind c.args.token.now c.args.group.now c.args.name.now []) (content_cells c.args.content.now))
