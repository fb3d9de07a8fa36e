use Rattle.std.proofs.Common.{◌∙◌, ap}
use Rattle.std.specs.Prelude.{is_some}
use Rattle.read_replies.proofs.GroupLemmas.{created_where_there}
use Rattle.read_replies.proofs.groups.has_group.Goals as goal

pub returns : goal.returns
returns c = c.is_some.ensures ∙ ap is_some c.group.ensures ∙ created_where_there c.args.rows.now.groups c.args.name.now
