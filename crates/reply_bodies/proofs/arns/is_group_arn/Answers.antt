use Rattle.std.proofs.lemmas.Str.Pattern.{starts_text}
use Rattle.reply_bodies.specs.declared.arns.TheConstants.{GROUP_ARN}
use Rattle.reply_bodies.proofs.arns.is_group_arn.Goals as goal

pub returns : goal.returns
returns c = starts_text c.starts_with.result GROUP_ARN.now c.args.arn.now c.starts_with.ensures.cases
