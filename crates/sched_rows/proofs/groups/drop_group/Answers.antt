use Rattle.std.proofs.Common.{not, rules}
use Rattle.std.proofs.lemmas.Fn.{filter_same}
use Rattle.sched_plain.specs.Groups.{is_named}
use Rattle.sched_rows.proofs.groups.drop_group.Goals as goal

pub returns : goal.returns
returns c = filter_same _ (λ group. not (is_named c.args.name.now group)) _ (λ x b f' t. search rules) _ _ c.retain.ensures.filtered
