use Rattle.std.proofs.Common.{refl}
use Rattle.zone_occ.specs.Sides.{sides}
use Rattle.zone_occ.proofs.SidesLemmas.{rule_answer, table_answer}
use Rattle.zone_occ.proofs.conversion.offsets_at.Goals as goal

pub returns-in-Utc : goal.returns-in-Utc
unfolding sides
returns-in-Utc c = rw c.in-Utc.is refl

pub returns-in-Rule : goal.returns-in-Rule
returns-in-Rule c =
    rw (c.in-Rule.is, c.to_ambiguous_offset.ensures) (rule_answer c.in-Rule.rule c.args.datetime c.requires)

pub returns-in-Table : goal.returns-in-Table
returns-in-Table c =
    rw (c.in-Table.is, c.to_ambiguous_offset-in-Table.ensures)
    (table_answer c.in-Table.table c.args.datetime c.requires)
