use Rattle.std.proofs.Common.{◌∙◌, option_map}
use Rattle.sched_rows.specs.State.{rows_in}
use Rattle.sched_rows.proofs.NextLemmas.{next_found}
use Rattle.sched_rows.proofs.by_number.next_living.Goals as goal

pub returns : goal.returns
returns c =
    c.first_of.ensures ∙ next_found (rows_in c.args.rows.now) c.args.numbers.now (option_map (λ g. g.now) c.args.group) c.args.after c.place_above-place.result c.requires c.place_above-place.ensures
